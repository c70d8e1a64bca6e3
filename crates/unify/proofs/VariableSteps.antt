-- A search for the variables in a type takes a handle, and looks at its parts.
use Rattle.std.proofs.Common.{◌≡◌, ℕ, ◌<◌, suc, zero, Contains, ◌⊎◌, inl, inr, Option, None, Some, List, [], ◌∷◌, ◌++◌, Bool, true, length, get_or, refl, sym, subst, ap, ◌∙◌, arith}
use Rattle.std.proofs.Common.{Result, Ok, Err, IfOk}
use Rattle.tt_kinds.specs.Tree.{Depth, Tree, term, none, also}
use Rattle.tt_kinds.specs.Kinds.{handle_shape, region_shape, ty_shape}
use Rattle.tt_kinds.specs.declared.region_kind.RegionKind.{RegionKind}
use Rattle.tt_kinds.specs.declared.region_kind.RegionKind.TheVariants.{ReBound, ReEarlyParam}
use Rattle.tt_kinds.specs.Handle.{Ty}
use Rattle.tt_kinds.specs.TermTable.{term_table}
use Rattle.tt_kinds.specs.declared.handle.AnyHandle.{AnyHandle}
use Rattle.tt_kinds.specs.declared.parts.Child.{Child}
use Rattle.tt_interner.specs.Rows.{Row, meaning, size, AreRows}
use Rattle.tt_interner.proofs.Trees.{distinct}
use Rattle.tt_kinds.specs.declared.table.Table.TheVariants.{Types}
use Rattle.tt_kinds.specs.declared.table.TermTable.TheVariants as terms_of
use Rattle.unify.proofs.RootLaws.{table_one}
use Rattle.unify.proofs.PairMismatches.{variable_root}
use Rattle.tt_interner.specs.Stored.{Terms}
use Rattle.tt_fold.specs.Steps.{tree_in}
use Rattle.unify.specs.Pairs.{child_trees}
use Rattle.unify.specs.Substitution.{variable_in, variable_of, AreWithout, IsWithout}
use Rattle.unify.proofs.OccursLaws.{IsProper}
use Rattle.std.proofs.lemmas.Bool.{cases_Bool, cases_order}
use Rattle.std.proofs.lemmas.Option.{same_Some}
use Rattle.std.proofs.lemmas.List.Elements.{Contains-append_left, Contains-append_right, Contains-append_cases}
use Rattle.std.specs.List.{list_any}
use Rattle.indexmap.specs.IndexSet.{insert_key}
use Rattle.unify.specs.Triangular.{weight, Holds}
use Rattle.tt_kinds.specs.Shape.{Meaning, fill}
use Rattle.tt_kinds.specs.declared.parts.Child.TheVariants as child
use Rattle.unify.proofs.SubstitutionLaws.{first_tree}
use Rattle.unify.specs.Variables.{PushesChild, PushesParts, ListsAll, ListsBelow, AreStored, TreeIn, TypeTreeIn, Visits}

-- no variable is in a region
region_without : (m : Meaning) (r : RegionKind) (v : ℕ) → IsWithout v (fill m (region_shape r))
unfolding fill
region_without m (ReBound i b) v = tt
region_without m (ReEarlyParam p) v = tt
region_without m r v = tt

-- a variable alone lists itself
variable_listed : (all : List ℕ) (t : Tree Depth) (v : ℕ) → IsProper t → variable_in t ≡ Some v → Contains all v → ListsAll all t
variable_listed all (term l ts) v proper is at w = elim (cases_order w v) [
  | inl same ↦ inl (subst (Contains all) (sym same) at)
  | inr apart ↦ inr (other apart, subst (AreWithout w) (sym (proper.0 v is)) tt)
]
  where
    other : (w < v) ⊎ (v < w) → variable_of l ≡ Some w → ⊥
    other (inl before) held = let equal : w ≡ v = same_Some w v (sym held ∙ is) in omega (arith, before, equal)
    other (inr after) held = let equal : w ≡ v = same_Some w v (sym held ∙ is) in omega (arith, after, equal)
variable_listed all t v proper is at w = absurd (cc)

-- and is in itself
pub variable_held : (t : Tree Depth) (v w : ℕ) → variable_in t ≡ Some v → w ≡ v → IsWithout w t → ⊥
variable_held (term l ts) v w is same without = without.0 (is ∙ ap (λ u. Some u) (sym same))
variable_held t v w is same without = absurd (cc)

only_item : (v w : ℕ) → Contains (v ∷ []) w → w ≡ v
only_item v w at = by at.0 at.1 at.2
  where
    by : (k : ℕ) → k < length (v ∷ []) → get_or (v ∷ []) k w ≡ w → w ≡ v
    by zero within is = sym is
    by (suc k) within is = absurd (omega (arith, within))

-- a list of the variable that a type is lists the variables in the type
module _ {T E : Type 0} (items : T → List ℕ) (t : Tree Depth) (v : ℕ) (proper : IsProper t)
    (is : variable_in t ≡ Some v) where
  pub single_listed : (r : Result T E) → IfOk r (λ f. items f ≡ v ∷ []) → IfOk r (λ f. ListsAll (items f) t)
  single_listed (Ok f) one =
      subst (λ vs. ListsAll vs t) (sym one) (variable_listed (v ∷ []) t v proper is (0, omega arith, refl))
  single_listed (Err e) one = tt

  pub single_held : (r : Result T E) → IfOk r (λ f. items f ≡ v ∷ [])
      → IfOk r (λ f. (w : ℕ) → Contains (items f) w → Holds w t)
  single_held (Ok f) one = λ w at. variable_held t v w is (only_item v w (subst (λ vs. Contains vs w) one at))
  single_held (Err e) one = tt

-- only a type's row is a variable
pub other_plain : (rows : List Row) → AreRows rows → (n : AnyHandle) → n.number < size rows (term_table n.table)
    → (n.table ≡ terms_of.Types → ⊥) → variable_in (tree_in rows (handle_shape n)) ≡ None
unfolding fill
other_plain rows are n inside other = by (variable_in (tree_in rows (handle_shape n))) refl
  where
    by : (o : Option ℕ) → variable_in (tree_in rows (handle_shape n)) ≡ o → variable_in (tree_in rows (handle_shape n)) ≡ None
    by None is = is
    by (Some v) is =
        absurd (other (table_one n.table terms_of.Types (same_Some (term_table n.table) Types
        (sym ((distinct rows are).roots (term_table n.table) n.number inside) ∙ variable_root (tree_in rows (handle_shape n)) v is))))

module _ (terms : Terms) where
  -- a handle that is pushed is stored, and its tree is one of the trees
  pub stored_pushed : (hs : List AnyHandle) (h : AnyHandle) → AreStored terms hs → h.number < size terms.rows (term_table h.table)
      → AreStored terms (hs ++ h ∷ [])
  stored_pushed [] h all own = (own, tt)
  stored_pushed (g ∷ hs) h all own = (all.0, stored_pushed hs h all.1 own)

  -- and one that is popped
  pub stored_popped : (hs : List AnyHandle) (h : AnyHandle) → AreStored terms (hs ++ h ∷ [])
      → AreStored terms hs × (h.number < size terms.rows (term_table h.table))
  stored_popped [] h all = (tt, all.0)
  stored_popped (g ∷ hs) h all = let rest = stored_popped hs h all.1 in ((all.0, rest.0), rest.1)

  pub tree_kept : (hs : List AnyHandle) (h : AnyHandle) (t : Tree Depth) → TreeIn terms hs t → TreeIn terms (hs ++ h ∷ []) t
  tree_kept [] h t there = absurd there
  tree_kept (g ∷ hs) h t (inl is) = inl is
  tree_kept (g ∷ hs) h t (inr there) = inr (tree_kept hs h t there)

  pub tree_pushed : (hs : List AnyHandle) (h : AnyHandle) → TreeIn terms (hs ++ h ∷ []) (tree_in terms.rows (handle_shape h))
  tree_pushed [] h = inl refl
  tree_pushed (g ∷ hs) h = inr (tree_pushed hs h)

  pub tree_popped : (hs : List AnyHandle) (h : AnyHandle) (t : Tree Depth) → TreeIn terms (hs ++ h ∷ []) t
      → TreeIn terms hs t ⊎ (t ≡ tree_in terms.rows (handle_shape h))
  tree_popped [] h t (inl is) = inr is
  tree_popped [] h t (inr no-one) = absurd no-one
  tree_popped (g ∷ hs) h t (inl is) = inl (inl is)
  tree_popped (g ∷ hs) h t (inr there) = elim (tree_popped hs h t there) [ inl old ↦ inl (inr old) | inr own ↦ inr own ]

  pub type_kept : (tys : List Ty) (ty : Ty) (t : Tree Depth) → TypeTreeIn terms tys t → TypeTreeIn terms (tys ++ ty ∷ []) t
  type_kept [] ty t there = absurd there
  type_kept (x ∷ tys) ty t (inl is) = inl is
  type_kept (x ∷ tys) ty t (inr there) = inr (type_kept tys ty t there)

  pub type_pushed : (tys : List Ty) (ty : Ty) → TypeTreeIn terms (tys ++ ty ∷ []) (tree_in terms.rows (ty_shape ty))
  type_pushed [] ty = inl refl
  type_pushed (x ∷ tys) ty = inr (type_pushed tys ty)

  pub type_popped : (tys : List Ty) (ty : Ty) (t : Tree Depth) → TypeTreeIn terms (tys ++ ty ∷ []) t
      → TypeTreeIn terms tys t ⊎ (t ≡ tree_in terms.rows (ty_shape ty))
  type_popped [] ty t (inl is) = inr is
  type_popped [] ty t (inr no-one) = absurd no-one
  type_popped (x ∷ tys) ty t (inl is) = inl (inl is)
  type_popped (x ∷ tys) ty t (inr there) = elim (type_popped tys ty t there) [ inl old ↦ inl (inr old) | inr own ↦ inr own ]

  -- a child that is a row is pushed
  pub pushes_row : (old : List AnyHandle) (h : AnyHandle) → AreStored terms old → h.number < size terms.rows (term_table h.table)
      → PushesChild terms old (child.Stored h) (old ++ h ∷ [])
  unfolding fill
  pushes_row old h all own = record {
    stored = stored_pushed old h all own;
    keeps = tree_kept old h;
    lists = λ found n below t is few.
        let same : tree_in terms.rows (handle_shape h) ≡ t = ap (first_tree t) is in
        subst (ListsAll found) same (below (tree_in terms.rows (handle_shape h)) (tree_pushed old h) (subst (λ u. weight u < n) (sym same) few));
    from = λ t at. elim (tree_popped old h t at) [
      | inl before ↦ inl before
      | inr own-tree ↦ inr (subst (λ u. child_trees terms (child.Stored h) ≡ also u none) (sym own-tree) refl)
    ];
  }

  -- and another one isn't
  pub pushes_nothing : (old : List AnyHandle) (c : Child) → AreStored terms old → ((h : AnyHandle) → c ≡ child.Stored h → ⊥)
      → PushesChild terms old c old
  unfolding fill
  pushes_nothing old (child.Stored h) all other = absurd (other h refl)
  pushes_nothing old child.Absent all other = record {
    stored = all;
    keeps = λ t at. at;
    lists = λ found n below t is few. absurd (cc);
    from = λ t at. inl at;
  }
  pushes_nothing old (child.Region r) all other = record {
    stored = all;
    keeps = λ t at. at;
    lists = λ found n below t is few. subst (ListsAll found) (ap (first_tree t) is) (λ v. inr (region_without (meaning terms.rows) r v));
    from = λ t at. inl at;
  }

  -- one step: a handle is taken, and what is pending, seen and found becomes more
  module _ (root : Tree Depth) (rest : List AnyHandle) (h : AnyHandle) (seen : List Ty) (found : List ℕ)
      (pending : List AnyHandle) (seen' : List Ty) (found' : List ℕ)
      (visits : Visits terms root (rest ++ h ∷ []) seen found)
      (grows : (v : ℕ) → Contains found v → Contains found' v)
      (kept : (t : Tree Depth) → TreeIn terms rest t → TreeIn terms pending t)
      (seen_kept : (t : Tree Depth) → TypeTreeIn terms seen t → TypeTreeIn terms seen' t)
      (taken : (all : List ℕ) → ((v : ℕ) → Contains found' v → Contains all v) → (n : ℕ)
      → ListsBelow all n (TreeIn terms pending) → ListsBelow all n (TypeTreeIn terms seen')
      → weight (tree_in terms.rows (handle_shape h)) < n → ListsAll all (tree_in terms.rows (handle_shape h)))
      (noted : (all : List ℕ) → ((v : ℕ) → Contains found' v → Contains all v) → (n : ℕ)
      → ListsBelow all n (TreeIn terms pending) → ListsBelow all n (TypeTreeIn terms seen')
      → (t : Tree Depth) → TypeTreeIn terms seen' t
      → TypeTreeIn terms seen t ⊎ (weight t < suc n → ListsAll all t))
      (new : (v : ℕ) → Contains found' v → Contains found v ⊎ Holds v (tree_in terms.rows (handle_shape h)))
      (from : (t : Tree Depth) → TreeIn terms pending t
      → TreeIn terms rest t ⊎ ((v : ℕ) → IsWithout v (tree_in terms.rows (handle_shape h)) → IsWithout v t)) where
    below : (all : List ℕ) → ((v : ℕ) → Contains found' v → Contains all v) → (n : ℕ)
        → ListsBelow all n (TreeIn terms pending) → ListsBelow all n (TypeTreeIn terms seen')
        → ListsBelow all n (TreeIn terms (rest ++ h ∷ []))
    below all more n of_pending of_seen t there few = elim (tree_popped rest h t there) [
      | inl old ↦ of_pending t (kept t old) few
      | inr own ↦ subst (ListsAll all) (sym own) (taken all more n of_pending of_seen (subst (λ u. weight u < n) own few))
    ]

    pub step_visits : Visits terms root pending seen' found'
    step_visits = record {
      rests = λ all more n of_pending of_seen t there few. elim (noted all more n of_pending of_seen t there) [
        | inl old ↦ visits.rests all (λ v at. more v (grows v at)) n (below all more n of_pending of_seen)
            (λ u at. of_seen u (seen_kept u at)) t old few
        | inr lists ↦ lists few
      ];
      begins = λ all more of_pending of_seen. visits.begins all (λ v at. more v (grows v at))
          (λ n. below all more n (of_pending n) (of_seen n)) (λ n u at. of_seen n u (seen_kept u at));
      only = λ v at. elim (new v at) [
        | inl old ↦ visits.only v old
        | inr holds ↦ λ without. holds (visits.within (tree_in terms.rows (handle_shape h)) (tree_pushed rest h) v without)
      ];
      within = λ t at v without. elim (from t at) [
        | inl old ↦ visits.within t (tree_kept rest h t old) v without
        | inr part ↦ part v (visits.within (tree_in terms.rows (handle_shape h)) (tree_pushed rest h) v without)
      ];
    }

  -- a row that is no type is taken apart
  pub visits_row : (root : Tree Depth) (rest : List AnyHandle) (h : AnyHandle) (seen : List Ty) (found : List ℕ) (pending : List AnyHandle)
      → PushesParts terms rest (tree_in terms.rows (handle_shape h)) pending
      → Visits terms root (rest ++ h ∷ []) seen found → Visits terms root pending seen found
  visits_row root rest h seen found pending pushed visits =
      step_visits root rest h seen found pending seen found visits (λ v at. at) pushed.keeps (λ t at. at)
      (λ all more n of_pending of_seen few. pushed.lists all n (omega (arith, few)) of_pending)
      (λ all more n of_pending of_seen t at. inl at) (λ v at. inl at) pushed.from

  -- a row without variables is passed over
  pub visits_over : (root : Tree Depth) (rest : List AnyHandle) (h : AnyHandle) (seen : List Ty) (found : List ℕ)
      → ((v : ℕ) → IsWithout v (tree_in terms.rows (handle_shape h)))
      → Visits terms root (rest ++ h ∷ []) seen found → Visits terms root rest seen found
  visits_over root rest h seen found without visits =
      step_visits root rest h seen found rest seen found visits (λ v at. at) (λ t at. at) (λ t at. at)
      (λ all more n of_pending of_seen few v. inr (without v))
      (λ all more n of_pending of_seen t at. inl at) (λ v at. inl at) (λ t at. inl at)

  -- a type that is noted as seen
  module _ (eq : Ty → Ty → Bool) (exact : (a b : Ty) → eq a b ≡ true → a ≡ b) (ty : Ty) where
    abbrev own : Tree Depth
    own = tree_in terms.rows (ty_shape ty)

    there : (tys : List Ty) → list_any (eq ty) tys ≡ true → TypeTreeIn terms tys own
    there [] known = absurd (cc)
    there (x ∷ tys) known = elim (cases_Bool (eq ty x)) [
      | inl alike ↦ inl (ap (λ a. tree_in terms.rows (ty_shape a)) (exact ty x alike))
      | inr other ↦ inr (there tys (rw other at known))
    ]

    seen_own : (tys : List Ty) → TypeTreeIn terms (insert_key eq tys ty) own
    seen_own tys = elim (cases_Bool (list_any (eq ty) tys)) [
      | inl known ↦ rw known (there tys known)
      | inr new ↦ rw new (type_pushed tys ty)
    ]

    seen_others : (tys : List Ty) (t : Tree Depth) → TypeTreeIn terms tys t → TypeTreeIn terms (insert_key eq tys ty) t
    seen_others tys t at = elim (cases_Bool (list_any (eq ty) tys)) [
      | inl known ↦ rw known at
      | inr new ↦ rw new (type_kept tys ty t at)
    ]

    seen_back : (tys : List Ty) (t : Tree Depth) → TypeTreeIn terms (insert_key eq tys ty) t → TypeTreeIn terms tys t ⊎ (t ≡ own)
    seen_back tys t at = elim (cases_Bool (list_any (eq ty) tys)) [
      | inl known ↦ inl (rw known at at)
      | inr new ↦ type_popped tys ty t (rw new at at)
    ]

    module _ (root : Tree Depth) (rest : List AnyHandle) (h : AnyHandle) (seen : List Ty) (found : List ℕ)
        (same : tree_in terms.rows (handle_shape h) ≡ own) (visits : Visits terms root (rest ++ h ∷ []) seen found) where
      -- a type that was seen before
      pub visits_again : list_any (eq ty) seen ≡ true → Visits terms root rest (insert_key eq seen ty) found
      visits_again known =
          step_visits root rest h seen found rest (insert_key eq seen ty) found visits (λ v at. at) (λ t at. at) (seen_others seen)
          (λ all more n of_pending of_seen few. subst (ListsAll all) (sym same) (of_seen own (seen_own seen) (subst (λ u. weight u < n) same few)))
          (λ all more n of_pending of_seen t at. elim (seen_back seen t at) [
            | inl old ↦ inl old
            | inr is ↦ inl (subst (TypeTreeIn terms seen) (sym is) (there seen known))
          ]) (λ v at. inl at) (λ t at. inl at)

      -- a new type that is no variable
      pub visits_parts : (pending : List AnyHandle) → PushesParts terms rest (tree_in terms.rows (handle_shape h)) pending
          → Visits terms root pending (insert_key eq seen ty) found
      visits_parts pending pushed =
          step_visits root rest h seen found pending (insert_key eq seen ty) found visits (λ v at. at) pushed.keeps (seen_others seen)
          (λ all more n of_pending of_seen few. subst (ListsAll all) (sym same) (of_seen own (seen_own seen) (subst (λ u. weight u < n) same few)))
          (λ all more n of_pending of_seen t at. elim (seen_back seen t at) [
            | inl old ↦ inl old
            | inr is ↦ inr (λ few. subst (ListsAll all) (same ∙ sym is) (pushed.lists all n (subst (λ u. weight u < suc n) (is ∙ sym same) few) of_pending))
          ]) (λ v at. inl at) pushed.from

      -- a variable
      pub visits_variable : (v : ℕ) → IsProper own → variable_in own ≡ Some v
          → Visits terms root rest (insert_key eq seen ty) (found ++ v ∷ [])
      visits_variable v proper is-one =
          step_visits root rest h seen found rest (insert_key eq seen ty) (found ++ v ∷ []) visits
          (λ w at. Contains-append_left found (v ∷ []) w at) (λ t at. at) (seen_others seen)
          (λ all more n of_pending of_seen few. subst (ListsAll all) (sym same) (of_seen own (seen_own seen) (subst (λ u. weight u < n) same few)))
          (λ all more n of_pending of_seen t at. elim (seen_back seen t at) [
            | inl old ↦ inl old
            | inr is ↦ inr (λ few. subst (ListsAll all) (sym is) (variable_listed all own v proper is-one
                (more v (Contains-append_right found (v ∷ []) v (0, omega arith, refl)))))
          ])
          (λ w at. elim (Contains-append_cases found (v ∷ []) w at) [
            | inl old ↦ inl old
            | inr last ↦ inr (λ without. variable_held own v w is-one (only_item v w last) (subst (IsWithout w) same without))
          ]) (λ t at. inl at)

  -- at the start the root is pending
  pub visits_first : (h : AnyHandle) → Visits terms (tree_in terms.rows (handle_shape h)) (h ∷ []) [] []
  visits_first h = record {
    rests = λ all more n of_pending of_seen t there. absurd there;
    begins = λ all more of_pending of_seen. of_pending (suc (weight (tree_in terms.rows (handle_shape h)))) (tree_in terms.rows (handle_shape h)) (inl refl) (omega arith);
    only = λ v at. absurd (omega (arith, at.1));
    within = λ t at v without. elim at [ inl is ↦ subst (IsWithout v) (sym is) without | inr no-one ↦ absurd no-one ];
  }

  -- in the end each variable is found
  pub visits_last : (root : Tree Depth) (seen : List Ty) (found : List ℕ) → Visits terms root [] seen found → ListsAll found root
  visits_last root seen found visits =
      visits.begins found (λ v at. at) (λ n t there few. absurd there) all_seen
    where
      all_seen : (n : ℕ) → ListsBelow found n (TypeTreeIn terms seen)
      all_seen zero t there few = absurd (omega (arith, few))
      all_seen (suc n) t there few = visits.rests found (λ v at. at) n (λ u no-one less. absurd no-one) (all_seen n) t there few
