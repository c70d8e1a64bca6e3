-- The steps of a comparison: what each one binds, notes and pushes.
use Rattle.std.proofs.Common.{◌≡◌, refl, ℕ, ◌<◌, ◌≤◌, List, [], ◌∷◌, ◌++◌, length, set, get_or, drop, take, Option, Some}
use Rattle.std.proofs.Common.{None, Bool, true, false, ◌&&◌, sym, subst, ap, ◌∙◌, ◌⊎◌, inl, inr, Contains, arith}
use Rattle.std.specs.List.{list_any}
use Rattle.std.proofs.Common.{zero, suc, nat_eq, IsTrue, IfErr, OnOk, Result, Ok, Err, ◌↔◌}
use Rattle.std.proofs.lemmas.Bool.{eqb-true, false≢true, true≢false}
use Rattle.std.proofs.lemmas.Bool.{cases_eq, cases_Bool}
use Rattle.std.proofs.lemmas.List.{drop_all, drop-append-le, length-append, length-set, take-append-le}
use Rattle.std.proofs.Math.Seq.{take-length}
use Rattle.std.proofs.lemmas.List.Elements.{Contains-append_left, Contains-append_right}
use Rattle.indexmap.specs.IndexSet.{insert_key}
use Rattle.tt_kinds.specs.Tree as tree
use Rattle.tt_kinds.specs.Tree.{Depth, Tree}
use Rattle.tt_kinds.specs.Shape.{fill}
use Rattle.tt_kinds.specs.Kinds.{handle_shape, ty_shape}
use Rattle.tt_kinds.specs.Values.{option_shape}
use Rattle.tt_kinds.specs.Handle.{Ty}
use Rattle.tt_kinds.specs.declared.parts.Child.TheVariants as child
use Rattle.tt_kinds.specs.declared.table.Table.TheVariants.{Types}
use Rattle.tt_kinds.specs.declared.handle.AnyHandle.{AnyHandle}
use Rattle.tt_kinds.specs.declared.parts.Child.{Child}
use Rattle.tt_kinds.specs.contracts.parts.ChildPartialEq.TheImpl as children
use Rattle.tt_kinds.specs.contracts.table.TermTablePartialEq.TheImpl as tables
use Rattle.tt_kinds.proofs.EqualityLaws.{both, handle_eq, handle_exact, region_exact}
use Rattle.tt_interner.specs.Rows.{meaning, AreRows}
use Rattle.tt_interner.specs.Laws.{AreInterned}
use Rattle.tt_interner.specs.Owned.{AreOwned, IsOwned}
use Rattle.tt_interner.specs.Stored.{Terms}
use Rattle.tt_interner.proofs.OwnedLaws.{owned_some, set_owned}
use Rattle.tt_fold.specs.Steps.{tree_in}
use Rattle.unify.specs.Substitution.{Substitution, Assignment, variable_in, assign, Solves}
use Rattle.unify.specs.Resolver.{binding}
use Rattle.unify.specs.Bindings.{table_at, table_shape, stored, with_variable, Table, KeepsEarlier}
use Rattle.unify.specs.Undo.{unbound, entries_at}
use Rattle.unify.specs.Pairs.{pair_shape, child_trees, Equates, EquatesAll, EquatesTypes, HasNoClosedSolution}
use Rattle.unify.specs.Triangular.{AreClosed, Binds, IsAcyclic, IsClosed, HasParts, AreLinked, links, is_compared, is_equal, looked_up}
use Rattle.unify.specs.Triangular.{by_parts, done, next}
use Rattle.unify.specs.Comparison.{PendingIn, ComparedIn, IsGrown, Takes, IsComparing, IsSideOf, types_pair}
use Rattle.unify.specs.declared.pairs.Pair.{Pair}
use Rattle.unify.specs.declared.comparison.Compared.{Compared}
use Rattle.unify.proofs.BindingsLaws.{set_binds}
use Rattle.unify.proofs.FormEqualities.{table_exact}
use Rattle.unify.proofs.GeneralLaws.{variable_assigned}
use Rattle.unify.proofs.LinkLaws.{links_still, proper_variable}
use Rattle.unify.proofs.OccursLaws.{type_proper}
use Rattle.unify.proofs.OwnSolution.{entry_proper}
use Rattle.unify.proofs.PairLaws.{equates_popped, pair_owned}
use Rattle.unify.proofs.TableLaws.{few}
use Rattle.unify.proofs.TriangularCycles.{escape_fails}
use Rattle.unify.proofs.TriangularLoop.{child_same, loop_begins, round_compares, types_linked}
use Rattle.unify.proofs.UndoLaws.{at_bound, at_made}
use Rattle.unify.proofs.SolutionLaws.{stored_met}
use Rattle.unify.proofs.SubstitutionLaws.{first_tree}

module _ (entries later : Substitution) (v : ℕ) (t : Tree Depth) (binds : Binds entries v t later) where
  -- an entry stays where another variable is bound
  kept_by : (w : ℕ) (r : Tree Depth) → entries w ≡ Some r → later w ≡ Some r
  kept_by w r is = binds.others w (λ same. absurd (let none = ap entries same ∙ binds.free in cc)) ∙ is

  entry_of : (w : ℕ) (r : Tree Depth) → later w ≡ Some r → (w ≡ v) ⊎ (w ≡ v → ⊥) → (entries w ≡ Some r) ⊎ (w ≡ v)
  entry_of w r is (inl same) = inr same
  entry_of w r is (inr apart) = inl (sym (binds.others w apart) ∙ is)

  solved_at : (ρ : Assignment) → Solves ρ entries → ρ v ≡ assign ρ t → (w : ℕ) (r : Tree Depth) → later w ≡ Some r
      → (w ≡ v) ⊎ (w ≡ v → ⊥) → ρ w ≡ assign ρ r
  solved_at ρ solves equal w r is (inl same) =
      let own : later v ≡ Some r = ap later (sym same) ∙ is in
      let one : t ≡ r = (let both-own = binds.own in cc) in
      ap ρ same ∙ equal ∙ ap (assign ρ) one
  solved_at ρ solves equal w r is (inr apart) = solves w r (sym (binds.others w apart) ∙ is)

  -- what solves the entries, and makes the variable and the tree equal, solves the later entries
  pub solved_further : (ρ : Assignment) → Solves ρ entries → ρ v ≡ assign ρ t → Solves ρ later
  solved_further ρ solves equal w r is = solved_at ρ solves equal w r is (cases_eq w v)

-- a table keeps what it was
pub earlier_itself : (b : Table) → KeepsEarlier b b
earlier_itself b = record { variables = omega arith; bindings = omega arith; same = λ n k within inside. refl }

-- and what it was before, where the later table does
pub earlier_further : (a b c : Table) → KeepsEarlier a b → KeepsEarlier b c → KeepsEarlier a c
earlier_further a b c first second = record {
  variables = omega (arith, first.variables, second.variables);
  bindings = omega (arith, first.bindings, second.bindings);
  same = λ n k within inside.
      second.same n k (omega (arith, within, first.variables)) (omega (arith, inside, first.bindings))
      ∙ first.same n k within inside;
}

-- also where a variable is added
pub earlier_made : (b : Table) → KeepsEarlier b (with_variable b)
earlier_made b =
    let long = length-append b.entries (None ∷ []) in
    record {
      variables = omega (arith, long);
      bindings = omega arith;
      same = λ n k within inside.
          let entries = at_made n k b.bound b.entries within in
          λ i. record { entries = entries i; bound = take k b.bound };
    }

-- a table with as many variables and as many bound ones as it has
table_itself : (b : Table) → table_at (length b.entries) (length b.bound) b ≡ b
table_itself b =
    let entries : entries_at (length b.entries) (length b.bound) b.bound b.entries ≡ b.entries =
    ap (λ vs. take (length b.entries) (unbound vs b.entries)) (drop_all (length b.bound) b.bound (omega arith))
    ∙ take-length b.entries in
    let bound : take (length b.bound) b.bound ≡ b.bound = take-length b.bound in
    λ i. record { entries = entries i; bound = bound i }

-- a later table goes back to the table that it was
pub rolled_back : (b later : Table) (n k : ℕ) → KeepsEarlier b later → n ≡ length b.entries → k ≡ length b.bound
    → table_at n k later ≡ b
rolled_back b later n k earlier variables bindings =
    ap (λ x. table_at x k later) variables ∙ ap (λ x. table_at (length b.entries) x later) bindings
    ∙ earlier.same (length b.entries) (length b.bound) (omega arith) (omega arith) ∙ table_itself b

-- the table in which the variable is bound
abbrev pub binding_table : Table → ℕ → Ty → Table
binding_table b v t = record { entries = set b.entries v (Some t); bound = b.bound ++ v ∷ [] }

module _ (terms : Terms) (are : AreRows terms.rows) (b : Table) (v : ℕ) (t : Ty)
    (owned : IsOwned table_shape terms b.entries) (own : IsOwned ty_shape terms t) (inside : v < length b.entries)
    (free : get_or b.entries v None ≡ None) (acyclic : IsAcyclic (links (stored terms b.entries)))
    (unbound : binding (stored terms b.entries) (tree_in terms.rows (ty_shape t)) ≡ None)
    (other : variable_in (tree_in terms.rows (ty_shape t)) ≡ Some v → ⊥)
    (own-closed : IsClosed (tree_in terms.rows (ty_shape t))) where
  abbrev ys : List (Option Ty)
  ys = b.entries

  abbrev zs : List (Option Ty)
  zs = set b.entries v (Some t)

  abbrev tree-of : Tree Depth
  tree-of = tree_in terms.rows (ty_shape t)

  binds : Binds (stored terms ys) v tree-of (stored terms zs)
  binds = set_binds terms ys v t inside free

  noted_by : (w : ℕ) (r : Tree Depth) → (stored terms ys w ≡ Some r) ⊎ (w ≡ v)
      → (stored terms ys w ≡ Some r) ⊎ ((k : ℕ) → k ≤ length b.bound → Contains (drop k (b.bound ++ v ∷ [])) w)
  noted_by w r (inl old) = inl old
  noted_by w r (inr same) =
      inr (λ k within. rw (drop-append-le k b.bound (v ∷ []) within)
      (subst (Contains (drop k b.bound ++ v ∷ [])) (sym same)
      (Contains-append_right (drop k b.bound) (v ∷ []) v (0, omega arith, refl))))

  earlier_by : KeepsEarlier b (binding_table b v t)
  earlier_by =
      let long = length-set ys v (Some t) in
      let more = length-append b.bound (v ∷ []) in
      record {
        variables = omega (arith, long);
        bindings = omega (arith, more);
        same = λ n k within few-bound.
            let entries = at_bound n k b.bound v t ys few-bound inside free in
            let bound = take-append-le k b.bound (v ∷ []) few-bound in
            λ i. record { entries = entries i; bound = bound i };
      }

  closed_by : (w : ℕ) (r : Tree Depth) → AreClosed (stored terms ys) → stored terms zs w ≡ Some r
      → (w ≡ v) ⊎ (w ≡ v → ⊥) → IsClosed r
  closed_by w r all is (inl same) =
      let own : Some tree-of ≡ Some r = sym binds.own ∙ ap (stored terms zs) (sym same) ∙ is in
      let one : tree-of ≡ r = cc in
      subst IsClosed one own-closed
  closed_by w r all is (inr apart) = all w r (sym (binds.others w apart) ∙ is)

  -- a variable is bound and noted
  pub grown_by : IsGrown terms b (binding_table b v t)
  unfolding fill
  grown_by = record {
    owned = (
      refl,
      tt,
      set_owned (option_shape ty_shape) terms ys v (Some t) owned.2 (owned_some ty_shape terms t own),
    );
    len = length-set ys v (Some t);
    kept = kept_by (stored terms ys) (stored terms zs) v tree-of binds;
    links = links_still (stored terms ys) (stored terms zs) v tree-of binds acyclic
        (λ w r is. entry_proper terms ys are w (get_or ys w None) refl r is) (type_proper terms.rows are t)
        (length ys) (few terms ys) unbound other;
    closed = λ all w r is. closed_by w r all is (cases_eq w v);
    earlier = earlier_by;
    noted = λ w r is. noted_by w r (entry_of (stored terms ys) (stored terms zs) v tree-of binds w r is (cases_eq w v));
    older = λ k w within at. rw (drop-append-le k b.bound (v ∷ []) within)
        (Contains-append_left (drop k b.bound) (v ∷ []) w at);
  }

-- nothing is bound
pub grown_itself : (terms : Terms) (b : Table) → IsOwned table_shape terms b.entries
    → IsAcyclic (links (stored terms b.entries)) → IsGrown terms b b
grown_itself terms b owned acyclic = record {
  owned = owned;
  len = refl;
  kept = λ v t is. is;
  links = acyclic;
  closed = λ all. all;
  earlier = earlier_itself b;
  noted = λ v t is. inl is;
  older = λ n v within at. at;
}

-- two compared pairs are one where `==` says so
pub compared_exact : (a b : Compared) → (handle_eq a.left b.left && handle_eq a.right b.right) ≡ true → a ≡ b
compared_exact a b e =
    let h = both (handle_eq a.left b.left) (handle_eq a.right b.right) e in
    let left = handle_exact a.left b.left h.0 in
    let right = handle_exact a.right b.right h.1 in
    λ i. record { left = left i; right = right i }

-- two children are one where `==` says so
pub child_exact : (c d : Child) → (children.ghosts).eq c d ≡ true → c ≡ d
child_exact child.Absent child.Absent e = refl
child_exact (child.Region r) (child.Region s) e = ap child.Region (region_exact r s e)
child_exact (child.Stored h) (child.Stored k) e =
    let h-both = both ((tables.ghosts).eq h.table k.table) (nat_eq h.number k.number) e in
    let table = table_exact h.table k.table h-both.0 in
    let number = eqb-true h.number k.number h-both.1 in
    λ i. child.Stored (record { table = table i; number = number i })
child_exact _ _ e = absurd (false≢true e)

-- a flag that isn't there
pub untested_zero : (b : Bool) (n : ℕ) → IsTrue b ↔ (0 < n) → b ≡ false → n ≡ 0
untested_zero b zero exact is = refl
untested_zero b (suc n) exact is = absurd (true≢false (sym (exact.1 (omega arith)) ∙ is))

pub tested_more : (b : Bool) (n : ℕ) → IsTrue b ↔ (0 < n) → b ≡ true → n ≡ 0 → ⊥
tested_more b n exact is none = let more = exact.0 is in omega arith

-- what follows from promises of a success, or of a fault
pub on_ok : {T E A B C D Z : Type 0} (r : Result T E) → OnOk r A → OnOk r B → OnOk r C → OnOk r D
    → (A → B → C → D → Z) → OnOk r Z
on_ok (Ok x) a b c d f = f a b c d
on_ok (Err e) a b c d f = tt

pub on_ok_one : {T E A Z : Type 0} (r : Result T E) → OnOk r A → (A → Z) → OnOk r Z
on_ok_one (Ok x) a f = f a
on_ok_one (Err e) a f = tt

pub on_err : {T E A B : Type 0} (Is : E → Type 0) (r : Result T E) → (A → B) → IfErr r (λ e. Is e → A)
    → IfErr r (λ e. Is e → B)
on_err Is (Ok x) f told = tt
on_err Is (Err e) f told = λ is. f (told is)

-- of two types that differ, at most one is a given variable
module _ (terms : Terms) (are : AreRows terms.rows) (interned : AreInterned terms.rows) (l r : Ty)
    (left : IsOwned ty_shape terms l) (right : IsOwned ty_shape terms r) (differ : l.number ≡ r.number → ⊥) where
  never_both : (v : ℕ) → variable_in (tree_in terms.rows (ty_shape l)) ≡ Some v
      → variable_in (tree_in terms.rows (ty_shape r)) ≡ Some v → ⊥
  unfolding fill
  never_both v first second =
      let one : tree_in terms.rows (ty_shape l) ≡ tree_in terms.rows (ty_shape r) =
      proper_variable (tree_in terms.rows (ty_shape l)) v (type_proper terms.rows are l) first
      ∙ sym (proper_variable (tree_in terms.rows (ty_shape r)) v (type_proper terms.rows are r) second) in
      differ ((interned Types l.number r.number left right).0 one)

  pub other_side : (v : ℕ) (t : Ty) → IsSideOf terms l r v t → variable_in (tree_in terms.rows (ty_shape t)) ≡ Some v → ⊥
  other_side v t (inl is) own =
      never_both v is.0 (subst (λ ty. variable_in (tree_in terms.rows (ty_shape ty)) ≡ Some v) is.1 own)
  other_side v t (inr is) own =
      never_both v (subst (λ ty. variable_in (tree_in terms.rows (ty_shape ty)) ≡ Some v) is.1 own) is.0

-- the other side of a pair whose sides have no binding has none
pub unbound_side_is : (terms : Terms) (entries : Substitution) (l r : Ty) (v : ℕ) (t : Ty) → IsSideOf terms l r v t
    → binding entries (tree_in terms.rows (ty_shape l)) ≡ None → binding entries (tree_in terms.rows (ty_shape r)) ≡ None
    → binding entries (tree_in terms.rows (ty_shape t)) ≡ None
unbound_side_is terms entries l r v t (inl is) first second =
    ap (λ ty. binding entries (tree_in terms.rows (ty_shape ty))) is.1 ∙ second
unbound_side_is terms entries l r v t (inr is) first second =
    ap (λ ty. binding entries (tree_in terms.rows (ty_shape ty))) is.1 ∙ first

pub side_owned : (terms : Terms) (l r : Ty) (v : ℕ) (t : Ty) → IsSideOf terms l r v t → IsOwned ty_shape terms l
    → IsOwned ty_shape terms r → IsOwned ty_shape terms t
side_owned terms l r v t (inl is) first second = subst (IsOwned ty_shape terms) (sym is.1) second
side_owned terms l r v t (inr is) first second = subst (IsOwned ty_shape terms) (sym is.1) first

module _ (terms : Terms) where
  compared_kept : (keys : List Compared) (k : Compared) (t u : Tree Depth) → ComparedIn terms keys t u
      → ComparedIn terms (keys ++ k ∷ []) t u
  compared_kept [] k t u at = absurd at
  compared_kept (c ∷ keys) k t u (inl is) = inl is
  compared_kept (c ∷ keys) k t u (inr at) = inr (compared_kept keys k t u at)

  compared_pushed : (keys : List Compared) (k : Compared)
      → ComparedIn terms (keys ++ k ∷ []) (tree_in terms.rows (ty_shape k.left)) (tree_in terms.rows (ty_shape k.right))
  compared_pushed [] k = inl (refl, refl)
  compared_pushed (c ∷ keys) k = inr (compared_pushed keys k)

  compared_popped : (keys : List Compared) (k : Compared) (t u : Tree Depth) → ComparedIn terms (keys ++ k ∷ []) t u
      → ComparedIn terms keys t u
      ⊎ ((t ≡ tree_in terms.rows (ty_shape k.left)) × (u ≡ tree_in terms.rows (ty_shape k.right)))
  compared_popped [] k t u (inl is) = inr is
  compared_popped [] k t u (inr none) = absurd none
  compared_popped (c ∷ keys) k t u (inl is) = inl (inl is)
  compared_popped (c ∷ keys) k t u (inr at) =
      elim (compared_popped keys k t u at) [ inl old ↦ inl (inr old) | inr own ↦ inr own ]

  -- a pair that is noted as compared
  module _ (eq : Compared → Compared → Bool) (exact : (a b : Compared) → eq a b ≡ true → a ≡ b) (k : Compared) where
    abbrev Own : Tree Depth → Tree Depth → Type 0
    Own t u = (t ≡ tree_in terms.rows (ty_shape k.left)) × (u ≡ tree_in terms.rows (ty_shape k.right))

    there : (keys : List Compared) → list_any (eq k) keys ≡ true → (t u : Tree Depth) → Own t u
        → ComparedIn terms keys t u
    there [] known t u is = absurd (cc)
    there (c ∷ keys) known t u is = elim (cases_Bool (eq k c)) [
      | inl alike ↦ inl (subst (λ x. (t ≡ tree_in terms.rows (ty_shape x.left))
          × (u ≡ tree_in terms.rows (ty_shape x.right))) (exact k c alike) is)
      | inr other ↦ inr (there keys (rw other at known) t u is)
    ]

    noted_own : (keys : List Compared)
        → ComparedIn terms (insert_key eq keys k) (tree_in terms.rows (ty_shape k.left)) (tree_in terms.rows (ty_shape k.right))
    noted_own keys = elim (cases_Bool (list_any (eq k) keys)) [
      | inl known ↦ rw known (there keys known _ _ (refl, refl))
      | inr new ↦ rw new (compared_pushed keys k)
    ]

    noted_others : (keys : List Compared) (t u : Tree Depth) → ComparedIn terms keys t u
        → ComparedIn terms (insert_key eq keys k) t u
    noted_others keys t u at = elim (cases_Bool (list_any (eq k) keys)) [
      | inl known ↦ rw known at
      | inr new ↦ rw new (compared_kept keys k t u at)
    ]

    noted_back : (keys : List Compared) (t u : Tree Depth) → ComparedIn terms (insert_key eq keys k) t u
        → ComparedIn terms keys t u ⊎ Own t u
    noted_back keys t u at = elim (cases_Bool (list_any (eq k) keys)) [
      | inl known ↦ inl (rw known at at)
      | inr new ↦ compared_popped keys k t u (rw new at at)
    ]

  module _ (ys : List (Option Ty)) (ps : List Pair) (keys : List Compared) (left right l r : Ty)
      (same : (ρ : Assignment) → Solves ρ (stored terms ys) → EquatesTypes ρ terms left l)
      (same' : (ρ : Assignment) → Solves ρ (stored terms ys) → EquatesTypes ρ terms right r) where
    met : (ρ : Assignment) → Solves ρ (stored terms ys) → EquatesTypes ρ terms left right → EquatesTypes ρ terms l r
    met ρ solves equal = sym (same ρ solves) ∙ equal ∙ same' ρ solves

    back : (ρ : Assignment) → Solves ρ (stored terms ys) → EquatesTypes ρ terms l r → EquatesTypes ρ terms left right
    back ρ solves equal = same ρ solves ∙ equal ∙ sym (same' ρ solves)

    types_met : (ρ : Assignment) → Equates ρ terms (types_pair left right) → EquatesTypes ρ terms left right
    unfolding fill
    types_met ρ equal = ap (first_tree (tree_in terms.rows (ty_shape left))) equal

    -- two types that are looked up as one
    pub takes_same : AreOwned pair_shape terms ps → l ≡ r → Takes terms ys ps keys (types_pair left right) ys ps keys
    takes_same owned one = record {
      owned = owned;
      others = λ t u at. at;
      grows = λ t u at. at;
      children = types_linked (stored terms ys) (PendingIn terms ps) (ComparedIn terms keys) (meaning terms.rows) left right
          (is_equal (λ ρ solves. back ρ solves (ap (λ ty. assign ρ (tree_in terms.rows (ty_shape ty))) one)));
      noted = λ t u at. inl at;
      keeps = λ ρ solves equal rest. (solves, rest);
    }

    side_equal : (ρ : Assignment) (v : ℕ) (t : Ty) → IsSideOf terms l r v t → ρ v ≡ assign ρ (tree_in terms.rows (ty_shape t))
        → EquatesTypes ρ terms l r
    side_equal ρ v t (inl is) equal =
        variable_assigned ρ (tree_in terms.rows (ty_shape l)) v is.0 ∙ equal
        ∙ ap (λ ty. assign ρ (tree_in terms.rows (ty_shape ty))) is.1
    side_equal ρ v t (inr is) equal =
        ap (λ ty. assign ρ (tree_in terms.rows (ty_shape ty))) (sym is.1) ∙ sym equal
        ∙ sym (variable_assigned ρ (tree_in terms.rows (ty_shape r)) v is.0)

    side_back : (ρ : Assignment) (v : ℕ) (t : Ty) → IsSideOf terms l r v t → EquatesTypes ρ terms l r
        → ρ v ≡ assign ρ (tree_in terms.rows (ty_shape t))
    side_back ρ v t (inl is) equal =
        sym (variable_assigned ρ (tree_in terms.rows (ty_shape l)) v is.0) ∙ equal
        ∙ ap (λ ty. assign ρ (tree_in terms.rows (ty_shape ty))) (sym is.1)
    side_back ρ v t (inr is) equal =
        sym (variable_assigned ρ (tree_in terms.rows (ty_shape r)) v is.0) ∙ sym equal
        ∙ ap (λ ty. assign ρ (tree_in terms.rows (ty_shape ty))) (sym is.1)

    -- where the other type has a variable of a binder around it, no closed assignment makes the two types equal
    pub side_escapes : AreRows terms.rows → (v : ℕ) (t : Ty) → IsSideOf terms l r v t
        → (IsClosed (tree_in terms.rows (ty_shape t)) → ⊥)
        → HasNoClosedSolution (λ ρ. EquatesTypes ρ terms left right) terms ys ps
    side_escapes are v t side escapes = record {
      never = λ ρ meets solution.
          escape_fails ρ meets.0 v (tree_in terms.rows (ty_shape t)) (type_proper terms.rows are t) escapes
          (side_back ρ v t side (met ρ solution.solves meets.1));
    }

    -- a variable is bound to the other type
    pub takes_bound : AreOwned pair_shape terms ps → (v : ℕ) (t : Ty) (later : List (Option Ty)) → IsSideOf terms l r v t
        → v < length ys → get_or ys v None ≡ None → later ≡ set ys v (Some t)
        → Takes terms ys ps keys (types_pair left right) later ps keys
    takes_bound owned v t later side inside free is =
        let σ = stored terms ys in
        let τ = stored terms (set ys v (Some t)) in
        let tr = tree_in terms.rows (ty_shape t) in
        let binds = set_binds terms ys v t inside free in
        subst (λ ws. Takes terms ys ps keys (types_pair left right) ws ps keys) (sym is) (record {
          owned = owned;
          others = λ t u at. at;
          grows = λ t u at. at;
          children = types_linked τ (PendingIn terms ps) (ComparedIn terms keys) (meaning terms.rows) left right
              (is_equal (λ ρ solves. back ρ (λ w r is. solves w r (kept_by σ τ v tr binds w r is))
              (side_equal ρ v t side (solves v tr binds.own))));
          noted = λ t u at. inl at;
          keeps = λ ρ solves equal rest.
              (solved_further σ τ v tr binds ρ solves (side_back ρ v t side (met ρ solves (types_met ρ equal))), rest);
        })

    module _ (eq : Compared → Compared → Bool) (exact : (a b : Compared) → eq a b ≡ true → a ≡ b) where
      abbrev key : Compared
      key = record { left = l; right = r }

      abbrev pub noted_keys : List Compared
      noted_keys = insert_key eq keys key

      own_linked : (qs : List Pair)
          → AreLinked (stored terms ys) (PendingIn terms qs) (ComparedIn terms noted_keys)
          (child_trees terms (types_pair left right).left) (child_trees terms (types_pair left right).right)
      own_linked qs =
          types_linked (stored terms ys) (PendingIn terms qs) (ComparedIn terms noted_keys) (meaning terms.rows) left right
          (looked_up (tree_in terms.rows (ty_shape l)) (tree_in terms.rows (ty_shape r)) same same'
          (is_compared (noted_own eq exact key keys)))

      -- two types that were compared before
      pub takes_known : AreOwned pair_shape terms ps → list_any (eq key) keys ≡ true
          → Takes terms ys ps keys (types_pair left right) ys ps noted_keys
      takes_known owned known = record {
        owned = owned;
        others = λ t u at. at;
        grows = noted_others eq exact key keys;
        children = own_linked ps;
        noted = λ t u at. elim (noted_back eq exact key keys t u at) [
          | inl old ↦ inl old
          | inr own ↦ inl (there eq exact key keys known t u own)
        ];
        keeps = λ ρ solves equal rest. (solves, rest);
      }

      -- two types whose parts are pending now
      pub takes_types : (qs : List Pair) → AreOwned pair_shape terms qs
          → ((t u : Tree Depth) → PendingIn terms ps t u → PendingIn terms qs t u)
          → HasParts (stored terms ys) (PendingIn terms qs) (ComparedIn terms noted_keys)
          (tree_in terms.rows (ty_shape l)) (tree_in terms.rows (ty_shape r))
          → ((ρ : Assignment) → EquatesTypes ρ terms l r → EquatesAll ρ terms ps → EquatesAll ρ terms qs)
          → Takes terms ys ps keys (types_pair left right) ys qs noted_keys
      takes_types qs owned others parts equates = record {
        owned = owned;
        others = others;
        grows = noted_others eq exact key keys;
        children = own_linked qs;
        noted = λ t u at. elim (noted_back eq exact key keys t u at) [
          | inl old ↦ inl old
          | inr own ↦ inr (subst (λ x. HasParts (stored terms ys) (PendingIn terms qs) (ComparedIn terms noted_keys) x u)
              (sym own.0) (subst (λ x. HasParts (stored terms ys) (PendingIn terms qs) (ComparedIn terms noted_keys)
              (tree_in terms.rows (ty_shape l)) x) (sym own.1) parts))
        ];
        keeps = λ ρ solves equal rest. (solves, equates ρ (met ρ solves (types_met ρ equal)) rest);
      }

  module _ (ys : List (Option Ty)) (ps : List Pair) (keys : List Compared) (p : Pair) where
    -- two children that are one
    pub takes_one : AreOwned pair_shape terms ps → p.left ≡ p.right → Takes terms ys ps keys p ys ps keys
    takes_one owned one = record {
      owned = owned;
      others = λ t u at. at;
      grows = λ t u at. at;
      children = child_same (stored terms ys) (PendingIn terms ps) (ComparedIn terms keys) (meaning terms.rows) p.left p.right one;
      noted = λ t u at. inl at;
      keeps = λ ρ solves equal rest. (solves, rest);
    }

    -- two terms that are no types, or two lists, whose parts are pending now
    pub takes_parts : (qs : List Pair) (l r : AnyHandle) → p.left ≡ child.Stored l → p.right ≡ child.Stored r
        → AreOwned pair_shape terms qs → ((t u : Tree Depth) → PendingIn terms ps t u → PendingIn terms qs t u)
        → HasParts (stored terms ys) (PendingIn terms qs) (ComparedIn terms keys)
        (tree_in terms.rows (handle_shape l)) (tree_in terms.rows (handle_shape r))
        → ((ρ : Assignment) → assign ρ (tree_in terms.rows (handle_shape l)) ≡ assign ρ (tree_in terms.rows (handle_shape r))
        → EquatesAll ρ terms ps → EquatesAll ρ terms qs)
        → Takes terms ys ps keys p ys qs keys
    unfolding fill
    takes_parts qs l r is is' owned others parts equates = record {
      owned = owned;
      others = others;
      grows = λ t u at. at;
      children = subst (λ c. AreLinked (stored terms ys) (PendingIn terms qs) (ComparedIn terms keys) (child_trees terms c) (child_trees terms p.right))
          (sym is) (subst (λ c. AreLinked (stored terms ys) (PendingIn terms qs) (ComparedIn terms keys) (child_trees terms (child.Stored l)) (child_trees terms c))
          (sym is') (next (by_parts parts) done));
      noted = λ t u at. inl at;
      keeps = λ ρ solves equal rest. (solves, equates ρ (stored_met ρ terms p l r is is' equal) rest);
    }

  module _ (first : Table) (left right : Ty) where
    -- a comparison begins
    pub comparison_begins : IsOwned table_shape terms first.entries → IsOwned ty_shape terms left
        → IsOwned ty_shape terms right → IsAcyclic (links (stored terms first.entries))
        → IsComparing terms first left right first (types_pair left right ∷ []) []
    comparison_begins owned l r acyclic = record {
      compares = loop_begins terms first.entries left right owned;
      owned = (pair_owned terms (types_pair left right).left (types_pair left right).right (l, tt) (r, tt), tt);
      links = acyclic;
      closed = λ all. all;
      earlier = earlier_itself first;
      noted = λ v t is. inl is;
    }

    -- and goes on where the last pair is taken
    pub comparison_goes : (b later : Table) (rest ps : List Pair) (p : Pair) (keys noted : List Compared)
        → IsComparing terms first left right b (rest ++ p ∷ []) keys → IsGrown terms b later
        → Takes terms b.entries rest keys p later.entries ps noted → IsComparing terms first left right later ps noted
    comparison_goes b later rest ps p keys noted before grown takes = record {
      compares = round_compares terms b.entries later.entries rest ps p (ComparedIn terms keys) (ComparedIn terms noted)
          (λ ρ solves v t is. solves v t (grown.kept v t is)) takes.grows takes.others takes.children takes.noted
          first.entries left right before.compares grown.owned grown.len grown.kept
          (λ ρ solves equal. let popped = equates_popped ρ terms rest p equal in takes.keeps ρ solves popped.1 popped.0);
      owned = takes.owned;
      links = grown.links;
      closed = λ all. grown.closed (before.closed all);
      earlier = earlier_further first b later before.earlier grown.earlier;
      noted = λ v t is.
          elim (grown.noted v t is) [
            | inl old ↦ elim (before.noted v t old) [
              | inl earlier ↦ inl earlier
              | inr at ↦ inr (grown.older (length first.bound) v before.earlier.bindings at)
            ]
            | inr new ↦ inr (new (length first.bound) before.earlier.bindings)
          ];
    }
