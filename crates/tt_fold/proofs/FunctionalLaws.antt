-- Folders whose hooks have one answer, and folders whose hooks never fail.
use Rattle.std.proofs.Common.{◌≡◌, ◌⊎◌, inl, inr, refl, sym, ap, subst, ◌∙◌}
use Rattle.std.proofs.lemmas.Bool.{cases_Bool}
use Rattle.std.specs.Prelude.{List}
use Rattle.tt_index.specs.declared.refusal.Refusal.{Refusal}
use Rattle.tt_index.specs.declared.refusal.Refusal.TheVariants.{Memory, TableFull, GreatestIndex, NoArguments}
use Rattle.tt_index.specs.declared.refusal.Refusal.TheVariants.{ArgOutOfRange, ArgKind, RegionVariable, NotAClause}
use Rattle.tt_index.specs.declared.refusal.Refusal.TheVariants.{NoSuchAnswer}
use Rattle.tt_kinds.specs.Label.{Name, VarKind, Label, list_label, record_label, clause_label, static_region}
use Rattle.tt_kinds.specs.Tree.{Depth, Tree, Forest, region, term, node, binder}
use Rattle.tt_interner.specs.Stored.{Terms, IsUnbuilt}
use Rattle.tt_visit.specs.Root.{a_region, hooked, unhooked, node_root}
use Rattle.tt_visit.specs.Types.{is_type_tree}
use Rattle.tt_fold.specs.Steps.{refusals_of}
use Rattle.tt_fold.specs.Types.{TypeHooks, only_types}
use Rattle.tt_fold.specs.Walk.{Hooks, Answer, replace, keep, descend, IsRegion, IsTerm, IsPassed, Errors}
use Rattle.tt_fold.specs.Walk.{Wanted, Walks, Descends, WalksInside, WalksAll, at_region, replaced, kept, descended}
use Rattle.tt_fold.specs.Walk.{passed, rebuilt, at_node, at_binder, in_term, in_param, in_bound, done, next, Fails}
use Rattle.tt_fold.specs.Walk.{DescentFails, InsideFails, FailsAll, region_failed, term_failed, descent_failed}
use Rattle.tt_fold.specs.Walk.{passed_failed, enter_failed, under_failed, leave_failed, node_failed, node_not_built}
use Rattle.tt_fold.specs.Walk.{clause_lost, stopped, inside_failed, not_built, after_failed, in_term_failed, here}
use Rattle.tt_fold.specs.Walk.{later, no_clause}

-- a list or a record is no region and no stored term
part-no_region : (l : Label Name) → node_root l ≡ a_region → ⊥
part-no_region (list_label t) is = cc
part-no_region (record_label l) is = cc
part-no_region clause_label is = cc
part-no_region _ is = cc

part-no_term : (l : Label Name) → node_root l ≡ hooked → ⊥
part-no_term (list_label t) is = cc
part-no_term (record_label l) is = cc
part-no_term clause_label is = cc
part-no_term _ is = cc

part-not_passed : (l : Label Name) → node_root l ≡ unhooked → ⊥
part-not_passed (list_label t) is = cc
part-not_passed (record_label l) is = cc
part-not_passed clause_label is = cc
part-not_passed _ is = cc

region-no_term : (t : Tree Depth) → IsRegion t → IsTerm t → ⊥
region-no_term t a b = let never : a_region ≡ hooked = sym a ∙ b in cc

region-not_passed : (t : Tree Depth) → IsRegion t → IsPassed t → ⊥
region-not_passed t a b = let never : a_region ≡ unhooked = sym a ∙ b in cc

term-not_passed : (t : Tree Depth) → IsTerm t → IsPassed t → ⊥
term-not_passed t a b = let never : hooked ≡ unhooked = sym a ∙ b in cc

binder-no_region : (vs : List (VarKind Name)) (t : Tree Depth) → IsRegion (binder vs t) → ⊥
binder-no_region vs t is = cc

binder-no_term : (vs : List (VarKind Name)) (t : Tree Depth) → IsTerm (binder vs t) → ⊥
binder-no_term vs t is = cc

binder-not_passed : (vs : List (VarKind Name)) (t : Tree Depth) → IsPassed (binder vs t) → ⊥
binder-not_passed vs t is = cc

replaced-once : (r u : Tree Depth) → replace r ≡ replace u → r ≡ u
replaced-once r u h = cc

not-kept : (r : Tree Depth) → replace r ≡ keep → ⊥
not-kept r h = cc

not-entered : (r : Tree Depth) → replace r ≡ descend → ⊥
not-entered r h = cc

kept-not-entered : keep ≡ descend → ⊥
kept-not-entered h = cc

-- the results and the end states are the same
pub record Same {A M : Type 0} (x y : A) (s s' : M) : Type 0 where
  pub result : x ≡ y
  pub state : s ≡ s'

module _ {M E : Type 0} where
  -- each hook has one answer, and goes to one state
  pub record IsFunctional (H : Hooks M E) : Type 0 where
    pub region : (s : M) (t r1 r2 : Tree Depth) (s1 s2 : M) → H.on_region s t r1 s1 → H.on_region s t r2 s2 → Same r1 r2 s1 s2
    pub term : (s : M) (t : Tree Depth) (a1 a2 : Answer) (s1 s2 : M) → H.on_term s t a1 s1 → H.on_term s t a2 s2 → Same a1 a2 s1 s2
    pub after : (s : M) (t u r1 r2 : Tree Depth) (s1 s2 : M) → H.after_term s t u r1 s1 → H.after_term s t u r2 s2 → Same r1 r2 s1 s2
    pub enter : (s : M) (vs : List (VarKind Name)) (s1 s2 : M) → H.enter s vs s1 → H.enter s vs s2 → s1 ≡ s2
    pub leave : (s : M) (vs : List (VarKind Name)) (s1 s2 : M) → H.leave s vs s1 → H.leave s vs s2 → s1 ≡ s2

  -- the hook of a folder of types has one answer, and goes to one state
  abbrev pub IsFunctionalType : TypeHooks M E → Type 0
  IsFunctionalType H = (s : M) (t : Tree Depth) (a1 a2 : Answer) (s1 s2 : M) → H.on_type s t a1 s1 → H.on_type s t a2 s2 → Same a1 a2 s1 s2

  -- such a folder of types is one whose hooks have one answer each
  pub only_types-functional : (H : TypeHooks M E) → IsFunctionalType H → IsFunctional (only_types H)
  only_types-functional H f = record {
    region = λ s t r1 r2 s1 s2 h g. record { result = h.0 ∙ sym g.0; state = h.1 ∙ sym g.1 };
    term = λ s t a1 a2 s1 s2 h g. elim (cases_Bool (is_type_tree t)) [
      | inl is ↦ f s t a1 a2 s1 s2 (h.0 is) (g.0 is)
      | inr other ↦ record { result = (h.1 other).0 ∙ sym (g.1 other).0; state = (h.1 other).1 ∙ sym (g.1 other).1 }
    ];
    after = λ s t u r1 r2 s1 s2 h g. record { result = h.0 ∙ sym g.0; state = h.1 ∙ sym g.1 };
    enter = λ s vs s1 s2 h g. h ∙ sym g;
    leave = λ s vs s1 s2 h g. h ∙ sym g;
  }

  module _ (H : Hooks M E) where
    -- a walk of a stored term that has a hook
    data TermWalk : M → Tree Depth → Tree Depth → M → Type 0 where
      by_answer : {s s' : M} {t r : Tree Depth} → H.on_term s t (replace r) s' → TermWalk s t r s'
      by_keeping : {s s' : M} {t : Tree Depth} → H.on_term s t keep s' → TermWalk s t t s'
      by_descent : {s s1 s' : M} {t r : Tree Depth} → H.on_term s t descend s1 → Descends H s1 t r s' → TermWalk s t r s'

    record NodeWalk (s : M) (l : Label Name) (ts : Forest Depth) (r : Tree Depth) (s' : M) : Type 0 where
      items : Forest Depth
      is : r ≡ node l items
      walk : WalksAll H s ts items s'

    record BinderWalk (s : M) (vs : List (VarKind Name)) (t r : Tree Depth) (s' : M) : Type 0 where
      first : M
      last : M
      value : Tree Depth
      is : r ≡ binder vs value
      entered : H.enter s vs first
      walk : Walks H first t value last
      left : H.leave last vs s'

    of_region : {s s' : M} {t r : Tree Depth} → IsRegion t → Walks H s t r s' → H.on_region s t r s'
    of_region is (at_region again h) = h
    of_region is (replaced {t} other h) = absurd (region-no_term t is other)
    of_region is (kept {t} other h) = absurd (region-no_term t is other)
    of_region is (descended {t} other h d) = absurd (region-no_term t is other)
    of_region is (passed {t} other w) = absurd (region-not_passed t is other)
    of_region is (at_node {l} w fit) = absurd (part-no_region l is)
    of_region is (at_binder {vs} {t} e w l) = absurd (binder-no_region vs t is)

    of_term : {s s' : M} {t r : Tree Depth} → IsTerm t → Walks H s t r s' → TermWalk s t r s'
    of_term is (at_region {t} other h) = absurd (region-no_term t other is)
    of_term is (replaced again h) = by_answer h
    of_term is (kept again h) = by_keeping h
    of_term is (descended again h d) = by_descent h d
    of_term is (passed {t} other w) = absurd (term-not_passed t is other)
    of_term is (at_node {l} w fit) = absurd (part-no_term l is)
    of_term is (at_binder {vs} {t} e w l) = absurd (binder-no_term vs t is)

    of_passed : {s s' : M} {t r : Tree Depth} → IsPassed t → Walks H s t r s' → WalksInside H s t r s'
    of_passed is (at_region {t} other h) = absurd (region-not_passed t other is)
    of_passed is (replaced {t} other h) = absurd (term-not_passed t other is)
    of_passed is (kept {t} other h) = absurd (term-not_passed t other is)
    of_passed is (descended {t} other h d) = absurd (term-not_passed t other is)
    of_passed is (passed again w) = w
    of_passed is (at_node {l} w fit) = absurd (part-not_passed l is)
    of_passed is (at_binder {vs} {t} e w l) = absurd (binder-not_passed vs t is)

    of_node : {s s' : M} {l : Label Name} {ts : Forest Depth} {r : Tree Depth} → Walks H s (node l ts) r s' → NodeWalk s l ts r s'
    of_node {l} (at_region other h) = absurd (part-no_region l other)
    of_node {l} (replaced other h) = absurd (part-no_term l other)
    of_node {l} (kept other h) = absurd (part-no_term l other)
    of_node {l} (descended other h d) = absurd (part-no_term l other)
    of_node {l} (passed other w) = absurd (part-not_passed l other)
    of_node (at_node {us} w fit) = record { items = us; is = refl; walk = w }

    of_binder : {s s' : M} {vs : List (VarKind Name)} {t r : Tree Depth} → Walks H s (binder vs t) r s' → BinderWalk s vs t r s'
    of_binder {vs} {t} (at_region other h) = absurd (binder-no_region vs t other)
    of_binder {vs} {t} (replaced other h) = absurd (binder-no_term vs t other)
    of_binder {vs} {t} (kept other h) = absurd (binder-no_term vs t other)
    of_binder {vs} {t} (descended other h d) = absurd (binder-no_term vs t other)
    of_binder {vs} {t} (passed other w) = absurd (binder-not_passed vs t other)
    of_binder (at_binder {s1} {s2} {u} e w l) = record { first = s1; last = s2; value = u; is = refl; entered = e; walk = w; left = l }

    module _ (f : IsFunctional H) where
      after_replaced : {s s1 s2 : M} {t r u : Tree Depth} → H.on_term s t (replace r) s1 → TermWalk s t u s2 → Same r u s1 s2
      after_replaced {s} {s1} {s2} {t} {r} {u} h (by_answer g) =
          let one = f.term s t (replace r) (replace u) s1 s2 h g in record { result = replaced-once r u one.result; state = one.state }
      after_replaced {s} {s1} {s2} {t} {r} h (by_keeping g) = absurd (not-kept r (f.term s t (replace r) keep s1 s2 h g).result)
      after_replaced {s} {s1} {s2} {t} {r} h (by_descent {s1 = q} g d) = absurd (not-entered r (f.term s t (replace r) descend s1 q h g).result)

      after_kept : {s s1 s2 : M} {t u : Tree Depth} → H.on_term s t keep s1 → TermWalk s t u s2 → Same t u s1 s2
      after_kept {s} {s1} {s2} {t} {u} h (by_answer g) = absurd (not-kept u (sym (f.term s t keep (replace u) s1 s2 h g).result))
      after_kept {s} {s1} {s2} {t} h (by_keeping g) = record { result = refl; state = (f.term s t keep keep s1 s2 h g).state }
      after_kept {s} {s1} {s2} {t} h (by_descent {s1 = q} g d) = absurd (kept-not-entered (f.term s t keep descend s1 q h g).result)

      -- the other walk goes into the term too
      into : {s s1 s2 : M} {t u : Tree Depth} → H.on_term s t descend s1 → TermWalk s t u s2 → Descends H s1 t u s2
      into {s} {s1} {s2} {t} {u} h (by_answer g) = absurd (not-entered u (sym (f.term s t descend (replace u) s1 s2 h g).result))
      into {s} {s1} {s2} {t} h (by_keeping g) = absurd (kept-not-entered (sym (f.term s t descend keep s1 s2 h g).result))
      into {s} {s1} {s2} {t} {u} h (by_descent {s1 = q} g d) = subst (λ p. Descends H p t u s2) (sym (f.term s t descend descend s1 q h g).state) d

      mutual
        -- two walks of one tree from one state come to one tree and end in one state
        pub one-walk : {s s1 s2 : M} {t r u : Tree Depth} → Walks H s t r s1 → Walks H s t u s2 → Same r u s1 s2
        one-walk {s} {s1} {s2} {t} {r} {u} (at_region is h) w = f.region s t r u s1 s2 h (of_region is w)
        one-walk (replaced is h) w = after_replaced h (of_term is w)
        one-walk (kept is h) w = after_kept h (of_term is w)
        one-walk (descended is h d) w = one-descent d (into h (of_term is w))
        one-walk (passed is v) w = one-inside v (of_passed is w)
        one-walk {s} {s1} {s2} {t} {r} {u} (at_node {l} {ts} {us} v fit) w =
            let other = of_node w in
            let one = one-list v other.walk in
            record { result = ap (λ xs. node l xs) one.result ∙ sym other.is; state = one.state }
        one-walk {s} {s1} {s2} (at_binder {s1 = p} {s2 = q} {vs} {t} {u} e v l) w =
            let other = of_binder w in
            let there : Walks H p t other.value other.last = subst (λ x. Walks H x t other.value other.last) (sym (f.enter s vs p other.first e other.entered)) other.walk in
            let one = one-walk v there in
            let end : H.leave q vs s2 = subst (λ x. H.leave x vs s2) (sym one.state) other.left in
            record { result = ap (λ x. binder vs x) one.result ∙ sym other.is; state = f.leave q vs s1 s2 l end }

        one-descent : {s s1 s2 : M} {t r u : Tree Depth} → Descends H s t r s1 → Descends H s t u s2 → Same r u s1 s2
        one-descent {s} {s1} {s2} {t} {r} {u} (rebuilt {s1 = p} {u = v} w after) (rebuilt {s1 = q} {u = x} other last) =
            let one = one-inside w other in
            let there : H.after_term p t v u s2 = subst (λ y. H.after_term p t y u s2) (sym one.result) (subst (λ y. H.after_term y t x u s2) (sym one.state) last) in
            f.after p t v r u s1 s2 after there

        one-inside : {s s1 s2 : M} {t r u : Tree Depth} → WalksInside H s t r s1 → WalksInside H s t u s2 → Same r u s1 s2
        one-inside (in_term {l} v fit) (in_term w fits) = let one = one-list v w in record { result = ap (λ xs. term l xs) one.result; state = one.state }
        one-inside in_param in_param = record { result = refl; state = refl }
        one-inside in_bound in_bound = record { result = refl; state = refl }

        one-list : {s s1 s2 : M} {ts us vs : Forest Depth} → WalksAll H s ts us s1 → WalksAll H s ts vs s2 → Same us vs s1 s2
        one-list done done = record { result = refl; state = refl }
        one-list {s2} (next {s1 = p} {t} {ts} v more) (next {s1 = q} {us} w rest) =
            let one = one-walk v w in
            let there : WalksAll H p ts us s2 = subst (λ x. WalksAll H x ts us s2) (sym one.state) rest in
            let others = one-list more there in
            record { result = rw (one.result, others.result) refl; state = others.state }

  module _ (H : Hooks M E) (errors : Errors E) where
    -- no hook fails
    pub record NeverFails : Type 0 where
      pub region : (s s' : M) (t : Tree Depth) (e : E) → H.region_fails errors.unbuilt s t e s' → ⊥
      pub term : (s s' : M) (t : Tree Depth) (e : E) → H.term_fails errors.unbuilt s t e s' → ⊥
      pub after : (s s' : M) (t u : Tree Depth) (e : E) → H.after_fails errors.unbuilt s t u e s' → ⊥
      pub enter : (s s' : M) (vs : List (VarKind Name)) (e : E) → H.enter_fails errors.unbuilt s vs e s' → ⊥
      pub leave : (s s' : M) (vs : List (VarKind Name)) (e : E) → H.leave_fails errors.unbuilt s vs e s' → ⊥

    -- some tree was not built, or an item of a list of clauses became none
    abbrev pub IsOfBuilding : E → Type 0
    IsOfBuilding e = ((u : Tree Depth) × errors.unbuilt u e) ⊎ errors.unwanted e

    module _ (never : NeverFails) where
      mutual
        -- then each error of a fold is one of building
        pub only-building : {s s' : M} {t : Tree Depth} {e : E} → Fails H errors s t e s' → IsOfBuilding e
        only-building {s} {s'} (region_failed {t} {e} is h) = absurd (never.region s s' t e h)
        only-building {s} {s'} (term_failed {t} {e} is h) = absurd (never.term s s' t e h)
        only-building (descent_failed is h d) = only-building_descent d
        only-building (passed_failed is d) = only-building_inside d
        only-building {s} {s'} (enter_failed {vs} {t} {e} h) = absurd (never.enter s s' vs e h)
        only-building (under_failed enter d) = only-building d
        only-building {s} {s'} (leave_failed {s2} {vs} {e} enter w h) = absurd (never.leave s2 s' vs e h)
        only-building (node_failed d) = only-building_all d
        only-building (node_not_built {l} {us} w b) = inl (node l us, b)
        only-building (clause_lost w lost b) = inr b

        only-building_descent : {s s' : M} {t : Tree Depth} {e : E} → DescentFails H errors s t e s' → IsOfBuilding e
        only-building_descent (inside_failed d) = only-building_inside d
        only-building_descent {s} {s'} (after_failed {s1} {t} {u} {e} w h) = absurd (never.after s1 s' t u e h)

        only-building_inside : {s s' : M} {t : Tree Depth} {e : E} → InsideFails H errors s t e s' → IsOfBuilding e
        only-building_inside (in_term_failed d) = only-building_all d
        only-building_inside (not_built {u} w b) = inl (u, b)

        only-building_all : {w : Wanted} {s s' : M} {ts : Forest Depth} {e : E} → FailsAll H errors w s ts e s' → IsOfBuilding e
        only-building_all (stopped h) = inl (region static_region, h (region static_region))
        only-building_all (here d) = only-building d
        only-building_all (no_clause w bad b) = inr b
        only-building_all (later w fit d) = only-building_all d

-- the refusals that building leaves
pub data BuildingRefusal : Refusal → Type 0 where
  no_memory : BuildingRefusal Memory
  no_room : BuildingRefusal TableFull
  no_clause_made : BuildingRefusal NotAClause

refusal-of : (terms : Terms) (u : Tree Depth) (r : Refusal) → IsUnbuilt terms u r → BuildingRefusal r
refusal-of terms u Memory why = no_memory
refusal-of terms u TableFull why = no_room
refusal-of terms u NotAClause why = no_clause_made
refusal-of terms u GreatestIndex why = absurd why
refusal-of terms u NoArguments why = absurd why
refusal-of terms u (ArgOutOfRange i) why = absurd why
refusal-of terms u (ArgKind i) why = absurd why
refusal-of terms u (RegionVariable i) why = absurd why
refusal-of terms u NoSuchAnswer why = absurd why

-- a fold whose errors are refusals, and whose hooks never fail, is refused for want of memory or of room, or where a
-- clause became none
pub building-refusals : {M : Type 0} (H : Hooks M Refusal) (terms : Terms) (s s' : M) (t : Tree Depth) (e : Refusal)
    → NeverFails H (refusals_of terms) → Fails H (refusals_of terms) s t e s' → BuildingRefusal e
building-refusals H terms s s' t e never f = elim (only-building H (refusals_of terms) never f) [
  | inl h ↦ rw h.1.1.0 (refusal-of terms h.0 h.1.0 h.1.1.1)
  | inr h ↦ rw h no_clause_made
]
