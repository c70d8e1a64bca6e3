-- The calls that erase regions, over plain variables.
use Rattle.std.proofs.Common.{◌≡◌, inl, inr, Result, Ok, Err, ℕ, suc, List, [], ◌∷◌, Some, refl, ap, sym, ◌∙◌, subst}
use Rattle.std.specs.Prelude.{IfOk, IsSomeAnd, map}
use Rattle.tt_index.specs.declared.refusal.Refusal.{Refusal}
use Rattle.tt_index.specs.declared.refusal.Refusal.TheVariants.{Memory, TableFull, GreatestIndex, NoArguments}
use Rattle.tt_index.specs.declared.refusal.Refusal.TheVariants.{ArgOutOfRange, ArgKind, RegionVariable, NotAClause}
use Rattle.tt_index.specs.declared.refusal.Refusal.TheVariants.{NoSuchAnswer}
use Rattle.tt_kinds.specs.Label.{Name, erased_region}
use Rattle.tt_kinds.specs.Tree as tree
use Rattle.tt_kinds.specs.Tree.{Depth, Tree, Forest}
use Rattle.tt_kinds.specs.Met.{Met, met, placed, placed_all}
use Rattle.tt_kinds.specs.Reading.{read, read_all, FitsUnder, FitsUnder_all}
use Rattle.tt_kinds.specs.Shape.{fill}
use Rattle.tt_kinds.specs.declared.region_kind.RegionKind.{RegionKind}
use Rattle.tt_kinds.specs.declared.region_kind.RegionKind.TheVariants.{ReBound, ReErased}
use Rattle.tt_kinds.specs.declared.bound.BoundVarIndexKind.{BoundVarIndexKind}
use Rattle.tt_kinds.specs.declared.bound.BoundRegion.{BoundRegion}
use Rattle.tt_kinds.specs.Bound.{depth, IsBelowGreatest}
use Rattle.tt_kinds.specs.declared.table.Table.{Table}
use Rattle.tt_interner.specs.Stored.{Terms}
use Rattle.tt_fold.specs.RegionFolder.{HasName, AnswersEach, AnswersRegions, RegionCall, BindersFit, BindersFit_all}
use Rattle.tt_fold.specs.RegionFolder.{asked, answered, region_tree, AreMade, Places, PlacesSome, IsPlacingRefusal}
use Rattle.tt_calls.specs.declared.call.Call.TheVariants as call
use Rattle.tt_calls.specs.Told.{Told, term, Setting, setting}
use Rattle.tt_calls.specs.Means.{term_at, tree_at, erased, IsAllowed, MayRefuse, want_of_memory, full_table, unfit}
use Rattle.tt_calls.proofs.BuildLaws.{IsBelowGreatest-or-not, not_both}
use Rattle.type_terms.proofs.FoldLaws.{full-table}

region_tree-erased : (names : ℕ → Name) → region_tree names ReErased ≡ tree.region erased_region
unfolding fill
region_tree-erased names = refl

-- where a closure answers the erased region each time, the answers are so many erased regions
module _ {F : Type 0} (step : F → RegionKind → ℕ → RegionKind → F → Type 0) (names : ℕ → Name) (Erases : F → Type 0)
    (erases : (f : F) (r : RegionKind) (d : ℕ) (a : RegionKind) (g : F) → Erases f → step f r d a g → (a ≡ ReErased) × Erases g) where
  answers-erased : (calls : List RegionCall) (f g : F) → Erases f → AreMade step f calls g → answered names calls ≡ map (λ m. tree.region erased_region) (asked names calls)
  answers-erased [] f g h made = refl
  answers-erased (c ∷ calls) f g h made =
      let one = erases f c.region c.depth c.answer made.0 h made.1 in
      let first = ap (region_tree names) one.0 ∙ region_tree-erased names in
      let rest = answers-erased calls made.0 g one.1 made.2 in
      λ i. first i ∷ rest i

  each-erased : (symbols : ℕ) (calls : List (RegionKind × ℕ)) (f : F) → Erases f → AnswersEach step symbols f calls
  each-erased symbols [] f h = tt
  each-erased symbols (c ∷ calls) f h = λ named a g k.
      let one = erases f c.0 c.1 a g h k in (subst (HasName symbols) (sym one.0) tt, each-erased symbols calls g one.1)

  -- a closure that answers the erased region each time answers regions of the interner
  pub answers-regions : (symbols : ℕ) (f : F) → Erases f → AnswersRegions step symbols f
  answers-regions symbols f h = record { at = λ calls. each-erased symbols calls f h }

  -- a fold by a closure that answers the erased region each time gives the erased tree
  pub places-erased : (f : F) (t u : Tree Depth) → Erases f → (last : F) × Places step names f t u last → u ≡ erased t
  places-erased f t u h p =
      p.1.are_placed ∙ ap (placed 0 t) (answers-erased p.1.calls f p.0 h p.1.made ∙ ap (map (λ (m : Met). tree.region erased_region)) p.1.are_met)

-- where a closure answers regions with names as it is asked about such ones, it answers regions
module _ {F : Type 0} (step : F → RegionKind → ℕ → RegionKind → F → Type 0) (symbols : ℕ)
    (named : (f : F) (r : RegionKind) (d : ℕ) (a : RegionKind) (g : F) → step f r d a g → HasName symbols r → HasName symbols a) where
  each-named : (calls : List (RegionKind × ℕ)) (f : F) → AnswersEach step symbols f calls
  each-named [] f = tt
  each-named (c ∷ calls) f = λ h a g k. (named f c.0 c.1 a g k h, each-named calls g)

  -- a closure that keeps the names of regions in range answers regions of the interner
  pub answers-named : (f : F) → AnswersRegions step symbols f
  answers-named f = record { at = λ calls. each-named calls f }

-- a bound region that was made has a name where its kind has
pub bound-named : (symbols : ℕ) (i : BoundVarIndexKind) (b : BoundRegion) (result : Result RegionKind Refusal) → (IsBelowGreatest (depth i) → result ≡ Ok (ReBound i b))
    → ((IsBelowGreatest (depth i) → ⊥) → result ≡ Err GreatestIndex) → HasName symbols (ReBound i b) → IfOk result (HasName symbols)
bound-named symbols i b result ok deep named = elim (IsBelowGreatest-or-not i) [
  | inl s ↦ rw (ok s) named
  | inr g ↦ rw (deep (λ s. not_both i s g)) tt
]

-- where what is placed fits, binders do
mutual
  binders-fit : (k : ℕ) (t : Tree Depth) (answers : List (Tree Depth)) → FitsUnder k (read k (placed k t answers)) → BindersFit k t
  binders-fit k (tree.param s i name) answers h = tt
  binders-fit k (tree.bound s d e) answers h = tt
  binders-fit k (tree.region r) answers h = tt
  binders-fit k (tree.term l ts) answers h = all_binders-fit k ts answers h
  binders-fit k (tree.node l ts) answers h = all_binders-fit k ts answers h
  binders-fit k (tree.binder vs t) answers h = (h.0, binders-fit (suc k) t answers h.1)

  all_binders-fit : (k : ℕ) (ts : Forest Depth) (answers : List (Tree Depth)) → FitsUnder_all k (read_all k (placed_all k ts answers)) → BindersFit_all k ts
  all_binders-fit k tree.none answers h = tt
  all_binders-fit k (tree.also t ts) answers h = (binders-fit k t _ h.0, all_binders-fit k ts _ h.1)

module _ (e : List Told) (p : ℕ) (table : Table) (u : Tree Depth) (at : term_at e p ≡ Some (record { table = table; tree = u })) where
  is_term : IsSomeAnd (term_at e p) (λ t. Unit {0})
  is_term = rw at tt

  tree-is : tree_at e p ≡ u
  tree-is = rw at refl

  erase-reason : (old new : Terms) (answers : List (Tree Depth)) (r : Refusal) → (met 0 (tree_at e p) ≡ [] → ⊥) → IsPlacingRefusal new (tree_at e p) answers r
      → MayRefuse (setting old new) e (call.EraseRegions p) r
  erase-reason old new answers Memory g h = want_of_memory (tt, g) refl
  erase-reason old new answers TableFull g h = full_table (tt, g) (full-table new h.0 h.2) refl
  erase-reason old new answers GreatestIndex g h = unfit (is_term, tt) (λ fits. h (binders-fit 0 (tree_at e p) _ fits)) refl
  erase-reason old new answers NoArguments g h = absurd h
  erase-reason old new answers (ArgOutOfRange i) g h = absurd h
  erase-reason old new answers (ArgKind i) g h = absurd h
  erase-reason old new answers (RegionVariable v) g h = absurd h
  erase-reason old new answers NotAClause g h = absurd h
  erase-reason old new answers NoSuchAnswer g h = absurd h

  -- a call that erases may be refused as a fold of regions of its term is, if a region is met
  pub erase-refused : {F : Type 0} (step : F → RegionKind → ℕ → RegionKind → F → Type 0) (names : ℕ → Name) (f : F) (old new : Terms) (r : Refusal)
      → (met 0 u ≡ [] → ⊥) → (last : F) × PlacesSome step names new f u r last → MayRefuse (setting old new) e (call.EraseRegions p) r
  erase-refused step names f old new r g h =
      erase-reason old new (answered names h.1.calls) r (subst (λ (t : Tree Depth). met 0 t ≡ [] → ⊥) (sym tree-is) g)
      (subst (λ (t : Tree Depth). IsPlacingRefusal new t (answered names h.1.calls) r) (sym tree-is) h.1.refused)

  -- a call that erases may have the erased tree of its term as its answer
  pub erase-allowed : (s : Setting) (v : Tree Depth) → v ≡ erased u → IsAllowed s e (call.EraseRegions p) (term table v)
  erase-allowed s v same = ((is_term, tt), (λ d. d), rw at refl, same ∙ ap erased (sym tree-is), λ r c. c)
