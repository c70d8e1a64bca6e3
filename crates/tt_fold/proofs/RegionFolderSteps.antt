-- What the hooks of a folder of regions do, and what comes of a fold.
use Rattle.std.proofs.Common.{◌≡◌, ℕ, zero, suc, arith, Bool, true, false, List, [], ◌∷◌, ◌++◌, Result, Ok, Err, IfOk}
use Rattle.std.proofs.Common.{IfErr, refl, sym, ap, ◌∙◌, inl, inr, append-nil}
use Rattle.std.specs.Prelude.{not, nat_lt, bit_and, ◌≢◌, IsTrue, if◌then◌else◌}
use Rattle.std.proofs.lemmas.Nat.{and_comm}
use Rattle.tt_index.specs.declared.refusal.Refusal.{Refusal}
use Rattle.tt_index.specs.declared.refusal.Refusal.TheVariants.{Memory, TableFull, NotAClause}
use Rattle.tt_kinds.specs.Label.{Name, static_region, region_sort}
use Rattle.tt_kinds.specs.Tree.{Depth, Tree, region}
use Rattle.tt_kinds.specs.Met.{Met, met_leaf, met, placed}
use Rattle.tt_kinds.specs.Scan.{scan}
use Rattle.tt_kinds.specs.Shape as shape
use Rattle.tt_kinds.specs.Shape.{Shape, fill, HasParts}
use Rattle.tt_kinds.specs.Kinds.{region_shape}
use Rattle.tt_kinds.specs.declared.bound.BoundVarIndexKind.TheVariants.{Bound, Canonical}
use Rattle.tt_kinds.specs.declared.region_kind.RegionKind.{RegionKind}
use Rattle.tt_kinds.specs.declared.region_kind.RegionKind.TheVariants.{ReEarlyParam, ReBound, ReLateParam, ReStatic}
use Rattle.tt_kinds.specs.declared.region_kind.RegionKind.TheVariants.{ReVar, RePlaceholder, ReErased, ReError}
use Rattle.tt_kinds.specs.declared.table.Table.TheVariants.{Symbols}
use Rattle.tt_interner.specs.Rows.{Row, row_shape, size, meaning}
use Rattle.tt_interner.specs.Stored.{Counters, Terms, IsUnbuilt, IsNoClauseList}
use Rattle.tt_fold.specs.Walk.{Walks, Fails}
use Rattle.tt_fold.specs.Stands.{StandsIn}
use Rattle.tt_fold.specs.Counts.{Standing, keeps_counters}
use Rattle.tt_fold.specs.Steps.{Folds, IsPartOf, tree_in, IsPartBy, tree_by, IsRefused, refusals_of}
use Rattle.tt_fold.specs.RegionFolder.{is_met, names_in, HasName, region_tree, answered, Asking, BindersFit}
use Rattle.tt_fold.specs.RegionFolder.{IsPlacingRefusal, AnswersRegions, Places, PlacesSome, region_hooks, just_made}
use Rattle.tt_fold.specs.RegionFolder.{RegionFoldersPlace, RegionFoldersPlaceSome}
use Rattle.tt_visit.proofs.MeetsRegionsLaws.{met-none}
use Rattle.tt_fold.proofs.ClauseLaws.{KeepsClauses, keeps-fine}
use Rattle.tt_fold.proofs.CounterLaws.{walks-quietly, fails-quietly}
use Rattle.tt_fold.proofs.RegionFolderLaws.{placed-none, asks, asks_some, Why, all_unbuilt, one_unbuilt, too_deep}

-- a region's tree among the rows
pub region-tree : (rows : List Row) (r : RegionKind) → tree_in rows (region_shape r) ≡ region_tree (names_in rows) r
unfolding fill
region-tree rows (ReEarlyParam p) = refl
region-tree rows (ReBound i b) = refl
region-tree rows (ReLateParam p) = refl
region-tree rows ReStatic = refl
region-tree rows (ReVar v) = refl
region-tree rows (RePlaceholder p) = refl
region-tree rows ReErased = refl
region-tree rows (ReError e) = refl

-- a region's name is all that it has of the rows
pub part-named : (rows : List Row) (r : RegionKind) → IsPartOf rows (region_shape r) → HasName (size rows Symbols) r
part-named rows (ReEarlyParam p) h = h
part-named rows (ReBound i b) h = h
part-named rows (ReLateParam p) h = h
part-named rows ReStatic h = h
part-named rows (ReVar v) h = h
part-named rows (RePlaceholder p) h = h
part-named rows ReErased h = h
part-named rows (ReError e) h = h

-- a region whose name is one of the rows' symbols is in range
pub named-part : (rows : List Row) (r : RegionKind) → HasName (size rows Symbols) r → IsPartOf rows (region_shape r)
named-part rows (ReEarlyParam p) h = h
named-part rows (ReBound i b) h = h
named-part rows (ReLateParam p) h = h
named-part rows ReStatic h = h
named-part rows (ReVar v) h = h
named-part rows (RePlaceholder p) h = h
named-part rows ReErased h = h
named-part rows (ReError e) h = h

-- a region that is asked about is met
outside-met : (b : Bool) (k : ℕ) (t : Tree Depth) → not b ≡ true → (if b then [] else met_leaf region_sort t k) ≡ record { standing = t; under = k } ∷ []
outside-met true k t h = cc
outside-met false k t h = refl

outside-own : (b : Bool) (k : ℕ) (t : Tree Depth) → not b ≡ false → (if b then [] else met_leaf region_sort t k) ≡ []
outside-own true k t h = refl
outside-own false k t h = cc

met-region : (rows : List Row) (k : ℕ) (r : RegionKind) → is_met k r ≡ true
    → met k (tree_in rows (region_shape r)) ≡ record { standing = tree_in rows (region_shape r); under = k } ∷ []
unfolding fill
met-region rows k (ReEarlyParam p) h = refl
met-region rows k (ReBound (Bound d) b) h = outside-met (nat_lt d k) k _ h
met-region rows k (ReBound Canonical b) h = cc
met-region rows k (ReLateParam p) h = refl
met-region rows k ReStatic h = refl
met-region rows k (ReVar v) h = refl
met-region rows k (RePlaceholder p) h = refl
met-region rows k ReErased h = refl
met-region rows k (ReError e) h = refl

-- and no other one
own-region : (rows : List Row) (k : ℕ) (r : RegionKind) → is_met k r ≡ false → met k (tree_in rows (region_shape r)) ≡ []
unfolding fill
own-region rows k (ReBound (Bound d) b) h = outside-own (nat_lt d k) k _ h
own-region rows k (ReBound Canonical b) h = refl
own-region rows k (ReEarlyParam p) h = cc
own-region rows k (ReLateParam p) h = cc
own-region rows k ReStatic h = cc
own-region rows k (ReVar v) h = cc
own-region rows k (RePlaceholder p) h = cc
own-region rows k ReErased h = cc
own-region rows k (ReError e) h = cc

is_zero : (n : ℕ) (b : Bool) → b ≡ false → (n ≢ 0 → IsTrue b) → n ≡ 0
is_zero zero b e h = refl
is_zero (suc n) b e h = let never = h (λ z. omega (arith, z)) in cc

-- no region is met in a tree that has no flag of one
pub none-flagged : (k : ℕ) (t : Tree Depth) (flags : ℕ) (b : Bool) → flags ≡ scan t → b ≡ false → (bit_and flags 0x260000 ≢ 0 → IsTrue b) → met k t ≡ []
none-flagged k t flags b e none h = met-none k t (and_comm 0x260000 (scan t) ∙ ap (λ n. bit_and n 0x260000) (sym e) ∙ is_zero (bit_and flags 0x260000) b none h)

module _ {F : Type 0} (step : F → RegionKind → ℕ → RegionKind → F → Type 0) where
  -- where a folder is
  abbrev pub asking_at : List Row → F → ℕ → Asking F
  asking_at rows f k = record { closure = f; under = k; names = names_in rows }

  -- the hook at a region that is met
  pub region_asked : (rows : List Row) (k : ℕ) (f g : F) (r a : RegionKind) → is_met k r ≡ true → step f r k a g
      → (region_hooks step).on_region (asking_at rows f k) (tree_in rows (region_shape r)) (tree_in rows (region_shape a)) (asking_at rows g k)
  region_asked rows k f g r a is h = inl (
    met-region rows k r is,
    record { region = r; answer = a; is_region = region-tree rows r; is_answer = region-tree rows a; stepped = h; under = refl; names = refl },
  )

  -- and at one that is not
  pub region_kept : (rows : List Row) (k : ℕ) (f : F) (r : RegionKind) → is_met k r ≡ false
      → (region_hooks step).on_region (asking_at rows f k) (tree_in rows (region_shape r)) (tree_in rows (region_shape r)) (asking_at rows f k)
  region_kept rows k f r is = inr (own-region rows k r is, refl, refl)

  -- what a call leaves can be asked again
  pub asked_again : (symbols k : ℕ) (f g : F) (r a : RegionKind) → AnswersRegions step symbols f → HasName symbols r → step f r k a g
      → HasName symbols a × AnswersRegions step symbols g
  asked_again symbols k f g r a h named s = ((h.at ((r, k) ∷ []) named a g s).0, record { at = λ calls. (h.at ((r, k) ∷ calls) named a g s).1 })

-- no row has the tree of a region
no_row : (rows : List Row) (s : Shape) → HasParts (size rows) s → fill (meaning rows) s ≡ region static_region → ⊥
unfolding fill
no_row rows (shape.param o i name) p h = cc
no_row rows (shape.bound o d e) p h = cc
no_row rows (shape.region r) p h = p
no_row rows (shape.term l ss) p h = cc
no_row rows (shape.node l ss) p h = cc
no_row rows (shape.binder n s) p h = p
no_row rows (shape.stored t n) p h = p
no_row rows (shape.part_of t n e) p h = p

module _ (terms : Terms) (t : Tree Depth) (answers : List (Tree Depth)) where
  every_unbuilt : (r : Refusal) → IsUnbuilt terms (region static_region) r → IsPlacingRefusal terms t answers r
  every_unbuilt Memory h = tt
  every_unbuilt TableFull h = absurd (no_row terms.rows (row_shape h.row) h.parts h.fills)
  every_unbuilt NotAClause h = absurd h
  every_unbuilt _ h = absurd h

  some_unbuilt : (u : Tree Depth) → ((more : List (Tree Depth)) → StandsIn u (placed 0 t (answers ++ more))) → (IsNoClauseList u → ⊥) → (r : Refusal) → IsUnbuilt terms u r
      → IsPlacingRefusal terms t answers r
  some_unbuilt u stands fine Memory h = tt
  some_unbuilt u stands fine TableFull h = (u, stands, h)
  some_unbuilt u stands fine NotAClause h = absurd (fine h)
  some_unbuilt u stands fine _ h = absurd h

  placing_refusal : (e : Refusal) → Why (IsRefused terms) (λ u ys. StandsIn u (placed 0 t ys)) (BindersFit 0 t) answers e → IsPlacingRefusal terms t answers e
  placing_refusal e why = elim why [
    | all_unbuilt b ↦ (let x = b (region static_region) in rw x.1.0 (every_unbuilt x.0 x.1.1))
    | one_unbuilt u h fine b ↦ rw b.1.0 (some_unbuilt u h fine b.0 b.1.1)
    | too_deep is h ↦ rw is h
  ]

module _ {F : Type 0} (step : F → RegionKind → ℕ → RegionKind → F → Type 0) where
  -- what the walk of a folder promises that was just made
  pub walk_places : RegionFoldersPlace step
  walk_places names f counters t u s' w =
      let m = asks step (walks-quietly (region_hooks step) w).0 in
      record {
        calls = m.calls;
        made = m.made;
        are_met = m.are_met;
        are_placed = m.are_placed [] ∙ ap (placed 0 t) (append-nil (answered names m.calls));
      }

  walk_ends : (names : ℕ → Name) (f : F) (counters : Counters) (terms : Terms) (t : Tree Depth) (e : Refusal) (s' : Standing (Asking F)) → KeepsClauses t
      → Fails (keeps_counters (region_hooks step)) (refusals_of terms) (just_made step names f counters) t e s' → PlacesSome step names terms f t e s'.state.closure
  walk_ends names f counters terms t e s' keeps d =
      let m = asks_some step (refusals_of terms) (fails-quietly (region_hooks step) (refusals_of terms) d).0 keeps in
      record {
        calls = m.calls;
        rest = m.rest;
        made = m.made;
        are_first = m.are_first;
        refused = placing_refusal terms t (answered names m.calls) e m.why;
      }

  -- a walk by a new folder of regions that fails called the closure at exactly the first regions met
  pub walk_places_some : RegionFoldersPlaceSome step
  walk_places_some names f counters terms t e s' fine d = walk_ends names f counters terms t e s' (keeps-fine t fine) d

-- what a fold of regions of a whole value promises
pub record IsFolded {F T : Type 0} (step : F → RegionKind → ℕ → RegionKind → F → Type 0) (shape : T → Shape) (f : F) (terms : Terms) (x : T) (result : Result T Refusal) (terms' : Terms) (last : F) : Type 0 where
  pub placed : IfOk result (λ y. Places step (names_in terms.rows) f (tree_by shape terms.rows x) (tree_by shape terms'.rows y) last)
  pub err : IfErr result (λ e. PlacesSome step (names_in terms.rows) terms' f (tree_by shape terms.rows x) e last)

-- a fold by a new folder of regions puts its closure's answers in their places, or ends after some of the calls
pub folded : {F S T : Type 0} {step : F → RegionKind → ℕ → RegionKind → F → Type 0} {owned : List Row → S → Type 0} {means : List Row → S → Asking F}
    {terms terms' : Terms} {s s' : S} {x : T} (shape : T → Shape) (f : F) (result : Result T Refusal)
    → Folds owned means (IsPartBy shape) (tree_by shape) (Walks (keeps_counters (region_hooks step))) (Fails (keeps_counters (region_hooks step)) (refusals_of terms')) terms s x result terms' s'
    → means terms.rows s ≡ record { closure = f; under = 0; names = names_in terms.rows } → KeepsClauses (tree_by shape terms.rows x)
    → IsFolded step shape f terms x result terms' (means terms'.rows s').closure
folded {step} {terms} {x} shape f (Ok y) d start keeps =
    record { placed = walk_places step (names_in terms.rows) f terms.counters (tree_by shape terms.rows x) _ _ (rw start at d.outcome.1); err = tt }
folded {step} {terms} {terms'} {x} shape f (Err e) d start keeps =
    record { placed = tt; err = walk_ends step (names_in terms.rows) f terms.counters terms' (tree_by shape terms.rows x) e _ keeps (rw start at d.outcome) }

-- where no region is met nothing is asked, and the tree stays
pub not-some : (ms : List Met) → (ms ≢ [] → false ≡ true) → ms ≡ []
not-some [] h = refl
not-some (m ∷ ms) h = let never : false ≡ true = h (λ none. cc) in cc

-- where no region is met in a tree, a fold of its regions makes no call and gives the same tree
pub nothing_placed : {F : Type 0} (step : F → RegionKind → ℕ → RegionKind → F → Type 0) (names : ℕ → Name) (f : F) (t : Tree Depth) → met 0 t ≡ [] → Places step names f t t f
nothing_placed step names f t h = record { calls = []; made = refl; are_met = sym h; are_placed = sym (placed-none 0 t [] h) }
