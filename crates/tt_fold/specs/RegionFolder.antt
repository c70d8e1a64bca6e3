-- The calls that a folder of regions makes of its closure, and the places of the answers.
use Rattle.std.specs.Prelude.{◌≡◌, ℕ, suc, ◌-◌, ◌≤◌, ◌⊎◌, Bool, true, false, not, nat_lt, List, [], ◌∷◌, ◌++◌, map, ⊤}
use Rattle.std.specs.List.{FoldsTo}
use Rattle.tt_index.specs.Greatest.{greatest}
use Rattle.tt_index.specs.declared.refusal.Refusal.{Refusal}
use Rattle.tt_index.specs.declared.refusal.Refusal.TheVariants.{Memory, TableFull, GreatestIndex}
use Rattle.tt_kinds.specs.Label.{Name, text_label}
use Rattle.tt_kinds.specs.Tree.{Depth, Tree, node, none}
use Rattle.tt_kinds.specs.Met.{Met, met, placed}
pub use Rattle.tt_kinds.specs.Fitting.{BindersFit, BindersFit_all}
use Rattle.tt_kinds.specs.Shape.{fill, IsPart, name_of}
use Rattle.tt_kinds.specs.Kinds.{region_shape}
use Rattle.tt_kinds.specs.declared.bound.BoundVarIndexKind.{BoundVarIndexKind}
use Rattle.tt_kinds.specs.declared.bound.BoundVarIndexKind.TheVariants.{Bound, Canonical}
use Rattle.tt_kinds.specs.declared.region_kind.RegionKind.{RegionKind}
use Rattle.tt_kinds.specs.declared.region_kind.RegionKind.TheVariants.{ReEarlyParam, ReBound, ReLateParam, ReStatic}
use Rattle.tt_kinds.specs.declared.region_kind.RegionKind.TheVariants.{ReVar, RePlaceholder, ReErased, ReError}
use Rattle.tt_interner.specs.Rows.{Row, meaning}
use Rattle.tt_interner.specs.Stored.{Counters, Terms, IsNoClauseList, IsUnbuilt}
use Rattle.tt_fold.specs.Walk.{Hooks, keep, descend, Walks, Fails}
use Rattle.tt_fold.specs.Counts.{Standing, keeps_counters}
use Rattle.tt_fold.specs.Steps.{refusals_of}
use Rattle.tt_fold.specs.Stands.{StandsIn}

-- the variable's binder is none of the k around it, and the variable is not canonical
abbrev pub is_outside : ℕ → BoundVarIndexKind → Bool
is_outside k (Bound d) = not (nat_lt d k)
is_outside k Canonical = false

-- a folder of regions calls its closure at the region under k binders
abbrev pub is_met : ℕ → RegionKind → Bool
is_met k (ReEarlyParam p) = true
is_met k (ReBound i b) = is_outside k i
is_met k (ReLateParam p) = true
is_met k ReStatic = true
is_met k (ReVar v) = true
is_met k (RePlaceholder p) = true
is_met k ReErased = true
is_met k (ReError e) = true

-- the texts of the rows' symbols
abbrev pub names_in : List Row → ℕ → Name
names_in rows n = name_of (meaning rows) n

-- if the region's name is a symbol, its number is below the number of symbols
abbrev pub HasName : ℕ → RegionKind → Type 0
HasName symbols r = IsPart (λ t. symbols) (region_shape r)

-- the tree of a region whose symbols have these texts
abbrev pub region_tree : (ℕ → Name) → RegionKind → Tree Depth
region_tree names r = fill (λ t n. node (text_label (names n)) none) (region_shape r)

-- a call of the closure: a region, how many binders enclose it, and the answer
pub record RegionCall : Type 0 where
  pub region : RegionKind
  pub depth : ℕ
  pub answer : RegionKind

-- the regions at which the closure was called, with the binders above them
abbrev pub asked : (ℕ → Name) → List RegionCall → List Met
asked names calls = map (λ c. record { standing = region_tree names c.region; under = c.depth }) calls

-- the answers of the closure, in order
abbrev pub answered : (ℕ → Name) → List RegionCall → List (Tree Depth)
answered names calls = map (λ c. region_tree names c.answer) calls

-- the state of a folder of regions: its closure, how many binders it entered, and the texts of the symbols
pub record Asking (F : Type 0) : Type 0 where
  pub closure : F
  pub under : ℕ
  pub names : ℕ → Name

-- the state one binder further in
abbrev pub deeper : {F : Type 0} → Asking F → Asking F
deeper s = record { closure = s.closure; under = suc s.under; names = s.names }

-- the state one binder further out
abbrev pub higher : {F : Type 0} → Asking F → Asking F
higher s = record { closure = s.closure; under = s.under - 1; names = s.names }

-- Why a fold of the regions in a tree was refused after these answers: memory was refused; a term or a list with these
-- answers in it, whatever the next answers are, is new and its table is full; or binders are nested too deep.
abbrev pub IsPlacingRefusal : Terms → Tree Depth → List (Tree Depth) → Refusal → Type 0
IsPlacingRefusal terms t answers Memory = ⊤
IsPlacingRefusal terms t answers TableFull =
    (u : Tree Depth) × ((more : List (Tree Depth)) → StandsIn u (placed 0 t (answers ++ more)))
    × IsUnbuilt terms u TableFull
IsPlacingRefusal terms t answers GreatestIndex = BindersFit 0 t → ⊥
IsPlacingRefusal terms t answers _ = ⊥

module _ {F : Type 0} (step : F → RegionKind → ℕ → RegionKind → F → Type 0) where
  -- the calls were made one after the other, each from the state that the call before left
  abbrev pub AreMade : F → List RegionCall → F → Type 0
  AreMade f calls g = FoldsTo (λ p c q. step p c.region c.depth c.answer q) f calls g

  -- The closure is called at the regions one after the other, each time from the state that the call before left. As
  -- long as the names of the regions are among the symbols, so are the names of the answers.
  abbrev pub AnswersEach : ℕ → F → List (RegionKind × ℕ) → Type 0
  AnswersEach symbols f [] = ⊤
  AnswersEach symbols f (c ∷ calls) = HasName symbols c.0 → (answer : RegionKind) (g : F) → step f c.0 c.1 answer g →
      HasName symbols answer × AnswersEach symbols g calls

  -- the same whatever the regions are
  pub record AnswersRegions (symbols : ℕ) (f : F) : Type 0 where
    pub at : (calls : List (RegionKind × ℕ)) → AnswersEach symbols f calls

  -- calls of the closure at exactly the regions met in t, in order, lead from f to `last`, and u is t with the answers
  -- in the places of these regions
  pub record Places (names : ℕ → Name) (f : F) (t u : Tree Depth) (last : F) : Type 0 where
    pub calls : List RegionCall
    pub made : AreMade f calls last
    pub are_met : asked names calls ≡ met 0 t
    pub are_placed : u ≡ placed 0 t (answered names calls)

  -- calls of the closure at exactly the first of the regions met in t, in order, lead from f to `last`, and then the
  -- fold was refused
  pub record PlacesSome (names : ℕ → Name) (terms : Terms) (f : F) (t : Tree Depth) (e : Refusal) (last : F)
      : Type 0 where
    pub calls : List RegionCall
    pub rest : List Met
    pub made : AreMade f calls last
    pub are_first : asked names calls ++ rest ≡ met 0 t
    pub refused : IsPlacingRefusal terms t (answered names calls) e

  -- the closure is called at a region, and its answer replaces the region
  pub record AsksClosure (s : Asking F) (t r : Tree Depth) (s' : Asking F) : Type 0 where
    pub region : RegionKind
    pub answer : RegionKind
    pub is_region : t ≡ region_tree s.names region
    pub is_answer : r ≡ region_tree s.names answer
    pub stepped : step s.closure region s.under answer s'.closure
    pub under : s'.under ≡ s.under
    pub names : s'.names ≡ s.names

  -- a folder of regions calls its closure at each region that is met, and keeps only terms without such a region
  abbrev pub region_hooks : Hooks (Asking F) Refusal
  region_hooks = record {
    on_region = λ s t r s'. ((met s.under t ≡ record { standing = t; under = s.under } ∷ []) × AsksClosure s t r s')
        ⊎ ((met s.under t ≡ []) × (s' ≡ s) × (r ≡ t));
    region_fails = λ unbuilt s t e s'. ⊥;
    on_term = λ s t a s'. (s' ≡ s) × ((a ≡ descend) ⊎ ((a ≡ keep) × (met s.under t ≡ [])));
    term_fails = λ unbuilt s t e s'. ⊥;
    after_term = λ s t u r s'. (s' ≡ s) × (r ≡ u);
    after_fails = λ unbuilt s t u e s'. ⊥;
    enter = λ s vs s'. s' ≡ deeper s;
    enter_fails = λ unbuilt s vs e s'. (s' ≡ s) × (e ≡ GreatestIndex) × (greatest ≤ s.under);
    leave = λ s vs s'. s' ≡ higher s;
    leave_fails = λ unbuilt s vs e s'. ⊥;
  }

  -- the state of a new folder of regions with the closure, and the counts
  abbrev pub just_made : (ℕ → Name) → F → Counters → Standing (Asking F)
  just_made names f counters = record { state = record { closure = f; under = 0; names = names }; counters = counters }

  -- the walk of a new folder of regions calls its closure at exactly the regions met, and places the answers
  abbrev pub RegionFoldersPlace : Type 0
  RegionFoldersPlace = (names : ℕ → Name) (f : F) (counters : Counters) (t u : Tree Depth) (s' : Standing (Asking F)) →
      Walks (keeps_counters region_hooks) (just_made names f counters) t u s' → Places names f t u s'.state.closure

  -- if the walk ends with a refusal, in a tree whose lists of clauses hold clauses alone, it called its closure at
  -- exactly the first of the regions met
  abbrev pub RegionFoldersPlaceSome : Type 0
  RegionFoldersPlaceSome = (names : ℕ → Name) (f : F) (counters : Counters) (terms : Terms) (t : Tree Depth)
      (e : Refusal) (s' : Standing (Asking F)) →
      ((u : Tree Depth) → StandsIn u t → IsNoClauseList u → ⊥) →
      Fails (keeps_counters region_hooks) (refusals_of terms) (just_made names f counters) t e s'
      → PlacesSome names terms f t e s'.state.closure
