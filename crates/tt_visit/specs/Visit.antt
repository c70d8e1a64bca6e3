-- The visit of a tree.
use Rattle.std.specs.Prelude.{◌≡◌, ℕ, List, Option, Some, None}
use Rattle.tt_kinds.specs.Label.{Name, Sort, VarKind, Entry, Label, error_label}
use Rattle.tt_kinds.specs.Tree.{Depth, Tree, Forest, param, bound, term, node, binder, none, also}
use Rattle.tt_visit.specs.Root.{a_region, hooked, unhooked, a_part, root, error_of}
use Rattle.tt_visit.specs.declared.visitor.Next.{Next}
use Rattle.tt_visit.specs.declared.visitor.Next.TheVariants.{Skip, Descend}

-- what a visitor's hooks may do: M is the meaning of its state, and B the type of its break value
pub record Visits (M B : Type 0) : Type 1 where
  -- the state before, the region, the state after
  pub on_region : M → Tree Depth → M → Type 0
  pub region_breaks : M → Tree Depth → B → M → Type 0
  -- the state before, the error's number, the state after
  pub on_error : M → ℕ → M → Type 0
  pub error_breaks : M → ℕ → B → M → Type 0
  -- the state before, the term, the answer, the state after
  pub on_term : M → Tree Depth → Next → M → Type 0
  pub term_breaks : M → Tree Depth → B → M → Type 0
  -- the state before, the binder's variables, the answer, the state after
  pub enter : M → List (VarKind Name) → Next → M → Type 0
  pub enter_breaks : M → List (VarKind Name) → B → M → Type 0
  pub leave : M → List (VarKind Name) → M → Type 0

module _ {M B : Type 0} (V : Visits M B) where
  -- the visitor is called at an error, if there is one
  abbrev pub Tells : M → Option ℕ → M → Type 0
  Tells s None s' = s' ≡ s
  Tells s (Some e) s' = V.on_error s e s'

  -- the visitor breaks at an error
  abbrev pub TellingBreaks : M → Option ℕ → B → M → Type 0
  TellingBreaks s None b s' = ⊥
  TellingBreaks s (Some e) b s' = V.error_breaks s e b s'

  mutual
    -- the visitor goes from one state to another by a visit of a tree to its end
    pub data GoesOver : M → Tree Depth → M → Type 0 where
      region_seen : {s s' : M} {t : Tree Depth} → root t ≡ a_region → V.on_region s t s' → GoesOver s t s'
      skipped : {s s' : M} {t : Tree Depth} → root t ≡ hooked → V.on_term s t Skip s' → GoesOver s t s'
      went_inside : {s s1 s' : M} {t : Tree Depth} → root t ≡ hooked → V.on_term s t Descend s1 → GoesInside s1 t s'
          → GoesOver s t s'
      -- a pattern or an existential predicate has no hook and no error: its contents are always visited
      unhooked_seen : {s s' : M} {l : Label Name} {ts : Forest Depth} → root (term l ts) ≡ unhooked
          → GoesOverAll s ts s' → GoesOver s (term l ts) s'
      -- the visitor is called at the token of an error by itself
      token_seen : {s s' : M} {e : ℕ} → V.on_error s e s' → GoesOver s (node (error_label e) none) s'
      node_seen : {s s' : M} {l : Label Name} {ts : Forest Depth} → root (node l ts) ≡ a_part → GoesOverAll s ts s'
          → GoesOver s (node l ts) s'
      binder_skipped : {s s' : M} {vs : List (VarKind Name)} {t : Tree Depth} → V.enter s vs Skip s'
          → GoesOver s (binder vs t) s'
      binder_seen : {s s1 s2 s' : M} {vs : List (VarKind Name)} {t : Tree Depth}
          → V.enter s vs Descend s1 → GoesInside s1 (binder vs t) s2 → V.leave s2 vs s' → GoesOver s (binder vs t) s'

    -- the same for the contents of a term or a binder
    pub data GoesInside : M → Tree Depth → M → Type 0 where
      term_seen : {s s1 s' : M} {l : Label Name} {ts : Forest Depth} → Tells s (error_of l) s1 → GoesOverAll s1 ts s'
          → GoesInside s (term l ts) s'
      param_seen : {s : M} {o : Sort} {i : ℕ} {name : Name} → GoesInside s (param o i name) s
      bound_seen : {s : M} {o : Sort} {d : Depth} {e : Entry Name} → GoesInside s (bound o d e) s
      value_seen : {s s' : M} {vs : List (VarKind Name)} {t : Tree Depth} → GoesOver s t s'
          → GoesInside s (binder vs t) s'

    -- the same for trees in order
    pub data GoesOverAll : M → Forest Depth → M → Type 0 where
      all_seen : {s : M} → GoesOverAll s none s
      one_seen : {s s1 s' : M} {t : Tree Depth} {ts : Forest Depth} → GoesOver s t s1 → GoesOverAll s1 ts s'
          → GoesOverAll s (also t ts) s'

  mutual
    -- the visitor goes from one state to another by a visit of a tree that breaks
    pub data Breaks : M → Tree Depth → B → M → Type 0 where
      region_broke : {s s' : M} {t : Tree Depth} {b : B} → root t ≡ a_region → V.region_breaks s t b s'
          → Breaks s t b s'
      term_broke : {s s' : M} {t : Tree Depth} {b : B} → root t ≡ hooked → V.term_breaks s t b s' → Breaks s t b s'
      inside_broke : {s s1 s' : M} {t : Tree Depth} {b : B} → root t ≡ hooked → V.on_term s t Descend s1
          → BreaksInside s1 t b s' → Breaks s t b s'
      unhooked_broke : {s s' : M} {l : Label Name} {ts : Forest Depth} {b : B} → root (term l ts) ≡ unhooked
          → BreaksAll s ts b s' → Breaks s (term l ts) b s'
      token_broke : {s s' : M} {e : ℕ} {b : B} → V.error_breaks s e b s' → Breaks s (node (error_label e) none) b s'
      node_broke : {s s' : M} {l : Label Name} {ts : Forest Depth} {b : B} → root (node l ts) ≡ a_part
          → BreaksAll s ts b s' → Breaks s (node l ts) b s'
      enter_broke : {s s' : M} {vs : List (VarKind Name)} {t : Tree Depth} {b : B} → V.enter_breaks s vs b s'
          → Breaks s (binder vs t) b s'
      -- an entered binder is left even after a break
      under_broke : {s s1 s2 s' : M} {vs : List (VarKind Name)} {t : Tree Depth} {b : B}
          → V.enter s vs Descend s1 → BreaksInside s1 (binder vs t) b s2 → V.leave s2 vs s'
          → Breaks s (binder vs t) b s'

    -- the same inside a term or a binder
    pub data BreaksInside : M → Tree Depth → B → M → Type 0 where
      error_broke : {s s' : M} {l : Label Name} {ts : Forest Depth} {b : B} → TellingBreaks s (error_of l) b s'
          → BreaksInside s (term l ts) b s'
      term_inside_broke : {s s1 s' : M} {l : Label Name} {ts : Forest Depth} {b : B} → Tells s (error_of l) s1
          → BreaksAll s1 ts b s' → BreaksInside s (term l ts) b s'
      value_broke : {s s' : M} {vs : List (VarKind Name)} {t : Tree Depth} {b : B} → Breaks s t b s'
          → BreaksInside s (binder vs t) b s'

    -- the same for trees in order, at the first that breaks
    pub data BreaksAll : M → Forest Depth → B → M → Type 0 where
      first_broke : {s s' : M} {t : Tree Depth} {ts : Forest Depth} {b : B} → Breaks s t b s'
          → BreaksAll s (also t ts) b s'
      later_broke : {s s1 s' : M} {t : Tree Depth} {ts : Forest Depth} {b : B} → GoesOver s t s1 → BreaksAll s1 ts b s'
          → BreaksAll s (also t ts) b s'
