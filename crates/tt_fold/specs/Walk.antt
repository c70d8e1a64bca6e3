-- The walk of a folder over a tree, and a walk that an error ends.
use Rattle.std.specs.Prelude.{◌≡◌, ℕ, List, Option, Some, None, cond}
use Rattle.tt_kinds.specs.Label.{Name, Sort, VarKind, Entry, Label, clause_list_label, clause_label}
use Rattle.tt_kinds.specs.Tree.{Depth, Tree, param, bound, term, node, binder, Forest, none, also}
use Rattle.tt_kinds.specs.declared.table.TermTable.{TermTable}
use Rattle.tt_kinds.specs.TermTable.{is_clause_table}
use Rattle.tt_interner.specs.Clauses.{HasOther}
use Rattle.tt_visit.specs.Root.{a_region, hooked, unhooked, root}

-- the answer of a hook before a term's children
pub data Answer : Type 0 where
  replace : Tree Depth → Answer
  keep : Answer
  descend : Answer

-- the tree is a region
abbrev pub IsRegion : Tree Depth → Type 0
IsRegion t = root t ≡ a_region

-- the tree is a stored term with a hook
abbrev pub IsTerm : Tree Depth → Type 0
IsTerm t = root t ≡ hooked

-- the tree is a stored term without a hook
abbrev pub IsPassed : Tree Depth → Type 0
IsPassed t = root t ≡ unhooked

-- what trees in order have to become: any trees, or clauses alone
pub data Wanted : Type 0 where
  any_trees : Wanted
  clause_trees : Wanted

-- what the children of a term with the label have to become
abbrev pub wanted_in : Label Name → Wanted
wanted_in clause_list_label = clause_trees
wanted_in _ = any_trees

-- what the items of a list of the table have to become
abbrev pub wanted_of : TermTable → Wanted
wanted_of t = cond (is_clause_table t) clause_trees any_trees

-- one of the trees is no clause, where clauses are wanted
abbrev pub HasUnwanted : Wanted → Forest Depth → Type 0
HasUnwanted any_trees us = ⊥
HasUnwanted clause_trees us = HasOther us

-- a clause by itself is lost: its predicate was a clause, and the result is none
abbrev pub LosesClause : Label Name → Forest Depth → Forest Depth → Type 0
LosesClause clause_label ts us = (HasOther ts → ⊥) × HasOther us
LosesClause _ ts us = ⊥

-- What a folder's hooks may do: M is the meaning of the folder's state, and E the type of its errors. The relation that
-- `region_fails` and its relatives take says which errors mean that which tree is not built.
pub record Hooks (M E : Type 0) : Type 1 where
  -- state, region, answer, state
  pub on_region : M → Tree Depth → Tree Depth → M → Type 0
  pub region_fails : (Tree Depth → E → Type 0) → M → Tree Depth → E → M → Type 0
  -- state, term, answer, state
  pub on_term : M → Tree Depth → Answer → M → Type 0
  pub term_fails : (Tree Depth → E → Type 0) → M → Tree Depth → E → M → Type 0
  -- state, term, term with the children's results, answer, state
  pub after_term : M → Tree Depth → Tree Depth → Tree Depth → M → Type 0
  pub after_fails : (Tree Depth → E → Type 0) → M → Tree Depth → Tree Depth → E → M → Type 0
  -- state, the binder's variables, state
  pub enter : M → List (VarKind Name) → M → Type 0
  pub enter_fails : (Tree Depth → E → Type 0) → M → List (VarKind Name) → E → M → Type 0
  pub leave : M → List (VarKind Name) → M → Type 0
  pub leave_fails : (Tree Depth → E → Type 0) → M → List (VarKind Name) → E → M → Type 0

module _ {M E : Type 0} (H : Hooks M E) where
  mutual
    -- the walk of a tree: the state before, the tree, its result, and the state after
    pub data Walks : M → Tree Depth → Tree Depth → M → Type 0 where
      at_region : {s s' : M} {t r : Tree Depth} → IsRegion t → H.on_region s t r s' → Walks s t r s'
      replaced : {s s' : M} {t r : Tree Depth} → IsTerm t → H.on_term s t (replace r) s' → Walks s t r s'
      kept : {s s' : M} {t : Tree Depth} → IsTerm t → H.on_term s t keep s' → Walks s t t s'
      descended : {s s1 s' : M} {t r : Tree Depth} → IsTerm t → H.on_term s t descend s1 → Descends s1 t r s'
          → Walks s t r s'
      passed : {s s' : M} {t u : Tree Depth} → IsPassed t → WalksInside s t u s' → Walks s t u s'
      -- a clause by itself has to stay a clause
      at_node : {s s' : M} {l : Label Name} {ts us : Forest Depth}
          → WalksAll s ts us s' → (LosesClause l ts us → ⊥) → Walks s (node l ts) (node l us) s'
      at_binder : {s s1 s2 s' : M} {vs : List (VarKind Name)} {t u : Tree Depth}
          → H.enter s vs s1 → Walks s1 t u s2 → H.leave s2 vs s' → Walks s (binder vs t) (binder vs u) s'

    -- the same for a term whose hook answered `descend`
    pub data Descends : M → Tree Depth → Tree Depth → M → Type 0 where
      rebuilt : {s s1 s' : M} {t u r : Tree Depth} → WalksInside s t u s1 → H.after_term s1 t u r s' → Descends s t r s'

    -- the same for the contents of a term, whose label stays: the items of a list of clauses have to become clauses
    pub data WalksInside : M → Tree Depth → Tree Depth → M → Type 0 where
      in_term : {s s' : M} {l : Label Name} {ts us : Forest Depth}
          → WalksAll s ts us s' → (HasUnwanted (wanted_in l) us → ⊥) → WalksInside s (term l ts) (term l us) s'
      in_param : {s : M} {o : Sort} {i : ℕ} {name : Name} → WalksInside s (param o i name) (param o i name) s
      in_bound : {s : M} {o : Sort} {d : Depth} {e : Entry Name} → WalksInside s (bound o d e) (bound o d e) s

    -- the same for trees in order
    pub data WalksAll : M → Forest Depth → Forest Depth → M → Type 0 where
      done : {s : M} → WalksAll s none none s
      next : {s s1 s' : M} {t u : Tree Depth} {ts us : Forest Depth}
          → Walks s t u s1 → WalksAll s1 ts us s' → WalksAll s (also t ts) (also u us) s'

-- the meaning of errors
pub record Errors (E : Type 0) : Type 1 where
  -- the error says that the tree was not built
  pub unbuilt : Tree Depth → E → Type 0
  -- the error says that an item of a list of clauses, or a clause by itself, did not become a clause
  pub unwanted : E → Type 0

-- A walk that an error ends: the state before, the tree, the error, and the state at the end. The error is:
-- - a hook's error;
-- - an error that says that the tree to be stored was not built;
-- - an error that says so of every tree, if the walk's own memory was refused;
-- - or an error that says that an item of a list of clauses, or a clause by itself, did not become a clause.
module _ {M E : Type 0} (H : Hooks M E) (errors : Errors E) where
  mutual
    pub data Fails : M → Tree Depth → E → M → Type 0 where
      region_failed : {s s_end : M} {t : Tree Depth} {e : E} → IsRegion t → H.region_fails errors.unbuilt s t e s_end
          → Fails s t e s_end
      term_failed : {s s_end : M} {t : Tree Depth} {e : E} → IsTerm t → H.term_fails errors.unbuilt s t e s_end
          → Fails s t e s_end
      descent_failed : {s s1 s_end : M} {t : Tree Depth} {e : E}
          → IsTerm t → H.on_term s t descend s1 → DescentFails s1 t e s_end → Fails s t e s_end
      passed_failed : {s s_end : M} {t : Tree Depth} {e : E} → IsPassed t → InsideFails s t e s_end → Fails s t e s_end
      enter_failed : {s s_end : M} {vs : List (VarKind Name)} {t : Tree Depth} {e : E}
          → H.enter_fails errors.unbuilt s vs e s_end → Fails s (binder vs t) e s_end
      under_failed : {s s1 s_end : M} {vs : List (VarKind Name)} {t : Tree Depth} {e : E}
          → H.enter s vs s1 → Fails s1 t e s_end → Fails s (binder vs t) e s_end
      leave_failed : {s s1 s2 s_end : M} {vs : List (VarKind Name)} {t u : Tree Depth} {e : E}
          → H.enter s vs s1 → Walks H s1 t u s2 → H.leave_fails errors.unbuilt s2 vs e s_end
          → Fails s (binder vs t) e s_end
      node_failed : {s s_end : M} {l : Label Name} {ts : Forest Depth} {e : E} → FailsAll any_trees s ts e s_end
          → Fails s (node l ts) e s_end
      node_not_built : {s s1 : M} {l : Label Name} {ts us : Forest Depth} {e : E}
          → WalksAll H s ts us s1 → errors.unbuilt (node l us) e → Fails s (node l ts) e s1
      clause_lost : {s s1 : M} {l : Label Name} {ts us : Forest Depth} {e : E}
          → WalksAll H s ts us s1 → LosesClause l ts us → errors.unwanted e → Fails s (node l ts) e s1

    -- the same for a term whose hook answered `descend`
    pub data DescentFails : M → Tree Depth → E → M → Type 0 where
      inside_failed : {s s_end : M} {t : Tree Depth} {e : E} → InsideFails s t e s_end → DescentFails s t e s_end
      after_failed : {s s1 s_end : M} {t u : Tree Depth} {e : E}
          → WalksInside H s t u s1 → H.after_fails errors.unbuilt s1 t u e s_end → DescentFails s t e s_end

    -- the contents of a term were not folded, or the term was not rebuilt from them
    pub data InsideFails : M → Tree Depth → E → M → Type 0 where
      in_term_failed : {s s_end : M} {l : Label Name} {ts : Forest Depth} {e : E} → FailsAll (wanted_in l) s ts e s_end
          → InsideFails s (term l ts) e s_end
      not_built : {s s1 : M} {t u : Tree Depth} {e : E} → WalksInside H s t u s1 → errors.unbuilt u e
          → InsideFails s t e s1

    -- the same for trees in order: the walk goes on after a tree only if the result is what the tree has to become
    pub data FailsAll : Wanted → M → Forest Depth → E → M → Type 0 where
      stopped : {w : Wanted} {s : M} {ts : Forest Depth} {e : E} → ((u : Tree Depth) → errors.unbuilt u e)
          → FailsAll w s ts e s
      here : {w : Wanted} {s s_end : M} {t : Tree Depth} {ts : Forest Depth} {e : E} → Fails s t e s_end
          → FailsAll w s (also t ts) e s_end
      no_clause : {w : Wanted} {s s_end : M} {t u : Tree Depth} {ts : Forest Depth} {e : E}
          → Walks H s t u s_end → HasUnwanted w (also u none) → errors.unwanted e → FailsAll w s (also t ts) e s_end
      later : {w : Wanted} {s s1 s_end : M} {t u : Tree Depth} {ts : Forest Depth} {e : E}
          → Walks H s t u s1 → (HasUnwanted w (also u none) → ⊥) → FailsAll w s1 ts e s_end
          → FailsAll w s (also t ts) e s_end

-- the same for a child, which has at most one tree; the walk of an absent child does not fail
module _ {M E : Type 0} (H : Hooks M E) (errors : Errors E) where
  pub data ChildFails : M → Forest Depth → E → M → Type 0 where
    child_failed : {s s_end : M} {t : Tree Depth} {e : E} → Fails H errors s t e s_end
        → ChildFails s (also t none) e s_end

-- the walk of trees, under a binder of the variables if there is one
module _ {M E : Type 0} (H : Hooks M E) where
  pub data WalksUnder : Option (List (VarKind Name)) → M → Forest Depth → Forest Depth → M → Type 0 where
    in_open : {s s' : M} {ts us : Forest Depth} → WalksAll H s ts us s' → WalksUnder None s ts us s'
    in_binder : {s s1 s2 s' : M} {vs : List (VarKind Name)} {ts us : Forest Depth}
        → H.enter s vs s1 → WalksAll H s1 ts us s2 → H.leave s2 vs s' → WalksUnder (Some vs) s ts us s'

-- the same for a walk that an error ends
module _ {M E : Type 0} (H : Hooks M E) (errors : Errors E) where
  pub data FailsUnder : Option (List (VarKind Name)) → M → Forest Depth → E → M → Type 0 where
    in_open_failed : {s s_end : M} {ts : Forest Depth} {e : E} → FailsAll H errors any_trees s ts e s_end
        → FailsUnder None s ts e s_end
    in_enter_failed : {s s_end : M} {vs : List (VarKind Name)} {ts : Forest Depth} {e : E}
        → H.enter_fails errors.unbuilt s vs e s_end → FailsUnder (Some vs) s ts e s_end
    in_under_failed : {s s1 s_end : M} {vs : List (VarKind Name)} {ts : Forest Depth} {e : E}
        → H.enter s vs s1 → FailsAll H errors any_trees s1 ts e s_end → FailsUnder (Some vs) s ts e s_end
    in_leave_failed : {s s1 s2 s_end : M} {vs : List (VarKind Name)} {ts us : Forest Depth} {e : E}
        → H.enter s vs s1 → WalksAll H s1 ts us s2 → H.leave_fails errors.unbuilt s2 vs e s_end
        → FailsUnder (Some vs) s ts e s_end

-- the walk of a term, or of a value under a binder, without the hooks at the term or the binder itself
module _ {M E : Type 0} (H : Hooks M E) where
  pub data SuperWalks : M → Tree Depth → Tree Depth → M → Type 0 where
    super_term : {s s' : M} {t u : Tree Depth} → WalksInside H s t u s' → SuperWalks s t u s'
    super_binder : {s s' : M} {vs : List (VarKind Name)} {t u : Tree Depth} → Walks H s t u s'
        → SuperWalks s (binder vs t) (binder vs u) s'

-- the same for a walk that an error ends
module _ {M E : Type 0} (H : Hooks M E) (errors : Errors E) where
  pub data SuperFails : M → Tree Depth → E → M → Type 0 where
    super_term_failed : {s s_end : M} {t : Tree Depth} {e : E} → InsideFails H errors s t e s_end
        → SuperFails s t e s_end
    super_binder_failed : {s s_end : M} {vs : List (VarKind Name)} {t : Tree Depth} {e : E} → Fails H errors s t e s_end
        → SuperFails s (binder vs t) e s_end
