-- A stack of terms and lists whose children are being walked, and what is left to do.
use Rattle.std.specs.Prelude.{◌≡◌, Option, Some, None, List, [], ◌∷◌, ⊤}
use Rattle.tt_kinds.specs.Label.{Name, VarKind, Label}
use Rattle.tt_kinds.specs.Tree.{Depth, Tree, term, node, binder, Forest, none, also}
use Rattle.tt_kinds.specs.Kinds.{items_tree}
use Rattle.tt_kinds.specs.declared.table.TermTable.{TermTable}
use Rattle.tt_visit.specs.Root.{root, a_part}
use Rattle.tt_fold.specs.Walk.{IsTerm, IsPassed, Wanted, any_trees, wanted_in, wanted_of, HasUnwanted, LosesClause}
use Rattle.tt_fold.specs.Walk.{Hooks, Errors, descend, WalksAll, FailsAll}

-- the first trees, and then the others
abbrev pub joined_trees : Forest Depth → Forest Depth → Forest Depth
joined_trees none us = us
joined_trees (also t ts) us = also t (joined_trees ts us)

-- a term or a list without its children
pub data Outline : Type 0 where
  -- a term of the label
  plain : Label Name → Outline
  -- a term of the first label, with its children under a binder, in a node of the other label
  under : Label Name → List (VarKind Name) → Label Name → Outline
  -- a list of the table
  items : TermTable → Outline

-- the tree with this outline and these children
abbrev pub whole : Outline → Forest Depth → Tree Depth
whole (plain l) ts = term l ts
whole (under l vs m) ts = term l (also (binder vs (node m ts)) none)
whole (items l) ts = items_tree l ts

-- the variables of an outline's binder, if it has one
abbrev pub binder_of : Outline → Option (List (VarKind Name))
binder_of (plain l) = None
binder_of (under l vs m) = Some vs
binder_of (items l) = None

-- what the children of an outline have to become
abbrev pub wanted_by : Outline → Wanted
wanted_by (plain l) = any_trees
wanted_by (under l vs m) = any_trees
wanted_by (items l) = wanted_of l

-- the children of a term with the outline may become any trees
abbrev pub TakesAny : Outline → Type 0
TakesAny (plain l) = wanted_in l ≡ any_trees
TakesAny (under l vs m) = (wanted_in l ≡ any_trees) × ((ts us : Forest Depth) → LosesClause m ts us → ⊥)
TakesAny (items l) = ⊤

module _ {M E : Type 0} (H : Hooks M E) where
  -- the hook at the tree, if there is one, answered `descend`
  pub data Asks : Tree Depth → M → M → Type 0 where
    asks : {t : Tree Depth} {s s' : M} → IsTerm t → H.on_term s t descend s' → Asks t s s'
    passes : {t : Tree Depth} {s : M} → IsPassed t → Asks t s s
    at_list : {t : Tree Depth} {s : M} → root t ≡ a_part → Asks t s s

  -- the binder, if there is one, is entered
  pub data Opens : Option (List (VarKind Name)) → M → M → Type 0 where
    opens_bare : {s : M} → Opens None s s
    opens_binder : {s s' : M} {vs : List (VarKind Name)} → H.enter s vs s' → Opens (Some vs) s s'

  -- the binder, if there is one, is left
  pub data Leaves : Option (List (VarKind Name)) → M → M → Type 0 where
    leaves_bare : {s : M} → Leaves None s s
    leaves_binder : {s s' : M} {vs : List (VarKind Name)} → H.leave s vs s' → Leaves (Some vs) s s'

  -- the tree, which has this outline and these children, is begun, and its children are next
  pub record Begins (t : Tree Depth) (o : Outline) (ts : Forest Depth) (s s' : M) : Type 0 where
    pub between : M
    pub is_whole : t ≡ whole o ts
    pub any : TakesAny o
    pub asked : Asks t s between
    pub opened : Opens (binder_of o) between s'

  -- the binder is left, and the tree is built from the results of its children
  pub data Rebuilds (o : Outline) : Forest Depth → M → Tree Depth → M → Type 0 where
    rebuilds : {us : Forest Depth} {s s' : M} → (HasUnwanted (wanted_by o) us → ⊥) → Leaves (binder_of o) s s'
        → Rebuilds o us s (whole o us) s'

  -- the hook after the tree's contents was called, if there is one
  pub data Finishes : Tree Depth → Tree Depth → M → Tree Depth → M → Type 0 where
    finishes : {t u r : Tree Depth} {s s' : M} → IsTerm t → H.after_term s t u r s' → Finishes t u s r s'
    unasked : {t u : Tree Depth} {s : M} → (IsTerm t → ⊥) → Finishes t u s u s

  -- the walk of the children that are next, and the tree that is built from their results
  pub record Rests (o : Outline) (ts : Forest Depth) (s : M) (u : Tree Depth) (s' : M) : Type 0 where
    pub results : Forest Depth
    pub between : M
    pub walked : WalksAll H s ts results between
    pub built : Rebuilds o results between u s'

-- the same for steps that end with an error
module _ {M E : Type 0} (H : Hooks M E) (errors : Errors E) where
  -- the hook before a binder's value failed
  pub data EnterFails : Option (List (VarKind Name)) → M → E → M → Type 0 where
    enter_fails : {s s' : M} {vs : List (VarKind Name)} {e : E} → H.enter_fails errors.unbuilt s vs e s'
        → EnterFails (Some vs) s e s'

  -- the hook after a binder's value failed
  pub data LeaveFails : Option (List (VarKind Name)) → M → E → M → Type 0 where
    leave_fails : {s s' : M} {vs : List (VarKind Name)} {e : E} → H.leave_fails errors.unbuilt s vs e s'
        → LeaveFails (Some vs) s e s'

  -- the binder was not left, or the tree was not built
  pub data RebuildFails (o : Outline) : Forest Depth → M → E → M → Type 0 where
    not_left : {us : Forest Depth} {s s' : M} {e : E} → LeaveFails (binder_of o) s e s' → RebuildFails o us s e s'
    not_rebuilt : {us : Forest Depth} {s s' : M} {e : E}
        → (HasUnwanted (wanted_by o) us → ⊥) → Leaves H (binder_of o) s s' → errors.unbuilt (whole o us) e
        → RebuildFails o us s e s'

  -- the hook after the tree's contents failed
  pub record FinishFails (t u : Tree Depth) (s : M) (e : E) (s' : M) : Type 0 where
    pub is : IsTerm t
    pub failed : H.after_fails errors.unbuilt s t u e s'

  -- the walk of a child failed, the binder was not left, or the tree was not built
  pub data RestFails (o : Outline) : Forest Depth → M → E → M → Type 0 where
    in_children : {ts : Forest Depth} {s s' : M} {e : E} → FailsAll H errors (wanted_by o) s ts e s'
        → RestFails o ts s e s'
    in_whole : {ts us : Forest Depth} {s s1 s' : M} {e : E} → WalksAll H s ts us s1 → RebuildFails o us s1 e s'
        → RestFails o ts s e s'

-- a term or a list, the results of its first children, and the children that are left; the child in between is being
-- walked
pub record Context : Type 0 where
  pub before : Tree Depth
  pub outline : Outline
  pub done : Forest Depth
  pub left : Forest Depth

-- the results of a context's first children, and this result of the child after them
abbrev pub with_result : Context → Tree Depth → Forest Depth
with_result c u = joined_trees c.done (also u none)

module _ {M E : Type 0} (H : Hooks M E) where
  -- The rest of a walk: a tree with the outline has these results and these children left, these contexts are around
  -- it, and the walk goes from a state to a tree and a state. After the outermost tree no hook is called.
  pub data Proceeds : Tree Depth → Outline → Forest Depth → Forest Depth → List Context → M → Tree Depth → M
      → Type 0 where
    last : {t r : Tree Depth} {o : Outline} {ds ts us : Forest Depth} {s s1 s' : M}
        → WalksAll H s ts us s1 → Rebuilds H o (joined_trees ds us) s1 r s' → Proceeds t o ds ts [] s r s'
    more : {t u v r : Tree Depth} {o : Outline} {ds ts us : Forest Depth} {c : Context} {cs : List Context}
        {s s1 s2 s3 s' : M}
        → WalksAll H s ts us s1 → Rebuilds H o (joined_trees ds us) s1 u s2 → Finishes H t u s2 v s3
        → Proceeds c.before c.outline (with_result c v) c.left cs s3 r s' → Proceeds t o ds ts (c ∷ cs) s r s'

-- the same for a walk that an error ends
module _ {M E : Type 0} (H : Hooks M E) (errors : Errors E) where
  pub data Halts : Tree Depth → Outline → Forest Depth → Forest Depth → List Context → M → E → M → Type 0 where
    in_left : {t : Tree Depth} {o : Outline} {ds ts : Forest Depth} {cs : List Context} {s s' : M} {e : E}
        → FailsAll H errors (wanted_by o) s ts e s' → Halts t o ds ts cs s e s'
    in_rebuild : {t : Tree Depth} {o : Outline} {ds ts us : Forest Depth} {cs : List Context} {s s1 s' : M} {e : E}
        → WalksAll H s ts us s1 → RebuildFails H errors o (joined_trees ds us) s1 e s' → Halts t o ds ts cs s e s'
    in_finish : {t u : Tree Depth} {o : Outline} {ds ts us : Forest Depth} {c : Context} {cs : List Context}
        {s s1 s2 s' : M} {e : E}
        → WalksAll H s ts us s1 → Rebuilds H o (joined_trees ds us) s1 u s2 → FinishFails H errors t u s2 e s'
        → Halts t o ds ts (c ∷ cs) s e s'
    not_wanted : {t u v : Tree Depth} {o : Outline} {ds ts us : Forest Depth} {c : Context} {cs : List Context}
        {s s1 s2 s' : M} {e : E}
        → WalksAll H s ts us s1 → Rebuilds H o (joined_trees ds us) s1 u s2 → Finishes H t u s2 v s'
        → HasUnwanted (wanted_by c.outline) (also v none) → errors.unwanted e → Halts t o ds ts (c ∷ cs) s e s'
    above : {t u v : Tree Depth} {o : Outline} {ds ts us : Forest Depth} {c : Context} {cs : List Context}
        {s s1 s2 s3 s' : M} {e : E}
        → WalksAll H s ts us s1 → Rebuilds H o (joined_trees ds us) s1 u s2 → Finishes H t u s2 v s3
        → (HasUnwanted (wanted_by c.outline) (also v none) → ⊥)
        → Halts c.before c.outline (with_result c v) c.left cs s3 e s' → Halts t o ds ts (c ∷ cs) s e s'
