-- What has to come of the children of a term, and of the items of a list.
use Rattle.std.proofs.Common.{inl, inr, ◌≡◌, List}
use Rattle.tt_index.specs.declared.refusal.Refusal.{Refusal}
use Rattle.tt_index.specs.declared.refusal.Refusal.TheVariants.{Memory, NotAClause}
use Rattle.tt_kinds.specs.Label.{Name, Label, clause_list_label}
use Rattle.tt_kinds.specs.Tree.{Depth, Tree, term, Forest, none, also}
use Rattle.tt_kinds.specs.Shape.{fill_all}
use Rattle.tt_kinds.specs.declared.parts.Child.{Child}
use Rattle.tt_kinds.specs.declared.parts.Child.TheVariants as child
use Rattle.tt_interner.specs.Rows.{Row}
use Rattle.tt_interner.specs.Stored.{Terms, IsNoClauseList, IsUnbuilt}
use Rattle.tt_fold.specs.Walk.{Hooks, Errors, WalksAll, done, next, Wanted, any_trees, clause_trees, wanted_in}
use Rattle.tt_fold.specs.Walk.{HasUnwanted, FailsAll, here, no_clause, ChildFails, child_failed}
use Rattle.tt_fold.specs.Steps.{refusals_of}
use Rattle.tt_fold.specs.Parts.{child_trees}
use Rattle.tt_fold.specs.Stack.{joined_trees}

-- among no trees none is unwanted
pub none-wanted : (w : Wanted) → HasUnwanted w none → ⊥
none-wanted any_trees h = h
none-wanted clause_trees h = h

-- if the first of some trees is unwanted, one of the trees is
pub first-unwanted : (w : Wanted) (u : Tree Depth) (us : Forest Depth) → HasUnwanted w (also u none) → HasUnwanted w (also u us)
first-unwanted any_trees u us h = h
first-unwanted clause_trees u us h = elim h [ inl a ↦ inl a | inr b ↦ absurd b ]

-- if one of the trees after the first is unwanted, one of all the trees is
pub later-unwanted : (w : Wanted) (u : Tree Depth) (us : Forest Depth) → HasUnwanted w us → HasUnwanted w (also u us)
later-unwanted any_trees u us h = h
later-unwanted clause_trees u us h = inr h

-- if neither of two lists of trees has an unwanted one, both together have none
pub joined_trees-wanted : (w : Wanted) (us vs : Forest Depth) → (HasUnwanted w us → ⊥) → (HasUnwanted w vs → ⊥) → HasUnwanted w (joined_trees us vs) → ⊥
joined_trees-wanted any_trees us vs a b h = h
joined_trees-wanted clause_trees none vs a b h = b h
joined_trees-wanted clause_trees (also u us) vs a b h = elim h [ inl c ↦ a (inl c) | inr d ↦ joined_trees-wanted clause_trees us vs (λ x. a (inr x)) b d ]

-- where any trees may come, none is unwanted
pub any-wanted : (l : Label Name) (us : Forest Depth) → wanted_in l ≡ any_trees → HasUnwanted (wanted_in l) us → ⊥
any-wanted l us same h = rw same at h

-- a list of clauses with such a child is none of clauses alone
pub unwanted-list : (l : Label Name) (us : Forest Depth) → HasUnwanted (wanted_in l) us → IsNoClauseList (term l us)
unwanted-list clause_list_label us h = h
unwanted-list _ us h = absurd h

module _ {M E : Type 0} {H : Hooks M E} {errors : Errors E} where
  -- the failure of a child is one of its trees, whatever has to come of them
  pub child_fails : {w : Wanted} {s s' : M} {ts : Forest Depth} {e : E} → ChildFails H errors s ts e s' → FailsAll H errors w s ts e s'
  child_fails (child_failed f) = here f

  -- what came of a child is not what has to come
  pub child_unwanted : {s s' : M} {us : Forest Depth} {e : E} (w : Wanted) (rows : List Row) (x : Child)
      → WalksAll H s (child_trees rows x) us s' → HasUnwanted w us → errors.unwanted e → FailsAll H errors w s (child_trees rows x) e s'
  unfolding fill_all
  child_unwanted w rows child.Absent done bad b = absurd (none-wanted w bad)
  child_unwanted w rows (child.Region r) (next g done) bad b = no_clause g bad b
  child_unwanted w rows (child.Stored h) (next g done) bad b = no_clause g bad b

-- an error that says of an item that it is no clause says of the list that it is not built
abbrev pub TellsOfLists : {E : Type 0} → Errors E → Type 0
TellsOfLists {E} errors = (u : Tree Depth) (e : E) → IsNoClauseList u → errors.unwanted e → errors.unbuilt u e

-- as a refusal, `NotAClause` says that a list with an item that is no clause is not built
pub refusals-tell : (terms : Terms) → TellsOfLists (refusals_of terms)
refusals-tell terms u e bad b = (NotAClause, (b, bad))

-- want of memory says of each tree that it is not built
pub memory_unbuilt : (terms : Terms) (u : Tree Depth) (r : Refusal) → r ≡ Memory → IsUnbuilt terms u r
memory_unbuilt terms u r same = rw same tt
