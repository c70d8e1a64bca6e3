-- Tables of bindings as a search goes on, and what goals are under bindings.
use Rattle.std.specs.Prelude.{◌≡◌, ℕ, List, Some, ⊤, slice_get}
use Rattle.tt_kinds.specs.Tree.{Place, Tree}
use Rattle.tt_kinds.specs.Reading.{read}
use Rattle.tt_kinds.specs.Kinds.{arg_shape, args_shape}
use Rattle.tt_kinds.specs.Values.{trait_predicate_shape}
use Rattle.tt_kinds.specs.declared.generic_arg.GenericArgKind.{GenericArgKind}
use Rattle.tt_kinds.specs.declared.predicate.TraitPredicate.{TraitPredicate}
use Rattle.tt_interner.specs.Owned.{IsOwned, tree_by, tree_in}
use Rattle.tt_interner.specs.Stored.{Extends, Terms}
use Rattle.unify.specs.Bindings.{IsRefined, KeepsEarlier, Table, substitution}
use Rattle.unify.specs.Substitution.{Substitution, apply}
use Rattle.solver.specs.declared.candidates.Head.{Head}
use Rattle.solver.specs.declared.solver.Answer.{Answer}
use Rattle.solver.specs.declared.solver.Answer.TheVariants.{No, Yes}

-- the interner and the table only grew: the table keeps its bindings, and what it was wherever it is rolled back to
pub record Continues (terms : Terms) (b : Table) (later : Terms) (grown : Table) : Type 0 where
  pub extends : Extends terms later
  pub refined : IsRefined terms b later grown
  pub earlier : KeepsEarlier b grown

-- the later arguments' trees are those of the earlier ones with the substitution applied, as far as both lists go
abbrev pub ArePlain : Substitution → Terms → List GenericArgKind → Terms → List GenericArgKind → Type 0
ArePlain σ old olds new news = (k : ℕ) (a b : GenericArgKind) → slice_get olds k ≡ Some a → slice_get news k ≡ Some b
    → tree_in new.rows (arg_shape b) ≡ apply σ (tree_in old.rows (arg_shape a))

-- the handles in the head are the interner's
pub record IsOwnedHead (terms : Terms) (head : Head) : Type 0 where
  pub goal : IsOwned trait_predicate_shape terms head.goal
  pub args : IsOwned args_shape terms head.args

-- the goal with the bound variables replaced, as a reading
abbrev pub goal_under : Terms → Table → Terms → TraitPredicate → Tree Place
goal_under later b terms goal = read 0 (apply (substitution later b) (tree_by trait_predicate_shape terms.rows goal))

-- the answer is yes
abbrev pub IsYesAnswer : Answer → Type 0
IsYesAnswer (Yes log) = ⊤
IsYesAnswer _ = ⊥

-- the answer is no
abbrev pub IsNoAnswer : Answer → Type 0
IsNoAnswer (No goals) = ⊤
IsNoAnswer _ = ⊥
