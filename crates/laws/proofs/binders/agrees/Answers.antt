-- a visit that breaks found a variable that disagrees, by the law
use Rattle.std.proofs.Common.{◌≡◌, ℕ, List, sym, subst, rules}
use Rattle.std.proofs.lemmas.Bool.{false≢true}
use Rattle.tt_kinds.specs.Count.{TypeAt}
use Rattle.tt_kinds.specs.Handle.{BoundVarKinds, Ty}
use Rattle.tt_kinds.specs.Kinds.{ty_shape}
use Rattle.tt_interner.specs.Owned.{tree_in}
use Rattle.tt_interner.specs.Rows.{Row}
use Rattle.tt_visit.specs.Visit.{Breaks}
use Rattle.tt_binder.specs.Validate.{Agrees, Validation, ValidationIsExact, validate_hooks, vars_at}
use Rattle.tt_binder.specs.declared.validate_bound_vars.WrongBoundVar.{WrongBoundVar}
use Rattle.laws.proofs.binders.agrees.Goals as goal

disagrees : ValidationIsExact → (rows : List Row) (vars own : BoundVarKinds) (k : ℕ) (seen : List TypeAt) (x y : Ty) (s' : Validation) (b : WrongBoundVar) → own ≡ vars → k ≡ 0 → y ≡ x
    → Breaks validate_hooks (record { vars = vars_at rows own; depth = k; seen = seen }) (tree_in rows (ty_shape y)) b s' → Agrees (vars_at rows vars) 0 (tree_in rows (ty_shape x)) → ⊥
disagrees law rows vars own k seen x y s' b is_vars is_0 is_x breaks all =
    (law (record { vars = vars_at rows own; depth = k; seen = seen }) s' (tree_in rows (ty_shape y))).1 b breaks
    (subst (λ z. Agrees (vars_at rows own) k (tree_in rows (ty_shape z))) (sym is_x)
    (subst (λ m. Agrees (vars_at rows own) m (tree_in rows (ty_shape x))) (sym is_0) (subst (λ v. Agrees (vars_at rows v) 0 (tree_in rows (ty_shape x))) (sym is_vars) all)))

pub returns-in-Break : goal.returns-in-Break
returns-in-Break c = (
  λ never. absurd (false≢true never),
  λ all. absurd (disagrees c.validation_is_exact.ensures c.args.cx.now.rows c.args.binder.bound_vars c.new-visitor.result.bound_vars c.new-visitor.result.binder_index _ c.args.binder.value _ _ _
      (search rules) (search rules) (search rules) c.in-Break.ensures.result all),
)
