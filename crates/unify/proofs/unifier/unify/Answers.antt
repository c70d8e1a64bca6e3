use Rattle.std.proofs.Common.{◌≡◌, length, IfErr, OnOk, subst, sym, arith, ◌∙◌}
use Rattle.tt_kinds.specs.Kinds.{ty_shape}
use Rattle.tt_interner.proofs.Growth.{Extends-refl}
use Rattle.tt_fold.specs.Steps.{tree_in}
use Rattle.unify.specs.Bindings.{substitution, table_of, IsRefined}
use Rattle.unify.specs.Faults.{IsEscapes, IsMismatch, IsOccurs}
use Rattle.unify.specs.Substitution.{HasNoClosedUnifier, HasNoOwnUnifier, HasNoUnifier, IsMostGeneral}
use Rattle.unify.proofs.ComparisonLaws.{rolled_back}
use Rattle.unify.proofs.UnificationLaws.{refined_grown}
use Rattle.unify.proofs.unifier.unify.Goals as goal

pub returns-then-is_err-clause-refined : goal.returns-then-is_err-clause-refined
returns-then-is_err-clause-refined c =
    let terms = c.args.cx.now in
    let back : table_of c.undo_from.new.table ≡ table_of c.bindings.inside.table =
    (λ i. record { entries = c.undo_from.ensures.entries i; bound = c.undo_from.ensures.bound i })
    ∙ rolled_back (table_of c.bindings.inside.table) (table_of c.solve-solved.new.table) c.len-variables.result
    c.len-bound.result c.solve-solved.ensures.earlier
    (omega (arith, c.len-variables.ensures, c.bindings.inside.table.entries.ok))
    (omega (arith, c.len-bound.ensures, c.bindings.inside.table.bound.ok)) in
    subst (IsRefined terms c.args.bindings.now terms) (sym (back ∙ c.bindings.view_is))
    (refined_grown terms terms c.args.bindings.now (Extends-refl terms) c.requires.table)

pub returns-then-is_err-clause-occurs : goal.returns-then-is_err-clause-occurs
returns-then-is_err-clause-occurs c =
    let terms = c.args.cx.now in
    subst (λ b. IfErr c.solve-solved.result (λ fault. IsOccurs fault → HasNoUnifier (substitution terms b)
    (tree_in terms.rows (ty_shape c.args.left)) (tree_in terms.rows (ty_shape c.args.right)))) c.bindings.view_is
    c.solve-solved.ensures.occurs

pub returns-then-is_err-clause-mismatch : goal.returns-then-is_err-clause-mismatch
returns-then-is_err-clause-mismatch c =
    let terms = c.args.cx.now in
    subst (λ b. IfErr c.solve-solved.result (λ fault. IsMismatch fault → HasNoOwnUnifier (length b.entries)
    (substitution terms b) (tree_in terms.rows (ty_shape c.args.left)) (tree_in terms.rows (ty_shape c.args.right))))
    c.bindings.view_is c.solve-solved.ensures.mismatch

pub returns-then-is_err-clause-escapes : goal.returns-then-is_err-clause-escapes
returns-then-is_err-clause-escapes c =
    let terms = c.args.cx.now in
    subst (λ b. IfErr c.solve-solved.result (λ fault. IsEscapes fault → HasNoClosedUnifier (substitution terms b)
    (tree_in terms.rows (ty_shape c.args.left)) (tree_in terms.rows (ty_shape c.args.right)))) c.bindings.view_is
    c.solve-solved.ensures.escapes

pub returns-else-is_err-clause-general : goal.returns-else-is_err-clause-general
returns-else-is_err-clause-general c =
    let terms = c.args.cx.now in
    subst (λ b. OnOk c.solve-solved.result (IsMostGeneral (substitution terms b)
    (tree_in terms.rows (ty_shape c.args.left)) (tree_in terms.rows (ty_shape c.args.right))
    (substitution terms (table_of c.solve-solved.new.table)))) c.bindings.view_is c.solve-solved.ensures.general
