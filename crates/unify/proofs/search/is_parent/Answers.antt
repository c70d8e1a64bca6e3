use Rattle.std.proofs.Common.{◌≡◌, Some, None, ap, subst, sym, ◌∙◌}
use Rattle.tt_flags.specs.TypeFlags.{has_ty_infer}
use Rattle.tt_kinds.specs.Kinds.{ty_shape}
use Rattle.tt_kinds.specs.Scan.{scan}
use Rattle.tt_interner.specs.Rows.{meaning}
use Rattle.tt_fold.specs.Steps.{tree_in}
use Rattle.tt_fold.proofs.KeptLaws.{misses}
use Rattle.unify.specs.Bindings.{stored}
use Rattle.unify.specs.Substitution.{IsWithout}
use Rattle.unify.proofs.BindingsLaws.{bound_tree, reads}
use Rattle.unify.proofs.FlagLaws.{unflagged_without}
use Rattle.unify.proofs.OwnSolution.{entry_inside}
use Rattle.unify.proofs.SubstitutionLaws.{same_binding}
use Rattle.unify.proofs.search.is_parent.Goals as goal

pub returns-in_default : goal.returns-in_default
returns-in_default c = λ no u child.
    let terms = c.args.cx.now in
    let none : stored terms c.args.entries.now c.args.variable ≡ None =
    reads terms c.args.entries.now c.args.variable
    ∙ ap (bound_tree (meaning terms.rows)) (sym c.entry_at.ensures ∙ c.in_default.is) in
    absurd (let some = child.1.0 in cc)

pub has_infer_types-requires : goal.has_infer_types-requires
has_infer_types-requires c =
    entry_inside c.args.cx.now c.args.entries.now c.args.variable c.in-Some.ty (sym c.entry_at.ensures ∙ c.in-Some.is)
    c.requires.2

pub returns : goal.returns
returns c = λ no u child.
    let terms = c.args.cx.now in
    let t = tree_in terms.rows (ty_shape c.in-Some.ty) in
    let some : stored terms c.args.entries.now c.args.variable ≡ Some t =
    reads terms c.args.entries.now c.args.variable
    ∙ ap (bound_tree (meaning terms.rows)) (sym c.entry_at.ensures ∙ c.in-Some.is) in
    let one = same_binding t child.0 (sym some ∙ child.1.0) in
    child.1.1 (subst (IsWithout u) one
    (unflagged_without t u (misses has_ty_infer (scan t) c.has_infer_types.result c.has_infer_types.ensures no)))
