-- the first replacement leaves no parameter of the type, so the law applies
use Rattle.std.proofs.Common.{◌≡◌, List, refl, ap, ◌∙◌}
use Rattle.std.specs.Prelude.{Result, Ok, Err, IfOk}
use Rattle.tt_index.specs.declared.refusal.Refusal.{Refusal}
use Rattle.tt_kinds.specs.Argument.{Argument, change_values, put, readings}
use Rattle.tt_kinds.specs.Laws.{PutsCompose}
use Rattle.tt_kinds.specs.Param.{IsAnswered}
use Rattle.tt_kinds.specs.Reading.{read}
use Rattle.tt_kinds.specs.Tree.{Depth, Tree}
use Rattle.tt_kinds.proofs.PutLaws.{IsAnswered-read}
use Rattle.tt_interner.specs.Arguments.{arguments}
use Rattle.tt_interner.specs.Owned.{tree_in}
use Rattle.tt_kinds.specs.Kinds.{ty_shape}
use Rattle.tt_binder.specs.Instance.{IsPlain}
use Rattle.tt_binder.specs.ArgumentLaws.{arguments-still}
use Rattle.laws.proofs.replacement.instance_twice.Goals as goal

composed : {T : Type 0} → PutsCompose → (result : Result T Refusal) (u : T → Tree Depth) (args later later' : List (Argument Depth)) (t s : Tree Depth)
    → IsAnswered args t → later' ≡ later → IsPlain args t s → IfOk result (λ r. IsPlain later' s (u r))
    → IfOk result (λ r. read 0 (u r) ≡ put (change_values (put (readings later)) (readings args)) (read 0 t))
composed law (Ok r) u args later later' t s answered same first second =
    second ∙ ap (λ xs. put (readings xs) (read 0 s)) same ∙ ap (put (readings later)) first
    ∙ law (readings later) (readings args) (read 0 t) (IsAnswered-read args 0 t answered)
composed law (Err e) u args later later' t s answered same first second = tt

pub returns : goal.returns
returns c =
    composed c.replacements_compose.ensures c.instance-2.result _ (arguments c.args.cx.now.rows c.args.args.now) _ _ (tree_in c.args.cx.now.rows (ty_shape c.args.ty)) _ c.in_ok-made.ensures.answered
    (arguments-still c.args.cx.now.rows c.instance.new.cx.rows c.args.later.now c.args.later.now c.instance.ensures.extends.rows refl (c.are_owned-2.ensures.0 c.if-not-are_owned-2.false))
    c.in_ok-made.ensures.plain c.instance-2.ensures.plain
