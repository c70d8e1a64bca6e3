-- each parameter has an argument, and the only argument has no parameter, so the law applies
use Rattle.std.proofs.Common.{◌≡◌, List, [], ◌∷◌, Bool, true, false, refl, ap, sym, ◌∙◌, rules}
use Rattle.std.proofs.lemmas.Bool.{false≢true}
use Rattle.std.specs.Prelude.{◌↔◌, IsTrue, Result, Ok, Err, IfOk, OnOk}
use Rattle.tt_index.specs.declared.refusal.Refusal.{Refusal}
use Rattle.tt_kinds.specs.Argument.{readings}
use Rattle.tt_kinds.specs.Handle.{Ty}
use Rattle.tt_kinds.specs.Kinds.{ty_shape}
use Rattle.tt_kinds.specs.Label.{type_sort}
use Rattle.tt_kinds.specs.Laws.{PutLeavesNone}
use Rattle.tt_kinds.specs.Param.{holds_param, ArgumentsHoldNone, IsAnswered}
use Rattle.tt_kinds.specs.Reading.{read}
use Rattle.tt_kinds.specs.Tree.{Depth, Tree}
use Rattle.tt_kinds.specs.declared.generic_arg.GenericArgKind.{GenericArgKind}
use Rattle.tt_kinds.specs.declared.generic_arg.GenericArgKind.TheVariants.{«Type» as TypeArg}
use Rattle.tt_kinds.proofs.PutLaws.{IsAnswered-read}
use Rattle.tt_interner.specs.Arguments.{arguments}
use Rattle.tt_interner.specs.Owned.{tree_in}
use Rattle.tt_interner.specs.Rows.{Row}
use Rattle.tt_binder.specs.Instance.{IsPlain}
use Rattle.laws.proofs.ClosedLaws.{ArgumentsHoldNone-one, ArgumentsHoldNone-read}
use Rattle.laws.proofs.replacement.closed_instance.Goals as goal

none_by_test : (b r : Bool) → IsTrue r ↔ (b ≡ true) → r ≡ false → b ≡ false
none_by_test true r exact is_not = absurd (false≢true (sym is_not ∙ exact.1 refl))
none_by_test false r exact is_not = refl

only : (rows : List Row) (argument : Ty) (slice : List GenericArgKind) → slice ≡ TypeArg argument ∷ [] → holds_param (tree_in rows (ty_shape argument)) ≡ false
    → ArgumentsHoldNone (arguments rows slice)
only rows argument slice is none = rw is (ArgumentsHoldNone-one type_sort (tree_in rows (ty_shape argument)) none)

closed : {T : Type 0} → PutLeavesNone → (result : Result T Refusal) (u : T → Tree Depth) (rows : List Row) (slice : List GenericArgKind) (t : Tree Depth)
    → OnOk result (IsAnswered (arguments rows slice) t) → ArgumentsHoldNone (arguments rows slice) → IfOk result (λ r. IsPlain (arguments rows slice) t (u r))
    → IfOk result (λ r. holds_param (read 0 (u r)) ≡ false)
closed law (Ok r) u rows slice t answered none h =
    let args = arguments rows slice in
    ap holds_param h ∙ law (readings args) (read 0 t) (IsAnswered-read args 0 t answered) (ArgumentsHoldNone-read args none)
closed law (Err e) u rows slice t answered none h = tt

pub returns : goal.returns
returns c =
    closed c.replacement_leaves_no_parameter.ensures c.instance.result _ c.args.cx.now.rows c.as_slice.result.now (tree_in c.args.cx.now.rows (ty_shape c.args.ty)) c.instance.ensures.answered
    (only c.args.cx.now.rows c.args.argument c.as_slice.result.now (search rules) (none_by_test _ _ c.has_param.ensures c.if-has_param.false))
    c.instance.ensures.plain
