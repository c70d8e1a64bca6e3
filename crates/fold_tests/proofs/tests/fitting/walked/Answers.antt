-- by the laws of instances that fit, and of walks that skip nothing
use Rattle.std.proofs.Common.{◌≡◌, ◌≢◌, ◌+◌, List, [], ◌∷◌, false, rules, arith}
use Rattle.tt_index.specs.declared.refusal.Refusal.{Refusal}
use Rattle.tt_index.specs.declared.refusal.Refusal.TheVariants.{GreatestIndex}
use Rattle.std.proofs.lemmas.Result.{err_from_is_err_and}
use Rattle.tt_kinds.specs.Argument.{Argument, put, readings}
use Rattle.tt_kinds.specs.Fitting.{HasRoom}
use Rattle.tt_kinds.specs.Kinds.{ty_shape}
use Rattle.tt_kinds.specs.Label.{type_sort}
use Rattle.tt_kinds.specs.Reading.{outer_binder, read, Fits}
use Rattle.tt_kinds.specs.Tree.{Depth, Tree}
use Rattle.tt_kinds.specs.Handle.{Ty}
use Rattle.tt_kinds.specs.declared.generic_arg.GenericArgKind.{GenericArgKind}
use Rattle.tt_kinds.specs.declared.generic_arg.GenericArgKind.TheVariants.{«Type» as TypeArg}
use Rattle.tt_interner.specs.Rows.{Row}
use Rattle.tt_interner.specs.Stored.{Terms}
use Rattle.tt_interner.specs.Arguments.{arguments, argument_of}
use Rattle.tt_fold.specs.Steps.{tree_in}
use Rattle.std.proofs.lemmas.Bool.{false≢true}
use Rattle.tt_binder.specs.Instance.{IsPlain, IsReason}
use Rattle.tt_binder.specs.Unpruned.{HeedsNone}
use Rattle.fold_tests.proofs.tests.fitting.walked.Goals as goal

for_room : (terms : Terms) (args : List (Argument Depth)) (t : Tree Depth) (e : Refusal) → Fits (put (readings args) (read 0 t)) → IsReason terms args t e → e ≢ GreatestIndex
for_room terms args t e fits h = λ greatest. (rw greatest at h) fits

some_one : (a : Argument Depth) → (a ∷ []) ≢ []
some_one a = λ e. cc

heeds_none : (why : Refusal → Type 0) → HeedsNone (λ e. false) why
heeds_none why = λ e heeded h. false≢true heeded

plain_at : (rows new : List Row) (argument : Ty) (slice : List GenericArgKind) (ty bound value result : Ty)
    → IsPlain (arguments rows slice) (tree_in rows (ty_shape bound)) (tree_in new (ty_shape value))
    → slice ≡ TypeArg argument ∷ [] → bound ≡ ty → result ≡ value
    → IsPlain (argument_of rows (TypeArg argument) ∷ []) (tree_in rows (ty_shape ty)) (tree_in new (ty_shape result))
plain_at rows new argument slice ty bound value result h s b r = rw r (rw (s, b) at h)

reason_at : (rows : List Row) (terms : Terms) (argument : Ty) (slice : List GenericArgKind) (ty bound : Ty) (e : Refusal)
    → IsReason terms (arguments rows slice) (tree_in rows (ty_shape bound)) e → slice ≡ TypeArg argument ∷ [] → bound ≡ ty
    → IsReason terms (argument_of rows (TypeArg argument) ∷ []) (tree_in rows (ty_shape ty)) e
reason_at rows terms argument slice ty bound e h s b = rw (s, b) at h

pub returns-clause-whole : goal.returns-clause-whole
returns-clause-whole c =
    let rows = c.args.cx.now.rows in
    let s = ty_shape c.args.ty in
    let few = c.requires.few in
    let binders = c.few_rows_fit.ensures rows 0 s c.are_rows.ensures.are c.requires.ty (omega arith) in
    let argument : Argument Depth = record { sort = type_sort; value = tree_in rows (ty_shape c.args.argument) } in
    let unseen = c.pruning_is_unseen.ensures rows (argument ∷ []) s c.are_rows.ensures.are c.requires.ty (some_one argument) c.requires.lacks tt binders in
    (unseen.gives (λ e. false) _).1 (plain_at _ _ c.args.argument _ _ _ _ _ c.in_ok-instance.ensures.promise.plain (search rules) (search rules) (search rules), heeds_none _)

pub returns-in_err-instance-clause-fits : goal.returns-in_err-instance-clause-fits
returns-in_err-instance-clause-fits c =
    let rows = c.args.cx.now.rows in
    let few = c.requires.few in
    let low = c.requires.low in
    let t = tree_in rows (ty_shape c.args.ty) in
    let u = tree_in rows (ty_shape c.args.argument) in
    let room : HasRoom 1000000000 u = record {
      reaches = omega arith;
      binders = λ k h. c.few_rows_fit.ensures rows (k + outer_binder u) (ty_shape c.args.argument) c.are_rows.ensures.are c.requires.argument (omega arith);
    } in
    let indices = c.stored_indices_fit.ensures rows (ty_shape c.args.ty) c.are_rows.ensures.are c.requires.ty tt in
    let binders = c.few_rows_fit.ensures rows 1000000000 (ty_shape c.args.ty) c.are_rows.ensures.are c.requires.ty (omega arith) in
    let argument : Argument Depth = record { sort = type_sort; value = u } in
    let fits = c.instances_fit.ensures 1000000000 (argument ∷ []) t indices binders (omega arith) (room, tt) in
    let p = err_from_is_err_and c.from_residual.result c.from_residual.ensures.1 in
    rw (p.1, p.2) (for_room _ (argument ∷ []) t _ fits (reason_at _ _ c.args.argument _ _ _ _ c.in_err-instance.ensures.promise.err (search rules) (search rules)))
