-- by the typed call
use Rattle.std.proofs.Common.{refl}
use Rattle.std.proofs.lemmas.Result.{err_from_is_err_and}
use Rattle.tt_kinds.specs.Handle.{Ty}
use Rattle.tt_kinds.specs.Handle.{Const}
use Rattle.tt_kinds.specs.Handle.{Pat}
use Rattle.tt_kinds.specs.Handle.{Predicate}
use Rattle.tt_kinds.specs.Handle.{PolyExistentialPredicate}
use Rattle.tt_kinds.specs.declared.handle.AnyHandle.{AnyHandle}
use Rattle.tt_interner.proofs.StoreSteps.{Builds-ok_as, Builds-err_as}
use Rattle.tt_interner.proofs.interner.Interner.store.Goals as goal

pub returns-in_ok-mk_ty-in-Ty-clause-builds : goal.returns-in_ok-mk_ty-in-Ty-clause-builds
returns-in_ok-mk_ty-in-Ty-clause-builds c = rw (c.in-Ty.is, c.any.ensures) (Builds-ok_as {H = Ty} {G = AnyHandle} (λ h. h.number) (λ n. n.number) _ _ _ _ _ refl c.in_ok-mk_ty-in-Ty.ensures)

pub returns-in_err-mk_ty-in-Ty-clause-builds : goal.returns-in_err-mk_ty-in-Ty-clause-builds
returns-in_err-mk_ty-in-Ty-clause-builds c =
    let p = err_from_is_err_and c.from_residual.result c.from_residual.ensures.1 in
    rw (c.in-Ty.is, p.1, p.2) (Builds-err_as {H = Ty} {G = AnyHandle} (λ h. h.number) (λ n. n.number) _ _ _ _ c.in_err-mk_ty-in-Ty.ensures)

pub returns-in_ok-mk_const-in-Const-clause-builds : goal.returns-in_ok-mk_const-in-Const-clause-builds
returns-in_ok-mk_const-in-Const-clause-builds c = rw (c.in-Const.is, c.any-in-Const.ensures) (Builds-ok_as {H = Const} {G = AnyHandle} (λ h. h.number) (λ n. n.number) _ _ _ _ _ refl c.in_ok-mk_const-in-Const.ensures)

pub returns-in_err-mk_const-in-Const-clause-builds : goal.returns-in_err-mk_const-in-Const-clause-builds
returns-in_err-mk_const-in-Const-clause-builds c =
    let p = err_from_is_err_and c.from_residual-in_err-mk_const-in-Const.result c.from_residual-in_err-mk_const-in-Const.ensures.1 in
    rw (c.in-Const.is, p.1, p.2) (Builds-err_as {H = Const} {G = AnyHandle} (λ h. h.number) (λ n. n.number) _ _ _ _ c.in_err-mk_const-in-Const.ensures)

pub returns-in_ok-mk_pat-in-Pat-clause-builds : goal.returns-in_ok-mk_pat-in-Pat-clause-builds
returns-in_ok-mk_pat-in-Pat-clause-builds c = rw (c.in-Pat.is, c.any-in-Pat.ensures) (Builds-ok_as {H = Pat} {G = AnyHandle} (λ h. h.number) (λ n. n.number) _ _ _ _ _ refl c.in_ok-mk_pat-in-Pat.ensures)

pub returns-in_err-mk_pat-in-Pat-clause-builds : goal.returns-in_err-mk_pat-in-Pat-clause-builds
returns-in_err-mk_pat-in-Pat-clause-builds c =
    let p = err_from_is_err_and c.from_residual-in_err-mk_pat-in-Pat.result c.from_residual-in_err-mk_pat-in-Pat.ensures.1 in
    rw (c.in-Pat.is, p.1, p.2) (Builds-err_as {H = Pat} {G = AnyHandle} (λ h. h.number) (λ n. n.number) _ _ _ _ c.in_err-mk_pat-in-Pat.ensures)

pub returns-in_ok-mk_predicate-in-Predicate-clause-builds : goal.returns-in_ok-mk_predicate-in-Predicate-clause-builds
returns-in_ok-mk_predicate-in-Predicate-clause-builds c = rw (c.in-Predicate.is, c.any-in-Predicate.ensures) (Builds-ok_as {H = Predicate} {G = AnyHandle} (λ h. h.number) (λ n. n.number) _ _ _ _ _ refl c.in_ok-mk_predicate-in-Predicate.ensures)

pub returns-in_err-mk_predicate-in-Predicate-clause-builds : goal.returns-in_err-mk_predicate-in-Predicate-clause-builds
returns-in_err-mk_predicate-in-Predicate-clause-builds c =
    let p = err_from_is_err_and c.from_residual-in_err-mk_predicate-in-Predicate.result c.from_residual-in_err-mk_predicate-in-Predicate.ensures.1 in
    rw (c.in-Predicate.is, p.1, p.2) (Builds-err_as {H = Predicate} {G = AnyHandle} (λ h. h.number) (λ n. n.number) _ _ _ _ c.in_err-mk_predicate-in-Predicate.ensures)

pub returns-in_ok-mk_existential-in-Existential-clause-builds : goal.returns-in_ok-mk_existential-in-Existential-clause-builds
returns-in_ok-mk_existential-in-Existential-clause-builds c = rw (c.in-Existential.is, c.any-in-Existential.ensures) (Builds-ok_as {H = PolyExistentialPredicate} {G = AnyHandle} (λ h. h.number) (λ n. n.number) _ _ _ _ _ refl c.in_ok-mk_existential-in-Existential.ensures)

pub returns-in_err-mk_existential-in-Existential-clause-builds : goal.returns-in_err-mk_existential-in-Existential-clause-builds
returns-in_err-mk_existential-in-Existential-clause-builds c =
    let p = err_from_is_err_and c.from_residual-in_err-mk_existential-in-Existential.result c.from_residual-in_err-mk_existential-in-Existential.ensures.1 in
    rw (c.in-Existential.is, p.1, p.2) (Builds-err_as {H = PolyExistentialPredicate} {G = AnyHandle} (λ h. h.number) (λ n. n.number) _ _ _ _ c.in_err-mk_existential-in-Existential.ensures)
