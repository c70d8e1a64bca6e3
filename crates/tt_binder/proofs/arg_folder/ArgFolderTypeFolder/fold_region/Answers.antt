use Rattle.std.proofs.Common.{refl, sym, ◌∙◌}
use Rattle.std.proofs.lemmas.Result.{err_from_is_err_and}
use Rattle.tt_kinds.specs.Shape.{name_of}
use Rattle.tt_interner.specs.Rows.{meaning}
use Rattle.tt_interner.proofs.Growth.{Extends-refl}
use Rattle.tt_binder.specs.Instantiation.{for_cause}
use Rattle.tt_binder.proofs.HookLaws.{leaf_at, done_at, param_region, region_untouched, var_refused}
use Rattle.tt_binder.proofs.WalkLaws.{left_done}
use Rattle.tt_binder.proofs.arg_folder.ArgFolderTypeFolder.fold_region.Goals as goal

pub returns-in_err-new-in-ReEarlyParam-clause-result : goal.returns-in_err-new-in-ReEarlyParam-clause-result
returns-in_err-new-in-ReEarlyParam-clause-result g c =
    let p = err_from_is_err_and c.from_residual.result c.from_residual.ensures.1 in
    let f = meaning c.args.cx.now.rows in
    let tree = param_region f c.args.region c.in-ReEarlyParam.parameter (sym c.kind.ensures.kind ∙ c.in-ReEarlyParam.is) in
    rw (p.1, p.2) (refl, leaf_at _ _ _ _ _ _ tree (c.in_err-new-in-ReEarlyParam.ensures (name_of f c.in-ReEarlyParam.parameter.name.number)))

pub returns-in_ok-new-in-ReEarlyParam-clause-result : goal.returns-in_ok-new-in-ReEarlyParam-clause-result
returns-in_ok-new-in-ReEarlyParam-clause-result g c =
    let f = meaning c.args.cx.now.rows in
    let tree = param_region f c.args.region c.in-ReEarlyParam.parameter (sym c.kind.ensures.kind ∙ c.in-ReEarlyParam.is) in
    let h = c.in_ok-new-in-ReEarlyParam.ensures (name_of f c.in-ReEarlyParam.parameter.name.number) in
    (h.0, (refl, done_at _ _ _ _ _ tree h.1))

pub returns-in-ReVar-clause-result : goal.returns-in-ReVar-clause-result
returns-in-ReVar-clause-result g c = (
  refl,
  for_cause (var_refused (meaning c.args.cx.now.rows) c.args.cx.now.rows (g.S.SliceLike.items c.args.cx.now.rows c.args.self.now.args) c.args.region c.in-ReVar.vid
      (sym c.kind.ensures.kind ∙ c.in-ReVar.is) c.requires.owned.2),
)

pub returns-in_default : goal.returns-in_default
returns-in_default g c =
    let e = sym c.kind.ensures.kind in
    let left = region_untouched (meaning c.args.cx.now.rows) c.args.region (λ p is. c.in_default.not-ReEarlyParam p (c.kind.ensures.kind ∙ is)) (λ v is. c.in_default.not-ReVar v (c.kind.ensures.kind ∙ is)) in
    record {
      extends = Extends-refl c.args.cx.now;
      still = λ h. refl;
      owned = c.requires.owned;
      result = (c.requires.region, (refl, left_done _ _ _ left.0 left.1));
    }
