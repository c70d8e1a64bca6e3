use Rattle.std.proofs.Common.{refl, sym, ap, ◌∙◌, inl, inr, Some}
use Rattle.tt_kinds.specs.Label.{region_sort}
use Rattle.tt_kinds.specs.declared.generic_arg.GenericArgKind.TheVariants as arg
use Rattle.tt_binder.proofs.HookLaws.{out_of_range, of_other_sort}
use Rattle.tt_binder.proofs.arg_folder.region_at.Goals as goal

pub returns-in-None-clause-err : goal.returns-in-None-clause-err
returns-in-None-clause-err g c = λ name. out_of_range c.args.cx.now.rows (g.S.SliceLike.items c.args.cx.now.rows c.args.args) region_sort c.args.index name c.requires.some (sym c.get.ensures ∙ c.in-None.is)

pub returns-in-Type-clause-err : goal.returns-in-Type-clause-err
returns-in-Type-clause-err g c = λ name.
    let at = sym c.get.ensures ∙ c.in-Some.is in
    elim c.in-Type.is [
      | inl (ty, e) ↦ of_other_sort c.args.cx.now.rows (g.S.SliceLike.items c.args.cx.now.rows c.args.args) region_sort c.args.index name (arg.«Type» ty) (at ∙ ap Some (sym c.kind.ensures ∙ e)) refl
      | inr (constant, e) ↦ of_other_sort c.args.cx.now.rows (g.S.SliceLike.items c.args.cx.now.rows c.args.args) region_sort c.args.index name (arg.Const constant) (at ∙ ap Some (sym c.kind.ensures ∙ e)) refl
    ]
