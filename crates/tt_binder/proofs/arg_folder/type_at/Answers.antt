use Rattle.std.proofs.Common.{refl, sym, ap, ◌∙◌, inl, inr, Some}
use Rattle.tt_kinds.specs.Label.{type_sort}
use Rattle.tt_kinds.specs.declared.generic_arg.GenericArgKind.TheVariants as arg
use Rattle.tt_binder.proofs.HookLaws.{out_of_range, of_other_sort}
use Rattle.tt_binder.proofs.arg_folder.type_at.Goals as goal

pub returns-in-None-clause-err : goal.returns-in-None-clause-err
returns-in-None-clause-err g c = λ name. out_of_range c.args.cx.now.rows (g.S.SliceLike.items c.args.cx.now.rows c.args.args) type_sort c.args.index name c.requires.some (sym c.get.ensures ∙ c.in-None.is)

pub returns-in-Lifetime-clause-err : goal.returns-in-Lifetime-clause-err
returns-in-Lifetime-clause-err g c = λ name.
    let at = sym c.get.ensures ∙ c.in-Some.is in
    elim c.in-Lifetime.is [
      | inl (region, e) ↦ of_other_sort c.args.cx.now.rows (g.S.SliceLike.items c.args.cx.now.rows c.args.args) type_sort c.args.index name (arg.Lifetime region) (at ∙ ap Some (sym c.kind.ensures ∙ e)) refl
      | inr (constant, e) ↦ of_other_sort c.args.cx.now.rows (g.S.SliceLike.items c.args.cx.now.rows c.args.args) type_sort c.args.index name (arg.Const constant) (at ∙ ap Some (sym c.kind.ensures ∙ e)) refl
    ]
