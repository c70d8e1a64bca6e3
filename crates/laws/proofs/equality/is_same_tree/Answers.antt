-- by the law, of the numbers of the two types
use Rattle.std.proofs.Common.{eq-eqb, sym, ◌∙◌}
use Rattle.std.proofs.lemmas.Bool.{eqb-true}
use Rattle.tt_kinds.specs.Shape.{fill}
use Rattle.tt_kinds.specs.declared.table.Table.TheVariants.{Types}
use Rattle.laws.proofs.equality.is_same_tree.Goals as goal

pub returns : goal.returns
unfolding fill
returns c =
    let same = c.equal_handles_for_equal_trees.ensures c.args.cx.now.rows c.are_rows.ensures.are Types c.args.one.number c.args.other.number c.requires.one c.requires.other in (
      λ equal. same.1 (sym c.number.ensures ∙ eqb-true _ _ equal ∙ c.number-2.ensures),
      λ trees. eq-eqb _ _ (c.number.ensures ∙ same.0 trees ∙ sym c.number-2.ensures),
    )
