-- by how many declarations there are
use Rattle.std.proofs.Common.{◌≡◌, length, ap, refl, ◌∙◌, arith}
use Rattle.std.proofs.lemmas.Bool.Decides.{nat_tests}
use Rattle.tt_kinds.specs.declared.table.Table.TheVariants.{Declarations}
use Rattle.tt_interner.specs.Rows.{size}
use Rattle.tt_interner.proofs.DeclarationLaws.{declared_count}
use Rattle.tt_interner.proofs.interner.Interner.owns_def_id.Goals as goal

pub returns : goal.returns
returns c =
    let many = declared_count _ _ _ c.self.invariant.tables c.self.inside.declarations.items refl in
    let counted : length c.self.inside.declarations.items ≡ size c.args.self.now.rows Declarations = many ∙ ap (λ v. size v.rows Declarations) c.self.view_is in
    grind (arith, nat_tests)
