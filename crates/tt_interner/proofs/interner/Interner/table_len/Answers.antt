-- the declarations and the definitions, by how many there are
use Rattle.std.proofs.Common.{◌≡◌, length, ap, refl, ◌∙◌, arith}
use Rattle.tt_kinds.specs.declared.table.Table.TheVariants.{Declarations, Definitions}
use Rattle.tt_interner.specs.Rows.{size}
use Rattle.tt_interner.proofs.DeclarationLaws.{declared_count}
use Rattle.tt_interner.proofs.DefinitionLaws.{defined_count}
use Rattle.tt_interner.proofs.interner.Interner.table_len.Goals as goal

pub returns-in-Declarations : goal.returns-in-Declarations
returns-in-Declarations c =
    let many = declared_count _ _ _ c.self.invariant.tables c.self.inside.declarations.items refl in
    let counted : length c.self.inside.declarations.items ≡ size c.args.self.now.rows Declarations = many ∙ ap (λ v. size v.rows Declarations) c.self.view_is in
    rw c.in-Declarations.is (first_of (omega arith, grind arith, cc))

pub returns-in-Definitions : goal.returns-in-Definitions
returns-in-Definitions c =
    let many = defined_count _ _ _ c.self.invariant.tables c.self.inside.definitions.entries refl in
    let counted : length c.self.inside.definitions.entries ≡ size c.args.self.now.rows Definitions = many ∙ ap (λ v. size v.rows Definitions) c.self.view_is in
    rw c.in-Definitions.is (first_of (omega arith, grind arith, cc))
