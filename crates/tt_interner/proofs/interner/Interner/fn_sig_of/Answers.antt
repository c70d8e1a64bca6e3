-- the signature is what the declaration's row holds
use Rattle.std.proofs.Common.{subst, refl}
use Rattle.tt_kinds.specs.Shape.{AreParts}
use Rattle.tt_kinds.specs.Values.{declared_shapes}
use Rattle.tt_kinds.specs.declared.table.Table.TheVariants.{Declarations}
use Rattle.tt_interner.specs.Rows.{declared_row, size}
use Rattle.tt_interner.proofs.Trees.{Means-row}
use Rattle.tt_interner.proofs.interner.Interner.fn_sig_of.Goals as goal

pub returns-clause-in_range : goal.returns-clause-in_range
returns-clause-in_range c =
    let parts = (Means-row c.args.self.now.rows c.are_rows.ensures.are Declarations c.from.result.number (declared_row c.from.result.number c.declaration.result.now) c.declaration.ensures.at).parts.1 in
    let of_sig = subst (λ k. AreParts (size c.args.self.now.rows) (declared_shapes k)) c.in-Fn.is parts in
    (of_sig.0, (refl, tt, (of_sig.1.0, tt)))
