use Rattle.std.proofs.Common.{subst}
use Rattle.tt_interner.specs.Rows.{text_row}
use Rattle.tt_interner.specs.Stored.{IsAt}
use Rattle.checker.proofs.declared.symbol_of.Goals as goal

pub returns-clause-named : goal.returns-clause-named
returns-clause-named c =
    let text = c.in_ok-name_of.ensures in
    let symbol = c.in_ok-symbol.field-0 in (
      text.0,
      text.1,
      subst (λ bytes. IsAt c.symbol.new.self.rows (text_row bytes) symbol.number) text.2 c.in_ok-symbol.ensures.stored.stored,
    )
