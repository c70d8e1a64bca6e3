-- as many as tables in the order
use Rattle.std.proofs.Common.{◌≡◌, length, rules, sym, ap, ◌∙◌}
use Rattle.tt_interner.specs.Kept.{tables}
use Rattle.tt_interner.specs.Stored.{Terms}
use Rattle.tt_interner.proofs.TakeBackSteps.{rows_length}
use Rattle.tt_interner.proofs.interner.Interner.row_count.Goals as goal

pub returns : goal.returns
returns c =
    let many : c.len.result ≡ length c.self.inside.order.items = search (rules, c.len.ensures) in
    many ∙ sym (rows_length c.self.inside.order.items (tables c.self.inside)) ∙ ap (λ (v : Terms). length v.rows) c.self.view_is
