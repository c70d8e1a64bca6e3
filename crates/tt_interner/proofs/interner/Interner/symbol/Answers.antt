-- what is found stays, and what is not is added
use Rattle.tt_interner.specs.Rows.{text_row}
use Rattle.tt_interner.proofs.StoreSteps.{Builds-found, Builds-added}
use Rattle.tt_interner.proofs.interner.Interner.symbol.Goals as goal

pub returns-in-Some : goal.returns-in-Some
returns-in-Some c = Builds-found (λ symbol. symbol.number) _ (text_row c.args.text.now) c.are_rows.ensures.are _ c.in-Some.ensures

pub returns-in-None : goal.returns-in-None
returns-in-None c = Builds-added (λ symbol. symbol.number) _ (text_row c.args.text.now) c.are_rows.ensures.are _ _ c.in-None.ensures (λ deep. deep) c.add_symbol.ensures
