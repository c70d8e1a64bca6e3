-- a short list is its key's items, and a long one that isn't found is new
use Rattle.std.proofs.Common.{Result, Ok, Err, OnOk, sym, ◌∙◌}
use Rattle.tt_interner.proofs.FoundLaws.{no_value}
use Rattle.tt_interner.proofs.TableLaws.{listed_by-push}
use Rattle.tt_interner.proofs.tables.find_or_add_tys.Goals as goal

if_ok : {X E : Type 0} {P Q : Type 0} (r : Result X E) → OnOk r P → (P → Q) → OnOk r Q
if_ok (Ok x) p more = more p
if_ok (Err e) p more = tt

pub add_tys-requires : goal.add_tys-requires
add_tys-requires c = no_value _ c.args.entries.now.entries (sym c.find_long.ensures.index ∙ c.in-None.is)

pub find_or_insert-requires-clause-same : goal.find_or_insert-requires-clause-same
find_or_insert-requires-clause-same c = rw c.short_key-key.ensures c.requires.same

pub returns-clause-found : goal.returns-clause-found
returns-clause-found c = rw c.short_key-key.ensures at c.find_or_insert.ensures.found

pub returns-clause-order : goal.returns-clause-order
returns-clause-order c = rw c.short_key-key.ensures at c.find_or_insert.ensures.order

pub returns-clause-entries : goal.returns-clause-entries
returns-clause-entries c none =
    if_ok c.find_or_insert.result (c.find_or_insert.ensures.entries (rw c.short_key-key.ensures none))
    (listed_by-push _ c.args.entries.now.entries _ _ _ _ c.short_key-key.ensures)

pub returns-clause-number : goal.returns-clause-number
returns-clause-number c = rw c.short_key-key.ensures at c.find_or_insert.ensures.number

pub returns-clause-full : goal.returns-clause-full
returns-clause-full c = rw c.short_key-key.ensures at c.find_or_insert.ensures.full
