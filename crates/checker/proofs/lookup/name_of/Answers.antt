use Rattle.std.proofs.Common.{length, refl, ap, sym, ◌∙◌}
use Rattle.std.specs.Prelude.{slice_get}
use Rattle.std.proofs.lemmas.Option.{slice_get_read}
use Rattle.checker.proofs.lookup.name_of.Goals as goal

pub returns-in-Some : goal.returns-in-Some
returns-in-Some c =
    let names = c.deref.result.now in
    let name = c.in-Some.name.now in
    let lookup = c.in-Some.ensures.lookup in
    let read = slice_get_read names (length names) c.args.number name refl lookup.3.0 lookup.1 in
    (name, sym (ap (λ xs. slice_get xs c.args.number) c.deref.ensures.value) ∙ read, c.as_str.ensures.value)
