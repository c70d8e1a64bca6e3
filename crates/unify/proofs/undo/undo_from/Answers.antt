use Rattle.std.proofs.Common.{◌≡◌, ◌≤◌, ◌++◌, ◌∷◌, [], None, length, set, take, sym, ap, ◌∙◌, arith}
use Rattle.std.proofs.lemmas.List.{length-append, length-set, set_past, take-append-le}
use Rattle.unify.specs.Undo.{entries_at}
use Rattle.unify.proofs.UndoLaws.{at_popped}
use Rattle.unify.proofs.undo.undo_from.Goals as goal

pub loop-table-preserved-then-number-len : goal.loop-table-preserved-then-number-len
loop-table-preserved-then-number-len c =
    let k = c.args.bindings in
    let es = c.loop-table.table.entries.items in
    let rest = c.pop.new.self.items in
    let v = c.in-Some.variable in
    let same = c.in-Some.ensures.items in
    let long = ap length same ∙ length-append rest (v ∷ []) in
    let few : k ≤ length rest = omega (arith, c.loop-table-test.true, c.len.ensures, c.loop-table.table.bound.ok, long) in
    record {
      few = few;
      len = length-set es c.as_usize-number.result None ∙ c.loop-table.invariant.len;
      bound = sym (take-append-le k rest (v ∷ []) few) ∙ ap (take k) (sym same) ∙ c.loop-table.invariant.bound;
      entries = λ n.
          ap (λ i. entries_at n k rest (set es i None)) c.as_usize-number.ensures.number
          ∙ sym (at_popped n k rest v es few) ∙ ap (λ bs. entries_at n k bs es) (sym same)
          ∙ c.loop-table.invariant.entries n;
    }

pub loop-table-preserved-else-number-len : goal.loop-table-preserved-else-number-len
loop-table-preserved-else-number-len c =
    let k = c.args.bindings in
    let es = c.loop-table.table.entries.items in
    let rest = c.pop.new.self.items in
    let v = c.in-Some.variable in
    let same = c.in-Some.ensures.items in
    let long = ap length same ∙ length-append rest (v ∷ []) in
    let few : k ≤ length rest = omega (arith, c.loop-table-test.true, c.len.ensures, c.loop-table.table.bound.ok, long) in
    let past : length es ≤ v = omega (arith, c.if-number-len.false, c.len-in-Some.ensures, c.loop-table.table.entries.ok, c.as_usize-number.ensures.number) in
    record {
      few = few;
      len = c.loop-table.invariant.len;
      bound = sym (take-append-le k rest (v ∷ []) few) ∙ ap (take k) (sym same) ∙ c.loop-table.invariant.bound;
      entries = λ n.
          ap (entries_at n k rest) (sym (set_past es v None past))
          ∙ sym (at_popped n k rest v es few) ∙ ap (λ bs. entries_at n k bs es) (sym same)
          ∙ c.loop-table.invariant.entries n;
    }
