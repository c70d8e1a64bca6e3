-- more items than there are places: the places, the next item, and the others
use Rattle.std.proofs.Common.{rules, arith, inl}
use Rattle.std.proofs.lemmas.List.{length-append}
use Rattle.tt_interner.specs.Collect.{YieldsMany}
use Rattle.tt_interner.proofs.CollectLaws.{yields-more, drains-joined}
use Rattle.tt_interner.proofs.interner.Interner.mk_type_list_from_iter.Goals as goal

pub returns-in_err-items-in-Some-clause-builds : goal.returns-in_err-items-in-Some-clause-builds
returns-in_err-items-in-Some-clause-builds g c =
    let first = rw c.in-Some.is at c.fill-count.ensures.fills in
    let full = rw c.in-Some.is at c.fill-count.ensures.full in
    let many : YieldsMany g.I.Iterator.next_gives c.args.iter =
    (_, _, yields-more g.I.Iterator.next_gives _ _ _ _ _ first.1 first.2, simp length-append (omega arith)) in
    search rules

pub mk_tys-requires-in-Some : goal.mk_tys-requires-in-Some
mk_tys-requires-in-Some g c =
    let first = rw c.in-Some.is at c.fill-count.ensures.fills in
    let all = c.in_ok-items-in-Some.ensures.ok in
    rw (c.as_slice.ensures.value, all.2) (c.requires.items _ (drains-joined g.I.Iterator.next_gives _ _ _ _ _ _ first.1 first.2 all.1))

pub returns-in_ok-items-in-Some-clause-builds : goal.returns-in_ok-items-in-Some-clause-builds
returns-in_ok-items-in-Some-clause-builds g c =
    let first = rw c.in-Some.is at c.fill-count.ensures.fills in
    let all = c.in_ok-items-in-Some.ensures.ok in
    inl (_, drains-joined g.I.Iterator.next_gives _ _ _ _ _ _ first.1 first.2 all.1, rw (c.as_slice.ensures.value, all.2) at c.mk_tys-in-Some.ensures)
