use Rattle.std.proofs.Common.{[], ◌∷◌, refl}
use Rattle.tt_kinds.specs.Kinds.{parts_shapes}
use Rattle.tt_interner.proofs.Growth.{Extends-trans}
use Rattle.tt_calls.specs.Told.{told_all, HasFullTable}
use Rattle.tt_calls.specs.Parts.{named_part}
use Rattle.tt_calls.proofs.ToldLaws.{told_all-grows, AreOwnedAnswers-grows}
use Rattle.tt_calls.proofs.ChildLaws.{only-child, both-children, first-needs, second-needs}
use Rattle.tt_calls.proofs.PartLaws.{parts-none, parts-passed, unbuilt-first, unbuilt-second}
use Rattle.tt_calls.proofs.ResultLaws.{passed}
use Rattle.tt_calls.proofs.build.parts.build_parts.Goals as goal

pub returns-in-None-clause-parts : goal.returns-in-None-clause-parts
returns-in-None-clause-parts c =
    rw (c.in-None.is, c.none.ensures) (record { ok = parts-none c.args.cx.now (told_all c.args.cx.now.rows c.args.earlier.now); err = tt })

pub returns-in_err-build_part-in-One-clause-parts : goal.returns-in_err-build_part-in-One-clause-parts
returns-in_err-build_part-in-One-clause-parts c =
    let e = told_all c.args.cx.now.rows c.args.earlier.now in
    let r = c.in_err-build_part-in-One in
    let p = named_part c.in-One.part in
    rw (c.in-One.is)
    (parts-passed c.build_part.new.cx e (p ∷ []) parts_shapes c.from_residual.result r.field-0.0 c.from_residual.ensures.1
    (unbuilt-first (HasFullTable c.build_part.new.cx) e p [] r.field-0.0 r.ensures.child.err))

pub returns-in_err-build_part-in-One-clause-room : goal.returns-in_err-build_part-in-One-clause-room
returns-in_err-build_part-in-One-clause-room c =
    let e = told_all c.args.cx.now.rows c.args.earlier.now in
    let r = c.in_err-build_part-in-One in
    rw (c.in-One.is)
    (passed c.from_residual.result r.field-0.0 _ c.from_residual.ensures.1 (first-needs c.build_part.new.cx.rows e (named_part c.in-One.part) [] r.field-0.0 r.ensures.room))

pub returns-in_ok-build_part-in-One-clause-sorts : goal.returns-in_ok-build_part-in-One-clause-sorts
returns-in_ok-build_part-in-One-clause-sorts c =
    rw (c.in-One.is, c.one.ensures) (c.in_ok-build_part-in-One.ensures.child.ok.sort, refl)

pub returns-in_ok-build_part-in-One-clause-parts : goal.returns-in_ok-build_part-in-One-clause-parts
returns-in_ok-build_part-in-One-clause-parts c =
    let r = c.in_ok-build_part-in-One in
    rw (c.in-One.is, c.one.ensures)
    (record { ok = only-child c.build_part.new.cx (told_all c.args.cx.now.rows c.args.earlier.now) (named_part c.in-One.part) r.field-0 r.ensures.child.ok; err = tt })

pub returns-in_err-first-in-Two-clause-parts : goal.returns-in_err-first-in-Two-clause-parts
returns-in_err-first-in-Two-clause-parts c =
    let e = told_all c.args.cx.now.rows c.args.earlier.now in
    let r = c.in_err-first-in-Two in
    let p = named_part c.in-Two.first in
    let q = named_part c.in-Two.second in
    rw (c.in-Two.is)
    (parts-passed c.build_part-in-Two.new.cx e (p ∷ q ∷ []) parts_shapes c.from_residual-in_err-first-in-Two.result r.field-0.0 c.from_residual-in_err-first-in-Two.ensures.1
    (unbuilt-first (HasFullTable c.build_part-in-Two.new.cx) e p (q ∷ []) r.field-0.0 r.ensures.child.err))

pub returns-in_err-first-in-Two-clause-room : goal.returns-in_err-first-in-Two-clause-room
returns-in_err-first-in-Two-clause-room c =
    let e = told_all c.args.cx.now.rows c.args.earlier.now in
    let r = c.in_err-first-in-Two in
    rw (c.in-Two.is)
    (passed c.from_residual-in_err-first-in-Two.result r.field-0.0 _ c.from_residual-in_err-first-in-Two.ensures.1
    (first-needs c.build_part-in-Two.new.cx.rows e (named_part c.in-Two.first) (named_part c.in-Two.second ∷ []) r.field-0.0 r.ensures.room))

pub build_part-requires-in-Two-2 : goal.build_part-requires-in-Two-2
build_part-requires-in-Two-2 c = AreOwnedAnswers-grows c.args.cx.now.rows c.build_part-in-Two.new.cx.rows c.build_part-in-Two.ensures.extends.rows c.args.earlier.now c.requires

pub returns-in_err-second-in-Two-clause-extends : goal.returns-in_err-second-in-Two-clause-extends
returns-in_err-second-in-Two-clause-extends c = Extends-trans c.build_part-in-Two.ensures.extends c.build_part-in-Two-2.ensures.extends

pub returns-in_err-second-in-Two-clause-parts : goal.returns-in_err-second-in-Two-clause-parts
returns-in_err-second-in-Two-clause-parts c =
    let same = told_all-grows c.args.cx.now.rows c.build_part-in-Two.new.cx.rows c.build_part-in-Two.ensures.extends.rows c.args.earlier.now c.requires in
    let e = told_all c.args.cx.now.rows c.args.earlier.now in
    let r = c.in_err-second-in-Two in
    let p = named_part c.in-Two.first in
    let q = named_part c.in-Two.second in
    rw (c.in-Two.is)
    (parts-passed c.build_part-in-Two-2.new.cx e (p ∷ q ∷ []) parts_shapes c.from_residual-in_err-second-in-Two.result r.field-0.0 c.from_residual-in_err-second-in-Two.ensures.1
    (unbuilt-second (HasFullTable c.build_part-in-Two-2.new.cx) e p q [] r.field-0.0 (rw (← same) r.ensures.child.err)))

pub returns-in_err-second-in-Two-clause-room : goal.returns-in_err-second-in-Two-clause-room
returns-in_err-second-in-Two-clause-room c =
    let same = told_all-grows c.args.cx.now.rows c.build_part-in-Two.new.cx.rows c.build_part-in-Two.ensures.extends.rows c.args.earlier.now c.requires in
    let e = told_all c.args.cx.now.rows c.args.earlier.now in
    let r = c.in_err-second-in-Two in
    rw (c.in-Two.is)
    (passed c.from_residual-in_err-second-in-Two.result r.field-0.0 _ c.from_residual-in_err-second-in-Two.ensures.1
    (second-needs c.build_part-in-Two-2.new.cx.rows e (named_part c.in-Two.first) (named_part c.in-Two.second) [] r.field-0.0 (rw (← same) r.ensures.room)))

pub returns-in_ok-second-in-Two-clause-extends : goal.returns-in_ok-second-in-Two-clause-extends
returns-in_ok-second-in-Two-clause-extends c = Extends-trans c.build_part-in-Two.ensures.extends c.build_part-in-Two-2.ensures.extends

pub returns-in_ok-second-in-Two-clause-sorts : goal.returns-in_ok-second-in-Two-clause-sorts
returns-in_ok-second-in-Two-clause-sorts c =
    rw (c.in-Two.is, c.two.ensures) (c.in_ok-first-in-Two.ensures.child.ok.sort, c.in_ok-second-in-Two.ensures.child.ok.sort)

pub returns-in_ok-second-in-Two-clause-parts : goal.returns-in_ok-second-in-Two-clause-parts
returns-in_ok-second-in-Two-clause-parts c =
    let same = told_all-grows c.args.cx.now.rows c.build_part-in-Two.new.cx.rows c.build_part-in-Two.ensures.extends.rows c.args.earlier.now c.requires in
    rw (c.in-Two.is, c.two.ensures)
    (record {
      ok = both-children c.build_part-in-Two.new.cx c.build_part-in-Two-2.new.cx (told_all c.args.cx.now.rows c.args.earlier.now) (named_part c.in-Two.first) (named_part c.in-Two.second)
          c.in_ok-first-in-Two.first c.in_ok-second-in-Two.second c.build_part-in-Two-2.ensures.extends c.in_ok-first-in-Two.ensures.child.ok (rw (← same) c.in_ok-second-in-Two.ensures.child.ok);
      err = tt;
    })
