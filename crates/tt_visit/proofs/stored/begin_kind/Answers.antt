use Rattle.std.proofs.Common.{arith}
use Rattle.tt_interner.specs.Rows.{meaning, size}
use Rattle.tt_visit.proofs.VisitSteps.{parts-kind, inside-kind, told-kind, broke-kind}
use Rattle.tt_visit.proofs.BeginSteps.{begun-weaker, kind-work}
use Rattle.tt_visit.proofs.stored.begin_kind.Goals as goal

pub begin_contents-requires-clause-vars : goal.begin_contents-requires-clause-vars
begin_contents-requires-clause-vars g c = rw c.bound_vars.ensures (parts-kind (size c.args.cx.now.rows) c.args.kind.now c.requires.kind).0

pub begin_contents-requires-clause-parts : goal.begin_contents-requires-clause-parts
begin_contents-requires-clause-parts g c = rw c.parts.ensures (parts-kind (size c.args.cx.now.rows) c.args.kind.now c.requires.kind).1

pub returns-in-Break-clause-begun : goal.returns-in-Break-clause-begun
returns-in-Break-clause-begun g c = told-kind _ _ _ _ _ _ c.in-Break.ensures.result

pub returns-in-Continue-clause-begun : goal.returns-in-Continue-clause-begun
returns-in-Continue-clause-begun g c =
    let contents = rw (c.bound_vars.ensures, c.parts.ensures) at c.begin_contents.ensures.begun in
    let work = kind-work (meaning c.args.cx.now.rows) c.args.kind.now in
    begun-weaker _ _ _ c.begin_contents.result contents
    (λ _ h. inside-kind _ _ _ _ _ _ c.in-Continue.ensures.result h) (λ b _ h. broke-kind _ _ _ _ _ _ b c.in-Continue.ensures.result h)
    (omega arith) (omega (arith, work))
