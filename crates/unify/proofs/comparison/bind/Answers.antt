use Rattle.unify.specs.Bindings.{table_of}
use Rattle.unify.proofs.ComparisonLaws.{grown_by, untested_zero, tested_more}
use Rattle.unify.proofs.comparison.bind.Goals as goal

pub returns-clause-grown : goal.returns-clause-grown
returns-clause-grown c =
    rw (c.as_usize.ensures.number, c.in_ok-push.ensures.items)
    (grown_by c.args.cx.now c.are_rows.ensures.are (table_of c.args.table.now) c.args.variable c.args.ty c.requires.entries
    c.requires.ty c.requires.inside c.requires.free c.requires.links c.requires.unbound c.requires.other
    (untested_zero c.has_escaping_bound_vars.result _ c.has_escaping_bound_vars.ensures
    c.if-has_escaping_bound_vars.false))
