use Rattle.std.proofs.Common.{ap, ◌∙◌}
use Rattle.tt_kinds.specs.Label.{printed, named}
use Rattle.tt_calls.proofs.BuildLaws.{symbol-named}
use Rattle.tt_calls.proofs.build.regions.build_name.Goals as goal

pub returns-in_ok-symbol-in-NamedForPrinting-clause-name : goal.returns-in_ok-symbol-in-NamedForPrinting-clause-name
returns-in_ok-symbol-in-NamedForPrinting-clause-name c =
    let s = c.in_ok-symbol-in-NamedForPrinting in
    rw (c.in-NamedForPrinting.is)
    (λ rows. record {
      ok = record {
        part = s.ensures.in_range;
        means = ap printed (symbol-named c.args.cx.now c.symbol.new.self _ s.symbol.number s.ensures.means ∙ c.as_str.ensures.value);
      };
      err = tt;
    })

pub returns-in-Named-clause-name : goal.returns-in-Named-clause-name
returns-in-Named-clause-name c =
    rw (c.in-Named.is) (λ rows. record { ok = record { part = tt; means = ap named (c.def_at.ensures rows) }; err = tt })
