use Rattle.std.proofs.Common.{sym, subst, ap, ◌∙◌}
use Rattle.tt_interner.specs.Owned.{tree_by}
use Rattle.unify.specs.Substitution.{apply}
use Rattle.canonical.specs.Canonical.{numbered, IsListedOnce}
use Rattle.canonical.proofs.ListingLaws.{variables_once}
use Rattle.canonical.proofs.form.canonicalize.Goals as goal

pub numbered-requires-clause-variables : goal.numbered-requires-clause-variables
numbered-requires-clause-variables g c =
    subst IsListedOnce (sym (c.as_slice.ensures.value ∙ c.in_ok-variables.ensures))
    (variables_once (tree_by g.T.TypeVisitable.shape c.args.cx.now.rows c.args.value))

pub returns-clause-plain : goal.returns-clause-plain
returns-clause-plain g c =
    c.in_ok-value.ensures.plain
    ∙ ap (λ vs. apply (numbered vs) (tree_by g.T.TypeVisitable.shape c.args.cx.now.rows c.args.value))
    (c.as_slice.ensures.value ∙ c.in_ok-variables.ensures)
