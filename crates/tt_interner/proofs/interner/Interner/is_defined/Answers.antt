-- by the map
use Rattle.std.proofs.Common.{◌≡◌, refl, sym, ap, ◌∙◌, is_some}
use Rattle.tt_interner.specs.Definitions.{variants_of}
use Rattle.tt_interner.proofs.DefinitionLaws.{copied-some, defined_test}
use Rattle.tt_interner.proofs.interner.Interner.is_defined.Goals as goal

pub returns : goal.returns
returns c =
    let same : c.is_some.result ≡ is_some (variants_of c.args.self.now.rows c.args.id.number) =
    c.is_some.ensures ∙ copied-some c.get.result ∙ ap is_some c.get.ensures.value
    ∙ defined_test _ _ _ c.self.invariant.tables c.self.inside.definitions.entries refl c.args.id.number ∙ ap (λ v. is_some (variants_of v.rows c.args.id.number)) c.self.view_is in
    (λ is. sym same ∙ is, λ is. same ∙ is)
