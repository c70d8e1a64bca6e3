-- Laws of canonical trees. They are of trees in which no variable has contents, as each type's tree is.
use Rattle.std.specs.Prelude.{◌≡◌, ◌↔◌}
use Rattle.tt_kinds.specs.Tree.{Depth, Tree}
use Rattle.unify.specs.Substitution.{apply}
use Rattle.unify.proofs.OccursLaws.{IsProper}
use Rattle.canonical.specs.Canonical.{variables, canonical, originals, AreRenamed}

-- two trees have one canonical tree exactly if each is the other one with its variables renamed
abbrev pub CanonicalFormsAreExact : Type 0
CanonicalFormsAreExact = (t u : Tree Depth) → IsProper t → IsProper u → (canonical t ≡ canonical u) ↔ AreRenamed t u

-- with each number replaced by the variable that it is in place of, a canonical tree is the tree itself
abbrev pub OriginalsRestore : Type 0
OriginalsRestore = (t : Tree Depth) → IsProper t → apply (originals (variables t)) (canonical t) ≡ t
