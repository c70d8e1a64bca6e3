-- Bodies whose expressions were compared, and the rules.
use Rattle.std.proofs.Common.{◌≡◌, ℕ, ◌≤◌, length, Some, ap, arith, subst, ◌∙◌}
use Rattle.std.specs.Prelude.{slice_get}
use Rattle.std.proofs.lemmas.Option.{slice_get_within}
use Rattle.tt_kinds.specs.Handle.{Ty}
use Rattle.tt_kinds.specs.Kinds.{ty_shape}
use Rattle.tt_interner.specs.Stored.{Terms, Extends}
use Rattle.tt_interner.proofs.OwnedLaws.{found_owned}
use Rattle.tt_fold.specs.Steps.{tree_in}
use Rattle.checker.specs.Scope.{IsScope, around}
use Rattle.checker.specs.Typing.{IsTypedBody, Writes}
use Rattle.checker.specs.declared.scope.Scope.{Scope}
use Rattle.checker.proofs.ListLaws.{length_mapped}
use Rattle.checker.proofs.TreeLaws.{tree_at, tree_stays}
use Rattle.checker.proofs.TypingLaws.{AreTypedBelow}

-- a body whose expressions and result have their types
pub body_typed : (old new : Terms) (scope : Scope) (count : ℕ) (output result : Ty) → Extends old new → IsScope old scope
    → length scope.types.now ≡ length scope.body.now.expressions.items → length scope.body.now.expressions.items ≤ count
    → AreTypedBelow (around old scope) scope.body.now.expressions.items count
    → Writes (around new scope) scope.function.now.output (tree_in new.rows (ty_shape output))
    → slice_get scope.types.now scope.body.now.result ≡ Some result
    → output ≡ result → IsTypedBody (around old scope)
body_typed old new scope count output result extends h counted all below written there same =
    let mine = found_owned ty_shape old scope.types.now scope.body.now.result result there h.types in
    let stays = ap (λ x. tree_in new.rows (ty_shape x)) same ∙ tree_stays old new result extends mine in
    record {
      counted = length_mapped (λ (ty : Ty). tree_in old.rows (ty_shape ty)) scope.types.now ∙ counted;
      each = λ i e at. below i e (let within = slice_get_within scope.body.now.expressions.items i e at in omega (arith, within, all)) at;
      result = tree_in old.rows (ty_shape result);
      returned = tree_at old scope.types.now scope.body.now.result result there;
      output = subst (Writes (around old scope) scope.function.now.output) stays written;
    }
