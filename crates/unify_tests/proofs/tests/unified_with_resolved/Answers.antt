use Rattle.std.proofs.Common.{Result, Ok, Err, IfErr, sym, ap, ◌≡◌, ◌∙◌}
use Rattle.tt_kinds.specs.Kinds.{ty_shape}
use Rattle.tt_kinds.specs.Handle.{Ty}
use Rattle.tt_interner.specs.Owned.{IsOwned}
use Rattle.tt_interner.specs.Stored.{Terms, Extends}
use Rattle.tt_interner.proofs.Growth.{fill-grows}
use Rattle.tt_fold.specs.Steps.{tree_in}
use Rattle.unify.specs.Bindings.{IsTable, Table, substitution}
use Rattle.unify.specs.Faults.{IsMismatch}
use Rattle.unify.specs.Substitution.{Substitution, apply}
use Rattle.unify.specs.declared.fault.Fault.{Fault}
use Rattle.unify.proofs.UnificationLaws.{resolved_match, resolved_once}
use Rattle.unify_tests.proofs.tests.unified_with_resolved.Goals as goal

-- what a mismatch would promise doesn't hold
never : {T : Type 0} (A : Type 0) (result : Result T Fault) → (A → ⊥) → IfErr result (λ f. IsMismatch f → A) → IfErr result (λ f. IsMismatch f → ⊥)
never A (Ok x) false promised = tt
never A (Err f) false promised = λ is. false (promised is)

-- a type and what it resolves to resolve to one type
same : (old new : Terms) (entries : Table) (ty resolved : Ty) → Extends old new → IsOwned ty_shape old ty → IsTable new entries
    → substitution new entries ≡ substitution old entries
    → tree_in new.rows (ty_shape resolved) ≡ apply (substitution old entries) (tree_in old.rows (ty_shape ty))
    → apply (substitution new entries) (tree_in new.rows (ty_shape ty)) ≡ apply (substitution new entries) (tree_in new.rows (ty_shape resolved))
same old new entries ty resolved extends owned table stays plain =
    let σ : Substitution = substitution new entries in
    let grown : tree_in new.rows (ty_shape ty) ≡ tree_in old.rows (ty_shape ty) = fill-grows old.rows new.rows extends.rows (ty_shape ty) owned in
    let is : tree_in new.rows (ty_shape resolved) ≡ apply σ (tree_in new.rows (ty_shape ty)) =
    plain ∙ ap (λ s. apply s (tree_in old.rows (ty_shape ty))) (sym stays) ∙ ap (apply σ) (sym grown) in
    sym (resolved_once new entries (tree_in new.rows (ty_shape ty)) table) ∙ ap (apply σ) (sym is)

pub returns : goal.returns
returns c =
    let new : Terms = c.resolve.new.cx in
    never _ c.unify.result
    (resolved_match new c.args.bindings.now c.args.ty c.in_ok-resolved.resolved c.are_rows.ensures.are c.in_ok-resolved.ensures.table
    (same c.args.cx.now new c.args.bindings.now c.args.ty c.in_ok-resolved.resolved c.in_ok-resolved.ensures.extends (c.is_owned.ensures.0 c.if-not-is_owned.false)
    c.in_ok-resolved.ensures.table c.in_ok-resolved.ensures.same c.in_ok-resolved.ensures.plain))
    c.unify.ensures.mismatch
