-- From flags to variables: a tree without the flag of inference variables holds none.
use Rattle.std.proofs.Common.{◌≡◌, ℕ, Some}
use Rattle.tt_flags.specs.TypeFlags.{has_ty_infer}
use Rattle.tt_kinds.specs.Label.{Name, Label, type_label, infer_type, flags_of_label, list_flags}
use Rattle.tt_kinds.specs.declared.ty_kind.InferTy.TheVariants.{TyVar}
use Rattle.tt_kinds.specs.Scan.{scan, scan_all}
use Rattle.tt_kinds.specs.Tree as tree
use Rattle.tt_kinds.specs.Tree.{Depth, Tree, Forest}
use Rattle.tt_visit.specs.HasTypeFlags.{Misses}
use Rattle.tt_visit.proofs.HasTypeFlagsLaws.{bits-left, bits-right}
use Rattle.unify.specs.Substitution.{Substitution, variable_of, apply, IsWithout, AreWithout}
use Rattle.unify.proofs.SubstitutionLaws.{resolved_stays}

-- an inference variable has the flag
variable_flagged : (l : Label Name) (v : ℕ) → variable_of l ≡ Some v → Misses has_ty_infer (flags_of_label l) → ⊥
variable_flagged (type_label (infer_type (TyVar w))) v is h = cc
variable_flagged l v is h = absurd (cc)

mutual
  -- a tree without the flag holds no variable
  pub unflagged_without : (t : Tree Depth) (v : ℕ) → Misses has_ty_infer (scan t) → IsWithout v t
  unflagged_without (tree.param o i name) v h = tt
  unflagged_without (tree.bound o d e) v h = tt
  unflagged_without (tree.region r) v h = tt
  unflagged_without (tree.term l ts) v h = (
    (λ is. variable_flagged l v is (bits-left has_ty_infer (flags_of_label l) (scan_all ts) h)),
    all_without ts v (bits-right has_ty_infer (flags_of_label l) (scan_all ts) h),
  )
  unflagged_without (tree.node l ts) v h = all_without ts v (bits-right has_ty_infer (flags_of_label l) (scan_all ts) h)
  unflagged_without (tree.binder vs t) v h = unflagged_without t v (bits-right has_ty_infer (list_flags vs) (scan t) h)

  all_without : (ts : Forest Depth) (v : ℕ) → Misses has_ty_infer (scan_all ts) → AreWithout v ts
  all_without tree.none v h = tt
  all_without (tree.also t ts) v h =
      (unflagged_without t v (bits-left has_ty_infer (scan t) (scan_all ts) h), all_without ts v (bits-right has_ty_infer (scan t) (scan_all ts) h))

-- a tree without the flag stays as it is
pub unflagged_stays : (σ : Substitution) (t : Tree Depth) → Misses has_ty_infer (scan t) → apply σ t ≡ t
unflagged_stays σ t h = resolved_stays σ t (λ v r b. unflagged_without t v h)
