-- Walks that skip nothing, of small types.
use Rattle.std.proofs.Common.{ℕ, List, [], ◌∷◌, refl, subst, Bool, true, arith}
use Rattle.std.specs.Prelude.{IsTrue}
use Rattle.tt_index.specs.declared.refusal.Refusal.{Refusal}
use Rattle.tt_index.specs.declared.refusal.Refusal.TheVariants.{ArgOutOfRange, ArgKind, RegionVariable}
use Rattle.tt_kinds.specs.Label.{region_sort, type_sort, const_variable, region_var, bool_type, tuple_type}
use Rattle.tt_kinds.specs.Label.{unsafe_binder_type, dynamic_type, unsafe_binder_record, type_label, record_label}
use Rattle.tt_kinds.specs.Tree.{Depth, at, Tree, param, bound, region, term, node, binder, none, also}
use Rattle.tt_kinds.specs.Argument.{Argument}
use Rattle.tt_fold.specs.Walk.{replaced, descended, rebuilt, in_term, at_node, at_binder, done, next, descent_failed}
use Rattle.tt_fold.specs.Walk.{inside_failed, in_term_failed, here, later, term_failed, region_failed}
use Rattle.tt_binder.specs.Unpruned.{outside, GivesUnpruned, FailsUnpruned, only}

-- each refusal is heeded
abbrev each : Refusal → Bool
each e = true

-- the type of truth values, and a type variable of this index
abbrev truth : Tree Depth
truth = term (type_label bool_type) none

abbrev variable : ℕ → Tree Depth
variable d = bound type_sort (at d) (record { var = 0; kind = const_variable })

-- the pair of two types, and a type under a binder
abbrev pair : Tree Depth → Tree Depth → Tree Depth
pair t u = term (type_label tuple_type) (also t (also u none))

abbrev under_binder : Tree Depth → Tree Depth
under_binder t = term (type_label unsafe_binder_type) (also (binder [] (node (record_label unsafe_binder_record) (also t none))) none)

-- one type as the list of arguments
abbrev one : Tree Depth → List (Argument Depth)
one t = record { sort = type_sort; value = t } ∷ []

-- `(T, for<> T)`, where T becomes a variable bound just outside: under the binder it is shifted past it
both_places : GivesUnpruned each (one (variable 0)) (pair (param type_sort 0 []) (under_binder (param type_sort 0 []))) (pair (variable 0) (under_binder (variable 1)))
both_places = (
  outside (one (variable 0)),
  descended refl (refl, refl, λ e heeds h. h) (rebuilt (in_term (next
      (replaced refl (refl, refl, λ e heeds h. h.1 (omega arith)))
      (next (descended refl (refl, refl, λ e heeds h. h) (rebuilt (in_term (next
      (at_binder (refl, λ e heeds h. omega (arith, h.1)) (at_node (next (replaced refl (refl, refl, λ e heeds h. h.1 (omega arith))) done) (λ h. h)) refl)
      done) (λ h. h)) (refl, refl))) done)) (λ h. h)) (refl, refl)),
)

-- a parameter past the end of the list is refused
past_the_end : FailsUnpruned each (one truth) (pair truth (param type_sort 1 [])) (ArgOutOfRange 1)
past_the_end = (
  outside (one truth),
  descent_failed refl (refl, refl, λ e heeds h. h) (inside_failed (in_term_failed (later
      (descended refl (refl, refl, λ e heeds h. h) (rebuilt (in_term done (λ h. h)) (refl, refl)))
      (λ h. h)
      (here (term_failed refl (refl, refl, refl)))))),
)

-- of two refusals, the walk that heeds the second alone ends at it
second_alone : FailsUnpruned (only (ArgKind 0)) (one truth) (pair (param type_sort 1 []) (param region_sort 0 [])) (ArgKind 0)
second_alone = (
  outside (one truth),
  descent_failed refl (refl, refl, λ e heeds h. h) (inside_failed (in_term_failed (later
      (replaced refl (refl, refl, λ e heeds h. (let never = subst (λ x. IsTrue (only (ArgKind 0) x)) h heeds in cc)))
      (λ h. h)
      (here (region_failed refl (refl, refl, refl)))))),
)

-- a region variable is refused also where nothing around it holds a parameter
hidden_variable : FailsUnpruned each (one truth) (term (type_label dynamic_type) (also (region (region_var 3)) none)) (RegionVariable 3)
hidden_variable = (outside (one truth), descent_failed refl (refl, refl, λ e heeds h. h) (inside_failed (in_term_failed (here (region_failed refl (refl, refl, refl))))))
