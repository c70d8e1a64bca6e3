-- What the flags say of a type's parameters.
use Rattle.std.proofs.Common.{◌≡◌, ℕ, zero, suc, ◌%◌, [], ◌∷◌, refl, sym, ap, ◌∙◌, arith, Bool, true, false}
use Rattle.std.specs.Prelude.{IsTrue, ◌≢◌, bit_and}
use Rattle.std.proofs.lemmas.Nat.{and_mask}
use Rattle.tt_kinds.specs.Label.{Name, TypeLabel, placeholder_type, infer_type, error_type, coroutine_type, alias_type}
use Rattle.tt_kinds.specs.Label.{ConstLabel, infer_const, placeholder_const, unevaluated_const, error_const, Label}
use Rattle.tt_kinds.specs.Label.{type_label, const_label, pattern_label, predicate_label, existential_label}
use Rattle.tt_kinds.specs.Label.{clause_list_label, list_label, var_list_label, text_label, declaration_label}
use Rattle.tt_kinds.specs.Label.{definition_label, record_label, error_label, clause_label, infer_flags, alias_flags}
use Rattle.tt_kinds.specs.Label.{flags_of_type, infer_const_flags, flags_of_const, flags_of_label}
use Rattle.tt_kinds.specs.Tree.{Depth, Tree, param, bound, region, term, node, binder}
use Rattle.tt_kinds.specs.Scan.{scan}
use Rattle.tt_kinds.specs.Param.{holds_param}
use Rattle.tt_kinds.specs.Cause.{HidesRegionVars}
use Rattle.tt_kinds.specs.declared.ty_kind.InferTy.{InferTy}
use Rattle.tt_kinds.specs.declared.ty_kind.InferTy.TheVariants.{TyVar, IntVar, FloatVar, FreshTy, FreshIntTy}
use Rattle.tt_kinds.specs.declared.ty_kind.InferTy.TheVariants.{FreshFloatTy}
use Rattle.tt_kinds.specs.declared.const_kind.InferConst.{InferConst}
use Rattle.tt_kinds.specs.declared.const_kind.InferConst.TheVariants.{Var, Fresh}
use Rattle.tt_kinds.specs.declared.alias.AliasTyKind.{AliasTyKind}
use Rattle.tt_kinds.specs.declared.alias.AliasTyKind.TheVariants as alias
use Rattle.tt_kinds.proofs.FlagLaws.{param_bit, as_number, param_bit-scan}
use Rattle.tt_kinds.proofs.ParamLaws.{IsGeneric-never}
use Rattle.tt_kinds.proofs.ChildLaws.{HidesRegionVars-stored}
use Rattle.tt_binder.specs.Instantiation.{IsTypeOrClause}

-- no label sets a flag for parameters
infer_sets_none : (i : InferTy) → param_bit (infer_flags i) ≡ 0
infer_sets_none (TyVar v) = refl
infer_sets_none (IntVar v) = refl
infer_sets_none (FloatVar v) = refl
infer_sets_none (FreshTy n) = refl
infer_sets_none (FreshIntTy n) = refl
infer_sets_none (FreshFloatTy n) = refl

alias_sets_none : (k : AliasTyKind) → param_bit (alias_flags k) ≡ 0
alias_sets_none (alias.Projection d) = refl
alias_sets_none (alias.Inherent d) = refl
alias_sets_none (alias.Opaque d) = refl
alias_sets_none (alias.Free d) = refl

type_sets_none : (l : TypeLabel) → param_bit (flags_of_type l) ≡ 0
type_sets_none (placeholder_type p) = refl
type_sets_none (infer_type i) = infer_sets_none i
type_sets_none (error_type e) = refl
type_sets_none (coroutine_type d) = refl
type_sets_none (alias_type k) = alias_sets_none k
type_sets_none _ = refl

infer_const_sets_none : (i : InferConst) → param_bit (infer_const_flags i) ≡ 0
infer_const_sets_none (Var v) = refl
infer_const_sets_none (Fresh n) = refl

const_sets_none : (l : ConstLabel) → param_bit (flags_of_const l) ≡ 0
const_sets_none (infer_const i) = infer_const_sets_none i
const_sets_none (placeholder_const p) = refl
const_sets_none (unevaluated_const d) = refl
const_sets_none (error_const e) = refl
const_sets_none _ = refl

label_sets_none : (l : Label Name) → param_bit (flags_of_label l) ≡ 0
label_sets_none (type_label l) = type_sets_none l
label_sets_none (const_label l) = const_sets_none l
label_sets_none (pattern_label l) = refl
label_sets_none predicate_label = refl
label_sets_none existential_label = refl
label_sets_none clause_list_label = refl
label_sets_none (list_label t) = refl
label_sets_none (var_list_label []) = refl
label_sets_none (var_list_label (v ∷ vs)) = refl
label_sets_none (text_label bytes) = refl
label_sets_none (declaration_label n k name) = refl
label_sets_none (definition_label n vs) = refl
label_sets_none (record_label l) = refl
label_sets_none (error_label e) = refl
label_sets_none clause_label = refl

-- the three flags for parameters together
meets_none : (n : ℕ) → n % 8 ≡ 0 → param_bit n ≡ 0
meets_none n h = omega arith

meets_some : (n : ℕ) → (n % 8 ≡ 0 → ⊥) → param_bit n ≡ 1
meets_some n h = omega arith

as_number-one : (b : Bool) → as_number b ≡ 1 → b ≡ true
as_number-one true h = refl
as_number-one false h = absurd (omega (arith, h))

as_number-zero : (b : Bool) → as_number b ≡ 0 → b ≡ false
as_number-zero true h = absurd (omega (arith, h))
as_number-zero false h = refl

-- the flags meet those for parameters exactly where one occurs
pub meets_param : (t : Tree Depth) (n : ℕ) → n ≡ scan t → (bit_and n 7 ≢ 0) → holds_param t ≡ true
meets_param t n e h = as_number-one (holds_param t) (sym (param_bit-scan label_sets_none t) ∙ ap param_bit (sym e) ∙ meets_some n (λ none. h (and_mask n 3 ∙ none)))

is_zero : (n : ℕ) (b : Bool) → b ≡ false → (n ≢ 0 → IsTrue b) → n ≡ 0
is_zero zero b e h = refl
is_zero (suc n) b e h = let never = h (λ z. omega (arith, z)) in cc

-- a tree whose flags include none of the flags of parameters holds no parameter
pub misses_param : (t : Tree Depth) (n : ℕ) (b : Bool) → n ≡ scan t → b ≡ false → (bit_and n 7 ≢ 0 → IsTrue b) → holds_param t ≡ false
misses_param t n b e none h =
    as_number-zero (holds_param t) (sym (param_bit-scan label_sets_none t) ∙ ap param_bit (sym e) ∙ meets_none n (sym (and_mask n 3) ∙ is_zero (bit_and n 7) b none h))

-- a type, a predicate or a clause list without parameters hides its region variables
pub hides_none : (t : Tree Depth) → IsTypeOrClause t → holds_param t ≡ false → HidesRegionVars t
hides_none (param s i name) is h = cc
hides_none (bound s d e) is h = λ x g. g
hides_none (region r) is h = absurd is
hides_none (term l ts) is h = HidesRegionVars-stored l ts is (IsGeneric-never (term l ts) h)
hides_none (node l ts) is h = absurd is
hides_none (binder vs t) is h = absurd is
