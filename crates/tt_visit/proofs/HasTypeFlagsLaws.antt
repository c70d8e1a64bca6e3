-- The visitor that looks for flags breaks exactly where the tree has one of the mask.
use Rattle.std.proofs.Common.{◌≡◌, ℕ, ◌%◌, List, [], ◌∷◌, length, refl, ap, sym, ◌∙◌, arith}
use Rattle.std.specs.Prelude.{◌==◌, ◌↔◌, Bool, true, false, bit_and, bit_or}
use Rattle.std.specs.Int.{bit_at}
use Rattle.std.specs.Int.Bits.{and_zero_r}
use Rattle.std.proofs.lemmas.Nat.Bits.{bit_at_and, bit_at_or, bit_at-zero, same_from_bits}
use Rattle.std.proofs.lemmas.Bool.{eqb-true}
use Rattle.std.proofs.lemmas.Grind.{numeral_and}
use Rattle.tt_kinds.specs.Label.{Name, TypeLabel, ConstLabel, Label, type_label, const_label, pattern_label}
use Rattle.tt_kinds.specs.Label.{predicate_label, existential_label, clause_list_label, list_label, var_list_label}
use Rattle.tt_kinds.specs.Label.{text_label, declaration_label, definition_label, record_label, error_label}
use Rattle.tt_kinds.specs.Label.{clause_label, list_flags, flags_of_label, flags_of_type, flags_of_const, bool_type}
use Rattle.tt_kinds.specs.Label.{char_type, int_type, uint_type, float_type, str_type, never_type, placeholder_type}
use Rattle.tt_kinds.specs.Label.{infer_type, error_type, ref_type, raw_ptr_type, slice_type, tuple_type, fn_ptr_type}
use Rattle.tt_kinds.specs.Label.{foreign_type, adt_type, fn_def_type, array_type, pat_type, unsafe_binder_type}
use Rattle.tt_kinds.specs.Label.{dynamic_type, closure_type, coroutine_closure_type, coroutine_type}
use Rattle.tt_kinds.specs.Label.{coroutine_witness_type, alias_type, infer_const, placeholder_const, unevaluated_const}
use Rattle.tt_kinds.specs.Label.{leaf_const, branch_const, error_const, expr_const}
use Rattle.tt_kinds.specs.Tree.{Depth, Tree, Forest, term, node, binder, none, also}
use Rattle.tt_flags.specs.TypeFlags.{has_binder_vars, has_error}
use Rattle.tt_kinds.specs.Shape.{Meaning, fill, vars_of}
use Rattle.tt_kinds.specs.Kinds.{vars_row_shape}
use Rattle.tt_kinds.specs.declared.bound.BoundVariableKind.{BoundVariableKind}
use Rattle.tt_kinds.specs.declared.table.Table.TheVariants.{VarLists}
use Rattle.tt_kinds.specs.Param.{holds_param}
use Rattle.tt_kinds.specs.Scan.{scan, scan_all}
use Rattle.tt_kinds.specs.declared.alias.AliasTyKind.{AliasTyKind}
use Rattle.tt_kinds.specs.declared.alias.AliasTyKind.TheVariants.{Projection, Inherent, Opaque, Free}
use Rattle.tt_kinds.specs.declared.const_kind.InferConst.{InferConst}
use Rattle.tt_kinds.specs.declared.const_kind.InferConst.TheVariants.{Var, Fresh}
use Rattle.tt_kinds.specs.declared.ty_kind.InferTy.{InferTy}
use Rattle.tt_kinds.specs.declared.ty_kind.InferTy.TheVariants.{TyVar, IntVar, FloatVar, FreshTy, FreshIntTy}
use Rattle.tt_kinds.specs.declared.ty_kind.InferTy.TheVariants.{FreshFloatTy}
use Rattle.tt_kinds.proofs.FlagLaws.{param_bit, as_number, param_bit-scan}
use Rattle.tt_visit.specs.Root.{term_root, node_root, unhooked, a_part}
use Rattle.tt_visit.specs.Visit.{GoesOver, GoesOverAll, region_seen, skipped, went_inside, unhooked_seen, token_seen}
use Rattle.tt_visit.specs.Visit.{node_seen, binder_skipped, binder_seen, value_seen, all_seen, one_seen, Breaks}
use Rattle.tt_visit.specs.Visit.{BreaksAll, region_broke, term_broke, inside_broke, unhooked_broke, token_broke}
use Rattle.tt_visit.specs.Visit.{node_broke, enter_broke, under_broke, value_broke, first_broke, later_broke}
use Rattle.tt_visit.specs.HasTypeFlags.{Misses, Meets, flag_hooks}
use Rattle.tt_visit.specs.declared.has_type_flags.FoundFlags.{FoundFlags}

-- a mask misses two sets of flags together exactly where it misses each
pub bits-left : (m a b : ℕ) → Misses m (bit_or a b) → Misses m a
bits-left m a b h = same_from_bits (bit_and m a) 0 one
  where
    one : (i : ℕ) → bit_at (bit_and m a) i ≡ bit_at 0 i
    one i =
        let none_set : bit_at (bit_and m (bit_or a b)) i ≡ bit_at 0 i = ap (λ n. bit_at n i) h in
        let zero_bit = bit_at-zero i in
        let both = bit_at_and m (bit_or a b) i in
        let either = bit_at_or a b i in
        let left = bit_at_and m a i in
        omega arith

-- a mask that misses two sets of flags together misses the second
pub bits-right : (m a b : ℕ) → Misses m (bit_or a b) → Misses m b
bits-right m a b h = same_from_bits (bit_and m b) 0 one
  where
    one : (i : ℕ) → bit_at (bit_and m b) i ≡ bit_at 0 i
    one i =
        let none_set : bit_at (bit_and m (bit_or a b)) i ≡ bit_at 0 i = ap (λ n. bit_at n i) h in
        let zero_bit = bit_at-zero i in
        let both = bit_at_and m (bit_or a b) i in
        let either = bit_at_or a b i in
        let right = bit_at_and m b i in
        omega arith

-- a mask that misses each of two sets of flags misses them together
pub bits-both : (m a b : ℕ) → Misses m a → Misses m b → Misses m (bit_or a b)
bits-both m a b h g = same_from_bits (bit_and m (bit_or a b)) 0 one
  where
    one : (i : ℕ) → bit_at (bit_and m (bit_or a b)) i ≡ bit_at 0 i
    one i =
        let first : bit_at (bit_and m a) i ≡ bit_at 0 i = ap (λ n. bit_at n i) h in
        let second : bit_at (bit_and m b) i ≡ bit_at 0 i = ap (λ n. bit_at n i) g in
        let zero_bit = bit_at-zero i in
        let both = bit_at_and m (bit_or a b) i in
        let either = bit_at_or a b i in
        let left = bit_at_and m a i in
        let right = bit_at_and m b i in
        omega arith

-- a part has no flags of its own
pub part-flags : (m : ℕ) (l : Label Name) → node_root l ≡ a_part → Misses m (flags_of_label l)
part-flags m (type_label l) is = cc
part-flags m (const_label l) is = cc
part-flags m (pattern_label l) is = cc
part-flags m predicate_label is = cc
part-flags m existential_label is = cc
part-flags m clause_list_label is = cc
part-flags m (list_label t) is = and_zero_r m
part-flags m (var_list_label vs) is = cc
part-flags m (text_label bytes) is = cc
part-flags m (declaration_label n k name) is = cc
part-flags m (definition_label n vs) is = cc
part-flags m (record_label l) is = and_zero_r m
part-flags m (error_label e) is = cc
part-flags m clause_label is = and_zero_r m

-- a term without a hook has no flags of its own
pub unhooked-flags : (m : ℕ) (l : Label Name) → term_root l ≡ unhooked → Misses m (flags_of_label l)
unhooked-flags m (type_label l) is = cc
unhooked-flags m (const_label l) is = cc
unhooked-flags m (pattern_label l) is = and_zero_r m
unhooked-flags m predicate_label is = cc
unhooked-flags m existential_label is = and_zero_r m
unhooked-flags m clause_list_label is = cc
unhooked-flags m (list_label t) is = cc
unhooked-flags m (var_list_label vs) is = cc
unhooked-flags m (text_label bytes) is = cc
unhooked-flags m (declaration_label n k name) is = cc
unhooked-flags m (definition_label n vs) is = cc
unhooked-flags m (record_label l) is = cc
unhooked-flags m (error_label e) is = cc
unhooked-flags m clause_label is = cc

-- the flags of a binder's list, by its contents
pub flags-of-none : (f : Meaning) (n : ℕ) (vs : List BoundVariableKind) → f VarLists n ≡ fill f (vars_row_shape vs) → (length vs == 0) ≡ true → list_flags (vars_of (f VarLists n)) ≡ 0
unfolding fill
flags-of-none f n [] is h = rw is refl
flags-of-none f n (v ∷ vs) is h = let none_left = eqb-true (length (v ∷ vs)) 0 h in absurd (omega arith)

-- a list of variables that isn't empty has the flag of binders with variables, and no other
pub flags-of-some : (f : Meaning) (n : ℕ) (vs : List BoundVariableKind) → f VarLists n ≡ fill f (vars_row_shape vs) → (length vs == 0) ≡ false → list_flags (vars_of (f VarLists n)) ≡ has_binder_vars
unfolding fill
flags-of-some f n [] is h = cc
flags-of-some f n (v ∷ vs) is h = rw is refl

mutual
  -- where the visit goes to its end, the tree has no flag of the mask
  pub goes-misses : (s s' : ℕ) (t : Tree Depth) → GoesOver flag_hooks s t s' → (s' ≡ s) × Misses s (scan t)
  goes-misses s s' t (region_seen is h) = h
  goes-misses s s' t (skipped is h) = (h.0, h.2)
  goes-misses s s' t (went_inside is h inside) = let never = h.1 in cc
  goes-misses s s' (term l ts) (unhooked_seen is all) =
      let inside = goes_all-misses s s' ts all in (inside.0, bits-both s (flags_of_label l) (scan_all ts) (unhooked-flags s l is) inside.1)
  goes-misses s s' (node (error_label e) none) (token_seen h) = (h.0, bits-both s has_error 0 h.1 (and_zero_r s))
  goes-misses s s' (node l ts) (node_seen is all) =
      let rest = goes_all-misses s s' ts all in (rest.0, bits-both s (flags_of_label l) (scan_all ts) (part-flags s l is) rest.1)
  goes-misses s s' (binder vs t) (binder_skipped e) = let never = e.1 in cc
  goes-misses s s' (binder vs t) (binder_seen {s1 = s1} {s2 = s2} e (value_seen h) l) =
      let inner = goes-misses s1 s2 t h in (l ∙ inner.0 ∙ e.0, bits-both s (list_flags vs) (scan t) e.2 (rw e.0 at inner.1))

  goes_all-misses : (s s' : ℕ) (ts : Forest Depth) → GoesOverAll flag_hooks s ts s' → (s' ≡ s) × Misses s (scan_all ts)
  goes_all-misses s s' none all_seen = (refl, and_zero_r s)
  goes_all-misses s s' (also t ts) (one_seen {s1 = s1} h more) =
      let first = goes-misses s s1 t h in let rest = goes_all-misses s1 s' ts more in
      (rest.0 ∙ first.0, bits-both s (scan t) (scan_all ts) first.1 (rw first.0 at rest.1))

mutual
  -- where the visit breaks, it has one
  pub breaks-meets : (s s' : ℕ) (t : Tree Depth) (b : FoundFlags) → Breaks flag_hooks s t b s' → Meets s (scan t)
  breaks-meets s s' t b (region_broke is h) = h.1
  breaks-meets s s' t b (term_broke is h) = h.1
  breaks-meets s s' t b (inside_broke is h inside) = let never = h.1 in cc
  breaks-meets s s' (term l ts) b (unhooked_broke is all) = λ e. breaks_all-meets s s' ts b all (bits-right s (flags_of_label l) (scan_all ts) e)
  breaks-meets s s' (node (error_label e) none) b (token_broke h) = λ none_set. h.1 (bits-left s has_error 0 none_set)
  breaks-meets s s' (node l ts) b (node_broke is all) = λ e. breaks_all-meets s s' ts b all (bits-right s (flags_of_label l) (scan_all ts) e)
  breaks-meets s s' (binder vs t) b (enter_broke e) = λ none_set. e.1 (bits-left s (list_flags vs) (scan t) none_set)
  breaks-meets s s' (binder vs t) b (under_broke {s1 = s1} {s2 = s2} e (value_broke h) l) =
      λ none_set. breaks-meets s1 s2 t b h (rw e.0 (bits-right s (list_flags vs) (scan t) none_set))

  breaks_all-meets : (s s' : ℕ) (ts : Forest Depth) (b : FoundFlags) → BreaksAll flag_hooks s ts b s' → Meets s (scan_all ts)
  breaks_all-meets s s' none b h = elim h [ ]
  breaks_all-meets s s' (also t ts) b (first_broke h) = λ none_set. breaks-meets s s' t b h (bits-left s (scan t) (scan_all ts) none_set)
  breaks_all-meets s s' (also t ts) b (later_broke {s1 = s1} a h) =
      λ none_set. breaks_all-meets s1 s' ts b h (rw (goes-misses s s1 t a).0 (bits-right s (scan t) (scan_all ts) none_set))

-- no label has a parameter's flag
infer-plain : (i : InferTy) → param_bit (flags_of_type (infer_type i)) ≡ 0
infer-plain (TyVar v) = refl
infer-plain (IntVar v) = refl
infer-plain (FloatVar v) = refl
infer-plain (FreshTy n) = refl
infer-plain (FreshIntTy n) = refl
infer-plain (FreshFloatTy n) = refl

alias-plain : (k : AliasTyKind) → param_bit (flags_of_type (alias_type k)) ≡ 0
alias-plain (Projection d) = refl
alias-plain (Inherent d) = refl
alias-plain (Opaque d) = refl
alias-plain (Free d) = refl

type-plain : (l : TypeLabel) → param_bit (flags_of_type l) ≡ 0
type-plain bool_type = refl
type-plain char_type = refl
type-plain (int_type i) = refl
type-plain (uint_type i) = refl
type-plain (float_type f) = refl
type-plain str_type = refl
type-plain never_type = refl
type-plain (placeholder_type p) = refl
type-plain (infer_type i) = infer-plain i
type-plain (error_type e) = refl
type-plain (ref_type m) = refl
type-plain (raw_ptr_type m) = refl
type-plain slice_type = refl
type-plain tuple_type = refl
type-plain (fn_ptr_type h) = refl
type-plain (foreign_type d) = refl
type-plain (adt_type d) = refl
type-plain (fn_def_type d) = refl
type-plain array_type = refl
type-plain pat_type = refl
type-plain unsafe_binder_type = refl
type-plain dynamic_type = refl
type-plain (closure_type d) = refl
type-plain (coroutine_closure_type d) = refl
type-plain (coroutine_type d) = refl
type-plain (coroutine_witness_type d) = refl
type-plain (alias_type k) = alias-plain k

infer_const-plain : (i : InferConst) → param_bit (flags_of_const (infer_const i)) ≡ 0
infer_const-plain (Var v) = refl
infer_const-plain (Fresh n) = refl

const-plain : (l : ConstLabel) → param_bit (flags_of_const l) ≡ 0
const-plain (infer_const i) = infer_const-plain i
const-plain (placeholder_const p) = refl
const-plain (unevaluated_const d) = refl
const-plain (leaf_const bits size) = refl
const-plain branch_const = refl
const-plain (error_const e) = refl
const-plain (expr_const tag) = refl

label-plain : (l : Label Name) → param_bit (flags_of_label l) ≡ 0
label-plain (type_label l) = type-plain l
label-plain (const_label l) = const-plain l
label-plain (pattern_label l) = refl
label-plain predicate_label = refl
label-plain existential_label = refl
label-plain clause_list_label = refl
label-plain (list_label t) = refl
label-plain (var_list_label []) = refl
label-plain (var_list_label (v ∷ vs)) = refl
label-plain (text_label bytes) = refl
label-plain (declaration_label n k name) = refl
label-plain (definition_label n vs) = refl
label-plain (record_label l) = refl
label-plain (error_label e) = refl
label-plain clause_label = refl

-- the flags for parameters are met exactly where a parameter occurs
pub param-meets : (t : Tree Depth) → Meets 7 (scan t) ↔ (holds_param t ≡ true)
param-meets t = (there, back)
  where
    low : bit_and 7 (scan t) ≡ scan t % 8
    low = numeral_and 6 (scan t) refl

    bits : param_bit (scan t) ≡ as_number (holds_param t)
    bits = param_bit-scan label-plain t

    none_set : scan t % 8 ≡ 0 → param_bit (scan t) ≡ 0
    none_set h = omega arith

    all_clear : param_bit (scan t) ≡ 0 → scan t % 8 ≡ 0
    all_clear h = omega arith

    is_true : (b : Bool) → (as_number b ≡ 0 → ⊥) → b ≡ true
    is_true true h = refl
    is_true false h = absurd (h refl)

    there : Meets 7 (scan t) → holds_param t ≡ true
    there h = is_true (holds_param t) (λ e. h (low ∙ all_clear (bits ∙ e)))

    back : holds_param t ≡ true → Meets 7 (scan t)
    back h e = let one : param_bit (scan t) ≡ 1 = bits ∙ ap as_number h in let zero_bits = none_set (sym low ∙ e) in omega arith
