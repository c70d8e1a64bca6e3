-- The flags for parameters are set exactly where a parameter occurs.
use Rattle.std.proofs.Common.{◌≡◌, ℕ, max, List, [], ◌∷◌, refl, ap, sym, ◌∙◌, arith}
use Rattle.std.specs.Prelude.{Bool, true, false, ◌||◌, bit_or}
use Rattle.std.specs.Int.{bit_at}
use Rattle.std.proofs.lemmas.Nat.Bits.{bit_at_or}
use Rattle.tt_kinds.specs.Label.{Name, Sort, region_sort, type_sort, const_sort, VarKind, Label, FreeRegion}
use Rattle.tt_kinds.specs.Label.{static_region, erased_region, region_var, error_region, late_param_region}
use Rattle.tt_kinds.specs.Label.{placeholder_region, list_flags, flags_of_label}
use Rattle.tt_kinds.specs.Tree.{Depth, at, canonical, Tree, param, bound, region, term, node, binder, Forest, none}
use Rattle.tt_kinds.specs.Tree.{also}
use Rattle.tt_kinds.specs.Param.{holds_param, holds_param_among}
use Rattle.tt_kinds.specs.Scan.{param_flags, bound_flags, index_flags, region_flags, scan, scan_all}

-- 1 where one of the three flags for parameters is set, and else 0
abbrev pub param_bit : ℕ → ℕ
param_bit n = max (bit_at n 0) (max (bit_at n 1) (bit_at n 2))

param_bit-or : (a b : ℕ) → param_bit (bit_or a b) ≡ max (param_bit a) (param_bit b)
param_bit-or a b =
    let first = bit_at_or a b 0 in
    let second = bit_at_or a b 1 in
    let third = bit_at_or a b 2 in
    omega arith

-- a truth value as a number
abbrev pub as_number : Bool → ℕ
as_number true = 1
as_number false = 0

as_number-or : (a b : Bool) → as_number (a || b) ≡ max (as_number a) (as_number b)
as_number-or true true = omega arith
as_number-or true false = omega arith
as_number-or false b = omega arith

param_bit-param : (s : Sort) → param_bit (param_flags s) ≡ 1
param_bit-param region_sort = refl
param_bit-param type_sort = refl
param_bit-param const_sort = refl

param_bit-bound : (s : Sort) (d : Depth) → param_bit (bit_or (bound_flags s) (index_flags d)) ≡ 0
param_bit-bound region_sort (at d) = refl
param_bit-bound region_sort canonical = refl
param_bit-bound type_sort (at d) = refl
param_bit-bound type_sort canonical = refl
param_bit-bound const_sort (at d) = refl
param_bit-bound const_sort canonical = refl

param_bit-region : (r : FreeRegion Name) → param_bit (region_flags r) ≡ 0
param_bit-region static_region = refl
param_bit-region erased_region = refl
param_bit-region (region_var x) = refl
param_bit-region (error_region n) = refl
param_bit-region (late_param_region d r) = refl
param_bit-region (placeholder_region u v r) = refl

param_bit-list : (vs : List (VarKind Name)) → param_bit (list_flags vs) ≡ 0
param_bit-list [] = refl
param_bit-list (v ∷ vs) = refl

zero_max : (n : ℕ) → max 0 n ≡ n
zero_max n = omega arith

-- a node's flags are its label's and its children's
module _ (no_label : (l : Label Name) → param_bit (flags_of_label l) ≡ 0) where
  below : (l : Label Name) (n : ℕ) (b : Bool) → param_bit n ≡ as_number b → param_bit (bit_or (flags_of_label l) n) ≡ as_number b
  below l n b h = param_bit-or (flags_of_label l) n ∙ ap (λ m. max m (param_bit n)) (no_label l) ∙ zero_max (param_bit n) ∙ h

under : (vs : List (VarKind Name)) (n : ℕ) (b : Bool) → param_bit n ≡ as_number b → param_bit (bit_or (list_flags vs) n) ≡ as_number b
under vs n b h = param_bit-or (list_flags vs) n ∙ ap (λ m. max m (param_bit n)) (param_bit-list vs) ∙ zero_max (param_bit n) ∙ h

both : (m n : ℕ) (a b : Bool) → param_bit m ≡ as_number a → param_bit n ≡ as_number b → param_bit (bit_or m n) ≡ as_number (a || b)
both m n a b p q = param_bit-or m n ∙ ap (λ x. max x (param_bit n)) p ∙ ap (max (as_number a)) q ∙ sym (as_number-or a b)

-- where labels set none of the three, they are set exactly where a parameter occurs
module _ (no_label : (l : Label Name) → param_bit (flags_of_label l) ≡ 0) where
  mutual
    -- one of the three flags for parameters is set in a tree's scan exactly where a parameter occurs in the tree
    pub param_bit-scan : (t : Tree Depth) → param_bit (scan t) ≡ as_number (holds_param t)
    param_bit-scan (param s i name) = param_bit-param s
    param_bit-scan (bound s d e) = param_bit-bound s d
    param_bit-scan (region r) = param_bit-region r
    param_bit-scan (term l ts) = below no_label l (scan_all ts) (holds_param_among ts) (param_bit-scan_all ts)
    param_bit-scan (node l ts) = below no_label l (scan_all ts) (holds_param_among ts) (param_bit-scan_all ts)
    param_bit-scan (binder vs t) = under vs (scan t) (holds_param t) (param_bit-scan t)

    pub param_bit-scan_all : (ts : Forest Depth) → param_bit (scan_all ts) ≡ as_number (holds_param_among ts)
    param_bit-scan_all none = refl
    param_bit-scan_all (also t ts) = both (scan t) (scan_all ts) (holds_param t) (holds_param_among ts) (param_bit-scan t) (param_bit-scan_all ts)
