-- Folds of the regions of small terms by a closure.
use Rattle.std.proofs.Common.{◌≡◌, ℕ, suc, List, [], ◌∷◌, ◌++◌, refl}
use Rattle.tt_index.specs.declared.numeric.UintTy.TheVariants as uint
use Rattle.tt_index.specs.declared.qualifier.Mutability.TheVariants as mutability
use Rattle.tt_kinds.specs.declared.table.Table.TheVariants.{TypeLists}
use Rattle.tt_kinds.specs.declared.bound.BoundRegionKind.TheVariants.{Anon}
use Rattle.tt_kinds.specs.declared.bound.BoundVarIndexKind.{BoundVarIndexKind}
use Rattle.tt_kinds.specs.declared.bound.BoundVarIndexKind.TheVariants.{Bound, Canonical}
use Rattle.tt_kinds.specs.declared.region_kind.RegionKind.{RegionKind}
use Rattle.tt_kinds.specs.declared.region_kind.RegionKind.TheVariants.{ReBound, ReStatic, ReVar}
use Rattle.tt_kinds.specs.Label.{Name, VarKind, anonymous, region_variable, uint_type, ref_type, tuple_type}
use Rattle.tt_kinds.specs.Label.{fn_ptr_type, fn_sig_tys_record, pair_record, type_label, list_label, record_label}
use Rattle.tt_kinds.specs.Tree.{Depth, Tree, term, node, binder, Forest, none, also}
use Rattle.tt_kinds.specs.Reading.{outer_binder}
use Rattle.tt_kinds.specs.Scan.{scan}
use Rattle.tt_kinds.specs.Met.{placed}
use Rattle.tt_kinds.specs.Shape.{fill}
use Rattle.tt_fold.specs.RegionFolder.{region_tree, Places}

-- no symbol is named
abbrev names : ℕ → Name
names n = []

-- `&r u32`, a tuple, and a function pointer under a binder of these variables
abbrev reference : RegionKind → Tree Depth
reference r = term (type_label (ref_type mutability.«Not»)) (also (region_tree names r) (also (term (type_label (uint_type uint.U32)) none) none))

abbrev types : Forest Depth → Tree Depth
types ts = node (list_label TypeLists) ts

abbrev pointer : List (VarKind Name) → Forest Depth → Tree Depth
pointer vs ts = term (type_label (fn_ptr_type (record { fn_sig_kind = record { flags = 0; splat = 65535 } })))
    (also (binder vs (node (record_label fn_sig_tys_record) (also (types ts) none))) none)

-- the first variable of a binder, without a name
abbrev first_of : BoundVarIndexKind → RegionKind
first_of i = ReBound i (record { var = 0; kind = Anon })

-- the closure that answers the region variable of the number of its calls before
abbrev counting : ℕ → RegionKind → ℕ → RegionKind → ℕ → Type 0
counting n r k answer m = (answer ≡ ReVar n) × (m ≡ suc n)

-- the closure is called at each place of a region, also if both are in one handle, each time from the state before
one_handle_twice : Places counting names 0 (node (record_label pair_record) (also (reference ReStatic) (also (reference ReStatic) none)))
    (node (record_label pair_record) (also (reference (ReVar 0)) (also (reference (ReVar 1)) none))) 2
unfolding fill
one_handle_twice = record {
  calls = record { region = ReStatic; depth = 0; answer = ReVar 0 } ∷ record { region = ReStatic; depth = 0; answer = ReVar 1 } ∷ [];
  made = (1, (refl, refl), (2, (refl, refl), refl));
  are_met = refl;
  are_placed = refl;
}

-- the closure that keeps its calls, and answers the same variable each time
abbrev keeping : RegionKind → List (RegionKind × ℕ) → RegionKind → ℕ → RegionKind → List (RegionKind × ℕ) → Type 0
keeping same calls r k answer calls' = (answer ≡ same) × (calls' ≡ calls ++ (r, k) ∷ [])

-- a pointer under a binder of one region, with three references
abbrev three : RegionKind → RegionKind → RegionKind → Tree Depth
three p q r = pointer (region_variable anonymous ∷ []) (also (reference p) (also (reference q) (also (reference r) (also (term (type_label tuple_type) (also (types none) none)) none))))

-- the closure is not called at the pointer's own region, and its answers are bound by the pointer where they are placed
own_not_asked : Places (keeping (first_of (Bound 0))) names [] (three (first_of (Bound 0)) (first_of (Bound 1)) ReStatic)
    (three (first_of (Bound 0)) (first_of (Bound 0)) (first_of (Bound 0))) ((first_of (Bound 1), 1) ∷ (ReStatic, 1) ∷ [])
unfolding fill
own_not_asked = record {
  calls = record { region = first_of (Bound 1); depth = 1; answer = first_of (Bound 0) } ∷ record { region = ReStatic; depth = 1; answer = first_of (Bound 0) } ∷ [];
  made = ((first_of (Bound 1), 1) ∷ [], (refl, refl), ((first_of (Bound 1), 1) ∷ (ReStatic, 1) ∷ [], (refl, refl), refl));
  are_met = refl;
  are_placed = refl;
}

-- `fn(&r u32)` under a binder of no variables
abbrev alone : RegionKind → Tree Depth
alone r = pointer [] (also (reference r) (also (term (type_label tuple_type) (also (types none) none)) none))

-- an answer of the last index is placed as it is, and points outside of the pointer
last_placed : (placed 0 (alone ReStatic) (region_tree names (first_of (Bound 4294967039)) ∷ []) ≡ alone (first_of (Bound 4294967039)))
    × (scan (alone (first_of (Bound 4294967039))) ≡ 0x40000) × (outer_binder (alone (first_of (Bound 4294967039))) ≡ 4294967039)
unfolding fill
last_placed = (refl, refl, refl)

-- an answer that is a canonical variable points to no binder
canonical_placed : (placed 0 (alone ReStatic) (region_tree names (first_of Canonical) ∷ []) ≡ alone (first_of Canonical))
    × (scan (alone (first_of Canonical)) ≡ 0x4040000) × (outer_binder (alone (first_of Canonical)) ≡ 0)
unfolding fill
canonical_placed = (refl, refl, refl)
