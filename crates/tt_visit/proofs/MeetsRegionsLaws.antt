-- Where flags and outer binder tell that a region is met or that none is, and what the visitor finds.
use Rattle.std.proofs.Common.{inl, inr, ◌≡◌, ℕ, zero, suc, ◌+◌, ◌-◌, ◌<◌, ◌≤◌, List, [], ◌∷◌, ◌++◌, refl, ap, sym, ◌∙◌}
use Rattle.std.proofs.Common.{arith}
use Rattle.std.specs.Prelude.{Option, Some, None, Bool, true, false, ⊤, IsTrue, ◌≢◌, ◌↔◌, bit_and, bit_or, nat_lt}
use Rattle.std.specs.Prelude.{if◌then◌else◌}
use Rattle.std.proofs.lemmas.Nat.{and_comm}
use Rattle.std.proofs.lemmas.Bool.{cases_lt, le-ltb}
use Rattle.tt_index.specs.Greatest.{greatest}
use Rattle.tt_kinds.specs.Label.{Name, Sort, region_sort, type_sort, const_sort, VarKind, Entry, FreeRegion}
use Rattle.tt_kinds.specs.Label.{static_region, erased_region, region_var, error_region, late_param_region}
use Rattle.tt_kinds.specs.Label.{placeholder_region, TypeLabel, ConstLabel, infer_type, alias_type, infer_const, Label}
use Rattle.tt_kinds.specs.Label.{type_label, const_label, pattern_label, predicate_label, existential_label}
use Rattle.tt_kinds.specs.Label.{clause_list_label, list_label, var_list_label, text_label, declaration_label}
use Rattle.tt_kinds.specs.Label.{definition_label, record_label, error_label, clause_label, infer_flags, alias_flags}
use Rattle.tt_kinds.specs.Label.{infer_const_flags, list_flags, flags_of_label, flags_of_type, flags_of_const}
use Rattle.tt_kinds.specs.Tree.{Depth, at, canonical, own, outer, Tree, Forest, param, bound, region, term, node}
use Rattle.tt_kinds.specs.Tree.{binder, none, also}
use Rattle.tt_kinds.specs.Reading.{read, read_all, reach, greatest_reach, greatest_reach_all, outer_binder}
use Rattle.tt_kinds.specs.Scan.{scan, scan_all, region_flags}
use Rattle.tt_kinds.specs.Met.{Met, met_leaf, met, met_all}
use Rattle.tt_kinds.specs.declared.alias.AliasTyKind.{AliasTyKind}
use Rattle.tt_kinds.specs.declared.alias.AliasTyKind.TheVariants.{Projection, Inherent, Opaque, Free}
use Rattle.tt_kinds.specs.declared.const_kind.InferConst.{InferConst}
use Rattle.tt_kinds.specs.declared.const_kind.InferConst.TheVariants.{Var, Fresh}
use Rattle.tt_kinds.specs.declared.ty_kind.InferTy.{InferTy}
use Rattle.tt_kinds.specs.declared.ty_kind.InferTy.TheVariants.{TyVar, IntVar, FloatVar, FreshTy, FreshIntTy}
use Rattle.tt_kinds.specs.declared.ty_kind.InferTy.TheVariants.{FreshFloatTy}
use Rattle.tt_kinds.proofs.OuterLaws.{greatest_reach-deeper}
use Rattle.tt_kinds.proofs.ReadingLaws.{place-outer}
use Rattle.tt_visit.specs.Root.{a_region, hooked, root, error_of}
use Rattle.tt_visit.specs.Visit.{Tells, TellingBreaks, GoesOver, GoesOverAll, region_seen, skipped, went_inside}
use Rattle.tt_visit.specs.Visit.{token_seen, node_seen, unhooked_seen, binder_skipped, binder_seen, term_seen}
use Rattle.tt_visit.specs.Visit.{param_seen, bound_seen, value_seen, all_seen, one_seen, Breaks, BreaksAll}
use Rattle.tt_visit.specs.Visit.{region_broke, term_broke, inside_broke, unhooked_broke, token_broke, node_broke}
use Rattle.tt_visit.specs.Visit.{enter_broke, under_broke, error_broke, term_inside_broke, value_broke, first_broke}
use Rattle.tt_visit.specs.Visit.{later_broke}
use Rattle.tt_visit.specs.HasTypeFlags.{Misses, Meets}
use Rattle.tt_visit.specs.MeetsRegions.{RegionSearch, meets_hooks, AreInRange, AreInRange_all, region_range_hooks}
use Rattle.tt_visit.specs.declared.meets_regions.MetRegion.{MetRegion}
use Rattle.tt_visit.proofs.HasTypeFlagsLaws.{bits-left, bits-right, bits-both}
use Rattle.tt_visit.proofs.HasEscapingVarsLaws.{term-no-region, no-leaf}

-- no region is met among two lists exactly where none is met in either
both-none : (xs ys : List Met) → xs ≡ [] → ys ≡ [] → xs ++ ys ≡ []
both-none xs ys p q = rw (p, q) refl

first-none : (xs ys : List Met) → xs ++ ys ≡ [] → xs ≡ []
first-none [] ys h = refl
first-none (x ∷ xs) ys h = let never = h in cc

rest-none : (xs ys : List Met) → xs ++ ys ≡ [] → ys ≡ []
rest-none [] ys h = h
rest-none (x ∷ xs) ys h = let never = h in cc

-- a region that is neither a parameter nor bound has a flag of the two
free-meets : (r : FreeRegion Name) → Misses 0x220000 (region_flags r) → ⊥
free-meets static_region h = let never = h in cc
free-meets erased_region h = let never = h in cc
free-meets (region_var x) h = let never = h in cc
free-meets (error_region e) h = let never = h in cc
free-meets (late_param_region d r) h = let never = h in cc
free-meets (placeholder_region u v r) h = let never = h in cc

-- what has none of the flags of the union has none of a part's
misses-left : (a b n : ℕ) → Misses (bit_or a b) n → Misses a n
misses-left a b n h = and_comm a n ∙ bits-left n a b (and_comm n (bit_or a b) ∙ h)

misses-both : (a b n : ℕ) → Misses a n → Misses b n → Misses (bit_or a b) n
misses-both a b n h g = and_comm (bit_or a b) n ∙ bits-both n a b (and_comm n a ∙ h) (and_comm n b ∙ g)

bound-none : (k d : ℕ) (t : Tree Depth) (b : Bool) → reach (if b then own d else outer (d - k)) ≡ 0
    → (if b then [] else met_leaf region_sort t k) ≡ []
bound-none k d t true h = refl
bound-none k d t false h = absurd (omega arith)

other-none : (s : Sort) (k : ℕ) (t : Tree Depth) (b : Bool) → met_leaf s t k ≡ []
    → (if b then [] else met_leaf s t k) ≡ []
other-none s k t true h = refl
other-none s k t false h = h

mutual
  -- in a tree without flags of regions none is met, under however many binders it is
  pub met-none : (k : ℕ) (t : Tree Depth) → Misses 0x260000 (scan t) → met k t ≡ []
  met-none k (param region_sort i name) h = let never = h in cc
  met-none k (param type_sort i name) h = refl
  met-none k (param const_sort i name) h = refl
  met-none k (bound region_sort (at d) e) h = let never = h in cc
  met-none k (bound type_sort (at d) e) h = other-none type_sort k (bound type_sort (at d) e) (nat_lt d k) refl
  met-none k (bound const_sort (at d) e) h = other-none const_sort k (bound const_sort (at d) e) (nat_lt d k) refl
  met-none k (bound s canonical e) h = refl
  met-none k (region r) h = absurd (free-meets r (misses-left 0x220000 0x40000 (region_flags r) h))
  met-none k (term l ts) h = met_all-none k ts (bits-right 0x260000 (flags_of_label l) (scan_all ts) h)
  met-none k (node l ts) h = met_all-none k ts (bits-right 0x260000 (flags_of_label l) (scan_all ts) h)
  met-none k (binder vs t) h = met-none (suc k) t (bits-right 0x260000 (list_flags vs) (scan t) h)

  pub met_all-none : (k : ℕ) (ts : Forest Depth) → Misses 0x260000 (scan_all ts) → met_all k ts ≡ []
  met_all-none k none h = refl
  met_all-none k (also t ts) h =
      both-none (met k t) (met_all k ts) (met-none k t (bits-left 0x260000 (scan t) (scan_all ts) h))
      (met_all-none k ts (bits-right 0x260000 (scan t) (scan_all ts) h))

mutual
  -- the same where regions are bound, and no variable reaches past the k binders
  met-own : (k : ℕ) (t : Tree Depth) → Misses 0x220000 (scan t) → greatest_reach (read k t) ≡ 0 → met k t ≡ []
  met-own k (param region_sort i name) h low = let never = h in cc
  met-own k (param type_sort i name) h low = refl
  met-own k (param const_sort i name) h low = refl
  met-own k (bound region_sort (at d) e) h low = bound-none k d (bound region_sort (at d) e) (nat_lt d k) low
  met-own k (bound type_sort (at d) e) h low = other-none type_sort k (bound type_sort (at d) e) (nat_lt d k) refl
  met-own k (bound const_sort (at d) e) h low = other-none const_sort k (bound const_sort (at d) e) (nat_lt d k) refl
  met-own k (bound s canonical e) h low = refl
  met-own k (region r) h low = absurd (free-meets r h)
  met-own k (term l ts) h low = met_all-own k ts (bits-right 0x220000 (flags_of_label l) (scan_all ts) h) low
  met-own k (node l ts) h low = met_all-own k ts (bits-right 0x220000 (flags_of_label l) (scan_all ts) h) low
  met-own k (binder vs t) h low = met-own (suc k) t (bits-right 0x220000 (list_flags vs) (scan t) h) low

  met_all-own : (k : ℕ) (ts : Forest Depth) → Misses 0x220000 (scan_all ts)
      → greatest_reach_all (read_all k ts) ≡ 0 → met_all k ts ≡ []
  met_all-own k none h low = refl
  met_all-own k (also t ts) h low =
      both-none (met k t) (met_all k ts) (met-own k t (bits-left 0x220000 (scan t) (scan_all ts) h) (omega arith))
      (met_all-own k ts (bits-right 0x220000 (scan t) (scan_all ts) h) (omega arith))

-- in a tree whose regions are all bound, and whose outer binder is not above the k binders around it, none is met
pub met-none-low : (k : ℕ) (t : Tree Depth) → Misses 0x220000 (scan t) → outer_binder t ≤ k → met k t ≡ []
met-none-low k t h low = met-own k t h none_left
  where
    none_left : greatest_reach (read k t) ≡ 0
    none_left = let deeper : greatest_reach (read (k + 0) t) ≡ greatest_reach (read 0 t) - k = greatest_reach-deeper k 0 t in
        let here : k + 0 ≡ k = omega arith in let reaches : greatest_reach (read 0 t) ≤ k = low in (rw here at deeper) ∙ (omega arith)

-- no label has a flag of a region that isn't bound
infer-regionless : (i : InferTy) → Misses 0x220000 (infer_flags i)
infer-regionless (TyVar v) = refl
infer-regionless (IntVar v) = refl
infer-regionless (FloatVar v) = refl
infer-regionless (FreshTy n) = refl
infer-regionless (FreshIntTy n) = refl
infer-regionless (FreshFloatTy n) = refl

alias-regionless : (k : AliasTyKind) → Misses 0x220000 (alias_flags k)
alias-regionless (Projection d) = refl
alias-regionless (Inherent d) = refl
alias-regionless (Opaque d) = refl
alias-regionless (Free d) = refl

type-regionless : (l : TypeLabel) → Misses 0x220000 (flags_of_type l)
type-regionless (infer_type i) = infer-regionless i
type-regionless (alias_type k) = alias-regionless k
type-regionless _ = refl

infer_const-regionless : (i : InferConst) → Misses 0x220000 (infer_const_flags i)
infer_const-regionless (Var v) = refl
infer_const-regionless (Fresh n) = refl

const-regionless : (l : ConstLabel) → Misses 0x220000 (flags_of_const l)
const-regionless (infer_const i) = infer_const-regionless i
const-regionless _ = refl

list-regionless : (vs : List (VarKind Name)) → Misses 0x220000 (list_flags vs)
list-regionless [] = refl
list-regionless (v ∷ vs) = refl

label-regionless : (l : Label Name) → Misses 0x220000 (flags_of_label l)
label-regionless (type_label l) = type-regionless l
label-regionless (const_label l) = const-regionless l
label-regionless (pattern_label l) = refl
label-regionless predicate_label = refl
label-regionless existential_label = refl
label-regionless clause_list_label = refl
label-regionless (list_label t) = refl
label-regionless (var_list_label vs) = list-regionless vs
label-regionless (text_label bytes) = refl
label-regionless (declaration_label n k name) = refl
label-regionless (definition_label n vs) = refl
label-regionless (record_label l) = refl
label-regionless (error_label e) = refl
label-regionless clause_label = refl

mutual
  -- where no region is met, each region is bound
  none-bound : (k : ℕ) (t : Tree Depth) → met k t ≡ [] → Misses 0x220000 (scan t)
  none-bound k (param region_sort i name) h = let never = h in cc
  none-bound k (param type_sort i name) h = refl
  none-bound k (param const_sort i name) h = refl
  none-bound k (bound region_sort (at d) e) h = refl
  none-bound k (bound type_sort (at d) e) h = refl
  none-bound k (bound const_sort (at d) e) h = refl
  none-bound k (bound region_sort canonical e) h = refl
  none-bound k (bound type_sort canonical e) h = refl
  none-bound k (bound const_sort canonical e) h = refl
  none-bound k (region r) h = let never = h in cc
  none-bound k (term l ts) h = bits-both 0x220000 (flags_of_label l) (scan_all ts) (label-regionless l) (none_all-bound k ts h)
  none-bound k (node l ts) h = bits-both 0x220000 (flags_of_label l) (scan_all ts) (label-regionless l) (none_all-bound k ts h)
  none-bound k (binder vs t) h = bits-both 0x220000 (list_flags vs) (scan t) (list-regionless vs) (none-bound (suc k) t h)

  none_all-bound : (k : ℕ) (ts : Forest Depth) → met_all k ts ≡ [] → Misses 0x220000 (scan_all ts)
  none_all-bound k none h = refl
  none_all-bound k (also t ts) h =
      bits-both 0x220000 (scan t) (scan_all ts) (none-bound k t (first-none (met k t) (met_all k ts) h))
      (none_all-bound k ts (rest-none (met k t) (met_all k ts) h))

-- in a tree with a region that isn't bound one is met, under however many binders it is
pub met-some : (k : ℕ) (t : Tree Depth) → Meets 0x220000 (scan t) → met k t ≢ []
met-some k t meets h = meets (none-bound k t h)

-- a term of which flags and outer binder are known: one of its regions isn't bound
pub told-some : (k n : ℕ) (t : Tree Depth) → n ≡ scan t → Meets 0x220000 n → met k t ≢ []
told-some k n t e meets = met-some k t (rw (← e) meets)

-- it has no region at all
pub told-none : (k n : ℕ) (t : Tree Depth) → n ≡ scan t → Misses 0x220000 n → Misses 0x40000 n → met k t ≡ []
told-none k n t e unfree unbound = met-none k t (rw (← e) (misses-both 0x220000 0x40000 n unfree unbound))

-- its regions are all bound, and below the k binders around it
pub told-low : (k n o : ℕ) (t : Tree Depth) → n ≡ scan t → o ≡ outer_binder t → Misses 0x220000 n → o ≤ k → met k t ≡ []
told-low k n o t e reaches unfree low = met-none-low k t (rw (← e) unfree) (rw (← reaches) low)

-- a test of flags that fails
pub missed : (m n : ℕ) (b : Bool) → b ≡ false → (IsTrue b ↔ Meets m n) → Misses m n
missed m n b is asked = absent (bit_and m n) asked
  where
    absent : (x : ℕ) → (IsTrue b ↔ (x ≢ 0)) → x ≡ 0
    absent zero h = refl
    absent (suc x) h = let never = h.1 (λ z. omega (arith, z)) in cc

-- a test of indices that fails
pub low-enough : (k n : ℕ) (b : Bool) → b ≡ false → (IsTrue b ↔ (k < n)) → n ≤ k
low-enough k n b is asked = elim (cases_lt k n) [ inl h ↦ let never = asked.1 h in cc | inr h ↦ h ]

-- a bound region with an index that isn't below the binders around it is met
pub bound-met : (k d : ℕ) (e : Entry Name) → k < outer_binder (bound region_sort (at d) e)
    → met k (bound region_sort (at d) e) ≢ []
bound-met k d e far h = let never = rw (le-ltb d k low) at h in cc
  where
    reaches : outer_binder (bound region_sort (at d) e) ≡ suc (d - 0)
    reaches = let nothing : 0 ≤ d = omega arith in ap reach (place-outer 0 d nothing)

    low : k ≤ d
    low = let far_out : k < suc (d - 0) = rw reaches at far in omega arith

-- a region with an outer binder above the k binders around it is met
pub region-met : (k : ℕ) (t : Tree Depth) → root t ≡ a_region → k < outer_binder t → met k t ≢ []
region-met k (param s i name) is far h = omega arith
region-met k (bound region_sort (at d) e) is far h = bound-met k d e far h
region-met k (bound type_sort d e) is far h = let never = is in cc
region-met k (bound const_sort d e) is far h = let never = is in cc
region-met k (bound region_sort canonical e) is far h = omega arith
region-met k (region r) is far h = omega arith
region-met k (term l ts) is far h = term-no-region l is
region-met k (node l ts) is far h = no-leaf l (inl is)
region-met k (binder vs t) is far h = let never = is in cc

mutual
  -- where regions are all bound, and their indices below the greatest, none is met under so many binders
  pub met-deep : (k : ℕ) (t : Tree Depth) → greatest ≤ k → AreInRange t → Misses 0x220000 (scan t) → met k t ≡ []
  met-deep k (param region_sort i name) deep r h = let never = h in cc
  met-deep k (param type_sort i name) deep r h = refl
  met-deep k (param const_sort i name) deep r h = refl
  met-deep k (bound region_sort (at d) e) deep r h = met-none-low k (bound region_sort (at d) e) h (omega arith)
  met-deep k (bound type_sort (at d) e) deep r h = other-none type_sort k (bound type_sort (at d) e) (nat_lt d k) refl
  met-deep k (bound const_sort (at d) e) deep r h = other-none const_sort k (bound const_sort (at d) e) (nat_lt d k) refl
  met-deep k (bound s canonical e) deep r h = refl
  met-deep k (region r) deep _ h = absurd (free-meets r h)
  met-deep k (term l ts) deep r h = met_all-deep k ts deep r (bits-right 0x220000 (flags_of_label l) (scan_all ts) h)
  met-deep k (node l ts) deep r h = met_all-deep k ts deep r (bits-right 0x220000 (flags_of_label l) (scan_all ts) h)
  met-deep k (binder vs t) deep r h = met-deep (suc k) t (omega arith) r (bits-right 0x220000 (list_flags vs) (scan t) h)

  met_all-deep : (k : ℕ) (ts : Forest Depth) → greatest ≤ k → AreInRange_all ts → Misses 0x220000 (scan_all ts)
      → met_all k ts ≡ []
  met_all-deep k none deep r h = refl
  met_all-deep k (also t ts) deep r h =
      both-none (met k t) (met_all k ts) (met-deep k t deep r.0 (bits-left 0x220000 (scan t) (scan_all ts) h))
      (met_all-deep k ts deep r.1 (bits-right 0x220000 (scan t) (scan_all ts) h))

-- a region or a term that isn't taken apart, in range
region-range : (t : Tree Depth) → root t ≡ a_region → outer_binder t ≤ greatest → AreInRange t
region-range (param s i name) is h = tt
region-range (bound region_sort d e) is h = h
region-range (bound type_sort d e) is h = tt
region-range (bound const_sort d e) is h = tt
region-range (region r) is h = tt
region-range (term l ts) is h = absurd (term-no-region l is)
region-range (node l ts) is h = absurd (no-leaf l (inl is))
region-range (binder vs t) is h = let never = is in cc

bound-range : (s : Sort) (d : Depth) (e : Entry Name) → root (bound s d e) ≡ hooked → AreInRange (bound s d e)
bound-range region_sort d e is = let never = is in cc
bound-range type_sort d e is = tt
bound-range const_sort d e is = tt

mutual
  -- where no bound region occurs, none has an index out of range
  unbound-range : (t : Tree Depth) → Misses 0x40000 (scan t) → AreInRange t
  unbound-range (param s i name) h = tt
  unbound-range (bound region_sort (at d) e) h = let never = h in cc
  unbound-range (bound region_sort canonical e) h = let never = h in cc
  unbound-range (bound type_sort d e) h = tt
  unbound-range (bound const_sort d e) h = tt
  unbound-range (region r) h = tt
  unbound-range (term l ts) h = unbound-range_all ts (bits-right 0x40000 (flags_of_label l) (scan_all ts) h)
  unbound-range (node l ts) h = unbound-range_all ts (bits-right 0x40000 (flags_of_label l) (scan_all ts) h)
  unbound-range (binder vs t) h = unbound-range t (bits-right 0x40000 (list_flags vs) (scan t) h)

  unbound-range_all : (ts : Forest Depth) → Misses 0x40000 (scan_all ts) → AreInRange_all ts
  unbound-range_all none h = tt
  unbound-range_all (also t ts) h =
      (unbound-range t (bits-left 0x40000 (scan t) (scan_all ts) h), unbound-range_all ts (bits-right 0x40000 (scan t) (scan_all ts) h))

mutual
  -- what the visitor saw that asks for the indices of regions
  pub goes-range : (s s' : ⊤) (t : Tree Depth) → GoesOver region_range_hooks s t s' → AreInRange t
  goes-range s s' t (region_seen is h) = region-range t is h
  goes-range s s' t (skipped is h) = unbound-range t (h refl)
  goes-range s s' (term l ts) (went_inside is h (term_seen {s1 = s1} e all)) = goes_all-range s1 s' ts all
  goes-range s s' (param o i name) (went_inside is h inside) = tt
  goes-range s s' (bound o d e) (went_inside is h inside) = bound-range o d e is
  goes-range s s' (binder vs t) (went_inside is h inside) = let never = is in cc
  goes-range s s' (region r) (went_inside is h inside) = tt
  goes-range s s' (node l ts) (went_inside is h inside) = elim inside [ ]
  goes-range s s' (term l ts) (unhooked_seen is all) = goes_all-range s s' ts all
  goes-range s s' (node (error_label e) none) (token_seen h) = tt
  goes-range s s' (node l ts) (node_seen is all) = goes_all-range s s' ts all
  goes-range s s' (binder vs t) (binder_skipped e) = let never = e in cc
  goes-range s s' (binder vs t) (binder_seen {s1 = s1} {s2 = s2} e (value_seen h) l) = goes-range s1 s2 t h

  goes_all-range : (s s' : ⊤) (ts : Forest Depth) → GoesOverAll region_range_hooks s ts s' → AreInRange_all ts
  goes_all-range s s' none all_seen = tt
  goes_all-range s s' (also t ts) (one_seen {s1 = s1} h more) = (goes-range s s1 t h, goes_all-range s1 s' ts more)

-- it is told of no error that ends the visit
no-error-breaks : (s s' : ⊤) (e : Option ℕ) (b : MetRegion) → TellingBreaks region_range_hooks s e b s' → ⊥
no-error-breaks s s' None b h = h
no-error-breaks s s' (Some e) b h = h

mutual
  -- a visit that asks for the indices of regions alone never breaks
  pub breaks-range : (s s' : ⊤) (t : Tree Depth) (b : MetRegion) → Breaks region_range_hooks s t b s' → ⊥
  breaks-range s s' t b (region_broke is h) = h
  breaks-range s s' t b (term_broke is h) = h
  breaks-range s s' (term l ts) b (inside_broke {s1 = s1} is h (error_broke e)) = no-error-breaks s1 s' (error_of l) b e
  breaks-range s s' (term l ts) b (inside_broke is h (term_inside_broke {s1 = s1} e all)) = breaks_all-range s1 s' ts b all
  breaks-range s s' (binder vs t) b (inside_broke is h inside) = let never = is in cc
  breaks-range s s' (param o i name) b (inside_broke is h inside) = elim inside [ ]
  breaks-range s s' (bound o d e) b (inside_broke is h inside) = elim inside [ ]
  breaks-range s s' (region r) b (inside_broke is h inside) = elim inside [ ]
  breaks-range s s' (node l ts) b (inside_broke is h inside) = elim inside [ ]
  breaks-range s s' (term l ts) b (unhooked_broke is all) = breaks_all-range s s' ts b all
  breaks-range s s' (node (error_label e) none) b (token_broke h) = h
  breaks-range s s' (node l ts) b (node_broke is all) = breaks_all-range s s' ts b all
  breaks-range s s' (binder vs t) b (enter_broke e) = e
  breaks-range s s' (binder vs t) b (under_broke {s1 = s1} {s2 = s2} e (value_broke h) l) = breaks-range s1 s2 t b h

  breaks_all-range : (s s' : ⊤) (ts : Forest Depth) (b : MetRegion) → BreaksAll region_range_hooks s ts b s' → ⊥
  breaks_all-range s s' none b h = elim h [ ]
  breaks_all-range s s' (also t ts) b (first_broke h) = breaks-range s s' t b h
  breaks_all-range s s' (also t ts) b (later_broke {s1 = s1} a h) = breaks_all-range s1 s' ts b h

-- a search went over what meets none, and perhaps more where it passed over a value: there no bound region is met
pub record Passes (s : RegionSearch) (range misses meets_none : Type 0) (s' : RegionSearch) : Type 0 where
  pub depth : s'.depth ≡ s.depth
  pub unskipped : s'.skipped ≡ false → (s.skipped ≡ false) × meets_none
  pub bound_alone : range → misses → meets_none

-- what passes over nothing and meets none
passed-by : (s : RegionSearch) (range misses meets_none : Type 0) → meets_none → Passes s range misses meets_none s
passed-by s range misses meets_none h = record { depth = refl; unskipped = λ e. (e, h); bound_alone = λ r m. h }

-- an error that is told of changes nothing
told-still : (s s' : RegionSearch) (e : Option ℕ) → Tells meets_hooks s e s' → s' ≡ s
told-still s s' None h = h
told-still s s' (Some e) h = h

no-break-told : (s s' : RegionSearch) (e : Option ℕ) (b : MetRegion) → TellingBreaks meets_hooks s e b s' → ⊥
no-break-told s s' None b h = h
no-break-told s s' (Some e) b h = h

-- a parameter or a bound variable of a type or a constant is no region
no-region-param : (s : Sort) (k i : ℕ) (name : Name) → root {I = Depth} (param s i name) ≡ hooked
    → met k (param s i name) ≡ []
no-region-param region_sort k i name is = let never = is in cc
no-region-param type_sort k i name is = refl
no-region-param const_sort k i name is = refl

no-region-bound : (s : Sort) (k : ℕ) (d : Depth) (e : Entry Name) → root (bound s d e) ≡ hooked
    → met k (bound s d e) ≡ []
no-region-bound region_sort k d e is = let never = is in cc
no-region-bound type_sort k (at d) e is = other-none type_sort k (bound type_sort (at d) e) (nat_lt d k) refl
no-region-bound const_sort k (at d) e is = other-none const_sort k (bound const_sort (at d) e) (nat_lt d k) refl
no-region-bound s k canonical e is = refl

mutual
  -- a search that ends well met no region, if it passed over nothing or all regions are bound and in range
  pub goes-passes : (s s' : RegionSearch) (t : Tree Depth) → GoesOver meets_hooks s t s'
      → Passes s (AreInRange t) (Misses 0x220000 (scan t)) (met s.depth t ≡ []) s'
  goes-passes s s' t (region_seen is h) = rw h.0 (passed-by s (AreInRange t) (Misses 0x220000 (scan t)) (met s.depth t ≡ []) h.1)
  goes-passes s s' t (skipped is h) = rw h.0 (passed-by s (AreInRange t) (Misses 0x220000 (scan t)) (met s.depth t ≡ []) h.1)
  goes-passes s s' (term l ts) (went_inside {s1 = s1} is h (term_seen {s1 = s2} e all)) =
      let inside = goes_all-passes s2 s' ts all in
      let same : s2 ≡ s = told-still s1 s2 (error_of l) e ∙ h.0 in
      let passes = rw same at inside in
      record {
        depth = passes.depth;
        unskipped = passes.unskipped;
        bound_alone = λ r m. passes.bound_alone r (bits-right 0x220000 (flags_of_label l) (scan_all ts) m);
      }
  goes-passes s s' (param o i name) (went_inside {s1 = s1} is h param_seen) =
      rw h.0 (passed-by s (AreInRange (param o i name)) (Misses 0x220000 (scan (param o i name))) (met s.depth (param o i name) ≡ []) (no-region-param o s.depth i name is))
  goes-passes s s' (bound o d e) (went_inside {s1 = s1} is h bound_seen) =
      rw h.0 (passed-by s (AreInRange (bound o d e)) (Misses 0x220000 (scan (bound o d e))) (met s.depth (bound o d e) ≡ []) (no-region-bound o s.depth d e is))
  goes-passes s s' (binder vs t) (went_inside {s1 = s1} is h inside) = let never = is in cc
  goes-passes s s' (region r) (went_inside {s1 = s1} is h inside) = elim inside [ ]
  goes-passes s s' (node l ts) (went_inside {s1 = s1} is h inside) = elim inside [ ]
  goes-passes s s' (term l ts) (unhooked_seen is all) =
      let passes = goes_all-passes s s' ts all in
      record {
        depth = passes.depth;
        unskipped = passes.unskipped;
        bound_alone = λ r m. passes.bound_alone r (bits-right 0x220000 (flags_of_label l) (scan_all ts) m);
      }
  goes-passes s s' (node (error_label e) none) (token_seen h) = rw h (record { depth = refl; unskipped = λ e. (e, refl); bound_alone = λ r m. refl })
  goes-passes s s' (node l ts) (node_seen is all) =
      let passes = goes_all-passes s s' ts all in
      record {
        depth = passes.depth;
        unskipped = passes.unskipped;
        bound_alone = λ r m. passes.bound_alone r (bits-right 0x220000 (flags_of_label l) (scan_all ts) m);
      }
  goes-passes s s' (binder vs t) (binder_skipped e) =
      let far : greatest ≤ suc s.depth = let deep = e.0 in omega arith in
      rw e.1 (record {
        depth = refl;
        unskipped = λ e. cc;
        bound_alone = λ r m. met-deep (suc s.depth) t far r (bits-right 0x220000 (list_flags vs) (scan t) m);
      })
  goes-passes s s' (binder vs t) (binder_seen {s1 = s1} {s2 = s2} e (value_seen h) l) =
      let inner = goes-passes s1 s2 t h in
      let deeper : s1.depth ≡ s.depth + 1 = ap (λ x. x.depth) e in
      let left : s'.depth ≡ s2.depth - 1 = ap (λ x. x.depth) l in
      let depth = inner.depth in
      let under : s1.depth ≡ suc s.depth = omega arith in
      record {
        depth = omega arith;
        unskipped = λ none_skipped.
            let seen = inner.unskipped (sym (ap (λ x. x.skipped) l) ∙ none_skipped) in
            (sym (ap (λ x. x.skipped) e) ∙ seen.0, rw under at seen.1);
        bound_alone = λ r m. rw under at (inner.bound_alone r (bits-right 0x220000 (list_flags vs) (scan t) m));
      }

  goes_all-passes : (s s' : RegionSearch) (ts : Forest Depth) → GoesOverAll meets_hooks s ts s'
      → Passes s (AreInRange_all ts) (Misses 0x220000 (scan_all ts)) (met_all s.depth ts ≡ []) s'
  goes_all-passes s s' none all_seen = record { depth = refl; unskipped = λ e. (e, refl); bound_alone = λ r m. refl }
  goes_all-passes s s' (also t ts) (one_seen {s1 = s1} h more) =
      let first = goes-passes s s1 t h in let rest = goes_all-passes s1 s' ts more in
      let same = first.depth in
      record {
        depth = rest.depth ∙ first.depth;
        unskipped = λ none_skipped.
            let later = rest.unskipped none_skipped in let earlier = first.unskipped later.0 in
            (earlier.0, both-none (met s.depth t) (met_all s.depth ts) earlier.1 (rw same at later.1));
        bound_alone = λ r m.
            both-none (met s.depth t) (met_all s.depth ts) (first.bound_alone r.0 (bits-left 0x220000 (scan t) (scan_all ts) m))
            (rw same at (rest.bound_alone r.1 (bits-right 0x220000 (scan t) (scan_all ts) m)));
      }

mutual
  -- where the search breaks, a region is met
  pub breaks-meets : (s s' : RegionSearch) (t : Tree Depth) (b : MetRegion) → Breaks meets_hooks s t b s'
      → met s.depth t ≢ []
  breaks-meets s s' t b (region_broke is h) = h.1
  breaks-meets s s' t b (term_broke is h) = h.1
  breaks-meets s s' (term l ts) b (inside_broke {s1 = s1} is h (error_broke e)) = absurd (no-break-told s1 s' (error_of l) b e)
  breaks-meets s s' (term l ts) b (inside_broke {s1 = s1} is h (term_inside_broke {s1 = s2} e all)) =
      let inside = breaks_all-meets s2 s' ts b all in
      let same : s2 ≡ s = told-still s1 s2 (error_of l) e ∙ h.0 in
      rw same at inside
  breaks-meets s s' (binder vs t) b (inside_broke {s1 = s1} is h inside) = let never = is in cc
  breaks-meets s s' (param o i name) b (inside_broke {s1 = s1} is h inside) = elim inside [ ]
  breaks-meets s s' (bound o d e) b (inside_broke {s1 = s1} is h inside) = elim inside [ ]
  breaks-meets s s' (region r) b (inside_broke {s1 = s1} is h inside) = elim inside [ ]
  breaks-meets s s' (node l ts) b (inside_broke {s1 = s1} is h inside) = elim inside [ ]
  breaks-meets s s' (term l ts) b (unhooked_broke is all) = breaks_all-meets s s' ts b all
  breaks-meets s s' (node (error_label e) none) b (token_broke h) = absurd h
  breaks-meets s s' (node l ts) b (node_broke is all) = breaks_all-meets s s' ts b all
  breaks-meets s s' (binder vs t) b (enter_broke e) = absurd e
  breaks-meets s s' (binder vs t) b (under_broke {s1 = s1} {s2 = s2} e (value_broke h) l) =
      let inner = breaks-meets s1 s2 t b h in
      let deeper : s1.depth ≡ s.depth + 1 = ap (λ x. x.depth) e in
      let under : s1.depth ≡ suc s.depth = omega arith in
      rw under at inner

  breaks_all-meets : (s s' : RegionSearch) (ts : Forest Depth) (b : MetRegion) → BreaksAll meets_hooks s ts b s'
      → met_all s.depth ts ≢ []
  breaks_all-meets s s' none b h = elim h [ ]
  breaks_all-meets s s' (also t ts) b (first_broke h) =
      let first = breaks-meets s s' t b h in λ e. first (first-none (met s.depth t) (met_all s.depth ts) e)
  breaks_all-meets s s' (also t ts) b (later_broke {s1 = s1} a h) =
      let same = (goes-passes s s1 t a).depth in let rest = breaks_all-meets s1 s' ts b h in
      λ e. (rw same at rest) (rest-none (met s.depth t) (met_all s.depth ts) e)
