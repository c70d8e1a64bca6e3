-- The visitor that looks for errors breaks with the first token of the tree, and goes to the end where there is none.
use Rattle.std.proofs.Common.{◌≡◌, ℕ, List, [], ◌∷◌, refl, ap, ◌∙◌}
use Rattle.std.proofs.lemmas.Nat.{and_assoc}
use Rattle.std.specs.Prelude.{Option, Some, None, bit_and, ⊤}
use Rattle.std.specs.Int.Bits.{and_zero_r}
use Rattle.std.specs.Option.{option_or}
use Rattle.tt_flags.specs.TypeFlags.{has_error, has_non_region_error}
use Rattle.tt_kinds.specs.Label.{error_label, Name, Sort, region_sort, type_sort, const_sort, VarKind, FreeRegion}
use Rattle.tt_kinds.specs.Label.{error_region, Label, type_label, const_label, var_list_label, TypeLabel, ConstLabel}
use Rattle.tt_kinds.specs.Label.{infer_type, error_type, alias_type, infer_const, error_const, list_flags}
use Rattle.tt_kinds.specs.Label.{flags_of_label, flags_of_type, flags_of_const, error_of_type, error_of_const}
use Rattle.tt_kinds.specs.Tree.{Depth, at, canonical, Tree, Forest, param, bound, region, term, node, binder, none}
use Rattle.tt_kinds.specs.Tree.{also}
use Rattle.tt_kinds.specs.Scan.{scan, scan_all, param_flags, bound_flags, index_flags, region_flags}
use Rattle.tt_kinds.specs.declared.alias.AliasTyKind.{AliasTyKind}
use Rattle.tt_kinds.specs.declared.alias.AliasTyKind.TheVariants.{Projection, Inherent, Opaque, Free}
use Rattle.tt_kinds.specs.declared.const_kind.InferConst.{InferConst}
use Rattle.tt_kinds.specs.declared.const_kind.InferConst.TheVariants.{Var, Fresh}
use Rattle.tt_kinds.specs.declared.ty_kind.InferTy.{InferTy}
use Rattle.tt_kinds.specs.declared.ty_kind.InferTy.TheVariants.{TyVar, IntVar, FloatVar, FreshTy, FreshIntTy}
use Rattle.tt_kinds.specs.declared.ty_kind.InferTy.TheVariants.{FreshFloatTy}
use Rattle.tt_kinds.specs.declared.error_guaranteed.ErrorGuaranteed.{ErrorGuaranteed}
use Rattle.tt_visit.specs.Root.{a_part, node_root, error_of}
use Rattle.tt_visit.specs.Visit.{Tells, TellingBreaks, GoesOver, GoesOverAll, region_seen, skipped, went_inside}
use Rattle.tt_visit.specs.Visit.{unhooked_seen, token_seen, node_seen, binder_skipped, binder_seen, term_seen}
use Rattle.tt_visit.specs.Visit.{param_seen, bound_seen, value_seen, all_seen, one_seen, Breaks, BreaksAll}
use Rattle.tt_visit.specs.Visit.{region_broke, term_broke, inside_broke, unhooked_broke, token_broke, node_broke}
use Rattle.tt_visit.specs.Visit.{enter_broke, under_broke, error_broke, term_inside_broke, value_broke, first_broke}
use Rattle.tt_visit.specs.Visit.{later_broke}
use Rattle.tt_visit.specs.HasTypeFlags.{Misses, Meets}
use Rattle.tt_visit.specs.HasError.{error_of_region, first_error, first_error_among, error_hooks}
use Rattle.tt_visit.proofs.HasTypeFlagsLaws.{bits-left, bits-right, bits-both}
use Rattle.tt_visit.proofs.VisitSteps.{no-error}

-- what has no flag of an error has no token, and the other way round: for each label and leaf
infer-errorless : (i : InferTy) → Misses has_error (flags_of_type (infer_type i))
infer-errorless (TyVar v) = refl
infer-errorless (IntVar v) = refl
infer-errorless (FloatVar v) = refl
infer-errorless (FreshTy n) = refl
infer-errorless (FreshIntTy n) = refl
infer-errorless (FreshFloatTy n) = refl

alias-errorless : (k : AliasTyKind) → Misses has_error (flags_of_type (alias_type k))
alias-errorless (Projection d) = refl
alias-errorless (Inherent d) = refl
alias-errorless (Opaque d) = refl
alias-errorless (Free d) = refl

type-errorless : (l : TypeLabel) → error_of_type l ≡ None → Misses has_error (flags_of_type l)
type-errorless (infer_type i) is = infer-errorless i
type-errorless (alias_type k) is = alias-errorless k
type-errorless (error_type e) is = let never = is in cc
type-errorless _ is = refl

type-tokenless : (l : TypeLabel) → Misses has_error (flags_of_type l) → error_of_type l ≡ None
type-tokenless (error_type e) h = let never = h in cc
type-tokenless _ h = refl

infer_const-errorless : (i : InferConst) → Misses has_error (flags_of_const (infer_const i))
infer_const-errorless (Var v) = refl
infer_const-errorless (Fresh n) = refl

const-errorless : (l : ConstLabel) → error_of_const l ≡ None → Misses has_error (flags_of_const l)
const-errorless (infer_const i) is = infer_const-errorless i
const-errorless (error_const e) is = let never = is in cc
const-errorless _ is = refl

const-tokenless : (l : ConstLabel) → Misses has_error (flags_of_const l) → error_of_const l ≡ None
const-tokenless (error_const e) h = let never = h in cc
const-tokenless _ h = refl

vars-errorless : (vs : List (VarKind Name)) → Misses has_error (list_flags vs)
vars-errorless [] = refl
vars-errorless (v ∷ vs) = refl

label-errorless : (l : Label Name) → error_of l ≡ None → Misses has_error (flags_of_label l)
label-errorless (type_label l) is = type-errorless l is
label-errorless (const_label l) is = const-errorless l is
label-errorless (var_list_label vs) is = vars-errorless vs
label-errorless (error_label e) is = let never = is in cc
label-errorless _ is = refl

label-tokenless : (l : Label Name) → Misses has_error (flags_of_label l) → error_of l ≡ None
label-tokenless (type_label l) h = type-tokenless l h
label-tokenless (const_label l) h = const-tokenless l h
label-tokenless (error_label e) h = let never = h in cc
label-tokenless _ h = refl

region-errorless : (r : FreeRegion Name) → error_of_region r ≡ None → Misses has_error (region_flags r)
region-errorless (error_region e) is = let never = is in cc
region-errorless _ is = refl

region-tokenless : (r : FreeRegion Name) → Misses has_error (region_flags r) → error_of_region r ≡ None
region-tokenless (error_region e) h = let never = h in cc
region-tokenless _ h = refl

param-errorless : (o : Sort) → Misses has_error (param_flags o)
param-errorless region_sort = refl
param-errorless type_sort = refl
param-errorless const_sort = refl

bound_sort-errorless : (o : Sort) → Misses has_error (bound_flags o)
bound_sort-errorless region_sort = refl
bound_sort-errorless type_sort = refl
bound_sort-errorless const_sort = refl

index-errorless : (d : Depth) → Misses has_error (index_flags d)
index-errorless (at d) = refl
index-errorless canonical = refl

-- neither of two tokens is there, exactly where the first of them is none
both-none : (a b : Option ℕ) → a ≡ None → b ≡ None → option_or a b ≡ None
both-none a b p q = rw (p, q) refl

neither : (a b : Option ℕ) → option_or a b ≡ None → (a ≡ None) × (b ≡ None)
neither None b h = (refl, h)
neither (Some x) b h = let never = h in cc

mutual
  -- the same for whole trees
  pub tokenless : (t : Tree Depth) → Misses has_error (scan t) → first_error t ≡ None
  tokenless (param s i name) h = refl
  tokenless (bound s d e) h = refl
  tokenless (region r) h = region-tokenless r h
  tokenless (term l ts) h = both-none (error_of l) (first_error_among ts) (label-tokenless l (bits-left has_error (flags_of_label l) (scan_all ts) h)) (tokenless_all ts (bits-right has_error (flags_of_label l) (scan_all ts) h))
  tokenless (node l ts) h = both-none (error_of l) (first_error_among ts) (label-tokenless l (bits-left has_error (flags_of_label l) (scan_all ts) h)) (tokenless_all ts (bits-right has_error (flags_of_label l) (scan_all ts) h))
  tokenless (binder vs t) h = tokenless t (bits-right has_error (list_flags vs) (scan t) h)

  tokenless_all : (ts : Forest Depth) → Misses has_error (scan_all ts) → first_error_among ts ≡ None
  tokenless_all none h = refl
  tokenless_all (also t ts) h = both-none (first_error t) (first_error_among ts) (tokenless t (bits-left has_error (scan t) (scan_all ts) h)) (tokenless_all ts (bits-right has_error (scan t) (scan_all ts) h))

mutual
  -- if no error is found in a tree, its scan misses the flag for errors
  pub errorless : (t : Tree Depth) → first_error t ≡ None → Misses has_error (scan t)
  errorless (param s i name) h = param-errorless s
  errorless (bound s d e) h = bits-both has_error (bound_flags s) (index_flags d) (bound_sort-errorless s) (index-errorless d)
  errorless (region r) h = region-errorless r h
  errorless (term l ts) h =
      let parts = neither (error_of l) (first_error_among ts) h in bits-both has_error (flags_of_label l) (scan_all ts) (label-errorless l parts.0) (errorless_all ts parts.1)
  errorless (node l ts) h =
      let parts = neither (error_of l) (first_error_among ts) h in bits-both has_error (flags_of_label l) (scan_all ts) (label-errorless l parts.0) (errorless_all ts parts.1)
  errorless (binder vs t) h = bits-both has_error (list_flags vs) (scan t) (vars-errorless vs) (errorless t h)

  errorless_all : (ts : Forest Depth) → first_error_among ts ≡ None → Misses has_error (scan_all ts)
  errorless_all none h = refl
  errorless_all (also t ts) h =
      let parts = neither (first_error t) (first_error_among ts) h in bits-both has_error (scan t) (scan_all ts) (errorless t parts.0) (errorless_all ts parts.1)

-- a tree with a token has a flag of an error
pub token-meets : (t : Tree Depth) (e : ℕ) → first_error t ≡ Some e → Meets has_error (scan t)
token-meets t e is h = let none_there = tokenless t h in cc

-- errors that are no region's are errors
pub error-misses : (flags : ℕ) → Misses has_error flags → Misses has_non_region_error flags
error-misses flags h = and_assoc flags has_non_region_error has_error ∙ ap (bit_and has_non_region_error) h ∙ and_zero_r has_non_region_error

-- a visit that goes on was told of no error
untold : (s s' : ⊤) (e : Option ℕ) → Tells error_hooks s e s' → e ≡ None
untold s s' None h = refl
untold s s' (Some n) h = absurd h

told : (s s' : ⊤) (e : Option ℕ) (b : ErrorGuaranteed) → TellingBreaks error_hooks s e b s' → e ≡ Some b.0
told s s' None b h = absurd h
told s s' (Some n) b h = ap Some h

-- a value that isn't stored has no token of its own
part-tokenless : (l : Label Name) → node_root l ≡ a_part → error_of l ≡ None
part-tokenless (type_label l) is = cc
part-tokenless (const_label l) is = cc
part-tokenless (error_label e) is = cc
part-tokenless _ is = refl

mutual
  -- where the visit goes to its end, there is no token
  pub goes-tokenless : (s s' : ⊤) (t : Tree Depth) → GoesOver error_hooks s t s' → first_error t ≡ None
  goes-tokenless s s' t (region_seen is h) = h
  goes-tokenless s s' t (skipped is h) = tokenless t (h refl)
  goes-tokenless s s' (term l ts) (went_inside is h (term_seen {s1 = s1} e all)) =
      both-none (error_of l) (first_error_among ts) (untold _ _ (error_of l) e) (goes_all-tokenless s1 s' ts all)
  goes-tokenless s s' (param o i name) (went_inside is h param_seen) = refl
  goes-tokenless s s' (bound o d e) (went_inside is h bound_seen) = refl
  goes-tokenless s s' (binder vs t) (went_inside is h (value_seen x)) = let never = is in cc
  goes-tokenless s s' (region r) (went_inside is h inside) = elim inside [ ]
  goes-tokenless s s' (node l ts) (went_inside is h inside) = elim inside [ ]
  goes-tokenless s s' (term l ts) (unhooked_seen is all) = both-none (error_of l) (first_error_among ts) (no-error l is) (goes_all-tokenless s s' ts all)
  goes-tokenless s s' (node (error_label e) none) (token_seen h) = absurd h
  goes-tokenless s s' (node l ts) (node_seen is all) = both-none (error_of l) (first_error_among ts) (part-tokenless l is) (goes_all-tokenless s s' ts all)
  goes-tokenless s s' (binder vs t) (binder_skipped e) = let never = e in cc
  goes-tokenless s s' (binder vs t) (binder_seen {s1 = s1} {s2 = s2} e (value_seen h) l) = goes-tokenless s1 s2 t h

  goes_all-tokenless : (s s' : ⊤) (ts : Forest Depth) → GoesOverAll error_hooks s ts s' → first_error_among ts ≡ None
  goes_all-tokenless s s' none all_seen = refl
  goes_all-tokenless s s' (also t ts) (one_seen {s1 = s1} h more) =
      both-none (first_error t) (first_error_among ts) (goes-tokenless s s1 t h) (goes_all-tokenless s1 s' ts more)

-- the first of two tokens is the second where the first isn't there
second : (a b : Option ℕ) (e : ℕ) → a ≡ None → b ≡ Some e → option_or a b ≡ Some e
second a b e p q = rw p q

mutual
  -- where it breaks, it breaks with the first token
  pub breaks-first : (s s' : ⊤) (t : Tree Depth) (b : ErrorGuaranteed) → Breaks error_hooks s t b s' → first_error t ≡ Some b.0
  breaks-first s s' t b (region_broke is h) = h
  breaks-first s s' t b (term_broke is h) = absurd h
  breaks-first s s' (term l ts) b (inside_broke is h (error_broke e)) = rw (told _ _ (error_of l) b e) refl
  breaks-first s s' (term l ts) b (inside_broke is h (term_inside_broke {s1 = s1} e all)) =
      second (error_of l) (first_error_among ts) b.0 (untold _ _ (error_of l) e) (breaks_all-first s1 s' ts b all)
  breaks-first s s' (binder vs t) b (inside_broke is h (value_broke x)) = let never = is in cc
  breaks-first s s' (param o i name) b (inside_broke is h inside) = elim inside [ ]
  breaks-first s s' (bound o d e) b (inside_broke is h inside) = elim inside [ ]
  breaks-first s s' (region r) b (inside_broke is h inside) = elim inside [ ]
  breaks-first s s' (node l ts) b (inside_broke is h inside) = elim inside [ ]
  breaks-first s s' (term l ts) b (unhooked_broke is all) = second (error_of l) (first_error_among ts) b.0 (no-error l is) (breaks_all-first s s' ts b all)
  breaks-first s s' (node (error_label e) none) b (token_broke h) = ap Some h
  breaks-first s s' (node l ts) b (node_broke is all) = second (error_of l) (first_error_among ts) b.0 (part-tokenless l is) (breaks_all-first s s' ts b all)
  breaks-first s s' (binder vs t) b (enter_broke e) = absurd e
  breaks-first s s' (binder vs t) b (under_broke {s1 = s1} {s2 = s2} e (value_broke h) l) = breaks-first s1 s2 t b h

  breaks_all-first : (s s' : ⊤) (ts : Forest Depth) (b : ErrorGuaranteed) → BreaksAll error_hooks s ts b s' → first_error_among ts ≡ Some b.0
  breaks_all-first s s' none b h = elim h [ ]
  breaks_all-first s s' (also t ts) b (first_broke h) = rw (breaks-first s s' t b h) refl
  breaks_all-first s s' (also t ts) b (later_broke {s1 = s1} a h) =
      second (first_error t) (first_error_among ts) b.0 (goes-tokenless s s1 t a) (breaks_all-first s1 s' ts b h)
