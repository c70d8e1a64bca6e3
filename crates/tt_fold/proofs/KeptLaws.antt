-- From a test of flags to a fact: parts of a value have no flags that the value doesn't have, and a folder that leaves
-- what doesn't have certain flags keeps a value that has none of them.
use Rattle.std.proofs.Common.{◌≡◌, inl, inr, ℕ, true, false, Bool, nat_eq, refl, sym, ap, ◌∙◌}
use Rattle.std.proofs.lemmas.Bool.{cases_Bool, eqb-true, eq-eqb, true≢false}
use Rattle.std.specs.Prelude.{◌↔◌, IsTrue, bit_and}
use Rattle.tt_flags.specs.TypeFlags.{has_re_infer, has_ty_infer}
use Rattle.tt_kinds.specs.Label.{flags_of_label, infer_flags, infer_type, list_flags, region_var, type_label}
use Rattle.tt_kinds.specs.Scan.{region_flags, scan, scan_all}
use Rattle.tt_kinds.specs.Tree.{Depth, Tree, Forest, region, term, node, binder}
use Rattle.tt_kinds.specs.declared.ty_kind.InferTy.{InferTy}
use Rattle.tt_visit.specs.HasTypeFlags.{Misses, Meets}
use Rattle.tt_visit.proofs.HasTypeFlagsLaws.{bits-left, bits-right}
use Rattle.tt_visit.specs.Types.{is_type_tree}
use Rattle.tt_fold.specs.Counts.{Standing}
use Rattle.tt_fold.specs.Stands.{StandsIn, StandsAmong, itself, in_term as stands_in_term, in_node as stands_in_node}
use Rattle.tt_fold.specs.Stands.{in_binder as stands_in_binder, in_first, in_later}
use Rattle.tt_fold.specs.Types.{TypeHooks, only_types}
use Rattle.tt_fold.specs.TypesOnce.{steady_types, steadily}
use Rattle.tt_fold.specs.Walk.{Hooks, replace, descend, Walks, WalksInside, WalksAll, at_region, replaced}
use Rattle.tt_fold.specs.Walk.{kept, descended, passed, rebuilt, at_node, at_binder, in_term, in_param, in_bound, done}
use Rattle.tt_fold.specs.Walk.{next}

-- a test of flags that answers no says that none of them is set
pub misses : (mask flags : ℕ) (found : Bool) → IsTrue found ↔ Meets mask flags → found ≡ false → Misses mask flags
misses mask flags found exact not_found = elim (cases_Bool (nat_eq (bit_and mask flags) 0)) [
  | inl zero_bits ↦ eqb-true (bit_and mask flags) 0 zero_bits
  | inr other ↦ absurd (true≢false (sym (exact.1 (λ e. true≢false (sym (eq-eqb (bit_and mask flags) 0 e) ∙ other))) ∙ not_found))
]

mutual
  -- a part of a tree has no flag that the tree doesn't have
  pub part-misses : {u t : Tree Depth} (mask : ℕ) → StandsIn u t → Misses mask (scan t) → Misses mask (scan u)
  part-misses mask itself h = h
  part-misses mask (stands_in_term {l} {ts} p) h = among-misses mask p (bits-right mask (flags_of_label l) (scan_all ts) h)
  part-misses mask (stands_in_node {l} {ts} p) h = among-misses mask p (bits-right mask (flags_of_label l) (scan_all ts) h)
  part-misses mask (stands_in_binder {vs} {t} p) h = part-misses mask p (bits-right mask (list_flags vs) (scan t) h)

  among-misses : {u : Tree Depth} {ts : Forest Depth} (mask : ℕ) → StandsAmong u ts → Misses mask (scan_all ts) → Misses mask (scan u)
  among-misses mask (in_first {t} {ts} p) h = part-misses mask p (bits-left mask (scan t) (scan_all ts) h)
  among-misses mask (in_later {t} {ts} p) h = among-misses mask p (bits-right mask (scan t) (scan_all ts) h)

not-entered : (r : Tree Depth) → replace r ≡ descend → ⊥
not-entered r h = cc

-- the flags of a type that is an inference variable, and not a fresh one
pub ty_infer-met : (i : InferTy) (ts : Forest Depth) → infer_flags i ≡ has_ty_infer → Misses has_ty_infer (scan (term (type_label (infer_type i)) ts)) → ⊥
ty_infer-met i ts is h = let own : Misses has_ty_infer has_ty_infer = rw is at (bits-left has_ty_infer (infer_flags i) (scan_all ts) h) in cc

-- a value without one of the flags of region variables holds none: `HoldsNoRegionVar` of `instantiate`
pub no_region_var : (mask : ℕ) (t : Tree Depth) → Meets mask (region_flags (region_var 0)) → Misses mask (scan t) → (x : ℕ) → StandsIn (region (region_var x)) t → ⊥
no_region_var mask t met h x there = met (part-misses mask there h)

-- the same by the flag of region variables, and by the flags of all inference variables
pub no_region_var-by_flag : (t : Tree Depth) → Misses has_re_infer (scan t) → (x : ℕ) → StandsIn (region (region_var x)) t → ⊥
no_region_var-by_flag t h = no_region_var has_re_infer t (λ never. cc) h

pub no_region_var-by_infer : (t : Tree Depth) → Misses 0x38 (scan t) → (x : ℕ) → StandsIn (region (region_var x)) t → ⊥
no_region_var-by_infer t h = no_region_var 0x38 t (λ never. cc) h

module _ {M E : Type 0} where
  -- the hooks don't replace the tree by another
  pub record Leaves (H : Hooks M E) (t : Tree Depth) : Type 0 where
    pub region : (s s' : M) (r : Tree Depth) → H.on_region s t r s' → r ≡ t
    pub term : (s s' : M) (r : Tree Depth) → H.on_term s t (replace r) s' → r ≡ t
    pub after : (s s' : M) (r : Tree Depth) → H.after_term s t t r s' → r ≡ t

  -- the hook of a folder of types doesn't replace the type by another
  abbrev pub LeavesType : TypeHooks M E → Tree Depth → Type 0
  LeavesType H t = (s s' : M) (r : Tree Depth) → H.on_type s t (replace r) s' → r ≡ t

  -- a folder of types leaves all else
  pub only_types-leaves : (H : TypeHooks M E) (t : Tree Depth) → (is_type_tree t ≡ true → LeavesType H t) → Leaves (only_types H) t
  only_types-leaves H t leaves = record {
    region = λ s s' r h. h.0;
    term = λ s s' r h. elim (cases_Bool (is_type_tree t)) [ inl is ↦ leaves is s s' r (h.0 is) | inr other ↦ absurd (not-entered r (h.1 other).0) ];
    after = λ s s' r h. h.0;
  }

  module _ (H : Hooks M E) where
    mutual
      -- a folder whose hooks leave each part of a tree keeps the tree
      pub keeps : {s s' : M} {t r : Tree Depth} → Walks H s t r s' → ((u : Tree Depth) → StandsIn u t → Leaves H u) → r ≡ t
      keeps {s} {s'} (at_region {t} {r} is h) leaves = (leaves t itself).region s s' r h
      keeps {s} {s'} (replaced {t} {r} is h) leaves = (leaves t itself).term s s' r h
      keeps (kept is h) leaves = refl
      keeps {s} {s'} (descended {s1} {t} {r} is h (rebuilt {s1 = s2} {u} w after)) leaves =
          let same : u ≡ t = keeps_inside w leaves in
          let own : H.after_term s2 t t r s' = rw same at after in
          (leaves t itself).after s2 s' r own
      keeps (passed is w) leaves = keeps_inside w leaves
      keeps (at_node {l} {ts} {us} w fit) leaves = ap (λ xs. node l xs) (keeps_all w (λ u p. leaves u (stands_in_node p)))
      keeps (at_binder {vs} {t} {u} enter w leave) leaves = ap (λ x. binder vs x) (keeps w (λ u p. leaves u (stands_in_binder p)))

      keeps_inside : {s s' : M} {t u : Tree Depth} → WalksInside H s t u s' → ((v : Tree Depth) → StandsIn v t → Leaves H v) → u ≡ t
      keeps_inside (in_term {l} {ts} {us} w fit) leaves = ap (λ xs. term l xs) (keeps_all w (λ u p. leaves u (stands_in_term p)))
      keeps_inside in_param leaves = refl
      keeps_inside in_bound leaves = refl

      keeps_all : {s s' : M} {ts us : Forest Depth} → WalksAll H s ts us s' → ((v : Tree Depth) → StandsAmong v ts → Leaves H v) → us ≡ ts
      keeps_all done leaves = refl
      keeps_all (next {t} {u} {ts} {us} w more) leaves =
          rw (keeps w (λ v p. leaves v (in_first p)), keeps_all more (λ v p. leaves v (in_later p))) refl

    -- a folder that leaves what has none of these flags keeps a value that has none of them
    pub keeps-unflagged : (mask : ℕ) → ((u : Tree Depth) → Misses mask (scan u) → Leaves H u) → {s s' : M} {t r : Tree Depth} → Walks H s t r s' → Misses mask (scan t) → r ≡ t
    keeps-unflagged mask leaves w h = keeps w (λ u p. leaves u (part-misses mask p h))

-- the same of a folder of types: a folder of inference variables keeps a value that has none by its flags
pub keeps-types : {M E : Type 0} (H : TypeHooks M E) (mask : ℕ) → ((u : Tree Depth) → Misses mask (scan u) → LeavesType H u)
    → {s s' : M} {t r : Tree Depth} → Walks (only_types H) s t r s' → Misses mask (scan t) → r ≡ t
keeps-types H mask leaves w h = keeps-unflagged (only_types H) mask (λ u none. only_types-leaves H u (λ is. leaves u none)) w h

-- the same of its fold with a memory
pub keeps-types-once : {M E : Type 0} (H : TypeHooks (Standing M) E) (m : M) (mask : ℕ) → ((u : Tree Depth) → Misses mask (scan u) → LeavesType H u)
    → {t r : Tree Depth} → Walks (steadily H m) tt t r tt → Misses mask (scan t) → r ≡ t
keeps-types-once H m mask leaves w h = keeps-types (steady_types H m) mask (λ u none s s' r answer. leaves u none _ _ r answer.2) w h
