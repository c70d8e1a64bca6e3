-- What the walk that skips nothing meets are the reasons of plain replacement.
use Rattle.std.proofs.Common.{inl, inr, ◌≡◌, ℕ, suc, ◌≤◌, List, [], length, refl, sym, ap, subst, ◌∙◌, arith, Bool}
use Rattle.std.proofs.Common.{true, false}
use Rattle.std.specs.Prelude.{◌≢◌, IsTrue, not, IsSomeAnd, Option, Some, None, Result, Ok, Err, slice_get}
use Rattle.std.specs.Prelude.{if◌then◌else◌}
use Rattle.std.proofs.lemmas.Option.{slice_get_past}
use Rattle.std.proofs.lemmas.Bool.{eq-eqb, eqb-true}
use Rattle.std.proofs.lemmas.Option.{slice_get_cases}
use Rattle.tt_index.specs.declared.refusal.Refusal.{Refusal}
use Rattle.tt_index.specs.declared.refusal.Refusal.TheVariants.{Memory, TableFull, GreatestIndex, NoArguments}
use Rattle.tt_index.specs.declared.refusal.Refusal.TheVariants.{ArgOutOfRange, ArgKind, RegionVariable, NotAClause}
use Rattle.tt_index.specs.declared.refusal.Refusal.TheVariants.{NoSuchAnswer}
use Rattle.tt_kinds.specs.Label.{Name, Sort, FreeRegion, region_var}
use Rattle.tt_kinds.specs.Tree.{Depth, Tree, Forest, param, bound, region, term, node, binder, none, also}
use Rattle.tt_kinds.specs.Reading.{read, read_all, FitsUnder, FitsUnder_all, Fits}
use Rattle.tt_kinds.specs.Argument.{Argument, same_sort}
use Rattle.tt_kinds.specs.Plain.{inst_tree, inst_forest}
use Rattle.tt_kinds.specs.Param.{HasParam, HasParam_among}
use Rattle.tt_kinds.specs.Cause.{IsRegionVar, HasExposed, HasExposed_among, HasOtherSort}
use Rattle.tt_kinds.proofs.PutLaws.{read-inst_tree}
use Rattle.tt_kinds.proofs.ReadingLaws.{read-injective}
use Rattle.tt_fold.specs.Steps.{tree_in}
use Rattle.tt_fold.specs.Stands.{StandsIn, StandsAmong, itself, in_term, in_node, in_binder, in_first, in_later}
use Rattle.tt_fold.proofs.ClauseLaws.{KeepsClauses, value_keeps}
use Rattle.tt_binder.specs.Instance.{IsPlain}
use Rattle.tt_interner.proofs.FittingLaws.{value-fits}
use Rattle.tt_binder.specs.Unpruned.{Replacing, outside, value_of, value_for, value_or, IsValueRefusal, IsLeafRefusal}
use Rattle.tt_binder.specs.Unpruned.{HeedsNone, GivesUnpruned, FailsUnpruned, IsPlainReason, only, IsUnseen}
use Rattle.tt_binder.specs.Unpruned.{HoldsNoRegionVar}
use Rattle.tt_binder.specs.Unpruned.{PruningIsUnseen}
use Rattle.tt_binder.proofs.UnprunedLaws.{Meets, Meets_all, IsRooted, param_placed, fits_or, does, met_at_end, Goes}
use Rattle.tt_binder.proofs.UnprunedLaws.{goes, ends, either}
use Rattle.tt_binder.proofs.UnprunedTrees.{value_rooted}

-- what a parameter's look-up may give
data Looked (i : ℕ) : Result (Tree Depth) Refusal → Type 0 where
  has : (t : Tree Depth) → Looked i (Ok t)
  past : Looked i (Err (ArgOutOfRange i))
  other : Looked i (Err (ArgKind i))

looked : (s : Sort) (i : ℕ) (o : Option (Argument Depth)) → Looked i (value_of s i o)
looked s i None = past
looked s i (Some a) = by (same_sort s a.sort)
  where
    by : (b : Bool) → Looked i (if b then Ok a.value else Err (ArgKind i))
    by true = has a.value
    by false = other

-- a refusal that comes of parameters alone is met where such a parameter occurs
module _ (P : Sort → ℕ → Type 0) (e : Refusal) where
  module _ (args : List (Argument Depth)) (leaf : (k : ℕ) (s : Sort) (i : ℕ) → P s i → IsValueRefusal k (value_of s i (slice_get args i)) e) where
    mutual
      param_met : (k : ℕ) (t : Tree Depth) → HasParam P t → Meets (record { args = args; under = k }) t e
      param_met k (param s i name) h = leaf k s i h
      param_met k (bound s d x) h = h
      param_met k (region r) h = absurd h
      param_met k (term l ts) h = param_met_among k ts h
      param_met k (node l ts) h = param_met_among k ts h
      param_met k (binder vs t) h = inr (param_met (suc k) t h)

      param_met_among : (k : ℕ) (ts : Forest Depth) → HasParam_among P ts → Meets_all (record { args = args; under = k }) ts e
      param_met_among k none h = h
      param_met_among k (also t ts) h = elim h [ inl a ↦ inl (param_met k t a) | inr b ↦ inr (param_met_among k ts b) ]

  module _ (args : List (Argument Depth)) (leaf : (k : ℕ) (s : Sort) (i : ℕ) → IsValueRefusal k (value_of s i (slice_get args i)) e → P s i)
      (no_region : (m : Replacing) (r : FreeRegion Name) → IsLeafRefusal m (region r) e → ⊥) (no_binder : e ≡ GreatestIndex → ⊥) where
    mutual
      met_param : (k : ℕ) (t : Tree Depth) → Meets (record { args = args; under = k }) t e → HasParam P t
      met_param k (param s i name) h = leaf k s i h
      met_param k (bound s d x) h = h
      met_param k (region r) h = no_region (record { args = args; under = k }) r h
      met_param k (term l ts) h = met_param_among k ts h
      met_param k (node l ts) h = met_param_among k ts h
      met_param k (binder vs t) h = elim h [ inl deep ↦ absurd (no_binder deep.0) | inr within ↦ met_param (suc k) t within ]

      met_param_among : (k : ℕ) (ts : Forest Depth) → Meets_all (record { args = args; under = k }) ts e → HasParam_among P ts
      met_param_among k none h = h
      met_param_among k (also t ts) h = elim h [ inl a ↦ inl (met_param k t a) | inr b ↦ inr (met_param_among k ts b) ]

mutual
  -- a condition that no parameter has a part in
  param_says : (Q : Type 0) (t : Tree Depth) → HasParam (λ s i. Q) t → Q
  param_says Q (param s i name) h = h
  param_says Q (bound s d x) h = absurd h
  param_says Q (region r) h = absurd h
  param_says Q (term l ts) h = params_say Q ts h
  param_says Q (node l ts) h = params_say Q ts h
  param_says Q (binder vs t) h = param_says Q t h

  params_say : (Q : Type 0) (ts : Forest Depth) → HasParam_among (λ s i. Q) ts → Q
  params_say Q none h = absurd h
  params_say Q (also t ts) h = elim h [ inl a ↦ param_says Q t a | inr b ↦ params_say Q ts b ]

-- a region is refused as a region variable alone
region_refusal : (m : Replacing) (r : FreeRegion Name) (e : Refusal) → ((x : ℕ) → e ≡ RegionVariable x → ⊥) → IsLeafRefusal m (region r) e → ⊥
region_refusal m (region_var x) e never h = never x h
region_refusal m _ e never h = h

-- what is found at an index
past_refusal : (k : ℕ) (s : Sort) (i index : ℕ) (o : Option (Argument Depth)) → IsValueRefusal k (value_of s i o) (ArgOutOfRange index) → (i ≡ index) × (o ≡ None)
past_refusal k s i index None h = (cc, refl)
past_refusal k s i index (Some a) h = by (same_sort s a.sort) h
  where
    by : (b : Bool) → IsValueRefusal k (if b then Ok a.value else Err (ArgKind i)) (ArgOutOfRange index) → (i ≡ index) × (Some a ≡ None)
    by true g = absurd (cc (g.0))
    by false g = absurd (cc)

kind_refusal : (k : ℕ) (s : Sort) (i index : ℕ) (o : Option (Argument Depth)) → IsValueRefusal k (value_of s i o) (ArgKind index) → (i ≡ index) × IsSomeAnd o (λ a. IsTrue (not (same_sort s a.sort)))
kind_refusal k s i index None h = absurd (cc)
kind_refusal k s i index (Some a) h = by (same_sort s a.sort) h
  where
    by : (b : Bool) → IsValueRefusal k (if b then Ok a.value else Err (ArgKind i)) (ArgKind index) → (i ≡ index) × IsTrue (not b)
    by true g = absurd (cc (g.0))
    by false g = (cc, refl)

refused_kind : (k : ℕ) (s : Sort) (i : ℕ) (o : Option (Argument Depth)) → IsSomeAnd o (λ a. IsTrue (not (same_sort s a.sort))) → IsValueRefusal k (value_of s i o) (ArgKind i)
refused_kind k s i None h = absurd h
refused_kind k s i (Some a) h = by (same_sort s a.sort) h
  where
    by : (b : Bool) → IsTrue (not b) → IsValueRefusal k (if b then Ok a.value else Err (ArgKind i)) (ArgKind i)
    by true g = absurd (cc)
    by false g = refl

refused_past : (k : ℕ) (s : Sort) (i : ℕ) (o : Option (Argument Depth)) → o ≡ None → IsValueRefusal k (value_of s i o) (ArgOutOfRange i)
refused_past k s i None h = refl
refused_past k s i (Some a) h = absurd (cc)

found_none : (args : List (Argument Depth)) (i : ℕ) → slice_get args i ≡ None → length args ≤ i
found_none args i e = elim (slice_get_cases args i).1 [ inl within ↦ absurd (let never = sym e ∙ within.2 in cc) | inr past_it ↦ past_it.0 ]

module _ (args : List (Argument Depth)) where
  -- what a look-up is never refused with
  value_never : (k : ℕ) (s : Sort) (i : ℕ) (value : Result (Tree Depth) Refusal) (e : Refusal) → Looked i value → (e ≡ GreatestIndex → ⊥) → ((j : ℕ) → e ≡ ArgOutOfRange j → ⊥)
      → ((j : ℕ) → e ≡ ArgKind j → ⊥) → IsValueRefusal k value e → ⊥
  value_never k s i value e (has t) a b c h = a h.0
  value_never k s i value e past a b c h = b i h
  value_never k s i value e other a b c h = c i h

  never_met : (k : ℕ) (t : Tree Depth) (e : Refusal) → (e ≡ GreatestIndex → ⊥) → ((j : ℕ) → e ≡ ArgOutOfRange j → ⊥) → ((j : ℕ) → e ≡ ArgKind j → ⊥) → ((x : ℕ) → e ≡ RegionVariable x → ⊥)
      → Meets (record { args = args; under = k }) t e → ⊥
  never_met k t e a b c d h =
      param_says ⊥ t (met_param (λ s i. ⊥) e args (λ j s i g. value_never j s i (value_of s i (slice_get args i)) e (looked s i (slice_get args i)) a b c g) (λ m r g. region_refusal m r e d g) a k t h)

  mutual
    -- a region variable that is met occurs in the tree
    variable_stands : (k x : ℕ) (t : Tree Depth) → Meets (record { args = args; under = k }) t (RegionVariable x) → StandsIn (region (region_var x)) t
    variable_stands k x (param s i name) h = absurd (value_never k s i (value_for (record { args = args; under = k }) s i) (RegionVariable x) (looked s i (slice_get args i)) (λ e. cc) (λ j e. cc) (λ j e. cc) h)
    variable_stands k x (bound s d y) h = absurd h
    variable_stands k x (region r) h = at_region r h
      where
        at_region : (r : FreeRegion Name) → IsLeafRefusal (record { args = args; under = k }) (region r) (RegionVariable x) → StandsIn (region (region_var x)) (region r)
        at_region (region_var y) g = let same : y ≡ x = cc in rw same itself
        at_region _ g = absurd g
    variable_stands k x (term l ts) h = in_term (variable_among k x ts h)
    variable_stands k x (node l ts) h = in_node (variable_among k x ts h)
    variable_stands k x (binder vs t) h = elim h [ inl deep ↦ absurd (cc (deep.0)) | inr within ↦ in_binder (variable_stands (suc k) x t within) ]

    variable_among : (k x : ℕ) (ts : Forest Depth) → Meets_all (record { args = args; under = k }) ts (RegionVariable x) → StandsAmong (region (region_var x)) ts
    variable_among k x none h = absurd h
    variable_among k x (also t ts) h = elim h [ inl a ↦ in_first (variable_stands k x t a) | inr b ↦ in_later (variable_among k x ts b) ]

mutual
  -- and so does one that is exposed
  exposed_stands : (x : ℕ) (t : Tree Depth) → HasExposed x t → StandsIn (region (region_var x)) t
  exposed_stands x (param s i name) h = absurd h
  exposed_stands x (bound s d y) h = absurd h
  exposed_stands x (region r) h = at_region r h
    where
      at_region : (r : FreeRegion Name) → IsRegionVar x r → StandsIn (region (region_var x)) (region r)
      at_region (region_var y) g = rw g itself
      at_region _ g = absurd g
  exposed_stands x (term l ts) h = in_term (exposed_among x ts h.1)
  exposed_stands x (node l ts) h = in_node (exposed_among x ts h)
  exposed_stands x (binder vs t) h = in_binder (exposed_stands x t h)

  exposed_among : (x : ℕ) (ts : Forest Depth) → HasExposed_among x ts → StandsAmong (region (region_var x)) ts
  exposed_among x none h = absurd h
  exposed_among x (also t ts) h = elim h [ inl a ↦ in_first (exposed_stands x t a) | inr b ↦ in_later (exposed_among x ts b) ]

-- the greatest index is met exactly where the plain result doesn't fit, if the tree does
module _ (args : List (Argument Depth)) where
  abbrev At : ℕ → Replacing
  At k = record { args = args; under = k }

  value_unfit : (k : ℕ) (s : Sort) (i : ℕ) (name : Name) (value : Result (Tree Depth) Refusal) → Looked i value → IsValueRefusal k value GreatestIndex → FitsUnder k (read k (value_or (param s i name) k value)) → ⊥
  value_unfit k s i name value (has t) h fits = h.1 fits
  value_unfit k s i name value past h fits = cc
  value_unfit k s i name value other h fits = cc

  unfit_value : (k : ℕ) (s : Sort) (i : ℕ) (name : Name) (value : Result (Tree Depth) Refusal) → Looked i value → (FitsUnder k (read k (value_or (param s i name) k value)) → ⊥) → IsValueRefusal k value GreatestIndex
  unfit_value k s i name value (has t) h = (refl, h)
  unfit_value k s i name value past h = absurd (h tt)
  unfit_value k s i name value other h = absurd (h tt)

  mutual
    met_unfit : (k : ℕ) (t : Tree Depth) → FitsUnder k (read k t) → Meets (At k) t GreatestIndex → FitsUnder k (read k (inst_tree k args t)) → ⊥
    met_unfit k (param s i name) fit h fits =
        value_unfit k s i name (value_for (At k) s i) (looked s i (slice_get args i)) h (subst (λ u. FitsUnder k (read k u)) (sym (param_placed (At k) s i name)) fits)
    met_unfit k (bound s d x) fit h fits = h
    met_unfit k (region r) fit h fits = region_refusal (At k) r GreatestIndex (λ x e. cc) h
    met_unfit k (term l ts) fit h fits = met_unfit_among k ts fit h fits
    met_unfit k (node l ts) fit h fits = met_unfit_among k ts fit h fits
    met_unfit k (binder vs t) fit h fits = elim h [ inl deep ↦ omega (arith, fit.0, deep.1) | inr within ↦ met_unfit (suc k) t fit.1 within fits.1 ]

    met_unfit_among : (k : ℕ) (ts : Forest Depth) → FitsUnder_all k (read_all k ts) → Meets_all (At k) ts GreatestIndex → FitsUnder_all k (read_all k (inst_forest k args ts)) → ⊥
    met_unfit_among k none fit h fits = h
    met_unfit_among k (also t ts) fit h fits = elim h [ inl a ↦ met_unfit k t fit.0 a fits.0 | inr b ↦ met_unfit_among k ts fit.1 b fits.1 ]

  mutual
    unfit_met : (k : ℕ) (t : Tree Depth) → FitsUnder k (read k t) → (FitsUnder k (read k (inst_tree k args t)) → ⊥) → Meets (At k) t GreatestIndex
    unfit_met k (param s i name) fit h =
        unfit_value k s i name (value_for (At k) s i) (looked s i (slice_get args i)) (λ fits. h (subst (λ u. FitsUnder k (read k u)) (param_placed (At k) s i name) fits))
    unfit_met k (bound s d x) fit h = h fit
    unfit_met k (region r) fit h = absurd (h tt)
    unfit_met k (term l ts) fit h = unfit_met_among k ts fit h
    unfit_met k (node l ts) fit h = unfit_met_among k ts fit h
    unfit_met k (binder vs t) fit h = inr (unfit_met (suc k) t fit.1 (λ fits. h (fit.0, fits)))

    unfit_met_among : (k : ℕ) (ts : Forest Depth) → FitsUnder_all k (read_all k ts) → (FitsUnder_all k (read_all k (inst_forest k args ts)) → ⊥) → Meets_all (At k) ts GreatestIndex
    unfit_met_among k none fit h = h tt
    unfit_met_among k (also t ts) fit h = elim (fits_or k (read k (inst_tree k args t))) [
      | inl fits ↦ inr (unfit_met_among k ts fit.1 (λ rest. h (fits, rest)))
      | inr unfit ↦ inl (unfit_met k t fit.0 unfit)
    ]

-- from outside of each binder, what is met is a reason, and a reason is met
module _ (args : List (Argument Depth)) (t : Tree Depth) (some : args ≢ []) (lacks : HoldsNoRegionVar t) (fit : Fits (read 0 t)) where
  met_reason : (e : Refusal) → Meets (outside args) t e → IsPlainReason args t e
  met_reason Memory h = never_met args 0 t Memory (λ e. cc) (λ j e. cc) (λ j e. cc) (λ x e. cc) h
  met_reason TableFull h = never_met args 0 t TableFull (λ e. cc) (λ j e. cc) (λ j e. cc) (λ x e. cc) h
  met_reason GreatestIndex h = λ fits. met_unfit args 0 t fit h (rw (read-inst_tree 0 args t) fits)
  met_reason NoArguments h = absurd (never_met args 0 t NoArguments (λ e. cc) (λ j e. cc) (λ j e. cc) (λ x e. cc) h)
  met_reason (ArgOutOfRange index) h =
      let never : (m : Replacing) (r : FreeRegion Name) → IsLeafRefusal m (region r) (ArgOutOfRange index) → ⊥ = λ m r g. region_refusal m r (ArgOutOfRange index) (λ x e. cc) g in (
        some,
        met_param (λ s i. i ≡ index) (ArgOutOfRange index) args (λ k s i g. (past_refusal k s i index (slice_get args i) g).0) never (λ e. cc) 0 t h,
        param_says (length args ≤ index) t (met_param (λ s i. length args ≤ index) (ArgOutOfRange index) args (λ k s i g. low k s i g) never (λ e. cc) 0 t h),
      )
    where
      low : (k : ℕ) (s : Sort) (i : ℕ) → IsValueRefusal k (value_of s i (slice_get args i)) (ArgOutOfRange index) → length args ≤ index
      low k s i g = let is = past_refusal k s i index (slice_get args i) g in subst (λ j. length args ≤ j) is.0 (found_none args i is.1)
  met_reason (ArgKind index) h =
      met_param (λ s i. (i ≡ index) × HasOtherSort args s i) (ArgKind index) args (λ k s i g. kind_refusal k s i index (slice_get args i) g)
      (λ m r g. region_refusal m r (ArgKind index) (λ x e. cc) g) (λ e. cc) 0 t h
  met_reason (RegionVariable x) h = absurd (lacks x (variable_stands args 0 x t h))
  met_reason NotAClause h = never_met args 0 t NotAClause (λ e. cc) (λ j e. cc) (λ j e. cc) (λ x e. cc) h
  met_reason NoSuchAnswer h = never_met args 0 t NoSuchAnswer (λ e. cc) (λ j e. cc) (λ j e. cc) (λ x e. cc) h

  reason_met : (e : Refusal) → IsPlainReason args t e → Meets (outside args) t e
  reason_met Memory h = absurd h
  reason_met TableFull h = absurd h
  reason_met GreatestIndex h = unfit_met args 0 t fit (λ fits. h (rw (← read-inst_tree 0 args t) fits))
  reason_met NoArguments h = absurd (some h.0)
  reason_met (ArgOutOfRange index) h = param_met (λ s i. i ≡ index) (ArgOutOfRange index) args (λ k s i is. at_index k s i is) 0 t h.1
    where
      at_index : (k : ℕ) (s : Sort) (i : ℕ) → i ≡ index → IsValueRefusal k (value_of s i (slice_get args i)) (ArgOutOfRange index)
      at_index k s i is = subst (λ j. IsValueRefusal k (value_of s i (slice_get args i)) (ArgOutOfRange j)) is (refused_past k s i (slice_get args i) (slice_get_past args i (subst (λ j. length args ≤ j) (sym is) h.2)))
  reason_met (ArgKind index) h = param_met (λ s i. (i ≡ index) × HasOtherSort args s i) (ArgKind index) args (λ k s i is. at_index k s i is) 0 t h
    where
      at_index : (k : ℕ) (s : Sort) (i : ℕ) → (i ≡ index) × HasOtherSort args s i → IsValueRefusal k (value_of s i (slice_get args i)) (ArgKind index)
      at_index k s i is = subst (λ j. IsValueRefusal k (value_of s i (slice_get args i)) (ArgKind j)) is.0 (refused_kind k s i (slice_get args i) is.1)
  reason_met (RegionVariable x) h = absurd (lacks x (exposed_stands x t h.1))
  reason_met NotAClause h = absurd h
  reason_met NoSuchAnswer h = absurd h

  module _ (rooted : IsRooted t) (keeps : KeepsClauses t) where
    is_refused : (heeded : Refusal → Bool) (e : Refusal) → FailsUnpruned heeded args t e → IsTrue (heeded e) × IsPlainReason args t e
    is_refused heeded e h = let found = met_at_end heeded h.1 keeps in (found.0, met_reason e found.1)

    it_ends : (heeded : Refusal → Bool) (e : Refusal) → IsTrue (heeded e) → IsPlainReason args t e → (found : Refusal) × FailsUnpruned heeded args t found
    it_ends heeded e heeds why = by (either heeded (outside args) t rooted keeps)
      where
        by : Goes heeded (outside args) t → (found : Refusal) × FailsUnpruned heeded args t found
        by (goes w) = absurd ((does heeded w).clean e heeds (reason_met e why))
        by (ends found m d) = (found, (m, d))

    it_gives : (heeded : Refusal → Bool) (r : Tree Depth) → GivesUnpruned heeded args t r → IsPlain args t r × HeedsNone heeded (IsPlainReason args t)
    it_gives heeded r h =
        let n = does heeded h.1 in
        (ap (read 0) n.plain ∙ read-inst_tree 0 args t, λ e heeds why. n.clean e heeds (reason_met e why))

    is_given : (heeded : Refusal → Bool) (r : Tree Depth) → IsPlain args t r → HeedsNone heeded (IsPlainReason args t) → GivesUnpruned heeded args t r
    is_given heeded r plain clean = by (either heeded (outside args) t rooted keeps)
      where
        same : inst_tree 0 args t ≡ r
        same = read-injective 0 (inst_tree 0 args t) r (read-inst_tree 0 args t ∙ sym plain)

        by : Goes heeded (outside args) t → GivesUnpruned heeded args t r
        by (goes w) = subst (λ u. GivesUnpruned heeded args t u) same (outside args, w)
        by (ends e m d) = let found = is_refused heeded e (m, d) in absurd (clean e found.0 found.1)

    only_itself : (e : Refusal) → only e e ≡ true
    only_itself (ArgOutOfRange i) = eq-eqb i i refl
    only_itself (ArgKind i) = eq-eqb i i refl
    only_itself (RegionVariable x) = eq-eqb x x refl
    only_itself _ = refl

    only_one : (e f : Refusal) → only e f ≡ true → f ≡ e
    only_one Memory Memory h = refl
    only_one TableFull TableFull h = refl
    only_one GreatestIndex GreatestIndex h = refl
    only_one NoArguments NoArguments h = refl
    only_one (ArgOutOfRange i) (ArgOutOfRange j) h = ap ArgOutOfRange (sym (eqb-true i j h))
    only_one (ArgKind i) (ArgKind j) h = ap ArgKind (sym (eqb-true i j h))
    only_one (RegionVariable x) (RegionVariable y) h = ap RegionVariable (sym (eqb-true x y h))
    only_one NotAClause NotAClause h = refl
    only_one NoSuchAnswer NoSuchAnswer h = refl
    only_one _ _ h = cc

    it_meets : (e : Refusal) → IsPlainReason args t e → FailsUnpruned (only e) args t e
    it_meets e why =
        let found = it_ends (only e) e (only_itself e) why in
        let heeds = (is_refused (only e) found.0 found.1).0 in
        subst (λ f. FailsUnpruned (only e) args t f) (only_one e found.0 heeds) found.1

    is_unseen : IsUnseen args t
    is_unseen = record {
      gives = λ heeded r. (λ h. it_gives heeded r h, λ h. is_given heeded r h.0 h.1);
      refused = is_refused;
      ends = it_ends;
      meets = λ e. (λ h. (is_refused (only e) e h).1, λ why. it_meets e why);
    }

-- in a value that fits, without region variables, a walk that skips nothing ends as plain replacement does
pub pruning_unseen : PruningIsUnseen
pruning_unseen rows args s are part some lacks fit binders = is_unseen args (tree_in rows s) some lacks (value-fits rows s are part fit binders) (value_rooted rows are s part) (value_keeps rows are s part)
