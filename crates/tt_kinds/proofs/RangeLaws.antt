-- Indices that are in range: in a shape and in its tree, and in what reaches no further than the greatest index.
use Rattle.std.proofs.Common.{inl, inr, ◌≡◌, ℕ, ◌+◌, ◌<◌, ◌≤◌, List, [], ◌∷◌, refl, arith}
use Rattle.std.proofs.lemmas.Bool.{cases_lt}
use Rattle.tt_index.specs.Greatest.{greatest}
use Rattle.tt_kinds.specs.Label.{Sort, Label}
use Rattle.tt_kinds.specs.Tree.{Depth, at, canonical}
use Rattle.tt_kinds.specs.Reading.{place, reach, read_all, greatest_reach_all, outer_binder}
use Rattle.tt_kinds.specs.Bound.{IsBelowGreatest}
use Rattle.tt_kinds.specs.Shape.{Shape, Shapes, param, bound, region, term, node, binder, stored, part_of, none, also}
use Rattle.tt_kinds.specs.Shape.{append, item_shapes, Meaning, fill, fill_all}
use Rattle.tt_kinds.specs.Shape.{Sizes, IsPart, AreParts, HasParts, IsGreatest, IsTooDeep}
use Rattle.tt_kinds.specs.Kinds as kinds
use Rattle.tt_kinds.specs.Kinds.{Form, region_shape, arg_shape, child_shapes, parts_shapes, form_parts, form_shape}
use Rattle.tt_kinds.specs.Values.{assumption_shape}
use Rattle.tt_kinds.specs.RegionKind.{IsShallow}
use Rattle.tt_kinds.specs.declared.table.Table.{Table}
use Rattle.tt_kinds.specs.declared.region_kind.RegionKind.{RegionKind}
use Rattle.tt_kinds.specs.declared.region_kind.RegionKind.TheVariants.{ReEarlyParam, ReBound, ReLateParam, ReStatic}
use Rattle.tt_kinds.specs.declared.region_kind.RegionKind.TheVariants.{ReVar, RePlaceholder, ReErased, ReError}
use Rattle.tt_kinds.specs.declared.generic_arg.GenericArgKind.{GenericArgKind}
use Rattle.tt_kinds.specs.declared.generic_arg.GenericArgKind.TheVariants as arg
use Rattle.tt_kinds.specs.declared.predicate.OutlivesPredicate.{OutlivesPredicate}
use Rattle.tt_kinds.specs.declared.parts.Child.{Child}
use Rattle.tt_kinds.specs.declared.parts.Child.TheVariants as child
use Rattle.tt_kinds.specs.declared.parts.Parts.{Parts}
use Rattle.tt_kinds.specs.Range.{IndicesFit, IndicesFit_all, IndicesFitIn, IndicesFitAmong, binders_in, binders_among}
use Rattle.tt_kinds.proofs.OuterLaws.{index-below}
use Rattle.tt_kinds.proofs.ForestLaws.{IsOfEach, list-each}

-- an index that reaches no further than the greatest is below it
reach-fits : (d : Depth) → reach (place 0 d) ≤ greatest → IsBelowGreatest d
reach-fits (at d) h = let below : d < 0 + greatest = index-below greatest 0 (at d) h in omega arith
reach-fits canonical h = tt

-- an index that isn't the greatest is below it
shallow-fits : (d : Depth) → (IsGreatest d → ⊥) → IsBelowGreatest d
shallow-fits (at d) h = elim (cases_lt d greatest) [ inl below ↦ below | inr past ↦ absurd (h past) ]
shallow-fits canonical h = tt

-- a row whose indices fit is no variable of the greatest index
pub fits-not_deep : (s : Shape) → IndicesFitIn s → IsTooDeep s → ⊥
fits-not_deep (bound s (at d) e) fits deep = absurd (omega arith)
fits-not_deep (bound s canonical e) fits deep = deep
fits-not_deep (param s i name) fits deep = deep
fits-not_deep (region r) fits deep = deep
fits-not_deep (term l ss) fits deep = deep
fits-not_deep (node l ss) fits deep = deep
fits-not_deep (binder n s) fits deep = deep
fits-not_deep (stored t n) fits deep = deep
fits-not_deep (part_of t n e) fits deep = deep

-- What has no binder of its own, and reaches no further than the greatest index.

mutual
  unfolding fill

  low-fits : (f : Meaning) (s : Shape) → binders_in s ≡ 0 → outer_binder (fill f s) ≤ greatest → IndicesFitIn s
  low-fits f (param s i name) no_binder h = tt
  low-fits f (bound s d e) no_binder h = reach-fits d h
  low-fits f (region r) no_binder h = tt
  low-fits f (term l ss) no_binder h = low_all-fits f ss no_binder h
  low-fits f (node l ss) no_binder h = low_all-fits f ss no_binder h
  low-fits f (binder n s) no_binder h = absurd (omega arith)
  low-fits f (stored t n) no_binder h = tt
  low-fits f (part_of t n e) no_binder h = tt

  low_all-fits : (f : Meaning) (ss : Shapes) → binders_among ss ≡ 0 → greatest_reach_all (read_all 0 (fill_all f ss)) ≤ greatest → IndicesFitAmong ss
  low_all-fits f none no_binder h = tt
  low_all-fits f (also s ss) no_binder h = (low-fits f s (omega arith) (omega arith), low_all-fits f ss (omega arith) (omega arith))

pub region-unbound : (r : RegionKind) → binders_in (region_shape r) ≡ 0
region-unbound (ReEarlyParam p) = refl
region-unbound (ReBound i b) = refl
region-unbound (ReLateParam p) = refl
region-unbound ReStatic = refl
region-unbound (ReVar v) = refl
region-unbound (RePlaceholder p) = refl
region-unbound ReErased = refl
region-unbound (ReError e) = refl

child-unbound : (c : Child) → binders_among (child_shapes c) ≡ 0
child-unbound child.Absent = refl
child-unbound (child.Region r) = let region = region-unbound r in omega arith
child-unbound (child.Stored r) = refl

append-unbound : (ss us : Shapes) → binders_among ss ≡ 0 → binders_among us ≡ 0 → binders_among (append ss us) ≡ 0
append-unbound none us h k = k
append-unbound (also s ss) us h k = let rest = append-unbound ss us (omega arith) k in omega arith

-- the children of a kind have no binder of their own
pub parts-unbound : (p : Parts) → binders_among (parts_shapes p) ≡ 0
parts-unbound p = append-unbound (child_shapes p.first) (child_shapes p.second) (child-unbound p.first) (child-unbound p.second)

-- a region that can be built
pub shallow_region-fits : (r : RegionKind) → IsShallow r → IndicesFitIn (region_shape r)
shallow_region-fits (ReEarlyParam p) h = tt
shallow_region-fits (ReBound i b) h = h
shallow_region-fits (ReLateParam p) h = tt
shallow_region-fits ReStatic h = tt
shallow_region-fits (ReVar v) h = tt
shallow_region-fits (RePlaceholder p) h = tt
shallow_region-fits ReErased h = tt
shallow_region-fits (ReError e) h = tt

-- the parts of a kind, from what they reach
pub parts-fit : (f : Meaning) (p : Parts) → greatest_reach_all (read_all 0 (fill_all f (parts_shapes p))) ≤ greatest → IndicesFitAmong (parts_shapes p)
parts-fit f p h = low_all-fits f (parts_shapes p) (parts-unbound p) h

-- a kind, from its parts
pub form-fits : (s : Sort) (k : Form (Label ℕ)) → (IsTooDeep (form_shape s k) → ⊥) → IndicesFitAmong (parts_shapes (form_parts k)) → IndicesFitIn (form_shape s k)
form-fits s (kinds.param i name) shallow h = tt
form-fits s (kinds.bound d e) shallow h = shallow-fits d shallow
form-fits s (kinds.plain l p) shallow h = h
form-fits s (kinds.under l vars m p) shallow h = (h, tt)

arg-unbound : (a : GenericArgKind) → binders_in (arg_shape a) ≡ 0
arg-unbound (arg.Lifetime r) = region-unbound r
arg-unbound (arg.«Type» t) = refl
arg-unbound (arg.Const c) = refl

-- the items of a list have no binder, if none of them has
pub items-unbound : {T : Type 0} (shape : T → Shape) → ((x : T) → binders_in (shape x) ≡ 0) → (xs : List T) → binders_among (item_shapes shape xs) ≡ 0
items-unbound shape none_has [] = refl
items-unbound shape none_has (x ∷ xs) = let first = none_has x in let rest = items-unbound shape none_has xs in omega arith

-- the items of a list of arguments have no binder of their own
pub args-unbound : (args : List GenericArgKind) → binders_among (item_shapes arg_shape args) ≡ 0
args-unbound args = items-unbound arg_shape arg-unbound args

-- the items of a list of assumptions have no binder of their own
pub assumptions-unbound : (ps : List (OutlivesPredicate GenericArgKind)) → binders_among (item_shapes assumption_shape ps) ≡ 0
assumptions-unbound ps = items-unbound assumption_shape (λ p. let item = arg-unbound p.0 in let region = region-unbound p.1 in omega arith) ps

-- the items of a list of arguments, from what they reach
pub args-fit : (f : Meaning) (args : List GenericArgKind) → greatest_reach_all (read_all 0 (fill_all f (item_shapes arg_shape args))) ≤ greatest → IndicesFitAmong (item_shapes arg_shape args)
args-fit f args h = low_all-fits f (item_shapes arg_shape args) (args-unbound args) h

-- the items of a list of assumptions, from what they reach
pub assumptions-fit : (f : Meaning) (ps : List (OutlivesPredicate GenericArgKind)) → greatest_reach_all (read_all 0 (fill_all f (item_shapes assumption_shape ps))) ≤ greatest
    → IndicesFitAmong (item_shapes assumption_shape ps)
assumptions-fit f ps h = low_all-fits f (item_shapes assumption_shape ps) (assumptions-unbound ps) h

-- the items of a list of handles have no index of their own
pub items-fit : {T : Type 0} (shape : T → Shape) → ((x : T) → IndicesFitIn (shape x)) → (xs : List T) → IndicesFitAmong (item_shapes shape xs)
items-fit shape fits [] = tt
items-fit shape fits (x ∷ xs) = (fits x, items-fit shape fits xs)

-- Trees.

-- the indices of a forest fit exactly where those of each tree do
each-fits : IsOfEach IndicesFit_all IndicesFit
each-fits = record {
  nothing = tt;
  first = λ t ts h. h.0;
  others = λ t ts h. h.1;
  more = λ t ts h hs. (h, hs);
}

module _ (size : Sizes) (f : Meaning) (fits : (t : Table) (n : ℕ) → n < size t → IndicesFit (f t n)) where
  mutual
    unfolding fill

    -- a value's tree fits, if the trees of its handles do
    pub part-fits : (s : Shape) → IsPart size s → IndicesFitIn s → IndicesFit (fill f s)
    part-fits (param s i name) part h = tt
    part-fits (bound s d e) part h = h
    part-fits (region r) part h = tt
    part-fits (term l ss) part h = absurd part
    part-fits (node l ss) part h = parts_fit ss part.2 h
    part-fits (binder n s) part h = part-fits s part.1 h
    part-fits (stored t n) part h = fits t n part
    part-fits (part_of t n e) part h = list-each IndicesFit_all IndicesFit each-fits (λ l ts h. h) e (f t n) (fits t n part)

    parts_fit : (ss : Shapes) → AreParts size ss → IndicesFitAmong ss → IndicesFit_all (fill_all f ss)
    parts_fit none part h = tt
    parts_fit (also s ss) part h = (part-fits s part.0 h.0, parts_fit ss part.1 h.1)

  -- a row's tree fits, if the trees of its handles do
  pub row-fits : (s : Shape) → HasParts size s → IndicesFitIn s → IndicesFit (fill f s)
  unfolding fill
  row-fits (param s i name) part h = tt
  row-fits (bound s d e) part h = h
  row-fits (region r) part h = absurd part
  row-fits (term l ss) part h = parts_fit ss part.1 h
  row-fits (node l ss) part h = parts_fit ss part.1 h
  row-fits (binder n s) part h = absurd part
  row-fits (stored t n) part h = absurd part
  row-fits (part_of t n e) part h = absurd part
