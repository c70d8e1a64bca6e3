-- The folds of records, from the same of their contents.
use Rattle.std.proofs.Common.{◌≡◌, ℕ, List, Ok, Err, refl}
use Rattle.tt_kinds.specs.Label.{Name, RecordLabel, unsafe_binder_record, record_label}
use Rattle.tt_kinds.specs.Shape as shape
use Rattle.tt_kinds.specs.Shape.{Shape, Sizes, IsNamedRecord, IsNamedLabel, rename_record, name_of, fill}
use Rattle.tt_kinds.specs.Values.{one_record, two_record, unsafe_binder_shape}
use Rattle.tt_kinds.specs.Kinds.{RecordForm, replenished, record_shape, parts_shapes, ty_shape, binder_shape}
use Rattle.tt_kinds.specs.Handle.{Ty}
use Rattle.tt_kinds.specs.declared.binder.Binder.{Binder}
use Rattle.tt_kinds.specs.declared.ty_kind.UnsafeBinderInner.{UnsafeBinderInner}
use Rattle.tt_kinds.specs.declared.parts.Parts.{Parts}
use Rattle.tt_interner.specs.Rows.{Row, size, meaning}
use Rattle.tt_interner.specs.Stored.{Terms}
use Rattle.tt_interner.proofs.Growth.{Extends-refl, Extends-trans, IsPart-grows, fill-grows}
use Rattle.tt_fold.specs.Parts.{ArePartsOf, ArePartsFor, parts_trees}
use Rattle.tt_fold.proofs.FormLaws.{keeps_label}
use Rattle.tt_fold.specs.Walk.{Errors, Hooks, any_trees, Walks, WalksAll, FailsAll, at_node, done, next, Fails}
use Rattle.tt_fold.specs.Walk.{node_failed, here, later}
use Rattle.tt_fold.specs.Counts.{Standing}
use Rattle.tt_fold.specs.Steps.{Folds, IsPartOf, IsPartBy, tree_by}

-- the record's label has no name in it
pub record IsNameless (l : RecordLabel ℕ) : Type 0 where
  pub same : (f g : ℕ → Name) → rename_record f l ≡ rename_record g l
  pub named : (size : Sizes) → IsNamedRecord size l

-- the contents of records
pub one-inner : (rows : List Row) (l : RecordLabel ℕ) (s : Shape) → IsPartOf rows (one_record l s) → IsPartOf rows s
one-inner rows l s h = h.2.0

one-part : (rows : List Row) (l : RecordLabel ℕ) (s : Shape) → IsNameless l → IsPartOf rows s → IsPartOf rows (one_record l s)
one-part rows l s plain h = (refl, plain.named (size rows), (h, tt))

-- if the handles in a record of two values name rows, so do the handles in the first value
pub two-first : (rows : List Row) (l : RecordLabel ℕ) (s u : Shape) → IsPartOf rows (two_record l s u) → IsPartOf rows s
two-first rows l s u h = h.2.0

-- if the handles in a record of two values name rows, so do the handles in the second value
pub two-second : (rows : List Row) (l : RecordLabel ℕ) (s u : Shape) → IsPartOf rows (two_record l s u) → IsPartOf rows u
two-second rows l s u h = h.2.1.0

two-part : (rows : List Row) (l : RecordLabel ℕ) (s u : Shape) → IsNameless l → IsPartOf rows s → IsPartOf rows u → IsPartOf rows (two_record l s u)
two-part rows l s u plain h k = (refl, plain.named (size rows), (h, (k, tt)))

-- a record of three values
abbrev pub three_record : RecordLabel ℕ → Shape → Shape → Shape → Shape
three_record l s u v = shape.node (record_label l) (shape.also s (shape.also u (shape.also v shape.none)))

-- if the handles in a record of three values name rows, so do the handles in the first value
pub three-first : (rows : List Row) (l : RecordLabel ℕ) (s u v : Shape) → IsPartOf rows (three_record l s u v) → IsPartOf rows s
three-first rows l s u v h = h.2.0

-- if the handles in a record of three values name rows, so do the handles in the second value
pub three-second : (rows : List Row) (l : RecordLabel ℕ) (s u v : Shape) → IsPartOf rows (three_record l s u v) → IsPartOf rows u
three-second rows l s u v h = h.2.1.0

-- if the handles in a record of three values name rows, so do the handles in the third value
pub three-third : (rows : List Row) (l : RecordLabel ℕ) (s u v : Shape) → IsPartOf rows (three_record l s u v) → IsPartOf rows v
three-third rows l s u v h = h.2.1.1.0

three-part : (rows : List Row) (l : RecordLabel ℕ) (s u v : Shape) → IsNameless l → IsPartOf rows s → IsPartOf rows u → IsPartOf rows v → IsPartOf rows (three_record l s u v)
three-part rows l s u v plain h k m = (refl, plain.named (size rows), (h, (k, (m, tt))))

-- a record of parts
record_named : (rows : List Row) (f : RecordForm) → IsPartOf rows (record_shape f) → IsNamedLabel (size rows) (record_label f.label)
record_named rows f h = h.1

-- if the handles in a record of parts name rows, so do the handles in its parts
pub record-parts : (rows : List Row) (f : RecordForm) → IsPartOf rows (record_shape f) → ArePartsOf rows (parts_shapes f.parts)
record-parts rows f h = h.2

record-part : (rows : List Row) (f : RecordForm) → IsNamedLabel (size rows) (record_label f.label) → ArePartsOf rows (parts_shapes f.parts) → IsPartOf rows (record_shape f)
record-part rows f named h = (refl, named, h)

module _ {M E S : Type 0} {owned : List Row → S → Type 0} {means : List Row → S → M} {H : Hooks (Standing M) E} {errors : Errors E} where
  -- a record of nothing
  pub none_folds : {T : Type 0} (of : T → Shape) (l : RecordLabel ℕ) {terms : Terms} {s : S} → IsNameless l → (x y : T) → of x ≡ shape.node (record_label l) shape.none → of y ≡ shape.node (record_label l) shape.none
      → owned terms.rows s
      → Folds owned means (IsPartBy of) (tree_by of) (Walks H) (Fails H errors) terms s x (Ok y) terms s
  unfolding fill
  none_folds of l {terms} plain x y at_x at_y o =
      record { extends = Extends-refl terms; is_owned = o; outcome = (rw at_y (refl, plain.named (size terms.rows), tt), rw (at_x, at_y) (at_node done (λ h. h))) }

  -- a record of one value
  module _ {T A : Type 0} (of : T → Shape) (a : A → Shape) (l : RecordLabel ℕ) where
    -- the fold of a record of one value fails if the fold of the value fails
    pub one_fails : {terms terms1 : Terms} {s s1 : S} {e : E} (x : T) (u : A) → of x ≡ one_record l (a u)
        → Folds owned means (IsPartBy a) (tree_by a) (Walks H) (Fails H errors) terms s u (Err e) terms1 s1
        → Folds owned means (IsPartBy of) (tree_by of) (Walks H) (Fails H errors) terms s x (Err e) terms1 s1
    unfolding fill
    one_fails x u at_x d = record { extends = d.extends; is_owned = d.is_owned; outcome = rw at_x (node_failed (here d.outcome)) }

    -- a record of one value is folded to the record of the value's result
    pub one_folds : {terms terms1 : Terms} {s s1 : S} → IsNameless l → (x y : T) (u v : A) → of x ≡ one_record l (a u) → of y ≡ one_record l (a v)
        → Folds owned means (IsPartBy a) (tree_by a) (Walks H) (Fails H errors) terms s u (Ok v) terms1 s1
        → Folds owned means (IsPartBy of) (tree_by of) (Walks H) (Fails H errors) terms s x (Ok y) terms1 s1
    unfolding fill
    one_folds {terms} {terms1} plain x y u v at_x at_y d =
        let o = d.outcome in
        record {
          extends = d.extends;
          is_owned = d.is_owned;
          outcome = (
            rw at_y (one-part terms1.rows l (a v) plain o.0),
            rw (at_x, at_y, plain.same (name_of (meaning terms.rows)) (name_of (meaning terms1.rows))) (at_node (next o.1 done) (λ h. h)),
          );
        }

  -- a record of two values
  module _ {T A B : Type 0} (of : T → Shape) (a : A → Shape) (b : B → Shape) (l : RecordLabel ℕ) where
    -- the fold of a record of two values fails if the fold of the first fails
    pub two_first_fails : {terms terms1 : Terms} {s s1 : S} {e : E} (x : T) (u : A) (v : B) → of x ≡ two_record l (a u) (b v)
        → Folds owned means (IsPartBy a) (tree_by a) (Walks H) (Fails H errors) terms s u (Err e) terms1 s1
        → Folds owned means (IsPartBy of) (tree_by of) (Walks H) (Fails H errors) terms s x (Err e) terms1 s1
    unfolding fill
    two_first_fails x u v at_x d = record { extends = d.extends; is_owned = d.is_owned; outcome = rw at_x (node_failed (here d.outcome)) }

    -- the fold of a record of two values fails if the first is folded and the fold of the second fails
    pub two_second_fails : {terms terms1 terms2 : Terms} {s s1 s2 : S} {e : E} {other : Errors E} (x : T) (u y : A) (v : B) → of x ≡ two_record l (a u) (b v)
        → IsPartBy b terms.rows v
        → Folds owned means (IsPartBy a) (tree_by a) (Walks H) (Fails H other) terms s u (Ok y) terms1 s1
        → Folds owned means (IsPartBy b) (tree_by b) (Walks H) (Fails H errors) terms1 s1 v (Err e) terms2 s2
        → Folds owned means (IsPartBy of) (tree_by of) (Walks H) (Fails H errors) terms s x (Err e) terms2 s2
    unfolding fill
    two_second_fails x u y v at_x part d1 d2 =
        let o = rw (fill-grows _ _ d1.extends.rows (b v) part) at d2.outcome in
        record { extends = Extends-trans d1.extends d2.extends; is_owned = d2.is_owned; outcome = rw at_x (node_failed (later d1.outcome.1 (λ h. h) (here o))) }

    -- a record of two values is folded to the record of their results
    pub two_folds : {terms terms1 terms2 : Terms} {s s1 s2 : S} {other : Errors E} → IsNameless l → (x z : T) (u y : A) (v w : B)
        → of x ≡ two_record l (a u) (b v) → of z ≡ two_record l (a y) (b w) → IsPartBy b terms.rows v
        → Folds owned means (IsPartBy a) (tree_by a) (Walks H) (Fails H other) terms s u (Ok y) terms1 s1
        → Folds owned means (IsPartBy b) (tree_by b) (Walks H) (Fails H errors) terms1 s1 v (Ok w) terms2 s2
        → Folds owned means (IsPartBy of) (tree_by of) (Walks H) (Fails H errors) terms s x (Ok z) terms2 s2
    unfolding fill
    two_folds {terms} {terms2} plain x z u y v w at_x at_z part d1 d2 =
        let o = rw (fill-grows _ _ d1.extends.rows (b v) part) at d2.outcome in
        let first = rw (← fill-grows _ _ d2.extends.rows (a y) d1.outcome.0) at d1.outcome.1 in
        record {
          extends = Extends-trans d1.extends d2.extends;
          is_owned = d2.is_owned;
          outcome = (
            rw at_z (two-part terms2.rows l (a y) (b w) plain (IsPart-grows _ _ d2.extends.rows (a y) d1.outcome.0) o.0),
            rw (at_x, at_z, plain.same (name_of (meaning terms.rows)) (name_of (meaning terms2.rows))) (at_node (next first (next o.1 done)) (λ h. h)),
          );
        }

  -- a record of three values
  module _ {T A B C : Type 0} (of : T → Shape) (a : A → Shape) (b : B → Shape) (c : C → Shape) (l : RecordLabel ℕ) where
    -- the fold of a record of three values fails if the fold of the first fails
    pub three_first_fails : {terms terms1 : Terms} {s s1 : S} {e : E} (x : T) (u : A) (v : B) (w : C) → of x ≡ three_record l (a u) (b v) (c w)
        → Folds owned means (IsPartBy a) (tree_by a) (Walks H) (Fails H errors) terms s u (Err e) terms1 s1
        → Folds owned means (IsPartBy of) (tree_by of) (Walks H) (Fails H errors) terms s x (Err e) terms1 s1
    unfolding fill
    three_first_fails x u v w at_x d = record { extends = d.extends; is_owned = d.is_owned; outcome = rw at_x (node_failed (here d.outcome)) }

    -- the fold of a record of three values fails if the first is folded and the fold of the second fails
    pub three_second_fails : {terms terms1 terms2 : Terms} {s s1 s2 : S} {e : E} {other : Errors E} (x : T) (u p : A) (v : B) (w : C)
        → of x ≡ three_record l (a u) (b v) (c w) → IsPartBy b terms.rows v
        → Folds owned means (IsPartBy a) (tree_by a) (Walks H) (Fails H other) terms s u (Ok p) terms1 s1
        → Folds owned means (IsPartBy b) (tree_by b) (Walks H) (Fails H errors) terms1 s1 v (Err e) terms2 s2
        → Folds owned means (IsPartBy of) (tree_by of) (Walks H) (Fails H errors) terms s x (Err e) terms2 s2
    unfolding fill
    three_second_fails x u p v w at_x part d1 d2 =
        let o = rw (fill-grows _ _ d1.extends.rows (b v) part) at d2.outcome in
        record { extends = Extends-trans d1.extends d2.extends; is_owned = d2.is_owned; outcome = rw at_x (node_failed (later d1.outcome.1 (λ h. h) (here o))) }

    -- the fold of a record of three values fails if two are folded and the fold of the third fails
    pub three_third_fails : {terms terms1 terms2 terms3 : Terms} {s s1 s2 s3 : S} {e : E} {other another : Errors E} (x : T) (u p : A) (v q : B) (w : C)
        → of x ≡ three_record l (a u) (b v) (c w) → IsPartBy b terms.rows v → IsPartBy c terms.rows w
        → Folds owned means (IsPartBy a) (tree_by a) (Walks H) (Fails H other) terms s u (Ok p) terms1 s1
        → Folds owned means (IsPartBy b) (tree_by b) (Walks H) (Fails H another) terms1 s1 v (Ok q) terms2 s2
        → Folds owned means (IsPartBy c) (tree_by c) (Walks H) (Fails H errors) terms2 s2 w (Err e) terms3 s3
        → Folds owned means (IsPartBy of) (tree_by of) (Walks H) (Fails H errors) terms s x (Err e) terms3 s3
    unfolding fill
    three_third_fails x u p v q w at_x part last d1 d2 d3 =
        let o = rw (fill-grows _ _ d1.extends.rows (b v) part) at d2.outcome in
        let f = rw (fill-grows _ _ (Extends-trans d1.extends d2.extends).rows (c w) last) at d3.outcome in
        record {
          extends = Extends-trans d1.extends (Extends-trans d2.extends d3.extends);
          is_owned = d3.is_owned;
          outcome = rw at_x (node_failed (later d1.outcome.1 (λ h. h) (later o.1 (λ h. h) (here f))));
        }

    -- a record of three values is folded to the record of their results
    pub three_folds : {terms terms1 terms2 terms3 : Terms} {s s1 s2 s3 : S} {other another : Errors E} → IsNameless l → (x z : T) (u p : A) (v q : B) (w r : C)
        → of x ≡ three_record l (a u) (b v) (c w) → of z ≡ three_record l (a p) (b q) (c r) → IsPartBy b terms.rows v → IsPartBy c terms.rows w
        → Folds owned means (IsPartBy a) (tree_by a) (Walks H) (Fails H other) terms s u (Ok p) terms1 s1
        → Folds owned means (IsPartBy b) (tree_by b) (Walks H) (Fails H another) terms1 s1 v (Ok q) terms2 s2
        → Folds owned means (IsPartBy c) (tree_by c) (Walks H) (Fails H errors) terms2 s2 w (Ok r) terms3 s3
        → Folds owned means (IsPartBy of) (tree_by of) (Walks H) (Fails H errors) terms s x (Ok z) terms3 s3
    unfolding fill
    three_folds {terms} {terms3} plain x z u p v q w r at_x at_z part last d1 d2 d3 =
        let o = rw (fill-grows _ _ d1.extends.rows (b v) part) at d2.outcome in
        let f = rw (fill-grows _ _ (Extends-trans d1.extends d2.extends).rows (c w) last) at d3.outcome in
        let later_terms = Extends-trans d2.extends d3.extends in
        let first = rw (← fill-grows _ _ later_terms.rows (a p) d1.outcome.0) at d1.outcome.1 in
        let second = rw (← fill-grows _ _ d3.extends.rows (b q) o.0) at o.1 in
        record {
          extends = Extends-trans d1.extends later_terms;
          is_owned = d3.is_owned;
          outcome = (
            rw at_z (three-part terms3.rows l (a p) (b q) (c r) plain (IsPart-grows _ _ later_terms.rows (a p) d1.outcome.0) (IsPart-grows _ _ d3.extends.rows (b q) o.0) f.0),
            rw (at_x, at_z, plain.same (name_of (meaning terms.rows)) (name_of (meaning terms3.rows))) (at_node (next first (next second (next f.1 done))) (λ h. h)),
          );
        }

  -- what a kind without a row says: a record of its parts
  module _ {T : Type 0} (of : T → RecordForm) where
    -- the fold of a kind without a row fails if the fold of its parts fails
    pub parts_fail : {terms terms1 : Terms} {s s1 : S} {x : T} {e : E}
        → Folds owned means (ArePartsFor (of x).parts) parts_trees (WalksAll H) (FailsAll H errors any_trees) terms s (of x).parts (Err e) terms1 s1
        → Folds owned means (IsPartBy (λ x. record_shape (of x))) (tree_by (λ x. record_shape (of x))) (Walks H) (Fails H errors) terms s x (Err e) terms1 s1
    unfolding fill
    parts_fail d = record { extends = d.extends; is_owned = d.is_owned; outcome = node_failed d.outcome }

    -- a kind without a row is folded to the kind with the results of its parts
    pub parts_fold : {terms terms1 : Terms} {s s1 : S} {x y : T} {q : Parts} → IsPartOf terms.rows (record_shape (of x)) → of y ≡ replenished q (of x)
        → Folds owned means (ArePartsFor (of x).parts) parts_trees (WalksAll H) (FailsAll H errors any_trees) terms s (of x).parts (Ok q) terms1 s1
        → Folds owned means (IsPartBy (λ x. record_shape (of x))) (tree_by (λ x. record_shape (of x))) (Walks H) (Fails H errors) terms s x (Ok y) terms1 s1
    unfolding fill
    parts_fold {terms} {terms1} {x} {q} part same d =
        let o = d.outcome in
        let label = keeps_label terms.rows terms1.rows d.extends.rows (record_label (of x).label) (record_named terms.rows (of x) part) in
        record {
          extends = d.extends;
          is_owned = d.is_owned;
          outcome = (
            rw same (record-part terms1.rows (replenished q (of x)) label.named o.0.owned),
            rw (same, label.same) (at_node o.1 (λ h. h)),
          );
        }

-- a type under an unsafe binder, as a binder's value
abbrev pub unsafe_value : Ty → Shape
unsafe_value t = one_record unsafe_binder_record (ty_shape t)

-- if the handles in an unsafe binder's contents name rows, so do the handles in the binder that they hold
pub unsafe_is_part : (rows : List Row) (i : UnsafeBinderInner) → IsPartOf rows (unsafe_binder_shape i) → IsPartBy (binder_shape unsafe_value) rows i.0
unsafe_is_part rows i h = h

-- if the handles in an unsafe binder's contents name rows, so does the type under the binder
pub unsafe_type : (rows : List Row) (i : UnsafeBinderInner) → IsPartOf rows (unsafe_binder_shape i) → IsPartOf rows (ty_shape i.0.value)
unsafe_type rows i h = one-inner rows unsafe_binder_record (ty_shape i.0.value) h.1

module _ {M E S : Type 0} {owned : List Row → S → Type 0} {means : List Row → S → M} {H : Hooks (Standing M) E} {errors : Errors E} where
  -- the record of the type was folded
  pub unsafe_value_fails : {terms terms1 : Terms} {s s1 : S} {e : E} (t : Ty)
      → Folds owned means (IsPartBy ty_shape) (tree_by ty_shape) (Walks H) (Fails H errors) terms s t (Err e) terms1 s1
      → Folds owned means (IsPartBy unsafe_value) (tree_by unsafe_value) (Walks H) (Fails H errors) terms s t (Err e) terms1 s1
  unsafe_value_fails t d = one_fails unsafe_value ty_shape unsafe_binder_record t t refl d

  -- the record of a type under an unsafe binder is folded to the record of the type's result
  pub unsafe_value_folds : {terms terms1 : Terms} {s s1 : S} (t u : Ty)
      → Folds owned means (IsPartBy ty_shape) (tree_by ty_shape) (Walks H) (Fails H errors) terms s t (Ok u) terms1 s1
      → Folds owned means (IsPartBy unsafe_value) (tree_by unsafe_value) (Walks H) (Fails H errors) terms s t (Ok u) terms1 s1
  unsafe_value_folds t u d = one_folds unsafe_value ty_shape unsafe_binder_record (record { same = λ f g. refl; named = λ size. tt }) t u t u refl refl d

  -- the binder in it was folded
  pub unsafe_fails : {terms terms1 : Terms} {s s1 : S} {e : E} (i : UnsafeBinderInner)
      → Folds owned means (IsPartBy (binder_shape unsafe_value)) (tree_by (binder_shape unsafe_value)) (Walks H) (Fails H errors) terms s i.0 (Err e) terms1 s1
      → Folds owned means (IsPartBy unsafe_binder_shape) (tree_by unsafe_binder_shape) (Walks H) (Fails H errors) terms s i (Err e) terms1 s1
  unsafe_fails i d = record { extends = d.extends; is_owned = d.is_owned; outcome = d.outcome }

  -- the contents of an unsafe binder are folded to contents with the result of the binder in them
  pub unsafe_folds : {terms terms1 : Terms} {s s1 : S} {b : Binder Ty} (i j : UnsafeBinderInner) → j.0.value ≡ b.value → j.0.bound_vars ≡ b.bound_vars
      → Folds owned means (IsPartBy (binder_shape unsafe_value)) (tree_by (binder_shape unsafe_value)) (Walks H) (Fails H errors) terms s i.0 (Ok b) terms1 s1
      → Folds owned means (IsPartBy unsafe_binder_shape) (tree_by unsafe_binder_shape) (Walks H) (Fails H errors) terms s i (Ok j) terms1 s1
  unsafe_folds {b} i j value vars d = record { extends = d.extends; is_owned = d.is_owned; outcome = (rw (value, vars) d.outcome.0, rw (value, vars) d.outcome.1) }
