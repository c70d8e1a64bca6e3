-- The folds of kinds that aren't stored, from the same of their contents.
use Rattle.std.proofs.Common.{◌≡◌, ℕ, List, Option, Some, None, Ok, Err, refl}
use Rattle.tt_kinds.specs.Label.{Sort, ConstLabel, RecordLabel, record_label, bare_param_record, bare_bound_record}
use Rattle.tt_kinds.specs.Tree as tree
use Rattle.tt_kinds.specs.Tree.{Depth, Tree, Forest}
use Rattle.tt_kinds.specs.Shape as shape
use Rattle.tt_kinds.specs.Shape.{Shape, Shapes, fill}
use Rattle.tt_kinds.specs.Kinds.{Form, param, bound, plain, under, form_parts, form_binder, refilled, parts_shapes}
use Rattle.tt_kinds.specs.Kinds.{value_form}
use Rattle.tt_kinds.specs.declared.const_kind.ValueConst.{ValueConst}
use Rattle.tt_kinds.specs.declared.error_guaranteed.ErrorGuaranteed.{ErrorGuaranteed}
use Rattle.tt_kinds.specs.declared.parts.Parts.{Parts}
use Rattle.tt_interner.specs.Rows.{Row, Grows}
use Rattle.tt_interner.specs.Stored.{Terms}
use Rattle.tt_interner.proofs.Growth.{Extends-refl, IsPart-grows}
use Rattle.tt_kinds.specs.Bare.{token_shape, token_shapes, index_of, bare_shape}
use Rattle.tt_fold.specs.Walk.{Errors, Hooks, Walks, WalksAll, at_node, at_binder, done, next, WalksUnder, in_open}
use Rattle.tt_fold.specs.Walk.{in_binder, Fails, FailsUnder, enter_failed, under_failed, leave_failed, node_failed}
use Rattle.tt_fold.specs.Walk.{here, in_open_failed, in_enter_failed, in_under_failed, in_leave_failed}
use Rattle.tt_fold.specs.Counts.{Standing}
use Rattle.tt_fold.specs.Steps.{Folds, IsPartOf, IsPartBy, tree_in, tree_by}
use Rattle.tt_fold.specs.Parts.{ArePartsOf, ArePartsFor, HasBinder, binder_in, parts_trees, trees_in}
use Rattle.tt_fold.proofs.PartLaws.{append_parts, right_parts, append_trees, vars-kept, vars-grow}
use Rattle.tt_fold.proofs.FormLaws.{keeps_label}
use Rattle.tt_fold.proofs.WalkLaws.{WalksAll-append, FailsAll-append, WalksAll-one}

-- the token of an error is part of any interner, and stays
token_part : (rows : List Row) (o : Option ℕ) → ArePartsOf rows (token_shapes o)
token_part rows None = tt
token_part rows (Some e) = ((refl, tt, tt), tt)

token_walks : {M E : Type 0} {H : Hooks M E} {s : M} (rows rows1 : List Row) (o : Option ℕ) → WalksAll H s (trees_in rows (token_shapes o)) (trees_in rows1 (token_shapes o)) s
unfolding fill
token_walks rows rows1 None = done
token_walks rows rows1 (Some e) = next (at_node done (λ h. h)) done

-- nothing is walked where there is nothing
walks_nothing : {M E : Type 0} {H : Hooks M E} {s s' : M} {us : Forest Depth} → WalksAll H s tree.none us s' → s' ≡ s
walks_nothing done = refl

-- parts under a binder
abbrev under_binder : ℕ → RecordLabel ℕ → Parts → Shapes
under_binder n m p = shape.also (shape.binder n (shape.node (record_label m) (parts_shapes p))) shape.none

module _ {L : Type 0} (sort : Sort) (record_of : L → RecordLabel ℕ) (token_of : L → Option ℕ) where
  -- if the plain node of a form is in range, so are the form's children
  pub bare-parts : (rows : List Row) (f : Form L) → IsPartOf rows (bare_shape sort record_of token_of f) → ArePartsOf rows (parts_shapes (form_parts f))
  bare-parts rows (param i name) h = tt
  bare-parts rows (bound d e) h = tt
  bare-parts rows (plain l p) h = right_parts rows (token_shapes (token_of l)) (parts_shapes p) h.2
  bare-parts rows (under l vars m p) h = let u = right_parts rows (token_shapes (token_of l)) (under_binder vars.number m p) h.2 in u.0.1.2

  -- if the plain node of a form is in range, so is the list of the form's binder, if it has one
  pub bare-binder : (rows : List Row) (f : Form L) → IsPartOf rows (bare_shape sort record_of token_of f) → HasBinder rows (form_binder f)
  bare-binder rows (param i name) h = tt
  bare-binder rows (bound d e) h = tt
  bare-binder rows (plain l p) h = tt
  bare-binder rows (under l vars m p) h = let u = right_parts rows (token_shapes (token_of l)) (under_binder vars.number m p) h.2 in u.0.0

  -- the kind with other parts
  bare-refilled : (old rows : List Row) → Grows old rows → (q : Parts) (f : Form L) → IsPartOf old (bare_shape sort record_of token_of f)
      → ArePartsOf rows (parts_shapes q) → IsPartOf rows (bare_shape sort record_of token_of (refilled q f))
  bare-refilled old rows g q (param i name) h k = IsPart-grows old rows g (bare_shape sort record_of token_of (param i name)) h
  bare-refilled old rows g q (bound d e) h k = IsPart-grows old rows g (bare_shape sort record_of token_of (bound d e)) h
  bare-refilled old rows g q (plain l p) h k =
      (refl, (keeps_label old rows g (record_label (record_of l)) h.1).named, append_parts rows (token_shapes (token_of l)) (parts_shapes q) (token_part rows (token_of l)) k)
  bare-refilled old rows g q (under l vars m p) h k =
      let u = right_parts old (token_shapes (token_of l)) (under_binder vars.number m p) h.2 in (
        refl,
        (keeps_label old rows g (record_label (record_of l)) h.1).named,
        append_parts rows (token_shapes (token_of l)) (under_binder vars.number m q) (token_part rows (token_of l))
            ((vars-kept g vars u.0.0, (refl, (keeps_label old rows g (record_label m) u.0.1.1).named, k)), tt),
      )

  -- its parts' walk is its own
  walks-bare : {M E : Type 0} {H : Hooks M E} {s s' : M} (old rows : List Row) → Grows old rows → (q : Parts) (f : Form L) → IsPartOf old (bare_shape sort record_of token_of f)
      → WalksUnder H (binder_in old (form_binder f)) s (trees_in old (parts_shapes (form_parts f))) (trees_in rows (parts_shapes q)) s'
      → Walks H s (tree_in old (bare_shape sort record_of token_of f)) (tree_in rows (bare_shape sort record_of token_of (refilled q f))) s'
  unfolding fill
  walks-bare old rows g q (param i name) h (in_open w) =
      rw (walks_nothing w, (keeps_label old rows g (record_label (bare_param_record sort i name)) h.1).same) (at_node done (λ h. h))
  walks-bare old rows g q (bound d e) h (in_open w) =
      rw (walks_nothing w, (keeps_label old rows g (record_label (bare_bound_record sort (index_of d) e)) h.1).same) (at_node done (λ h. h))
  walks-bare old rows g q (plain l p) h (in_open w) =
      rw (
        (keeps_label old rows g (record_label (record_of l)) h.1).same,
        append_trees old (token_shapes (token_of l)) (parts_shapes p),
        append_trees rows (token_shapes (token_of l)) (parts_shapes q),
      ) (at_node (WalksAll-append (token_walks old rows (token_of l)) w) (λ h. h))
  walks-bare old rows g q (under l vars m p) h (in_binder enter w leave) =
      let u = right_parts old (token_shapes (token_of l)) (under_binder vars.number m p) h.2 in
      rw (
        (keeps_label old rows g (record_label (record_of l)) h.1).same,
        append_trees old (token_shapes (token_of l)) (under_binder vars.number m p),
        append_trees rows (token_shapes (token_of l)) (under_binder vars.number m q),
        (keeps_label old rows g (record_label m) u.0.1.1).same,
        vars-grow g vars u.0.0,
      ) (at_node (WalksAll-append (token_walks old rows (token_of l)) (WalksAll-one (at_binder enter (at_node w (λ h. h)) leave))) (λ h. h))

  fails-bare : {M E : Type 0} {H : Hooks M E} {errors : Errors E} {s s1 : M} {e : E} (rows : List Row) (f : Form L)
      → FailsUnder H errors (binder_in rows (form_binder f)) s (trees_in rows (parts_shapes (form_parts f))) e s1
      → Fails H errors s (tree_in rows (bare_shape sort record_of token_of f)) e s1
  unfolding fill
  fails-bare rows (param i name) (in_open_failed w) = node_failed w
  fails-bare rows (bound d e) (in_open_failed w) = node_failed w
  fails-bare rows (plain l p) (in_open_failed w) =
      rw (append_trees rows (token_shapes (token_of l)) (parts_shapes p)) (node_failed (FailsAll-append (token_walks rows rows (token_of l)) (λ h. h) w))
  fails-bare rows (under l vars m p) (in_enter_failed h) =
      rw (append_trees rows (token_shapes (token_of l)) (under_binder vars.number m p)) (node_failed (FailsAll-append (token_walks rows rows (token_of l)) (λ h. h) (here (enter_failed h))))
  fails-bare rows (under l vars m p) (in_under_failed enter h) =
      rw (append_trees rows (token_shapes (token_of l)) (under_binder vars.number m p))
      (node_failed (FailsAll-append (token_walks rows rows (token_of l)) (λ h. h) (here (under_failed enter (node_failed h)))))
  fails-bare rows (under l vars m p) (in_leave_failed enter w h) =
      rw (append_trees rows (token_shapes (token_of l)) (under_binder vars.number m p))
      (node_failed (FailsAll-append (token_walks rows rows (token_of l)) (λ h. h) (here (leave_failed enter (at_node w (λ h. h)) h))))

  -- the fold of the parts is the fold of the kind
  module _ {M E S : Type 0} {owned : List Row → S → Type 0} {means : List Row → S → M} {H : Hooks (Standing M) E} {errors : Errors E} {T : Type 0} (of : T → Form L) where
    -- if the fold of a kind's children under its binder fails, so does the fold of the kind's plain node
    pub bare_fails : {terms terms1 : Terms} {s s1 : S} {x : T} {e : E}
        → Folds owned means (ArePartsFor (form_parts (of x))) parts_trees
        (WalksUnder H (binder_in terms.rows (form_binder (of x)))) (FailsUnder H errors (binder_in terms.rows (form_binder (of x))))
        terms s (form_parts (of x)) (Err e) terms1 s1
        → Folds owned means (IsPartBy (λ x. bare_shape sort record_of token_of (of x))) (tree_by (λ x. bare_shape sort record_of token_of (of x)))
        (Walks H) (Fails H errors) terms s x (Err e) terms1 s1
    bare_fails {terms} {x} d = record { extends = d.extends; is_owned = d.is_owned; outcome = fails-bare terms.rows (of x) d.outcome }

    -- if a kind's children are folded under its binder, the plain node is folded to the kind with the new children
    pub bare_folds : {terms terms1 : Terms} {s s1 : S} {x y : T} {q : Parts} → IsPartOf terms.rows (bare_shape sort record_of token_of (of x)) → of y ≡ refilled q (of x)
        → Folds owned means (ArePartsFor (form_parts (of x))) parts_trees
        (WalksUnder H (binder_in terms.rows (form_binder (of x)))) (FailsUnder H errors (binder_in terms.rows (form_binder (of x))))
        terms s (form_parts (of x)) (Ok q) terms1 s1
        → Folds owned means (IsPartBy (λ x. bare_shape sort record_of token_of (of x))) (tree_by (λ x. bare_shape sort record_of token_of (of x)))
        (Walks H) (Fails H errors) terms s x (Ok y) terms1 s1
    bare_folds {terms} {terms1} {x} {q} part same d =
        let o = d.outcome in
        record {
          extends = d.extends;
          is_owned = d.is_owned;
          outcome = (
            rw same (bare-refilled terms.rows terms1.rows d.extends.rows q (of x) part o.0.owned),
            rw same (walks-bare terms.rows terms1.rows d.extends.rows q (of x) part o.1),
          );
        }

-- a token by itself
module _ {M E S : Type 0} {owned : List Row → S → Type 0} {means : List Row → S → M} {H : Hooks (Standing M) E} {errors : Errors E} where
  -- an error token is folded to itself
  pub token_folds : {terms : Terms} {s : S} (error : ErrorGuaranteed) → owned terms.rows s
      → Folds owned means (IsPartBy (λ error. token_shape error.0)) (tree_by (λ error. token_shape error.0)) (Walks H) (Fails H errors) terms s error (Ok error) terms s
  unfolding fill
  token_folds {terms} error o = record { extends = Extends-refl terms; is_owned = o; outcome = ((refl, tt, tt), at_node done (λ h. h)) }

-- a value with its type, as a kind of constants
abbrev pub value_in : ValueConst → Form ConstLabel
value_in v = value_form v.ty v.valtree.kind
