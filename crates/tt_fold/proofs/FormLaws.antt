-- Kinds by their forms.
use Rattle.std.proofs.Common.{true, false, All, [], slice_get, ◌≡◌, ℕ, List, Some, None, refl, ap, sym}
use Rattle.std.proofs.lemmas.Option.{slice_get_within, get_or_from_slice_get}
use Rattle.tt_kinds.specs.Label.{Name, Sort, Label, type_label, const_label, text_label, record_label}
use Rattle.tt_kinds.specs.Tree as tree
use Rattle.tt_kinds.specs.Tree.{Depth, Tree}
use Rattle.tt_kinds.specs.Shape as shape
use Rattle.tt_kinds.specs.Shape.{Sizes, HasParts, IsTooDeep, fill, name_of, rename_label, IsNamedLabel}
use Rattle.tt_kinds.specs.Kinds.{Form, param, bound, plain, under, form_parts, form_binder, refilled, relabelled}
use Rattle.tt_kinds.specs.Kinds.{form_shape, kind_form, ty_form, const_form, parts_shapes}
use Rattle.tt_kinds.specs.declared.parts.Child.{Child}
use Rattle.tt_kinds.specs.declared.parts.Child.TheVariants as child
use Rattle.tt_kinds.specs.declared.parts.Kind.{Kind}
use Rattle.tt_kinds.specs.declared.parts.Kind.TheVariants as kind
use Rattle.tt_kinds.specs.declared.parts.Parts.{Parts}
use Rattle.tt_interner.specs.Rows.{Row, size, meaning, Grows}
use Rattle.tt_interner.proofs.Growth.{HasParts-grows, row-grows}
use Rattle.tt_fold.specs.Parts.{HoldsAny, IsInner, IsChildless, ArePartsOf, HasBinder}

-- the label means the same among more rows, and its names are theirs
pub record KeepsLabel (old new : List Row) (l : Label ℕ) : Type 0 where
  pub same : rename_label (name_of (meaning old)) l ≡ rename_label (name_of (meaning new)) l
  pub named : IsNamedLabel (size new) l

-- the same of a form's labels
abbrev pub KeepsLabels : List Row → List Row → Form (Label ℕ) → Type 0
KeepsLabels old new (param i name) = Unit {0}
KeepsLabels old new (bound d e) = Unit {0}
KeepsLabels old new (plain l p) = KeepsLabel old new l
KeepsLabels old new (under l vars m p) = KeepsLabel old new l × KeepsLabel old new (record_label m)

root_label : Tree Depth → Label Name
root_label (tree.term l ts) = l
root_label _ = text_label []

label_alone : (size : Sizes) (l : Label ℕ) → IsNamedLabel size l → HasParts size (shape.term l shape.none)
label_alone size l h = (h, tt)

-- when rows are added, a label whose names are in range keeps its meaning, and the names are still in range
pub keeps_label : (old new : List Row) → Grows old new → (l : Label ℕ) → IsNamedLabel (size old) l → KeepsLabel old new l
unfolding fill root_label
keeps_label old new g l h = record {
  same = ap root_label (sym (row-grows old new g (shape.term l shape.none) (label_alone (size old) l h)));
  named = (HasParts-grows old new g (shape.term l shape.none) (label_alone (size old) l h)).0;
}

-- when rows are added, the labels of a form in range keep their meaning, and their names are still in range
pub form-labels : (old new : List Row) → Grows old new → (s : Sort) (f : Form (Label ℕ)) → HasParts (size old) (form_shape s f) → KeepsLabels old new f
form-labels old new g s (param i name) h = tt
form-labels old new g s (bound d e) h = tt
form-labels old new g s (plain l p) h = keeps_label old new g l h.0
form-labels old new g s (under l vars m p) h = (keeps_label old new g l h.0, keeps_label old new g (record_label m) h.1.0.1.1)

inner : {L : Type 0} (label : L → Label ℕ) → ((l : L) → HoldsAny (label l)) → (f : Form L)
    → ((form_binder (relabelled label f) ≡ None) → ((form_parts (relabelled label f)).first ≡ child.Absent) → ((form_parts (relabelled label f)).second ≡ child.Absent) → ⊥)
    → IsInner (relabelled label f)
inner label any (param i name) h = absurd (h refl refl refl)
inner label any (bound d e) h = absurd (h refl refl refl)
inner label any (plain l p) h = any l
inner label any (under l vars m p) h = any l

-- a kind with a child or a binder is no parameter and no variable, and any trees may come of its children
pub is_inner : (k : Kind) → (IsChildless (form_binder (kind_form k)) (form_parts (kind_form k)) → false ≡ true) → IsInner (kind_form k)
is_inner (kind.Ty k) h =
    inner type_label (λ l name. refl) (ty_form k) (λ b p q. let no : false ≡ true = h (record { binder = b; first = p; second = q }) in absurd (cc))
is_inner (kind.Const k) h =
    inner const_label (λ l name. refl) (const_form k) (λ b p q. let no : false ≡ true = h (record { binder = b; first = p; second = q }) in absurd (cc))
is_inner (kind.Pat k) h = λ name. refl
is_inner (kind.Predicate b) h = λ name. refl
is_inner (kind.Existential b) h = λ name. refl

-- a form with children is no bound variable
pub not-deep : (s : Sort) (q : Parts) (f : Form (Label ℕ)) → IsInner f → IsTooDeep (form_shape s (refilled q f)) → ⊥
not-deep s q (param i name) is h = absurd is
not-deep s q (bound d e) is h = absurd is
not-deep s q (plain l p) is h = h
not-deep s q (under l vars m p) is h = h

-- the parts of a kind in range
pub form-parts : (rows : List Row) (s : Sort) (f : Form (Label ℕ)) → HasParts (size rows) (form_shape s f) → ArePartsOf rows (parts_shapes (form_parts f))
form-parts rows s (param i name) h = tt
form-parts rows s (bound d e) h = tt
form-parts rows s (plain l p) h = h.1
form-parts rows s (under l vars m p) h = h.1.0.1.2

-- if the handles in a form name rows, so does the list of its binder's variables, if there is one
pub form-binder : (rows : List Row) (s : Sort) (f : Form (Label ℕ)) → HasParts (size rows) (form_shape s f) → HasBinder rows (form_binder f)
form-binder rows s (param i name) h = tt
form-binder rows s (bound d e) h = tt
form-binder rows s (plain l p) h = tt
form-binder rows s (under l vars m p) h = h.1.0.0

-- the items of a list
pub item-fits : (P : Child → Type 0) (list : List Child) (n : ℕ) (x : Child) → slice_get list n ≡ Some x → All P list → P x
item-fits P list n x e h = let fit = h n x (slice_get_within list n x e) in rw (get_or_from_slice_get list n x x e) at fit
