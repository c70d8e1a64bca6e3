-- The contents of a kind are in range exactly where they are in the kind as a value by itself.
use Rattle.std.proofs.Common.{ℕ, Option, Some, None, refl}
use Rattle.tt_kinds.specs.Label.{Sort, type_sort, const_sort, RecordLabel, Label, type_label, const_label, record_label}
use Rattle.tt_kinds.specs.Label.{bare_type_record, bare_const_record, error_of_type, error_of_const}
use Rattle.tt_kinds.specs.Shape.{Shapes, Sizes, IsPart, AreParts, HasParts, IsNamedLabel, append}
use Rattle.tt_kinds.specs.Kinds.{Form, param, bound, plain, under, relabelled, form_shape, parts_shapes, ty_form}
use Rattle.tt_kinds.specs.Kinds.{const_form, ty_kind_shape, const_kind_shape}
use Rattle.tt_kinds.specs.Bare.{token_shapes, bare_shape, bare_ty_shape, bare_const_shape}
use Rattle.tt_kinds.specs.declared.ty_kind.TyKind.{TyKind}
use Rattle.tt_kinds.specs.declared.const_kind.ConstKind.{ConstKind}

-- the token of an error is in range
with-token : (size : Sizes) (o : Option ℕ) (ss : Shapes) → AreParts size ss → AreParts size (append (token_shapes o) ss)
with-token size None ss h = h
with-token size (Some e) ss h = ((refl, tt, tt), h)

without-token : (size : Sizes) (o : Option ℕ) (ss : Shapes) → AreParts size (append (token_shapes o) ss) → AreParts size ss
without-token size None ss h = h
without-token size (Some e) ss h = h.1

-- a kind of one table: the labels of its rows and of its plain nodes, and what tells of an error
module _ {L : Type 0} (sort : Sort) (label : L → Label ℕ) (record_of : L → RecordLabel ℕ) (token_of : L → Option ℕ)
    (named : (size : Sizes) (l : L) → IsNamedLabel size (label l)) (named_record : (size : Sizes) (l : L) → IsNamedLabel size (record_label (record_of l))) where
  form-bare : (size : Sizes) (x : Form L) → HasParts size (form_shape sort (relabelled label x)) → IsPart size (bare_shape sort record_of token_of x)
  form-bare size (param i name) h = (refl, h, tt)
  form-bare size (bound d e) h = (refl, h, tt)
  form-bare size (plain l p) h = (refl, named_record size l, with-token size (token_of l) (parts_shapes p) h.1)
  form-bare size (under l vars m p) h = (refl, named_record size l, with-token size (token_of l) _ h.1)

  form-parts : (size : Sizes) (x : Form L) → IsPart size (bare_shape sort record_of token_of x) → HasParts size (form_shape sort (relabelled label x))
  form-parts size (param i name) h = h.1
  form-parts size (bound d e) h = h.1
  form-parts size (plain l p) h = (named size l, without-token size (token_of l) (parts_shapes p) h.2)
  form-parts size (under l vars m p) h = (named size l, without-token size (token_of l) _ h.2)

-- the kinds of types
pub ty-bare : (size : Sizes) (k : TyKind) → HasParts size (ty_kind_shape k) → IsPart size (bare_ty_shape k)
ty-bare size k h = form-bare type_sort type_label bare_type_record error_of_type (λ size l. tt) (λ size l. tt) size (ty_form k) h

-- what a type's kind holds is in range, if it is in range in the kind as a value by itself
pub ty-parts : (size : Sizes) (k : TyKind) → IsPart size (bare_ty_shape k) → HasParts size (ty_kind_shape k)
ty-parts size k h = form-parts type_sort type_label bare_type_record error_of_type (λ size l. tt) (λ size l. tt) size (ty_form k) h

-- the kinds of constants
pub const-bare : (size : Sizes) (k : ConstKind) → HasParts size (const_kind_shape k) → IsPart size (bare_const_shape k)
const-bare size k h = form-bare const_sort const_label bare_const_record error_of_const (λ size l. tt) (λ size l. tt) size (const_form k) h

-- what a constant's kind holds is in range, if it is in range in the kind as a value by itself
pub const-parts : (size : Sizes) (k : ConstKind) → IsPart size (bare_const_shape k) → HasParts size (const_kind_shape k)
const-parts size k h = form-parts const_sort const_label bare_const_record error_of_const (λ size l. tt) (λ size l. tt) size (const_form k) h
