-- The shapes of kinds of types, constants and patterns that aren't stored, and of the tokens of errors.
use Rattle.std.specs.Prelude.{ℕ, Option, Some, None}
use Rattle.tt_kinds.specs.Label.{Sort, type_sort, const_sort, RecordLabel, bare_param_record, bare_bound_record}
use Rattle.tt_kinds.specs.Label.{bare_type_record, bare_const_record, bare_pattern_record, record_label, error_label}
use Rattle.tt_kinds.specs.Label.{error_of_type, error_of_const, leaf_const, branch_const}
use Rattle.tt_kinds.specs.Tree.{Depth, at, canonical}
use Rattle.tt_kinds.specs.Shape as shape
use Rattle.tt_kinds.specs.Shape.{Shape, Shapes, append}
use Rattle.tt_kinds.specs.Kinds.{Form, param, bound, plain, under, ty_form, const_form, pattern_form, RecordForm}
use Rattle.tt_kinds.specs.Kinds.{labelled, record_shape, parts_shapes, consts_shape}
use Rattle.tt_kinds.specs.Values.{one_record}
use Rattle.tt_kinds.specs.declared.pattern.PatternKind.{PatternKind}
use Rattle.tt_kinds.specs.declared.ty_kind.TyKind.{TyKind}
use Rattle.tt_kinds.specs.declared.const_kind.ConstKind.{ConstKind}
use Rattle.tt_kinds.specs.declared.const_kind.ConstKind.TheVariants as const
use Rattle.tt_kinds.specs.declared.const_kind.UnevaluatedConst.{UnevaluatedConst}
use Rattle.tt_kinds.specs.declared.const_kind.ExprConst.{ExprConst}
use Rattle.tt_kinds.specs.declared.const_kind.ValueConst.{ValueConst}
use Rattle.tt_kinds.specs.declared.const_kind.ValTree.{ValTree}
use Rattle.tt_kinds.specs.declared.const_kind.ValTreeKind.{ValTreeKind}
use Rattle.tt_kinds.specs.declared.const_kind.ValTreeKind.TheVariants as valtree

-- the token of this error
abbrev pub token_shape : ℕ → Shape
token_shape e = shape.node (error_label e) shape.none

-- the token of this error, if there is one
abbrev pub token_shapes : Option ℕ → Shapes
token_shapes None = shape.none
token_shapes (Some e) = shape.also (token_shape e) shape.none

-- the index of a variable, or None for a canonical variable
abbrev pub index_of : Depth → Option ℕ
index_of (at d) = Some d
index_of canonical = None

module _ {L : Type 0} (s : Sort) (record_of : L → RecordLabel ℕ) (token_of : L → Option ℕ) where
  -- the kind as a node: the label has a parameter or a variable as data, and the token of an error is the first child
  abbrev pub bare_shape : Form L → Shape
  bare_shape (param i name) = shape.node (record_label (bare_param_record s i name)) shape.none
  bare_shape (bound d e) = shape.node (record_label (bare_bound_record s (index_of d) e)) shape.none
  bare_shape (plain l p) = shape.node (record_label (record_of l)) (append (token_shapes (token_of l)) (parts_shapes p))
  bare_shape (under l vars m p) = shape.node (record_label (record_of l))
      (append (token_shapes (token_of l)) (shape.also (shape.binder vars.number
      (shape.node (record_label m) (parts_shapes p))) shape.none))

-- a type's kind
abbrev pub bare_ty_shape : TyKind → Shape
bare_ty_shape k = bare_shape type_sort bare_type_record error_of_type (ty_form k)

-- a constant's kind
abbrev pub bare_const_shape : ConstKind → Shape
bare_const_shape k = bare_shape const_sort bare_const_record error_of_const (const_form k)

-- a pattern's kind as a record of its parts
abbrev pub bare_pattern_form : PatternKind → RecordForm
bare_pattern_form k = labelled (bare_pattern_record (pattern_form k).label) (pattern_form k).parts

-- a pattern's kind
abbrev pub bare_pattern_shape : PatternKind → Shape
bare_pattern_shape k = record_shape (bare_pattern_form k)

-- a constant that isn't computed yet, as a kind that isn't stored
abbrev pub unevaluated_shape : UnevaluatedConst → Shape
unevaluated_shape u = bare_const_shape (const.Unevaluated u)

-- an expression over constants, as a kind that isn't stored
abbrev pub expression_shape : ExprConst → Shape
expression_shape e = bare_const_shape (const.Expr e)

-- a value with its type, as a kind that isn't stored
abbrev pub value_shape : ValueConst → Shape
value_shape v = bare_const_shape (const.Value v)

-- the kind of a value, without its type
abbrev pub valtree_kind_shape : ValTreeKind → Shape
valtree_kind_shape (valtree.Leaf s) = shape.node (record_label (bare_const_record (leaf_const s.bits s.size)))
    shape.none
valtree_kind_shape (valtree.Branch cs) = one_record (bare_const_record branch_const) (consts_shape cs)

-- a value without its type
abbrev pub valtree_shape : ValTree → Shape
valtree_shape v = valtree_kind_shape v.kind
