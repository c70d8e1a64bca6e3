-- The texts of kinds by themselves, and of predicates that are the contents of a clause.
use Rattle.std.proofs.Common.{◌≡◌, ℕ, refl, ap, sym}
use Rattle.std.proofs.lemmas.List.{append-nil}
use Rattle.tt_kinds.specs.Label.{Name, Sort, type_sort, const_sort, Entry, record_label, bare_bound_record}
use Rattle.tt_kinds.specs.Label.{projection_record, const_label, bare_const_record, error_of_const}
use Rattle.tt_kinds.specs.Tree as tree
use Rattle.tt_kinds.specs.Tree.{Depth, at, canonical}
use Rattle.tt_kinds.specs.Bound.{depth, ty_entry, const_entry}
use Rattle.tt_kinds.specs.Shape as shape
use Rattle.tt_kinds.specs.Shape.{Meaning, Shape, Shapes, fill, fill_all, name_of, rename_entry}
use Rattle.tt_kinds.specs.Kinds.{args_shape, child_shapes, clause_form, form_shape, kind_shape, record_shape}
use Rattle.tt_kinds.specs.Kinds.{relabelled, term_kind_shape, value_form}
use Rattle.tt_kinds.specs.Parts.{term_kind_child}
use Rattle.tt_kinds.specs.Bare.{bare_const_shape, bare_shape, bare_ty_shape, index_of}
use Rattle.tt_kinds.specs.Handle.{Ty}
use Rattle.tt_kinds.specs.Values.{projection_shape}
use Rattle.tt_kinds.specs.declared.const_kind.ConstKind.{ConstKind}
use Rattle.tt_kinds.specs.declared.const_kind.ConstKind.TheVariants as const
use Rattle.tt_kinds.specs.declared.const_kind.ValTreeKind.{ValTreeKind}
use Rattle.tt_kinds.specs.declared.const_kind.ValTreeKind.TheVariants as valtree
use Rattle.tt_kinds.specs.declared.parts.Kind.TheVariants as kind
use Rattle.tt_kinds.specs.declared.predicate.ProjectionPredicate.{ProjectionPredicate}
use Rattle.tt_kinds.specs.declared.predicate_kind.ClauseKind.TheVariants as clause
use Rattle.tt_kinds.specs.declared.term.TermKind.{TermKind}
use Rattle.tt_kinds.specs.declared.term.TermKind.TheVariants as term
use Rattle.tt_kinds.specs.declared.ty_kind.TyKind.{TyKind}
use Rattle.tt_kinds.specs.declared.ty_kind.TyKind.TheVariants as ty
use Rattle.tt_print.specs.Text.{text, head_text, bound_head}
use Rattle.tt_print.proofs.PrintLaws.{name-text}

module _ (item_name : ℕ → Name) where
  bound-alone : (s : Sort) (d : Depth) (e : Entry Name)
      → head_text item_name (bound_head s d e.var) ≡ text item_name (tree.node (record_label (bare_bound_record s (index_of d) e)) tree.none)
  bound-alone s (at n) e = sym (append-nil (head_text item_name (bound_head s (at n) e.var)))
  bound-alone s canonical e = sym (append-nil (head_text item_name (bound_head s canonical e.var)))

  module _ (f : Meaning) where
    -- a type's kind by itself has the text of the stored type
    pub ty-alone : (k : TyKind) → text item_name (fill f (kind_shape (kind.Ty k))) ≡ text item_name (fill f (bare_ty_shape k))
    unfolding fill fill_all
    ty-alone (ty.Param p) = name-text item_name f (name_of f p.name.number)
    ty-alone (ty.Bound i b) = bound-alone type_sort (depth i) (rename_entry (name_of f) (ty_entry b))
    ty-alone _ = refl

    value-alone : (t : Ty) (v : ValTreeKind)
        → text item_name (fill f (form_shape const_sort (relabelled const_label (value_form t v))))
        ≡ text item_name (fill f (bare_shape const_sort bare_const_record error_of_const (value_form t v)))
    unfolding fill fill_all
    value-alone t (valtree.Leaf s) = refl
    value-alone t (valtree.Branch cs) = refl

    -- a constant's kind by itself has the text of the stored constant
    pub const-alone : (k : ConstKind) → text item_name (fill f (kind_shape (kind.Const k))) ≡ text item_name (fill f (bare_const_shape k))
    unfolding fill fill_all
    const-alone (const.Param p) = name-text item_name f (name_of f p.name.number)
    const-alone (const.Bound i b) = bound-alone const_sort (depth i) (rename_entry (name_of f) (const_entry b))
    const-alone (const.Value v) = value-alone v.ty v.valtree.kind
    const-alone _ = refl

term-alone : (k : TermKind) → child_shapes (term_kind_child k) ≡ shape.also (term_kind_shape k) shape.none
term-alone (term.Ty t) = refl
term-alone (term.Const c) = refl

-- a projection predicate by itself is the contents of a clause
pub projection-alone : (p : ProjectionPredicate) → record_shape (clause_form (clause.Projection p)) ≡ projection_shape p
projection-alone p =
    ap (λ (us : Shapes). shape.node (record_label (projection_record p.projection_term.def_id.number)) (shape.also (args_shape p.projection_term.args) us)) (term-alone p.term.kind)
