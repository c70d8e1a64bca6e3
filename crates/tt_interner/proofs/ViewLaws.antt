-- No part of a list stands in what a row holds.
use Rattle.std.proofs.Common.{ℕ, List, [], ◌∷◌, Option, Some, None}
use Rattle.tt_kinds.specs.declared.generic_arg.GenericArgKind.{GenericArgKind}
use Rattle.tt_kinds.specs.declared.generic_arg.GenericArgKind.TheVariants as arg
use Rattle.tt_kinds.specs.declared.parts.Child.{Child}
use Rattle.tt_kinds.specs.declared.parts.Child.TheVariants as child
use Rattle.tt_kinds.specs.declared.parts.Parts.{Parts}
use Rattle.tt_kinds.specs.declared.region_kind.RegionKind.{RegionKind}
use Rattle.tt_kinds.specs.declared.region_kind.RegionKind.TheVariants.{ReEarlyParam, ReBound, ReLateParam, ReStatic}
use Rattle.tt_kinds.specs.declared.region_kind.RegionKind.TheVariants.{ReVar, RePlaceholder, ReErased, ReError}
use Rattle.tt_kinds.specs.Label.{Sort, type_sort, const_sort, Label, type_label, const_label}
use Rattle.tt_kinds.specs.Kinds.{Form, param, bound, plain, under, relabelled, form_shape, ty_form, const_form}
use Rattle.tt_kinds.specs.Kinds.{pattern_form, predicate_form, existential_form, region_shape, ty_shape, const_shape}
use Rattle.tt_kinds.specs.Kinds.{pat_shape, existential_shape, clause_shape, arg_shape, child_shapes, parts_shapes}
use Rattle.tt_kinds.specs.Shape.{Shape, Shapes, none, also, append, item_shapes}
use Rattle.tt_kinds.specs.Variant.{Variant}
use Rattle.tt_kinds.specs.Handle.{Symbol}
use Rattle.tt_kinds.specs.Values.{assumption_shape, symbol_shape, option_shape, field_def_shape, variant_shape}
use Rattle.tt_kinds.proofs.ValueLaws.{declared_by}
use Rattle.tt_interner.specs.Rows.{Row, type_row, const_row, pat_row, predicate_row, existential_row, clauses_row}
use Rattle.tt_interner.specs.Rows.{tys_row, consts_row, args_row, pats_row, vars_row, existentials_row, assumptions_row}
use Rattle.tt_interner.specs.Rows.{text_row, declared_row, defined_row, row_shape}
use Rattle.tt_interner.proofs.Fill.{HasNoView, HaveNoViews}

region_no_view : (r : RegionKind) → HasNoView (region_shape r)
region_no_view (ReEarlyParam p) = tt
region_no_view (ReBound i b) = tt
region_no_view (ReLateParam p) = tt
region_no_view ReStatic = tt
region_no_view (ReVar v) = tt
region_no_view (RePlaceholder p) = tt
region_no_view ReErased = tt
region_no_view (ReError e) = tt

arg_no_view : (a : GenericArgKind) → HasNoView (arg_shape a)
arg_no_view (arg.Lifetime r) = region_no_view r
arg_no_view (arg.«Type» t) = tt
arg_no_view (arg.Const c) = tt

child_no_views : (c : Child) → HaveNoViews (child_shapes c)
child_no_views child.Absent = tt
child_no_views (child.Region r) = (region_no_view r, tt)
child_no_views (child.Stored r) = (tt, tt)

append_no_views : (ss us : Shapes) → HaveNoViews ss → HaveNoViews us → HaveNoViews (append ss us)
append_no_views none us h k = k
append_no_views (also s ss) us h k = (h.0, append_no_views ss us h.1 k)

parts_no_views : (p : Parts) → HaveNoViews (parts_shapes p)
parts_no_views p = append_no_views (child_shapes p.first) (child_shapes p.second) (child_no_views p.first) (child_no_views p.second)

items_no_views : {T : Type 0} (of : T → Shape) → ((x : T) → HasNoView (of x)) → (xs : List T) → HaveNoViews (item_shapes of xs)
items_no_views of each [] = tt
items_no_views of each (x ∷ xs) = (each x, items_no_views of each xs)

form_no_view : (s : Sort) (k : Form (Label ℕ)) → HasNoView (form_shape s k)
form_no_view s (param i name) = tt
form_no_view s (bound d e) = tt
form_no_view s (plain l p) = parts_no_views p
form_no_view s (under l vars m p) = (parts_no_views p, tt)

name_no_view : (n : Option Symbol) → HasNoView (option_shape symbol_shape n)
name_no_view None = tt
name_no_view (Some x) = (tt, tt)

variant_no_view : (v : Variant) → HasNoView (variant_shape v)
variant_no_view v = (name_no_view v.name, (items_no_views field_def_shape (λ f. (tt, (tt, tt))) v.fields, tt))

-- what a row holds is handles and data
pub row_no_view : (r : Row) → HasNoView (row_shape r)
row_no_view (type_row k) = form_no_view type_sort (relabelled type_label (ty_form k))
row_no_view (const_row k) = form_no_view const_sort (relabelled const_label (const_form k))
row_no_view (pat_row k) = parts_no_views (pattern_form k).parts
row_no_view (predicate_row b) = (parts_no_views (predicate_form b.value).parts, tt)
row_no_view (existential_row b) = (parts_no_views (existential_form b.value).parts, tt)
row_no_view (clauses_row cs) = items_no_views clause_shape (λ c. tt) cs
row_no_view (tys_row ts) = items_no_views ty_shape (λ t. tt) ts
row_no_view (consts_row cs) = items_no_views const_shape (λ c. tt) cs
row_no_view (args_row args) = items_no_views arg_shape arg_no_view args
row_no_view (pats_row ps) = items_no_views pat_shape (λ p. tt) ps
row_no_view (vars_row vs) = tt
row_no_view (existentials_row ps) = items_no_views existential_shape (λ p. tt) ps
row_no_view (assumptions_row ps) = items_no_views assumption_shape (λ p. (arg_no_view p.0, (region_no_view p.1, tt))) ps
row_no_view (text_row bytes) = tt
row_no_view (declared_row n d) = declared_by HaveNoViews tt (λ vars tys. (tt, (tt, tt))) d.kind
row_no_view (defined_row n vs) = items_no_views variant_shape variant_no_view vs
