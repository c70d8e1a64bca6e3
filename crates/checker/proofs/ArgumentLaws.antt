-- Arguments that were read, and the types among them.
use Rattle.std.proofs.Common.{◌≡◌, refl, ℕ, zero, suc, ◌<◌, ◌≤◌, List, [], ◌∷◌, length, Some, true, ap, sym, subst, ◌∙◌}
use Rattle.std.proofs.Common.{arith, inl, inr}
use Rattle.std.specs.Prelude.{◌↔◌, Bool, IsTrue, false, is_some, option_map, slice_get}
use Rattle.std.proofs.lemmas.Option.{slice_get-map, slice_get_within}
use Rattle.tt_flags.specs.TypeFlags.{has_infer}
use Rattle.tt_kinds.specs.Argument.{Argument}
use Rattle.tt_kinds.specs.GenericArg.{type_of}
use Rattle.tt_kinds.specs.Handle.{GenericArgs, Ty}
use Rattle.tt_kinds.specs.Kinds.{arg_shape, args_shape, ty_shape}
use Rattle.tt_kinds.specs.Label.{Name, adt_type, flags_of_label, list_label, type_label, type_sort}
use Rattle.tt_kinds.specs.Scan.{scan, scan_all}
use Rattle.tt_kinds.specs.Shape.{fill, fill_all, item_shapes}
use Rattle.tt_kinds.specs.Tree.{Depth, Tree, also, node, none, term}
use Rattle.tt_kinds.specs.declared.generic_arg.GenericArgKind.{GenericArgKind}
use Rattle.tt_kinds.specs.declared.generic_arg.GenericArgKind.TheVariants as arg
use Rattle.tt_kinds.specs.declared.table.Table.TheVariants.{ArgLists, Types}
use Rattle.tt_kinds.specs.declared.ty_kind.TyKind.{TyKind}
use Rattle.tt_kinds.specs.declared.ty_kind.TyKind.TheVariants as kind
use Rattle.tt_interner.specs.Reads.{Reads}
use Rattle.tt_interner.specs.Rows.{Row, args_row, meaning, type_row}
use Rattle.tt_interner.specs.Stored.{Terms}
use Rattle.tt_interner.specs.Arguments.{AreArguments, arg_sort, argument_of, arguments, args_at, row_args}
use Rattle.tt_visit.specs.HasTypeFlags.{Meets, Misses}
use Rattle.tt_visit.proofs.HasTypeFlagsLaws.{bits-left, bits-right}
use Rattle.tt_fold.proofs.KeptLaws.{misses}
use Rattle.checker.specs.Items.{AdtId}
use Rattle.checker.specs.Scope.{argument_trees}
use Rattle.checker.specs.TypeTrees.{arguments_of, data_type_of, in_order}
use Rattle.checker.specs.Typing.{AreTypeArguments, IsKnown, values}
use Rattle.checker.proofs.ListLaws.{below_next, found_mapped, length_mapped, same_item}

-- the first arguments are types
abbrev pub AreTypesBelow : List GenericArgKind → ℕ → Type 0
AreTypesBelow args n = (i : ℕ) (x : GenericArgKind) → i < n → slice_get args i ≡ Some x → arg_sort x ≡ type_sort

-- an argument that is a type has the sort of types
type_sorted : (x : GenericArgKind) → is_some (type_of x) ≡ true → arg_sort x ≡ type_sort
type_sorted (arg.Lifetime r) is = absurd (cc)
type_sorted (arg.«Type» t) is = refl
type_sorted (arg.Const c) is = absurd (cc)

-- and so with one more
pub types_next : (args : List GenericArgKind) (n : ℕ) (x : GenericArgKind) → AreTypesBelow args n → slice_get args n ≡ Some x
    → is_some (type_of x) ≡ true → AreTypesBelow args (suc n)
types_next args n x below at is i y less there =
    elim (below_next i n less) [
      | inl older ↦ below i y older there
      | inr same ↦ (let this : x ≡ y = let p = ap (slice_get args) same in cc in ap arg_sort (sym this) ∙ type_sorted x is)
    ]

-- the trees of arguments, in order
values_in_order : (rows : List Row) (args : List GenericArgKind)
    → fill_all (meaning rows) (item_shapes arg_shape args) ≡ in_order (values (arguments rows args))
unfolding fill
values_in_order rows [] = refl
values_in_order rows (x ∷ args) = let rest = values_in_order rows args in cc

-- a type is known, where a test for inference variables answers no
pub unflagged_known : (t : Tree Depth) (found : Bool) → IsTrue found ↔ Meets has_infer (scan t) → found ≡ false → IsKnown t
unflagged_known t found exact none_found = misses has_infer (scan t) found exact none_found

-- trees among others without inference variables have none
known_in_order : (ts : List (Tree Depth)) (i : ℕ) (t : Tree Depth) → Misses has_infer (scan_all (in_order ts)) → slice_get ts i ≡ Some t
    → IsKnown t
known_in_order [] i t h at = absurd (cc)
known_in_order (u ∷ ts) zero t h at =
    subst IsKnown (same_item u t at) (bits-left has_infer (scan u) (scan_all (in_order ts)) h)
known_in_order (u ∷ ts) (suc i) t h at = known_in_order ts i t (bits-right has_infer (scan u) (scan_all (in_order ts)) h) at

-- arguments of a list without inference variables have none
arguments_known : (args : List (Argument Depth)) (i : ℕ) (a : Argument Depth) → IsKnown (arguments_of (values args))
    → slice_get args i ≡ Some a → IsKnown a.value
arguments_known args i a h at =
    let value = λ (x : Argument Depth). x.value in
    known_in_order (values args) i a.value
    (bits-right has_infer (flags_of_label {N = Name} (list_label ArgLists)) (scan_all (in_order (values args))) h)
    (slice_get-map value args i ∙ ap (option_map value) at)

module _ (terms : Terms) (args : GenericArgs) (items : List GenericArgKind) (read : Reads terms.rows ArgLists args.number (args_row items)) where
  -- the arguments that were read are those of the list
  pub arguments_read : args_at terms.rows args ≡ items
  arguments_read = ap row_args read.row

  -- their handles name rows
  pub arguments_in_range : AreArguments terms.rows (args_at terms.rows args)
  arguments_in_range = subst (AreArguments terms.rows) (sym arguments_read) read.parts.1

  -- and the list's tree is theirs
  pub arguments_listed : fill (meaning terms.rows) (args_shape args) ≡ arguments_of (values (argument_trees terms args))
  unfolding fill
  arguments_listed =
      let ours = values_in_order terms.rows items ∙ ap (λ xs. in_order (values (arguments terms.rows xs))) (sym arguments_read) in
      read.means ∙ ap (node (list_label ArgLists)) ours

  -- where each of them is a type, and none has inference variables, they are type arguments
  pub are_types : (n count : ℕ) → IsKnown (fill (meaning terms.rows) (args_shape args)) → AreTypesBelow items n → length items ≤ n
      → length items ≡ count → AreTypeArguments (argument_trees terms args) count
  are_types n count known below all counted = record {
    counted = length_mapped (argument_of terms.rows) (args_at terms.rows args) ∙ ap length arguments_read ∙ counted;
    types = λ i a at.
        let found = found_mapped (argument_of terms.rows) (args_at terms.rows args) i a at in
        let there = sym (ap (λ xs. slice_get xs i) arguments_read) ∙ found.1 in
        let within = slice_get_within items i found.0 there in
        ap (λ x. x.sort) (sym found.2) ∙ below i found.0 (omega (arith, within, all)) there;
    known = λ i a at. arguments_known (argument_trees terms args) i a (subst IsKnown arguments_listed known) at;
  }

-- a data type's tree, by its arguments
pub data_type_read : (terms : Terms) (ty : Ty) (id : AdtId) (args : GenericArgs) (read : TyKind)
    → Reads terms.rows Types ty.number (type_row read) → read ≡ kind.Adt id args
    → fill (meaning terms.rows) (args_shape args) ≡ arguments_of (values (argument_trees terms args))
    → fill (meaning terms.rows) (ty_shape ty) ≡ data_type_of id.number (values (argument_trees terms args))
unfolding fill
data_type_read terms ty id args read reads is listed =
    let as_data = subst (λ k. Reads terms.rows Types ty.number (type_row k)) is reads in
    as_data.means ∙ ap (λ (t : Tree Depth). term (type_label (adt_type id.number)) (also t none)) listed
