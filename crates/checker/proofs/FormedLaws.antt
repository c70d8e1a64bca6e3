-- The types that a function's expressions may have, and their marks.
use Rattle.std.proofs.Common.{◌≡◌, refl, ℕ, zero, suc, ◌<◌, ◌≤◌, Bool, true, List, [], ◌∷◌, ◌++◌, length, Some, ap, arith, sym, subst, ◌∙◌}
use Rattle.std.proofs.Common.{inl, inr}
use Rattle.std.specs.Prelude.{IsTrue, slice_get}
use Rattle.std.proofs.lemmas.Option.{slice_get_within}
use Rattle.std.specs.String.{string_bytes}
use Rattle.std.specs.declared.alloc.Global.{Global}
use Rattle.std.specs.declared.string.String.{String}
use Rattle.tt_index.specs.declared.numeric.IntTy.{IntTy}
use Rattle.tt_index.specs.declared.numeric.IntTy.TheVariants.{I32}
use Rattle.tt_index.specs.declared.qualifier.Mutability.{Mutability}
use Rattle.tt_index.specs.declared.qualifier.Mutability.TheVariants.{Not}
use Rattle.tt_kinds.specs.Argument.{Argument}
use Rattle.tt_kinds.specs.GenericArg.{type_of}
use Rattle.tt_kinds.specs.Handle.{GenericArgs, Ty, Tys, handle}
use Rattle.tt_kinds.specs.Kinds.{arg_shape, ty_shape}
use Rattle.tt_kinds.specs.Shape.{fill}
use Rattle.tt_kinds.specs.Tree.{Depth, Tree}
use Rattle.tt_kinds.specs.declared.generic_arg.GenericArgKind.{GenericArgKind}
use Rattle.tt_kinds.specs.declared.generic_arg.GenericArgKind.TheVariants as arg
use Rattle.tt_kinds.specs.declared.region_kind.RegionKind.{RegionKind}
use Rattle.tt_kinds.specs.declared.region_kind.RegionKind.TheVariants.{ReErased}
use Rattle.tt_kinds.specs.declared.table.Table.TheVariants.{ArgLists, Types, TypeLists}
use Rattle.tt_kinds.specs.declared.ty_kind.TyKind.{TyKind}
use Rattle.tt_kinds.specs.declared.ty_kind.TyKind.TheVariants as kind
use Rattle.tt_interner.specs.Arguments.{argument_of, arguments}
use Rattle.tt_interner.specs.Owned.{IsOwned}
use Rattle.tt_interner.specs.Reads.{Reads}
use Rattle.tt_interner.specs.Rows.{args_row, meaning, type_row, tys_row}
use Rattle.tt_interner.specs.Stored.{Terms, Extends}
use Rattle.tt_interner.proofs.Growth.{in_range-grows}
use Rattle.tt_interner.proofs.OwnedLaws.{found_owned, list_still_owned, push_owned}
use Rattle.tt_fold.specs.Steps.{tree_in}
use Rattle.checker_syntax.specs.declared.program.DataType.{DataType}
use Rattle.checker_syntax.specs.declared.program.Function.{Function}
use Rattle.checker_syntax.specs.declared.program.Program.{Program}
use Rattle.checker.specs.Formed.{IsParameter, int, bool, char, text, parameter, data_type, tuple, reference, done, next}
use Rattle.checker.specs.Scope.{AreMarked, AreParameters, IsMarked, IsScope, argument_trees, around, trees}
use Rattle.checker.specs.TypeTrees.{parameter_of, tuple_of}
use Rattle.checker.specs.Typing.{AreFormed, Around, IsFormed, IsInstance, values}
use Rattle.checker.specs.declared.scope.Scope.{Scope}
use Rattle.checker.proofs.ArgumentLaws.{arguments_read}
use Rattle.checker.proofs.ListLaws.{below_next, found_mapped, found_of_pushed, length_mapped, same_item}
use Rattle.checker.proofs.ScopeLaws.{around_stays}
use Rattle.checker.proofs.TreeLaws.{items_in_order, reference_read, tree_stays}

-- the items below a number are so
abbrev pub AllBelow : {T : Type 0} → (T → Type 0) → List T → ℕ → Type 0
AllBelow {T} P xs n = (i : ℕ) (x : T) → i < n → slice_get xs i ≡ Some x → P x

-- and so with one more
pub below_also : {T : Type 0} (P : T → Type 0) (xs : List T) (n : ℕ) (x : T) → AllBelow P xs n → slice_get xs n ≡ Some x → P x
    → AllBelow P xs (suc n)
below_also P xs n x below at is i y less there = elim (below_next i n less) [
  | inl older ↦ below i y older there
  | inr same ↦ (let this : x ≡ y = let p = ap (slice_get xs) same in cc in subst P this is)
]

-- the types are formed, where each of them is
all_formed : (A : Around) (ts : List (Tree Depth)) → ((i : ℕ) (t : Tree Depth) → slice_get ts i ≡ Some t → IsFormed A t) → AreFormed A ts
all_formed A [] each = done
all_formed A (t ∷ ts) each = next (each zero t refl) (all_formed A ts (λ i u at. each (suc i) u at))

-- an argument is a marked type
abbrev pub IsMarkedArgument : List Bool → GenericArgKind → Type 0
IsMarkedArgument marks x = (ty : Ty) × (type_of x ≡ Some ty) × IsMarked marks ty

module _ (terms : Terms) (scope : Scope) (marks : List Bool) (h : AreMarked terms scope marks) where
  -- a marked type is formed
  pub marked_formed : (ty : Ty) → IsMarked marks ty → IsFormed (around terms scope) (tree_in terms.rows (ty_shape ty))
  marked_formed ty is = (h.each ty is).1

  -- so are marked types
  pub types_formed : (types : List Ty) (n : ℕ) → AllBelow (IsMarked marks) types n → length types ≤ n
      → AreFormed (around terms scope) (trees terms.rows types)
  types_formed types n below all = all_formed (around terms scope) (trees terms.rows types) (λ i t at.
      let found = found_mapped (λ (ty : Ty). tree_in terms.rows (ty_shape ty)) types i t at in
      let within = slice_get_within types i found.0 found.1 in
      subst (IsFormed (around terms scope)) found.2
      (marked_formed found.0 (below i found.0 (omega (arith, within, all)) found.1)))

  -- and arguments that are marked types
  argument_formed : (x : GenericArgKind) → IsMarkedArgument marks x → IsFormed (around terms scope) (tree_in terms.rows (arg_shape x))
  argument_formed (arg.Lifetime r) is = let never = is.1 in absurd (cc)
  argument_formed (arg.«Type» t) is =
      marked_formed t (subst (IsMarked marks) (sym (same_item t is.0 is.1)) is.2)
  argument_formed (arg.Const c) is = let never = is.1 in absurd (cc)

  items_formed : (items : List GenericArgKind) (n : ℕ) → AllBelow (IsMarkedArgument marks) items n → length items ≤ n
      → AreFormed (around terms scope) (values (arguments terms.rows items))
  items_formed items n below all = all_formed (around terms scope) (values (arguments terms.rows items)) (λ i t at.
      let of_value = found_mapped (λ (a : Argument Depth). a.value) (arguments terms.rows items) i t at in
      let found = found_mapped (argument_of terms.rows) items i of_value.0 of_value.1 in
      let within = slice_get_within items i found.0 found.1 in
      subst (IsFormed (around terms scope)) (ap (λ (a : Argument Depth). a.value) found.2 ∙ of_value.2)
      (argument_formed found.0 (below i found.0 (omega (arith, within, all)) found.1)))

  pub arguments_formed : (args : GenericArgs) (items : List GenericArgKind) (n : ℕ) → Reads terms.rows ArgLists args.number (args_row items)
      → AllBelow (IsMarkedArgument marks) items n → length items ≤ n → AreFormed (around terms scope) (values (argument_trees terms args))
  arguments_formed args items n read below all =
      subst (λ xs. AreFormed (around terms scope) (values (arguments terms.rows xs))) (sym (arguments_read terms args items read))
      (items_formed items n below all)

module _ (terms : Terms) (scope : Scope) (ty : Ty) (read : TyKind) (reads : Reads terms.rows Types ty.number (type_row read)) where
  -- the type `i32` that was read
  pub int_formed : (i : IntTy) → read ≡ kind.Int i → i ≡ I32 → IsFormed (around terms scope) (tree_in terms.rows (ty_shape ty))
  unfolding fill
  int_formed i is this =
      let here = subst (λ k. Reads terms.rows Types ty.number (type_row k)) (is ∙ ap kind.Int this) reads in
      subst (IsFormed (around terms scope)) (sym here.means) int

  -- the type `bool`
  pub bool_formed : read ≡ kind.Bool → IsFormed (around terms scope) (tree_in terms.rows (ty_shape ty))
  unfolding fill
  bool_formed is =
      let here = subst (λ k. Reads terms.rows Types ty.number (type_row k)) is reads in
      subst (IsFormed (around terms scope)) (sym here.means) bool

  -- the type `char`
  pub char_formed : read ≡ kind.Char → IsFormed (around terms scope) (tree_in terms.rows (ty_shape ty))
  unfolding fill
  char_formed is =
      let here = subst (λ k. Reads terms.rows Types ty.number (type_row k)) is reads in
      subst (IsFormed (around terms scope)) (sym here.means) char

  -- the type `str`
  pub str_formed : read ≡ kind.Str → IsFormed (around terms scope) (tree_in terms.rows (ty_shape ty))
  unfolding fill
  str_formed is =
      let here = subst (λ k. Reads terms.rows Types ty.number (type_row k)) is reads in
      subst (IsFormed (around terms scope)) (sym here.means) text

  -- a tuple
  pub tuple_formed : (list : Tys) (items : List Ty) → read ≡ kind.Tuple list → Reads terms.rows TypeLists list.number (tys_row items)
      → AreFormed (around terms scope) (trees terms.rows items) → IsFormed (around terms scope) (tree_in terms.rows (ty_shape ty))
  unfolding fill
  tuple_formed list items is listed formed =
      let here = subst (λ k. Reads terms.rows Types ty.number (type_row k)) is reads in
      let whole = here.means in
      let list_tree = listed.means in
      let in_list = items_in_order (meaning terms.rows) items in
      let tree : fill (meaning terms.rows) (ty_shape ty) ≡ tuple_of (trees terms.rows items) = cc in
      subst (IsFormed (around terms scope)) (sym tree) (tuple formed)

  -- a reference
  pub reference_formed : (r : RegionKind) (referent : Ty) (m : Mutability) → read ≡ kind.Ref r referent m → r ≡ ReErased → m ≡ Not
      → IsFormed (around terms scope) (tree_in terms.rows (ty_shape referent)) → IsFormed (around terms scope) (tree_in terms.rows (ty_shape ty))
  unfolding fill
  reference_formed r referent m is erased shared formed =
      let as_ref = subst (λ k. Reads terms.rows Types ty.number (type_row k)) is reads in
      let as_shared = subst (λ x. Reads terms.rows Types ty.number (type_row (kind.Ref r referent x))) shared as_ref in
      let here = subst (λ x. Reads terms.rows Types ty.number (type_row (kind.Ref x referent Not))) erased as_shared in
      subst (IsFormed (around terms scope)) (sym (reference_read terms ty referent ReErased here)) (reference formed)

-- a type parameter of the function
pub parameter_formed : (terms : Terms) (scope : Scope) (params : List Ty) (index : ℕ) (ty : Ty)
    → AreParameters terms scope.program.now scope.function.now params → slice_get params index ≡ Some ty
    → IsFormed (around terms scope) (tree_in terms.rows (ty_shape ty))
parameter_formed terms scope params index ty h at = parameter (h.each index ty at)

-- a data type at formed arguments
pub instance_formed : (terms : Terms) (scope : Scope) (k : ℕ) (item : DataType) (args : List (Argument Depth)) (t : Tree Depth)
    → IsInstance (around terms scope) k item args t → AreFormed (around terms scope) (values args) → IsFormed (around terms scope) t
instance_formed terms scope k item args t h formed =
    subst (IsFormed (around terms scope)) (sym h.is)
    (data_type k h.there h.named formed (length_mapped (λ (a : Argument Depth). a.value) args ∙ h.arguments.counted))

-- no type is marked at first
pub none_marked : (terms : Terms) (scope : Scope) → AreMarked terms scope []
none_marked terms scope = record { each = λ ty is. absurd (cc) }

-- the next type with its mark
pub marked_next : (terms : Terms) (scope : Scope) (marks : List Bool) (number : ℕ) (ty : Ty) (mark : Bool) → AreMarked terms scope marks
    → length marks ≡ number → ty ≡ handle number → IsOwned ty_shape terms ty
    → (IsTrue mark → IsFormed (around terms scope) (tree_in terms.rows (ty_shape ty)))
    → AreMarked terms scope (marks ++ mark ∷ [])
marked_next terms scope marks number ty mark h counted this owned is = record {
  each = λ other found. elim (found_of_pushed marks mark other.number true found) [
    | inl older ↦ h.each other older
    | inr newest ↦ (
        let place : other.number ≡ ty.number = newest.0 ∙ counted ∙ sym (ap (λ (x : Ty). x.number) this) in (
          subst (λ n. IsOwned ty_shape terms (handle n)) (sym place) owned,
          subst (λ n. IsFormed (around terms scope) (tree_in terms.rows (ty_shape (handle n)))) (sym place) (is newest.1),
        ))
  ];
}

-- marks stay right, whatever the interner builds
pub marks_stay : (old new : Terms) (scope : Scope) (marks : List Bool) → Extends old new → IsScope old scope → AreMarked old scope marks
    → AreMarked new scope marks
marks_stay old new scope marks extends h marked = record {
  each = λ ty is.
      let one = marked.each ty is in (
        in_range-grows old.rows new.rows extends.rows Types ty.number one.0,
        subst (λ A. IsFormed A (tree_in new.rows (ty_shape ty))) (sym (around_stays old new scope extends h))
            (subst (IsFormed (around old scope)) (sym (tree_stays old new ty extends one.0)) one.1),
      );
}

-- no types are the first type parameters
pub no_parameters : (terms : Terms) (program : Program) (function : Function) → AreParameters terms program function []
no_parameters terms program function = record { owned = tt; each = λ k ty there. absurd (cc) }

-- the type parameters stay so, and with one more
pub parameters_stay : (old new : Terms) (program : Program) (function : Function) (types : List Ty) → Extends old new
    → AreParameters old program function types → AreParameters new program function types
parameters_stay old new program function types extends h = record {
  owned = list_still_owned ty_shape old new types extends h.owned;
  each = λ k ty there.
      let owned = found_owned ty_shape old types k ty there h.owned in
      subst (IsParameter program function k) (sym (tree_stays old new ty extends owned)) (h.each k ty there);
}

pub parameter_next : (terms : Terms) (program : Program) (function : Function) (types : List Ty) (index name : ℕ) (s : String Global)
    (bytes : List ℕ) (ty : Ty)
    → AreParameters terms program function types → length types ≡ index → slice_get function.params.items index ≡ Some name
    → slice_get program.names.items name ≡ Some s → bytes ≡ string_bytes s → IsOwned ty_shape terms ty
    → tree_in terms.rows (ty_shape ty) ≡ parameter_of index bytes → AreParameters terms program function (types ++ ty ∷ [])
parameter_next terms program function types index name s bytes ty h counted there named same owned is = record {
  owned = push_owned ty_shape terms types ty h.owned owned;
  each = λ k t found. elim (found_of_pushed types ty k t found) [
    | inl older ↦ h.each k t older
    | inr newest ↦ subst (λ n. IsParameter program function n (tree_in terms.rows (ty_shape t))) (sym (newest.0 ∙ counted))
        (subst (λ x. IsParameter program function index (tree_in terms.rows (ty_shape x))) newest.1 (record {
          name = name;
          text = s;
          there = there;
          named = named;
          is = is ∙ ap (parameter_of index) same;
        }))
  ];
}
