-- The items of views among the items of their lists.
use Rattle.std.proofs.Common.{◌≡◌, ℕ, zero, suc, ◌+◌, ◌-◌, ◌<◌, ◌≤◌, List, [], ◌∷◌, ◌++◌, length, take, drop, get_or}
use Rattle.std.proofs.Common.{ap, sym, subst, ◌∙◌, arith}
use Rattle.std.proofs.lemmas.List.{take_all, take_more, take-append-drop, length-take-le, length-drop}
use Rattle.tt_kinds.specs.Kinds.{arg_shape, ty_shape}
use Rattle.tt_kinds.specs.Label.{Label, list_label, record_label, sequence_record}
use Rattle.tt_kinds.specs.Tree as tree
use Rattle.tt_kinds.specs.Shape.{Shape, node, part_of, Extent, all_but_last, span, first_item, item_count, Meaning}
use Rattle.tt_kinds.specs.Shape.{fill, fill_all, Sizes, AreParts, item_shapes}
use Rattle.tt_kinds.specs.declared.generic_arg.GenericArgKind.{GenericArgKind}
use Rattle.tt_kinds.specs.Handle.{GenericArgs}
use Rattle.tt_kinds.specs.Handle.{Ty}
use Rattle.tt_kinds.specs.Handle.{Tys}
use Rattle.tt_kinds.specs.declared.table.Table.{Table}
use Rattle.tt_kinds.specs.declared.table.Table.TheVariants.{ArgLists, TypeLists}
use Rattle.tt_kinds.specs.declared.view.FnInputTys.{FnInputTys}
use Rattle.tt_kinds.specs.declared.view.GenericArgsSlice.{GenericArgsSlice}
use Rattle.tt_kinds.specs.Values.{input_tys_shape, args_slice_shape}
use Rattle.tt_kinds.proofs.ForestLaws.{part-items}
use Rattle.tt_interner.specs.Rows.{Row, AreRows, args_row, meaning, size, tys_row}
use Rattle.tt_interner.specs.Stored.{IsAt}
use Rattle.tt_interner.specs.Views.{AreInputs, LiesInList}
use Rattle.tt_interner.proofs.Trees.{Means-row}
use Rattle.tt_visit.specs.Views.{HoldsArgs, HoldsInputs}
use Rattle.tt_kinds.specs.Handle.{handle}

-- the tree of a part of a list is the tree of the items in it
pub part-tree : {T : Type 0} (of_item : T → Shape) (f : Meaning) (t : Table) (n : ℕ) (e : Extent) (l : Label ℕ) (all xs : List T)
    → f t n ≡ fill f (node l (item_shapes of_item all)) → xs ≡ take (item_count e (length all)) (drop (first_item e) all)
    → fill f (part_of t n e) ≡ tree.node (record_label sequence_record) (fill_all f (item_shapes of_item xs))
unfolding fill
part-tree of_item f t n e l all xs is part = rw (is, part) (ap (tree.node (record_label sequence_record)) (part-items f of_item e all))

module _ {T : Type 0} (of : T → Shape) (s : Sizes) where
  parts-take : (n : ℕ) (xs : List T) → AreParts s (item_shapes of xs) → AreParts s (item_shapes of (take n xs))
  parts-take zero xs are = tt
  parts-take (suc n) [] are = tt
  parts-take (suc n) (x ∷ xs) are = (are.0, parts-take n xs are.1)

  parts-drop : (n : ℕ) (xs : List T) → AreParts s (item_shapes of xs) → AreParts s (item_shapes of (drop n xs))
  parts-drop zero xs are = are
  parts-drop (suc n) [] are = tt
  parts-drop (suc n) (x ∷ xs) are = parts-drop n xs are.1

-- a list that isn't empty is what comes before its last item, and that item
before-last : {T : Type 0} (xs : List T) (n : ℕ) (d : T) → n + 1 ≡ length xs → take n xs ++ get_or xs n d ∷ [] ≡ xs
before-last xs n d h =
    let more = take_more xs n d (omega (arith, h)) in let whole = take_all (n + 1) xs (omega (arith, h)) in sym more ∙ whole

-- a view of the inputs in a stored list holds all its types but the last
pub inputs_held : (rows : List Row) (view : FnInputTys) (list : Tys) (all : List Ty) → list ≡ view.inputs_and_output
    → AreInputs rows view → IsAt rows (tys_row all) list.number → HoldsInputs rows view (take (length all - 1) all)
inputs_held rows view list all is lies at =
    let there : IsAt rows (tys_row all) view.inputs_and_output.number = subst (λ (l : Tys). IsAt rows (tys_row all) l.number) is at in
    let stored : IsAt rows (tys_row lies.0) view.inputs_and_output.number = lies.1 in
    let same : lies.0 ≡ all = cc in
    let lengths : length lies.0 ≡ length all = ap length same in
    let long : 0 < length lies.0 = lies.2 in
    let one : length all - 1 + 1 ≡ length all = omega (arith, lengths, long) in
    let output : Ty = get_or all (length all - 1) (handle 0) in
    record { output = output; stored = subst (λ (xs : List Ty). IsAt rows (tys_row xs) view.inputs_and_output.number) (sym (before-last all (length all - 1) (handle 0) one)) there }

-- the first n types of a stored list are in range
pub inputs_owned : (rows : List Row) → AreRows rows → (list : Tys) (all : List Ty) → IsAt rows (tys_row all) list.number
    → (n : ℕ) → AreParts (size rows) (item_shapes ty_shape (take n all))
inputs_owned rows are list all at n = parts-take ty_shape (size rows) n all (Means-row rows are TypeLists list.number (tys_row all) at).parts.1

-- a view whose places are in its list holds the arguments at these places
pub args_held : (rows : List Row) (view : GenericArgsSlice) (list : GenericArgs) (all : List GenericArgKind)
    → list ≡ view.args → LiesInList rows view → IsAt rows (args_row all) list.number → HoldsArgs rows view (take view.len (drop view.start all))
args_held rows view list all is lies at =
    let there : IsAt rows (args_row all) view.args.number = subst (λ (a : GenericArgs). IsAt rows (args_row all) a.number) is at in
    let stored : IsAt rows (args_row lies.0) view.args.number = lies.1 in
    let same : lies.0 ≡ all = cc in
    let lengths : length lies.0 ≡ length all = ap length same in
    let within : view.start + view.len ≤ length lies.0 = lies.2 in
    let first : view.start ≤ length all = omega (arith, lengths, within) in
    let rest : view.len ≤ length (drop view.start all) = rw (length-drop view.start all) (omega (arith, lengths, within)) in
    let whole : take view.start all ++ (take view.len (drop view.start all) ++ drop view.len (drop view.start all)) ≡ all =
    ap (λ xs. take view.start all ++ xs) (take-append-drop view.len (drop view.start all)) ∙ take-append-drop view.start all in
    record {
      before = take view.start all;
      after = drop view.len (drop view.start all);
      stored = subst (λ (xs : List GenericArgKind). IsAt rows (args_row xs) view.args.number) (sym whole) there;
      start = length-take-le view.start all first;
      len = length-take-le view.len (drop view.start all) rest;
    }

-- up to n arguments of a stored list, from the place s on, are in range
pub args_owned : (rows : List Row) → AreRows rows → (list : GenericArgs) (all : List GenericArgKind) → IsAt rows (args_row all) list.number
    → (n s : ℕ) → AreParts (size rows) (item_shapes arg_shape (take n (drop s all)))
args_owned rows are list all at n s =
    parts-take arg_shape (size rows) n (drop s all) (parts-drop arg_shape (size rows) s all (Means-row rows are ArgLists list.number (args_row all) at).parts.1)

-- what a view's tree is
pub inputs-tree : (rows : List Row) → AreRows rows → (view : FnInputTys) (list : Tys) (all inputs : List Ty) → list ≡ view.inputs_and_output
    → IsAt rows (tys_row all) list.number → inputs ≡ take (length all - 1) all
    → fill (meaning rows) (input_tys_shape view) ≡ tree.node (record_label sequence_record) (fill_all (meaning rows) (item_shapes ty_shape inputs))
inputs-tree rows are view list all inputs is at part =
    let there : IsAt rows (tys_row all) view.inputs_and_output.number = subst (λ (l : Tys). IsAt rows (tys_row all) l.number) is at in
    part-tree ty_shape (meaning rows) TypeLists view.inputs_and_output.number all_but_last (list_label TypeLists) all inputs
    (Means-row rows are TypeLists view.inputs_and_output.number (tys_row all) there).tree part

-- the tree of a view of arguments is a sequence of the trees of the arguments at its places
pub args-tree : (rows : List Row) → AreRows rows → (view : GenericArgsSlice) (list : GenericArgs) (all some : List GenericArgKind) → list ≡ view.args
    → IsAt rows (args_row all) list.number → some ≡ take view.len (drop view.start all)
    → fill (meaning rows) (args_slice_shape view) ≡ tree.node (record_label sequence_record) (fill_all (meaning rows) (item_shapes arg_shape some))
args-tree rows are view list all some is at part =
    let there : IsAt rows (args_row all) view.args.number = subst (λ (a : GenericArgs). IsAt rows (args_row all) a.number) is at in
    part-tree arg_shape (meaning rows) ArgLists view.args.number (span view.start view.len) (list_label ArgLists) all some
    (Means-row rows are ArgLists view.args.number (args_row all) there).tree part
