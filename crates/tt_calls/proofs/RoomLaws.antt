-- Why a building call is refused for want of room: something of what it builds isn't there.
use Rattle.std.proofs.Common.{◌≡◌, ℕ, ◌<◌, List, length, map, Result, Ok, Err, Some, ap, sym, ◌∙◌, subst}
use Rattle.std.proofs.Common.{arith}
use Rattle.std.specs.Prelude.{IfErr, slice_get}
use Rattle.std.proofs.lemmas.List.{length-map}
use Rattle.std.proofs.lemmas.List.Elements.{All-get_or}
use Rattle.std.proofs.lemmas.Option.{slice_get_within, get_or_from_slice_get}
use Rattle.tt_index.specs.declared.refusal.Refusal.{Refusal}
use Rattle.tt_index.specs.declared.refusal.Refusal.TheVariants.{NoSuchAnswer}
use Rattle.tt_kinds.specs.Label.{type_label, dynamic_type, list_label}
use Rattle.tt_kinds.specs.Label.{var_list_label}
use Rattle.tt_kinds.specs.Tree as tree
use Rattle.tt_kinds.specs.Tree.{Tree, Depth, node}
use Rattle.tt_kinds.specs.Shape as shape
use Rattle.tt_kinds.specs.Shape.{Shapes, fill, item_shapes, HasParts}
use Rattle.tt_kinds.specs.Kinds.{existential_shape}
use Rattle.tt_kinds.specs.Handle.{PolyExistentialPredicate}
use Rattle.tt_kinds.specs.declared.bound.BoundVariableKind.{BoundVariableKind}
use Rattle.tt_kinds.specs.declared.table.Table.{Table}
use Rattle.tt_kinds.specs.declared.table.Table.TheVariants.{ExistentialLists}
use Rattle.tt_interner.specs.Rows.{Row, vars_row, existentials_row, row_shape, size, meaning}
use Rattle.tt_interner.specs.Stored.{Terms, Builds, most_in_place}
use Rattle.tt_calls.specs.declared.answer.Answer.{Answer}
use Rattle.tt_calls.specs.declared.call.RegionCall.{RegionCall}
use Rattle.tt_calls.specs.declared.call.VariableCall.{VariableCall}
use Rattle.tt_calls.specs.CallForm.{Item, one, a_region, a_list, CallForm, trait_object}
use Rattle.tt_calls.specs.CallForm.{ExistentialForm, IsShortExistential, all_trees}
use Rattle.tt_calls.specs.CallForm.{existential_tree, existentials_tree, form_tree, Named, variable_kind}
use Rattle.tt_calls.specs.CallForm.{variable_name_text, region_text, item_tree, part_tree}
use Rattle.tt_calls.specs.Told.{Told, told_all, IsStored}
use Rattle.tt_calls.specs.Means.{number_at, tree_at}
use Rattle.tt_calls.specs.Build.{ArePlaced, AreItemsOf, AreVariablesOf, IsKindOf}
use Rattle.tt_calls.specs.Room.{IsRefusalForRoom, HasValue, LacksValue, LacksText, NeedsRoom, PartNeedsRoom}
use Rattle.tt_calls.specs.Room.{VarsNeedRoom}
use Rattle.tt_calls.specs.Room.{ExistentialNeedsRoom, ExistentialsNeedRoom, FormNeedsRoom}
use Rattle.tt_calls.proofs.ValueLaws.{in-term, in-node, new-lacks, first-value, later-values, value-at}
use Rattle.tt_calls.proofs.PartLaws.{get-mapped}
use Rattle.tt_calls.proofs.TextLaws.{region-lacks, variable-lacks}

-- what is stored is a value
pub stored-value : (rows : List Row) (t : Table) (u : Tree Depth) → IsStored rows t u → HasValue rows u
unfolding fill
stored-value rows t u h = record { shape = shape.stored t h.number; part = h.within; means = h.means }

-- a refusal for another reason is none for want of room
pub never-room : (rows : List Row) (short : Type 0) (t : Tree Depth) (r : Refusal) → r ≡ NoSuchAnswer → NeedsRoom rows short t r
never-room rows short t r is room = absurd (subst IsRefusalForRoom is room)

-- what a refusal says of variables whatever the rows at the start are
pub every-vars-room : {T : Type 0} (now : List Row) (earlier : List Answer) (cs : List VariableCall) (result : Result T Refusal)
    → ((rows : List Row) → IfErr result (VarsNeedRoom now (map (variable_kind (number_at (told_all rows earlier))) cs)))
    → IfErr result (λ e. (rows : List Row) → VarsNeedRoom now (map (variable_kind (number_at (told_all rows earlier))) cs) e)
every-vars-room now earlier cs (Ok l) h = tt
every-vars-room now earlier cs (Err r) h = h

-- where a row is refused, no value has its tree
pub refused-lacks : {H : Type 0} (number : H → ℕ) (old new : Terms) (row : Row) (u : Tree Depth) (r : Refusal) → HasParts (size old.rows) (row_shape row)
    → fill (meaning old.rows) (row_shape row) ≡ u → Builds {H = H} (Err r) number old new row → LacksValue new.rows u
refused-lacks number old new row u r parts means b =
    subst (λ (terms : Terms). LacksValue terms.rows u) (sym b.err)
    (λ are v. new-lacks old.rows are row parts b.absent (subst (λ (t : Tree Depth). HasValue old.rows t) (sym means) v))

-- a list that is refused is new
pub list-room : {H : Type 0} (number : H → ℕ) (old new : Terms) (e : List Told) (t : Table) (is : List Item) (ss : Shapes) (row : Row) (result : Result H Refusal)
    → AreItemsOf old e is ss → row_shape row ≡ shape.node (list_label t) ss → Builds result number old new row → IfErr result (PartNeedsRoom new.rows e (a_list t is))
unfolding fill
list-room number old new e t is ss row (Ok l) h is_node b = tt
list-room number old new e t is ss row (Err r) h is_node b = λ room short.
    let parts : HasParts (size old.rows) (row_shape row) = subst (HasParts (size old.rows)) (sym is_node) (tt, h.parts) in
    let means : fill (meaning old.rows) (row_shape row) ≡ part_tree (number_at e) (tree_at e) (a_list t is) =
    ap (λ s. fill (meaning old.rows) s) is_node ∙ ap (λ ts. node (list_label t) ts) h.means in
    refused-lacks number old new row (part_tree (number_at e) (tree_at e) (a_list t is)) r parts means b

-- the same of a list of variables
pub vars-room : (old new : Terms) (ids : ℕ → ℕ) (cs : List VariableCall) (vs : List BoundVariableKind) {H : Type 0} (number : H → ℕ) (result : Result H Refusal)
    → AreVariablesOf old ids cs vs → Builds result number old new (vars_row vs) → IfErr result (VarsNeedRoom new.rows (map (variable_kind ids) cs))
unfolding fill
vars-room old new ids cs vs number (Ok l) h b = tt
vars-room old new ids cs vs number (Err r) h b = λ room short.
    let means : fill (meaning old.rows) (row_shape (vars_row vs)) ≡ node (var_list_label (map (variable_kind ids) cs)) tree.none = ap (λ ks. node (var_list_label ks) tree.none) h.means in
    refused-lacks number old new (vars_row vs) (node (var_list_label (map (variable_kind ids) cs)) tree.none) r (h.parts, tt) means b

-- a long list may be refused though it is there
pub long-room : {H C : Type 0} (item : C → Item) (rows : List Row) (e : List Told) (t : Table) (cs : List C) (result : Result H Refusal)
    → most_in_place < length cs → IfErr result (PartNeedsRoom rows e (a_list t (map item cs)))
long-room item rows e t cs (Ok l) long = tt
long-room item rows e t cs (Err r) long = λ room short. let same = length-map cs item in absurd (omega (arith, same, long, short))

-- a long list of variables may be refused though it is there
pub long-vars-room : {H : Type 0} (rows : List Row) (ids : ℕ → ℕ) (cs : List VariableCall) (result : Result H Refusal)
    → most_in_place < length cs → IfErr result (VarsNeedRoom rows (map (variable_kind ids) cs))
long-vars-room rows ids cs (Ok l) long = tt
long-vars-room rows ids cs (Err r) long = λ room short. let same = length-map cs (variable_kind ids) in absurd (omega (arith, same, long, short))

-- a region's text is new
pub region-room : (rows : List Row) (e : List Told) (c : RegionCall) (r : Refusal) → (IsRefusalForRoom r → LacksText rows (region_text c)) → PartNeedsRoom rows e (one (a_region c)) r
region-room rows e c r lacks room short = region-lacks rows (number_at e) c (lacks room)

-- a variable's name is new
pub variable-room : (rows : List Row) (ids : ℕ → ℕ) (cs : List VariableCall) (i : ℕ) (c : VariableCall) (r : Refusal) → slice_get cs i ≡ Some c → LacksText rows (variable_name_text c)
    → VarsNeedRoom rows (map (variable_kind ids) cs) r
variable-room rows ids cs i c r here lacks room short = variable-lacks rows ids cs i c here lacks

-- an item of a list
pub item-room : {C : Type 0} (item : C → Item) (rows : List Row) (e : List Told) (t : Table) (cs : List C) (i : ℕ) (c : C) (r : Refusal) → slice_get cs i ≡ Some c
    → PartNeedsRoom rows e (one (item c)) r → PartNeedsRoom rows e (a_list t (map item cs)) r
item-room item rows e t cs i c r here h room short are v =
    h room tt are
    (value-at (item_tree (number_at e) (tree_at e)) rows (map item cs) i (item c) (get-mapped item cs i c here) (in-node rows are (list_label t) _ v).children)

-- an existential predicate of a list
pub existential-room : (rows : List Row) (e : List Told) (xs : List ExistentialForm) (i : ℕ) (x : ExistentialForm) (r : Refusal) → slice_get xs i ≡ Some x
    → ExistentialNeedsRoom rows e x r → ExistentialsNeedRoom rows e xs r
existential-room rows e xs i x r here h room short are v =
    let among = All-get_or IsShortExistential xs i x (slice_get_within xs i x here) short.1 in
    let is_short = subst IsShortExistential (get_or_from_slice_get xs i x x here) among in
    h room is_short are (value-at (existential_tree (number_at e) (tree_at e)) rows xs i x here (in-node rows are (list_label ExistentialLists) _ v).children)

-- a list of existential predicates that is refused is new
pub existentials-room : {H : Type 0} (number : H → ℕ) (old new : Terms) (e : List Told) (xs : List ExistentialForm) (ns : List Named) (deep : Type 0) (ps : List PolyExistentialPredicate) (result : Result H Refusal)
    → ArePlaced old e (all_trees (existential_tree (number_at e) (tree_at e)) xs) ns deep (item_shapes existential_shape ps) → Builds result number old new (existentials_row ps)
    → IfErr result (ExistentialsNeedRoom new.rows e xs)
unfolding fill
existentials-room number old new e xs ns deep ps (Ok l) h b = tt
existentials-room number old new e xs ns deep ps (Err r) h b = λ room short.
    refused-lacks number old new (existentials_row ps) (existentials_tree (number_at e) (tree_at e) xs) r (tt, h.parts) (ap (λ ts. node (list_label ExistentialLists) ts) h.means) b

-- a long list may be refused though it is there
pub long-existentials-room : {H C : Type 0} (form : C → ExistentialForm) (rows : List Row) (e : List Told) (cs : List C) (result : Result H Refusal)
    → most_in_place < length cs → IfErr result (ExistentialsNeedRoom rows e (map form cs))
long-existentials-room form rows e cs (Ok l) long = tt
long-existentials-room form rows e cs (Err r) long = λ room short. let same = length-map cs form in let few = short.0 in absurd (omega (arith, same, long, few))

-- a term of a kind that is refused is new
pub term-room : {H : Type 0} (number : H → ℕ) (old new : Terms) (e : List Told) (form : CallForm) (row : Row) (result : Result H Refusal)
    → IsKindOf old e form (row_shape row) → Builds result number old new row → IfErr result (FormNeedsRoom new.rows e form)
term-room number old new e form row (Ok l) h b = tt
term-room number old new e form row (Err r) h b = λ room short. refused-lacks number old new row (form_tree (number_at e) (tree_at e) form) r h.parts h.means b

-- the existential predicates of a trait object, and its region
module _ (rows : List Row) (e : List Told) (xs : List ExistentialForm) (c : RegionCall) (r : Refusal) where
  -- if a refusal for want of room says that a trait object's predicates aren't there, it says so of the object
  pub object-room : ExistentialsNeedRoom rows e xs r → FormNeedsRoom rows e (trait_object xs c) r
  object-room h room short are v = h room short are (first-value rows _ _ (in-term rows are (type_label dynamic_type) _ v))

  -- if a refusal for want of room says that the text in a region is new, no trait object with it is there
  pub object-region-room : (IsRefusalForRoom r → LacksText rows (region_text c)) → FormNeedsRoom rows e (trait_object xs c) r
  object-region-room lacks room short are v =
      region-lacks rows (number_at e) c (lacks room) are (first-value rows _ _ (later-values rows _ _ (in-term rows are (type_label dynamic_type) _ v)))
