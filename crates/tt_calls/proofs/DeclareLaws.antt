-- The calls that declare, over plain variables.
use Rattle.std.proofs.Common.{◌≡◌, ◌<◌, ◌≤◌, ℕ, List, [], ◌∷◌, Result, Ok, ap, sym, refl, inl, inr, ◌∙◌, arith}
use Rattle.smallvec.specs.declared.small_vec.SmallVec.{SmallVec}
use Rattle.tt_index.specs.declared.refusal.Refusal.{Refusal}
use Rattle.tt_kinds.specs.Label.{Name, ItemLabel, fn_item, declaration_label}
use Rattle.tt_kinds.specs.Tree.{Depth, Tree, Forest, node, none}
use Rattle.tt_kinds.specs.Shape.{name_of, AreParts, fill, fill_all}
use Rattle.tt_kinds.specs.Kinds.{tys_shape}
use Rattle.tt_kinds.specs.Values.{declared_shapes, item_label}
use Rattle.tt_kinds.specs.Declaration.{sort_of}
use Rattle.tt_kinds.specs.declared.declaration.Declaration.{Declaration}
use Rattle.tt_kinds.specs.declared.declaration.DeclarationKind.{DeclarationKind}
use Rattle.tt_kinds.specs.declared.declaration.DeclarationSort.{DeclarationSort}
use Rattle.tt_kinds.specs.Handle.{Symbol}
use Rattle.tt_kinds.specs.declared.id.DefId.{DefId}
use Rattle.tt_kinds.specs.declared.table.Table.TheVariants.{Types, TypeLists, Declarations}
use Rattle.tt_interner.specs.Rows.{Row, declared_row, text_row, size, meaning}
use Rattle.tt_interner.specs.Stored.{Terms, Builds}
use Rattle.tt_interner.specs.Declarations.{Declares, IsOfSort}
use Rattle.tt_interner.proofs.Growth.{fill_all-grows}
use Rattle.tt_interner.proofs.RowLaws.{row-new, meaning-new}
use Rattle.tt_interner.proofs.StoreSteps.{in_range}
use Rattle.std.specs.Prelude.{Err, IfErr, IfOk, IsErrAnd}
use Rattle.std.specs.declared.alloc.Global.{Global}
use Rattle.std.specs.declared.vec.Vec.{Vec}
use Rattle.tt_index.specs.declared.refusal.Refusal.TheVariants.{NoSuchAnswer}
use Rattle.tt_kinds.specs.Shape as shape
use Rattle.tt_kinds.specs.declared.binder.Binder.{Binder}
use Rattle.tt_kinds.specs.declared.binder.EarlyBinder.{EarlyBinder}
use Rattle.tt_kinds.specs.declared.declaration.DeclarationKind.TheVariants as declared_kind
use Rattle.tt_kinds.specs.declared.fn_sig.FnSig.{FnSig}
use Rattle.tt_kinds.specs.declared.fn_sig.FnSigKind.{FnSigKind}
use Rattle.tt_kinds.specs.declared.table.Table.{Table}
use Rattle.tt_calls.specs.declared.call.Call.TheVariants as calls
use Rattle.tt_calls.specs.declared.call.DeclareCall.{DeclareCall}
use Rattle.tt_calls.specs.declared.call.DeclarationKindCall.{DeclarationKindCall}
use Rattle.tt_calls.specs.declared.call.DeclarationKindCall.TheVariants as declares
use Rattle.tt_calls.specs.declared.call.VariableCall.{VariableCall}
use Rattle.tt_calls.specs.CallForm.{a_list, terms_at, part_positions, IsPartTooDeep, AreItemsTooDeep, HasNoTerms}
use Rattle.tt_calls.specs.CallForm.{declared_sort, declared_item, declared_trees, declared_ids, declared_positions}
use Rattle.tt_calls.specs.Build.{IsUnbuiltPart, no_memory, no_row, no_term, no_index, IsDeclaredBy, GivesDeclared}
use Rattle.tt_calls.specs.Build.{IsVariableListOf, IsPartOfCall}
use Rattle.tt_calls.proofs.PartLaws.{IsUnbuiltPart-weaker, AreTerms-second}
use Rattle.tt_calls.specs.declared.answer.Answer.{Answer}
use Rattle.tt_calls.specs.declared.answer.Answer.TheVariants as answer
use Rattle.tt_calls.specs.Told.{Told, told_all, AreOwnedAnswers, HasFullTable, setting}
use Rattle.tt_calls.specs.Means as means
use Rattle.tt_calls.specs.Means.{IsAbove, AreTerms, MayRefuse, number_at, tree_at, want_of_memory, full_table}
use Rattle.tt_calls.proofs.BuildLaws.{symbol-named}

-- a number that no declaration has is above each that was told
pub new-id : (rows : List Row) (answers : List Answer) (n : ℕ) → AreOwnedAnswers rows answers → size rows Declarations ≤ n → IsAbove (told_all rows answers) n
new-id rows [] n o h = tt
new-id rows (answer.Id s d ∷ answers) n o h = let within : d.number < size rows Declarations = o.0.0 in (omega arith, new-id rows answers n o.1 h)
new-id rows (_ ∷ answers) n o h = new-id rows answers n o.1 h

-- what a declaration adds, or doesn't
module _ (old new : Terms) (kind : DeclarationKind) (name : Symbol) where
  -- the row that it adds
  abbrev row : Row
  row = declared_row (size old.rows Declarations) (record { kind = kind; name = name })

  -- the id of a new declaration is in range, and names a declaration of the sort
  pub declared-owned : (sort : DeclarationSort) (id : DefId) → Declares {H = DefId} (Ok id) (λ x. x.number) old new kind name → sort ≡ sort_of kind
      → IsOfSort new.rows sort id.number
  declared-owned sort id d same = (
    rw (d.adds.rows, d.adds.last) (in_range (row ∷ old.rows) row (size old.rows Declarations) (row-new row old.rows)),
    ap (λ (x : Declaration). sort_of x.kind) d.declared ∙ sym same,
  )

-- the tree of what is declared: its kind's label and terms, with the text as its name
pub declared-tree : (start old new : Terms) (kind : DeclarationKind) (name : Symbol) (bytes : Name) (id : DefId) (item : ItemLabel) (ts : Forest Depth)
    → Builds {H = Symbol} (Ok name) (λ x. x.number) start old (text_row bytes) → Declares {H = DefId} (Ok id) (λ x. x.number) old new kind name
    → item_label kind ≡ item → AreParts (size start.rows) (declared_shapes kind) → fill_all (meaning start.rows) (declared_shapes kind) ≡ ts
    → meaning new.rows Declarations id.number ≡ node (declaration_label id.number item bytes) ts
unfolding fill
declared-tree start old new kind name bytes id item ts b d same parts means =
    let row = declared_row (size old.rows Declarations) (record { kind = kind; name = name }) in
    let whole : meaning new.rows Declarations id.number ≡ node (declaration_label (size old.rows Declarations) (item_label kind) (name_of (meaning old.rows) name.number)) (fill_all (meaning old.rows) (declared_shapes kind))
    = rw (d.adds.rows, d.adds.last) (meaning-new row old.rows) in
    let named = symbol-named start old bytes name.number b.means in
    let terms = fill_all-grows start.rows old.rows b.grows (declared_shapes kind) parts ∙ means in
    whole ∙ rw (d.adds.last, same, named, terms) refl

-- positions of terms need no index
terms-shallow : (t : Table) (ps : List ℕ) → AreItemsTooDeep (terms_at t ps) → ⊥
terms-shallow t [] d = d
terms-shallow t (p ∷ ps) d = elim d [ inl a ↦ a | inr b ↦ terms-shallow t ps b ]

-- a list of types is refused without a reason of indices
pub types-unbuilt : (full : Type 0) (e : List Told) (ps : List ℕ) (r : Refusal)
    → IsUnbuiltPart full e (part_positions (a_list TypeLists (terms_at Types ps))) (IsPartTooDeep (a_list TypeLists (terms_at Types ps))) r
    → IsUnbuiltPart full e (part_positions (a_list TypeLists (terms_at Types ps))) ⊥ r
types-unbuilt full e ps r h =
    let part = a_list TypeLists (terms_at Types ps) in
    IsUnbuiltPart-weaker full e e (part_positions part) (part_positions part) (IsPartTooDeep part) ⊥ r (λ a. a) (terms-shallow Types ps) h

-- a refusal of a part of a signature is the declaration's
pub declared-passed : (terms : Terms) (e : List Told) (call : DeclarationKindCall) (result : Result DeclarationKind Refusal) (r : Refusal)
    → IsErrAnd result (λ x. x ≡ r) → IsUnbuiltPart (HasFullTable terms) e (declared_positions call) ⊥ r → GivesDeclared terms e call result
declared-passed terms e call (Ok s) r h u = absurd h
declared-passed terms e call (Err x) r h u = record { ok = tt; err = rw h u }

-- a function of the signature
pub sig-declared : (terms : Terms) (e : List Told) (vars : Vec VariableCall Global) (ts : SmallVec ℕ 4 Global) (kind : FnSigKind) (sig : EarlyBinder (Binder FnSig))
    → IsVariableListOf terms (number_at e) vars.items sig.value.bound_vars → IsPartOfCall terms e (a_list TypeLists (terms_at Types ts.items)) (tys_shape sig.value.value.inputs_and_output)
    → sig.value.value.fn_sig_kind ≡ kind → IsDeclaredBy terms e (declares.Fn vars ts kind) (declared_kind.Fn sig)
unfolding fill
sig-declared terms e vars ts kind sig variables types other = record {
  sorted = refl;
  item = ap fn_item other;
  parts = (variables.in_range, (types.part, tt));
  means = rw (variables.means, types.means) refl;
  named = types.named;
}

-- what is no function has no terms
pub no-function : (call : DeclarationKindCall) → ((vars : Vec VariableCall Global) (ts : SmallVec ℕ 4 Global) (kind : FnSigKind) → call ≡ declares.Fn vars ts kind → ⊥) → HasNoTerms call
no-function (declares.Fn vars ts kind) f = f vars ts kind refl
no-function _ f = tt

no-trees : (ids : ℕ → ℕ) (at : ℕ → Tree Depth) (call : DeclarationKindCall) → HasNoTerms call → declared_trees ids at call ≡ none
no-trees ids at (declares.Fn vars ts kind) h = absurd h
no-trees ids at _ h = refl

-- what is declared without terms
pub item-declared : (terms : Terms) (rows : List Row) (earlier : List Answer) (call : DeclarationKindCall) (result : Result DeclarationKind Refusal) → HasNoTerms call
    → IfOk result (λ kind. sort_of kind ≡ declared_sort call) → IfOk result (λ kind. (rows : List Row) → item_label kind ≡ declared_item (number_at (told_all rows earlier)) call)
    → IfOk result (λ kind. declared_shapes kind ≡ shape.none) → IfOk result (λ kind. (rows : List Row) → AreTerms (told_all rows earlier) (declared_positions call))
    → IfErr result (λ r. r ≡ NoSuchAnswer) → IfErr result (λ r. (rows : List Row) → AreTerms (told_all rows earlier) (declared_positions call) → ⊥)
    → GivesDeclared terms (told_all rows earlier) call result
unfolding fill
item-declared terms rows earlier call (Ok kind) no_terms sorted item none_has named cause absent = record {
  ok = record {
    sorted = sorted;
    item = item rows;
    parts = rw none_has tt;
    means = rw (none_has, no-trees (number_at (told_all rows earlier)) (tree_at (told_all rows earlier)) call no_terms) refl;
    named = named rows;
  };
  err = tt;
}
item-declared terms rows earlier call (Err r) no_terms sorted item none_has named cause absent = record { ok = tt; err = no_term (absent rows) cause }

-- why a call that declares is refused
pub declare-refused : (start terms : Terms) (e : List Told) (call : DeclareCall) (r : Refusal) → IsUnbuiltPart (HasFullTable terms) e (declared_positions call.kind) ⊥ r
    → MayRefuse (setting start terms) e (calls.Declare call) r
declare-refused start terms e call r (no_memory is) = want_of_memory (tt, λ a. a) is
declare-refused start terms e call r (no_row full is) = full_table (tt, λ a. a) full is
declare-refused start terms e call r (no_term absent is) = means.no_term (λ h. absent (AreTerms-second e (declared_ids call.kind) (declared_positions call.kind) h)) is
declare-refused start terms e call r (no_index deep is) = absurd deep
