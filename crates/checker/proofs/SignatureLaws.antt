-- Functions that were declared, and whatever the interner builds.
use Rattle.std.proofs.Common.{◌≡◌, ℕ, suc, List, [], ◌∷◌, ◌++◌, Ok, Some, ap, subst, ◌∙◌, inl, inr}
use Rattle.std.specs.Prelude.{slice_get}
use Rattle.std.specs.String.{string_bytes}
use Rattle.tt_kinds.specs.Handle.{BoundVarKinds, Symbol, Ty, Tys}
use Rattle.tt_kinds.specs.declared.binder.Binder.{Binder}
use Rattle.tt_kinds.specs.declared.binder.EarlyBinder.{EarlyBinder}
use Rattle.tt_kinds.specs.declared.declaration.DeclarationKind.TheVariants as kind
use Rattle.tt_kinds.specs.declared.fn_sig.FnSig.{FnSig}
use Rattle.tt_kinds.specs.declared.table.Table.TheVariants.{Declarations}
use Rattle.tt_interner.specs.Declarations.{Declares, declared_at}
use Rattle.tt_interner.specs.Rows.{text_row, tys_row, vars_row}
use Rattle.tt_interner.specs.Stored.{Terms, Extends, IsAt}
use Rattle.tt_interner.proofs.DeclarationLaws.{declared_at-grows}
use Rattle.tt_interner.proofs.Growth.{IsAt-grows, in_range-grows}
use Rattle.checker_syntax.specs.declared.program.Function.{Function}
use Rattle.checker_syntax.specs.declared.program.Program.{Program}
use Rattle.checker.specs.Items.{AreFunctions, FunctionId, HasSignature, IsFunctionOf, IsNameOf, ListsSignature, signature_of}
use Rattle.checker.proofs.ListLaws.{found_of_pushed, length_pushed}

-- a function that was declared with this signature
pub function_declared : (id : FunctionId) (old new : Terms) (name : Symbol) (types : Tys) (vars : BoundVarKinds)
    (sig : EarlyBinder (Binder FnSig))
    → Declares (Ok id) (λ (i : FunctionId). i.number) old new (kind.Fn sig) name → sig ≡ signature_of types vars
    → IsAt old.rows (vars_row []) vars.number → IsFunctionOf new.rows name types id
function_declared id old new name types vars sig d same empty = record {
  vars = vars;
  empty = IsAt-grows old.rows new.rows d.extends.rows (vars_row []) vars.number empty;
  declared = subst (λ s. declared_at new.rows (record { number = id.number }) ≡ record { kind = kind.Fn s; name = name }) same
      d.declared;
}

-- a symbol stays the name
pub name_stays : (old new : Terms) (program : Program) (number : ℕ) (symbol : Symbol) → Extends old new
    → IsNameOf old program number symbol → IsNameOf new program number symbol
name_stays old new program number symbol extends h =
    (h.0, h.1, IsAt-grows old.rows new.rows extends.rows (text_row (string_bytes h.0)) symbol.number h.2)

-- the list of a signature stays one
pub list_stays : (old new : Terms) (written : List Ty) (item : Function) (list : Tys) → Extends old new
    → ListsSignature old written item list → ListsSignature new written item list
list_stays old new written item list extends h = record {
  types = h.types;
  stored = IsAt-grows old.rows new.rows extends.rows (tys_row h.types) list.number h.stored;
  are = h.are;
}

-- and a function keeps its signature
pub signature_stays : (old new : Terms) (program : Program) (written : List Ty) (item : Function) (id : FunctionId) → Extends old new
    → HasSignature old program written item id → HasSignature new program written item id
signature_stays old new program written item id extends h =
    let same = declared_at-grows old.rows new.rows extends.rows (record { number = id.number }) h.in_range in
    let vars = h.declared.vars in
    record {
      in_range = in_range-grows old.rows new.rows extends.rows Declarations id.number h.in_range;
      name = h.name;
      named = name_stays old new program item.name h.name extends h.named;
      list = h.list;
      declared = record {
        vars = vars;
        empty = IsAt-grows old.rows new.rows extends.rows (vars_row []) vars.number h.declared.empty;
        declared = same ∙ h.declared.declared;
      };
      listed = list_stays old new written item h.list extends h.listed;
    }

-- functions stay declared
pub functions_stay : (old new : Terms) (program : Program) (written : List Ty) (ids : List FunctionId) (count : ℕ) → Extends old new
    → AreFunctions old program written ids count → AreFunctions new program written ids count
functions_stay old new program written ids count extends h = record {
  counted = h.counted;
  each = λ f id item there at. signature_stays old new program written item id extends (h.each f id item there at);
}

-- and so with one more
pub function_next : (terms : Terms) (program : Program) (written : List Ty) (ids : List FunctionId) (count : ℕ) (item : Function)
    (id : FunctionId)
    → AreFunctions terms program written ids count → slice_get program.functions.items count ≡ Some item
    → HasSignature terms program written item id → AreFunctions terms program written (ids ++ id ∷ []) (suc count)
function_next terms program written ids count item id h there has = record {
  counted = length_pushed ids id ∙ ap suc h.counted;
  each = λ f i x found at. elim (found_of_pushed ids id f i found) [
    | inl older ↦ h.each f i x older at
    | inr newest ↦ (let place = newest.0 ∙ h.counted in
        let this : item ≡ x = let p = ap (slice_get program.functions.items) place in cc in
        subst (λ y. HasSignature terms program written y i) this (subst (HasSignature terms program written item) newest.1 has))
  ];
}
