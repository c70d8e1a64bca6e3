-- What is around an expression, whatever the interner builds.
use Rattle.std.proofs.Common.{◌≡◌, refl, ℕ, suc, List, [], ◌∷◌, length, sym, ap, ◌∙◌}
use Rattle.tt_kinds.specs.Handle.{Ty}
use Rattle.tt_kinds.specs.Kinds.{ty_shape}
use Rattle.tt_kinds.specs.Shape.{fill}
use Rattle.tt_interner.specs.Rows.{meaning}
use Rattle.tt_interner.specs.Stored.{Terms, Extends}
use Rattle.tt_interner.proofs.Growth.{Extends-trans}
use Rattle.tt_interner.proofs.OwnedLaws.{list_still_owned, owned_laws}
use Rattle.checker_syntax.specs.declared.program.Program.{Program}
use Rattle.checker.specs.Items.{IsDeclared, ids_of, AreTypesBefore}
use Rattle.checker.specs.Scope.{IsScope, around, trees}
use Rattle.checker.specs.Typing.{AllBefore}
use Rattle.checker.specs.declared.declared.Declared.{Declared}
use Rattle.checker.specs.declared.scope.Scope.{Scope}
use Rattle.checker.proofs.SignatureLaws.{functions_stay}
use Rattle.checker.proofs.TreeLaws.{tree_at, trees_stay}
use Rattle.checker.proofs.WrittenLaws.{written_stay}

-- items stay declared, whatever the interner builds
pub declared_stay : (old new : Terms) (program : Program) (d : Declared) → Extends old new → IsDeclared old program d
    → IsDeclared new program d
declared_stay old new program d extends h = record {
  counted = h.counted;
  distinct = h.distinct;
  distinct_functions = h.distinct_functions;
  written = written_stay old new program (ids_of d) d.written.items (length program.types.items) extends h.written;
  functions = functions_stay old new program d.written.items d.functions.items (length program.functions.items) extends h.functions;
}

-- a scope stays one
pub scope_stays : (old new : Terms) (scope : Scope) → Extends old new → IsScope old scope → IsScope new scope
scope_stays old new scope extends h = record {
  declared = declared_stay old new scope.program.now scope.declared.now extends h.declared;
  types = list_still_owned ty_shape old new scope.types.now extends h.types;
}

-- and its trees stay
pub around_stays : (old new : Terms) (scope : Scope) → Extends old new → IsScope old scope → around new scope ≡ around old scope
around_stays old new scope extends h =
    let types = trees_stay old new scope.types.now extends h.types in
    cc

-- there are as many trees as types
count_trees : (terms : Terms) (types : List Ty) → length (trees terms.rows types) ≡ length types
count_trees terms [] = refl
count_trees terms (ty ∷ types) = ap suc (count_trees terms types)

-- and the types that are found are of the trees
pub found_before : (terms : Terms) (types : List Ty) (limit : ℕ) (ns : List ℕ) (found : List Ty) → AreTypesBefore types limit ns found
    → AllBefore (trees terms.rows types) limit ns (trees terms.rows found)
found_before terms types limit ns found h = record {
  counted = h.counted ∙ sym (count_trees terms found);
  each = λ k n at. let one = h.each k n at in
      (fill (meaning terms.rows) (ty_shape one.0), tree_at terms found k one.0 one.1, (one.2, tree_at terms types n one.0 one.3));
}

-- what the comparison with the rules needs of scopes, growth and owned lists, for `using`
pub ruleset verify_laws = (scope_stays, declared_stay, Extends-trans, owned_laws)
