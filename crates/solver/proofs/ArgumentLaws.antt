-- Arguments that were read, and the types among them.
use Rattle.std.proofs.Common.{◌≡◌, ℕ, zero, suc, ◌<◌, List, length, refl, ap, sym, ◌∙◌, subst, arith}
use Rattle.std.specs.Prelude.{◌↔◌, Bool, true, false, not, IsTrue, Some, slice_get}
use Rattle.tt_kinds.specs.GenericArg.{type_of}
use Rattle.tt_kinds.specs.Handle.{GenericArgs, Ty}
use Rattle.tt_kinds.specs.Kinds.{arg_shape, ty_shape}
use Rattle.tt_kinds.specs.Reading.{outer_binder}
use Rattle.tt_kinds.specs.declared.generic_arg.GenericArgKind.{GenericArgKind}
use Rattle.tt_kinds.specs.declared.generic_arg.GenericArgKind.TheVariants as arg
use Rattle.tt_kinds.specs.declared.table.Table.TheVariants.{ArgLists}
use Rattle.tt_interner.specs.Arguments as rows
use Rattle.tt_interner.specs.Owned.{AreOwned, IsOwned, tree_in}
use Rattle.tt_interner.specs.Reads.{Reads}
use Rattle.tt_interner.specs.Rows.{AreRows, args_row}
use Rattle.tt_interner.specs.Stored.{Terms}
use Rattle.unify.proofs.OwnSolution.{tree_is_type}
use Rattle.solver.specs.Derivations.{AreArguments, IsTypeArgument}
use Rattle.solver.specs.Program.{argument_trees}
use Rattle.solver.proofs.OutcomeLaws.{as_many, found_mapped}

-- a test for variables that are bound outside answers no only where there are none
pub none_outside : (found : Bool) (n : ℕ) → IsTrue found ↔ (0 < n) → IsTrue (not found) → n ≡ 0
none_outside true n exact h = absurd (cc)
none_outside false zero exact h = refl
none_outside false (suc n) exact h = absurd (let found : IsTrue false = exact.1 (omega arith) in cc)

-- an argument that is a closed type is a type argument
pub type_argument : (terms : Terms) (a : GenericArgKind) (ty : Ty) → type_of a ≡ Some ty → AreRows terms.rows → IsOwned arg_shape terms a
    → outer_binder (tree_in terms.rows (ty_shape ty)) ≡ 0 → IsTypeArgument (rows.argument_of terms.rows a)
type_argument terms (arg.Lifetime r) ty is are owned closed = absurd (cc)
type_argument terms (arg.«Type» t) ty is are owned closed =
    let same : t ≡ ty = cc in
    record {
      sorted = refl;
      type = tree_is_type terms t are owned;
      closed = subst (λ x. outer_binder (tree_in terms.rows (ty_shape x)) ≡ 0) (sym same) closed;
    }
type_argument terms (arg.Const k) ty is are owned closed = absurd (cc)

-- the argument is a type argument
abbrev pub IsTypeAt : Terms → GenericArgKind → Type 0
IsTypeAt terms a = IsTypeArgument (rows.argument_of terms.rows a)

module _ (terms : Terms) (args : GenericArgs) (items : List GenericArgKind) (read : Reads terms.rows ArgLists args.number (args_row items)) where
  -- the arguments that were read are those of the list
  pub arguments_read : rows.args_at terms.rows args ≡ items
  arguments_read = ap rows.row_args read.row

  -- their handles name rows
  pub arguments_in_range : rows.AreArguments terms.rows (rows.args_at terms.rows args)
  arguments_in_range = subst (rows.AreArguments terms.rows) (sym arguments_read) read.parts.1

  pub items_owned : AreOwned arg_shape terms items
  items_owned = read.parts.1

  -- where each of them is a type argument, they are arguments for as many parameters
  pub arguments_are : (n : ℕ) → ((k : ℕ) (a : GenericArgKind) → slice_get items k ≡ Some a → IsTypeAt terms a) → length items ≡ n
      → AreArguments n (argument_trees terms args)
  arguments_are n types counted = record {
    counted = as_many (rows.argument_of terms.rows) (rows.args_at terms.rows args) ∙ ap length arguments_read ∙ counted;
    each = λ k a at.
        let found = found_mapped (rows.argument_of terms.rows) (rows.args_at terms.rows args) k a at in
        let there = sym (ap (λ xs. slice_get xs k) arguments_read) ∙ found.1 in
        subst IsTypeArgument found.2 (types k found.0 there);
  }
