-- The lists of clauses in an instance, and in opened contents, hold clauses alone.
use Rattle.std.proofs.Common.{◌≡◌, ℕ, zero, suc, List, [], ◌∷◌, refl, subst, Bool, true, false}
use Rattle.std.specs.Prelude.{Option, Some, None, if◌then◌else◌}
use Rattle.tt_kinds.specs.Label.{Name, Sort, Entry}
use Rattle.tt_kinds.specs.Tree.{Depth, at, canonical, Tree}
use Rattle.tt_kinds.specs.Reading.{keep}
use Rattle.tt_kinds.specs.Argument.{Argument, same_sort, argument}
use Rattle.tt_kinds.specs.Plain.{shifted_or, given_under, inst_tree}
use Rattle.tt_kinds.specs.Shape.{Shape}
use Rattle.tt_kinds.specs.Kinds.{arg_shape}
use Rattle.tt_kinds.specs.declared.generic_arg.GenericArgKind.{GenericArgKind}
use Rattle.tt_interner.specs.Rows.{Row, AreRows}
use Rattle.tt_fold.specs.Steps.{IsPartOf, tree_in}
use Rattle.tt_fold.proofs.ClauseLaws.{KeepsClauses, leaves-keep, rebuild-keeps, shift-keeps, value_keeps}
use Rattle.tt_interner.specs.Arguments.{argument_of, arguments, AreArguments}
use Rattle.tt_binder.specs.Opening.{open_variable, open_tree}
use Rattle.tt_binder.proofs.OpeningLaws.{by_place, open-inner, open-own, open-outer}

-- the lists of clauses in the arguments hold clauses alone
abbrev ArgumentsKeep : List (Argument Depth) → Type 0
ArgumentsKeep args = (s : Sort) (i : ℕ) (t : Tree Depth) → argument args s i ≡ Some t → KeepsClauses t

given-keeps : (args : List (Argument Depth)) → ArgumentsKeep args → (k : ℕ) (s : Sort) (i : ℕ) (name : Name) → KeepsClauses (given_under args k s i name)
given-keeps args keeps k s i name = by (argument args s i) refl
  where
    by : (o : Option (Tree Depth)) → argument args s i ≡ o → KeepsClauses (shifted_or (argument args s i) k s i name)
    by None e = rw e tt
    by (Some u) e = rw e (shift-keeps k u (keeps s i u e))

inst-keeps : (args : List (Argument Depth)) → ArgumentsKeep args → (t : Tree Depth) → KeepsClauses t → KeepsClauses (inst_tree 0 args t)
inst-keeps args keeps t h = rebuild-keeps (λ j d. d) (given_under args) (given-keeps args keeps) 0 t h

-- the lists of clauses in an opened tree
variable-keeps : (args : List (Argument Depth)) → ArgumentsKeep args → (k : ℕ) (s : Sort) (d : Depth) (e : Entry Name) → KeepsClauses (open_variable args k s d e)
variable-keeps args keeps k s canonical e = tt
variable-keeps args keeps k s (at d) e = by_place (KeepsClauses (open_variable args k s (at d) e)) k d
    (λ h. rw (open-inner args k d s e h) tt)
    (λ is. rw (open-own args k d s e is) (given-keeps args keeps k s e.var []))
    (λ h. rw (open-outer args k d s e h) tt)

chosen : (b : Bool) (u t : Tree Depth) → (if b then Some u else None) ≡ Some t → u ≡ t
chosen true u t e = cc
chosen false u t e = cc

arguments_keep : (rows : List Row) → AreRows rows → (items : List GenericArgKind) → AreArguments rows items → ArgumentsKeep (arguments rows items)
arguments_keep rows are [] parts s i t e = cc
arguments_keep rows are (x ∷ items) parts s zero t e =
    subst KeepsClauses (chosen (same_sort s (argument_of rows x).sort) (argument_of rows x).value t e) (value_keeps rows are (arg_shape x) parts.0)
arguments_keep rows are (x ∷ items) parts s (suc i) t e = arguments_keep rows are items parts.1 s i t e

-- an instance of a value with arguments
pub instance_keeps : (rows : List Row) → AreRows rows → (items : List GenericArgKind) → AreArguments rows items → (s : Shape) → IsPartOf rows s
    → KeepsClauses (inst_tree 0 (arguments rows items) (tree_in rows s))
instance_keeps rows are items parts s part = inst-keeps (arguments rows items) (arguments_keep rows are items parts) (tree_in rows s) (value_keeps rows are s part)

-- a binder's contents, opened with arguments
pub opened_keeps : (rows : List Row) → AreRows rows → (items : List GenericArgKind) → AreArguments rows items → (s : Shape) → IsPartOf rows s
    → KeepsClauses (open_tree 0 (arguments rows items) (tree_in rows s))
opened_keeps rows are items parts s part =
    leaves-keep (open_variable (arguments rows items)) keep (variable-keeps (arguments rows items) (arguments_keep rows are items parts)) (λ k o i name. tt) 0 (tree_in rows s) (value_keeps rows are s part)
