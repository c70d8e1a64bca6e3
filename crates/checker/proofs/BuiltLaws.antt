-- Types that were built of operands' types, and the rules.
use Rattle.std.proofs.Common.{◌≡◌, ℕ, ◌<◌, List, Result, Ok, Err, Some, subst, sym}
use Rattle.std.specs.Prelude.{IfOk, IfSome, OnOk, Option, slice_get}
use Rattle.std.specs.Result.{result_ok}
use Rattle.tt_index.specs.declared.qualifier.Mutability.{Mutability}
use Rattle.tt_index.specs.declared.qualifier.Mutability.TheVariants.{Not}
use Rattle.tt_index.specs.declared.refusal.Refusal.{Refusal}
use Rattle.tt_kinds.specs.Handle.{Ty, Tys}
use Rattle.tt_kinds.specs.Kinds.{region_shape, ty_shape}
use Rattle.tt_kinds.specs.declared.region_kind.RegionKind.{RegionKind}
use Rattle.tt_kinds.specs.declared.region_kind.RegionKind.TheVariants.{ReErased}
use Rattle.tt_kinds.specs.declared.table.Table.TheVariants.{Types, TypeLists}
use Rattle.tt_kinds.specs.declared.ty_kind.TyKind.{TyKind}
use Rattle.tt_kinds.specs.declared.ty_kind.TyKind.TheVariants as kind
use Rattle.tt_kinds.specs.Tree.{Depth, Tree}
use Rattle.tt_interner.specs.Reads.{Reads}
use Rattle.tt_interner.specs.Rows.{type_row, tys_row}
use Rattle.tt_interner.specs.Stored.{Builds, Terms}
use Rattle.checker_syntax.specs.declared.program.Literal.{Literal}
use Rattle.tt_fold.specs.Steps.{tree_in}
use Rattle.checker_syntax.specs.declared.program.Span.{Span}
use Rattle.checker_syntax.specs.declared.program.Expression.TheVariants as of
use Rattle.checker.specs.Items.{AreTypesBefore}
use Rattle.checker.specs.Scope.{around, trees}
use Rattle.checker.specs.TypeTrees.{reference_by, reference_to, tuple_of}
use Rattle.checker.specs.Typing.{AllBefore, Around, IsItemOf, IsLet, IsTyped, Reaches, Writes, literal, literal_type, itself}
use Rattle.checker.specs.Typing.{through, argument, variable, tuple, reference}
use Rattle.checker.specs.Written.{part}
use Rattle.checker.specs.declared.scope.Scope.{Scope}
use Rattle.checker.proofs.ScopeLaws.{found_before}
use Rattle.checker.proofs.TreeLaws.{item_found, reference_built, reference_read, tree_at}

-- what follows for each result
pub for_ok : {A E : Type 0} {P Q : A → Type 0} (result : Result A E) → ((x : A) → P x → Q x) → IfOk result P → IfOk result Q
for_ok (Ok x) f h = f x h
for_ok (Err e) f h = tt

-- and of two facts of it
pub for_ok_both : {A E : Type 0} {P Q R : A → Type 0} (result : Result A E) → ((x : A) → P x → Q x → R x) → IfOk result P
    → IfOk result Q → IfOk result R
for_ok_both (Ok x) f h k = f x h k
for_ok_both (Err e) f h k = tt

-- what follows if there is a result
pub on_ok : {A E : Type 0} {P Q : Type 0} (result : Result A E) → (P → Q) → OnOk result P → OnOk result Q
on_ok (Ok x) f h = f h
on_ok (Err e) f h = tt

-- what is kept of a result
pub kept_holds : {A E : Type 0} (P : A → Type 0) (result : Result A E) (kept : Option A) → kept ≡ result_ok result
    → IfOk result P → IfSome kept P
kept_holds P (Ok x) kept is h = subst (λ o. IfSome o P) (sym is) h
kept_holds P (Err e) kept is h = subst (λ o. IfSome o P) (sym is) tt

-- a reference is taken further
pub reaches_further : {t u : Tree Depth} (v r : Tree Depth) → Reaches t u → u ≡ reference_by r v → Reaches t v
reaches_further v r itself is = subst (λ x. Reaches x v) (sym is) (through itself)
reaches_further v r (through reaches) is = through (reaches_further v r reaches is)

-- what a reference refers to is reached
pub reaches_read : {t : Tree Depth} (terms : Terms) (inner referent : Ty) (r : RegionKind) (m : Mutability) (read : TyKind)
    → Reads terms.rows Types inner.number (type_row read) → read ≡ kind.Ref r referent m → m ≡ Not
    → Reaches t (tree_in terms.rows (ty_shape inner)) → Reaches t (tree_in terms.rows (ty_shape referent))
reaches_read terms inner referent r m read reads is shared reaches =
    let as_ref = subst (λ k. Reads terms.rows Types inner.number (type_row k)) is reads in
    let as_shared = subst (λ x. Reads terms.rows Types inner.number (type_row (kind.Ref r referent x))) shared as_ref in
    reaches_further (tree_in terms.rows (ty_shape referent)) (tree_in terms.rows (region_shape r)) reaches
    (reference_read terms inner referent r as_shared)

-- an item of a tuple that was read
pub item_read : (terms : Terms) (ty : Ty) (list : Tys) (items : List Ty) (k : ℕ) (found : Ty) (read : TyKind)
    → Reads terms.rows Types ty.number (type_row read) → read ≡ kind.Tuple list → Reads terms.rows TypeLists list.number (tys_row items)
    → slice_get items k ≡ Some found → IsItemOf k (tree_in terms.rows (ty_shape ty)) (tree_in terms.rows (ty_shape found))
item_read terms ty list items k found read reads is listed at =
    item_found terms ty list items k found (subst (λ r. Reads terms.rows Types ty.number (type_row r)) is reads) listed at

-- a reference that was built by the erased region
pub reference_built_by : (old new : Terms) (r : RegionKind) (referent ty : Ty) (result : Result Ty Refusal) → r ≡ ReErased → result ≡ Ok ty
    → Builds result (λ t. t.number) old new (type_row (kind.Ref r referent Not))
    → tree_in new.rows (ty_shape ty) ≡ reference_to (tree_in old.rows (ty_shape referent))
reference_built_by old new r referent ty result erased is builds =
    subst (λ o. IfOk o (λ t. tree_in new.rows (ty_shape t) ≡ reference_to (tree_in old.rows (ty_shape referent)))) is
    (reference_built old new referent result (subst (λ x. Builds result (λ t. t.number) old new (type_row (kind.Ref x referent Not)))
    erased builds))

-- a literal has the literal's type
pub literal_typed : (A : Around) (number : ℕ) (l : Literal) (t : Tree Depth) → t ≡ literal_type l → IsTyped A number t (of.Literal l)
literal_typed A number l t is = literal is

-- an argument has the written type
pub argument_typed : (terms : Terms) (scope : Scope) (number k w : ℕ) (ty : Ty) → slice_get scope.function.now.inputs.items k ≡ Some w
    → Writes (around terms scope) w (tree_in terms.rows (ty_shape ty))
    → IsTyped (around terms scope) number (tree_in terms.rows (ty_shape ty)) (of.Argument k)
argument_typed terms scope number k w ty there written = argument there written

-- a use of a variable has the variable's type
pub variable_typed : (terms : Terms) (scope : Scope) (number n : ℕ) (ty : Ty) → IsLet (around terms scope) n → n < number
    → slice_get scope.types.now n ≡ Some ty → IsTyped (around terms scope) number (tree_in terms.rows (ty_shape ty)) (of.Local n)
variable_typed terms scope number n ty is before there = variable is (before, tree_at terms scope.types.now n ty there)

-- a tuple has the tuple of its items' types
pub tuple_typed : (old new : Terms) (scope : Scope) (number : ℕ) (s : Span) (numbers : List ℕ) (items : List Ty) (ty : Ty)
    → numbers ≡ part scope.body.now.operands.items s → AreTypesBefore scope.types.now number numbers items
    → tree_in new.rows (ty_shape ty) ≡ tuple_of (trees old.rows items)
    → IsTyped (around old scope) number (tree_in new.rows (ty_shape ty)) (of.Tuple s)
tuple_typed old new scope number s numbers items ty same are is =
    tuple (subst (λ ns. AllBefore (trees old.rows scope.types.now) number ns (trees old.rows items)) same
    (found_before old scope.types.now number numbers items are)) is

-- a reference has the reference to its value's type
pub reference_typed : (old new : Terms) (scope : Scope) (number n : ℕ) (found ty : Ty) → n < number
    → slice_get scope.types.now n ≡ Some found
    → tree_in new.rows (ty_shape ty) ≡ reference_to (tree_in old.rows (ty_shape found))
    → IsTyped (around old scope) number (tree_in new.rows (ty_shape ty)) (of.Reference n)
reference_typed old new scope number n found ty before there is = reference (before, tree_at old scope.types.now n found there) is
