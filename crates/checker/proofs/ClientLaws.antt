-- What the functions of the checker need of the interner and of bindings.
use Rattle.std.proofs.Common.{◌≡◌, ℕ, ◌<◌, List, Ok, [], ◌∷◌, zero, suc, sym, subst}
use Rattle.tt_kinds.specs.Handle.{Symbol, GenericArgs}
use Rattle.tt_kinds.specs.declared.declaration.DeclarationKind.{DeclarationKind}
use Rattle.tt_interner.specs.Declarations.{Declares}
use Rattle.tt_interner.specs.Rows.{declared_row, size, table}
use Rattle.tt_interner.proofs.RowLaws.{row-new}
use Rattle.tt_kinds.specs.declared.table.Table.TheVariants.{Declarations}
use Rattle.std.proofs.lemmas.Option.{slice_get_within}
use Rattle.tt_kinds.specs.Kinds.{ty_shape}
use Rattle.tt_interner.specs.Stored.{Terms}
use Rattle.tt_interner.proofs.Growth.{Extends-trans}
use Rattle.tt_interner.specs.Owned.{IsOwned}
use Rattle.tt_kinds.specs.declared.field.FieldInfo.{FieldInfo}
use Rattle.tt_binder.specs.Fields.{ArePlain}
use Rattle.checker.specs.Items.{AreOwnedFields}

-- an id that was declared is one of the declarations
pub declared_within : {H : Type 0} (h : H) (number : H → ℕ) (old new : Terms) (kind : DeclarationKind) (name : Symbol)
    → Declares (Ok h) number old new kind name → number h < size new.rows Declarations
declared_within h number old new kind name d =
    let row = declared_row (size old.rows Declarations) (record { kind = kind; name = name }) in
    let within = slice_get_within (table Declarations (row ∷ old.rows)) (size old.rows Declarations) row (row-new row old.rows) in
    subst (λ rows. number h < size rows Declarations) (sym d.adds.rows)
    (subst (λ n. n < size (row ∷ old.rows) Declarations) (sym d.adds.last) within)

-- fields that were instantiated are the interner's
pub fields_owned : (args : GenericArgs) (declared fields : List FieldInfo) (old new : Terms) → ArePlain args declared fields old.rows new.rows → AreOwnedFields new fields
fields_owned args declared [] old new plain i field at = absurd (cc)
fields_owned args [] (f ∷ fields) old new plain i field at = absurd plain
fields_owned args (d ∷ declared) (f ∷ fields) old new plain zero field at = let same : f ≡ field = cc in subst (λ x. IsOwned ty_shape new x.ty) same plain.0
fields_owned args (d ∷ declared) (f ∷ fields) old new plain (suc i) field at = fields_owned args declared fields old new plain.2 i field at

-- the laws of growth, for `using`
pub ruleset growth_laws = (Extends-trans)
