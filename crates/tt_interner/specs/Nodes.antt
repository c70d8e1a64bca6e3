-- The kind of a stored term, and a term like it with other children.
use Rattle.std.specs.Prelude.{◌≡◌, List, [], get_or, Result, IfOk}
use Rattle.tt_index.specs.declared.refusal.Refusal.{Refusal}
use Rattle.tt_kinds.specs.Kinds.{refilled, kind_form, kind_table}
use Rattle.tt_kinds.specs.declared.ty_kind.TyKind.TheVariants as ty
use Rattle.tt_kinds.specs.declared.parts.Kind.{Kind}
use Rattle.tt_kinds.specs.declared.parts.Kind.TheVariants as kind
use Rattle.tt_kinds.specs.TermTable.{term_table}
use Rattle.tt_kinds.specs.declared.handle.AnyHandle.{AnyHandle}
use Rattle.tt_kinds.specs.declared.parts.Parts.{Parts}
use Rattle.tt_interner.specs.Rows.{Row, type_row, const_row, pat_row, predicate_row, existential_row, text_row}
use Rattle.tt_interner.specs.Rows.{kind_row, table}
use Rattle.tt_interner.specs.Stored.{Terms, Builds}

-- the kind of a row that has one; lists and texts have none
abbrev pub row_kind : Row → Kind
row_kind (type_row k) = kind.Ty k
row_kind (const_row k) = kind.Const k
row_kind (pat_row k) = kind.Pat k
row_kind (predicate_row p) = kind.Predicate p
row_kind (existential_row p) = kind.Existential p
row_kind _ = kind.Ty ty.Never

-- the kind of a stored term
unfoldable pub stored_kind : List Row → AnyHandle → Kind
stored_kind rows n = row_kind (get_or (table (term_table n.table) rows) n.number (text_row []))

-- the result is the term that has these children and is otherwise like n, which is added if it is new
pub record BuildsLike (result : Result AnyHandle Refusal) (old new : Terms) (n : AnyHandle) (p : Parts) : Type 0 where
  pub kind : Kind
  pub table : kind_table kind ≡ n.table
  pub form : kind_form kind ≡ refilled p (kind_form (stored_kind old.rows n))
  pub builds : Builds result (λ u. u.number) old new (kind_row kind)
  pub of_table : IfOk result (λ u. u.table ≡ n.table)
