-- by the form of the kind
use Rattle.std.proofs.Common.{refl}
use Rattle.std.proofs.lemmas.Bool.{false≢true}
use Rattle.tt_kinds.specs.Kinds.{kind_form, kind_sort}
use Rattle.tt_interner.specs.Rows.{size}
use Rattle.tt_interner.proofs.InfoLaws.{form_in_range, form_of_range}
use Rattle.tt_interner.proofs.interner.Interner.owns_contents.Goals as goal

pub returns : goal.returns
returns c = (
  λ is. form_in_range (size c.args.self.now.rows) (kind_sort c.args.kind.now) (kind_form c.args.kind.now) (c.if-not-owns_name.ensures.0 refl) (rw c.parts-parts.ensures at (c.if-not-owns_parts.ensures.0 refl)) (rw c.bound_vars.ensures at (c.owns_binder.ensures.0 is)),
  λ h. c.owns_binder.ensures.1 (rw c.bound_vars.ensures (form_of_range (size c.args.self.now.rows) (kind_sort c.args.kind.now) (kind_form c.args.kind.now) h).2),
)

pub returns-then-not-owns_name : goal.returns-then-not-owns_name
returns-then-not-owns_name c = (λ is. absurd (false≢true is), λ h. c.if-not-owns_name.ensures.1 (form_of_range (size c.args.self.now.rows) (kind_sort c.args.kind.now) (kind_form c.args.kind.now) h).0)

pub returns-then-not-owns_parts : goal.returns-then-not-owns_parts
returns-then-not-owns_parts c = (λ is. absurd (false≢true is), λ h. c.if-not-owns_parts.ensures.1 (rw c.parts-parts.ensures (form_of_range (size c.args.self.now.rows) (kind_sort c.args.kind.now) (kind_form c.args.kind.now) h).1))
