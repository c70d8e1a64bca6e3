-- by the kind in the row
use Rattle.std.proofs.Common.{Some, refl, ap, sym, ◌∙◌}
use Rattle.tt_kinds.specs.Label.{type_label, const_label}
use Rattle.tt_kinds.specs.Handle.{any_handle}
use Rattle.tt_kinds.specs.Kinds.{ty_form, const_form, predicate_form, existential_form}
use Rattle.tt_kinds.specs.declared.table.TermTable.TheVariants as terms_of
use Rattle.tt_kinds.specs.declared.parts.Kind.TheVariants as kind
use Rattle.tt_interner.proofs.NodeSteps.{kind_there, binder-relabelled, parts-relabelled}
use Rattle.tt_interner.proofs.interner.Interner.contents_at.Goals as goal

pub returns-in-Types-clause-bound_vars : goal.returns-in-Types-clause-bound_vars
returns-in-Types-clause-bound_vars c = rw (c.typed.ensures, kind_there _ (any_handle terms_of.Types c.typed.result) (kind.Ty c.kind-kind.result.now) refl c.kind-kind.ensures.row) (c.bound_vars.ensures ∙ sym (binder-relabelled type_label (ty_form c.kind-kind.result.now)))

pub returns-in-Types-clause-children : goal.returns-in-Types-clause-children
returns-in-Types-clause-children c = rw (c.typed.ensures, kind_there _ (any_handle terms_of.Types c.typed.result) (kind.Ty c.kind-kind.result.now) refl c.kind-kind.ensures.row) (c.parts.ensures ∙ sym (parts-relabelled type_label (ty_form c.kind-kind.result.now)))

pub returns-in-Consts-clause-bound_vars : goal.returns-in-Consts-clause-bound_vars
returns-in-Consts-clause-bound_vars c = rw (c.typed-in-Consts.ensures, kind_there _ (any_handle terms_of.Consts c.typed-in-Consts.result) (kind.Const c.kind-kind-in-Consts.result.now) refl c.kind-kind-in-Consts.ensures.row) (c.bound_vars-in-Consts.ensures ∙ sym (binder-relabelled const_label (const_form c.kind-kind-in-Consts.result.now)))

pub returns-in-Consts-clause-children : goal.returns-in-Consts-clause-children
returns-in-Consts-clause-children c = rw (c.typed-in-Consts.ensures, kind_there _ (any_handle terms_of.Consts c.typed-in-Consts.result) (kind.Const c.kind-kind-in-Consts.result.now) refl c.kind-kind-in-Consts.ensures.row) (c.parts-in-Consts.ensures ∙ sym (parts-relabelled const_label (const_form c.kind-kind-in-Consts.result.now)))

pub returns-in-Patterns-clause-bound_vars : goal.returns-in-Patterns-clause-bound_vars
returns-in-Patterns-clause-bound_vars c = rw (c.typed-in-Patterns.ensures, kind_there _ (any_handle terms_of.Patterns c.typed-in-Patterns.result) (kind.Pat c.kind.result.now) refl c.kind.ensures.row) refl

pub returns-in-Patterns-clause-children : goal.returns-in-Patterns-clause-children
returns-in-Patterns-clause-children c = rw (c.typed-in-Patterns.ensures, kind_there _ (any_handle terms_of.Patterns c.typed-in-Patterns.result) (kind.Pat c.kind.result.now) refl c.kind.ensures.row) c.parts-in-Patterns.ensures

pub returns-in-Predicates-clause-bound_vars : goal.returns-in-Predicates-clause-bound_vars
returns-in-Predicates-clause-bound_vars c = rw (c.typed-in-Predicates.ensures, kind_there _ (any_handle terms_of.Predicates c.typed-in-Predicates.result) (kind.Predicate c.kind-kind-in-Predicates.result.now) refl c.kind-kind-in-Predicates.ensures.row) (ap Some c.bound_vars-in-Predicates.ensures)

pub returns-in-Predicates-clause-children : goal.returns-in-Predicates-clause-children
returns-in-Predicates-clause-children c = rw (c.typed-in-Predicates.ensures, kind_there _ (any_handle terms_of.Predicates c.typed-in-Predicates.result) (kind.Predicate c.kind-kind-in-Predicates.result.now) refl c.kind-kind-in-Predicates.ensures.row) (c.parts-in-Predicates.ensures ∙ ap (λ v. (predicate_form v.now).parts) c.skip_binder.ensures ∙ ap (λ v. (predicate_form v).parts) c.as_ref.ensures.value)

pub returns-in-Existentials-clause-bound_vars : goal.returns-in-Existentials-clause-bound_vars
returns-in-Existentials-clause-bound_vars c = rw (c.typed-in-Existentials.ensures, kind_there _ (any_handle terms_of.Existentials c.typed-in-Existentials.result) (kind.Existential c.kind-kind-in-Existentials.result.now) refl c.kind-kind-in-Existentials.ensures.row) (ap Some c.bound_vars-in-Existentials.ensures)

pub returns-in-Existentials-clause-children : goal.returns-in-Existentials-clause-children
returns-in-Existentials-clause-children c = rw (c.typed-in-Existentials.ensures, kind_there _ (any_handle terms_of.Existentials c.typed-in-Existentials.result) (kind.Existential c.kind-kind-in-Existentials.result.now) refl c.kind-kind-in-Existentials.ensures.row) (c.parts-in-Existentials.ensures ∙ ap (λ v. (existential_form v.now).parts) c.skip_binder-in-Existentials.ensures ∙ ap (λ v. (existential_form v).parts) c.as_ref-in-Existentials.ensures.value)
