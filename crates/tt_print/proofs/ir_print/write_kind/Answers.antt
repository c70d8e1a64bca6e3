use Rattle.std.proofs.Common.{ℕ, refl, sym, subst, ◌∙◌}
use Rattle.tt_kinds.specs.Kinds.{kind_form, kind_sort}
use Rattle.tt_interner.specs.Rows.{size, meaning}
use Rattle.tt_interner.proofs.InfoLaws.{form_has_vars}
use Rattle.tt_visit.proofs.VisitSteps.{parts-kind}
use Rattle.tt_print.specs.Text.{Head, names}
use Rattle.tt_print.specs.Spelling.{IsNamedSubject}
use Rattle.tt_print.proofs.PrintLaws.{kind-named, kind-written}
use Rattle.tt_print.proofs.PrintPieces.{opens-added, opens-then, opens-as, work-kind}
use Rattle.tt_print.proofs.ir_print.write_kind.Goals as goal

pub write_binder-requires : goal.write_binder-requires
write_binder-requires c list is =
    let kind = c.args.kind.now in
    form_has_vars (kind_sort kind) (size c.args.cx.now.rows) (kind_form kind) list (sym c.bound_vars.ensures ∙ is) c.requires

pub write_head-requires : goal.write_head-requires
write_head-requires c =
    subst (λ (h : Head ℕ). IsNamedSubject (size c.args.cx.now.rows) h.subject) (sym c.kind_spelling-spelling.ensures.head) (kind-named (size c.args.cx.now.rows) c.args.kind.now c.requires)

pub returns : goal.returns
returns c s =
    let rows = c.args.cx.now.rows in
    let spelling = c.kind_spelling-spelling.ensures in
    let parts = (parts-kind (size rows) c.args.kind.now c.requires).1 in
    let added = c.push_parts.ensures rows (rw c.parts-parts.ensures parts) in
    opens-as rows _ _ _ _ _ _ _ _ _
    (kind-written (names rows) (meaning rows) s c.args.kind.now _ _ _ _ _ _ c.bound_vars.ensures spelling.head spelling.style c.parts-parts.ensures refl refl)
    (rw c.parts-parts.ensures (work-kind (meaning rows) c.args.kind.now))
    (opens-then rows tt _ _ _ _ _ _ _ _ _ c.in_ok-write_binder.ensures
    (opens-then rows tt _ _ _ _ _ _ _ _ _ c.in_ok-write_head.ensures (opens-added rows _ _ _ _ _ _ added)))
