use Rattle.std.proofs.Common.{Some, sym, subst, ap, ◌∙◌}
use Rattle.tt_kinds.specs.declared.ty_kind.TyKind.TheVariants.{Infer}
use Rattle.tt_kinds.specs.declared.ty_kind.InferTy.TheVariants.{TyVar}
use Rattle.unify.specs.Bindings.{table_of, AreEntries, KeepsEarlier}
use Rattle.unify.proofs.ComparisonLaws.{earlier_made}
use Rattle.unify.proofs.KindLaws.{stored_variable}
use Rattle.unify.proofs.TableLaws.{entries_stay, pushed_entries}
use Rattle.unify.proofs.bindings.Bindings.new_variable.Goals as goal

pub returns-in_err-push-clause-table : goal.returns-in_err-push-clause-table
returns-in_err-push-clause-table c =
    subst (AreEntries c.mk_ty.new.self) (sym c.in_err-push.ensures.items)
    (entries_stay c.args.cx.now c.mk_ty.new.self c.self.inside.table.entries.items
    (record { rows = c.mk_ty.ensures.grows; limit = c.mk_ty.ensures.limit })
    (subst (λ b. AreEntries c.args.cx.now b.entries) (sym c.self.view_is) c.requires))

pub returns-clause-table : goal.returns-clause-table
returns-clause-table c =
    subst (AreEntries c.mk_ty.new.self) (sym c.in_ok-push.ensures.items)
    (pushed_entries c.mk_ty.new.self c.self.inside.table.entries.items
    (entries_stay c.args.cx.now c.mk_ty.new.self c.self.inside.table.entries.items
    (record { rows = c.mk_ty.ensures.grows; limit = c.mk_ty.ensures.limit })
    (subst (λ b. AreEntries c.args.cx.now b.entries) (sym c.self.view_is) c.requires)))

pub returns-clause-earlier : goal.returns-clause-earlier
returns-clause-earlier c =
    let bound = c.self.inside.table.bound.items in
    subst (λ b. KeepsEarlier b (record { entries = c.push.new.self.items; bound = bound })) c.self.view_is
    (subst (λ es. KeepsEarlier (table_of c.self.inside.table) (record { entries = es; bound = bound }))
    (sym c.in_ok-push.ensures.items) (earlier_made (table_of c.self.inside.table)))

pub returns-clause-is : goal.returns-clause-is
returns-clause-is c =
    stored_variable c.args.cx.now.rows c.mk_ty.new.self.rows c.in_ok-ty.ty (Infer (TyVar c.from_usize-variable.result)) c.in_ok-ty.ensures.means
    ∙ ap Some (c.from_usize-variable.ensures ∙ c.len-number.ensures)
