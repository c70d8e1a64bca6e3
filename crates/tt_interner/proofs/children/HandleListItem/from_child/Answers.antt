-- by the child's sort
use Rattle.std.proofs.Common.{◌≡◌, ◌∙◌, ap, inl, inr, refl, subst, sym}
use Rattle.tt_kinds.specs.Parts.{ChildSort, absent, a_region, a_stored, child_sort, IsItem, IsItemOf}
use Rattle.tt_kinds.specs.declared.table.TermTable.TheVariants.{Types, Consts}
use Rattle.tt_interner.proofs.children.HandleListItem.from_child.Goals as goal

-- a list of handles is no list of arguments, which holds both types and constants
apart : Types ≡ Consts → ⊥
apart e = cc

pub handle-requires : goal.handle-requires
handle-requires g c = by (child_sort c.args.child.now) c.requires
  where
    by : (s : ChildSort) → IsItem g.K.IsListed.LIST s → s ≡ a_stored g.K.IsTermRow.TERM_TABLE
    by absent h = absurd h
    by a_region e =
        let types = g.met.K.IsListed.fits Types (subst (λ l. IsItemOf l Types) (sym e) (inl refl)) in
        let consts = g.met.K.IsListed.fits Consts (subst (λ l. IsItemOf l Consts) (sym e) (inr refl)) in
        absurd (apart (types ∙ sym consts))
    by (a_stored t) h = ap a_stored (g.met.K.IsListed.fits t h)
