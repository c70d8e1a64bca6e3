-- Terms of one kind up to their parts: if the parts are linked, so are the terms.
use Rattle.std.proofs.Common.{◌≡◌, refl, ℕ, zero, suc, List, [], ◌∷◌, length, slice_get, Some, sym, subst, ap, ◌∙◌}
use Rattle.std.proofs.Common.{not, false, arith}
use Rattle.tt_kinds.specs.Label.{Label, Sort}
use Rattle.tt_kinds.specs.Tree as tree
use Rattle.tt_kinds.specs.Tree.{Depth, Tree, Forest}
use Rattle.tt_kinds.specs.Shape.{Shapes, append, Meaning, fill, fill_all}
use Rattle.tt_kinds.specs.Kinds.{Form, param, bound, plain, under, form_parts, refilled, form_shape, kind_form}
use Rattle.tt_kinds.specs.Kinds.{kind_sort, kind_table, kind_shape, parts_shapes, child_shapes, children_shapes}
use Rattle.tt_kinds.specs.Kinds.{items_tree}
use Rattle.tt_kinds.specs.Kinds.{handle_shape}
use Rattle.tt_kinds.specs.declared.parts.Child.{Child}
use Rattle.tt_kinds.specs.declared.parts.Child.TheVariants as child
use Rattle.tt_kinds.specs.declared.parts.Parts.{Parts}
use Rattle.tt_kinds.specs.declared.parts.Kind.{Kind}
use Rattle.tt_kinds.specs.declared.parts.Kind.TheVariants as kind
use Rattle.tt_kinds.specs.declared.handle.AnyHandle.{AnyHandle}
use Rattle.tt_kinds.specs.declared.table.TermTable.{TermTable}
use Rattle.tt_kinds.specs.declared.table.TermTable.TheVariants as terms_of
use Rattle.tt_kinds.specs.contracts.parts.KindPartialEq.TheImpl as kinds
use Rattle.tt_kinds.proofs.KindEqualityLaws.{any_kind_exact}
use Rattle.unify.specs.Substitution.{Substitution}
use Rattle.unify.specs.Triangular.{Pairs, by_parts, HasParts, are_one, in_term, in_node, in_binder, AreLinked}
use Rattle.unify.specs.Triangular.{done, next}
use Rattle.unify.proofs.FormEqualities.{tested}

-- kinds of one table are of one sort
table_sort : (k other : Kind) → kind_table k ≡ kind_table other → kind_sort k ≡ kind_sort other
table_sort (kind.Ty k) (kind.Const c) e = absurd (cc)
table_sort (kind.Const c) (kind.Ty k) e = absurd (cc)
table_sort (kind.Ty k) (kind.Pat p) e = absurd (cc)
table_sort (kind.Pat p) (kind.Ty k) e = absurd (cc)
table_sort (kind.Ty k) (kind.Predicate p) e = absurd (cc)
table_sort (kind.Predicate p) (kind.Ty k) e = absurd (cc)
table_sort (kind.Ty k) (kind.Existential p) e = absurd (cc)
table_sort (kind.Existential p) (kind.Ty k) e = absurd (cc)
table_sort k other e = refl

module _ (entries : Substitution) (P C : Pairs) (m : Meaning) where
  -- two children, or none
  abbrev pub AreChildren : Child → Child → Type 0
  AreChildren c d = AreLinked entries P C (fill_all m (child_shapes c)) (fill_all m (child_shapes d))

  -- the children of two terms, or lists, in order
  abbrev AreAll : Shapes → Shapes → Type 0
  AreAll ss us = AreLinked entries P C (fill_all m ss) (fill_all m us)

  none_left : {t : Tree Depth} {ts : Forest Depth} → AreLinked entries P C tree.none (tree.also t ts) → ⊥
  none_left h = elim h [ ]

  none_right : {t : Tree Depth} {ts : Forest Depth} → AreLinked entries P C (tree.also t ts) tree.none → ⊥
  none_right h = elim h [ ]

  joined : (c d : Child) (ss us : Shapes) → AreChildren c d → AreAll ss us
      → AreAll (append (child_shapes c) ss) (append (child_shapes d) us)
  unfolding fill
  joined child.Absent child.Absent ss us h rest = rest
  joined child.Absent d ss us h rest = absurd (none_left h)
  joined c child.Absent ss us h rest = absurd (none_right h)
  joined c d ss us (next h hs) rest = next h rest

  forms_linked : (s : Sort) (f : Form (Label ℕ)) (q : Parts) → AreAll (parts_shapes (form_parts f)) (parts_shapes q)
      → HasParts entries P C (fill m (form_shape s f)) (fill m (form_shape s (refilled q f)))
  unfolding fill
  forms_linked s (param i name) q h = are_one
  forms_linked s (bound d e) q h = are_one
  forms_linked s (plain l p) q h = in_term h
  forms_linked s (under l vars r p) q h = in_term (next (by_parts (in_binder (by_parts (in_node h)))) done)

  -- two terms whose children are linked, from what was read of them and tested
  pub parts_linked : (l r : AnyHandle) (k other made : Kind) (p q : Parts) → p ≡ form_parts (kind_form k)
      → kind_table made ≡ kind_table k → kind_form made ≡ refilled q (kind_form k)
      → not ((kinds.ghosts).eq made other) ≡ false
      → fill m (handle_shape l) ≡ fill m (kind_shape k) → fill m (handle_shape r) ≡ fill m (kind_shape other)
      → AreChildren p.first q.first → AreChildren p.second q.second
      → HasParts entries P C (fill m (handle_shape l)) (fill m (handle_shape r))
  parts_linked l r k other made p q is table form same means means' first second =
      let exact : made ≡ other = any_kind_exact made other (tested ((kinds.ghosts).eq made other) same) in
      let one : kind_sort k ≡ kind_sort other = table_sort k other (sym table ∙ ap kind_table exact) in
      let other_form : refilled q (kind_form k) ≡ kind_form other = sym form ∙ ap kind_form exact in
      let all : AreAll (parts_shapes (form_parts (kind_form k))) (parts_shapes q) =
      subst (λ x. AreAll (parts_shapes x) (parts_shapes q)) is
      (joined p.first q.first (child_shapes p.second) (child_shapes q.second) first second) in
      subst (λ t. HasParts entries P C t (fill m (handle_shape r))) (sym means)
      (subst (λ u. HasParts entries P C (fill m (kind_shape k)) u) (sym means')
      (subst (λ s. HasParts entries P C (fill m (kind_shape k)) (fill m (form_shape s (kind_form other)))) one
      (subst (λ f. HasParts entries P C (fill m (kind_shape k)) (fill m (form_shape (kind_sort k) f))) other_form
      (forms_linked (kind_sort k) (kind_form k) q all))))

  all_linked : (cs ds : List Child) → length cs ≡ length ds
      → ((i : ℕ) (c d : Child) → slice_get cs i ≡ Some c → slice_get ds i ≡ Some d → AreChildren c d)
      → AreAll (children_shapes cs) (children_shapes ds)
  unfolding fill
  all_linked [] [] same h = done
  all_linked [] (d ∷ ds) same h = absurd (omega arith)
  all_linked (c ∷ cs) [] same h = absurd (omega arith)
  all_linked (c ∷ cs) (d ∷ ds) same h =
      joined c d (children_shapes cs) (children_shapes ds) (h zero c d refl refl)
      (all_linked cs ds (omega arith) (λ i x y at at'. h (suc i) x y at at'))

  items_in : (s : TermTable) (ts us : Forest Depth) → AreLinked entries P C ts us
      → HasParts entries P C (items_tree s ts) (items_tree s us)
  items_in terms_of.ClauseLists ts us h = in_term h
  items_in _ ts us h = in_node h

  -- two lists of one table and one length whose items are linked
  pub items_linked : (l r : AnyHandle) (s s' : TermTable) (cs ds : List Child) → s ≡ s'
      → fill m (handle_shape l) ≡ items_tree s (fill_all m (children_shapes cs))
      → fill m (handle_shape r) ≡ items_tree s' (fill_all m (children_shapes ds)) → length cs ≡ length ds
      → ((i : ℕ) (c d : Child) → slice_get cs i ≡ Some c → slice_get ds i ≡ Some d → AreChildren c d)
      → HasParts entries P C (fill m (handle_shape l)) (fill m (handle_shape r))
  items_linked l r s s' cs ds one is is' same h =
      let other : fill m (handle_shape r) ≡ items_tree s (fill_all m (children_shapes ds)) =
      is' ∙ ap (λ x. items_tree x (fill_all m (children_shapes ds))) (sym one) in
      subst (λ t. HasParts entries P C t (fill m (handle_shape r))) (sym is)
      (subst (λ u. HasParts entries P C (items_tree s (fill_all m (children_shapes cs))) u) (sym other)
      (items_in s (fill_all m (children_shapes cs)) (fill_all m (children_shapes ds)) (all_linked cs ds same h)))
