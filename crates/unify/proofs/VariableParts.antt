-- The variables in a term are those in its parts.
use Rattle.std.proofs.Common.{◌≡◌, ℕ, ◌+◌, ◌<◌, ◌≤◌, suc, zero, Contains, ◌⊎◌, inl, inr, Option, None, Some, List, [], ◌∷◌, slice_get, refl, sym, subst, ap, ◌∙◌, arith}
use Rattle.tt_kinds.specs.Label.{Label, Sort}
use Rattle.tt_kinds.specs.Tree as tree
use Rattle.tt_kinds.specs.Tree.{Depth, Tree, Forest}
use Rattle.tt_kinds.specs.Shape.{Shapes, append, Meaning, fill, fill_all}
use Rattle.tt_kinds.specs.Kinds.{Form, param, bound, plain, under, form_parts, form_shape, kind_form}
use Rattle.tt_kinds.specs.Kinds.{kind_sort, kind_shape, parts_shapes, child_shapes, children_shapes}
use Rattle.tt_kinds.specs.Kinds.{items_tree}
use Rattle.tt_kinds.specs.declared.parts.Child.{Child}
use Rattle.tt_kinds.specs.declared.parts.Child.TheVariants as child
use Rattle.tt_kinds.specs.declared.parts.Parts.{Parts}
use Rattle.tt_kinds.specs.declared.parts.Kind.{Kind}
use Rattle.tt_kinds.specs.declared.table.TermTable.{TermTable}
use Rattle.tt_kinds.specs.declared.table.TermTable.TheVariants as terms_of
use Rattle.tt_interner.specs.Rows.{meaning}
use Rattle.tt_interner.specs.Stored.{Terms}
use Rattle.unify.specs.Substitution.{variable_of, variable_in, IsWithout, AreWithout}
use Rattle.unify.specs.Triangular.{weight, weights}
use Rattle.unify.specs.Variables.{ListsAll, ChildListed}
use Rattle.std.proofs.lemmas.Option.{same_Some}
use Rattle.unify.proofs.SubstitutionLaws.{first_tree}

-- nothing is both none and some
none_and_some : (o : Option ℕ) (v : ℕ) → o ≡ None → o ≡ Some v → ⊥
none_and_some o v none some = cc

module _ (found : List ℕ) (terms : Terms) where
  abbrev m : Meaning
  m = meaning terms.rows

  -- each variable in trees in order is in the list
  abbrev AreListed : Forest Depth → Type 0
  AreListed ts = (v : ℕ) → Contains found v ⊎ AreWithout v ts

  both : {A B : Type 0} (v : ℕ) → Contains found v ⊎ A → Contains found v ⊎ B → Contains found v ⊎ (A × B)
  both v (inl there) second = inl there
  both v first (inl there) = inl there
  both v (inr a) (inr b) = inr (a, b)

  joined : (c : Child) (ss : Shapes) (n : ℕ) → ChildListed found terms n c
      → weights (fill_all m (append (child_shapes c) ss)) < n → AreListed (fill_all m ss)
      → AreListed (fill_all m (append (child_shapes c) ss))
  unfolding fill
  joined child.Absent ss n h few rest = rest
  joined (child.Region r) ss n h few rest = λ v. both v (h _ refl (omega (arith, few)) v) (rest v)
  joined (child.Stored r) ss n h few rest = λ v. both v (h _ refl (omega (arith, few)) v) (rest v)

  alone : (c : Child) (n : ℕ) → ChildListed found terms n c → weights (fill_all m (child_shapes c)) < n
      → AreListed (fill_all m (child_shapes c))
  unfolding fill
  alone child.Absent n h few = λ v. inr tt
  alone (child.Region r) n h few = λ v. both v (h _ refl (omega (arith, few)) v) (inr tt)
  alone (child.Stored r) n h few = λ v. both v (h _ refl (omega (arith, few)) v) (inr tt)

  fewer_after : (c : Child) (ss : Shapes) → weights (fill_all m ss) ≤ weights (fill_all m (append (child_shapes c) ss))
  unfolding fill
  fewer_after child.Absent ss = omega arith
  fewer_after (child.Region r) ss = omega arith
  fewer_after (child.Stored r) ss = omega arith

  form_listed : (s : Sort) (f : Form (Label ℕ)) (n : ℕ) → variable_in (fill m (form_shape s f)) ≡ None
      → weight (fill m (form_shape s f)) < suc n
      → (weights (fill_all m (parts_shapes (form_parts f))) < n → AreListed (fill_all m (parts_shapes (form_parts f))))
      → ListsAll found (fill m (form_shape s f))
  unfolding fill
  form_listed s (param i name) n none few h = λ v. inr tt
  form_listed s (bound d e) n none few h = λ v. inr tt
  form_listed s (plain l p) n none few h = λ v. elim (h (omega (arith, few)) v) [
    | inl there ↦ inl there
    | inr without ↦ inr ((λ some. none_and_some _ v none some), without)
  ]
  form_listed s (under l vars r p) n none few h = λ v. elim (h (omega (arith, few)) v) [
    | inl there ↦ inl there
    | inr without ↦ inr ((λ some. none_and_some _ v none some), (without, tt))
  ]

  -- a term that is no variable, by its parts
  pub parts_listed : (t : Tree Depth) (k : Kind) (p : Parts) (n : ℕ) → p ≡ form_parts (kind_form k)
      → t ≡ fill m (kind_shape k) → variable_in t ≡ None → weight t < suc n → ChildListed found terms n p.first
      → ChildListed found terms n p.second → ListsAll found t
  parts_listed t k p n is means none few first second =
      subst (ListsAll found) (sym means)
      (form_listed (kind_sort k) (kind_form k) n (subst (λ u. variable_in u ≡ None) means none)
      (subst (λ u. weight u < suc n) means few) listed)
    where
      listed : weights (fill_all m (parts_shapes (form_parts (kind_form k)))) < n
          → AreListed (fill_all m (parts_shapes (form_parts (kind_form k))))
      listed fewer =
          let own : weights (fill_all m (parts_shapes p)) < n =
          subst (λ q. weights (fill_all m (parts_shapes q)) < n) (sym is) fewer in
          let after = fewer_after p.first (child_shapes p.second) in
          subst (λ q. AreListed (fill_all m (parts_shapes q))) is
          (joined p.first (child_shapes p.second) n first own (alone p.second n second (omega (arith, own, after))))

  all_listed : (cs : List Child) (n : ℕ) → weights (fill_all m (children_shapes cs)) < n
      → ((i : ℕ) (c : Child) → slice_get cs i ≡ Some c → ChildListed found terms n c)
      → AreListed (fill_all m (children_shapes cs))
  unfolding fill
  all_listed [] n few each = λ v. inr tt
  all_listed (c ∷ cs) n few each =
      let after = fewer_after c (children_shapes cs) in
      joined c (children_shapes cs) n (each zero c refl) few
      (all_listed cs n (omega (arith, few, after)) (λ i d at. each (suc i) d at))

  items_in : (s : TermTable) (ts : Forest Depth) (n : ℕ) → weight (items_tree s ts) < suc n
      → (weights ts < n → AreListed ts) → ListsAll found (items_tree s ts)
  items_in terms_of.ClauseLists ts n few h = λ v. elim (h (omega (arith, few)) v) [
    | inl there ↦ inl there
    | inr without ↦ inr ((λ some. cc), without)
  ]
  items_in _ ts n few h = h (omega (arith, few))

  -- a list, by its items
  pub items_listed : (t : Tree Depth) (s : TermTable) (cs : List Child) (n : ℕ)
      → t ≡ items_tree s (fill_all m (children_shapes cs)) → weight t < suc n
      → ((i : ℕ) (c : Child) → slice_get cs i ≡ Some c → ChildListed found terms n c) → ListsAll found t
  items_listed t s cs n is few each =
      subst (ListsAll found) (sym is)
      (items_in s (fill_all m (children_shapes cs)) n (subst (λ u. weight u < suc n) is few) (λ fewer. all_listed cs n fewer each))

module _ (terms : Terms) (v : ℕ) where
  abbrev means : Meaning
  means = meaning terms.rows

  -- what isn't in a term isn't in its parts
  form_without : (s : Sort) (f : Form (Label ℕ)) → IsWithout v (fill means (form_shape s f))
      → AreWithout v (fill_all means (parts_shapes (form_parts f)))
  unfolding fill
  form_without s (param i name) h = tt
  form_without s (bound d e) h = tt
  form_without s (plain l p) h = h.1
  form_without s (under l vars r p) h = h.1.0

  child_without : (c : Child) (ss : Shapes) → AreWithout v (fill_all means (append (child_shapes c) ss))
      → ((t : Tree Depth) → fill_all means (child_shapes c) ≡ tree.also t tree.none → IsWithout v t)
      × AreWithout v (fill_all means ss)
  unfolding fill
  child_without child.Absent ss h = ((λ t is. absurd (cc)), h)
  child_without (child.Region r) ss h = ((λ t is. subst (IsWithout v) (ap (first_tree t) is) h.0), h.1)
  child_without (child.Stored r) ss h = ((λ t is. subst (IsWithout v) (ap (first_tree t) is) h.0), h.1)

  -- what isn't in a term isn't in its first and its second part
  pub parts_without : (t : Tree Depth) (k : Kind) (p : Parts) → p ≡ form_parts (kind_form k) → t ≡ fill means (kind_shape k)
      → IsWithout v t
      → ((u : Tree Depth) → fill_all means (child_shapes p.first) ≡ tree.also u tree.none → IsWithout v u)
      × ((u : Tree Depth) → fill_all means (child_shapes p.second) ≡ tree.also u tree.none → IsWithout v u)
  unfolding fill
  parts_without t k p is same h =
      let all : AreWithout v (fill_all means (parts_shapes p)) =
      subst (λ q. AreWithout v (fill_all means (parts_shapes q))) (sym is)
      (form_without (kind_sort k) (kind_form k) (subst (IsWithout v) same h)) in
      let split = child_without p.first (child_shapes p.second) all in
      (split.0, λ u at. (subst (AreWithout v) at split.1).0)

  items_without : (cs : List Child) → AreWithout v (fill_all means (children_shapes cs)) → (i : ℕ) (c : Child)
      → slice_get cs i ≡ Some c → (u : Tree Depth) → fill_all means (child_shapes c) ≡ tree.also u tree.none → IsWithout v u
  items_without [] h i c at u is = absurd (cc)
  items_without (d ∷ cs) h zero c at u is =
      (child_without d (children_shapes cs) h).0 u (ap (λ x. fill_all means (child_shapes x)) (same_Some d c at) ∙ is)
  items_without (d ∷ cs) h (suc i) c at u is = items_without cs (child_without d (children_shapes cs) h).1 i c at u is

  items_in_without : (s : TermTable) (ts : Forest Depth) → IsWithout v (items_tree s ts) → AreWithout v ts
  items_in_without terms_of.ClauseLists ts h = h.1
  items_in_without _ ts h = h

  -- what isn't in a list isn't in its items
  pub list_without : (t : Tree Depth) (s : TermTable) (cs : List Child) → t ≡ items_tree s (fill_all means (children_shapes cs))
      → IsWithout v t → (i : ℕ) (c : Child) → slice_get cs i ≡ Some c → (u : Tree Depth)
      → fill_all means (child_shapes c) ≡ tree.also u tree.none → IsWithout v u
  list_without t s cs is h i c at u same =
      items_without cs (items_in_without s (fill_all means (children_shapes cs)) (subst (IsWithout v) is h)) i c at u same
