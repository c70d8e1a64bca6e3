-- The loop pops a pair, and pushes the pairs of the parts of two terms. A round keeps what the loop keeps.
use Rattle.std.proofs.Common.{◌≡◌, refl, ℕ, List, [], ◌∷◌, ◌++◌, length, Option, Some, sym, subst, ap, ◌∙◌, ◌⊎◌, inl}
use Rattle.std.proofs.Common.{inr, not, false, zero, suc, All, arith}
use Rattle.std.proofs.lemmas.Option.{none-some, same_Some}
use Rattle.std.specs.Prelude.{slice_get}
use Rattle.tt_kinds.specs.Tree as tree
use Rattle.tt_kinds.specs.Tree.{Depth, Tree, Forest}
use Rattle.tt_kinds.specs.Shape.{Meaning, fill, fill_all}
use Rattle.tt_kinds.specs.Parts.{child_sort, child_in, AreLike, IsItem}
use Rattle.tt_kinds.specs.Kinds.{form_parts, refilled, kind_form, kind_table, kind_shape, child_shapes, handle_shape}
use Rattle.tt_kinds.specs.Kinds.{ty_shape}
use Rattle.tt_kinds.specs.Handle.{Ty}
use Rattle.tt_kinds.specs.declared.parts.Child.{Child}
use Rattle.tt_kinds.specs.declared.parts.Child.TheVariants as child
use Rattle.tt_kinds.specs.declared.parts.Parts.{Parts}
use Rattle.tt_kinds.specs.declared.parts.Kind.{Kind}
use Rattle.tt_kinds.specs.declared.handle.AnyHandle.{AnyHandle}
use Rattle.tt_kinds.specs.declared.table.TermTable.{TermTable}
use Rattle.tt_kinds.specs.declared.table.TermTable.TheVariants as terms_of
use Rattle.tt_kinds.specs.contracts.parts.KindPartialEq.TheImpl as kinds
use Rattle.tt_interner.specs.Rows.{meaning}
use Rattle.tt_interner.specs.Owned.{IsOwned}
use Rattle.tt_interner.specs.Stored.{Terms}
use Rattle.unify.specs.Substitution.{Substitution, Assignment, Solves}
use Rattle.unify.specs.Bindings.{table_shape}
use Rattle.unify.specs.Pairs.{child_trees, EquatesAll}
use Rattle.unify.specs.Triangular.{Pairs, Linked, HasParts, AreLinked, is_pending, is_compared, is_equal, looked_up}
use Rattle.unify.specs.Triangular.{by_parts, are_one, in_term, in_node, in_binder, done, next, Steps}
use Rattle.unify.specs.Bindings.{stored}
use Rattle.unify.specs.Comparison.{IsPairOf, NoPairs, PendingIn, Compares, types_pair}
use Rattle.unify.specs.declared.pairs.Pair.{Pair}
use Rattle.unify.proofs.SubstitutionLaws.{first_tree}
use Rattle.unify.proofs.TriangularForms.{AreChildren, parts_linked}
use Rattle.unify.proofs.TriangularPairs.{rests_first, rests_further, linked_further}

-- the pair of two children
abbrev pub pair_of : Child → Child → Pair
pair_of c d = record { left = c; right = d }

module _ (terms : Terms) where
  pub pushed_kept : (ps : List Pair) (p : Pair) (t u : Tree Depth) → PendingIn terms ps t u
      → PendingIn terms (ps ++ p ∷ []) t u
  pushed_kept [] p t u h = absurd h
  pushed_kept (q ∷ ps) p t u (inl h) = inl h
  pushed_kept (q ∷ ps) p t u (inr h) = inr (pushed_kept ps p t u h)

  pub pushed_own : (ps : List Pair) (p : Pair) (t u : Tree Depth) → IsPairOf terms p t u
      → PendingIn terms (ps ++ p ∷ []) t u
  pushed_own [] p t u h = inl h
  pushed_own (q ∷ ps) p t u h = inr (pushed_own ps p t u h)

  -- a pending pair is the last one, or one of the others
  pub popped : (ps : List Pair) (p : Pair) (t u : Tree Depth) → PendingIn terms (ps ++ p ∷ []) t u
      → IsPairOf terms p t u ⊎ PendingIn terms ps t u
  popped [] p t u (inl h) = inl h
  popped [] p t u (inr h) = absurd h
  popped (q ∷ ps) p t u (inl h) = inr (inl h)
  popped (q ∷ ps) p t u (inr h) = elim (popped ps p t u h) [ inl own ↦ inl own | inr old ↦ inr (inr old) ]

  -- a pair has one left tree and one right tree
  pub one_pair : (p : Pair) (a b t u : Tree Depth) → IsPairOf terms p a b → IsPairOf terms p t u → (t ≡ a) × (u ≡ b)
  one_pair p a b t u first second = (
    ap (first_tree t) (sym second.0 ∙ first.0),
    ap (first_tree u) (sym second.1 ∙ first.1),
  )

  -- two children of one sort whose pair is pending are linked
  children_linked : (entries : Substitution) (P C : Pairs) (c d : Child) → child_sort d ≡ child_sort c
      → ((t u : Tree Depth) → IsPairOf terms (pair_of c d) t u → P t u)
      → AreChildren entries P C (meaning terms.rows) c d
  unfolding fill
  children_linked entries P C child.Absent child.Absent e pending = done
  children_linked entries P C child.Absent d e pending = absurd (cc)
  children_linked entries P C c child.Absent e pending = absurd (cc)
  children_linked entries P C c d e pending = next (is_pending (pending _ _ (refl, refl))) done

  -- two items of lists whose pair is pending are linked
  item_linked : (entries : Substitution) (P C : Pairs) (s s' : TermTable) (c d : Child) → IsItem s (child_sort c)
      → IsItem s' (child_sort d) → ((t u : Tree Depth) → IsPairOf terms (pair_of c d) t u → P t u)
      → AreChildren entries P C (meaning terms.rows) c d
  unfolding fill
  item_linked entries P C s s' child.Absent d own own' pending = absurd own
  item_linked entries P C s s' c child.Absent own own' pending = absurd own'
  item_linked entries P C s s' c d own own' pending = next (is_pending (pending _ _ (refl, refl))) done

  item_at : (s : TermTable) (cs : List Child) (i : ℕ) (c : Child) → slice_get cs i ≡ Some c
      → All (λ x. IsItem s (child_sort x)) cs → IsItem s (child_sort c)
  item_at s [] i c at all = absurd (none-some c at)
  item_at s (x ∷ cs) zero c at all = subst (λ y. IsItem s (child_sort y)) (same_Some x c at) (all 0 x (omega arith))
  item_at s (x ∷ cs) (suc i) c at all = item_at s cs i c at (λ k d less. all (suc k) d (omega (arith, less)))

  pub items_pending : (entries : Substitution) (P C : Pairs) (s s' : TermTable) (cs ds : List Child) (i : ℕ) (c d : Child)
      → slice_get cs i ≡ Some c → slice_get ds i ≡ Some d → All (λ x. IsItem s (child_sort x)) cs
      → All (λ x. IsItem s' (child_sort x)) ds → ((t u : Tree Depth) → IsPairOf terms (pair_of c d) t u → P t u)
      → AreChildren entries P C (meaning terms.rows) c d
  items_pending entries P C s s' cs ds i c d at at' all all' pending =
      item_linked entries P C s s' c d (item_at s cs i c at all) (item_at s' ds i d at' all') pending

  -- once the pairs of their parts are pushed, two terms have linked parts
  pub parts_pushed : (entries : Substitution) (C : Pairs) (ps : List Pair) (l r : AnyHandle) (k other made : Kind)
      (p q : Parts) → p ≡ form_parts (kind_form k) → AreLike p q
      → kind_table made ≡ kind_table k → kind_form made ≡ refilled q (kind_form k)
      → not ((kinds.ghosts).eq made other) ≡ false
      → fill (meaning terms.rows) (handle_shape l) ≡ fill (meaning terms.rows) (kind_shape k)
      → fill (meaning terms.rows) (handle_shape r) ≡ fill (meaning terms.rows) (kind_shape other)
      → HasParts entries (PendingIn terms ((ps ++ pair_of p.second q.second ∷ []) ++ pair_of p.first q.first ∷ [])) C
      (fill (meaning terms.rows) (handle_shape l)) (fill (meaning terms.rows) (handle_shape r))
  parts_pushed entries C ps l r k other made p q is like table form same means means' =
      let mid : List Pair = ps ++ pair_of p.second q.second ∷ [] in
      let all : List Pair = mid ++ pair_of p.first q.first ∷ [] in
      parts_linked entries (PendingIn terms all) C (meaning terms.rows) l r k other made p q is table form same means
      means'
      (children_linked entries (PendingIn terms all) C p.first q.first like.first
      (λ t u h. pushed_own mid (pair_of p.first q.first) t u h))
      (children_linked entries (PendingIn terms all) C p.second q.second like.second
      (λ t u h. pushed_kept mid (pair_of p.first q.first) t u (pushed_own ps (pair_of p.second q.second) t u h)))

module _ (entries : Substitution) (P C : Pairs) where
  all_same : (ts : Forest Depth) → AreLinked entries P C ts ts
  all_same tree.none = done
  all_same (tree.also t ts) = next (is_equal (λ ρ s. refl)) (all_same ts)

  -- a child is linked with itself
  pub child_same : (m : Meaning) (c d : Child) → c ≡ d → AreChildren entries P C m c d
  child_same m c d one =
      subst (AreChildren entries P C m c) one (all_same (fill_all m (child_shapes c)))

  -- two types are linked, as children
  pub types_linked : (m : Meaning) (l r : Ty) → Linked entries P C (fill m (ty_shape l)) (fill m (ty_shape r))
      → AreChildren entries P C m (child_in terms_of.Types l) (child_in terms_of.Types r)
  unfolding fill
  types_linked m l r link = next link done

  first_linked : {t u : Tree Depth} {ts us : Forest Depth} → AreLinked entries P C (tree.also t ts) (tree.also u us)
      → Linked entries P C t u
  first_linked (next h hs) = h

module _ (terms : Terms) (ys zs : List (Option Ty)) (rest ps : List Pair) (p : Pair) (C C' : Pairs)
    (solves : (ρ : Assignment) → Solves ρ (stored terms zs) → Solves ρ (stored terms ys))
    (grows : (t u : Tree Depth) → C t u → C' t u)
    (others : (t u : Tree Depth) → PendingIn terms rest t u → PendingIn terms ps t u)
    (children : AreChildren (stored terms zs) (PendingIn terms ps) C' (meaning terms.rows) p.left p.right)
    (noted : (t u : Tree Depth) → C' t u → C t u ⊎ HasParts (stored terms zs) (PendingIn terms ps) C' t u) where
  taken : (t u : Tree Depth) → IsPairOf terms p t u ⊎ PendingIn terms rest t u
      → Linked (stored terms zs) (PendingIn terms ps) C' t u
  taken t u (inl own) =
      first_linked (stored terms zs) (PendingIn terms ps) C'
      (subst (λ us. AreLinked (stored terms zs) (PendingIn terms ps) C' (tree.also t tree.none) us) own.1
      (subst (λ ts. AreLinked (stored terms zs) (PendingIn terms ps) C' ts (child_trees terms p.right)) own.0
      children))
  taken t u (inr old) = is_pending (others t u old)

  -- a round that takes the last pair, whose children are linked then, is a step
  round_steps : Steps (stored terms ys) (PendingIn terms (rest ++ p ∷ [])) C (stored terms zs) (PendingIn terms ps) C'
  round_steps = record {
    solves = solves;
    kept = grows;
    linked = λ t u h. taken t u (popped terms rest p t u h);
    noted = noted;
  }

  -- so it keeps what the loop keeps, if it adds entries and keeps solutions
  pub round_compares : (xs : List (Option Ty)) (left right : Ty) → Compares terms xs left right ys (rest ++ p ∷ []) C
      → IsOwned table_shape terms zs → length zs ≡ length ys
      → ((v : ℕ) (t : Tree Depth) → stored terms ys v ≡ Some t → stored terms zs v ≡ Some t)
      → ((ρ : Assignment) → Solves ρ (stored terms ys) → EquatesAll ρ terms (rest ++ p ∷ [])
      → Solves ρ (stored terms zs) × EquatesAll ρ terms ps)
      → Compares terms xs left right zs ps C'
  round_compares xs left right before owned len kept keeps = record {
    owned = owned;
    len = len ∙ before.len;
    kept = λ v t is. kept v t (before.kept v t is);
    keeps = λ ρ old equal. let now = before.keeps ρ old equal in keeps ρ now.0 now.1;
    rests = rests_further (stored terms ys) (stored terms zs) (PendingIn terms (rest ++ p ∷ [])) C
        (PendingIn terms ps) C' round_steps before.rests;
    link = linked_further (stored terms ys) (stored terms zs) (PendingIn terms (rest ++ p ∷ [])) C
        (PendingIn terms ps) C' round_steps before.link;
  }

-- at the start the two types are the one pending pair
pub loop_begins : (terms : Terms) (xs : List (Option Ty)) (left right : Ty) → IsOwned table_shape terms xs
    → Compares terms xs left right xs (types_pair left right ∷ []) (λ t u. ⊥)
unfolding fill
loop_begins terms xs left right owned = record {
  owned = owned;
  len = refl;
  kept = λ v t is. is;
  keeps = λ ρ solves equal. (solves, (ap (λ t. tree.also t tree.none) equal, tt));
  rests = rests_first (stored terms xs) (PendingIn terms (types_pair left right ∷ []));
  link = is_pending (inl (refl, refl));
}

module _ (entries : Substitution) (P C : Pairs) where
  mutual
    linked_more : {t u : Tree Depth} → Linked entries P NoPairs t u → Linked entries P C t u
    linked_more (is_pending p) = is_pending p
    linked_more (is_compared none) = absurd none
    linked_more (is_equal e) = is_equal e
    linked_more (looked_up a b left right link) = looked_up a b left right (linked_more link)
    linked_more (by_parts h) = by_parts (parts_more h)

    -- parts that are linked by pending pairs alone are linked
    pub parts_more : {t u : Tree Depth} → HasParts entries P NoPairs t u → HasParts entries P C t u
    parts_more are_one = are_one
    parts_more (in_term h) = in_term (all_more h)
    parts_more (in_node h) = in_node (all_more h)
    parts_more (in_binder h) = in_binder (linked_more h)

    all_more : {ts us : Forest Depth} → AreLinked entries P NoPairs ts us → AreLinked entries P C ts us
    all_more done = done
    all_more (next h hs) = next (linked_more h) (all_more hs)
