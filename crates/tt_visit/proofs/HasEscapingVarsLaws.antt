-- The visitor that looks for variables breaks exactly where the tree reaches far enough out.
use Rattle.std.proofs.Common.{inl, inr, ◌≡◌, ℕ, ◌+◌, ◌-◌, ◌<◌, ◌≤◌, refl, ap, sym, ◌∙◌, arith}
use Rattle.std.specs.Prelude.{⊤, false, ◌⊎◌}
use Rattle.tt_index.specs.Greatest.{greatest}
use Rattle.tt_kinds.specs.Label.{Name, Label, type_label, const_label, pattern_label, predicate_label}
use Rattle.tt_kinds.specs.Label.{existential_label, clause_list_label, list_label, var_list_label, text_label}
use Rattle.tt_kinds.specs.Label.{declaration_label, definition_label, record_label, error_label, clause_label}
use Rattle.tt_kinds.specs.Tree.{Depth, Tree, Forest, param, bound, region, term, node, binder, none, also}
use Rattle.tt_kinds.specs.Reading.{read, read_all, greatest_reach, greatest_reach_all, outer_binder}
use Rattle.tt_kinds.proofs.OuterLaws.{greatest_reach-deeper}
use Rattle.tt_visit.specs.Root.{Root, a_region, hooked, unhooked, a_part, no_term, root, term_root, node_root}
use Rattle.tt_visit.specs.Visit.{GoesOver, GoesOverAll, region_seen, skipped, went_inside, token_seen, node_seen}
use Rattle.tt_visit.specs.Visit.{unhooked_seen, binder_skipped, binder_seen, value_seen, all_seen, one_seen, Breaks}
use Rattle.tt_visit.specs.Visit.{BreaksAll, region_broke, term_broke, inside_broke, unhooked_broke, token_broke}
use Rattle.tt_visit.specs.Visit.{node_broke, enter_broke, under_broke, value_broke, first_broke, later_broke}
use Rattle.tt_visit.specs.HasEscapingVars.{Search, search_hooks, range_hooks, ByHook, InRange, InRange_all}
use Rattle.tt_visit.specs.declared.has_escaping_vars.FoundEscapingVars.{FoundEscapingVars}

-- a tree reaches one binder less far from outside of its binder
outside : (t : Tree Depth) → greatest_reach (read 1 t) ≡ outer_binder t - 1
outside t = greatest_reach-deeper 1 0 t

-- how far the trees reach
abbrev pub outer_binder_all : Forest Depth → ℕ
outer_binder_all ts = greatest_reach_all (read_all 0 ts)

-- what follows from the whole of a term as from its contents
either-way : (r : Root) (A B C : Type 0) → ByHook r A B → (A → C) → (B → C) → C
either-way hooked A B C h whole inside = whole h
either-way a_region A B C h whole inside = inside h
either-way unhooked A B C h whole inside = inside h
either-way a_part A B C h whole inside = inside h
either-way no_term A B C h whole inside = inside h

mutual
  -- a tree in range reaches no further than the greatest index
  pub range-outer : (t : Tree Depth) → InRange t → outer_binder t ≤ greatest
  range-outer (param s i name) h = omega arith
  range-outer (bound s d e) h = h
  range-outer (region r) h = omega arith
  range-outer (term l ts) h = either-way (term_root l) (outer_binder (term l ts) ≤ greatest) (InRange_all ts) (outer_binder_all ts ≤ greatest) h (λ whole. whole) (λ inside. range_all-outer ts inside)
  range-outer (node l ts) h = range_all-outer ts h
  range-outer (binder vs t) h = let inner : outer_binder t ≤ greatest = range-outer t h in let less = outside t in omega arith

  range_all-outer : (ts : Forest Depth) → InRange_all ts → outer_binder_all ts ≤ greatest
  range_all-outer none h = omega arith
  range_all-outer (also t ts) h =
      let first : outer_binder t ≤ greatest = range-outer t h.0 in let rest : outer_binder_all ts ≤ greatest = range_all-outer ts h.1 in omega arith

-- neither a list nor a record is a region or a term with a hook
pub no-leaf : (l : Label Name) → (node_root l ≡ a_region) ⊎ (node_root l ≡ hooked) → ⊥
no-leaf (type_label x) (inl e) = let never = e in cc
no-leaf (type_label x) (inr e) = let never = e in cc
no-leaf (const_label x) (inl e) = let never = e in cc
no-leaf (const_label x) (inr e) = let never = e in cc
no-leaf (pattern_label x) (inl e) = let never = e in cc
no-leaf (pattern_label x) (inr e) = let never = e in cc
no-leaf predicate_label (inl e) = let never = e in cc
no-leaf predicate_label (inr e) = let never = e in cc
no-leaf existential_label (inl e) = let never = e in cc
no-leaf existential_label (inr e) = let never = e in cc
no-leaf clause_list_label (inl e) = let never = e in cc
no-leaf clause_list_label (inr e) = let never = e in cc
no-leaf (list_label x) (inl e) = let never = e in cc
no-leaf (list_label x) (inr e) = let never = e in cc
no-leaf (var_list_label x) (inl e) = let never = e in cc
no-leaf (var_list_label x) (inr e) = let never = e in cc
no-leaf (text_label x) (inl e) = let never = e in cc
no-leaf (text_label x) (inr e) = let never = e in cc
no-leaf (declaration_label n k name) (inl e) = let never = e in cc
no-leaf (declaration_label n k name) (inr e) = let never = e in cc
no-leaf (definition_label n vs) (inl e) = let never = e in cc
no-leaf (definition_label n vs) (inr e) = let never = e in cc
no-leaf (record_label x) (inl e) = let never = e in cc
no-leaf (record_label x) (inr e) = let never = e in cc
no-leaf (error_label x) (inl e) = let never = e in cc
no-leaf (error_label x) (inr e) = let never = e in cc
no-leaf clause_label (inl e) = let never = e in cc
no-leaf clause_label (inr e) = let never = e in cc

-- no term is a region
pub term-no-region : (l : Label Name) → term_root l ≡ a_region → ⊥
term-no-region (type_label x) e = let never = e in cc
term-no-region (const_label x) e = let never = e in cc
term-no-region (pattern_label x) e = let never = e in cc
term-no-region predicate_label e = let never = e in cc
term-no-region existential_label e = let never = e in cc
term-no-region clause_list_label e = let never = e in cc
term-no-region (list_label x) e = let never = e in cc
term-no-region (var_list_label x) e = let never = e in cc
term-no-region (text_label x) e = let never = e in cc
term-no-region (declaration_label n k name) e = let never = e in cc
term-no-region (definition_label n vs) e = let never = e in cc
term-no-region (record_label x) e = let never = e in cc
term-no-region (error_label x) e = let never = e in cc
term-no-region clause_label e = let never = e in cc

-- a region or a term with a hook, in range
leaf-range : (t : Tree Depth) → (root t ≡ a_region) ⊎ (root t ≡ hooked) → outer_binder t ≤ greatest → InRange t
leaf-range (param s i name) is h = tt
leaf-range (bound s d e) is h = h
leaf-range (region r) is h = tt
leaf-range (term l ts) (inl e) h = absurd (term-no-region l e)
leaf-range (term l ts) (inr e) h = rw e h
leaf-range (node l ts) is h = absurd (no-leaf l is)
leaf-range (binder vs t) (inl e) h = cc
leaf-range (binder vs t) (inr e) h = cc

-- a term without a hook is in range where all of its contents are
inside-range : (l : Label Name) (ts : Forest Depth) → term_root l ≡ unhooked → InRange_all ts → InRange (term l ts)
inside-range l ts e h = rw e h

range-inside : (l : Label Name) (ts : Forest Depth) → term_root l ≡ unhooked → InRange (term l ts) → InRange_all ts
range-inside l ts e h = rw e at h

mutual
  -- what the visitor saw that only asks for ranges
  pub goes-range : (s s' : ⊤) (t : Tree Depth) → GoesOver range_hooks s t s' → InRange t
  goes-range s s' t (region_seen is h) = leaf-range t (inl is) h
  goes-range s s' t (skipped is h) = leaf-range t (inr is) h.1
  goes-range s s' t (went_inside is h inside) = let never = h.0 in cc
  goes-range s s' (term l ts) (unhooked_seen is all) = inside-range l ts is (goes_all-range s s' ts all)
  goes-range s s' (node (error_label e) none) (token_seen h) = tt
  goes-range s s' (node l ts) (node_seen is all) = goes_all-range s s' ts all
  goes-range s s' (binder vs t) (binder_skipped e) = cc
  goes-range s s' (binder vs t) (binder_seen {s1 = s1} {s2 = s2} e (value_seen h) l) = goes-range s1 s2 t h

  goes_all-range : (s s' : ⊤) (ts : Forest Depth) → GoesOverAll range_hooks s ts s' → InRange_all ts
  goes_all-range s s' none all_seen = tt
  goes_all-range s s' (also t ts) (one_seen {s1 = s1} h more) = (goes-range s s1 t h, goes_all-range s1 s' ts more)

mutual
  -- a visit that asks for ranges alone never breaks
  pub breaks-range : (s s' : ⊤) (t : Tree Depth) (b : FoundEscapingVars) → Breaks range_hooks s t b s' → ⊥
  breaks-range s s' t b (region_broke is h) = h
  breaks-range s s' t b (term_broke is h) = h
  breaks-range s s' t b (inside_broke is h inside) = let never = h.0 in cc
  breaks-range s s' (term l ts) b (unhooked_broke is all) = breaks_all-range s s' ts b all
  breaks-range s s' (node (error_label e) none) b (token_broke h) = h
  breaks-range s s' (node l ts) b (node_broke is all) = breaks_all-range s s' ts b all
  breaks-range s s' (binder vs t) b (enter_broke e) = e
  breaks-range s s' (binder vs t) b (under_broke {s1 = s1} {s2 = s2} e (value_broke h) l) = breaks-range s1 s2 t b h

  breaks_all-range : (s s' : ⊤) (ts : Forest Depth) (b : FoundEscapingVars) → BreaksAll range_hooks s ts b s' → ⊥
  breaks_all-range s s' none b h = elim h [ ]
  breaks_all-range s s' (also t ts) b (first_broke h) = breaks-range s s' t b h
  breaks_all-range s s' (also t ts) b (later_broke {s1 = s1} a h) = breaks_all-range s1 s' ts b h

-- a search went over what reaches so far, and perhaps more where it passed over a value
pub record Passes (s : Search) (range : Type 0) (reach : ℕ) (s' : Search) : Type 0 where
  pub index : s'.outer_index ≡ s.outer_index
  pub unskipped : s'.skipped ≡ false → (s.skipped ≡ false) × (reach ≤ s.outer_index)
  pub in_range : range → reach ≤ s.outer_index

mutual
  -- a search that ends well found no escaping variable, if it passed over nothing or the tree is in range
  pub goes-passes : (s s' : Search) (t : Tree Depth) → GoesOver search_hooks s t s' → Passes s (InRange t) (outer_binder t) s'
  goes-passes s s' t (region_seen is h) = rw h.0 (record { index = refl; unskipped = λ e. (e, h.1); in_range = λ r. h.1 })
  goes-passes s s' t (skipped is h) = rw h.0 (record { index = refl; unskipped = λ e. (e, h.2); in_range = λ r. h.2 })
  goes-passes s s' t (went_inside is h inside) = let never = h.1 in cc
  goes-passes s s' (term l ts) (unhooked_seen is all) =
      let inside = goes_all-passes s s' ts all in
      record { index = inside.index; unskipped = inside.unskipped; in_range = λ r. inside.in_range (range-inside l ts is r) }
  goes-passes s s' (node (error_label e) none) (token_seen h) = rw h (record { index = refl; unskipped = λ e. (e, omega arith); in_range = λ r. omega arith })
  goes-passes s s' (node l ts) (node_seen is all) = goes_all-passes s s' ts all
  goes-passes s s' (binder vs t) (binder_skipped e) =
      rw e.1 (record { index = refl; unskipped = λ e. cc; in_range = λ r. low r })
    where
      low : InRange t → outer_binder (binder vs t) ≤ s.outer_index
      low r = let inner : outer_binder t ≤ greatest = range-outer t r in let less = outside t in let far = e.0 in omega arith
  goes-passes s s' (binder vs t) (binder_seen {s1 = s1} {s2 = s2} e (value_seen h) l) =
      let inner = goes-passes s1 s2 t h in let less = outside t in
      let deeper : s1.outer_index ≡ s.outer_index + 1 = ap (λ x. x.outer_index) e in
      let left : s'.outer_index ≡ s2.outer_index - 1 = ap (λ x. x.outer_index) l in
      let index = inner.index in
      record {
        index = omega arith;
        unskipped = λ none_skipped.
            let seen = inner.unskipped (sym (ap (λ x. x.skipped) l) ∙ none_skipped) in
            let low = seen.1 in
            (sym (ap (λ x. x.skipped) e) ∙ seen.0, omega arith);
        in_range = λ r. let low = inner.in_range r in omega arith;
      }

  goes_all-passes : (s s' : Search) (ts : Forest Depth) → GoesOverAll search_hooks s ts s' → Passes s (InRange_all ts) (outer_binder_all ts) s'
  goes_all-passes s s' none all_seen = record { index = refl; unskipped = λ e. (e, omega arith); in_range = λ r. omega arith }
  goes_all-passes s s' (also t ts) (one_seen {s1 = s1} h more) =
      let first = goes-passes s s1 t h in let rest = goes_all-passes s1 s' ts more in
      let same = first.index in
      record {
        index = rest.index ∙ first.index;
        unskipped = λ none_skipped.
            let later = rest.unskipped none_skipped in let earlier = first.unskipped later.0 in
            let low = earlier.1 in let also_low = later.1 in
            (earlier.0, omega arith);
        in_range = λ r. let low = first.in_range r.0 in let also_low = rest.in_range r.1 in omega arith;
      }

mutual
  -- where the search breaks, the tree reaches far enough out
  pub breaks-reaches : (s s' : Search) (t : Tree Depth) (b : FoundEscapingVars) → Breaks search_hooks s t b s' → s.outer_index < outer_binder t
  breaks-reaches s s' t b (region_broke is h) = h.1
  breaks-reaches s s' t b (term_broke is h) = h.1
  breaks-reaches s s' t b (inside_broke is h inside) = let never = h.1 in cc
  breaks-reaches s s' (term l ts) b (unhooked_broke is all) = breaks_all-reaches s s' ts b all
  breaks-reaches s s' (node (error_label e) none) b (token_broke h) = absurd h
  breaks-reaches s s' (node l ts) b (node_broke is all) = breaks_all-reaches s s' ts b all
  breaks-reaches s s' (binder vs t) b (enter_broke e) = absurd e
  breaks-reaches s s' (binder vs t) b (under_broke {s1 = s1} {s2 = s2} e (value_broke h) l) =
      let inner : s1.outer_index < outer_binder t = breaks-reaches s1 s2 t b h in let less = outside t in
      let deeper : s1.outer_index ≡ s.outer_index + 1 = ap (λ x. x.outer_index) e in
      omega arith

  breaks_all-reaches : (s s' : Search) (ts : Forest Depth) (b : FoundEscapingVars) → BreaksAll search_hooks s ts b s' → s.outer_index < outer_binder_all ts
  breaks_all-reaches s s' none b h = elim h [ ]
  breaks_all-reaches s s' (also t ts) b (first_broke h) = let first : s.outer_index < outer_binder t = breaks-reaches s s' t b h in omega arith
  breaks_all-reaches s s' (also t ts) b (later_broke {s1 = s1} a h) =
      let rest : s1.outer_index < outer_binder_all ts = breaks_all-reaches s1 s' ts b h in let same = (goes-passes s s1 t a).index in omega arith
