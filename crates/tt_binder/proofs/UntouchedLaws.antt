-- What the visit of an untouched value says, and what one that breaks.
use Rattle.std.proofs.Common.{inl, inr, ◌≡◌, ℕ, List, refl, sym, Bool, true, false}
use Rattle.std.specs.Prelude.{◌||◌, Option, Some, None}
use Rattle.tt_kinds.specs.Label.{Name, Label, VarKind}
use Rattle.tt_kinds.specs.Tree.{Depth, Tree, Forest, term, binder}
use Rattle.tt_kinds.specs.Param.{holds_param, holds_param_among}
use Rattle.tt_kinds.proofs.ChildLaws.{HidesRegionVars_among, HidesRegionVars-also, HidesRegionVars-term}
use Rattle.tt_visit.specs.Root.{error_of}
use Rattle.tt_visit.specs.Visit.{TellingBreaks, GoesOver, GoesInside, GoesOverAll, region_seen, skipped, went_inside}
use Rattle.tt_visit.specs.Visit.{unhooked_seen, token_seen, node_seen, binder_skipped, binder_seen, term_seen}
use Rattle.tt_visit.specs.Visit.{param_seen, bound_seen, value_seen, all_seen, one_seen, Breaks, BreaksInside}
use Rattle.tt_visit.specs.Visit.{BreaksAll, region_broke, term_broke, inside_broke, unhooked_broke, token_broke}
use Rattle.tt_visit.specs.Visit.{node_broke, enter_broke, under_broke, error_broke, term_inside_broke, value_broke}
use Rattle.tt_visit.specs.Visit.{first_broke, later_broke}
use Rattle.tt_visit.specs.declared.visitor.Next.TheVariants.{Skip, Descend}
use Rattle.tt_binder.specs.Instantiation.{IsInnerConst, IsGoneInto}
use Rattle.tt_binder.specs.Untouched.{passed_by, entered, untouched_visits}
use Rattle.tt_kinds.specs.Cause.{IsUntouched}
use Rattle.tt_binder.proofs.FlagLaws.{hides_none}
use Rattle.tt_binder.proofs.WalkLaws.{const-gone, passed-gone}

-- no parameter occurs among the trees, and no region variable is exposed
abbrev AreUntouched : Forest Depth → Type 0
AreUntouched ts = (holds_param_among ts ≡ false) × HidesRegionVars_among ts

skip_descend : Descend ≡ Skip → ⊥
skip_descend e = cc

true_false : (b : Bool) → b ≡ true → b ≡ false → ⊥
true_false b p q = cc

or_false : (a b : Bool) → a ≡ false → b ≡ false → (a || b) ≡ false
or_false true b p q = p
or_false false b p q = q

or_false_first : (a b : Bool) → (a || b) ≡ false → a ≡ false
or_false_first true b h = h
or_false_first false b h = refl

or_false_rest : (a b : Bool) → (a || b) ≡ false → b ≡ false
or_false_rest true b h = cc
or_false_rest false b h = h

-- the trees in a term that is gone into are untouched where the term is
left_among : (l : Label Name) (ts : Forest Depth) → IsGoneInto (term l ts) → IsUntouched (term l ts) → AreUntouched ts
left_among l ts gone left = (left.0, λ x h. left.1 x (gone, h))

term_left : (l : Label Name) (ts : Forest Depth) → AreUntouched ts → IsUntouched (term l ts)
term_left l ts left = (left.0, HidesRegionVars-term l ts left.1)

-- no error breaks the visit
error_never : {s s' b : Unit {0}} (o : Option ℕ) → TellingBreaks untouched_visits s o b s' → ⊥
error_never None h = h
error_never (Some e) h = h

mutual
  -- a visit that goes over a tree found nothing in it
  pub over_untouched : {t : Tree Depth} → GoesOver untouched_visits tt t tt → IsUntouched t
  over_untouched (region_seen e h) = h
  over_untouched {t} (skipped e (passed_by kind none)) = (none, hides_none t kind none)
  over_untouched (went_inside e (entered kind) w) = const_untouched w kind
  over_untouched (unhooked_seen {l} {ts} e w) = term_left l ts (all_untouched w)
  over_untouched (token_seen h) = (refl, λ x h. h)
  over_untouched (node_seen e w) = all_untouched w
  over_untouched (binder_skipped h) = absurd (skip_descend (sym h))
  over_untouched (binder_seen h w l) = inside_untouched w

  inside_untouched : {vs : List (VarKind Name)} {t : Tree Depth} → GoesInside untouched_visits tt (binder vs t) tt → IsUntouched t
  inside_untouched (value_seen w) = over_untouched w

  const_untouched : {t : Tree Depth} → GoesInside untouched_visits tt t tt → IsInnerConst t → IsUntouched t
  const_untouched (term_seen {l} {ts} told w) kind = term_left l ts (all_untouched w)
  const_untouched param_seen kind = absurd kind
  const_untouched bound_seen kind = (refl, λ x h. h)
  const_untouched (value_seen w) kind = absurd kind

  all_untouched : {ts : Forest Depth} → GoesOverAll untouched_visits tt ts tt → AreUntouched ts
  all_untouched all_seen = (refl, λ x h. h)
  all_untouched (one_seen {t} {ts} w more) =
      let first = over_untouched w in
      let rest = all_untouched more in
      (or_false (holds_param t) (holds_param_among ts) first.0 rest.0, HidesRegionVars-also t ts first.1 rest.1)

mutual
  -- a visit that breaks found something
  pub breaks_touched : {t : Tree Depth} {b : Unit {0}} → Breaks untouched_visits tt t b tt → IsUntouched t → ⊥
  breaks_touched (region_broke e h) left = h left
  breaks_touched {t} (term_broke e h) left = true_false (holds_param t) h left.0
  breaks_touched (inside_broke e (entered kind) w) left = const_touched w kind left
  breaks_touched (unhooked_broke {l} {ts} e w) left = all_touched w (left_among l ts (passed-gone (term l ts) e) left)
  breaks_touched (token_broke h) left = h
  breaks_touched (node_broke e w) left = all_touched w left
  breaks_touched (enter_broke h) left = h
  breaks_touched (under_broke h w l) left = inside_touched w left

  inside_touched : {vs : List (VarKind Name)} {t : Tree Depth} {b : Unit {0}} → BreaksInside untouched_visits tt (binder vs t) b tt → IsUntouched t → ⊥
  inside_touched (value_broke w) left = breaks_touched w left

  const_touched : {t : Tree Depth} {b : Unit {0}} → BreaksInside untouched_visits tt t b tt → IsInnerConst t → IsUntouched t → ⊥
  const_touched (error_broke {l} h) kind left = error_never (error_of l) h
  const_touched (term_inside_broke {l} {ts} told w) kind left = all_touched w (left_among l ts (const-gone (term l ts) kind) left)
  const_touched (value_broke w) kind left = absurd kind

  all_touched : {ts : Forest Depth} {b : Unit {0}} → BreaksAll untouched_visits tt ts b tt → AreUntouched ts → ⊥
  all_touched (first_broke {t} {ts} w) left = breaks_touched w (or_false_first (holds_param t) (holds_param_among ts) left.0, λ x h. left.1 x (inl h))
  all_touched (later_broke {t} {ts} w more) left = all_touched more (or_false_rest (holds_param t) (holds_param_among ts) left.0, λ x h. left.1 x (inr h))
