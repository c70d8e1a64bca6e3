-- The steps of the opening folder's hooks.
use Rattle.std.proofs.Common.{inl, inr, ◌≡◌, ◌⊎◌, ℕ, ◌+◌, ◌-◌, ◌<◌, ◌≤◌, List, [], true, false, Result, Ok, Err}
use Rattle.std.proofs.Common.{MatchResult, refl, sym, subst, ◌∙◌, arith}
use Rattle.std.proofs.lemmas.Bool.{cases_lt, le-ltb, lt-ltb}
use Rattle.tt_index.specs.Greatest.{greatest}
use Rattle.tt_index.specs.declared.refusal.Refusal.{Refusal}
use Rattle.tt_index.specs.declared.refusal.Refusal.TheVariants.{Memory, TableFull, GreatestIndex, NoArguments}
use Rattle.tt_index.specs.declared.refusal.Refusal.TheVariants.{ArgOutOfRange, ArgKind, RegionVariable, NotAClause}
use Rattle.tt_index.specs.declared.refusal.Refusal.TheVariants.{NoSuchAnswer}
use Rattle.tt_kinds.specs.Label.{Name, Sort, Entry, region_sort}
use Rattle.tt_kinds.specs.Tree.{Depth, at, canonical, Tree, param, bound, term}
use Rattle.tt_kinds.specs.Reading.{read, outer_binder, FitsUnder}
use Rattle.tt_kinds.specs.Plain.{given_under}
use Rattle.tt_kinds.specs.Cause.{Cause}
use Rattle.tt_kinds.specs.Bound.{depth, IsBelowGreatest, region_entry}
use Rattle.tt_kinds.specs.RegionKind.{IsShallow}
use Rattle.tt_kinds.specs.Shape.{Shape, Meaning, IsGreatest, stored, fill, rename_entry, name_of}
use Rattle.tt_kinds.specs.Kinds.{region_shape}
use Rattle.tt_kinds.specs.Handle.{Ty}
use Rattle.tt_kinds.specs.declared.bound.BoundRegion.{BoundRegion}
use Rattle.tt_kinds.specs.declared.bound.BoundVarIndexKind.{BoundVarIndexKind}
use Rattle.tt_kinds.specs.declared.bound.BoundVarIndexKind.TheVariants.{Bound, Canonical}
use Rattle.tt_kinds.specs.declared.region_kind.RegionKind.{RegionKind}
use Rattle.tt_kinds.specs.declared.region_kind.RegionKind.TheVariants.{ReEarlyParam, ReBound, ReLateParam, ReStatic}
use Rattle.tt_kinds.specs.declared.region_kind.RegionKind.TheVariants.{ReVar, RePlaceholder, ReErased, ReError}
use Rattle.tt_kinds.specs.declared.generic_arg.GenericArgKind.{GenericArgKind}
use Rattle.tt_kinds.specs.declared.table.Table.{Table}
use Rattle.tt_kinds.proofs.ReadingLaws.{place-outer}
use Rattle.tt_interner.specs.Rows.{Row, meaning}
use Rattle.tt_interner.specs.Stored.{Terms, Counters, counted}
use Rattle.tt_fold.specs.Counts.{Standing}
use Rattle.tt_fold.specs.Places.{IsIn}
use Rattle.tt_fold.specs.Shift.{IsOuter, IsVariable, IsTooGreat, shifting}
use Rattle.tt_fold.specs.Stands.{StandsIn, itself}
use Rattle.tt_fold.specs.Steps.{IsPartOf, IsRefused, tree_in}
use Rattle.tt_fold.specs.Walk.{replace, descend, keep}
use Rattle.tt_fold.specs.Remember.{places, IsTaken, Done, OnTerm, given, left_alone, taken_apart}
use Rattle.tt_fold.specs.Memory.{memos}
use Rattle.tt_fold.specs.declared.memory.Place.{Place}
use Rattle.tt_fold.proofs.BoundLaws.{bound_shape}
use Rattle.tt_interner.specs.Arguments.{arguments}
use Rattle.tt_binder.specs.Instantiation.{Args, Kept, Instantiates, PutsArgument, LeafRefuses}
use Rattle.tt_binder.specs.Instantiation.{for_cause as leaf_for_cause, shift_unbuilt, shift_too_far}
use Rattle.tt_binder.specs.Opening.{open_variable, open_tree, IsOwn, OpeningCause}
use Rattle.tt_binder.specs.BinderOpener.{Opening, opening_state, index_outside, OpensTree, OpeningRefuses, for_cause}
use Rattle.tt_binder.specs.BinderOpener.{not_built, too_great, opening}
use Rattle.tt_binder.proofs.ShiftedLaws.{put_argument}
use Rattle.tt_binder.proofs.OpeningLaws.{by_place, open-own, open-inner, open-outer, low_opens}

-- an own variable is replaced as a parameter of its number
module _ (args : Args) (k : ℕ) (o : Sort) (e : Entry Name) where
  own_tree : (d : Depth) → IsOwn k d → open_tree k args (bound o d e) ≡ given_under args k o e.var []
  own_tree (at d) is = open-own args k d o e is
  own_tree canonical is = absurd is

  pub own_opens : (d : Depth) → IsOwn k d → (r : Tree Depth) → Instantiates args k (param o e.var []) r → OpensTree args k (bound o d e) r
  own_opens d own r done = record { plain = done.plain ∙ sym (own_tree d own); given = λ is. done.allows.answered }

  own_caused : (d : Depth) → IsOwn k d → (r : Refusal) → Cause (param o e.var []) args r → OpeningCause args k (bound o d e) r
  own_caused d own Memory h = absurd h
  own_caused d own TableFull h = absurd h
  own_caused d own GreatestIndex h = absurd h
  own_caused d own NotAClause h = absurd h
  own_caused d own NoSuchAnswer h = absurd h
  own_caused d own NoArguments h = (h.0, own)
  own_caused d own (ArgOutOfRange index) h = (h.0, (own, h.1), h.2)
  own_caused d own (ArgKind index) h = (own, h.0, h.1)
  own_caused d own (RegionVariable x) h = absurd h.1

  pub own_refuses : (unbuilt : Tree Depth → Refusal → Type 0) (d : Depth) → IsOwn k d → (r : Refusal) → LeafRefuses unbuilt args k (param o e.var []) r → OpeningRefuses unbuilt args k (bound o d e) r
  own_refuses unbuilt d own r (leaf_for_cause h) = for_cause (own_caused d own r h)
  own_refuses unbuilt d own r (shift_unbuilt below u m h) = not_built u (subst (λ v. StandsIn u v) (sym (own_tree d own)) m) h
  own_refuses unbuilt d own r (shift_too_far below is unfit) = too_great is (subst (λ v. FitsUnder k (read k v) → ⊥) (sym (own_tree d own)) unfit)

  pub own_without : (unbuilt : Tree Depth → Refusal → Type 0) (d : Depth) → IsOwn k d → args ≡ [] → OpeningRefuses unbuilt args k (bound o d e) NoArguments
  own_without unbuilt d own none = for_cause (none, own)

  -- another variable has its index outside
  pub outside_opens : (i : BoundVarIndexKind) → (IsOwn k (depth i) → ⊥) → OpensTree args k (bound o (depth i) e) (bound o (depth (index_outside k i)) e)
  outside_opens (Bound d) other = record { plain = by_place (bound o (depth (index_outside k (Bound d))) e ≡ open_variable args k o (at d) e) k d inner (λ is. absurd (other is)) outer; given = λ is. absurd (other is) }
    where
      inner : d < k → bound o (depth (index_outside k (Bound d))) e ≡ open_variable args k o (at d) e
      inner h = rw (open-inner args k d o e h, lt-ltb d k h) refl

      outer : k < d → bound o (depth (index_outside k (Bound d))) e ≡ open_variable args k o (at d) e
      outer h = rw (open-outer args k d o e h, le-ltb d k (omega arith)) refl
  outside_opens Canonical other = record { plain = refl; given = λ is. absurd is }

  -- which is too great only if the whole doesn't fit
  outside_great : (i : BoundVarIndexKind) → IsOuter k i → (IsOwn k (depth i) → ⊥) → IsGreatest (depth (index_outside k i)) → FitsUnder k (read k (open_tree k args (bound o (depth i) e))) → ⊥
  outside_great (Bound d) out other deep fits =
      let above : k < d = elim (cases_lt k d) [ inl h ↦ h | inr le ↦ absurd (other (omega (arith, le, out))) ] in
      let high : greatest ≤ d - 1 = rw (le-ltb d k out) at deep in
      let low : d - 1 - k + k < greatest = rw (open-outer args k d o e above, place-outer k (d - 1) (omega arith)) at fits in
      omega arith
  outside_great Canonical out other deep fits = out

-- what is built of another variable
module _ (terms terms1 : Terms) (args : Args) (k : ℕ) (o : Sort) (e : Entry ℕ) (i : BoundVarIndexKind) where
  outside_tree : (IsOwn k (depth i) → ⊥) → OpensTree args k (tree_in terms.rows (bound_shape o i e)) (tree_in terms.rows (bound_shape o (index_outside k i) e))
  unfolding fill
  outside_tree other = outside_opens args k o (rename_entry (name_of (meaning terms.rows)) e) i other

  outside_past : IsOuter k i → (IsOwn k (depth i) → ⊥) → IsGreatest (depth (index_outside k i)) → FitsUnder k (read k (open_tree k args (tree_in terms.rows (bound_shape o i e)))) → ⊥
  unfolding fill
  outside_past out other deep fits = outside_great args k o (rename_entry (name_of (meaning terms.rows)) e) i out other deep fits

  -- if a variable of another binder is built with its index outside, it is opened, and else refused for a reason
  pub outside_built : {H : Type 0} (number : H → ℕ) (t : Table) (result : Result H Refusal) → IsOuter k i → (IsOwn k (depth i) → ⊥)
      → MatchResult result
      (λ h. IsPartOf terms1.rows (stored t (number h)) × (tree_in terms1.rows (stored t (number h)) ≡ tree_in terms.rows (bound_shape o (index_outside k i) e)))
      (λ r. IsTooGreat r (IsGreatest (depth (index_outside k i))) ⊎ IsRefused terms1 (tree_in terms.rows (bound_shape o (index_outside k i) e)) r)
      → MatchResult result
      (λ h. IsPartOf terms1.rows (stored t (number h)) × OpensTree args k (tree_in terms.rows (bound_shape o i e)) (tree_in terms1.rows (stored t (number h))))
      (λ r. OpeningRefuses (IsRefused terms1) args k (tree_in terms.rows (bound_shape o i e)) r)
  outside_built number t (Ok h) out other is = let n = outside_tree other in (is.0, record { plain = is.1 ∙ n.plain; given = n.given })
  outside_built number t (Err r) out other is = elim is [
    | inl deep ↦ too_great deep.0 (outside_past out other deep.1)
    | inr u ↦ not_built (tree_in terms.rows (bound_shape o (index_outside k i) e)) (subst (λ v. StandsIn (tree_in terms.rows (bound_shape o (index_outside k i) e)) v) (outside_tree other).plain itself) u
  ]

-- what takes the place of an own variable
module _ (rows : List Row) (args : Args) (k : ℕ) (o : Sort) (e : Entry ℕ) (i : BoundVarIndexKind) (own : IsOwn k (depth i)) where
  pub own_given : (r : Tree Depth) → Instantiates args k (param o e.var []) r → OpensTree args k (tree_in rows (bound_shape o i e)) r
  unfolding fill
  own_given r done = own_opens args k o (rename_entry (name_of (meaning rows)) e) (depth i) own r done

  pub own_refused : (unbuilt : Tree Depth → Refusal → Type 0) (r : Refusal) → LeafRefuses unbuilt args k (param o e.var []) r → OpeningRefuses unbuilt args k (tree_in rows (bound_shape o i e)) r
  unfolding fill
  own_refused unbuilt r h = own_refuses args k o (rename_entry (name_of (meaning rows)) e) unbuilt (depth i) own r h

  -- without arguments, a variable of the opened binder is refused with `NoArguments`
  pub own_lacks : (unbuilt : Tree Depth → Refusal → Type 0) → args ≡ [] → OpeningRefuses unbuilt args k (tree_in rows (bound_shape o i e)) NoArguments
  unfolding fill
  own_lacks unbuilt none = own_without args k o (rename_entry (name_of (meaning rows)) e) unbuilt (depth i) own none

-- what is built of an own variable
module _ (rows : List Row) (args : Args) (k : ℕ) (o : Sort) (e : Entry ℕ) (i : BoundVarIndexKind) (own : IsOwn k (depth i)) (unbuilt : Tree Depth → Refusal → Type 0) (new : List Row) where
  -- a variable of the opened binder is opened to what a parameter of its index becomes, and refused as that is
  pub own_found : {H : Type 0} (shape : H → Shape) (result : Result H Refusal)
      → MatchResult result
      (λ h. IsPartOf new (shape h) × Instantiates args k (param o e.var []) (tree_in new (shape h)))
      (λ r. LeafRefuses unbuilt args k (param o e.var []) r)
      → MatchResult result
      (λ h. IsPartOf new (shape h) × OpensTree args k (tree_in rows (bound_shape o i e)) (tree_in new (shape h)))
      (λ r. OpeningRefuses unbuilt args k (tree_in rows (bound_shape o i e)) r)
  own_found shape (Ok h) is = (is.0, own_given rows args k o e i own (tree_in new (shape h)) is.1)
  own_found shape (Err r) is = own_refused rows args k o e i own unbuilt r is

  -- a variable of the opened binder is opened to the argument put for its index, and refused as the argument is
  pub own_put : {H : Type 0} (shape : H → Shape) (kept kept' : Kept) (c c' : Counters) (result : Result H Refusal)
      → MatchResult result
      (λ h. IsPartOf new (shape h) × PutsArgument args k (param o e.var []) (tree_in new (shape h)) kept c kept' c')
      (λ r. LeafRefuses unbuilt args k (param o e.var []) r)
      → MatchResult result
      (λ h. IsPartOf new (shape h) × OpensTree args k (tree_in rows (bound_shape o i e)) (tree_in new (shape h)))
      (λ r. OpeningRefuses unbuilt args k (tree_in rows (bound_shape o i e)) r)
  own_put shape kept kept' c c' (Ok h) is =
      let argument = put_argument is.1 in
      (is.0, own_given rows args k o e i own (tree_in new (shape h)) (record { plain = argument.plain; allows = argument.allows }))
  own_put shape kept kept' c c' (Err r) is = own_refused rows args k o e i own unbuilt r is

-- an index that is below the greatest is so outside
below-outside : (k : ℕ) (i : BoundVarIndexKind) → IsBelowGreatest (depth i) → IsBelowGreatest (depth (index_outside k i))
below-outside k (Bound d) low = elim (cases_lt d k) [ inl h ↦ rw (lt-ltb d k h) low | inr h ↦ rw (le-ltb d k h) (omega (arith, low)) ]
below-outside k Canonical low = tt

-- so a bound region with another index is never too deep
pub region_outside : (unbuilt : Tree Depth → Refusal → Type 0) (rows : List Row) (args : Args) (k : ℕ) (i : BoundVarIndexKind) (b : BoundRegion) (result : Result RegionKind Refusal)
    → IsBelowGreatest (depth i) → (IsOwn k (depth i) → ⊥) → IsPartOf rows (region_shape (ReBound i b)) → (IsShallow (ReBound (index_outside k i) b) → result ≡ Ok (ReBound (index_outside k i) b))
    → MatchResult result
    (λ r. IsPartOf rows (region_shape r) × OpensTree args k (tree_in rows (region_shape (ReBound i b))) (tree_in rows (region_shape r)))
    (λ e. OpeningRefuses unbuilt args k (tree_in rows (region_shape (ReBound i b))) e)
unfolding fill
region_outside unbuilt rows args k i b result low other part is =
    rw (is (below-outside k i low)) (part, outside_opens args k region_sort (rename_entry (name_of (meaning rows)) (region_entry b)) i other)

-- what the hook at regions answers
pub region_answered : (unbuilt : Tree Depth → Refusal → Type 0) (rows : List Row) (s : Standing Opening) (x y : RegionKind) (result : Result RegionKind Refusal) → x ≡ y
    → MatchResult result
    (λ r. IsPartOf rows (region_shape r) × OpensTree s.state.rule s.state.under (tree_in rows (region_shape y)) (tree_in rows (region_shape r)))
    (λ e. OpeningRefuses unbuilt s.state.rule s.state.under (tree_in rows (region_shape y)) e)
    → MatchResult result
    (λ r. IsPartOf rows (region_shape r) × ((s ≡ s) × Done opening s.state.rule s.state.under (tree_in rows (region_shape x)) (tree_in rows (region_shape r))))
    (λ e. (s ≡ s) × OpeningRefuses unbuilt s.state.rule s.state.under (tree_in rows (region_shape x)) e)
region_answered unbuilt rows s x y (Ok r) same h = (h.0, (refl, record { plain = rw same h.1.plain; allows = rw same h.1.given }))
region_answered unbuilt rows s x y (Err e) same h = (refl, rw same h)

-- a region that isn't bound is opened to itself
pub region_stays : (f : Meaning) (args : Args) (k : ℕ) (r : RegionKind) → ((i : BoundVarIndexKind) (b : BoundRegion) → r ≡ ReBound i b → ⊥) → Done opening args k (fill f (region_shape r)) (fill f (region_shape r))
unfolding fill
region_stays f args k (ReEarlyParam p) other = record { plain = refl; allows = tt }
region_stays f args k (ReBound i b) other = absurd (other i b refl)
region_stays f args k (ReLateParam p) other = record { plain = refl; allows = tt }
region_stays f args k ReStatic other = record { plain = refl; allows = tt }
region_stays f args k (ReVar v) other = record { plain = refl; allows = tt }
region_stays f args k (RePlaceholder p) other = record { plain = refl; allows = tt }
region_stays f args k ReErased other = record { plain = refl; allows = tt }
region_stays f args k (ReError e) other = record { plain = refl; allows = tt }

-- the state of the folder, beside counts
abbrev pub at_state : Opening → Counters → Standing Opening
at_state s c = record { state = s; counters = c }

-- what takes a variable's place is answered
pub opened_step : (old new : Terms) (xs ys : List GenericArgKind) (k : ℕ) (es : List (Place × Ty)) (t r : Tree Depth) → opening_state new.rows ys k es ≡ opening_state old.rows xs k es
    → IsVariable t → OpensTree (arguments old.rows xs) k t r → new.counters.descents ≡ old.counters.descents → old.counters.shift_descents ≤ new.counters.shift_descents
    → OnTerm opening (at_state (opening_state old.rows xs k es) old.counters) t (replace r) (at_state (opening_state new.rows ys k es) new.counters)
opened_step old new xs ys k es t r state is opens descents shifts = rw state (given (is, opens, descents, shifts))

-- the counts after a descent
abbrev counts : ℕ → ℕ → Counters
counts a b = record { descents = a; shift_descents = b }

same_counts : (a b x y : ℕ) → a ≡ b → x ≡ y → counts a x ≡ counts b y
same_counts a b x y p q = rw (p, q) refl

-- a type that isn't remembered is taken apart
pub opened_apart : (old new : Terms) (items : List Row → List GenericArgKind) (k : ℕ) (es : List (Place × Ty)) (t : Tree Depth) → new.rows ≡ old.rows
    → new.counters.descents ≡ counted old.counters.descents → new.counters.shift_descents ≡ old.counters.shift_descents → IsTaken shifting k k t
    → (IsIn (record { standing = t; under = k }) (places (memos old.rows es)) → ⊥)
    → OnTerm opening (at_state (opening_state old.rows (items old.rows) k es) old.counters) t descend (at_state (opening_state new.rows (items new.rows) k es) new.counters)
opened_apart old new items k es t rows descents shifts taken fresh =
    let count : new.counters ≡ counts (counted old.counters.descents) old.counters.shift_descents =
    same_counts new.counters.descents (counted old.counters.descents) new.counters.shift_descents old.counters.shift_descents descents shifts in
    rw (rows, count) (taken_apart (also_taken t taken) fresh)
  where
    also_taken : (u : Tree Depth) → IsTaken shifting k k u → IsTaken opening (arguments old.rows (items old.rows)) k u
    also_taken (term l ts) h = h
    also_taken _ h = absurd h

-- a term of which nothing is bound by the opened binder or outside of it is left
pub left_step : (s : Standing Opening) (t : Tree Depth) → (s.state.under < outer_binder t → false ≡ true) → OnTerm opening s t keep s
left_step s t closed = left_alone (low_opens s.state.rule s.state.under t low)
  where
    low : outer_binder t ≤ s.state.under
    low = elim (cases_lt s.state.under (outer_binder t)) [ inl far ↦ absurd (let no : false ≡ true = closed far in cc) | inr le ↦ le ]

-- the same of a term whose tree is a variable's
pub variable_at : (f : Meaning) (o : Sort) (i : BoundVarIndexKind) (e : Entry ℕ) (t : Tree Depth) → t ≡ fill f (bound_shape o i e) → IsVariable t
unfolding fill
variable_at f o i e t same = rw same tt

-- what a tree is opened to, an equal tree is opened to
pub opens_at : (args : Args) (k : ℕ) (t u r : Tree Depth) → t ≡ u → OpensTree args k u r → OpensTree args k t r
opens_at args k t u r same h = subst (λ x. OpensTree args k x r) (sym same) h

-- why a tree isn't opened is why an equal tree isn't
pub refuses_at : (unbuilt : Tree Depth → Refusal → Type 0) (args : Args) (k : ℕ) (t u : Tree Depth) (e : Refusal) → t ≡ u → OpeningRefuses unbuilt args k u e → OpeningRefuses unbuilt args k t e
refuses_at unbuilt args k t u e same h = subst (λ x. OpeningRefuses unbuilt args k x e) (sym same) h
