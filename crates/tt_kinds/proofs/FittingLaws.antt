-- Which trees fit, by their indices and their binders.
use Rattle.std.proofs.Common.{inl, inr, ◌≡◌, ℕ, zero, suc, ◌+◌, ◌-◌, ◌<◌, ◌≤◌, List, [], ◌∷◌, refl, subst, arith}
use Rattle.std.specs.Prelude.{Option, Some, None, option_map, unwrap_or, slice_get, Bool, true, false, if◌then◌else◌}
use Rattle.std.proofs.lemmas.Bool.{cases_lt}
use Rattle.std.proofs.lemmas.Option.{same_Some}
use Rattle.tt_index.specs.Greatest.{greatest}
use Rattle.tt_kinds.specs.Label.{Name, Sort}
use Rattle.tt_kinds.specs.Tree as tree
use Rattle.tt_kinds.specs.Tree.{Depth, at, canonical, Place, own, outer, apart, Tree, Forest}
use Rattle.tt_kinds.specs.Reading.{place, reach, read, read_all, moved, move, move_all, outer_binder, greatest_reach}
use Rattle.tt_kinds.specs.Reading.{greatest_reach_all, FitsAt, FitsUnder, FitsUnder_all}
use Rattle.tt_kinds.specs.Argument.{Argument, same_sort, of_sort, given, put, put_all, readings}
use Rattle.tt_kinds.specs.Bound.{IsBelowGreatest}
use Rattle.tt_kinds.specs.Shape.{Shape, Shapes, param, bound, region, term, node, binder, stored, part_of, none, also}
use Rattle.tt_kinds.specs.Shape.{Meaning, fill, fill_all, Sizes}
use Rattle.tt_kinds.specs.Shape.{IsPart, AreParts, HasParts}
use Rattle.tt_kinds.specs.declared.table.Table.{Table}
use Rattle.tt_kinds.specs.Range.{IndicesFit, IndicesFit_all, binders_in, binders_among}
use Rattle.tt_kinds.specs.Fitting.{BindersFit, BindersFit_all, HasRoom, HaveRoom}
use Rattle.tt_kinds.proofs.ReadingLaws.{place-own, place-outer}
use Rattle.tt_kinds.proofs.PutLaws.{argument-change_values}
use Rattle.tt_kinds.proofs.ForestLaws.{IsOfEach, list-each}

index-fits : (k : ℕ) (d : Depth) → IsBelowGreatest d → FitsAt k (place k d)
index-fits k (at d) h = elim (cases_lt d k) [ inl g ↦ rw (place-own k d g) tt | inr g ↦ let low : d - k + k < greatest = omega arith in rw (place-outer k d g) low ]
index-fits k canonical h = tt

mutual
  -- a tree whose indices are in range fits, if its binders do
  pub tree-fits : (k : ℕ) (t : Tree Depth) → IndicesFit t → BindersFit k t → FitsUnder k (read k t)
  tree-fits k (tree.param s i name) h b = tt
  tree-fits k (tree.bound s d e) h b = index-fits k d h
  tree-fits k (tree.region r) h b = tt
  tree-fits k (tree.term l ts) h b = trees-fit k ts h b
  tree-fits k (tree.node l ts) h b = trees-fit k ts h b
  tree-fits k (tree.binder vs t) h b = (b.0, tree-fits (suc k) t h b.1)

  trees-fit : (k : ℕ) (ts : Forest Depth) → IndicesFit_all ts → BindersFit_all k ts → FitsUnder_all k (read_all k ts)
  trees-fit k tree.none h b = tt
  trees-fit k (tree.also t ts) h b = (tree-fits k t h.0 b.0, trees-fit k ts h.1 b.1)

-- A tree that reaches at most m, under k binders, moved by n: a is the room that its binders have.

moved_place-fits : (n m k : ℕ) (p : Place) → reach p ≤ m → n + m + k ≤ greatest → FitsAt k (moved n p)
moved_place-fits n m k (own d) h low = tt
moved_place-fits n m k (outer j) h low = omega arith
moved_place-fits n m k apart h low = tt

mutual
  moved_under-fits : (n m a k : ℕ) (t : Tree Depth) → a ≡ n + m + k → greatest_reach (read k t) ≤ m → a ≤ greatest → BindersFit a t → FitsUnder k (move n (read k t))
  moved_under-fits n m a k (tree.param s i name) is h low b = tt
  moved_under-fits n m a k (tree.bound s d e) is h low b = moved_place-fits n m k (place k d) h (omega arith)
  moved_under-fits n m a k (tree.region r) is h low b = tt
  moved_under-fits n m a k (tree.term l ts) is h low b = moved_all_under-fit n m a k ts is h low b
  moved_under-fits n m a k (tree.node l ts) is h low b = moved_all_under-fit n m a k ts is h low b
  moved_under-fits n m a k (tree.binder vs t) is h low b = let room = b.0 in (omega arith, moved_under-fits n m (suc a) (suc k) t (omega arith) h (omega arith) b.1)

  moved_all_under-fit : (n m a k : ℕ) (ts : Forest Depth) → a ≡ n + m + k → greatest_reach_all (read_all k ts) ≤ m → a ≤ greatest → BindersFit_all a ts → FitsUnder_all k (move_all n (read_all k ts))
  moved_all_under-fit n m a k tree.none is h low b = tt
  moved_all_under-fit n m a k (tree.also t ts) is h low b =
      (moved_under-fits n m a k t is (omega arith) low b.0, moved_all_under-fit n m a k ts is (omega arith) low b.1)

-- a tree that reaches at most m fits when it is moved by n, if its binders fit under n + m more
pub moved-fits : (n m : ℕ) (t : Tree Depth) → outer_binder t ≤ m → n + m ≤ greatest → BindersFit (n + m) t → FitsUnder 0 (move n (read 0 t))
moved-fits n m t h low b = moved_under-fits n m (n + m) 0 t (omega arith) h low b

-- An argument that is put under k binders, j of its own entered: a is the room that its binders have.

put_place-fits : (m k : ℕ) (p : Place) → reach p ≤ m → m + k ≤ greatest → FitsAt k p
put_place-fits m k (own d) h low = tt
put_place-fits m k (outer j) h low = omega arith
put_place-fits m k apart h low = tt

mutual
  value_under-fits : (m a k j : ℕ) (t : Tree Depth) → a ≡ k + m → greatest_reach (read j t) ≤ m → a ≤ greatest → BindersFit a t → FitsUnder k (read j t)
  value_under-fits m a k j (tree.param s i name) is h low b = tt
  value_under-fits m a k j (tree.bound s d e) is h low b = put_place-fits m k (place j d) h (omega arith)
  value_under-fits m a k j (tree.region r) is h low b = tt
  value_under-fits m a k j (tree.term l ts) is h low b = values_under-fit m a k j ts is h low b
  value_under-fits m a k j (tree.node l ts) is h low b = values_under-fit m a k j ts is h low b
  value_under-fits m a k j (tree.binder vs t) is h low b = let room = b.0 in (omega arith, value_under-fits m (suc a) (suc k) (suc j) t (omega arith) h (omega arith) b.1)

  values_under-fit : (m a k j : ℕ) (ts : Forest Depth) → a ≡ k + m → greatest_reach_all (read_all j ts) ≤ m → a ≤ greatest → BindersFit_all a ts → FitsUnder_all k (read_all j ts)
  values_under-fit m a k j tree.none is h low b = tt
  values_under-fit m a k j (tree.also t ts) is h low b =
      (value_under-fits m a k j t is (omega arith) low b.0, values_under-fit m a k j ts is (omega arith) low b.1)

value-fits : (b k : ℕ) (t : Tree Depth) → HasRoom b t → k + b ≤ greatest → FitsUnder k (read 0 t)
value-fits b k t room low =
    let reaches = room.reaches in
    value_under-fits (outer_binder t) (k + outer_binder t) k 0 t refl (omega arith) (omega arith) (room.binders k low)

argument_room : (b : ℕ) (args : List (Argument Depth)) (i : ℕ) (a : Argument Depth) → HaveRoom b args → slice_get args i ≡ Some a → HasRoom b a.value
argument_room b [] i a h e = cc
argument_room b (x ∷ args) zero a h e = let same = same_Some x a e in subst (λ (y : Argument Depth). HasRoom b y.value) same h.0
argument_room b (x ∷ args) (suc i) a h e = argument_room b args i a h.1 e

given-fits : (b k : ℕ) (args : List (Argument Depth)) → HaveRoom b args → k + b ≤ greatest → (s : Sort) (i : ℕ) (name : Name) → FitsUnder k (given (readings args) s i name)
given-fits b k args h low s i name = rw (argument-change_values (read 0) args s i) (of_slot (slice_get args i) refl)
  where
    of_test : (t : Bool) (a : Argument Depth) → slice_get args i ≡ Some a → FitsUnder k (unwrap_or (option_map (read 0) (if t then Some a.value else None)) (tree.param s i name))
    of_test true a e = value-fits b k a.value (argument_room b args i a h e) low
    of_test false a e = tt

    of_slot : (o : Option (Argument Depth)) → slice_get args i ≡ o → FitsUnder k (unwrap_or (option_map (read 0) (of_sort s o)) (tree.param s i name))
    of_slot None e = tt
    of_slot (Some a) e = of_test (same_sort s a.sort) a e

-- A tree whose parameters are replaced, under k binders: a is the room that its binders have.

mutual
  instance_under-fits : (b : ℕ) (args : List (Argument Depth)) → HaveRoom b args → (a k : ℕ) (t : Tree Depth) → a ≡ k + b → a ≤ greatest → IndicesFit t → BindersFit a t
      → FitsUnder k (put (readings args) (read k t))
  instance_under-fits b args room a k (tree.param s i name) is low h f = given-fits b k args room (omega arith) s i name
  instance_under-fits b args room a k (tree.bound s d e) is low h f = index-fits k d h
  instance_under-fits b args room a k (tree.region r) is low h f = tt
  instance_under-fits b args room a k (tree.term l ts) is low h f = instances_under-fit b args room a k ts is low h f
  instance_under-fits b args room a k (tree.node l ts) is low h f = instances_under-fit b args room a k ts is low h f
  instance_under-fits b args room a k (tree.binder vs t) is low h f = let deep = f.0 in (omega arith, instance_under-fits b args room (suc a) (suc k) t (omega arith) (omega arith) h f.1)

  instances_under-fit : (b : ℕ) (args : List (Argument Depth)) → HaveRoom b args → (a k : ℕ) (ts : Forest Depth) → a ≡ k + b → a ≤ greatest → IndicesFit_all ts → BindersFit_all a ts
      → FitsUnder_all k (put_all (readings args) (read_all k ts))
  instances_under-fit b args room a k tree.none is low h f = tt
  instances_under-fit b args room a k (tree.also t ts) is low h f =
      (instance_under-fits b args room a k t is low h.0 f.0, instances_under-fit b args room a k ts is low h.1 f.1)

-- a tree fits with its parameters replaced, if its binders fit under b more and its arguments have room in b
pub instance-fits : (b : ℕ) (args : List (Argument Depth)) (t : Tree Depth) → IndicesFit t → BindersFit b t → b ≤ greatest → HaveRoom b args → FitsUnder 0 (put (readings args) (read 0 t))
instance-fits b args t h f low room = instance_under-fits b args room b 0 t (omega arith) low h f

-- Few binders are nested, if each handle's tree nests few.

-- the binders of a forest fit exactly where those of each tree do
each-binders : (k : ℕ) → IsOfEach (BindersFit_all k) (BindersFit k)
each-binders k = record {
  nothing = tt;
  first = λ t ts h. h.0;
  others = λ t ts h. h.1;
  more = λ t ts h hs. (h, hs);
}

module _ (size : Sizes) (f : Meaning) (most : ℕ) (fit : (k : ℕ) (t : Table) (n : ℕ) → n < size t → k + most ≤ greatest → BindersFit k (f t n)) where
  mutual
    unfolding fill

    -- the binders of a value's tree, if a handle's tree nests at most so many
    pub part-binders : (k : ℕ) (s : Shape) → IsPart size s → k + binders_in s + most ≤ greatest → BindersFit k (fill f s)
    part-binders k (param s i name) part h = tt
    part-binders k (bound s d e) part h = tt
    part-binders k (region r) part h = tt
    part-binders k (term l ss) part h = absurd part
    part-binders k (node l ss) part h = parts-binders k ss part.2 h
    part-binders k (binder n s) part h = (omega arith, part-binders (suc k) s part.1 (omega arith))
    part-binders k (stored t n) part h = fit k t n part (omega arith)
    part-binders k (part_of t n e) part h = list-each (BindersFit_all k) (BindersFit k) (each-binders k) (λ l ts h. h) e (f t n) (fit k t n part (omega arith))

    parts-binders : (k : ℕ) (ss : Shapes) → AreParts size ss → k + binders_among ss + most ≤ greatest → BindersFit_all k (fill_all f ss)
    parts-binders k none part h = tt
    parts-binders k (also s ss) part h = (part-binders k s part.0 (omega arith), parts-binders k ss part.1 (omega arith))

  -- the binders of a row's tree
  pub row-binders : (k : ℕ) (s : Shape) → HasParts size s → k + binders_in s + most ≤ greatest → BindersFit k (fill f s)
  unfolding fill
  row-binders k (param s i name) part h = tt
  row-binders k (bound s d e) part h = tt
  row-binders k (region r) part h = absurd part
  row-binders k (term l ss) part h = parts-binders k ss part.1 h
  row-binders k (node l ss) part h = parts-binders k ss part.1 h
  row-binders k (binder n s) part h = absurd part
  row-binders k (stored t n) part h = absurd part
  row-binders k (part_of t n e) part h = absurd part
