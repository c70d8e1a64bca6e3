-- How many types an instantiation takes apart if one type occurs at many places.
use Rattle.std.proofs.Common.{inl, inr, ◌≡◌, ◌<◌, ◌≤◌, ◌+◌, ℕ, List, [], ◌∷◌, map, refl, sym, ap, subst, ◌∙◌, arith}
use Rattle.std.proofs.lemmas.List.{length-map}
use Rattle.tt_kinds.specs.declared.table.Table.TheVariants.{TypeLists}
use Rattle.tt_kinds.specs.Label.{type_sort, tuple_type, fn_ptr_type, fn_sig_tys_record, type_label, list_label}
use Rattle.tt_kinds.specs.Label.{record_label}
use Rattle.tt_kinds.specs.Tree.{Depth, Tree, param, term, node, binder, Forest, none, also}
use Rattle.tt_kinds.specs.Param.{holds_param}
use Rattle.tt_kinds.specs.Argument.{Argument}
use Rattle.tt_kinds.specs.Plain.{given_under, inst_tree}
use Rattle.tt_kinds.specs.Count.{TypeAt, place_count, generic_types, moving_types}
use Rattle.tt_fold.specs.Places.{IsIn, CountsPairs}
use Rattle.tt_fold.proofs.PlaceLaws.{IsIn-map, length-distinct}
use Rattle.tt_fold.proofs.ShiftExamples.{i32, reference_at, twice, paired, pairs, few-among, moving-pairs, length-pairs}
use Rattle.tt_fold.proofs.ShiftExamples.{rebuild-paired}
use Rattle.tt_binder.specs.Shifted.{param_at}
use Rattle.tt_binder.specs.Sharing.{IsParamIn, IsParamAmong, moving_at, IsMovedFor, CountsShifts}
use Rattle.tt_binder.specs.declared.shifted.ParamAt.{ParamAt}

-- a type parameter of index 0, and one type as the list of arguments
abbrev pub parameter : Tree Depth
parameter = param type_sort 0 []

abbrev pub one : Tree Depth → List (Argument Depth)
one t = record { sort = type_sort; value = t } ∷ []

-- a tuple, and a function pointer under a binder of no variables, without a result
abbrev types : Forest Depth → Tree Depth
types ts = node (list_label TypeLists) ts

abbrev pub tuple : Forest Depth → Tree Depth
tuple ts = term (type_label tuple_type) (also (types ts) none)

abbrev pub pointer : Forest Depth → Tree Depth
pointer ts = term (type_label (fn_ptr_type (record { fn_sig_kind = record { flags = 0; splat = 65535 } })))
    (also (binder [] (node (record_label fn_sig_tys_record) (also (types ts) none))) none)

-- `(P, P, fn(Q))`, where P and Q are the tuples of these types alone
abbrev twice_and_under : Tree Depth → Tree Depth → Tree Depth
twice_and_under t u = tuple (also (tuple (also t none)) (also (tuple (also t none)) (also (pointer (also (tuple (also u none)) none)) none)))

-- under the pointer's binder the argument is shifted, and outside of the binder it stays as it is
twice_and_under_put : inst_tree 0 (one (reference_at 0)) (twice_and_under parameter parameter) ≡ twice_and_under (reference_at 0) (reference_at 1)
twice_and_under_put = refl

-- `(P, P, fn(P))` has five places of types with a parameter, of which two are one type under as many binders
five_positions : place_count (twice_and_under parameter parameter) ≡ 5
five_positions = refl

-- a type, and the binders above it
abbrev place : Tree Depth → ℕ → TypeAt
place t k = record { standing = t; under = k }

abbrev four : List TypeAt
four = place (twice_and_under parameter parameter) 0 ∷ place (tuple (also parameter none)) 0
    ∷ place (pointer (also (tuple (also parameter none)) none)) 0 ∷ place (tuple (also parameter none)) 1 ∷ []

among_four : (p : TypeAt) → IsIn p (generic_types 0 (twice_and_under parameter parameter)) → IsIn p four
among_four p (inl whole) = inl whole
among_four p (inr (inl first)) = inr (inl first)
among_four p (inr (inr (inl again))) = inr (inl again)
among_four p (inr (inr (inr rest))) = inr (inr rest)

-- of these five at most four are taken apart
four_pairs : (before after : ℕ) → CountsPairs (generic_types 0 (twice_and_under parameter parameter)) before after → after ≤ before + 4
four_pairs before after c = omega (arith, c.few, length-distinct c.pairs four c.distinct (λ p h. among_four p (c.each p h)))

-- a parameter paired 64 times has 2^64 - 1 such places, of 64 types: at most 64 are taken apart
tower_taken_apart : (before after : ℕ) → CountsPairs (generic_types 0 (paired 64 parameter)) before after → after ≤ before + 64
tower_taken_apart before after c = few-among generic_types (λ k u. holds_param (twice u)) (λ k u. refl) 64 before after parameter c

-- the tower's instance is the argument paired 64 times
tower_put : inst_tree 0 (one i32) (paired 64 parameter) ≡ paired 64 i32
tower_put = rebuild-paired (λ j d. d) (given_under (one i32)) 64 parameter

-- a pointer's parameters are under one more binder, and a tuple's are not
in-pointer : (p : ParamAt) (ts : Forest Depth) → IsParamIn p 0 (pointer ts) → IsParamAmong p 1 ts
in-pointer p ts (inl (inl h)) = h
in-pointer p ts (inl (inr h)) = absurd h
in-pointer p ts (inr h) = absurd h

in-tuple : (p : ParamAt) (ts : Forest Depth) → IsParamIn p 0 (tuple ts) → IsParamAmong p 0 ts
in-tuple p ts (inl h) = h
in-tuple p ts (inr h) = absurd h

-- the index and the binders of each of these parameters
is-at : (p : ParamAt) (k : ℕ) → IsParamIn p k parameter → p ≡ param_at 0 k
is-at p k h = ap (λ j. param_at j p.under) (sym h.0) ∙ ap (λ m. param_at 0 m) (sym h.1)

one-is-at : (p : ParamAt) (k : ℕ) → IsParamAmong p k (also parameter none) → p ≡ param_at 0 k
one-is-at p k (inl h) = is-at p k h
one-is-at p k (inr h) = absurd h

both-are-at : (p : ParamAt) (k : ℕ) → IsParamAmong p k (also parameter (also parameter none)) → p ≡ param_at 0 k
both-are-at p k (inl h) = is-at p k h
both-are-at p k (inr h) = one-is-at p k h

-- in `(fn(T), fn(T, T))` each of the three is under one binder
abbrev pointers : Forest Depth
pointers = also (pointer (also parameter none)) (also (pointer (also parameter (also parameter none))) none)

in-pointers : (p : ParamAt) → IsParamAmong p 0 pointers → p ≡ param_at 0 1
in-pointers p (inl h) = one-is-at p 1 (in-pointer p (also parameter none) h)
in-pointers p (inr (inl h)) = both-are-at p 1 (in-pointer p (also parameter (also parameter none)) h)
in-pointers p (inr (inr h)) = absurd h

-- a tower as the argument, and its types that a shift takes apart
abbrev tower_args : List (Argument Depth)
tower_args = one (paired 64 (reference_at 0))

abbrev tower : List TypeAt
tower = pairs 64 0 (reference_at 0) (moving_types 0 (reference_at 0))

-- a type of the argument, at the one place of the parameter
abbrev under_one : TypeAt → ParamAt × TypeAt
under_one u = (param_at 0 1, u)

in-tower : (x : ParamAt × TypeAt) → IsMovedFor tower_args (tuple pointers) x.0 x.1 → IsIn x (map under_one tower)
in-tower x m =
    let place = in-pointers x.0 (in-tuple x.0 pointers m.param) in
    let moving : IsIn x.1 (moving_types 0 (paired 64 (reference_at 0))) = subst (λ p. IsIn x.1 (moving_at tower_args p.index)) place m.moving in
    let there = IsIn-map under_one x.1 tower (moving-pairs 64 (reference_at 0) x.1 moving) in
    subst (λ p. IsIn {A = ParamAt × TypeAt} (p, x.1) (map under_one tower)) (sym place) there

-- an argument that is a tower is shifted once for all three, which takes at most 65 types apart
shifted_once : (before after : ℕ) → CountsShifts tower_args (tuple pointers) before after → after ≤ before + 65
shifted_once before after c = omega (
  arith,
  c.few,
  length-distinct c.moved (map under_one tower) c.distinct (λ x h. in-tower x (c.each x h)),
  length-map tower under_one,
  length-pairs 64 0 (reference_at 0) (moving_types 0 (reference_at 0)),
)

-- no type of the argument is shifted for a parameter under no binder
never-moved : (x : ParamAt × TypeAt) → IsMovedFor (one (reference_at 0)) (twice parameter) x.0 x.1 → ⊥
never-moved x m =
    let place = both-are-at x.0 0 (in-tuple x.0 (also parameter (also parameter none)) m.param) in
    let some : 0 < 0 = subst (λ p. 0 < p.under) place m.under_some in
    omega (arith, some)

-- an argument that is put under no binder is not shifted
not_shifted : (before after : ℕ) → CountsShifts (one (reference_at 0)) (twice parameter) before after → after ≤ before
not_shifted before after c = omega (arith, c.few, length-distinct c.moved [] c.distinct (λ x h. never-moved x (c.each x h)))
