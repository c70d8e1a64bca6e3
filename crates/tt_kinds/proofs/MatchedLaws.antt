-- Variables that agree with their binders stay so.
use Rattle.std.proofs.Common.{◌≡◌, ℕ, zero, suc, List, [], ◌∷◌, ◌++◌, refl}
use Rattle.std.specs.Prelude.{Option, Some, None, slice_get, IsSomeAnd, unwrap_or}
use Rattle.tt_kinds.specs.Label.{Name, Sort, VarKind, Entry}
use Rattle.tt_kinds.specs.Tree.{Place, own, outer, apart, Tree, param, bound, region, term, node, binder, Forest, none}
use Rattle.tt_kinds.specs.Tree.{also}
use Rattle.tt_kinds.specs.Reading.{moved, move, move_all}
use Rattle.tt_kinds.specs.Argument.{Argument, argument, given, put, put_all}
use Rattle.tt_kinds.specs.Matched.{IsEntryOf, MatchesAt, MatchedUnder, MatchedUnder_all, ArgumentsMatched}

-- more binders outside
IsSomeAnd-append : {X : Type 0} (P : X → Type 0) (xs ys : List X) (i : ℕ) → IsSomeAnd (slice_get xs i) P → IsSomeAnd (slice_get (xs ++ ys) i) P
IsSomeAnd-append P [] ys i h = absurd h
IsSomeAnd-append P (x ∷ xs) ys zero h = h
IsSomeAnd-append P (x ∷ xs) ys (suc i) h = IsSomeAnd-append P xs ys i h

MatchesAt-append : (lists more : List (List (VarKind Name))) (p : Place) (e : Entry Name) → MatchesAt lists p e → MatchesAt (lists ++ more) p e
MatchesAt-append lists more (own d) e h = IsSomeAnd-append (λ vs. IsEntryOf vs e) lists more d h
MatchesAt-append lists more (outer j) e h = tt
MatchesAt-append lists more apart e h = tt

mutual
  -- a reading that agrees under some binders agrees under more of them outside
  pub MatchedUnder-append : (lists more : List (List (VarKind Name))) (r : Tree Place) → MatchedUnder lists r → MatchedUnder (lists ++ more) r
  MatchedUnder-append lists more (param s i name) h = tt
  MatchedUnder-append lists more (bound s p e) h = MatchesAt-append lists more p e h
  MatchedUnder-append lists more (region r) h = tt
  MatchedUnder-append lists more (term l rs) h = MatchedUnder_all-append lists more rs h
  MatchedUnder-append lists more (node l rs) h = MatchedUnder_all-append lists more rs h
  MatchedUnder-append lists more (binder vs r) h = MatchedUnder-append (vs ∷ lists) more r h

  pub MatchedUnder_all-append : (lists more : List (List (VarKind Name))) (rs : Forest Place) → MatchedUnder_all lists rs → MatchedUnder_all (lists ++ more) rs
  MatchedUnder_all-append lists more none h = tt
  MatchedUnder_all-append lists more (also r rs) h = (MatchedUnder-append lists more r h.0, MatchedUnder_all-append lists more rs h.1)

module _ (args : List (Argument Place)) (h_args : ArgumentsMatched args) where
  MatchedUnder-given : (lists : List (List (VarKind Name))) (s : Sort) (i : ℕ) (name : Name) → MatchedUnder lists (given args s i name)
  MatchedUnder-given lists s i name = at_value (argument args s i) refl
    where
      at_value : (o : Option (Tree Place)) → argument args s i ≡ o → MatchedUnder lists (unwrap_or o (param s i name))
      at_value None e = tt
      at_value (Some r) e = MatchedUnder-append [] lists r (h_args s i r e)

  mutual
    -- replacement keeps the agreement
    pub MatchedUnder-put : (lists : List (List (VarKind Name))) (r : Tree Place) → MatchedUnder lists r → MatchedUnder lists (put args r)
    MatchedUnder-put lists (param s i name) h = MatchedUnder-given lists s i name
    MatchedUnder-put lists (bound s p e) h = h
    MatchedUnder-put lists (region r) h = tt
    MatchedUnder-put lists (term l rs) h = MatchedUnder_all-put lists rs h
    MatchedUnder-put lists (node l rs) h = MatchedUnder_all-put lists rs h
    MatchedUnder-put lists (binder vs r) h = MatchedUnder-put (vs ∷ lists) r h

    pub MatchedUnder_all-put : (lists : List (List (VarKind Name))) (rs : Forest Place) → MatchedUnder_all lists rs → MatchedUnder_all lists (put_all args rs)
    MatchedUnder_all-put lists none h = tt
    MatchedUnder_all-put lists (also r rs) h = (MatchedUnder-put lists r h.0, MatchedUnder_all-put lists rs h.1)

module _ (n : ℕ) where
  MatchesAt-moved : (lists : List (List (VarKind Name))) (p : Place) (e : Entry Name) → MatchesAt lists p e → MatchesAt lists (moved n p) e
  MatchesAt-moved lists (own d) e h = h
  MatchesAt-moved lists (outer j) e h = tt
  MatchesAt-moved lists apart e h = tt

  mutual
    -- a move keeps the agreement
    pub MatchedUnder-move : (lists : List (List (VarKind Name))) (r : Tree Place) → MatchedUnder lists r → MatchedUnder lists (move n r)
    MatchedUnder-move lists (param s i name) h = tt
    MatchedUnder-move lists (bound s p e) h = MatchesAt-moved lists p e h
    MatchedUnder-move lists (region r) h = tt
    MatchedUnder-move lists (term l rs) h = MatchedUnder_all-move lists rs h
    MatchedUnder-move lists (node l rs) h = MatchedUnder_all-move lists rs h
    MatchedUnder-move lists (binder vs r) h = MatchedUnder-move (vs ∷ lists) r h

    pub MatchedUnder_all-move : (lists : List (List (VarKind Name))) (rs : Forest Place) → MatchedUnder_all lists rs → MatchedUnder_all lists (move_all n rs)
    MatchedUnder_all-move lists none h = tt
    MatchedUnder_all-move lists (also r rs) h = (MatchedUnder-move lists r h.0, MatchedUnder_all-move lists rs h.1)
