-- From the children of a node to the node.
use Rattle.std.proofs.Common.{inl, inr, ◌≡◌, ℕ}
use Rattle.std.specs.Prelude.{Bool, true, false}
use Rattle.std.specs.Bool.{OnTrue}
use Rattle.tt_kinds.specs.Label.{Name, Sort, Label, is_type_or_clause}
use Rattle.tt_kinds.specs.Tree.{Tree, term, Forest, also}
use Rattle.tt_kinds.specs.Param.{HasParam, HasParam_among, IsGeneric_among}
use Rattle.tt_kinds.specs.Cause.{HasExposed, HasExposed_among, HidesRegionVars}

-- the tree is one of the children
pub data Among {I : Type 0} (t : Tree I) : Forest I → Type 0 where
  here : {ts : Forest I} → Among t (also t ts)
  later : {u : Tree I} {ts : Forest I} → Among t ts → Among t (also u ts)

-- if a parameter that meets P occurs in a child, one occurs among the children
pub HasParam-among : {I : Type 0} (P : Sort → ℕ → Type 0) (t : Tree I) (ts : Forest I) → Among t ts → HasParam P t → HasParam_among P ts
HasParam-among P t ts here h = inl h
HasParam-among P t ts (later {ts = rest} m) h = inr (HasParam-among P t rest m h)

-- a region variable that is exposed in a child is exposed among the children
pub HasExposed-among : {I : Type 0} (x : ℕ) (t : Tree I) (ts : Forest I) → Among t ts → HasExposed x t → HasExposed_among x ts
HasExposed-among x t ts here h = inl h
HasExposed-among x t ts (later {ts = rest} m) h = inr (HasExposed-among x t rest m h)

-- no region variable is exposed among the trees
abbrev pub HidesRegionVars_among : {I : Type 0} → Forest I → Type 0
HidesRegionVars_among ts = (x : ℕ) → HasExposed_among x ts → ⊥

-- no region variable is exposed among trees, if none is in the first and none among the others
pub HidesRegionVars-also : {I : Type 0} (t : Tree I) (ts : Forest I) → HidesRegionVars t → HidesRegionVars_among ts → HidesRegionVars_among (also t ts)
HidesRegionVars-also t ts first rest x h = elim h [ inl a ↦ first x a | inr b ↦ rest x b ]

-- a node's children hide theirs
pub HidesRegionVars-term : {I : Type 0} (l : Label Name) (ts : Forest I) → HidesRegionVars_among ts → HidesRegionVars (term l ts)
HidesRegionVars-term l ts h x g = h x g.1

-- a type, predicate or clause list without parameters hides its contents
pub HidesRegionVars-stored : {I : Type 0} (l : Label Name) (ts : Forest I) → is_type_or_clause l ≡ true → (IsGeneric_among ts → ⊥) → HidesRegionVars (term l ts)
HidesRegionVars-stored l ts is never x g = never (at_true (is_type_or_clause l) is g.0)
  where
    at_true : (b : Bool) → b ≡ true → OnTrue b (IsGeneric_among ts) → IsGeneric_among ts
    at_true true e h = h
    at_true false e h = cc
