-- The hooks of a visitor that looks at types alone.
use Rattle.std.specs.Prelude.{◌≡◌, Bool, true, false, ⊤}
use Rattle.tt_kinds.specs.Count.{is_type_sort}
use Rattle.tt_kinds.specs.Label.{is_type}
use Rattle.tt_kinds.specs.Tree.{Depth, Tree, param, bound, region, term, node, binder}
use Rattle.tt_visit.specs.Visit.{Visits}
use Rattle.tt_visit.specs.declared.visitor.Next.{Next}
use Rattle.tt_visit.specs.declared.visitor.Next.TheVariants.{Descend}

-- what the one hook of such a visitor may do: M is the meaning of its state, and B the type of its break value
pub record TypeVisits (M B : Type 0) : Type 1 where
  -- the state before, the type, the answer, the state after
  pub on_type : M → Tree Depth → Next → M → Type 0
  pub type_breaks : M → Tree Depth → B → M → Type 0

-- the hook without a promise
abbrev pub no_visit_promise : {M B : Type 0} → TypeVisits M B
no_visit_promise = record {
  on_type = λ s t next s'. ⊤;
  type_breaks = λ s t b s'. ⊤;
}

-- the hook that breaks only at types in the relation with the state, and enters all others; the state stays
abbrev pub breaks_at : {M B : Type 0} → (M → Tree Depth → Type 0) → TypeVisits M B
breaks_at R = record {
  on_type = λ s t next s'. (next ≡ Descend) × (s' ≡ s);
  type_breaks = λ s t b s'. R s t × (s' ≡ s);
}

-- the tree is a type's
abbrev pub is_type_tree : Tree Depth → Bool
is_type_tree (param s i name) = is_type_sort s
is_type_tree (bound s d e) = is_type_sort s
is_type_tree (region r) = false
is_type_tree (term l ts) = is_type l
is_type_tree (node l ts) = false
is_type_tree (binder vs t) = false

-- the hooks of a visitor that looks at types, keeps its state at regions and tokens of errors, and enters
-- other terms and binders
abbrev pub only_type_visits : {M B : Type 0} → TypeVisits M B → Visits M B
only_type_visits H = record {
  on_region = λ s t s'. s' ≡ s;
  region_breaks = λ s t b s'. ⊥;
  on_error = λ s e s'. s' ≡ s;
  error_breaks = λ s e b s'. ⊥;
  on_term = λ s t next s'. (is_type_tree t ≡ true → H.on_type s t next s')
      × (is_type_tree t ≡ false → (next ≡ Descend) × (s' ≡ s));
  term_breaks = λ s t b s'. (is_type_tree t ≡ true) × H.type_breaks s t b s';
  enter = λ s vs next s'. (next ≡ Descend) × (s' ≡ s);
  enter_breaks = λ s vs b s'. ⊥;
  leave = λ s vs s'. s' ≡ s;
}
