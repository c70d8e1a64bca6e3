-- The contract of `unify`, from what its loop and its search promise. Neither builds a term.
use Rattle.std.proofs.Common.{◌≡◌, refl, ℕ, List, [], length, get_or, drop, Option, Some, None, Contains, ◌⊎◌, inl, inr}
use Rattle.tt_kinds.specs.Tree.{Depth, Tree}
use Rattle.tt_kinds.specs.Kinds.{ty_shape}
use Rattle.tt_kinds.specs.Handle.{Ty}
use Rattle.tt_interner.specs.Rows.{AreRows}
use Rattle.tt_interner.specs.Stored.{Terms}
use Rattle.tt_fold.specs.Steps.{tree_in}
use Rattle.unify.specs.Substitution.{Assignment, apply, IsOwn, Refines, Solves, IsMostGeneral, HasNoUnifier}
use Rattle.unify.specs.Substitution.{GivesClosed, HasNoClosedUnifier, HasNoOwnUnifier}
use Rattle.unify.specs.Pairs.{EquatesAll}
use Rattle.unify.specs.Search.{IsOrder, Reaches}
use Rattle.unify.specs.Triangular.{AreClosed, IsChild, StandsBelow, Pairs, Searched}
use Rattle.unify.specs.Bindings.{stored, substitution, values, AreEntries, IsRefined, IsTable, Table}
use Rattle.unify.specs.Comparison.{PendingIn, ComparedIn, Compares, HasCompared}
use Rattle.unify.specs.declared.pairs.Pair.{Pair}
use Rattle.unify.proofs.LinkLaws.{links_stand}
use Rattle.unify.proofs.OccursLaws.{AllProper, type_proper}
use Rattle.unify.proofs.OrderLaws.{first_place, place_above, place_below, place_of}
use Rattle.unify.proofs.OwnSolution.{entry_proper}
use Rattle.unify.proofs.TriangularCalls.{search_acyclic}
use Rattle.unify.proofs.TriangularCycles.{cycle_fails}
use Rattle.unify.proofs.TriangularPairs as pairs
use Rattle.unify.proofs.TableLaws.{table_represents, table_solved, stored_solved, entries_refine}

module _ (terms : Terms) (xs : List (Option Ty)) (are : AreRows terms.rows) (table : AreEntries terms xs)
    (left right : Ty) (ys : List (Option Ty)) (C : Pairs)
    (closed : AreClosed (stored terms xs) → AreClosed (stored terms ys)) where
  proper : AllProper (stored terms ys)
  proper v r is = entry_proper terms ys are v (get_or ys v None) refl r is

  module _ (loop : Compares terms xs left right ys [] C) where
    -- where the search finds a variable that is reached from itself, the two types have no unifier
    pub occurs : (order : ℕ → ℕ) → StandsBelow order (stored terms ys) → (v : ℕ)
        → Reaches (IsChild (stored terms ys)) v v
        → HasNoUnifier (values terms xs) (tree_in terms.rows (ty_shape left))
        (tree_in terms.rows (ty_shape right))
    occurs order stands v reaches ρ solves equal =
        let later = loop.keeps ρ (stored_solved terms xs table ρ solves) equal in
        cycle_fails (stored terms ys) proper order stands ρ later.0 v reaches

    -- a search that finds none has met each variable that was bound anew
    module _ (found : ℕ → Option ℕ) (next : ℕ) (searched : Searched (stored terms ys) found next)
        (met : (v : ℕ) (t : Tree Depth) → stored terms ys v ≡ Some t
        → (stored terms xs v ≡ Some t) ⊎ ((r : ℕ) × (found v ≡ Some r))) where
      pub new_table : AreEntries terms ys
      new_table = record {
        owned = loop.owned;
        acyclic = search_acyclic (stored terms xs) (stored terms ys) found next table.acyclic searched met;
        closed = closed table.closed;
      }

      -- then the new bindings refine the old ones
      pub refined : Refines (values terms xs) (values terms ys)
      refined = entries_refine terms xs ys table new_table loop.kept

      -- make the two types equal
      pub unified : apply (values terms ys) (tree_in terms.rows (ty_shape left))
          ≡ apply (values terms ys) (tree_in terms.rows (ty_shape right))
      unified =
          pairs.unified (stored terms ys) (values terms ys) (table_represents terms ys new_table) proper
          (PendingIn terms []) C loop.rests (λ t u p. p) (tree_in terms.rows (ty_shape left))
          (tree_in terms.rows (ty_shape right)) (type_proper terms.rows are left) (type_proper terms.rows are right)
          loop.link

      -- and are the most general ones that do
      pub general : IsMostGeneral (values terms xs) (tree_in terms.rows (ty_shape left))
          (tree_in terms.rows (ty_shape right)) (values terms ys)
      general ρ solves equal =
          let later = loop.keeps ρ (stored_solved terms xs table ρ solves) equal in
          table_solved terms ys new_table ρ later.0

  -- where no closed assignment solves what the loop has come to, the two types have no closed unifier
  pub escapes : (ps : List Pair) → Compares terms xs left right ys ps C
      → ((ρ : Assignment) → GivesClosed ρ → Solves ρ (stored terms ys) → EquatesAll ρ terms ps → ⊥)
      → HasNoClosedUnifier (values terms xs) (tree_in terms.rows (ty_shape left)) (tree_in terms.rows (ty_shape right))
  escapes ps loop never ρ own solves equal =
      let later = loop.keeps ρ (stored_solved terms xs table ρ solves) equal in
      never ρ own later.0 later.1

  -- where no own assignment solves what the loop has come to, the two types have no own unifier
  pub mismatch : (ps : List Pair) → Compares terms xs left right ys ps C
      → ((ρ : Assignment) → IsOwn (length xs) ρ → Solves ρ (stored terms ys) → EquatesAll ρ terms ps → ⊥)
      → HasNoOwnUnifier (length xs) (values terms xs) (tree_in terms.rows (ty_shape left))
      (tree_in terms.rows (ty_shape right))
  mismatch ps loop never ρ own solves equal =
      let later = loop.keeps ρ (stored_solved terms xs table ρ solves) equal in
      never ρ own later.0 later.1

-- what a comparison that came to its end, and the search after it, give
module _ (terms : Terms) (first later : Table) (are : AreRows terms.rows) (table : IsTable terms first)
    (left right : Ty) (compared : HasCompared terms first left right later) where
  ends : Compares terms first.entries left right later.entries [] (ComparedIn terms compared.keys)
  ends = compared.comparing.compares

  -- a variable that is reached from itself
  pub cycle_occurs : (v : ℕ) → Reaches (IsChild (stored terms later.entries)) v v
      → HasNoUnifier (substitution terms first) (tree_in terms.rows (ty_shape left))
      (tree_in terms.rows (ty_shape right))
  cycle_occurs v reaches =
      let acyclic = compared.comparing.links in
      occurs terms first.entries are table left right later.entries (ComparedIn terms compared.keys)
      compared.comparing.closed ends acyclic.rank
      (links_stand (stored terms later.entries) acyclic
      (proper terms first.entries are table left right later.entries (ComparedIn terms compared.keys)
      compared.comparing.closed)) v reaches

  -- an order of what was bound
  module _ (order : List ℕ) (ordered : IsOrder (IsChild (stored terms later.entries)) order)
      (all : (v : ℕ) → Contains (drop (length first.bound) later.bound) v → Contains order v) where
    searched : Searched (stored terms later.entries) (first_place order) (length order)
    searched = record {
      below = place_below order;
      above = place_above (IsChild (stored terms later.entries)) order ordered;
    }

    met : (v : ℕ) (t : Tree Depth) → stored terms later.entries v ≡ Some t
        → (stored terms first.entries v ≡ Some t) ⊎ ((r : ℕ) × (first_place order v ≡ Some r))
    met v t is = elim (compared.comparing.noted v t is) [
      | inl old ↦ inl old
      | inr at ↦ inr (place_of order v (all v at))
    ]

    pub solved_refines : IsRefined terms first terms later
    solved_refines = record {
      table = new_table terms first.entries are table left right later.entries (ComparedIn terms compared.keys)
          compared.comparing.closed ends
          (first_place order) (length order) searched met;
      refines = refined terms first.entries are table left right later.entries (ComparedIn terms compared.keys)
          compared.comparing.closed ends
          (first_place order) (length order) searched met;
    }

    pub solved_unifies : apply (substitution terms later) (tree_in terms.rows (ty_shape left))
        ≡ apply (substitution terms later) (tree_in terms.rows (ty_shape right))
    solved_unifies =
        unified terms first.entries are table left right later.entries (ComparedIn terms compared.keys)
        compared.comparing.closed ends
        (first_place order) (length order) searched met

    pub solved_generally : IsMostGeneral (substitution terms first) (tree_in terms.rows (ty_shape left))
        (tree_in terms.rows (ty_shape right)) (substitution terms later)
    solved_generally =
        general terms first.entries are table left right later.entries (ComparedIn terms compared.keys)
        compared.comparing.closed ends
        (first_place order) (length order) searched met
