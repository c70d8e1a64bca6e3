-- What a table was is a table.
use Rattle.std.proofs.Common.{◌≡◌, refl, ℕ, zero, suc, ◌-◌, List, [], ◌∷◌, get_or, set, take, drop, Option, Some}
use Rattle.std.proofs.Common.{None, sym, ap, ◌∙◌}
use Rattle.tt_kinds.specs.Tree.{Depth, Tree}
use Rattle.tt_kinds.specs.Shape.{fill}
use Rattle.tt_kinds.specs.Kinds.{ty_shape}
use Rattle.tt_kinds.specs.Values.{option_shape}
use Rattle.tt_kinds.specs.Handle.{Ty}
use Rattle.tt_interner.specs.Rows.{meaning}
use Rattle.tt_interner.specs.Owned.{AreOwned}
use Rattle.tt_interner.specs.Stored.{Terms}
use Rattle.tt_interner.proofs.OwnedLaws.{set_owned}
use Rattle.unify.specs.Substitution.{Substitution}
use Rattle.unify.specs.Bindings.{stored, AreEntries}
use Rattle.unify.specs.Triangular.{IsAcyclic}
use Rattle.unify.specs.Undo.{unbound, entries_at}
use Rattle.unify.proofs.BindingsLaws.{bound_tree, reads}

module _ {T : Type 0} where
  taken_at : (n : ℕ) (xs : List (Option T)) (v : ℕ) (t : T) → get_or (take n xs) v None ≡ Some t
      → get_or xs v None ≡ Some t
  taken_at zero xs v t is = absurd (cc)
  taken_at (suc n) [] v t is = is
  taken_at (suc n) (x ∷ xs) zero t is = is
  taken_at (suc n) (x ∷ xs) (suc v) t is = taken_at n xs v t is

  cleared_at : (xs : List (Option T)) (v w : ℕ) (t : T) → get_or (set xs v None) w None ≡ Some t
      → get_or xs w None ≡ Some t
  cleared_at [] v w t is = is
  cleared_at (x ∷ xs) zero zero t is = absurd (cc)
  cleared_at (x ∷ xs) zero (suc w) t is = is
  cleared_at (x ∷ xs) (suc v) zero t is = is
  cleared_at (x ∷ xs) (suc v) (suc w) t is = cleared_at xs v w t is

-- fewer entries are acyclic, too
fewer_acyclic : (entries fewer : Substitution) → ((v : ℕ) (t : Tree Depth) → fewer v ≡ Some t → entries v ≡ Some t)
    → IsAcyclic entries → IsAcyclic fewer
fewer_acyclic entries fewer from acyclic = record {
  rank = acyclic.rank;
  falls = λ v t is. acyclic.falls v t (from v t is);
}

module _ (terms : Terms) where
  taken_owned : (n : ℕ) (xs : List (Option Ty)) → AreOwned (option_shape ty_shape) terms xs
      → AreOwned (option_shape ty_shape) terms (take n xs)
  taken_owned zero xs owned = tt
  taken_owned (suc n) [] owned = tt
  taken_owned (suc n) (x ∷ xs) owned = (owned.0, taken_owned n xs owned.1)

  entry_from : (fewer xs : List (Option Ty))
      → ((w : ℕ) (t : Ty) → get_or fewer w None ≡ Some t → get_or xs w None ≡ Some t) → (v : ℕ) (t : Tree Depth)
      → (o : Option Ty) → get_or fewer v None ≡ o → stored terms fewer v ≡ Some t → stored terms xs v ≡ Some t
  entry_from fewer xs from v t None e is =
      let none : stored terms fewer v ≡ None = reads terms fewer v ∙ ap (bound_tree (meaning terms.rows)) e in
      absurd (cc)
  entry_from fewer xs from v t (Some ty) e is =
      reads terms xs v ∙ ap (bound_tree (meaning terms.rows)) (from v ty e)
      ∙ sym (reads terms fewer v ∙ ap (bound_tree (meaning terms.rows)) e) ∙ is

  -- fewer entries
  fewer_entries : (fewer xs : List (Option Ty)) → AreOwned (option_shape ty_shape) terms fewer
      → ((w : ℕ) (t : Ty) → get_or fewer w None ≡ Some t → get_or xs w None ≡ Some t)
      → AreEntries terms xs → AreEntries terms fewer
  unfolding fill
  fewer_entries fewer xs owned from table = record {
    owned = (refl, tt, owned);
    acyclic = fewer_acyclic (stored terms xs) (stored terms fewer)
        (λ v t is. entry_from fewer xs from v t (get_or fewer v None) refl is) table.acyclic;
    closed = λ v t is. table.closed v t (entry_from fewer xs from v t (get_or fewer v None) refl is);
  }

  unbound_entries : (vs : List ℕ) (xs : List (Option Ty)) → AreEntries terms xs → AreEntries terms (unbound vs xs)
  unfolding fill
  unbound_entries [] xs table = table
  unbound_entries (v ∷ vs) xs table =
      let rest = unbound_entries vs xs table in
      fewer_entries (set (unbound vs xs) v None) (unbound vs xs)
      (set_owned (option_shape ty_shape) terms (unbound vs xs) v None rest.owned.2 (refl, tt, tt))
      (cleared_at (unbound vs xs) v) rest

  -- what a table was is a table
  pub earlier_entries : (n k : ℕ) (bound : List ℕ) (xs : List (Option Ty)) → AreEntries terms xs
      → AreEntries terms (entries_at n k bound xs)
  earlier_entries n k bound xs table =
      let rest = unbound_entries (drop k bound) xs table in
      fewer_entries (take n (unbound (drop k bound) xs)) (unbound (drop k bound) xs)
      (taken_owned n (unbound (drop k bound) xs) rest.owned.2) (taken_at n (unbound (drop k bound) xs)) rest
