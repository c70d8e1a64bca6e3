-- Entries that are variables themselves: chains of these end, also where other entries make a cycle.
use Rattle.std.proofs.Common.{◌≡◌, refl, ℕ, suc, ◌+◌, ◌<◌, ◌≤◌, Option, Some, None, sym, subst, ap, ◌∙◌, ◌⊎◌, inl, inr}
use Rattle.std.proofs.Common.{arith}
use Rattle.std.proofs.lemmas.Bool.{cases_eq, cases_lt}
use Rattle.tt_kinds.specs.Tree as tree
use Rattle.tt_kinds.specs.Tree.{Depth, Tree}
use Rattle.unify.specs.Substitution.{Substitution, variable_in, variable_tree, apply, or_else, IsWithout}
use Rattle.unify.specs.Resolver.{binding}
use Rattle.unify.specs.Triangular.{resolved, Represents, IsAcyclic, BindsBelow, model, Binds, StandsBelow, link_of}
use Rattle.unify.specs.Triangular.{only_link, links, IsChild}
use Rattle.unify.specs.Search.{Reaches, child, further}
use Rattle.unify.proofs.OccursLaws.{IsProper, AllProper}
use Rattle.unify.proofs.ResolverSteps.{binding_at_variable, unbound_other}
use Rattle.unify.proofs.TriangularLaws.{model_represents, acyclic_alike, count, count_less, count_most}
use Rattle.unify.proofs.TriangularSteps.{still_acyclic, variable_is}

link_is : (o : Option ℕ) (s t : Tree Depth) → link_of o s ≡ Some t → Some s ≡ Some t
link_is (Some w) s t is = is
link_is None s t is = absurd (cc)

link_was : (o : Option (Tree Depth)) (t : Tree Depth) → only_link o ≡ Some t → o ≡ Some t
link_was None t is = absurd (cc)
link_was (Some s) t is = link_is (variable_in s) s t is

-- a tree that is a variable has no contents
pub proper_variable : (t : Tree Depth) (w : ℕ) → IsProper t → variable_in t ≡ Some w → t ≡ variable_tree w
proper_variable (tree.term l ts) w proper is = variable_is l ts w is (proper.0 w is)
proper_variable (tree.param o i name) w proper is = absurd (cc)
proper_variable (tree.bound o d e) w proper is = absurd (cc)
proper_variable (tree.region r) w proper is = absurd (cc)
proper_variable (tree.node l ts) w proper is = absurd (cc)
proper_variable (tree.binder vs t) w proper is = absurd (cc)

-- of acyclic entries the links are acyclic
pub links_acyclic : (entries : Substitution) → IsAcyclic entries → IsAcyclic (links entries)
links_acyclic entries acyclic = record {
  rank = acyclic.rank;
  falls = λ v t is. acyclic.falls v t (link_was (entries v) t is);
}

module _ (entries : Substitution) (acyclic : IsAcyclic (links entries)) (proper : AllProper entries) where
  lower : (v w : ℕ) (t : Tree Depth) → entries v ≡ Some t → variable_in t ≡ Some w
      → (acyclic.rank w < acyclic.rank v) ⊎ (acyclic.rank v ≤ acyclic.rank w) → acyclic.rank w < acyclic.rank v
  lower v w t at is (inl less) = less
  lower v w t at is (inr past) =
      let link : links entries v ≡ Some t = ap only_link at ∙ ap (λ o. link_of o t) is in
      let own : IsWithout w (variable_tree w) =
      subst (IsWithout w) (proper_variable t w (proper v t at) is) (acyclic.falls v t link w past) in
      absurd (own.0 refl)

  -- where the links are acyclic, a variable that stands for another one comes after it
  pub links_stand : StandsBelow acyclic.rank entries
  links_stand v w t at is = lower v w t at is (cases_lt (acyclic.rank w) (acyclic.rank v))

  -- After k steps along links from a variable, fewer than n - k variables are below the one that was come to, if it is
  -- bound.
  module _ (n : ℕ) (few : BindsBelow n entries) where
    bound_inside : (v : ℕ) (t : Tree Depth) → entries v ≡ Some t → (v < n) ⊎ (n ≤ v) → v < n
    bound_inside v t at (inl less) = less
    bound_inside v t at (inr past) = let none = few v past in absurd (cc)

    pub chain_begins : (v : ℕ) (t : Tree Depth) → entries v ≡ Some t → count acyclic.rank (acyclic.rank v) n < n
    chain_begins v t at =
        let inside = bound_inside v t at (cases_lt v n) in
        let less = count_less acyclic.rank (acyclic.rank v) (suc (acyclic.rank v)) n v inside (omega arith) (omega arith) in
        let most = count_most acyclic.rank (suc (acyclic.rank v)) n in
        omega arith

    pub chain_goes : (v w k : ℕ) (t u : Tree Depth) → entries v ≡ Some t → variable_in t ≡ Some w → entries w ≡ Some u
        → count acyclic.rank (acyclic.rank v) n + k < n → count acyclic.rank (acyclic.rank w) n + suc k < n
    chain_goes v w k t u at is next few-left =
        let inside = bound_inside w u next (cases_lt w n) in
        let down = links_stand v w t at is in
        let less = count_less acyclic.rank (acyclic.rank w) (acyclic.rank v) n w inside (omega arith) down in
        omega arith

by_entry : (entries : Substitution) (v : ℕ) (o : Option (Tree Depth)) → entries v ≡ o
    → ((r : Tree Depth) → entries v ≡ Some r → ⊥) → entries v ≡ None
by_entry entries v None e never = e
by_entry entries v (Some r) e never = absurd (never r e)

by_variable : (entries : Substitution) (t : Tree Depth) (o : Option ℕ) → variable_in t ≡ o
    → ((v : ℕ) (r : Tree Depth) → variable_in t ≡ Some v → entries v ≡ Some r → ⊥) → binding entries t ≡ None
by_variable entries t None is never = unbound_other entries t is
by_variable entries t (Some v) is never =
    binding_at_variable entries t v is ∙ by_entry entries v (entries v) refl (λ r at. never v r is at)

-- a tree that is no bound variable has no binding
pub bound_none : (entries : Substitution) (t : Tree Depth)
    → ((v : ℕ) (r : Tree Depth) → variable_in t ≡ Some v → entries v ≡ Some r → ⊥) → binding entries t ≡ None
bound_none entries t never = by_variable entries t (variable_in t) refl never

bound_by : (σ : Substitution) (t r : Tree Depth) (o : Option ℕ) → variable_in t ≡ o → binding σ t ≡ Some r
    → (v : ℕ) × ((variable_in t ≡ Some v) × (σ v ≡ Some r))
bound_by σ t r None is at = absurd (let none = unbound_other σ t is in cc)
bound_by σ t r (Some v) is at = (v, (is, sym (binding_at_variable σ t v is) ∙ at))

-- a tree that has a binding is a bound variable
pub binding_variable : (σ : Substitution) (t r : Tree Depth) → binding σ t ≡ Some r
    → (v : ℕ) × ((variable_in t ≡ Some v) × (σ v ≡ Some r))
binding_variable σ t r at = bound_by σ t r (variable_in t) refl at

module _ (entries later : Substitution) (v : ℕ) (t : Tree Depth) (binds : Binds entries v t later)
    (acyclic : IsAcyclic (links entries)) (proper : AllProper entries) (own : IsProper t) (n : ℕ)
    (few : BindsBelow n entries) (unbound : binding entries t ≡ None) (other : variable_in t ≡ Some v → ⊥) where
  σ : Substitution
  σ = model n (links entries)

  represents : Represents (links entries) σ
  unfolding σ
  represents = model_represents acyclic.rank (links entries) acyclic.falls n (λ w past. ap only_link (few w past))

  links_bind : (w : ℕ) → variable_in t ≡ Some w → Binds (links entries) v t (links later)
  links_bind w is = record {
    free = ap only_link binds.free;
    own = ap only_link binds.own ∙ ap (λ o. link_of o t) is;
    others = λ u apart. ap only_link (binds.others u apart);
  }

  without : (w : ℕ) → variable_in t ≡ Some w → IsWithout v (apply σ t)
  unfolding σ
  without w is =
      let one : t ≡ variable_tree w = proper_variable t w own is in
      let free : links entries w ≡ None = ap only_link (sym (binding_at_variable entries t w is) ∙ unbound) in
      let none : σ w ≡ None = represents w ∙ ap (resolved σ) free in
      let stays : apply σ t ≡ variable_tree w = ap (apply σ) one ∙ ap (λ o. or_else o (variable_tree w)) none in
      subst (IsWithout v) (sym stays) ((λ e. other (is ∙ e)), tt)

  unlinked : variable_in t ≡ None → (u : ℕ) → (u ≡ v) ⊎ (u ≡ v → ⊥) → links entries u ≡ links later u
  unlinked is u (inl same) =
      subst (λ x. links entries x ≡ links later x) (sym same)
      (ap only_link binds.free ∙ sym (ap only_link binds.own ∙ ap (λ o. link_of o t) is))
  unlinked is u (inr apart) = ap only_link (sym (binds.others u apart))

  by_link : (o : Option ℕ) → variable_in t ≡ o → IsAcyclic (links later)
  by_link None is = acyclic_alike (links entries) (links later) (λ u. unlinked is u (cases_eq u v)) acyclic
  by_link (Some w) is =
      still_acyclic (links entries) σ (links later) v t represents (links_bind w is) (without w is) acyclic
      (λ u r at. proper u r (link_was (entries u) r at)) own

  -- a variable that is bound to what is looked up leaves the links acyclic
  pub links_still : IsAcyclic (links later)
  links_still = by_link (variable_in t) refl

-- something is reached only from a variable that is bound
pub reaches_bound : (entries : Substitution) {v u : ℕ} → Reaches (IsChild entries) v u
    → (t : Tree Depth) × (entries v ≡ Some t)
reaches_bound entries (child c) = (c.0, c.1.0)
reaches_bound entries (further r c) = reaches_bound entries r

-- no variable of acyclic entries is reached from itself
module _ (entries : Substitution) (acyclic : IsAcyclic entries) where
  falls_by : (v u : ℕ) → IsChild entries v u → (acyclic.rank u < acyclic.rank v) ⊎ (acyclic.rank v ≤ acyclic.rank u)
      → acyclic.rank u < acyclic.rank v
  falls_by v u c (inl less) = less
  falls_by v u c (inr past) = absurd (c.1.1 (acyclic.falls v c.0 c.1.0 u past))

  falls_to : {v u : ℕ} → Reaches (IsChild entries) v u → acyclic.rank u < acyclic.rank v
  falls_to {v} {u} (child c) = falls_by v u c (cases_lt (acyclic.rank u) (acyclic.rank v))
  falls_to {v} {u} (further {w = w} r c) =
      let first = falls_to r in
      let next = falls_by w u c (cases_lt (acyclic.rank u) (acyclic.rank w)) in
      omega arith

  pub never_reached : (v : ℕ) → Reaches (IsChild entries) v v → ⊥
  never_reached v r = let less = falls_to r in omega arith
