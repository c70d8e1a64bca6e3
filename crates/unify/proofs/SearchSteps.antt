-- Each step of a search in depth keeps what the search keeps.
use Rattle.std.proofs.Common.{◌≡◌, refl, ℕ, List, [], ◌∷◌, ◌++◌, None, Contains, Bool, true, false}
use Rattle.std.proofs.Common.{Result, Ok, Err, IfOk, Some}
use Rattle.std.proofs.Common.{sym, subst, ap, ◌∙◌, ◌⊎◌, inl, inr, arith, append_assoc}
use Rattle.std.proofs.Common.{◌+◌, ◌<◌, length, get_or, take}
use Rattle.std.proofs.lemmas.List.{map-append, take_more}
use Rattle.std.specs.List.{list_any}
use Rattle.std.proofs.lemmas.Bool.{cases_Bool, or_left, or_right, true≢false}
use Rattle.std.proofs.lemmas.List.Elements.{Contains-append_left, Contains-append_right, Contains-push_cases}
use Rattle.indexmap.specs.IndexSet.{insert_key}
use Rattle.indexmap.proofs.CallerLemmas.{Contains-insert_key, Contains-list_any}
use Rattle.tt_kinds.specs.Tree.{Depth, Tree}
use Rattle.unify.specs.Substitution.{Substitution, IsWithout}
use Rattle.unify.specs.Triangular.{Holds, IsChild}
use Rattle.unify.specs.Variables.{ListsAll}
use Rattle.unify.specs.declared.search.Step as code
use Rattle.unify.specs.Search as search_of
use Rattle.unify.specs.Search.{Step, Enter, Leave, entering, steps_in, step_by, step_variable, IsPending, IsOpen, IsOrder, IsReached, Reaches, Searches}
use Rattle.unify.proofs.OrderLaws.{order_empty, order_pushed}
use Rattle.unify.proofs.SearchLaws.{contains_cases, entering_pending, pending_entering}
use Rattle.unify.proofs.SearchLaws.{kept_entering, kept_popped, kept_pushed, kept_top}
use Rattle.unify.proofs.SearchLaws.{open_cases, open_left, open_popped, open_right}
use Rattle.unify.proofs.SearchLaws.{path_cycle, path_entering, path_left, path_pushed}
use Rattle.unify.proofs.SearchLaws.{pending_cases, pending_left, pending_right}

-- the variables of a set that tells variables apart by `eq`, which says what is equal
module _ (eq : ℕ → ℕ → Bool) where
  -- a variable of the set is found there
  any_found : ((a : ℕ) → eq a a ≡ true) → (xs : List ℕ) (v : ℕ) → Contains xs v → list_any (eq v) xs ≡ true
  any_found own [] v at = absurd (omega (arith, at.1))
  any_found own (x ∷ xs) v at = elim (contains_cases x xs v at) [
    | inl is ↦ or_left (eq v x) (list_any (eq v) xs) (subst (λ y. eq v y ≡ true) is (own v))
    | inr rest ↦ or_right (eq v x) (list_any (eq v) xs) (any_found own xs v rest)
  ]

  -- an insertion keeps the variables
  insert_kept : (xs : List ℕ) (v w : ℕ) → Contains xs w → Contains (insert_key eq xs v) w
  insert_kept xs v w at = elim (cases_Bool (list_any (eq v) xs)) [
    | inl known ↦ rw known at
    | inr new ↦ rw new (Contains-append_left xs (v ∷ []) w at)
  ]

  -- and adds one
  insert_cases : (xs : List ℕ) (v w : ℕ) → Contains (insert_key eq xs v) w → Contains xs w ⊎ (w ≡ v)
  insert_cases xs v w at = elim (cases_Bool (list_any (eq v) xs)) [
    | inl known ↦ inl (rw known at at)
    | inr new ↦ elim (Contains-push_cases xs v w (rw new at at)) [ inl old ↦ inl old | inr is ↦ inr (sym is) ]
  ]

module _ (Child : ℕ → ℕ → Type 0) (starts : List ℕ) where
  -- a child of a reached variable is reached
  child_reached : (v u : ℕ) → IsReached Child starts v → Child v u → IsReached Child starts u
  child_reached v u (inl start) is = inr (v, start, search_of.child is)
  child_reached v u (inr from) is = inr (from.0, from.1, search_of.further from.2 is)

  -- at the start of the search the starts are to be entered
  pub search_begins : Searches Child starts (entering starts) [] []
  search_begins = record {
    order = order_empty Child;
    path = path_entering Child None starts (λ u at. tt);
    kept = kept_entering Child [] starts;
    opens = λ v at. absurd (omega (arith, at.1));
    begins = λ v at. inr (pending_entering starts v at);
    only_done = λ v at. absurd (omega (arith, at.1));
    only_pending = λ v at. inl (entering_pending starts v at);
  }

  -- at the end the starts are done
  pub search_ends : (entered done : List ℕ) → Searches Child starts [] entered done
      → (v : ℕ) → Contains starts v → Contains done v
  search_ends entered done searches v at = elim (searches.begins v at) [ inl there ↦ there | inr none ↦ absurd none ]

  module _ (eq : ℕ → ℕ → Bool) (exact : (a b : ℕ) → eq a b ≡ true → a ≡ b)
      (rest : List Step) (entered done : List ℕ) where
    -- a step is taken whose variable is done afterwards
    search_pops : (s : Step) (later : List ℕ) → Searches Child starts (rest ++ s ∷ []) entered done
        → IsOrder Child later → ((v : ℕ) → Contains done v → Contains later v)
        → ((v : ℕ) → Contains later v → Contains done v ⊎ (v ≡ step_variable s)) → Contains later (step_variable s)
        → Searches Child starts rest entered later
    search_pops s later searches order more few own = record {
      order = order;
      path = path_left Child None rest (s ∷ []) searches.path;
      kept = kept_popped Child done later rest s more own searches.kept;
      opens = λ v at. elim (searches.opens v at) [
        | inl there ↦ inl (more v there)
        | inr left ↦ elim (open_popped rest s v left) [
          | inl old ↦ inr old
          | inr is ↦ inl (subst (Contains later) (sym is) own)
        ]
      ];
      begins = λ v at. elim (searches.begins v at) [
        | inl there ↦ inl (more v there)
        | inr pending ↦ elim (pending_cases rest (s ∷ []) v pending) [
          | inl old ↦ inr old
          | inr top ↦ elim top [ inl is ↦ inl (subst (Contains later) (sym is) own) | inr none ↦ absurd none ]
        ]
      ];
      only_done = λ v at. elim (few v at) [
        | inl old ↦ searches.only_done v old
        | inr is ↦ searches.only_pending v (pending_right rest (s ∷ []) v (inl is))
      ];
      only_pending = λ v at. searches.only_pending v (pending_left rest (s ∷ []) v at);
    }

    -- a variable that is done is not entered again
    pub search_passes : (v : ℕ) → Searches Child starts (rest ++ Enter v ∷ []) entered done
        → list_any (eq v) done ≡ true → Searches Child starts rest entered done
    search_passes v searches known =
        search_pops (Enter v) done searches searches.order (λ w at. at) (λ w at. inl at)
        (Contains-list_any eq exact done v known)

    -- a variable is left, and goes last in the order
    pub search_leaves : (v : ℕ) → Searches Child starts (rest ++ Leave v ∷ []) entered done
        → Searches Child starts rest entered (insert_key eq done v)
    search_leaves v searches =
        search_pops (Leave v) (insert_key eq done v) searches order (insert_kept eq done v) (insert_cases eq done v)
        (Contains-insert_key eq exact done v)
      where
        order : IsOrder Child (insert_key eq done v)
        order = elim (cases_Bool (list_any (eq v) done)) [
          | inl known ↦ rw known searches.order
          | inr new ↦ rw new (order_pushed Child done v searches.order (kept_top Child done rest v searches.kept))
        ]

    -- a variable without children is done at once
    pub search_finishes : (v : ℕ) → ((u : ℕ) → Child v u → ⊥) → Searches Child starts (rest ++ Enter v ∷ []) entered done
        → Searches Child starts rest entered (insert_key eq done v)
    search_finishes v none searches =
        search_pops (Enter v) (insert_key eq done v) searches order (insert_kept eq done v) (insert_cases eq done v)
        (Contains-insert_key eq exact done v)
      where
        order : IsOrder Child (insert_key eq done v)
        order = elim (cases_Bool (list_any (eq v) done)) [
          | inl known ↦ rw known searches.order
          | inr new ↦ rw new (order_pushed Child done v searches.order (λ u child. absurd (none u child)))
        ]

    -- a variable that was entered and is not done is reached from itself
    pub search_cycle : ((a : ℕ) → eq a a ≡ true) → (v : ℕ)
        → Searches Child starts (rest ++ Enter v ∷ []) entered done
        → list_any (eq v) done ≡ false → list_any (eq v) entered ≡ true → Reaches Child v v
    search_cycle own v searches new known = elim (searches.opens v (Contains-list_any eq exact entered v known)) [
      | inl there ↦ absurd (true≢false (sym (any_found eq own done v there) ∙ new))
      | inr left ↦ path_cycle Child None rest v searches.path (below (open_cases rest (Enter v ∷ []) v left))
    ]
      where
        below : IsOpen rest v ⊎ IsOpen (Enter v ∷ []) v → IsOpen rest v
        below (inl old) = old
        below (inr none) = absurd none

    -- a variable is entered: a step that leaves the variable is pending, and the children are to be entered before
    module _ (v : ℕ) (us : List ℕ) (searches : Searches Child starts (rest ++ Enter v ∷ []) entered done)
        (all : (u : ℕ) → Child v u → Contains us u) (only : (u : ℕ) → Contains us u → Child v u) where
      abbrev steps : List Step
      steps = rest ++ Leave v ∷ entering us

      own_reached : IsReached Child starts v
      own_reached = searches.only_pending v (pending_right rest (Enter v ∷ []) v (inl refl))

      reached_in : (w : ℕ) → IsPending rest w ⊎ IsPending (Leave v ∷ entering us) w → IsReached Child starts w
      reached_in w (inl old) = searches.only_pending w (pending_left rest (Enter v ∷ []) w old)
      reached_in w (inr (inl is)) = subst (IsReached Child starts) (sym is) own_reached
      reached_in w (inr (inr at)) = child_reached v w own_reached (only w (entering_pending us w at))

      still_pending : (w : ℕ) → IsPending rest w ⊎ IsPending (Enter v ∷ []) w → IsPending steps w
      still_pending w (inl old) = pending_left rest (Leave v ∷ entering us) w old
      still_pending w (inr (inl is)) = pending_right rest (Leave v ∷ entering us) w (inl is)
      still_pending w (inr (inr none)) = absurd none

      still_open : (w : ℕ) → IsOpen rest w ⊎ IsOpen (Enter v ∷ []) w → IsOpen steps w
      still_open w (inl old) = open_left rest (Leave v ∷ entering us) w old
      still_open w (inr none) = absurd none

      entered_cases : (w : ℕ) → Contains entered w ⊎ (w ≡ v) → Contains done w ⊎ IsOpen steps w
      entered_cases w (inl old) = elim (searches.opens w old) [
        | inl there ↦ inl there
        | inr left ↦ inr (still_open w (open_cases rest (Enter v ∷ []) w left))
      ]
      entered_cases w (inr is) = inr (open_right rest (Leave v ∷ entering us) w (inl is))

      enters : Searches Child starts steps (insert_key eq entered v) done
      enters = record {
        order = searches.order;
        path = path_pushed Child None rest v us searches.path only;
        kept = kept_pushed Child done rest v us all searches.kept;
        opens = λ w at. entered_cases w (insert_cases eq entered v w at);
        begins = λ w at. elim (searches.begins w at) [
          | inl there ↦ inl there
          | inr pending ↦ inr (still_pending w (pending_cases rest (Enter v ∷ []) w pending))
        ];
        only_done = searches.only_done;
        only_pending = λ w at. reached_in w (pending_cases rest (Leave v ∷ entering us) w at);
      }

      pub search_enters : Searches Child starts ((rest ++ Leave v ∷ []) ++ entering us)
          (insert_key eq entered v) done
      search_enters =
          subst (λ ss. Searches Child starts ss (insert_key eq entered v) done)
          (sym (append_assoc rest (Leave v ∷ []) (entering us))) enters

-- a step that is pushed is the last one
pub steps_push : (ss : List code.Step) (s : code.Step)
    → steps_in (ss ++ s ∷ []) ≡ steps_in ss ++ step_by s.action s.variable ∷ []
steps_push ss s = map-append (λ x. step_by x.action x.variable) ss (s ∷ [])

module _ (entries : Substitution) (v : ℕ) (t : Tree Depth) (at : entries v ≡ Some t) where
  child_listed : (found : List ℕ) → ListsAll found t → (u : ℕ) → IsChild entries v u → Contains found u
  child_listed found lists u c =
      let one : t ≡ c.0 = (let other = c.1.0 in cc) in
      elim (lists u) [ inl there ↦ there | inr lacks ↦ absurd (c.1.1 (subst (IsWithout u) one lacks)) ]

  -- the variables in a variable's binding are its children
  pub lists_children : {T E : Type 0} (items : T → List ℕ) (r : Result T E) → IfOk r (λ f. ListsAll (items f) t)
      → IfOk r (λ f. (u : ℕ) → IsChild entries v u → Contains (items f) u)
  lists_children items (Ok f) lists = child_listed (items f) lists
  lists_children items (Err e) lists = tt

  pub only_children : {T E : Type 0} (items : T → List ℕ) (r : Result T E) → IfOk r (λ f. (u : ℕ) → Contains (items f) u → Holds u t)
      → IfOk r (λ f. (u : ℕ) → Contains (items f) u → IsChild entries v u)
  only_children items (Ok f) holds = λ u there. (t, (at, holds u there))
  only_children items (Err e) holds = tt

-- where no variable of a list has a child, the list is an order
pub childless_order : (Child : ℕ → ℕ → Type 0) (xs : List ℕ) → ((v u : ℕ) → Contains xs v → Child v u → ⊥)
    → IsOrder Child xs
childless_order Child xs none before after v u is child =
    absurd (none v u (subst (λ ys. Contains ys v) (sym is)
    (Contains-append_right before (v ∷ after) v (0, omega arith, refl))) child)

-- if none of the first variables has a child, and the next one has none, then none of one more has a child
pub none_further : (Child : ℕ → ℕ → Type 0) (xs : List ℕ) (i x : ℕ) → i < length xs → get_or xs i x ≡ x
    → ((v u : ℕ) → Contains (take i xs) v → Child v u → ⊥) → ((u : ℕ) → Child x u → ⊥)
    → (v u : ℕ) → Contains (take (i + 1) xs) v → Child v u → ⊥
none_further Child xs i x inside is before own v u at child =
    let more : take (i + 1) xs ≡ take i xs ++ x ∷ [] =
    take_more xs i x inside ∙ ap (λ y. take i xs ++ y ∷ []) is in
    elim (Contains-push_cases (take i xs) x v (subst (λ vs. Contains vs v) more at)) [
      | inl old ↦ before v u old child
      | inr same ↦ own u (subst (λ w. Child w u) (sym same) child)
    ]
