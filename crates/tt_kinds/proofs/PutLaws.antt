-- Instantiation: the plain walk gives the plain replacement, and how replacements compose and commute with moves.
use Rattle.std.proofs.Common.{◌≡◌, ℕ, suc, List, refl, ap, sym, ◌∙◌}
use Rattle.std.specs.Prelude.{Option, Some, None, option_map, unwrap_or, slice_get, IsSome, if◌then◌else◌, Bool, true}
use Rattle.std.specs.Prelude.{false}
use Rattle.std.proofs.lemmas.Option.{slice_get-map}
use Rattle.tt_kinds.specs.Label.{Name, Sort}
use Rattle.tt_kinds.specs.Tree.{Depth, Place, Tree, param, bound, region, term, node, binder, Forest, none, also}
use Rattle.tt_kinds.specs.Reading.{place, keep, read, read_all, moved, move}
use Rattle.tt_kinds.specs.Argument.{Argument, same_sort, of_sort, argument, given, put, change_value, change_values}
use Rattle.tt_kinds.specs.Argument.{readings}
use Rattle.tt_kinds.specs.Param.{IsAnswered, EachParam, EachParam_among}
use Rattle.tt_kinds.specs.Plain.{shifted_or, given_under, inst_tree}
use Rattle.tt_kinds.proofs.RebuildLaws.{Each-always, Each-then, rebuild-joined, replace-rebuild, replace-replace}
use Rattle.tt_kinds.proofs.ParamLaws.{Each-from_params}
use Rattle.tt_kinds.proofs.ReadingLaws.{read-shift_tree-past}

-- what a changed list of arguments gives
pub argument-change_values : {I J : Type 0} (f : Tree I → Tree J) (args : List (Argument I)) (s : Sort) (i : ℕ) →
    argument (change_values f args) s i ≡ option_map f (argument args s i)
argument-change_values {I = I} {J = J} f args s i = ap (of_sort s) (slice_get-map (change_value f) args i) ∙ changed (slice_get args i)
  where
    chosen : (b : Bool) (a : Argument I) → (if b then Some (f a.value) else None) ≡ option_map f (if b then Some a.value else None)
    chosen true a = refl
    chosen false a = refl

    changed : (o : Option (Argument I)) → of_sort s (option_map (change_value f) o) ≡ option_map f (of_sort s o)
    changed None = refl
    changed (Some a) = chosen (same_sort s a.sort) a

-- the reading of what the plain walk puts for a parameter
read-given_under : (args : List (Argument Depth)) (k : ℕ) (s : Sort) (i : ℕ) (name : Name) →
    read k (given_under args k s i name) ≡ given (readings args) s i name
read-given_under args k s i name = at_value (argument args s i) ∙ ap (λ o. unwrap_or o (param s i name)) (sym (argument-change_values (read 0) args s i))
  where
    at_value : (o : Option (Tree Depth)) → read k (shifted_or o k s i name) ≡ unwrap_or (option_map (read 0) o) (param s i name)
    at_value None = refl
    at_value (Some t) = read-shift_tree-past k t

-- instantiating is plain replacement
pub read-inst_tree : (k : ℕ) (args : List (Argument Depth)) (t : Tree Depth) → read k (inst_tree k args t) ≡ put (readings args) (read k t)
read-inst_tree k args t =
    rebuild-joined (λ j d. d) (given_under args) place keep place (λ j. given (readings args)) k t (Each-always _ _ (λ j d. refl) (read-given_under args) k t)
    ∙ sym (replace-rebuild place keep (λ p. p) (given (readings args)) place (λ j. given (readings args)) k t (Each-always _ _ (λ j d. refl) (λ j s i name. refl) k t))

-- a replacement and then another one, where the first leaves no parameter, replaces by what the other makes of the
-- arguments
pub put-put : (later args : List (Argument Place)) (r : Tree Place) → IsAnswered args r → put later (put args r) ≡ put (change_values (put later) args) r
put-put later args r h = replace-replace (λ p. p) (given args) (λ p. p) (given later) (λ p. p) (given (change_values (put later) args)) r
    (Each-then _ _ _ _ (λ j d x. refl) (λ j. answered) 0 r (Each-from_params (λ s i. IsSome (argument args s i)) 0 r h))
  where
    at_value : (s : Sort) (i : ℕ) (name : Name) (o : Option (Tree Place)) → IsSome o → put later (unwrap_or o (param s i name)) ≡ unwrap_or (option_map (put later) o) (param s i name)
    at_value s i name None x = cc
    at_value s i name (Some t) x = refl

    answered : (s : Sort) (i : ℕ) (name : Name) → IsSome (argument args s i) → put later (given args s i name) ≡ given (change_values (put later) args) s i name
    answered s i name x = at_value s i name (argument args s i) x ∙ ap (λ o. unwrap_or o (param s i name)) (sym (argument-change_values (put later) args s i))

-- a replacement and then a move is the move and then the replacement by moved arguments
pub move-put : (n : ℕ) (args : List (Argument Place)) (r : Tree Place) → move n (put args r) ≡ put (change_values (move n) args) (move n r)
move-put n args r =
    replace-replace (λ p. p) (given args) (moved n) param (moved n) (given (change_values (move n) args)) r (Each-always _ _ (λ j p. refl) (λ j. moved_argument) 0 r)
    ∙ sym (replace-replace (moved n) param (λ p. p) (given (change_values (move n) args)) (moved n) (given (change_values (move n) args)) r (Each-always _ _ (λ j p. refl) (λ j s i name. refl) 0 r))
  where
    at_value : (s : Sort) (i : ℕ) (name : Name) (o : Option (Tree Place)) → move n (unwrap_or o (param s i name)) ≡ unwrap_or (option_map (move n) o) (param s i name)
    at_value s i name None = refl
    at_value s i name (Some t) = refl

    moved_argument : (s : Sort) (i : ℕ) (name : Name) → move n (given args s i name) ≡ given (change_values (move n) args) s i name
    moved_argument s i name = at_value s i name (argument args s i) ∙ ap (λ o. unwrap_or o (param s i name)) (sym (argument-change_values (move n) args s i))

-- where the tree's parameters have their arguments, so have the reading's
mutual
  EachParam-read : (P : Sort → ℕ → Type 0) (k : ℕ) (t : Tree Depth) → EachParam P t → EachParam P (read k t)
  EachParam-read P k (param s i name) h = h
  EachParam-read P k (bound s d e) h = tt
  EachParam-read P k (region r) h = tt
  EachParam-read P k (term l ts) h = EachParam_among-read P k ts h
  EachParam-read P k (node l ts) h = EachParam_among-read P k ts h
  EachParam-read P k (binder vs t) h = EachParam-read P (suc k) t h

  EachParam_among-read : (P : Sort → ℕ → Type 0) (k : ℕ) (ts : Forest Depth) → EachParam_among P ts → EachParam_among P (read_all k ts)
  EachParam_among-read P k none h = tt
  EachParam_among-read P k (also t ts) h = (EachParam-read P k t h.0, EachParam_among-read P k ts h.1)

mutual
  pub EachParam-then : {I : Type 0} (P Q : Sort → ℕ → Type 0) → ((s : Sort) (i : ℕ) → P s i → Q s i) → (t : Tree I) → EachParam P t → EachParam Q t
  EachParam-then P Q f (param s i name) h = f s i h
  EachParam-then P Q f (bound s d e) h = tt
  EachParam-then P Q f (region r) h = tt
  EachParam-then P Q f (term l ts) h = EachParam_among-then P Q f ts h
  EachParam-then P Q f (node l ts) h = EachParam_among-then P Q f ts h
  EachParam-then P Q f (binder vs t) h = EachParam-then P Q f t h

  pub EachParam_among-then : {I : Type 0} (P Q : Sort → ℕ → Type 0) → ((s : Sort) (i : ℕ) → P s i → Q s i) → (ts : Forest I) → EachParam_among P ts → EachParam_among Q ts
  EachParam_among-then P Q f none h = tt
  EachParam_among-then P Q f (also t ts) h = (EachParam-then P Q f t h.0, EachParam_among-then P Q f ts h.1)

-- if each parameter of a tree has its argument, each parameter of the reading has that argument's reading
pub IsAnswered-read : (args : List (Argument Depth)) (k : ℕ) (t : Tree Depth) → IsAnswered args t → IsAnswered (readings args) (read k t)
IsAnswered-read args k t h = EachParam-read _ k t (EachParam-then _ _ still_there t h)
  where
    at_value : (o : Option (Tree Depth)) → IsSome o → IsSome (option_map (read 0) o)
    at_value None x = x
    at_value (Some t) x = x

    still_there : (s : Sort) (i : ℕ) → IsSome (argument args s i) → IsSome (argument (readings args) s i)
    still_there s i x = rw (argument-change_values (read 0) args s i) (at_value (argument args s i) x)
