-- Terms that are themselves parameters, and their arguments, over plain variables.
use Rattle.std.proofs.Common.{◌≡◌, ℕ, List, [], ◌∷◌, Some, None, Option, false, true, refl, ap, sym, ◌∙◌, subst, inl}
use Rattle.std.proofs.Common.{inr, arith}
use Rattle.std.specs.Prelude.{IsSomeAnd, MatchOption, Result, Ok, Err, IfOk, IfErr, slice_get, option_map}
use Rattle.std.specs.declared.alloc.Global.{Global}
use Rattle.std.specs.declared.vec.Vec.{Vec}
use Rattle.std.proofs.lemmas.Option.{slice_get-map, slice_get_cases, slice_get_within}
use Rattle.std.proofs.lemmas.List.{length-map}
use Rattle.tt_index.specs.declared.refusal.Refusal.{Refusal}
use Rattle.tt_index.specs.declared.refusal.Refusal.TheVariants.{NoArguments, ArgOutOfRange, ArgKind, RegionVariable}
use Rattle.tt_index.specs.declared.refusal.Refusal.TheVariants.{NoSuchAnswer}
use Rattle.tt_kinds.specs.Label.{Name, Sort, region_sort, type_sort, const_sort}
use Rattle.tt_kinds.specs.Tree.{Tree, Depth, param}
use Rattle.tt_kinds.specs.Reading.{read}
use Rattle.tt_kinds.specs.Argument.{Argument, same_sort, change_value}
use Rattle.tt_kinds.specs.Cause.{Cause}
use Rattle.tt_kinds.specs.Handle.{Ty}
use Rattle.tt_kinds.specs.Handle.{Const}
use Rattle.tt_kinds.specs.declared.table.Table.{Table}
use Rattle.tt_kinds.specs.declared.table.Table.TheVariants.{Types, Consts, Patterns, Predicates, ClauseLists, ArgLists}
use Rattle.tt_interner.specs.Rows.{Row, meaning}
use Rattle.tt_interner.specs.Stored.{Terms}
use Rattle.tt_kinds.specs.Param.{IsParam}
use Rattle.tt_binder.specs.Instance.{HasNoCause, IsPlain}
use Rattle.tt_calls.specs.declared.answer.Answer.{Answer}
use Rattle.tt_calls.specs.declared.answer.Answer.TheVariants as answer
use Rattle.type_terms.specs.declared.run.answers.parameters.Parameter.{Parameter}
use Rattle.type_terms.specs.declared.run.answers.parameters.Parameter.TheVariants as parameter
use Rattle.tt_calls.specs.declared.call.ArgCall.{ArgCall}
use Rattle.tt_calls.specs.declared.call.Call.TheVariants as call
use Rattle.tt_calls.specs.CallForm.{arg_item, arg_items, args_ids, item_positions, items_positions, AreItemsTooDeep}
use Rattle.tt_calls.specs.Told.{Told, term, told, told_all, AreOwnedAnswers, Setting, setting}
use Rattle.tt_calls.specs.Means.{Term, as_term, term_at, tree_of, tree_at, told_argument, told_arguments, AreTerms}
use Rattle.tt_calls.specs.Means.{IsAllowed}
use Rattle.tt_calls.specs.Means.{MayRefuse, no_term, unsuited, IsParameter, IsParameterOf}
use Rattle.tt_calls.specs.Build.{MayAnswerCall, IsAnswerAt, IsUsable}
use Rattle.type_terms.specs.Parameters.{parameter_sort, parameter_index, term_arg, IsArgumentAt, LacksArgument}
use Rattle.type_terms.specs.Parameters.{none_given, not_told}
use Rattle.tt_calls.proofs.PartLaws.{AreTerms-append, named-among}
use Rattle.type_terms.proofs.FoldLaws.{parameter-tree, inst-allowed}

-- the arguments have one at an index where the call names one
given-at : (e : List Told) (cs : List ArgCall) (i : ℕ) (c : ArgCall) → slice_get cs i ≡ Some c → slice_get (told_arguments e cs) i ≡ Some (told_argument e c)
given-at e cs i c h = slice_get-map (told_argument e) cs i ∙ ap (option_map (told_argument e)) h

-- some arguments, but none at the parameter's index
pub argument-past : (e : List Told) (cs : List ArgCall) (s : Sort) (i : ℕ) (name : Name) → (cs ≡ [] → ⊥) → slice_get cs i ≡ None
    → Cause (param s i name) (told_arguments e cs) (ArgOutOfRange i)
argument-past e cs s i name some h = (
  some-arguments cs some,
  refl,
  elim (slice_get_cases cs i).1 [
    | inl within ↦ absurd (none-some _ (sym h ∙ within.2))
    | inr past ↦ omega (arith, past.0, length-map cs (told_argument e))
  ],
)
  where
    none-some : (x : ArgCall) → None ≡ Some x → ⊥
    none-some x h = cc

    some-arguments : (cs : List ArgCall) → (cs ≡ [] → ⊥) → told_arguments e cs ≡ [] → ⊥
    some-arguments [] some h = some refl
    some-arguments (c ∷ cs) some h = cc

-- the argument at the parameter's index has another sort
pub argument-other : (e : List Told) (cs : List ArgCall) (s : Sort) (i : ℕ) (name : Name) (c : ArgCall) → slice_get cs i ≡ Some c
    → same_sort s (told_argument e c).sort ≡ false → Cause (param s i name) (told_arguments e cs) (ArgKind i)
argument-other e cs s i name c h other = (refl, rw (given-at e cs i c h, other) refl)

-- the answer that the argument at an index names, if the index is the parameter's
module _ (earlier : List Answer) (cs : List ArgCall) (p : Parameter) (index : ℕ) (c : ArgCall) (same : index ≡ parameter_index p) (at : slice_get cs index ≡ Some c) where
  named-at : (q : ℕ) → c ≡ term_arg p q → slice_get cs (parameter_index p) ≡ Some (term_arg p q)
  named-at q is = subst (λ (i : ℕ). slice_get cs i ≡ Some (term_arg p q)) same (at ∙ ap Some is)

  -- the parameter's argument is the answer that the argument at its index names, if that is of its sort
  pub argument-found : (q : ℕ) → c ≡ term_arg p q → (a : Answer) → IsAnswerAt earlier q a → IsArgumentAt earlier cs p a
  argument-found q is a found = record { position = q; given = named-at q is; at = found }

  -- the parameter has no argument if the position that the one at its index names tells no term
  pub argument-untold : (q : ℕ) → c ≡ term_arg p q → ((rows : List Row) → term_at (told_all rows earlier) q ≡ None) → (r : Refusal) → r ≡ NoSuchAnswer
      → LacksArgument earlier cs p r
  argument-untold q is none r cause = not_told q (named-at q is) none cause

  -- the parameter has no argument if the one at its index is of another sort
  pub argument-unsuited : ((e : List Told) → same_sort (parameter_sort p) (told_argument e c).sort ≡ false) → LacksArgument earlier cs p (ArgKind index)
  argument-unsuited other =
      none_given (λ e name. subst (λ (i : ℕ). Cause (param (parameter_sort p) i name) (told_arguments e cs) (ArgKind index)) same
      (argument-other e cs (parameter_sort p) index name c at (other e)))

-- what an argument of the parameter's sort is
argument-is : (e : List Told) (p : Parameter) (q : ℕ) → told_argument e (term_arg p q) ≡ record { sort = parameter_sort p; value = tree_at e q }
argument-is e (parameter.«Type» i) q = refl
argument-is e (parameter.Const i) q = refl

-- the table of a parameter's argument is its own
argument-told : (e : List Told) (p : Parameter) (q : ℕ) (t : Table) (u : Tree Depth) → IsParameterOf (parameter_sort p) (parameter_index p) (record { table = t; tree = u })
    → AreTerms e (item_positions (arg_item (term_arg p q))) → IsSomeAnd (term_at e q) (λ v. v.table ≡ t)
argument-told e (parameter.«Type» i) q t u h k = rw h.0 k.0
argument-told e (parameter.Const i) q t u h k = rw h.0 k.0

-- what an answer tells, if it is a term of the table
told-is : (x : Told) (t : Table) → IsSomeAnd (as_term (Some x)) (λ v. v.table ≡ t) → x ≡ term t (tree_of (as_term (Some x)))
told-is (term table u) t h = ap (λ (s : Table). term s u) h
told-is _ t h = absurd h

-- plain replacement of a parameter gives its argument
module _ (args : List (Argument Depth)) (s : Sort) (i : ℕ) (name : Name) (v : Tree Depth) (given : slice_get args i ≡ Some (record { sort = s; value = v })) where
  same-itself : (r : Sort) → same_sort r r ≡ true
  same-itself region_sort = refl
  same-itself type_sort = refl
  same-itself const_sort = refl

  replaced-plain : IsPlain args (param s i name) v
  replaced-plain = rw (slice_get-map (change_value (read 0)) args i, given, same-itself s) refl

  replaced-no_cause : HasNoCause args (param s i name)
  replaced-no_cause NoArguments h = absurd (empty-none args i given h.0)
    where
      empty-none : (xs : List (Argument Depth)) (j : ℕ) → slice_get xs j ≡ Some (record { sort = s; value = v }) → xs ≡ [] → ⊥
      empty-none [] j k e = cc
      empty-none (x ∷ xs) j k e = cc
  replaced-no_cause (ArgOutOfRange j) h = let within = slice_get_within args i (record { sort = s; value = v }) given in omega (arith, h.1, h.2)
  replaced-no_cause (ArgKind j) h = let other = rw (given, same-itself s) at h.1 in absurd (cc)
  replaced-no_cause (RegionVariable x) h = h.1
  replaced-no_cause _ h = h

-- what is at a position, if it is so
some-term : (o : Option Term) (P : Term → Type 0) → IsSomeAnd o P → (u : Term) × (o ≡ Some u) × P u
some-term None P h = absurd h
some-term (Some u) P h = (u, refl, h)

-- the answer to the instantiation of a parameter
module _ (rows : List Row) (earlier : List Answer) (at : ℕ) (p : Parameter) (list : Vec ArgCall Global) (s : Setting)
    (found : IsSomeAnd (term_at (told_all rows earlier) at) (IsParameterOf (parameter_sort p) (parameter_index p)))
    (ids : AreTerms (told_all rows earlier) (args_ids list.items))
    (usable : IsUsable (told_all rows earlier) (items_positions (arg_items list.items)) (AreItemsTooDeep (arg_items list.items))) where
  -- what is told where the parameter's argument names it
  named-there : (q : ℕ) (u : Term) → IsParameterOf (parameter_sort p) (parameter_index p) u → slice_get list.items (parameter_index p) ≡ Some (term_arg p q)
      → IsSomeAnd (term_at (told_all rows earlier) q) (λ v. v.table ≡ u.table)
  named-there q u is given =
      argument-told (told_all rows earlier) p q u.table u.tree is
      (named-among item_positions (told_all rows earlier) (arg_items list.items) (parameter_index p) (arg_item (term_arg p q))
      (slice_get-map arg_item list.items (parameter_index p) ∙ ap (option_map arg_item) given) usable.named)

  pub argument-allowed : (a : Answer) → IsArgumentAt earlier list.items p a → IsAllowed s (told_all rows earlier) (call.Instantiate at list) (told rows a)
  argument-allowed a h =
      let e = told_all rows earlier in
      let args = told_arguments e list.items in
      let t = some-term (term_at e at) (IsParameterOf (parameter_sort p) (parameter_index p)) found in
      let tree = parameter-tree (parameter_sort p) (parameter_index p) t.0 t.2 in
      let v = tree_at e h.position in
      let given = given-at e list.items (parameter_index p) (term_arg p h.position) h.given ∙ ap Some (argument-is e p h.position) in
      let there = subst (λ (o : Option Term). IsSomeAnd o (λ u. u.table ≡ t.0.table)) (h.at.means rows) (named-there h.position t.0 t.2 h.given) in
      let is = told-is (told rows a) t.0.table there ∙ ap (term t.0.table) (sym (ap tree_of (h.at.means rows))) in
      let plain : IsPlain args t.0.tree v = rw tree.1 (replaced-plain args (parameter_sort p) (parameter_index p) tree.0 v given) in
      let none : HasNoCause args t.0.tree = rw tree.1 (replaced-no_cause args (parameter_sort p) (parameter_index p) tree.0 v given) in
      subst (λ (x : Told). IsAllowed s e (call.Instantiate at list) x) (sym is)
      (inst-allowed e at t.0.table t.0.tree t.1 list ids usable.named s args v refl usable.shallow plain none)

  pub argument-refused : (r : Refusal) → LacksArgument earlier list.items p r → MayRefuse s (told_all rows earlier) (call.Instantiate at list) r
  argument-refused r (none_given cause) =
      let e = told_all rows earlier in
      let t = some-term (term_at e at) (IsParameterOf (parameter_sort p) (parameter_index p)) found in
      let tree = parameter-tree (parameter_sort p) (parameter_index p) t.0 t.2 in
      unsuited (rw t.1 tt, AreTerms-append e (args_ids list.items) (items_positions (arg_items list.items)) ids usable.named)
      (rw (t.1, tree.1) (cause e tree.0))
  argument-refused r (not_told q given none same) =
      let e = told_all rows earlier in
      let t = some-term (term_at e at) (IsParameterOf (parameter_sort p) (parameter_index p)) found in
      no_term (λ n. subst (λ (o : Option Term). IsSomeAnd o (λ v. v.table ≡ t.0.table)) (none rows) (named-there q t.0 t.2 given)) same

-- the parameter that a term is, and one that it isn't
pub type-told : (u : Tree Depth) (r : Option Parameter) → MatchOption r ((i : ℕ) → IsParam type_sort i u → ⊥) (λ p. (parameter_sort p ≡ type_sort) × IsParam type_sort (parameter_index p) u)
    → MatchOption r (IsParameter (record { table = Types; tree = u }) → ⊥) (λ p. IsParameterOf (parameter_sort p) (parameter_index p) (record { table = Types; tree = u }))
type-told u None h = λ k. no-type k.0 k.1 k.2
  where
    no-type : (s : Sort) (i : ℕ) → IsParameterOf s i (record { table = Types; tree = u }) → ⊥
    no-type type_sort i k = h i k.1
    no-type const_sort i k = let wrong = k.0 in absurd (cc)
    no-type region_sort i k = k
type-told u (Some p) h = rw h.0 (refl, h.1)

-- the parameter found in a constant's tree is the one that the constant is; if none is found, the constant is none
pub const-told : (u : Tree Depth) (r : Option Parameter) → MatchOption r ((i : ℕ) → IsParam const_sort i u → ⊥) (λ p. (parameter_sort p ≡ const_sort) × IsParam const_sort (parameter_index p) u)
    → MatchOption r (IsParameter (record { table = Consts; tree = u }) → ⊥) (λ p. IsParameterOf (parameter_sort p) (parameter_index p) (record { table = Consts; tree = u }))
const-told u None h = λ k. no-const k.0 k.1 k.2
  where
    no-const : (s : Sort) (i : ℕ) → IsParameterOf s i (record { table = Consts; tree = u }) → ⊥
    no-const type_sort i k = let wrong = k.0 in absurd (cc)
    no-const const_sort i k = h i k.1
    no-const region_sort i k = k
const-told u (Some p) h = rw h.0 (refl, h.1)

-- the terms of other tables are none
other-table : (t : Table) (u : Tree Depth) → (t ≡ Types → ⊥) → (t ≡ Consts → ⊥) → IsParameter (record { table = t; tree = u }) → ⊥
other-table t u no_type no_const k = by k.0 k.1 k.2
  where
    by : (s : Sort) (i : ℕ) → IsParameterOf s i (record { table = t; tree = u }) → ⊥
    by type_sort i k = no_type k.0
    by const_sort i k = no_const k.0
    by region_sort i k = k

-- an answer that is neither a type nor a constant tells no parameter
pub other-told : (rows : List Row) (a : Answer) → ((h : Ty) → a ≡ answer.Ty h → ⊥) → ((h : Const) → a ≡ answer.Const h → ⊥)
    → IsSomeAnd (as_term (Some (told rows a))) IsParameter → ⊥
other-told rows (answer.Ty x) f g h = f x refl
other-told rows (answer.Const x) f g h = g x refl
other-told rows (answer.Pat x) f g h = other-table Patterns (meaning rows Patterns x.number) (λ e. cc) (λ e. cc) h
other-told rows (answer.Predicate x) f g h = other-table Predicates (meaning rows Predicates x.number) (λ e. cc) (λ e. cc) h
other-told rows (answer.Clauses x) f g h = other-table ClauseLists (meaning rows ClauseLists x.number) (λ e. cc) (λ e. cc) h
other-told rows (answer.Args x) f g h = other-table ArgLists (meaning rows ArgLists x.number) (λ e. cc) (λ e. cc) h
other-told rows _ f g h = h

-- so the answer is the one that the argument names, or a refusal with a cause
pub argument-answers : (terms : Terms) (earlier : List Answer) (at : ℕ) (p : Parameter) (list : Vec ArgCall Global) (result : Result Answer Refusal)
    → IsSomeAnd (term_at (told_all terms.rows earlier) at) (IsParameterOf (parameter_sort p) (parameter_index p))
    → AreTerms (told_all terms.rows earlier) (args_ids list.items)
    → IsUsable (told_all terms.rows earlier) (items_positions (arg_items list.items)) (AreItemsTooDeep (arg_items list.items))
    → AreOwnedAnswers terms.rows earlier → IfOk result (IsArgumentAt earlier list.items p) → IfErr result (LacksArgument earlier list.items p)
    → MayAnswerCall terms terms (told_all terms.rows earlier) (call.Instantiate at list) result
argument-answers terms earlier at p list (Ok a) found ids usable o given lacks = record {
  owned = given.at.owned terms.rows o;
  ok = argument-allowed terms.rows earlier at p list (setting terms terms) found ids usable a given;
  err = tt;
}
argument-answers terms earlier at p list (Err r) found ids usable o given lacks = record {
  owned = tt;
  ok = tt;
  err = argument-refused terms.rows earlier at p list (setting terms terms) found ids usable r lacks;
}
