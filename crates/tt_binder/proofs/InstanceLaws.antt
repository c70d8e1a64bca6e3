-- What the argument folder's walk from outside of each binder gives.
use Rattle.std.proofs.Common.{◌≡◌, ℕ, ◌<◌, inl, inr, List, [], ◌++◌, refl, sym, ap, subst, ◌∙◌, arith, Bool, false}
use Rattle.std.proofs.Common.{true}
use Rattle.std.specs.Prelude.{Result, Ok, Err, IfErr, MatchResult, ◌||◌}
use Rattle.tt_index.specs.declared.refusal.Refusal.{Refusal}
use Rattle.tt_index.specs.declared.refusal.Refusal.TheVariants.{Memory, TableFull, GreatestIndex, NoArguments}
use Rattle.tt_index.specs.declared.refusal.Refusal.TheVariants.{ArgOutOfRange, ArgKind, RegionVariable, NotAClause}
use Rattle.tt_index.specs.declared.refusal.Refusal.TheVariants.{NoSuchAnswer}
use Rattle.tt_kinds.specs.Label.{Name, Sort, clause_label}
use Rattle.tt_kinds.specs.Tree as tree
use Rattle.tt_kinds.specs.Tree.{Depth, Tree, param}
use Rattle.tt_kinds.specs.Reading.{read}
use Rattle.tt_kinds.specs.Argument.{Argument, readings}
use Rattle.tt_kinds.specs.Param.{holds_param, IsAnswered}
use Rattle.tt_kinds.specs.Plain.{inst_tree}
use Rattle.tt_kinds.specs.Cause.{Cause, HidesRegionVars}
use Rattle.tt_kinds.specs.Shape.{Shape, stored, fill, fill_all}
use Rattle.tt_kinds.specs.Values.{one_clause_shape}
use Rattle.tt_kinds.specs.Handle.{Clause}
use Rattle.tt_kinds.specs.declared.table.Table.{Table}
use Rattle.tt_kinds.specs.declared.table.Table.TheVariants.{Types, Predicates}
use Rattle.tt_kinds.proofs.PutLaws.{read-inst_tree, put-put, move-put, IsAnswered-read}
use Rattle.tt_kinds.proofs.MatchedLaws.{MatchedUnder-put}
use Rattle.tt_kinds.proofs.ParamLaws.{inst_tree-none, holds_param-put, EachParam-none, IsGeneric-from_test}
use Rattle.tt_kinds.proofs.CauseLaws.{Cause-never, Cause-no_arguments, Cause-out_of_range, Cause-kind}
use Rattle.tt_interner.specs.Rows.{Row, size, meaning}
use Rattle.tt_interner.specs.Stored.{Terms, IsUnbuilt}
use Rattle.tt_fold.specs.Counts.{Standing}
use Rattle.tt_fold.specs.Steps.{IsPartOf, IsRefused, tree_in, refusals_of}
use Rattle.tt_fold.proofs.WantedLaws.{refusals-tell}
use Rattle.tt_fold.specs.Stands.{StandsIn}
use Rattle.tt_fold.specs.Walk.{Errors, Walks, Fails, region_failed, term_failed, descent_failed, passed_failed}
use Rattle.tt_fold.specs.Walk.{enter_failed, under_failed, leave_failed, node_failed, node_not_built, clause_lost}
use Rattle.tt_fold.specs.Remember.{taken_apart, gone_into}
use Rattle.tt_fold.proofs.TaskLaws.{Refuses, without, too_far, caused}
use Rattle.tt_fold.proofs.RememberLaws.{does, Refused, refused}
use Rattle.tt_binder.specs.Instantiation.{Args, Instantiation, at_first, Instantiates, instantiation, LeafRefuses}
use Rattle.tt_binder.specs.Instantiation.{for_cause, shift_unbuilt, shift_too_far, IsTypeOrClause, arg_hooks}
use Rattle.tt_interner.specs.Arguments.{arguments}
use Rattle.tt_kinds.specs.Handle.{Const}
use Rattle.tt_kinds.specs.Handle.{Ty}
use Rattle.std.specs.Map.{keys_of}
use Rattle.tt_binder.specs.declared.shifted.ParamAt.{ParamAt}
use Rattle.tt_fold.specs.Memory.{memos}
use Rattle.tt_fold.specs.declared.memory.Place.{Place}
use Rattle.tt_kinds.specs.declared.generic_arg.GenericArgKind.{GenericArgKind}
use Rattle.tt_binder.specs.Instance.{HasNoCause, Composes, Commutes, StaysMatched, LeavesNoParam, IsInstance, IsReason}
use Rattle.tt_binder.specs.Instance.{ComesBack, IsOfClauses}
use Rattle.tt_binder.proofs.FlagLaws.{hides_none}
use Rattle.tt_binder.proofs.RowArguments.{type_stays, clause_stays}
use Rattle.tt_fold.proofs.ClauseLaws.{KeepsClauses, never_bad}
use Rattle.tt_binder.proofs.WalkLaws.{made-inst, instantiation_laws, knows_first, left_done, passed-gone}

-- the laws of an instance
module _ (args : List (Argument Depth)) (t r : Tree Depth) (is : IsInstance args t r) where
  -- to replace in an instance is to replace once, by the arguments with the further ones put into them
  pub composes : Composes args t r
  composes later = rw is.plain (put-put later (readings args) (read 0 t) (IsAnswered-read args 0 t is.answered))

  -- to move an instance is to instantiate the moved value by the moved arguments
  pub commutes : Commutes args t r
  commutes n = rw is.plain (move-put n (readings args) (read 0 t))

  -- if the value and the arguments agree with their binders' lists, so does the instance
  pub stays_matched : StaysMatched args t r
  stays_matched h_args h = rw is.plain (MatchedUnder-put (readings args) h_args [] (read 0 t) h)

  -- if no argument holds a parameter, the instance holds none
  pub leaves_no_param : LeavesNoParam args r
  leaves_no_param h_args = rw is.plain (holds_param-put (readings args) (read 0 t) (IsAnswered-read args 0 t is.answered) h_args)

-- what the folder does outside of each binder is an instance
instance_done : (args : List (Argument Depth)) (t r : Tree Depth) → Instantiates args 0 t r → IsInstance args t r
instance_done args t r d = record {
  plain = ap (read 0) (d.plain ∙ made-inst args 0 t) ∙ read-inst_tree 0 args t;
  answered = d.allows.answered;
  no_cause = Cause-never args t d.allows.answered d.allows.hides;
}

-- the state of a folder that is new
pub new_state : {S : Type 0} (rows : List Row) (items : List Row → S → List GenericArgKind) (a b : S) (k : ℕ) (es : List (Place × Ty)) (types : List (ParamAt × Ty)) (consts : List (ParamAt × Const))
    → a ≡ b → k ≡ 0 → es ≡ [] → types ≡ [] → consts ≡ []
    → (let state : Instantiation = record { rule = arguments rows (items rows a); under = k; kept = keys_of types ++ keys_of consts; memory = memos rows es } in state)
    ≡ at_first (arguments rows (items rows b))
new_state rows items a b k es types consts same outside empty no_types no_consts = rw (same, outside, empty, no_types, no_consts) refl

-- what a new folder's walk of a tree gives is an instance of the tree
pub instance_walked : (args : Args) (s s' : Standing Instantiation) (t r : Tree Depth) → s.state ≡ at_first args → Walks arg_hooks s t r s' → IsInstance args t r
instance_walked args s s' t r is w =
    let n = does instantiation instantiation_laws w (knows_first args s.state is) in
    instance_done args t r (subst (λ q. Instantiates q.rule q.under t r) is n.is_done)

-- without arguments no region variable is a cause
empty_never : (args : List (Argument Depth)) (t : Tree Depth) → args ≡ [] → IsAnswered args t → HasNoCause args t
empty_never args t none answered Memory h = h
empty_never args t none answered TableFull h = h
empty_never args t none answered GreatestIndex h = h
empty_never args t none answered NotAClause h = h
empty_never args t none answered NoSuchAnswer h = h
empty_never args t none answered NoArguments h = Cause-no_arguments args t answered h
empty_never args t none answered (ArgOutOfRange index) h = Cause-out_of_range args t answered index h
empty_never args t none answered (ArgKind index) h = Cause-kind args t answered index h
empty_never args t none answered (RegionVariable x) h = h.0 none

-- what is untouched is its own instance
pub instance_back : (args : List (Argument Depth)) (t : Tree Depth) → ComesBack args t → IsInstance args t t
instance_back args t h = elim h.hides [ inl none ↦ empty none | inr hides ↦ instance_done args t t (left_done args 0 t h.no_param hides) ]
  where
    empty : args ≡ [] → IsInstance args t t
    empty none =
        let answered : IsAnswered args t = EachParam-none _ t h.no_param in
        record {
          plain = ap (read 0) (sym (inst_tree-none 0 args t h.no_param)) ∙ read-inst_tree 0 args t;
          answered = answered;
          no_cause = empty_never args t none answered;
        }

-- a cause that holds is a reason
reason_caused : (terms : Terms) (args : List (Argument Depth)) (t : Tree Depth) (e : Refusal) → Cause t args e → IsReason terms args t e
reason_caused terms args t Memory h = absurd h
reason_caused terms args t TableFull h = absurd h
reason_caused terms args t GreatestIndex h = absurd h
reason_caused terms args t NotAClause h = h
reason_caused terms args t NoSuchAnswer h = h
reason_caused terms args t NoArguments h = h
reason_caused terms args t (ArgOutOfRange index) h = h
reason_caused terms args t (ArgKind index) h = h
reason_caused terms args t (RegionVariable x) h = h

-- a value with parameters is refused where there are no arguments
pub reason_empty : (terms : Terms) (args : List (Argument Depth)) (t : Tree Depth) → args ≡ [] → holds_param t ≡ true → IsReason terms args t NoArguments
reason_empty terms args t none h = (none, IsGeneric-from_test t h)

-- a part that isn't built is one for want of room
reason_unbuilt : (terms : Terms) (u : Tree Depth) (args : List (Argument Depth)) (t : Tree Depth) (e : Refusal) → KeepsClauses (inst_tree 0 args t) → StandsIn u (inst_tree 0 args t)
    → IsUnbuilt terms u e → IsReason terms args t e
reason_unbuilt terms u args t Memory keeps stands h = tt
reason_unbuilt terms u args t TableFull keeps stands h = (u, stands, h)
reason_unbuilt terms u args t GreatestIndex keeps stands h = absurd h
reason_unbuilt terms u args t NotAClause keeps stands h = never_bad stands keeps h
reason_unbuilt terms u args t NoSuchAnswer keeps stands h = absurd h
reason_unbuilt terms u args t NoArguments keeps stands h = absurd h
reason_unbuilt terms u args t (ArgOutOfRange index) keeps stands h = absurd h
reason_unbuilt terms u args t (ArgKind index) keeps stands h = absurd h
reason_unbuilt terms u args t (RegionVariable x) keeps stands h = absurd h

-- why the folder's walk from outside of each binder is refused, and that it lowers no count
pub walk_refused : (terms : Terms) (args : Args) (s s' : Standing Instantiation) (t : Tree Depth) (e : Refusal) → s.state ≡ at_first args → Fails arg_hooks (refusals_of terms) s t e s'
    → Refused instantiation instantiation_laws (refusals_of terms) (refusals-tell terms) s t e s'
walk_refused terms args s s' t e is f = refused instantiation instantiation_laws (refusals_of terms) (refusals-tell terms) f (knows_first args s.state is)

-- a new folder's refused walk has a reason, if each list of clauses in the plain result holds clauses alone
pub reason_refused : (terms : Terms) (args : Args) (s s' : Standing Instantiation) (t : Tree Depth) (e : Refusal) → s.state ≡ at_first args
    → KeepsClauses (inst_tree 0 args t) → Fails arg_hooks (refusals_of terms) s t e s' → IsReason terms args t e
reason_refused terms args s s' t e is keeps f = at_root (subst (λ q. Refuses instantiation (IsRefused terms) q.rule q.under t e) is (walk_refused terms args s s' t e is f).why)
  where
    at_root : Refuses instantiation (IsRefused terms) args 0 t e → IsReason terms args t e
    at_root (without u stands h) = rw h.1.0 (reason_unbuilt terms u args t h.0 keeps (subst (λ v. StandsIn u v) (made-inst args 0 t) stands) h.1.1)
    at_root (too_far is unfit) = rw is (λ fits. unfit (rw (made-inst args 0 t, read-inst_tree 0 args t) fits))
    at_root (caused h) = reason_caused terms args t e h

-- outside of each binder a leaf is refused only for a cause
leaf_caused : (unbuilt : Tree Depth → Refusal → Type 0) (args : Args) (t : Tree Depth) (e : Refusal) → LeafRefuses unbuilt args 0 t e → Cause t args e
leaf_caused unbuilt args t e (for_cause h) = h
leaf_caused unbuilt args t e (shift_unbuilt below u m h) = absurd (omega (arith, below))
leaf_caused unbuilt args t e (shift_too_far below is unfit) = absurd (omega (arith, below))

module _ (errors : Errors Refusal) (args : Args) where
  -- a value that is itself a parameter is refused only for a cause
  pub param_refused : {s s' : Standing Instantiation} {t : Tree Depth} {e : Refusal} → Fails arg_hooks errors s t e s' → s.state ≡ at_first args
      → (o : Sort) (i : ℕ) (name : Name) → t ≡ param o i name → Cause (param o i name) args e
  param_refused {t} {e} (region_failed is h) state o i name same = rw same at (leaf_caused errors.unbuilt args t e (subst (λ q. LeafRefuses errors.unbuilt q.rule q.under t e) state h.1))
  param_refused {t} {e} (term_failed is h) state o i name same = rw same at (leaf_caused errors.unbuilt args t e (subst (λ q. LeafRefuses errors.unbuilt q.rule q.under t e) state h.2))
  param_refused (descent_failed is (taken_apart taken fresh) d) state o i name same = let never = rw same at taken in absurd never
  param_refused (descent_failed is (gone_into other entered) d) state o i name same = let never = rw same at entered in absurd never
  param_refused {t} (passed_failed is d) state o i name same = let never = rw same at (passed-gone t is) in absurd never
  param_refused (enter_failed h) state o i name same = absurd (cc)
  param_refused (under_failed enter d) state o i name same = absurd (cc)
  param_refused (leave_failed enter w h) state o i name same = absurd h
  param_refused (node_failed d) state o i name same = absurd (cc)
  param_refused (node_not_built w b) state o i name same = absurd (cc)
  param_refused (clause_lost w lost b) state o i name same = absurd (cc)

-- what is said of a value where there are no arguments
pub empty_outcome : {T : Type 0} (result : Result T Refusal) (value : T) (b : Bool) (P : T → Type 0) (E : Refusal → Type 0)
    → (b ≡ true → result ≡ Err NoArguments) → (b ≡ false → result ≡ Ok value) → (b ≡ true → E NoArguments) → (b ≡ false → P value) → MatchResult result P E
empty_outcome result value true P E some none refused given = rw (some refl) (refused refl)
empty_outcome result value false P E some none refused given = rw (none refl) (given refl)

-- a call without arguments is refused only with `NoArguments`, and then this refusal's condition holds
pub empty_err : {T : Type 0} (result : Result T Refusal) (value : T) (b : Bool) (E : Refusal → Type 0)
    → (b ≡ true → result ≡ Err NoArguments) → (b ≡ false → result ≡ Ok value) → (b ≡ true → E NoArguments) → IfErr result E
empty_err result value true E some none refused = rw (some refl) (refused refl)
empty_err result value false E some none refused = rw (none refl) tt

-- a type, a predicate or a clause list without parameters is untouched
kept_back : (rows : List Row) (args : List (Argument Depth)) (s : Shape) → IsTypeOrClause (tree_in rows s) → holds_param (tree_in rows s) ≡ false → ComesBack args (tree_in rows s)
kept_back rows args s kind none = record { no_param = none; hides = inr (hides_none (tree_in rows s) kind none) }

-- a stored type without parameters comes back
pub type_back : (rows : List Row) (args : List (Argument Depth)) (s : Shape) (n : ℕ) → s ≡ stored Types n → IsPartOf rows s → holds_param (tree_in rows s) ≡ false → ComesBack args (tree_in rows s)
unfolding fill
type_back rows args s n is part none =
    let within : n < size rows Types = rw is at part in
    let kind : IsTypeOrClause (tree_in rows s) = rw is (type_stays rows n within) in
    kept_back rows args s kind none

-- a stored predicate or a clause list without parameters comes back
pub clauses_back : (rows : List Row) (args : List (Argument Depth)) (s : Shape) (t : Table) (n : ℕ) → IsOfClauses t → s ≡ stored t n → IsPartOf rows s → holds_param (tree_in rows s) ≡ false → ComesBack args (tree_in rows s)
unfolding fill
clauses_back rows args s t n of is part none =
    let within : n < size rows t = rw is at part in
    let kind : IsTypeOrClause (tree_in rows s) = rw is (clause_stays rows t n of within) in
    kept_back rows args s kind none

-- and so is a clause by itself
first_none : (a b : Bool) → (a || b) ≡ false → a ≡ false
first_none true b h = cc
first_none false b h = refl

clause_hides : (t : Tree Depth) → IsTypeOrClause t → holds_param (tree.node clause_label (tree.also t tree.none)) ≡ false → HidesRegionVars (tree.node clause_label (tree.also t tree.none))
clause_hides t kind h = λ x g. elim g [ inl a ↦ hides_none t kind (first_none (holds_param t) false h) x a | inr b ↦ b ]

-- a lone clause without parameters comes back
pub clause_back : (rows : List Row) (args : List (Argument Depth)) (s : Shape) (c : Clause) → s ≡ one_clause_shape c → IsPartOf rows s → holds_param (tree_in rows s) ≡ false → ComesBack args (tree_in rows s)
unfolding fill fill_all
clause_back rows args s c is part nothing =
    let inside = rw is at part in
    let kind : IsTypeOrClause (meaning rows Predicates c.number) = clause_stays rows Predicates c.number tt inside.2.0 in
    let whole : holds_param (tree.node clause_label (tree.also (meaning rows Predicates c.number) tree.none)) ≡ false = rw is at nothing in
    rw is (record { no_param = whole; hides = inr (clause_hides (meaning rows Predicates c.number) kind whole) })
