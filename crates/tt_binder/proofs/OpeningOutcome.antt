-- What comes of the opening folder's walk from outside of each binder of the contents.
use Rattle.std.proofs.Common.{◌≡◌, ◌<◌, ◌≤◌, ℕ, zero, suc, List, [], true, false, Result, Ok, Err, refl, ap, subst, ◌∙◌}
use Rattle.std.proofs.Common.{arith}
use Rattle.std.proofs.lemmas.Bool.{lt-ltb}
use Rattle.tt_index.specs.declared.refusal.Refusal.{Refusal}
use Rattle.tt_index.specs.declared.refusal.Refusal.TheVariants.{Memory, TableFull, GreatestIndex, NoArguments}
use Rattle.tt_index.specs.declared.refusal.Refusal.TheVariants.{ArgOutOfRange, ArgKind, RegionVariable, NotAClause}
use Rattle.tt_index.specs.declared.refusal.Refusal.TheVariants.{NoSuchAnswer}
use Rattle.tt_kinds.specs.Tree.{Depth, Tree, param, bound, region, term, node, binder}
use Rattle.tt_kinds.specs.Reading.{read, outer_binder}
use Rattle.tt_kinds.specs.Count.{TypeAt, moving_types}
use Rattle.tt_kinds.specs.Shape.{Shape}
use Rattle.tt_kinds.specs.Handle.{Ty}
use Rattle.tt_kinds.specs.declared.generic_arg.GenericArgKind.{GenericArgKind}
use Rattle.tt_interner.specs.Rows.{Row}
use Rattle.tt_interner.specs.Stored.{Terms, IsUnbuilt}
use Rattle.tt_interner.proofs.Growth.{Extends-refl}
use Rattle.tt_fold.specs.Counts.{Standing}
use Rattle.tt_fold.specs.Places.{IsIn, IsPlaceIn}
use Rattle.tt_fold.specs.Stands.{StandsIn}
use Rattle.tt_fold.specs.Steps.{Folds, IsPartBy, tree_by, IsRefused, refusals_of}
use Rattle.tt_fold.specs.Walk.{Walks, Fails}
use Rattle.tt_fold.specs.Remember.{Done, IsTaken}
use Rattle.tt_fold.specs.declared.memory.Place.{Place}
use Rattle.tt_fold.proofs.ClauseLaws.{KeepsClauses, never_bad}
use Rattle.tt_fold.proofs.CountLaws.{knows-nothing, pairs_walked, pairs_failed}
use Rattle.tt_fold.proofs.PlaceLaws.{IsMoving, moving_types-have, pairs_none}
use Rattle.tt_fold.proofs.RememberLaws.{does, refused}
use Rattle.tt_fold.proofs.TaskLaws.{Refuses, without, too_far, caused}
use Rattle.tt_fold.proofs.WantedLaws.{refusals-tell}
use Rattle.tt_interner.specs.Arguments.{arguments}
use Rattle.tt_binder.specs.Instantiation.{Args}
use Rattle.tt_binder.specs.Opening.{open_tree, IsOpened, IsOpeningReason}
use Rattle.tt_binder.specs.OpeningPromise.{OpeningPromise}
use Rattle.tt_binder.specs.BinderOpener.{Opening, opening_state, opening, opening_hooks}
use Rattle.tt_binder.proofs.OpeningLaws.{read-open_tree, low_opens, opening_laws}

-- a type that is taken apart is among those that have a variable to be opened
taken-moving : (args : Args) (k : ℕ) (t : Tree Depth) → IsTaken opening args k t → IsMoving k t
taken-moving args k (term l ts) h = rw (h.0, lt-ltb k (outer_binder (term l ts)) h.1) refl
taken-moving args k (param o i name) h = absurd h
taken-moving args k (bound o d e) h = absurd h
taken-moving args k (region r) h = absurd h
taken-moving args k (node l ts) h = absurd h
taken-moving args k (binder vs t) h = absurd h

taken-listed : (args : Args) (k : ℕ) (t : Tree Depth) (p : TypeAt) → IsPlaceIn p k t → IsTaken opening args p.under p.standing → IsIn p (moving_types k t)
taken-listed args k t p place taken = moving_types-have p k t place (taken-moving args p.under p.standing taken)

-- what is done from outside of each binder is a plain opening
opened_plain : (args : Args) (t r : Tree Depth) → Done opening args 0 t r → IsOpened args t r
opened_plain args t r d = ap (read 0) d.plain ∙ read-open_tree args 0 t

-- why a walk is refused is a reason of the call's
reason_refused : (terms : Terms) (args : Args) (t : Tree Depth) (e : Refusal) → KeepsClauses (open_tree 0 args t) → Refuses opening (IsRefused terms) args 0 t e → IsOpeningReason terms args t e
reason_refused terms args t e keeps why = by_reason why
  where
    unbuilt : (u : Tree Depth) (r : Refusal) → StandsIn u (open_tree 0 args t) → IsUnbuilt terms u r → IsOpeningReason terms args t r
    unbuilt u Memory h b = tt
    unbuilt u TableFull h b = (u, h, b)
    unbuilt u NotAClause h b = absurd (never_bad h keeps b)
    unbuilt u GreatestIndex h b = absurd b
    unbuilt u NoSuchAnswer h b = absurd b
    unbuilt u NoArguments h b = absurd b
    unbuilt u (ArgOutOfRange index) h b = absurd b
    unbuilt u (ArgKind index) h b = absurd b
    unbuilt u (RegionVariable x) h b = absurd b

    of_cause : (r : Refusal) → opening.IsCause args 0 t r → IsOpeningReason terms args t r
    of_cause Memory h = absurd h
    of_cause TableFull h = absurd h
    of_cause NotAClause h = absurd h
    of_cause GreatestIndex h = absurd h
    of_cause NoSuchAnswer h = absurd h
    of_cause NoArguments h = h
    of_cause (ArgOutOfRange index) h = h
    of_cause (ArgKind index) h = h
    of_cause (RegionVariable x) h = absurd h

    by_reason : Refuses opening (IsRefused terms) args 0 t e → IsOpeningReason terms args t e
    by_reason (without u h b) = rw b.1.0 (unbuilt u b.0 h b.1.1)
    by_reason (too_far is unfit) = rw is (λ fits. unfit (rw (read-open_tree args 0 t) fits))
    by_reason (caused h) = of_cause e h

-- the state of a folder that is new
abbrev pub at_first : Args → Opening
at_first args = record { rule = args; under = 0; kept = tt; memory = [] }

-- a new folder's state: its arguments, no binder entered and nothing remembered
pub new_opener : {S : Type 0} (rows : List Row) (items : List Row → S → List GenericArgKind) (a b : S) (k : ℕ) (es : List (Place × Ty)) → a ≡ b → k ≡ 0 → es ≡ []
    → opening_state rows (items rows a) k es ≡ at_first (arguments rows (items rows b))
new_opener rows items a b k es same outside empty = rw (same, outside, empty) refl

-- what the folder's walk promises of the call
module _ {S T : Type 0} {owned : List Row → S → Type 0} {means : List Row → S → Opening} {shape : T → Shape} {terms terms' : Terms} {s s' : S} {x : T} (args : Args) where
  -- a fold by a new folder keeps all promises of taking a binder off, if something is bound outside of the value
  pub opened_outcome : (result : Result T Refusal) → means terms.rows s ≡ at_first args → KeepsClauses (open_tree 0 args (tree_by shape terms.rows x)) → 0 < outer_binder (tree_by shape terms.rows x)
      → Folds owned means (IsPartBy shape) (tree_by shape) (Walks opening_hooks) (Fails opening_hooks (refusals_of terms')) terms s x result terms' s'
      → OpeningPromise shape args x terms result terms'
  opened_outcome (Ok y) is keeps reaches d =
      let t = tree_by shape terms.rows x in
      let from : Standing Opening = record { state = means terms.rows s; counters = terms.counters } in
      let to : Standing Opening = record { state = means terms'.rows s'; counters = terms'.counters } in
      let fresh : from.state.memory ≡ [] = ap (λ q. q.memory) is in
      let listed = taken-listed from.state.rule from.state.under t in
      let w = d.outcome.1 in
      let done = does opening opening_laws w (knows-nothing opening opening_laws (moving_types from.state.under t) from to t fresh listed) in
      let opened : Done opening args 0 t (tree_by shape terms'.rows y) = subst (λ q. Done opening q.rule q.under t (tree_by shape terms'.rows y)) is done.is_done in
      let pairs = pairs_walked opening opening_laws (moving_types from.state.under t) from to t fresh listed (tree_by shape terms'.rows y) w in
      record {
        extends = d.extends;
        descents = done.stays.rises.descents;
        shift_descents = done.stays.rises.shift_descents;
        pairs = rw is at pairs;
        in_range = d.outcome.0;
        plain = opened_plain args t (tree_by shape terms'.rows y) opened;
        given = opened.allows;
        err = tt;
        same = λ closed. absurd (omega (arith, closed, reaches));
      }
  opened_outcome (Err e) is keeps reaches d =
      let t = tree_by shape terms.rows x in
      let from : Standing Opening = record { state = means terms.rows s; counters = terms.counters } in
      let to : Standing Opening = record { state = means terms'.rows s'; counters = terms'.counters } in
      let fresh : from.state.memory ≡ [] = ap (λ q. q.memory) is in
      let listed = taken-listed from.state.rule from.state.under t in
      let f = d.outcome in
      let r = refused opening opening_laws (refusals_of terms') (refusals-tell terms') f (knows-nothing opening opening_laws (moving_types from.state.under t) from to t fresh listed) in
      let why : Refuses opening (IsRefused terms') args 0 t e = subst (λ q. Refuses opening (IsRefused terms') q.rule q.under t e) is r.why in
      let pairs = pairs_failed opening opening_laws (moving_types from.state.under t) from to t fresh listed (refusals_of terms') e f in
      record {
        extends = d.extends;
        descents = r.rises.descents;
        shift_descents = r.rises.shift_descents;
        pairs = rw is at pairs;
        in_range = tt;
        plain = tt;
        given = tt;
        err = reason_refused terms' args t e keeps why;
        same = λ closed. absurd (omega (arith, closed, reaches));
      }

-- contents of which nothing is bound by the binder or outside of it are their own opening
pub opened_back : {T : Type 0} (shape : T → Shape) (args : Args) (terms : Terms) (x : T) → IsPartBy shape terms.rows x → (0 < outer_binder (tree_by shape terms.rows x) → false ≡ true)
    → OpeningPromise shape args x terms (Ok x) terms
opened_back shape args terms x part closed =
    let t = tree_by shape terms.rows x in
    let low : outer_binder t ≤ 0 = none_outside (outer_binder t) closed in
    let opened = low_opens args 0 t low in
    record {
      extends = Extends-refl terms;
      descents = omega arith;
      shift_descents = omega arith;
      pairs = pairs_none (moving_types 0 t) terms.counters.descents;
      in_range = part;
      plain = opened_plain args t t opened;
      given = opened.allows;
      err = tt;
      same = λ h. (refl, refl);
    }
  where
    none_outside : (n : ℕ) → (0 < n → false ≡ true) → n ≤ 0
    none_outside zero h = omega arith
    none_outside (suc n) h = absurd (let no : false ≡ true = h (omega arith) in cc)
