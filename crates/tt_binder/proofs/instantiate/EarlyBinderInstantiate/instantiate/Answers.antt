use Rattle.std.proofs.Common.{◌≡◌, ap, Ok}
use Rattle.std.proofs.lemmas.Result.{err_from_is_err_and}
use Rattle.std.specs.Prelude.{Result, Err}
use Rattle.tt_fold.specs.Steps.{tree_by}
use Rattle.tt_index.specs.declared.refusal.Refusal.{Refusal}
use Rattle.tt_interner.specs.Stored.{Terms}
use Rattle.tt_interner.specs.Arguments.{arguments}
use Rattle.tt_binder.specs.Promise.{IsBack}
use Rattle.tt_binder.proofs.InstanceLaws.{composes, commutes, stays_matched, leaves_no_param, type_back, clauses_back}
use Rattle.tt_binder.proofs.InstanceLaws.{clause_back}
use Rattle.tt_binder.proofs.instantiate.EarlyBinderInstantiate.instantiate.Goals as goal

err_ok : {T E P : Type 0} (e : E) (x : T) → Err e ≡ Ok x → P
err_ok e x h = cc

ok_ok : {T E : Type 0} (x y : T) → (let r : Result T E = Ok x in r) ≡ Ok y → x ≡ y
ok_ok x y h = cc

pub returns-in_err-value : goal.returns-in_err-value
returns-in_err-value g c =
    let p = err_from_is_err_and c.from_residual.result c.from_residual.ensures.1 in
    rw (p.1, p.2, ← c.skip_binder.ensures) (record {
      promise = record {
        extends = c.in_err-value.ensures.extends;
        descents = c.in_err-value.ensures.descents;
        shift_descents = c.in_err-value.ensures.shift_descents;
        positions = tt;
        pairs = tt;
        shifts = tt;
        in_range = tt;
        plain = tt;
        composes = tt;
        commutes = tt;
        matched = tt;
        closed = tt;
        answered = tt;
        no_cause = tt;
        err = c.in_err-value.ensures.result;
        same = λ h. err_ok _ _ (c.in_err-value.ensures.same h).0;
        same_type = λ n is none. err_ok _ _ (c.in_err-value.ensures.same (type_back c.args.cx.now.rows _ (g.T.TypeVisitable.shape c.skip_binder.result) n is (rw (← c.skip_binder.ensures) at c.requires.value) none)).0;
        same_clauses = λ t n of is none. err_ok _ _ (c.in_err-value.ensures.same (clauses_back c.args.cx.now.rows _ (g.T.TypeVisitable.shape c.skip_binder.result) t n of is (rw (← c.skip_binder.ensures) at c.requires.value) none)).0;
        same_clause = λ clause is none. err_ok _ _ (c.in_err-value.ensures.same (clause_back c.args.cx.now.rows _ (g.T.TypeVisitable.shape c.skip_binder.result) clause is (rw (← c.skip_binder.ensures) at c.requires.value) none)).0;
        parameter = c.in_err-value.ensures.parameter;
        parameter_still = c.in_err-value.ensures.parameter_still;
      };
    })

back : {T : Type 0} {x y : T} {old new : Terms} → (let r : Result T Refusal = Ok y in r) ≡ Ok x → new ≡ old → IsBack x old (Ok (record { value = y })) new
back is still = (ap (λ z. Ok (record { value = z })) (ok_ok _ _ is), still)

pub returns : goal.returns
returns g c = rw (c.new.ensures, ← c.skip_binder.ensures) (record {
  promise = record {
    extends = c.in_ok-value.ensures.extends;
    descents = c.in_ok-value.ensures.descents;
    shift_descents = c.in_ok-value.ensures.shift_descents;
    positions = c.in_ok-value.ensures.positions;
    pairs = c.in_ok-value.ensures.pairs;
    shifts = c.in_ok-value.ensures.shifts;
    in_range = c.in_ok-value.ensures.result.0;
    plain = c.in_ok-value.ensures.result.1.plain;
    composes = composes (arguments c.args.cx.now.rows (g.S.SliceLike.items c.args.cx.now.rows c.args.args)) (tree_by g.T.TypeVisitable.shape c.args.cx.now.rows c.skip_binder.result) (tree_by g.T.TypeVisitable.shape c.instantiate_value.new.cx.rows c.in_ok-value.value) c.in_ok-value.ensures.result.1;
    commutes = commutes (arguments c.args.cx.now.rows (g.S.SliceLike.items c.args.cx.now.rows c.args.args)) (tree_by g.T.TypeVisitable.shape c.args.cx.now.rows c.skip_binder.result) (tree_by g.T.TypeVisitable.shape c.instantiate_value.new.cx.rows c.in_ok-value.value) c.in_ok-value.ensures.result.1;
    matched = stays_matched (arguments c.args.cx.now.rows (g.S.SliceLike.items c.args.cx.now.rows c.args.args)) (tree_by g.T.TypeVisitable.shape c.args.cx.now.rows c.skip_binder.result) (tree_by g.T.TypeVisitable.shape c.instantiate_value.new.cx.rows c.in_ok-value.value) c.in_ok-value.ensures.result.1;
    closed = leaves_no_param (arguments c.args.cx.now.rows (g.S.SliceLike.items c.args.cx.now.rows c.args.args)) (tree_by g.T.TypeVisitable.shape c.args.cx.now.rows c.skip_binder.result) (tree_by g.T.TypeVisitable.shape c.instantiate_value.new.cx.rows c.in_ok-value.value) c.in_ok-value.ensures.result.1;
    answered = c.in_ok-value.ensures.result.1.answered;
    no_cause = c.in_ok-value.ensures.result.1.no_cause;
    err = tt;
    same = λ h. let same = c.in_ok-value.ensures.same h in back same.0 same.1;
    same_type = λ n is none.
        let same = c.in_ok-value.ensures.same (type_back c.args.cx.now.rows _ (g.T.TypeVisitable.shape c.skip_binder.result) n is (rw (← c.skip_binder.ensures) at c.requires.value) none) in back same.0 same.1;
    same_clauses = λ t n of is none.
        let same = c.in_ok-value.ensures.same (clauses_back c.args.cx.now.rows _ (g.T.TypeVisitable.shape c.skip_binder.result) t n of is (rw (← c.skip_binder.ensures) at c.requires.value) none) in back same.0 same.1;
    same_clause = λ clause is none.
        let same = c.in_ok-value.ensures.same (clause_back c.args.cx.now.rows _ (g.T.TypeVisitable.shape c.skip_binder.result) clause is (rw (← c.skip_binder.ensures) at c.requires.value) none) in back same.0 same.1;
    parameter = c.in_ok-value.ensures.parameter;
    parameter_still = c.in_ok-value.ensures.parameter_still;
  };
})
