-- What a question mark passes on.
use Rattle.std.proofs.Common.{◌≡◌, subst, sym, Result, Ok, Err}
use Rattle.std.specs.Prelude.{IfErr, OnOk, IsErrAnd}

-- the error that was passed on keeps what holds of it
pub passed : {T E : Type 0} (result : Result T E) (e : E) (P : E → Type 0) → IsErrAnd result (λ x. x ≡ e) → P e → IfErr result P
passed (Ok x) e P h k = absurd h
passed (Err x) e P h k = subst P (sym h) k

-- what holds of a result, by what holds of it already
pub ok-then : {T E A B : Type 0} (result : Result T E) → OnOk result A → (A → B) → OnOk result B
ok-then (Ok x) h f = f h
ok-then (Err e) h f = tt

-- what holds of an error, by what holds of it already
pub err-then : {T E : Type 0} (result : Result T E) (P Q : E → Type 0) → IfErr result P → ((e : E) → P e → Q e) → IfErr result Q
err-then (Ok x) P Q h f = tt
err-then (Err e) P Q h f = f e h
