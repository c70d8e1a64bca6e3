-- The bodies of a program, typed in turn.
use Rattle.std.proofs.Common.{◌≡◌, ℕ, zero, suc, List, [], ◌∷◌, ◌++◌, Option, Some, None, refl, sym, subst, ap, ◌∙◌, arith}
use Rattle.std.proofs.Common.{inl, inr}
use Rattle.std.specs.Prelude.{slice_get, IfOk, IsOk, MatchOption, Ok, Err, Result}
use Rattle.std.proofs.lemmas.List.Elements.{All-append}
use Rattle.std.proofs.lemmas.Option.{get_or_from_slice_get, slice_get_within}
use Rattle.std.specs.declared.alloc.Global.{Global}
use Rattle.std.specs.declared.vec.Vec.{Vec}
use Rattle.tt_kinds.specs.Handle.{Ty}
use Rattle.tt_kinds.specs.Kinds.{ty_shape}
use Rattle.tt_interner.specs.Owned.{AreOwned}
use Rattle.tt_interner.specs.Stored.{Terms, Extends}
use Rattle.tt_interner.proofs.OwnedLaws.{list_still_owned}
use Rattle.checker_syntax.specs.declared.program.Body.{Body}
use Rattle.checker_syntax.specs.declared.program.Function.{Function}
use Rattle.checker_syntax.specs.declared.program.Program.{Program}
use Rattle.checker.specs.Items.{AreTyped}
use Rattle.checker.specs.Scope.{AreTypedFirst, IsTypedFunction, body_around}
use Rattle.checker.specs.Typing.{IsTypedBody}
use Rattle.checker.specs.declared.failure.Failure.{Failure}
use Rattle.checker.proofs.ListLaws.{below_next, get_more, get_pushed, length_pushed}
use Rattle.checker.proofs.TreeLaws.{trees_stay}

-- what is around a body stays, whatever the interner builds
body_stays : (old new : Terms) (program : Program) (ids : List ℕ) (function : Function) (body : Body) (types : List Ty)
    → Extends old new
    → AreOwned ty_shape old types → body_around new program ids function body types ≡ body_around old program ids function body types
body_stays old new program ids function body types extends owned =
    let found = trees_stay old new types extends owned in
    cc

-- and so does its typing
option_stays : (old new : Terms) (program : Program) (ids : List ℕ) (function : Function) (o : Option Body) (types : List Ty)
    → Extends old new
    → AreOwned ty_shape old types → MatchOption o (types ≡ []) (λ body. IsTypedBody (body_around old program ids function body types))
    → MatchOption o (types ≡ []) (λ body. IsTypedBody (body_around new program ids function body types))
option_stays old new program ids function None types extends owned typed = typed
option_stays old new program ids function (Some body) types extends owned typed =
    subst IsTypedBody (sym (body_stays old new program ids function body types extends owned)) typed

-- the typing of a function stays
pub function_stays : (old new : Terms) (program : Program) (ids : List ℕ) (function : Function) (types : List Ty) → Extends old new
    → AreOwned ty_shape old types → IsTypedFunction old program ids function types → IsTypedFunction new program ids function types
function_stays old new program ids function types extends owned typed =
    option_stays old new program ids function function.body types extends owned typed

-- a function whose body was typed
pub function_typed : (old new : Terms) (program : Program) (ids : List ℕ) (function : Function) (body : Body) (types lent : List Ty)
    → Extends old new
    → AreOwned ty_shape old types → function.body ≡ Some body → lent ≡ types → IsTypedBody (body_around old program ids function body lent)
    → IsTypedFunction new program ids function types
function_typed old new program ids function body types lent extends owned is same typed =
    let found = subst (λ x. IsTypedBody (body_around old program ids function body x)) same typed in
    subst (λ o. MatchOption o (types ≡ []) (λ b. IsTypedBody (body_around new program ids function b types))) (sym is)
    (subst IsTypedBody (sym (body_stays old new program ids function body types extends owned)) found)

-- the types of a body among those of all
types_owned : (terms : Terms) (bodies : List (Vec Ty Global)) (f : ℕ) (types : Vec Ty Global) → AreTyped terms bodies
    → slice_get bodies f ≡ Some types → AreOwned ty_shape terms types.items
types_owned terms bodies f types all at =
    subst (λ x. AreOwned ty_shape terms x.items) (get_or_from_slice_get bodies f types types at)
    (all f types (slice_get_within bodies f types at))

-- the types of bodies are the interner's still
pub all_stay : (old new : Terms) (bodies : List (Vec Ty Global)) → Extends old new → AreTyped old bodies → AreTyped new bodies
all_stay old new bodies extends all = λ k d less. list_still_owned ty_shape old new _ extends (all k d less)

-- and with one more
only_owned : (terms : Terms) (b : Vec Ty Global) → AreOwned ty_shape terms b.items → AreTyped terms (b ∷ [])
only_owned terms b owned zero d less = owned
only_owned terms b owned (suc k) d less = absurd (omega (arith, less))

pub all_pushed : (terms : Terms) (bodies : List (Vec Ty Global)) (b : Vec Ty Global) → AreTyped terms bodies
    → AreOwned ty_shape terms b.items → AreTyped terms (bodies ++ b ∷ [])
all_pushed terms bodies b all owned =
    All-append (λ types. AreOwned ty_shape terms types.items) bodies (b ∷ []) all (only_owned terms b owned)

-- one more function that is typed
pub typed_function_next : (old new : Terms) (program : Program) (ids : List ℕ) (bodies : List (Vec Ty Global)) (n : ℕ)
    (function : Function) (types : Vec Ty Global)
    → Extends old new → AreTyped old bodies → AreTypedFirst old program ids bodies n
    → slice_get program.functions.items n ≡ Some function → IsTypedFunction new program ids function types.items
    → AreTypedFirst new program ids (bodies ++ types ∷ []) (suc n)
typed_function_next old new program ids bodies n function types extends all first there typed = record {
  counted = length_pushed bodies types ∙ ap suc first.counted;
  each = λ f item less at. elim (below_next f n less) [
    | inl older ↦ (let one = first.each f item older at in (
      one.0,
      get_more bodies (types ∷ []) f one.0 one.1,
      function_stays old new program ids item one.0.items extends (types_owned old bodies f one.0 all one.1) one.2,
    ))
    | inr same ↦ (let this : item ≡ function = let p = ap (slice_get program.functions.items) same in cc in (
      types,
      get_pushed bodies types f (same ∙ sym first.counted),
      subst (λ x. IsTypedFunction new program ids x types.items) (sym this) typed,
    ))
  ];
}

-- the first functions have types
abbrev pub HaveTypes : Terms → Program → List ℕ → ℕ → Type 0
HaveTypes terms program ids n = (bodies : List (Vec Ty Global)) × AreTyped terms bodies × AreTypedFirst terms program ids bodies n

-- no functions have
pub none_have : (terms : Terms) (program : Program) (ids : List ℕ) → HaveTypes terms program ids 0
none_have terms program ids = (
  [],
  (λ k d less. absurd (omega (arith, less))),
  record { counted = refl; each = λ f function less at. absurd (omega (arith, less)) },
)

-- and one more function has, if its check succeeded
pub types_next : (old new : Terms) (program : Program) (ids : List ℕ) (n : ℕ) (function : Function)
    (checked : Result (Vec Ty Global) Failure) → Extends old new → slice_get program.functions.items n ≡ Some function → IsOk checked
    → IfOk checked (λ types. AreOwned ty_shape new types.items) → IfOk checked (λ types. IsTypedFunction new program ids function types.items)
    → HaveTypes old program ids n → HaveTypes new program ids (suc n)
types_next old new program ids n function (Ok types) extends at is owned typed first = (
  first.0 ++ types ∷ [],
  all_pushed new first.0 types (all_stay old new first.0 extends first.1) owned,
  typed_function_next old new program ids first.0 n function types extends first.1 first.2 at typed,
)
types_next old new program ids n function (Err e) extends at is owned typed first = absurd (cc)
