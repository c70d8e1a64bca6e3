-- The closure traits in order.
use Rattle.std.specs.Prelude.{ℕ, List, codes}
use Rattle.tt_index.specs.declared.closure_kind.ClosureKind.{ClosureKind}
use Rattle.tt_index.specs.declared.closure_kind.ClosureKind.TheVariants.{Fn, FnMut, FnOnce}

-- how much a call demands of the environment: shared access, exclusive access, ownership
abbrev pub demand : ClosureKind → ℕ
demand Fn = 0
demand FnMut = 1
demand FnOnce = 2

-- the trait's name, in bytes
abbrev pub trait_name : ClosureKind → List ℕ
trait_name Fn = codes "Fn"
trait_name FnMut = codes "FnMut"
trait_name FnOnce = codes "FnOnce"
