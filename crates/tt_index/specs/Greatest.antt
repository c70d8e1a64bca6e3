-- The range of indices.
use Rattle.std.specs.Prelude.{ℕ}

-- the greatest number that an index may have
abbrev pub greatest : ℕ
greatest = 4294967040
