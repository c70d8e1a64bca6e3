-- The cached information of a term: its flags and its outer exclusive binder.
use Rattle.std.specs.Prelude.{ℕ}
use Rattle.tt_flags.specs.declared.flag_computation.FlagComputation.{FlagComputation}

-- the information with these flag bits and this outer exclusive binder
abbrev pub computed : ℕ → ℕ → FlagComputation
computed flags outer = record { flags = record { bits = flags }; outer_exclusive_binder = outer }
