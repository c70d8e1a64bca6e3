-- More rows change no argument of a view.
use Rattle.std.proofs.Common.{◌≡◌, ◌<◌, List, take, drop, ap}
use Rattle.tt_kinds.specs.declared.table.Table.TheVariants.{ArgLists}
use Rattle.tt_kinds.specs.declared.view.GenericArgsSlice.{GenericArgsSlice}
use Rattle.tt_interner.specs.Rows.{Row, size, Grows}
use Rattle.tt_binder.specs.ArgsSlice.{args_in}
use Rattle.tt_binder.specs.ArgumentLaws.{args_at-grows}

pub args_in-grows : (old new : List Row) (view : GenericArgsSlice) → Grows old new
    → view.args.number < size old ArgLists → args_in new view ≡ args_in old view
args_in-grows old new view g h = ap (λ args. take view.len (drop view.start args)) (args_at-grows old new view.args g h)
