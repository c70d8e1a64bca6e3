-- the type and its binders have room
use Rattle.std.proofs.Common.{◌≡◌, ◌⊎◌, inl, inr, refl, arith}
use Rattle.std.specs.Prelude.{Result, Ok, Err, IfErr}
use Rattle.tt_index.specs.declared.refusal.Refusal.{Refusal}
use Rattle.tt_index.specs.declared.refusal.Refusal.TheVariants.{Memory, TableFull, GreatestIndex, NoArguments}
use Rattle.tt_index.specs.declared.refusal.Refusal.TheVariants.{ArgOutOfRange, ArgKind, RegionVariable, NotAClause}
use Rattle.tt_index.specs.declared.refusal.Refusal.TheVariants.{NoSuchAnswer}
use Rattle.tt_kinds.specs.Tree.{Depth, Tree}
use Rattle.tt_kinds.specs.Reading.{read, move, Fits}
use Rattle.tt_kinds.specs.Kinds.{ty_shape}
use Rattle.tt_kinds.specs.Handle.{Ty}
use Rattle.tt_interner.specs.Stored.{Terms}
use Rattle.tt_fold.specs.Steps.{tree_in}
use Rattle.tt_fold.specs.Shift.{IsShiftRefusal}
use Rattle.fold_tests.proofs.tests.fitting.in_a_binder.Goals as goal

for_room : (result : Result Ty Refusal) (terms : Terms) (t : Tree Depth) → Fits (move 1 (read 0 t)) → IfErr result (IsShiftRefusal terms 1 t) → IfErr result (λ e. (e ≡ Memory) ⊎ (e ≡ TableFull))
for_room (Ok ty) terms t fits h = tt
for_room (Err Memory) terms t fits h = inl refl
for_room (Err TableFull) terms t fits h = inr refl
for_room (Err GreatestIndex) terms t fits h = absurd (h fits)
for_room (Err NoArguments) terms t fits h = absurd h
for_room (Err (ArgOutOfRange i)) terms t fits h = absurd h
for_room (Err (ArgKind i)) terms t fits h = absurd h
for_room (Err (RegionVariable x)) terms t fits h = absurd h
for_room (Err NotAClause) terms t fits h = absurd h
for_room (Err NoSuchAnswer) terms t fits h = absurd h

pub returns : goal.returns
returns c =
    let rows = c.args.cx.now.rows in
    let few = c.requires.few in
    let binders = c.few_rows_fit.ensures rows 1000001 (ty_shape c.args.ty) c.are_rows.ensures.are c.requires.ty (omega arith) in
    for_room _ _ (tree_in rows (ty_shape c.args.ty)) (c.moved_trees_fit.ensures 1 1000000 (tree_in rows (ty_shape c.args.ty)) c.requires.low (omega arith) binders) c.shift_vars.ensures.err
