-- Laws of trees and their readings, for all trees, all numbers of binders above them and all lists of arguments, and of
-- signatures.
use Rattle.std.specs.Prelude.{◌≡◌, ℕ, ◌+◌, ◌≤◌, List, Option, Bool, map, false}
use Rattle.tt_index.specs.declared.abi.ExternAbi.{ExternAbi}
use Rattle.tt_index.specs.declared.qualifier.Safety.{Safety}
use Rattle.tt_kinds.specs.declared.binder.Binder.{Binder}
use Rattle.tt_kinds.specs.declared.fn_sig.FnSig.{FnSig}
use Rattle.tt_kinds.specs.FnSig.{AreRead, types_in, header_in, joined}
use Rattle.tt_kinds.specs.Label.{Name, VarKind}
use Rattle.tt_kinds.specs.Tree.{Depth, Place, Tree}
use Rattle.tt_kinds.specs.Reading.{read, move, outer_binder}
use Rattle.tt_kinds.specs.Argument.{Argument, put, change_values, readings}
use Rattle.tt_kinds.specs.Param.{holds_param, IsAnswered, ArgumentsHoldNone}
use Rattle.tt_kinds.specs.Plain.{shift_tree, inst_tree}
use Rattle.tt_kinds.specs.Matched.{MatchedUnder, ArgumentsMatched}
use Rattle.tt_kinds.specs.Met.{met, placed}

-- if each parameter has an argument, two replacements are one, by the first arguments with the later one made in them
abbrev pub PutsCompose : Type 0
PutsCompose = (later args : List (Argument Place)) (r : Tree Place) → IsAnswered args r
    → put later (put args r) ≡ put (change_values (put later) args) r

-- a replacement followed by a move is the same as the move followed by a replacement by the moved arguments
abbrev pub MovesCommute : Type 0
MovesCommute = (n : ℕ) (args : List (Argument Place)) (r : Tree Place)
    → move n (put args r) ≡ put (change_values (move n) args) (move n r)

-- two moves in turn are one move by the sum
abbrev pub MovesAddUp : Type 0
MovesAddUp = (m n : ℕ) (r : Tree Place) → move m (move n r) ≡ move (m + n) r

-- readings are equal if the same move makes them equal
abbrev pub MovesTellReadings : Type 0
MovesTellReadings = (n : ℕ) (r q : Tree Place) → move n r ≡ move n q → r ≡ q

-- if the own variables of a reading and of the arguments match their binders' lists, so do those after the replacement
abbrev pub PutKeepsMatched : Type 0
PutKeepsMatched = (args : List (Argument Place)) → ArgumentsMatched args
    → (lists : List (List (VarKind Name))) (r : Tree Place) →
    MatchedUnder lists r → MatchedUnder lists (put args r)

-- if the own variables of a reading match their binders' lists, so do those after a move
abbrev pub MoveKeepsMatched : Type 0
MoveKeepsMatched = (n : ℕ) (lists : List (List (VarKind Name))) (r : Tree Place) → MatchedUnder lists r
    → MatchedUnder lists (move n r)

-- if each parameter has an argument and no argument holds a parameter, the replacement leaves no parameter
abbrev pub PutLeavesNone : Type 0
PutLeavesNone = (args : List (Argument Place)) (r : Tree Place) → IsAnswered args r → ArgumentsHoldNone args
    → holds_param (put args r) ≡ false

-- trees with equal readings are equal
abbrev pub ReadingsTellTrees : Type 0
ReadingsTellTrees = (k : ℕ) (t u : Tree Depth) → read k t ≡ read k u → t ≡ u

-- the regions met in a tree, placed again, give the tree
abbrev pub MetPlacedAgain : Type 0
MetPlacedAgain = (k : ℕ) (t : Tree Depth) → placed k t (map (λ m. m.standing) (met k t)) ≡ t

-- an instantiated tree reads as the reading with its parameters replaced by the arguments' readings
abbrev pub InstancesRead : Type 0
InstancesRead = (k : ℕ) (args : List (Argument Depth)) (t : Tree Depth)
    → read k (inst_tree k args t) ≡ put (readings args) (read k t)

-- a shifted tree reads as the reading moved
abbrev pub ShiftsRead : Type 0
ShiftsRead = (n k : ℕ) (t : Tree Depth) → read k (shift_tree k n t) ≡ move n (read k t)

-- a shift under k binders keeps a tree that reaches no further than k
abbrev pub ShiftKeepsLow : Type 0
ShiftKeepsLow = (k n : ℕ) (t : Tree Depth) → outer_binder t ≤ k → shift_tree k n t ≡ t

-- a shift by 0 keeps each tree
abbrev pub ShiftByZero : Type 0
ShiftByZero = (k : ℕ) (t : Tree Depth) → shift_tree k 0 t ≡ t

-- each part that was packed is read back
abbrev pub PackedPartsAreRead : Type 0
PackedPartsAreRead = (abi : ExternAbi) (safety : Safety) (variadic : Bool) (splat : Option ℕ)
    → AreRead abi safety variadic splat

-- the types and the other parts of a signature, joined, are the signature
abbrev pub SplitIsJoined : Type 0
SplitIsJoined = (sig : Binder FnSig) → joined (types_in sig) (header_in sig) ≡ sig
