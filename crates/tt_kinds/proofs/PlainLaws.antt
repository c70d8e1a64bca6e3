-- The laws of shifting and instantiating by the indices as they are written, from the laws of readings.
use Rattle.std.proofs.Common.{◌≡◌, ℕ, ◌+◌, ◌-◌, List, [], ◌∷◌, refl, ap, sym, ◌∙◌}
use Rattle.tt_kinds.specs.Label.{Name, VarKind}
use Rattle.tt_kinds.specs.Tree.{Depth, Place, Tree, binder}
use Rattle.tt_kinds.specs.Reading.{read, move, outer_binder}
use Rattle.tt_kinds.specs.Argument.{Argument, put, change_value, change_values, readings}
use Rattle.tt_kinds.specs.Param.{IsAnswered}
use Rattle.tt_kinds.specs.Plain.{shift_tree, inst_tree}
use Rattle.tt_kinds.proofs.ReadingLaws.{read-shift_tree, read-injective, move-move}
use Rattle.tt_kinds.proofs.PutLaws.{read-inst_tree, put-put, move-put, IsAnswered-read}
use Rattle.tt_kinds.proofs.OuterLaws.{greatest_reach-deeper}

-- shifts in turn are one shift by the sum
pub shift_tree-shift_tree : (k m n : ℕ) (t : Tree Depth) → shift_tree k m (shift_tree k n t) ≡ shift_tree k (m + n) t
shift_tree-shift_tree k m n t = read-injective k _ _
    (read-shift_tree m k (shift_tree k n t) ∙ ap (move m) (read-shift_tree n k t) ∙ move-move m n (read k t) ∙ sym (read-shift_tree (m + n) k t))

-- arguments whose values change as their readings do
module _ (f : Tree Depth → Tree Depth) (g : Tree Place → Tree Place) (same : (t : Tree Depth) → read 0 (f t) ≡ g (read 0 t)) where
  readings-change_values : (args : List (Argument Depth)) → readings (change_values f args) ≡ change_values g (readings args)
  readings-change_values [] = refl
  readings-change_values (a ∷ args) = let first : change_value (read 0) (change_value f a) ≡ change_value g (change_value (read 0) a)
      = ap (λ r. record { sort = a.sort; value = r }) (same a.value) in
      let rest = readings-change_values args in cc

-- an instantiation and then a shift is the shift and then the instantiation by shifted arguments
pub shift_tree-inst_tree : (k n : ℕ) (args : List (Argument Depth)) (t : Tree Depth) →
    shift_tree k n (inst_tree k args t) ≡ inst_tree k (change_values (shift_tree 0 n) args) (shift_tree k n t)
shift_tree-inst_tree k n args t = read-injective k _ _
    (read-shift_tree n k (inst_tree k args t) ∙ ap (move n) (read-inst_tree k args t) ∙ move-put n (readings args) (read k t)
    ∙ ap (λ as'. put as' (move n (read k t))) (sym (readings-change_values (shift_tree 0 n) (move n) (read-shift_tree n 0) args))
    ∙ ap (put (readings (change_values (shift_tree 0 n) args))) (sym (read-shift_tree n k t))
    ∙ sym (read-inst_tree k (change_values (shift_tree 0 n) args) (shift_tree k n t)))

-- an instantiation and then another is the one by arguments that are instantiated by the other
pub inst_tree-inst_tree : (k : ℕ) (later args : List (Argument Depth)) (t : Tree Depth) → IsAnswered args t →
    inst_tree k later (inst_tree k args t) ≡ inst_tree k (change_values (inst_tree 0 later) args) t
inst_tree-inst_tree k later args t answered = read-injective k _ _
    (read-inst_tree k later (inst_tree k args t) ∙ ap (put (readings later)) (read-inst_tree k args t)
    ∙ put-put (readings later) (readings args) (read k t) (IsAnswered-read args k t answered)
    ∙ ap (λ as'. put as' (read k t)) (sym (readings-change_values (inst_tree 0 later) (put (readings later)) (read-inst_tree 0 later) args))
    ∙ sym (read-inst_tree k (change_values (inst_tree 0 later) args) t))

-- the outer binder of what is under a binder falls by one
pub outer_binder-binder : (vs : List (VarKind Name)) (t : Tree Depth) → outer_binder (binder vs t) ≡ outer_binder t - 1
outer_binder-binder vs t = greatest_reach-deeper 1 0 t
