-- The visits of values without terms: a visitor is told of nothing there.
use Rattle.std.proofs.Common.{refl}
use Rattle.tt_kinds.specs.Label.{record_label}
use Rattle.tt_kinds.specs.Shape.{Shape, Shapes, node, none, also, Meaning, fill, fill_all}
use Rattle.tt_kinds.specs.declared.bound.BoundVarIndexKind.{BoundVarIndexKind}
use Rattle.tt_kinds.specs.declared.bound.BoundVarIndexKind.TheVariants.{Bound, Canonical}
use Rattle.tt_visit.specs.Data.{IsData, AreData, index_shape}
use Rattle.tt_visit.specs.Visit.{Visits, GoesOver, GoesOverAll, node_seen, one_seen, all_seen}

module _ {M B : Type 0} (V : Visits M B) (f : Meaning) (s : M) where
  mutual
    unfolding fill fill_all

    -- a visitor goes over a value that is data alone and stays in its state
    pub data_seen : (d : Shape) → IsData d → GoesOver V s (fill f d) s
    data_seen (node (record_label l) ds) is = node_seen refl (all_data_seen ds is)
    data_seen _ is = absurd is

    all_data_seen : (ds : Shapes) → AreData ds → GoesOverAll V s (fill_all f ds) s
    all_data_seen none is = all_seen
    all_data_seen (also d ds) is = one_seen (data_seen d is.0) (all_data_seen ds is.1)

-- the index of a bound variable is data alone
pub index_data : (i : BoundVarIndexKind) → IsData (index_shape i)
index_data (Bound d) = (tt, tt)
index_data Canonical = tt
