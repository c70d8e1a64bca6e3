-- The promise of a call that builds a list of existential predicates, each under its binder.
use Rattle.std.specs.Prelude.{◌≡◌, ℕ, ◌<◌, ◌≤◌, List, [], ◌∷◌, ◌++◌, Result, Ok, Err, IfOk, OnOk, OnErr, IfErr, ◌⊎◌, ⊤}
use Rattle.std.specs.Prelude.{All}
use Rattle.tt_index.specs.declared.refusal.Refusal.{Refusal}
use Rattle.tt_index.specs.declared.refusal.Refusal.TheVariants.{Memory, TableFull}
use Rattle.tt_kinds.specs.Tree.{Tree, Depth}
use Rattle.tt_kinds.specs.Shape.{item_shapes, fill_all, HasParts}
use Rattle.tt_kinds.specs.Kinds.{existential_kind_shape, items_tree}
use Rattle.tt_kinds.specs.declared.binder.Binder.{Binder}
use Rattle.tt_kinds.specs.declared.existential.ExistentialPredicate.{ExistentialPredicate}
use Rattle.tt_kinds.specs.Handle.{PolyExistentialPredicate}
use Rattle.tt_kinds.specs.Handle.{BoundExistentialPredicates}
use Rattle.tt_kinds.specs.declared.table.TermTable.TheVariants as terms_of
use Rattle.tt_kinds.specs.declared.table.Table.TheVariants.{Existentials, ExistentialLists}
use Rattle.tt_interner.specs.Rows.{Row, existential_row, existentials_row, row_table, size, meaning, IsNew}
use Rattle.tt_interner.specs.Stored.{Terms, Extends, IsAt, Stores, Builds, LacksItems}

-- the handles and names in each of the predicates are in range
abbrev pub HaveParts : List Row → List (Binder ExistentialPredicate) → Type 0
HaveParts rows ps = All (λ p. HasParts (size rows) (existential_kind_shape p)) ps

-- the tree of the list of these predicates
abbrev pub predicates_tree : List Row → List (Binder ExistentialPredicate) → Tree Depth
predicates_tree rows ps = items_tree terms_of.ExistentialLists (fill_all (meaning rows) (item_shapes existential_kind_shape ps))

-- the rows are all of existential predicates
abbrev pub AreExistentials : List Row → Type 0
AreExistentials [] = ⊤
AreExistentials (r ∷ rows) = (row_table r ≡ Existentials) × AreExistentials rows

-- each of the predicates is stored under its handle's number
abbrev pub AreStored : List Row → List (Binder ExistentialPredicate) → List PolyExistentialPredicate → Type 0
AreStored rows [] [] = ⊤
AreStored rows (p ∷ ps) (h ∷ hs) = IsAt rows (existential_row p) h.number × AreStored rows ps hs
AreStored rows _ _ = ⊥

-- r was stored under the number, or is now the newest row, for which its table had room
pub record StoresWithin (limit : ℕ) (old new : List Row) (r : Row) (n : ℕ) : Type 0 where
  pub stores : Stores old new r n
  pub room : IsNew r old → size old (row_table r) < limit

-- the predicates were stored one after the other, each under its handle's number
abbrev pub StoresEach : ℕ → List Row → List Row → List (Binder ExistentialPredicate) → List PolyExistentialPredicate
    → Type 0
StoresEach limit old new [] [] = new ≡ old
StoresEach limit old new (p ∷ ps) (h ∷ hs) = (between : List Row)
    × StoresWithin limit old between (existential_row p) h.number × StoresEach limit between new ps hs
StoresEach limit old new _ _ = ⊥

-- the row that is stored next: the first of the predicates that are left, or the list of the handles
abbrev pub next_row : List PolyExistentialPredicate → List (Binder ExistentialPredicate) → Row
next_row hs [] = existentials_row hs
next_row hs (p ∷ ps) = existential_row p

-- after the predicates that are done, the next row is new, and its table holds the limit
pub record NextLacksRoom (limit : ℕ) (rows : List Row) (ps done : List (Binder ExistentialPredicate))
    (hs : List PolyExistentialPredicate) : Type 0 where
  pub left : List (Binder ExistentialPredicate)
  pub split : ps ≡ done ++ left
  pub new : IsNew (next_row hs left) rows
  pub full : limit ≤ size rows (row_table (next_row hs left))

-- once some of the predicates are stored, there is no room for the next one, or for the list
pub record LacksRoom (terms : Terms) (ps : List (Binder ExistentialPredicate)) : Type 0 where
  pub done : List (Binder ExistentialPredicate)
  pub handles : List PolyExistentialPredicate
  pub rows : List Row
  pub stores : StoresEach terms.limit terms.rows rows done handles
  pub next : NextLacksRoom terms.limit rows ps done handles

-- why the list of the predicates was not stored
abbrev pub IsCauseOfEach : Terms → List (Binder ExistentialPredicate) → Refusal → Type 0
IsCauseOfEach terms ps Memory = ⊤
IsCauseOfEach terms ps TableFull = LacksRoom terms ps
IsCauseOfEach terms ps _ = ⊥

-- the predicates were stored, and then their list under the number
pub record StoresAll (limit : ℕ) (old new : List Row) (ps : List (Binder ExistentialPredicate)) (n : ℕ) : Type 0 where
  pub handles : List PolyExistentialPredicate
  pub between : List Row
  pub each : StoresEach limit old between ps handles
  pub list : StoresWithin limit between new (existentials_row handles) n

-- the result is the list of the predicates, where the list and each predicate are added if they are new; or the call is
-- refused, and nothing is added
pub record BuildsAll (result : Result BoundExistentialPredicates Refusal) (old new : Terms)
    (ps : List (Binder ExistentialPredicate)) : Type 0 where
  pub in_range : IfOk result (λ l. l.number < size new.rows ExistentialLists)
  pub means : IfOk result (λ l. meaning new.rows ExistentialLists l.number ≡ predicates_tree old.rows ps)
  pub extends : Extends old new
  pub counters : new.counters ≡ old.counters
  pub stored : IfOk result (λ l. StoresAll old.limit old.rows new.rows ps l.number)
  pub err : OnErr result (new ≡ old)
  pub cause : IfErr result (IsCauseOfEach old ps)
  -- rows that are there are found, and nothing changes
  pub found : (hs : List PolyExistentialPredicate) (n : ℕ) → AreStored old.rows ps hs
      → IsAt old.rows (existentials_row hs) n
      → (((l : BoundExistentialPredicates) × (result ≡ Ok l) × (l.number ≡ n)) × (new ≡ old)) ⊎ LacksItems result ps
  -- if the first row that isn't there has no room, the refusal is `TableFull`, or `Memory` for more than eight handles
  pub full : (done : List (Binder ExistentialPredicate)) (hs : List PolyExistentialPredicate)
      → AreStored old.rows done hs → NextLacksRoom old.limit old.rows ps done hs
      → (result ≡ Err TableFull) ⊎ LacksItems result ps

-- some of the predicates were stored, and the result comes from the last call, which stores the next row
pub record PutsEach (result : Result BoundExistentialPredicates Refusal) (old new : Terms)
    (ps : List (Binder ExistentialPredicate)) : Type 0 where
  pub done : List (Binder ExistentialPredicate)
  pub left : List (Binder ExistentialPredicate)
  pub handles : List PolyExistentialPredicate
  pub between : Terms
  pub split : ps ≡ done ++ left
  pub limit : between.limit ≡ old.limit
  pub counters : between.counters ≡ old.counters
  pub stores : StoresEach old.limit old.rows between.rows done handles
  pub next : Builds result (λ l. l.number) between new (next_row handles left)
  pub means : IfOk result (λ l. meaning new.rows ExistentialLists l.number ≡ predicates_tree old.rows ps)
  pub whole : OnOk result (left ≡ [])
