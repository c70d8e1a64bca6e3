-- What building the list of existential predicates owes, by how it ended.
use Rattle.std.proofs.Common.{◌≡◌, ℕ, suc, ◌+◌, ◌<◌, ◌≤◌, ⊎_elim, List, [], ◌∷◌, ◌++◌, length, take, drop, get_or, set}
use Rattle.std.proofs.Common.{Result, Ok, Err, ◌⊎◌, inl, inr, refl, sym, ap, subst, ◌∙◌, arith, add-one, append_assoc}
use Rattle.std.specs.Prelude.{IfOk, OnOk}
use Rattle.std.proofs.lemmas.Bool.{cases_lt}
use Rattle.std.proofs.lemmas.List.{append-nil, take-append-drop, length-append}
use Rattle.std.proofs.lemmas.List.Elements.{All-head, All-tail, All-get_or}
use Rattle.std.proofs.Math.Seq.{take-suc, take-suc-set, drop-cons, take-length, take-append_seam, drop-append_seam}
use Rattle.tt_index.specs.declared.refusal.Refusal.{Refusal}
use Rattle.tt_index.specs.declared.refusal.Refusal.TheVariants.{Memory, TableFull, GreatestIndex}
use Rattle.tt_kinds.specs.Label.{list_label}
use Rattle.tt_kinds.specs.Tree as tree
use Rattle.tt_kinds.specs.Shape.{item_shapes, fill, fill_all, AreParts, HasParts, IsTooDeep}
use Rattle.tt_kinds.specs.Kinds.{existential_shape, existential_kind_shape}
use Rattle.tt_kinds.specs.declared.binder.Binder.{Binder}
use Rattle.tt_kinds.specs.declared.existential.ExistentialPredicate.{ExistentialPredicate}
use Rattle.tt_kinds.specs.Handle.{PolyExistentialPredicate}
use Rattle.tt_kinds.specs.Handle.{BoundExistentialPredicates}
use Rattle.tt_kinds.specs.declared.table.Table.TheVariants.{Existentials, ExistentialLists}
use Rattle.tt_interner.specs.Rows.{Row, existential_row, existentials_row, row_table, row_shape, size, meaning, IsNew}
use Rattle.tt_interner.specs.Rows.{AreRows, Grows}
use Rattle.tt_interner.specs.Stored.{Terms, Extends, IsAt, IsCause, Builds, most_in_place}
use Rattle.tt_interner.specs.Existentials.{HaveParts, predicates_tree, AreExistentials, AreStored, StoresWithin}
use Rattle.tt_interner.specs.Existentials.{StoresEach, next_row, NextLacksRoom, IsCauseOfEach, BuildsAll, PutsEach}
use Rattle.tt_interner.proofs.Growth.{Grows-more, Grows-refl, Grows-trans, Extends-refl, HasParts-grows, row-grows}
use Rattle.tt_interner.proofs.Growth.{IsAt-grows}
use Rattle.tt_interner.proofs.Trees.{Means-row}
use Rattle.tt_interner.proofs.StoreSteps.{in_range, not_new, place_one, Builds-err_as}
use Rattle.tt_kinds.specs.Handle.{handle}

abbrev Predicate : Type 0
Predicate = Binder ExistentialPredicate

abbrev Handle : Type 0
Handle = PolyExistentialPredicate

-- what a building call answers is stored, and had room
pub within_from : {H : Type 0} (h : H) (number : H → ℕ) (old new : Terms) (r : Row) → (IsTooDeep (row_shape r) → ⊥) → Builds (Ok h) number old new r → StoresWithin old.limit old.rows new.rows r (number h)
within_from {H} h number old new r shallow b = record {
  stores = b.stored;
  room = λ is_new. ⊎_elim (λ room. room) (λ past. absurd (never (Ok h) refl (b.full is_new shallow past))) (cases_lt (size old.rows (row_table r)) old.limit);
}
  where
    never : (result : Result H Refusal) → result ≡ Ok h → result ≡ Err TableFull → ⊥
    never result ok err = cc

-- one predicate more
pub StoresEach-push : (limit : ℕ) (old between new : List Row) (ps : List Predicate) (hs : List Handle) (p : Predicate) (h : Handle)
    → StoresEach limit old between ps hs → StoresWithin limit between new (existential_row p) h.number → StoresEach limit old new (ps ++ p ∷ []) (hs ++ h ∷ [])
StoresEach-push limit old between new [] [] p h same step = (new, subst (λ rows. StoresWithin limit rows new (existential_row p) h.number) same step, refl)
StoresEach-push limit old between new (q ∷ ps) (g ∷ hs) p h s step = (s.0, s.1, StoresEach-push limit s.0 between new ps hs p h s.2 step)
StoresEach-push limit old between new [] (g ∷ hs) p h s step = absurd s
StoresEach-push limit old between new (q ∷ ps) [] p h s step = absurd s

-- the rows that were added are of existential predicates
pub record AddsPredicates (old new : List Row) : Type 0 where
  pub more : List Row
  pub kept : new ≡ more ++ old
  pub only : AreExistentials more

AreExistentials-push : (rows : List Row) (r : Row) → AreExistentials rows → row_table r ≡ Existentials → AreExistentials (rows ++ r ∷ [])
AreExistentials-push [] r only own = (own, tt)
AreExistentials-push (q ∷ rows) r only own = (only.0, AreExistentials-push rows r only.1 own)

-- storing existential predicates in turn adds rows of existential predicates, and no others
pub adds : (limit : ℕ) (old new : List Row) (ps : List Predicate) (hs : List Handle) → StoresEach limit old new ps hs → AddsPredicates old new
adds limit old new [] [] same = record { more = []; kept = same; only = tt }
adds limit old new (p ∷ ps) (h ∷ hs) s =
    let rest = adds limit s.0 new ps hs s.2 in
    ⊎_elim
    (λ same. record { more = rest.more; kept = rest.kept ∙ ap (λ rows. rest.more ++ rows) same; only = rest.only })
    (λ added. record {
      more = rest.more ++ existential_row p ∷ [];
      kept = rest.kept ∙ ap (λ rows. rest.more ++ rows) added.0 ∙ sym (append_assoc rest.more (existential_row p ∷ []) old);
      only = AreExistentials-push rest.more (existential_row p) rest.only refl;
    })
    s.1.stores.grown
adds limit old new [] (h ∷ hs) s = absurd s
adds limit old new (p ∷ ps) [] s = absurd s

-- storing existential predicates in turn keeps every row that was there
pub grows : (limit : ℕ) (old new : List Row) (ps : List Predicate) (hs : List Handle) → StoresEach limit old new ps hs → Grows old new
grows limit old new ps hs s = let a = adds limit old new ps hs s in Grows-more a.more a.kept

-- The steps of the loop: what is before the place i is stored.
module _ (limit : ℕ) (old between : List Row) (ps : List Predicate) (places : List Handle) (i : ℕ) (stores : StoresEach limit old between (take i ps) (take i places)) where
  -- the contents of the next predicate are still in range
  pub next_parts : (d : Predicate) → i < length ps → HaveParts old ps → HasParts (size between) (existential_kind_shape (get_or ps i d))
  next_parts d within parts = HasParts-grows old between (grows limit old between (take i ps) (take i places) stores) (existential_kind_shape (get_or ps i d)) (All-get_or (λ q. HasParts (size old) (existential_kind_shape q)) ps i d within parts)

  -- it is stored too
  StoresEach-next : (d : Predicate) (h : Handle) (new : List Row) → i < length ps → i < length places → StoresWithin limit between new (existential_row (get_or ps i d)) h.number
      → StoresEach limit old new (take (i + 1) ps) (take (i + 1) (set places i h))
  StoresEach-next d h new within room step =
      subst (λ n. StoresEach limit old new (take n ps) (take n (set places i h))) (sym (add-one i))
      (subst (λ l. StoresEach limit old new l (take (suc i) (set places i h))) (sym (take-suc ps i d within))
      (subst (λ l. StoresEach limit old new (take i ps ++ get_or ps i d ∷ []) l) (sym (take-suc-set places i h room))
      (StoresEach-push limit old between new (take i ps) (take i places) (get_or ps i d) h stores step)))

  -- all of them are
  pub StoresEach-all : i ≡ length ps → StoresEach limit old between ps (take (length ps) places)
  StoresEach-all at_end =
      subst (λ l. StoresEach limit old between l (take (length ps) places)) (take-length ps)
      (subst (λ n. StoresEach limit old between (take n ps) (take n places)) at_end stores)

-- what is stored once a building call stored the next predicate
pub StoresEach-built : (old between new : Terms) (ps : List Predicate) (places : List Handle) (i : ℕ) → between.limit ≡ old.limit → StoresEach old.limit old.rows between.rows (take i ps) (take i places)
    → (d : Predicate) (h : Handle) → i < length ps → i < length places → Builds (Ok h) (λ (g : Handle). g.number) between new (existential_row (get_or ps i d))
    → StoresEach old.limit old.rows new.rows (take (i + 1) ps) (take (i + 1) (set places i h))
StoresEach-built old between new ps places i limit stores d h within room builds =
    StoresEach-next old.limit old.rows between.rows ps places i stores d h new.rows within room
    (subst (λ n. StoresWithin n between.rows new.rows (existential_row (get_or ps i d)) h.number) limit
    (within_from h (λ (g : Handle). g.number) between new (existential_row (get_or ps i d)) (λ deep. deep) builds))

-- so there are no fewer rows
pub no_fewer : (old new : List Row) → AddsPredicates old new → length old ≤ length new
no_fewer old new a = omega (arith, ap length a.kept, length-append {A = Row} a.more old)

-- how many rows were added, and that they are the newest ones
module _ (old new : List Row) (a : AddsPredicates old new) (n : ℕ) (many : n + length old ≡ length new) where
  as_many : n ≡ length a.more
  as_many = omega (arith, ap length a.kept, length-append {A = Row} a.more old)

  -- the newest rows, as many as were added, are all of existential predicates
  pub newest_only : AreExistentials (take n new)
  newest_only = subst AreExistentials (sym (ap (take n) a.kept ∙ ap (λ k. take k (a.more ++ old)) as_many ∙ take-append_seam a.more old)) a.only

  -- without the newest rows, as many as were added, the rows are the old ones
  pub rest_is : drop n new ≡ old
  rest_is = ap (drop n) a.kept ∙ ap (λ k. drop k (a.more ++ old)) as_many ∙ drop-append_seam a.more old

-- each predicate stays stored under its handle
pub stored_later : (limit : ℕ) (old between new : List Row) (ps : List Predicate) (hs : List Handle) → StoresEach limit old between ps hs → Grows between new → AreStored new ps hs
stored_later limit old between new [] [] s g = tt
stored_later limit old between new (p ∷ ps) (h ∷ hs) s g =
    (IsAt-grows s.0 new (Grows-trans (grows limit s.0 between ps hs s.2) g) (existential_row p) h.number s.1.stores.stored, stored_later limit s.0 between new ps hs s.2 g)
stored_later limit old between new [] (h ∷ hs) s g = absurd s
stored_later limit old between new (p ∷ ps) [] s g = absurd s

-- what stored predicates' handles mean
module _ (old rows : List Row) (are : AreRows rows) (g : Grows old rows) where
  pub handles_parts : (ps : List Predicate) (hs : List Handle) → AreStored rows ps hs → AreParts (size rows) (item_shapes existential_shape hs)
  handles_parts [] [] s = tt
  handles_parts (p ∷ ps) (h ∷ hs) s = (in_range rows (existential_row p) h.number s.0, handles_parts ps hs s.1)
  handles_parts [] (h ∷ hs) s = absurd s
  handles_parts (p ∷ ps) [] s = absurd s

  pub handles_trees : (ps : List Predicate) (hs : List Handle) → HaveParts old ps → AreStored rows ps hs
      → fill_all (meaning rows) (item_shapes existential_shape hs) ≡ fill_all (meaning old) (item_shapes existential_kind_shape ps)
  unfolding fill
  handles_trees [] [] parts s = refl
  handles_trees (p ∷ ps) (h ∷ hs) parts s =
      let first : meaning rows Existentials h.number ≡ fill (meaning old) (existential_kind_shape p) =
      (Means-row rows are Existentials h.number (existential_row p) s.0).tree ∙ row-grows old rows g (existential_kind_shape p) (All-head (λ q. HasParts (size old) (existential_kind_shape q)) p ps parts) in
      let rest = handles_trees ps hs (All-tail (λ q. HasParts (size old) (existential_kind_shape q)) p ps parts) s.1 in
      ap (λ t. tree.also t (fill_all (meaning rows) (item_shapes existential_shape hs))) first ∙ ap (tree.also (fill (meaning old) (existential_kind_shape p))) rest
  handles_trees [] (h ∷ hs) parts s = absurd s
  handles_trees (p ∷ ps) [] parts s = absurd s

-- a list's tree comes of its items'
fill_list : (rows old : List Row) (ps : List Predicate) (hs : List Handle) → fill_all (meaning rows) (item_shapes existential_shape hs) ≡ fill_all (meaning old) (item_shapes existential_kind_shape ps)
    → fill (meaning rows) (row_shape (existentials_row hs)) ≡ predicates_tree old ps
unfolding fill
fill_list rows old ps hs e = ap (tree.node (list_label ExistentialLists)) e

-- The state of the loop, and its exits.
module _ (old between : Terms) (ps : List Predicate) (hs : List Handle) (limit : between.limit ≡ old.limit) (counters : between.counters ≡ old.counters) where
  -- a predicate was refused
  pub PutsEach-stopped : (i : ℕ) (d : Predicate) → i < length ps → StoresEach old.limit old.rows between.rows (take i ps) hs → (new : Terms) (e : Refusal)
      → Builds {H = Handle} (Err e) (λ h. h.number) between new (existential_row (get_or ps i d)) → PutsEach (Err e) old new ps
  PutsEach-stopped i d within stores new e builds = record {
    done = take i ps;
    left = drop i ps;
    handles = hs;
    between = between;
    split = sym (take-append-drop i ps);
    limit = limit;
    counters = counters;
    stores = stores;
    next = subst (λ left. Builds (Err e) (λ (l : BoundExistentialPredicates). l.number) between new (next_row hs left)) (sym (drop-cons ps i d within))
        (Builds-err_as (λ (h : Handle). h.number) (λ (l : BoundExistentialPredicates). l.number) between new (existential_row (get_or ps i d)) e builds);
    means = tt;
    whole = tt;
  }

  -- all were stored, and the list was stored or refused
  module _ (stores : StoresEach old.limit old.rows between.rows ps hs) (are : AreRows between.rows) (parts : HaveParts old.rows ps) where
    stored : AreStored between.rows ps hs
    stored = stored_later old.limit old.rows between.rows between.rows ps hs stores (Grows-refl between.rows)

    -- once all the predicates are stored, their handles are in range
    pub list_parts : AreParts (size between.rows) (item_shapes existential_shape hs)
    list_parts = handles_parts old.rows between.rows are (grows old.limit old.rows between.rows ps hs stores) ps hs stored

    -- once all the predicates are stored, the result of storing their list is the whole call's
    pub PutsEach-listed : (result : Result BoundExistentialPredicates Refusal) (new : Terms) → Builds result (λ l. l.number) between new (existentials_row hs) → PutsEach result old new ps
    PutsEach-listed result new builds = record {
      done = ps;
      left = [];
      handles = hs;
      between = between;
      split = sym (append-nil ps);
      limit = limit;
      counters = counters;
      stores = stores;
      next = builds;
      means = means result builds.means;
      whole = whole result;
    }
      where
        trees : fill (meaning between.rows) (row_shape (existentials_row hs)) ≡ predicates_tree old.rows ps
        trees = fill_list between.rows old.rows ps hs (handles_trees old.rows between.rows are (grows old.limit old.rows between.rows ps hs stores) ps hs parts stored)

        means : (r : Result BoundExistentialPredicates Refusal) → IfOk r (λ l. meaning new.rows ExistentialLists l.number ≡ fill (meaning between.rows) (row_shape (existentials_row hs)))
            → IfOk r (λ l. meaning new.rows ExistentialLists l.number ≡ predicates_tree old.rows ps)
        means (Ok l) m = m ∙ trees
        means (Err e) m = tt

        whole : (r : Result BoundExistentialPredicates Refusal) → OnOk r (◌≡◌ {A = List Predicate} [] [])
        whole (Ok l) = refl
        whole (Err e) = tt

-- What is there, beside what was stored.

-- the next predicate is there, though the calls ended before it
record IsFurther (rows : List Row) (left : List Predicate) : Type 0 where
  predicate : Predicate
  rest : List Predicate
  is : left ≡ predicate ∷ rest
  number : ℕ
  at : IsAt rows (existential_row predicate) number

-- the first predicate that is left had room
record IsBehind (limit : ℕ) (rows : List Row) (left : List Predicate) : Type 0 where
  predicate : Predicate
  rest : List Predicate
  is : left ≡ predicate ∷ rest
  new : List Row
  number : ℕ
  stores : StoresWithin limit rows new (existential_row predicate) number

-- both ended at one predicate, with the same handles
record IsSame (old between : List Row) (hs gs : List Handle) (left rest : List Predicate) : Type 0 where
  rows : between ≡ old
  handles : hs ≡ gs
  same_left : left ≡ rest

-- the predicates that are there, and those that were stored: one of the two goes further, or both are the same
compare : (limit : ℕ) (old between : List Row) → AreRows old → (there : List Predicate) (gs : List Handle) → AreStored old there gs → (done : List Predicate) (hs : List Handle) → StoresEach limit old between done hs
    → (rest left : List Predicate) → done ++ left ≡ there ++ rest → IsSame old between hs gs left rest ⊎ (IsFurther between left ⊎ IsBehind limit old rest)
compare limit old between are [] [] at [] [] same rest left split = inl (record { rows = same; handles = refl; same_left = split })
compare limit old between are [] [] at (p ∷ done) (h ∷ hs) s rest left split =
    inr (inr (record { predicate = p; rest = done ++ left; is = sym split; new = s.0; number = h.number; stores = s.1 }))
compare limit old between are (q ∷ there) (g ∷ gs) at [] [] same rest left split =
    inr (inl (record { predicate = q; rest = there ++ rest; is = split; number = g.number; at = subst (λ rows. IsAt rows (existential_row q) g.number) (sym same) at.0 }))
compare limit old between are (q ∷ there) (g ∷ gs) at (p ∷ done) (h ∷ hs) s rest left split =
    let head : p ≡ q = cc in
    let tail : done ++ left ≡ there ++ rest = cc in
    let at_p : IsAt old (existential_row p) g.number = subst (λ x. IsAt old (existential_row x) g.number) (sym head) at.0 in
    let same : s.0 ≡ old = ⊎_elim (λ same. same) (λ added. absurd (not_new old (existential_row p) g.number at_p added.1)) s.1.stores.grown in
    let at_h : IsAt old (existential_row p) h.number = subst (λ rows. IsAt rows (existential_row p) h.number) same s.1.stores.stored in
    let number : h.number ≡ g.number = place_one old (existential_row p) are h.number g.number at_h at_p in
    let same_handle : h ≡ g = λ i. handle (number i) in
    ⊎_elim
    (λ (both : IsSame old between hs gs left rest). inl (record { rows = both.rows; handles = ap (λ x. x ∷ hs) same_handle ∙ ap (λ xs. g ∷ xs) both.handles; same_left = both.same_left }))
    (λ apart. inr apart)
    (compare limit old between are there gs at.1 done hs (subst (λ rows. StoresEach limit rows between done hs) same s.2) rest left tail)
compare limit old between are [] (g ∷ gs) at done hs s rest left split = absurd at
compare limit old between are (q ∷ there) [] at done hs s rest left split = absurd at
compare limit old between are there gs at [] (h ∷ hs) s rest left split = absurd s
compare limit old between are there gs at (p ∷ done) [] s rest left split = absurd s

-- What the whole call owes, by how the calls ended.
module _ (old mid : Terms) (ps : List Predicate) (are : AreRows old.rows) where
  module _ (result : Result BoundExistentialPredicates Refusal) (puts : PutsEach result old mid ps) where
    extends : Extends old puts.between
    extends = record { rows = grows old.limit old.rows puts.between.rows puts.done puts.handles puts.stores; limit = puts.limit }

    -- where the rows are those from the start, so is all else
    same_terms : (a b : Terms) → a.rows ≡ b.rows → a.limit ≡ b.limit → a.counters ≡ b.counters → a ≡ b
    same_terms a b rows limit counters = λ i. record { rows = rows i; limit = limit i; counters = counters i }

    -- a further predicate that is there was found
    further : IsFurther puts.between.rows puts.left → ⊥
    further f =
        let found = puts.next.found f.number (subst (λ left. IsAt puts.between.rows (next_row puts.handles left) f.number) (sym f.is) f.at) in
        left_none result found.0.1 puts.whole f.is
      where
        left_none : (r : Result BoundExistentialPredicates Refusal) {l : BoundExistentialPredicates} → r ≡ Ok l → OnOk r (puts.left ≡ []) → puts.left ≡ f.predicate ∷ f.rest → ⊥
        left_none (Ok l) is none some = cc
        left_none (Err e) is none some = cc

    -- all are there, and their list is
    module _ (gs : List Handle) (n : ℕ) (there : AreStored old.rows ps gs) (at : IsAt old.rows (existentials_row gs) n) where
      found_all : ((l : BoundExistentialPredicates) × (result ≡ Ok l) × (l.number ≡ n)) × (mid ≡ old)
      found_all = by (compare old.limit old.rows puts.between.rows are ps gs there puts.done puts.handles puts.stores [] puts.left (sym puts.split ∙ sym (append-nil ps)))
        where
          by : IsSame old.rows puts.between.rows puts.handles gs puts.left [] ⊎ (IsFurther puts.between.rows puts.left ⊎ IsBehind old.limit old.rows []) → ((l : BoundExistentialPredicates) × (result ≡ Ok l) × (l.number ≡ n)) × (mid ≡ old)
          by (inl same) =
              let row : next_row puts.handles puts.left ≡ existentials_row gs = ap (next_row puts.handles) same.same_left ∙ ap existentials_row same.handles in
              let at' = subst (λ r. IsAt puts.between.rows r n) (sym row) (subst (λ rows. IsAt rows (existentials_row gs) n) (sym same.rows) at) in
              let found = puts.next.found n at' in
              (found.0, found.1 ∙ same_terms puts.between old same.rows puts.limit puts.counters)
          by (inr (inl f)) = absurd (further f)
          by (inr (inr b)) = absurd (never b.is)
            where
              never : [] ≡ b.predicate ∷ b.rest → ⊥
              never e = cc

    next_shallow : (hs : List Handle) (left : List Predicate) → IsTooDeep (row_shape (next_row hs left)) → ⊥
    next_shallow hs [] deep = deep
    next_shallow hs (p ∷ left) deep = deep

    -- the first row that isn't there has no room
    full_all : (done : List Predicate) (gs : List Handle) → AreStored old.rows done gs → NextLacksRoom old.limit old.rows ps done gs → result ≡ Err TableFull
    full_all done gs there lacks = by (compare old.limit old.rows puts.between.rows are done gs there puts.done puts.handles puts.stores lacks.left puts.left (sym puts.split ∙ lacks.split))
      where
        by : IsSame old.rows puts.between.rows puts.handles gs puts.left lacks.left ⊎ (IsFurther puts.between.rows puts.left ⊎ IsBehind old.limit old.rows lacks.left) → result ≡ Err TableFull
        by (inl same) =
            let row : next_row puts.handles puts.left ≡ next_row gs lacks.left = ap (next_row puts.handles) same.same_left ∙ ap (λ hs. next_row hs lacks.left) same.handles in
            let new : IsNew (next_row puts.handles puts.left) puts.between.rows =
            subst (λ r. IsNew r puts.between.rows) (sym row) (subst (IsNew (next_row gs lacks.left)) (sym same.rows) lacks.new) in
            let past : puts.between.limit ≤ size puts.between.rows (row_table (next_row puts.handles puts.left)) =
            subst (λ n. n ≤ size puts.between.rows (row_table (next_row puts.handles puts.left))) (sym puts.limit)
            (subst (λ r. old.limit ≤ size puts.between.rows (row_table r)) (sym row)
            (subst (λ rows. old.limit ≤ size rows (row_table (next_row gs lacks.left))) (sym same.rows) lacks.full)) in
            puts.next.full new (next_shallow puts.handles puts.left) past
        by (inr (inl f)) = absurd (further f)
        by (inr (inr b)) =
            let row : next_row gs lacks.left ≡ existential_row b.predicate = ap (next_row gs) b.is in
            let room = b.stores.room (subst (λ r. IsNew r old.rows) row lacks.new) in
            let past : old.limit ≤ size old.rows Existentials = subst (λ r. old.limit ≤ size old.rows (row_table r)) row lacks.full in
            absurd (omega arith)

  ok_err : {l : BoundExistentialPredicates} {e : Refusal} (r : Result BoundExistentialPredicates Refusal) → r ≡ Ok l → r ≡ Err e → ⊥
  ok_err r ok err = cc

  -- the list was stored
  pub BuildsAll-ok : (l : BoundExistentialPredicates) → PutsEach (Ok l) old mid ps → BuildsAll (Ok l) old mid ps
  BuildsAll-ok l puts =
      let list : Builds (Ok l) (λ (h : BoundExistentialPredicates). h.number) puts.between mid (existentials_row puts.handles) =
      subst (λ left. Builds (Ok l) (λ (h : BoundExistentialPredicates). h.number) puts.between mid (next_row puts.handles left)) puts.whole puts.next in
      let all : puts.done ≡ ps = sym (puts.split ∙ ap (λ left. puts.done ++ left) puts.whole ∙ append-nil puts.done) in
      record {
        in_range = list.in_range;
        means = puts.means;
        extends = record { rows = Grows-trans (extends (Ok l) puts).rows list.grows; limit = list.limit ∙ puts.limit };
        counters = list.counters ∙ puts.counters;
        stored = record {
          handles = puts.handles;
          between = puts.between.rows;
          each = subst (λ done. StoresEach old.limit old.rows puts.between.rows done puts.handles) all puts.stores;
          list = subst (λ n. StoresWithin n puts.between.rows mid.rows (existentials_row puts.handles) l.number) puts.limit
              (within_from l (λ (h : BoundExistentialPredicates). h.number) puts.between mid (existentials_row puts.handles) (λ deep. deep) list);
        };
        err = tt;
        cause = tt;
        found = λ gs n there at. inl (found_all (Ok l) puts gs n there at);
        full = λ done gs there lacks. absurd (ok_err (Ok l) refl (full_all (Ok l) puts done gs there lacks));
      }

  -- a row was refused, and those before it are taken back
  module _ (e : Refusal) (puts : PutsEach (Err e) old mid ps) where
    cause_of : (f : Refusal) → IsCause puts.between (next_row puts.handles puts.left) f → IsCauseOfEach old ps f
    cause_of Memory c = tt
    cause_of TableFull c = record {
      done = puts.done;
      handles = puts.handles;
      rows = puts.between.rows;
      stores = puts.stores;
      next = record {
        left = puts.left;
        split = puts.split;
        new = c.0;
        full = subst (λ n. n ≤ size puts.between.rows (row_table (next_row puts.handles puts.left))) puts.limit c.1;
      };
    }
    cause_of GreatestIndex c = absurd (next_shallow (Err e) puts puts.handles puts.left c)
    cause_of _ c = c

    -- where a row was refused, all rows added before are of existential predicates
    pub added : AddsPredicates old.rows mid.rows
    added = subst (λ (t : Terms). AddsPredicates old.rows t.rows) (sym puts.next.err) (adds old.limit old.rows puts.between.rows puts.done puts.handles puts.stores)

    -- a call that is refused a row keeps its promise if it takes the rows back that it added
    pub BuildsAll-err : (new : Terms) → new.rows ≡ old.rows → new.limit ≡ mid.limit → new.counters ≡ mid.counters → BuildsAll (Err e) old new ps
    BuildsAll-err new rows limit counters =
        let back : new ≡ old = same_terms (Err e) puts new old rows (limit ∙ puts.next.limit ∙ puts.limit) (counters ∙ puts.next.counters ∙ puts.counters) in
        subst (λ t. BuildsAll (Err e) old t ps) (sym back) (record {
          in_range = tt;
          means = tt;
          extends = Extends-refl old;
          counters = refl;
          stored = tt;
          err = refl;
          cause = cause_of e puts.next.cause;
          found = λ gs n there at. absurd (ok_err (Err e) (found_all (Err e) puts gs n there at).0.1 refl);
          full = λ done gs there lacks. inl (full_all (Err e) puts done gs there lacks);
        })

-- the memory for many handles was refused
pub BuildsAll-memory : (old : Terms) (ps : List Predicate) → most_in_place < length ps → BuildsAll (Err Memory) old old ps
BuildsAll-memory old ps many = record {
  in_range = tt;
  means = tt;
  extends = Extends-refl old;
  counters = refl;
  stored = tt;
  err = refl;
  cause = tt;
  found = λ gs n there at. inr (many, refl);
  full = λ done gs there lacks. inr (many, refl);
}
