-- What a walk reads of stored terms and lists: handles that came before, and children in order.
use Rattle.std.proofs.Common.{◌≡◌, ℕ, ◌<◌, ⊎_elim, inl, inr, List, [], ◌∷◌, length, slice_get, zero, suc, get_or, Some}
use Rattle.std.proofs.Common.{Ok, Err, refl, sym, ap, subst, ◌∙◌, arith}
use Rattle.std.specs.Prelude.{map, All, Result, IfOk, IsTrue, IsFalse, Bool, true, false, cond}
use Rattle.std.proofs.lemmas.List.{length-map}
use Rattle.std.proofs.lemmas.List.Elements.{All-nil, All-cons}
use Rattle.std.proofs.lemmas.Option.{slice_get_within, same_Some, none-some, slice_get-get_or}
use Rattle.tt_index.specs.declared.refusal.Refusal.{Refusal}
use Rattle.tt_index.specs.declared.refusal.Refusal.TheVariants.{Memory, TableFull, GreatestIndex, NoArguments}
use Rattle.tt_index.specs.declared.refusal.Refusal.TheVariants.{ArgOutOfRange, ArgKind, RegionVariable, NotAClause}
use Rattle.tt_index.specs.declared.refusal.Refusal.TheVariants.{NoSuchAnswer}
use Rattle.tt_kinds.specs.Handle.{Ty}
use Rattle.tt_kinds.specs.Handle.{Const}
use Rattle.tt_kinds.specs.Handle.{Pat}
use Rattle.tt_kinds.specs.Handle.{Clause}
use Rattle.tt_kinds.specs.Handle.{PolyExistentialPredicate}
use Rattle.tt_kinds.specs.declared.generic_arg.GenericArgKind.{GenericArgKind}
use Rattle.tt_kinds.specs.declared.generic_arg.GenericArgKind.TheVariants as arg
use Rattle.tt_kinds.specs.declared.handle.AnyHandle.{AnyHandle}
use Rattle.tt_kinds.specs.declared.table.TermTable.TheVariants as terms_of
use Rattle.tt_kinds.specs.declared.parts.Child.{Child}
use Rattle.tt_kinds.specs.declared.parts.Parts.{Parts}
use Rattle.tt_kinds.specs.declared.parts.Kind.{Kind}
use Rattle.tt_kinds.specs.declared.parts.Kind.TheVariants as kind
use Rattle.tt_kinds.specs.declared.table.Table.{Table}
use Rattle.tt_kinds.specs.declared.table.TermTable.{TermTable}
use Rattle.tt_kinds.specs.TermTable.{has_items, is_clause_table, term_table}
use Rattle.tt_kinds.specs.declared.table.Table.TheVariants.{Types, ClauseLists}
use Rattle.tt_kinds.specs.Label.{Sort, type_sort, const_sort, Label, clause_list_label, list_label}
use Rattle.tt_kinds.specs.Shape.{Shape, Shapes, param, bound, region, term, node, binder, stored, part_of, none, also}
use Rattle.tt_kinds.specs.Shape.{item_shapes, Meaning, Sizes, fill, fill_all, IsPart, AreParts, HasParts, IsTooDeep}
use Rattle.tt_kinds.specs.Parts.{child_in, child_sort, IsItem}
use Rattle.tt_kinds.specs.Kinds
use Rattle.tt_kinds.specs.Kinds.{Form, relabelled, refilled, form_binder, form_parts, form_shape, kind_form, kind_sort}
use Rattle.tt_kinds.specs.Kinds.{ty_shape, const_shape, arg_shape, pat_shape, existential_shape, clause_shape}
use Rattle.tt_kinds.specs.Kinds.{child_shapes, parts_shapes, children_shapes, items_shape, items_tree, kind_shape}
use Rattle.tt_kinds.specs.Kinds.{kind_table}
use Rattle.tt_kinds.specs.Tree as tree
use Rattle.tt_interner.specs.Rows.{Row, type_row, const_row, pat_row, predicate_row, existential_row, clauses_row}
use Rattle.tt_interner.specs.Rows.{tys_row, consts_row, args_row, pats_row, existentials_row, text_row, kind_row}
use Rattle.tt_interner.specs.Rows.{row_table, row_shape, table, size, meaning, age, AreRows, IsOlder, AreOlder}
use Rattle.tt_interner.specs.Rows.{AreClauses}
use Rattle.tt_interner.specs.Stored.{Terms, IsAt, IsCause, IsUnbuilt, IsNoClauseList, children_tree, most_in_place}
use Rattle.tt_interner.specs.Stored.{StoresList, Builds}
use Rattle.tt_interner.specs.Nodes.{row_kind, stored_kind, BuildsLike}
use Rattle.tt_interner.specs.Children.{arg_child, children_of, children_at, child_arg, child_handle, items_row}
use Rattle.tt_interner.proofs.RowLaws.{IsNewest, place_cases, row-old, row-new, age-old, age-new}
use Rattle.tt_interner.proofs.Growth.{Extends-refl}
use Rattle.tt_interner.proofs.Trees.{Means-row, row_within}
use Rattle.tt_interner.proofs.ClauseLaws.{other_there, clauses_stored}

-- a handle came before all rows that are there
pub age_within : (rows : List Row) (t : Table) (n : ℕ) → n < size rows t → age rows t n < length rows
unfolding table
age_within [] t n h = absurd (omega (arith, h))
age_within (r ∷ rows) t n h = ⊎_elim
    (λ old. let before = age_within rows t n old in let same = age-old r rows t n old in omega arith)
    (λ newest. let here = age_newest newest in omega arith)
    (place_cases r rows t n h)
  where
    age_newest : IsNewest r rows t n → age (r ∷ rows) t n ≡ length rows
    age_newest newest = subst (λ u. age (r ∷ rows) u n ≡ length rows) newest.same_table
        (subst (λ m. age (r ∷ rows) (row_table r) m ≡ length rows) (sym (newest.last ∙ ap (size rows) (sym newest.same_table))) (age-new r rows))

-- where handles in range came before so many rows, parts did
module _ (rows : List Row) (size : Sizes) (a : ℕ) (before : (t : Table) (n : ℕ) → n < size t → age rows t n < a) where
  mutual
    IsOlder-all : (s : Shape) → IsPart size s → IsOlder rows a s
    IsOlder-all (param s i name) p = tt
    IsOlder-all (bound s d e) p = tt
    IsOlder-all (region r) p = tt
    IsOlder-all (term l ss) p = absurd p
    IsOlder-all (node l ss) p = AreOlder-all ss p.2
    IsOlder-all (binder n s) p = IsOlder-all s p.1
    IsOlder-all (stored t n) p = before t n p
    IsOlder-all (part_of t n e) p = before t n p

    AreOlder-all : (ss : Shapes) → AreParts size ss → AreOlder rows a ss
    AreOlder-all none p = tt
    AreOlder-all (also s ss) p = (IsOlder-all s p.0, AreOlder-all ss p.1)

  row_older-all : (s : Shape) → HasParts size s → IsOlder rows a s
  row_older-all (param s i name) p = tt
  row_older-all (bound s d e) p = tt
  row_older-all (region r) p = absurd p
  row_older-all (term l ss) p = AreOlder-all ss p.1
  row_older-all (node l ss) p = AreOlder-all ss p.1
  row_older-all (binder n s) p = absurd p
  row_older-all (stored t n) p = absurd p
  row_older-all (part_of t n e) p = absurd p

-- where handles in range keep their ages, parts that came before still did
module _ (rows rows' : List Row) (size : Sizes) (same : (t : Table) (n : ℕ) → n < size t → age rows' t n ≡ age rows t n) (a : ℕ) where
  mutual
    pub IsOlder-keeps : (s : Shape) → IsPart size s → IsOlder rows a s → IsOlder rows' a s
    IsOlder-keeps (param s i name) p h = tt
    IsOlder-keeps (bound s d e) p h = tt
    IsOlder-keeps (region r) p h = tt
    IsOlder-keeps (term l ss) p h = absurd p
    IsOlder-keeps (node l ss) p h = AreOlder-keeps ss p.2 h
    IsOlder-keeps (binder n s) p h = IsOlder-keeps s p.1 h
    IsOlder-keeps (stored t n) p h = let one = same t n p in omega arith
    IsOlder-keeps (part_of t n e) p h = let one = same t n p in omega arith

    pub AreOlder-keeps : (ss : Shapes) → AreParts size ss → AreOlder rows a ss → AreOlder rows' a ss
    AreOlder-keeps none p h = tt
    AreOlder-keeps (also s ss) p h = (IsOlder-keeps s p.0 h.0, AreOlder-keeps ss p.1 h.1)

  row_older-keeps : (s : Shape) → HasParts size s → IsOlder rows a s → IsOlder rows' a s
  row_older-keeps (param s i name) p h = tt
  row_older-keeps (bound s d e) p h = tt
  row_older-keeps (region r) p h = absurd p
  row_older-keeps (term l ss) p h = AreOlder-keeps ss p.1 h
  row_older-keeps (node l ss) p h = AreOlder-keeps ss p.1 h
  row_older-keeps (binder n s) p h = absurd p
  row_older-keeps (stored t n) p h = absurd p
  row_older-keeps (part_of t n e) p h = absurd p

-- the contents of a row came before it
pub older_row : (rows : List Row) → AreRows rows → (t : Table) (n : ℕ) (q : Row) → slice_get (table t rows) n ≡ Some q → IsOlder rows (age rows t n) (row_shape q)
unfolding table AreRows
older_row [] are t n q e = absurd (none-some q e)
older_row (r ∷ rows) are t n q e = ⊎_elim
    (λ old.
    let at = sym (row-old r rows t n old) ∙ e in
    let means = Means-row rows are.4 t n q at in
    subst (λ a. IsOlder (r ∷ rows) a (row_shape q)) (sym (age-old r rows t n old))
    (row_older-keeps rows (r ∷ rows) (size rows) (age-old r rows) (age rows t n) (row_shape q) means.parts (older_row rows are.4 t n q at)))
    (λ newest.
    let here = same_Some r q (sym (row_newest newest) ∙ e) in
    subst (λ a. IsOlder (r ∷ rows) a (row_shape q)) (sym (age_newest newest))
    (subst (λ x. IsOlder (r ∷ rows) (length rows) (row_shape x)) here
    (row_older-all (r ∷ rows) (size rows) (length rows) (λ u m h. let same = age-old r rows u m h in let before = age_within rows u m h in omega arith) (row_shape r) are.0)))
    (place_cases r rows t n (slice_get_within (table t (r ∷ rows)) n q e))
  where
    age_newest : IsNewest r rows t n → age (r ∷ rows) t n ≡ length rows
    age_newest newest = subst (λ u. age (r ∷ rows) u n ≡ length rows) newest.same_table
        (subst (λ m. age (r ∷ rows) (row_table r) m ≡ length rows) (sym (newest.last ∙ ap (size rows) (sym newest.same_table))) (age-new r rows))

    row_newest : IsNewest r rows t n → slice_get (table t (r ∷ rows)) n ≡ Some r
    row_newest newest = subst (λ u. slice_get (table u (r ∷ rows)) n ≡ Some r) newest.same_table
        (subst (λ m. slice_get (table (row_table r) (r ∷ rows)) m ≡ Some r) (sym (newest.last ∙ ap (size rows) (sym newest.same_table))) (row-new r rows))

-- Lists.

get_or-some : {X : Type 0} (xs : List X) (n : ℕ) (d x : X) → slice_get xs n ≡ Some x → get_or xs n d ≡ x
get_or-some xs n d x e = same_Some (get_or xs n d) x (sym (slice_get-get_or xs n d (slice_get_within xs n x e)) ∙ e)

-- the row of the list of these children
pub record IsRowOf (s : TermTable) (r : Row) (cs : List Child) : Type 0 where
  pub in_table : row_table r ≡ term_table s
  pub shape : row_shape r ≡ items_shape s (children_shapes cs)
  pub children : children_of r ≡ cs
  pub row : items_row s cs ≡ r
  pub fit : All (λ c. IsItem s (child_sort c)) cs

-- items that are one child each
module _ {T : Type 0} (child : T → Child) where
  shapes_of : (shape : T → Shape) → ((x : T) → child_shapes (child x) ≡ also (shape x) none) → (xs : List T) → children_shapes (map child xs) ≡ item_shapes shape xs
  shapes_of shape one [] = refl
  shapes_of shape one (x ∷ xs) = rw (one x, shapes_of shape one xs) refl

  items_back : (item : Child → T) → ((x : T) → item (child x) ≡ x) → (xs : List T) → map item (map child xs) ≡ xs
  items_back item back [] = refl
  items_back item back (x ∷ xs) = rw (back x, items_back item back xs) refl

  items_fit : (s : TermTable) → ((x : T) → IsItem s (child_sort (child x))) → (xs : List T) → All (λ c. IsItem s (child_sort c)) (map child xs)
  items_fit s fit [] = All-nil (λ c. IsItem s (child_sort c))
  items_fit s fit (x ∷ xs) = All-cons (λ c. IsItem s (child_sort c)) (child x) (map child xs) (fit x) (items_fit s fit xs)

arg_part : (a : GenericArgKind) → child_shapes (arg_child a) ≡ also (arg_shape a) none
arg_part (arg.Lifetime r) = refl
arg_part (arg.«Type» t) = refl
arg_part (arg.Const c) = refl

arg_back : (a : GenericArgKind) → child_arg (arg_child a) ≡ a
arg_back (arg.Lifetime r) = refl
arg_back (arg.«Type» t) = refl
arg_back (arg.Const c) = refl

arg_fits : (a : GenericArgKind) → IsItem terms_of.ArgLists (child_sort (arg_child a))
arg_fits (arg.Lifetime r) = refl
arg_fits (arg.«Type» t) = inl refl
arg_fits (arg.Const c) = inr refl

-- types as children have the shapes that they have as items
pub tys_shapes : (xs : List Ty) → children_shapes (map (child_in terms_of.Types) xs) ≡ item_shapes ty_shape xs
tys_shapes = shapes_of (child_in terms_of.Types) ty_shape (λ x. refl)

-- constants as children have the shapes that they have as items
pub consts_shapes : (xs : List Const) → children_shapes (map (child_in terms_of.Consts) xs) ≡ item_shapes const_shape xs
consts_shapes = shapes_of (child_in terms_of.Consts) const_shape (λ x. refl)

-- generic arguments as children have the shapes that they have as items
pub args_shapes : (xs : List GenericArgKind) → children_shapes (map arg_child xs) ≡ item_shapes arg_shape xs
args_shapes = shapes_of arg_child arg_shape arg_part

-- patterns as children have the shapes that they have as items
pub pats_shapes : (xs : List Pat) → children_shapes (map (child_in terms_of.Patterns) xs) ≡ item_shapes pat_shape xs
pats_shapes = shapes_of (child_in terms_of.Patterns) pat_shape (λ x. refl)

-- existential predicates as children have the shapes that they have as items
pub existentials_shapes : (xs : List PolyExistentialPredicate) → children_shapes (map (child_in terms_of.Existentials) xs) ≡ item_shapes existential_shape xs
existentials_shapes = shapes_of (child_in terms_of.Existentials) existential_shape (λ x. refl)

pub clauses_shapes : (xs : List Clause) → children_shapes (map (child_in terms_of.Predicates) xs) ≡ item_shapes clause_shape xs
clauses_shapes = shapes_of (child_in terms_of.Predicates) clause_shape (λ x. refl)

-- the row of a list of types is the row of the list of these types as children
pub is_row_of_tys : (xs : List Ty) → IsRowOf terms_of.TypeLists (tys_row xs) (map (child_in terms_of.Types) xs)
is_row_of_tys xs = record { in_table = refl; shape = ap (items_shape terms_of.TypeLists) (sym (tys_shapes xs)); children = refl; row = ap tys_row (items_back (child_in terms_of.Types) child_handle (λ x. refl) xs); fit = items_fit (child_in terms_of.Types) terms_of.TypeLists (λ x. refl) xs }

-- the row of a list of constants is the row of the list of these constants as children
pub is_row_of_consts : (xs : List Const) → IsRowOf terms_of.ConstLists (consts_row xs) (map (child_in terms_of.Consts) xs)
is_row_of_consts xs = record { in_table = refl; shape = ap (items_shape terms_of.ConstLists) (sym (consts_shapes xs)); children = refl; row = ap consts_row (items_back (child_in terms_of.Consts) child_handle (λ x. refl) xs); fit = items_fit (child_in terms_of.Consts) terms_of.ConstLists (λ x. refl) xs }

-- the row of a list of generic arguments is the row of the list of these arguments as children
pub is_row_of_args : (xs : List GenericArgKind) → IsRowOf terms_of.ArgLists (args_row xs) (map arg_child xs)
is_row_of_args xs = record { in_table = refl; shape = ap (items_shape terms_of.ArgLists) (sym (args_shapes xs)); children = refl; row = ap args_row (items_back arg_child child_arg arg_back xs); fit = items_fit arg_child terms_of.ArgLists arg_fits xs }

-- the row of a list of patterns is the row of the list of these patterns as children
pub is_row_of_pats : (xs : List Pat) → IsRowOf terms_of.PatternLists (pats_row xs) (map (child_in terms_of.Patterns) xs)
is_row_of_pats xs = record { in_table = refl; shape = ap (items_shape terms_of.PatternLists) (sym (pats_shapes xs)); children = refl; row = ap pats_row (items_back (child_in terms_of.Patterns) child_handle (λ x. refl) xs); fit = items_fit (child_in terms_of.Patterns) terms_of.PatternLists (λ x. refl) xs }

-- the row of a list of existential predicates is the row of the list of these predicates as children
pub is_row_of_existentials : (xs : List PolyExistentialPredicate) → IsRowOf terms_of.ExistentialLists (existentials_row xs) (map (child_in terms_of.Existentials) xs)
is_row_of_existentials xs = record { in_table = refl; shape = ap (items_shape terms_of.ExistentialLists) (sym (existentials_shapes xs)); children = refl; row = ap existentials_row (items_back (child_in terms_of.Existentials) child_handle (λ x. refl) xs); fit = items_fit (child_in terms_of.Existentials) terms_of.ExistentialLists (λ x. refl) xs }

-- the row of a list of clauses is the row of the list of these clauses as children
pub is_row_of_clauses : (xs : List Clause) → IsRowOf terms_of.ClauseLists (clauses_row xs) (map (child_in terms_of.Predicates) xs)
is_row_of_clauses xs = record { in_table = refl; shape = ap (items_shape terms_of.ClauseLists) (sym (clauses_shapes xs)); children = refl; row = ap clauses_row (items_back (child_in terms_of.Predicates) child_handle (λ x. refl) xs); fit = items_fit (child_in terms_of.Predicates) terms_of.ClauseLists (λ x. refl) xs }

-- a row of a list's table is the row of its children
row_of_list : (s : TermTable) → IsTrue (has_items s) → (r : Row) → row_table r ≡ term_table s → IsRowOf s r (children_of r)
row_of_list terms_of.TypeLists h (tys_row xs) e = is_row_of_tys xs
row_of_list terms_of.ConstLists h (consts_row xs) e = is_row_of_consts xs
row_of_list terms_of.ArgLists h (args_row xs) e = is_row_of_args xs
row_of_list terms_of.PatternLists h (pats_row xs) e = is_row_of_pats xs
row_of_list terms_of.ExistentialLists h (existentials_row xs) e = is_row_of_existentials xs
row_of_list terms_of.ClauseLists h (clauses_row xs) e = is_row_of_clauses xs
row_of_list terms_of.TypeLists h _ e = cc
row_of_list terms_of.ConstLists h _ e = cc
row_of_list terms_of.ArgLists h _ e = cc
row_of_list terms_of.PatternLists h _ e = cc
row_of_list terms_of.ExistentialLists h _ e = cc
row_of_list terms_of.ClauseLists h _ e = cc
row_of_list _ h r e = cc

-- what is said of the shape of a list's row
fill_items : (f : Meaning) (s : TermTable) (ss : Shapes) → fill f (items_shape s ss) ≡ items_tree s (fill_all f ss)
unfolding fill
fill_items f s ss = by (is_clause_table s)
  where
    by : (b : Bool) → fill f (cond b (term clause_list_label ss) (node (list_label (term_table s)) ss)) ≡ cond b (tree.term clause_list_label (fill_all f ss)) (tree.node (list_label (term_table s)) (fill_all f ss))
    by true = refl
    by false = refl

items_parts : (size : Sizes) (s : TermTable) (ss : Shapes) → HasParts size (items_shape s ss) → AreParts size ss
items_parts size s ss = by (is_clause_table s)
  where
    by : (b : Bool) → HasParts size (cond b (term clause_list_label ss) (node (list_label (term_table s)) ss)) → AreParts size ss
    by true = λ h. h.1
    by false = λ h. h.1

items_older : (rows : List Row) (a : ℕ) (s : TermTable) (ss : Shapes) → IsOlder rows a (items_shape s ss) → AreOlder rows a ss
items_older rows a s ss = by (is_clause_table s)
  where
    by : (b : Bool) → IsOlder rows a (cond b (term clause_list_label ss) (node (list_label (term_table s)) ss)) → AreOlder rows a ss
    by true = λ h. h
    by false = λ h. h

items_shallow : (s : TermTable) (ss : Shapes) → IsTooDeep (items_shape s ss) → ⊥
items_shallow s ss = by (is_clause_table s)
  where
    by : (b : Bool) → IsTooDeep (cond b (term clause_list_label ss) (node (list_label (term_table s)) ss)) → ⊥
    by true = λ h. h
    by false = λ h. h

slice_get-map : {T X : Type 0} (f : T → X) (xs : List T) (i : ℕ) (x : T) → slice_get xs i ≡ Some x → slice_get (map f xs) i ≡ Some (f x)
slice_get-map f [] i x e = absurd (none-some x e)
slice_get-map f (y ∷ xs) zero x e = ap (λ z. Some (f z)) (same_Some y x e)
slice_get-map f (y ∷ xs) (suc i) x e = slice_get-map f xs i x e

-- what is said of a stored list with these children
pub record IsListed (rows : List Row) (l : AnyHandle) (cs : List Child) : Type 0 where
  pub means : meaning rows (term_table l.table) l.number ≡ items_tree l.table (fill_all (meaning rows) (children_shapes cs))
  pub parts : AreParts (size rows) (children_shapes cs)
  pub fit : All (λ c. IsItem l.table (child_sort c)) cs
  pub older : AreOlder rows (age rows (term_table l.table) l.number) (children_shapes cs)

-- the children of a stored list are its row's
row_children : (rows : List Row) (l : AnyHandle) (r : Row) → slice_get (table (term_table l.table) rows) l.number ≡ Some r → children_at rows l ≡ children_of r
unfolding children_at
row_children rows l r at = ap children_of (get_or-some (table (term_table l.table) rows) l.number (text_row []) r at)

module _ (rows : List Row) (l : AnyHandle) (r : Row) {T : Type 0} (child : T → Child) (items : List T) (is : IsRowOf l.table r (map child items)) (at : IsAt rows r l.number) where
  children_here : children_at rows l ≡ map child items
  children_here = row_children rows l r (subst (λ t. slice_get (table t rows) l.number ≡ Some r) is.in_table at) ∙ is.children

  -- a stored list has as many children as its row has items
  pub len_here : length (children_at rows l) ≡ length items
  len_here = ap length children_here ∙ length-map items child

  -- the child of a stored list at a place comes from the item of its row there
  pub child_here : (i : ℕ) (x : T) → slice_get items i ≡ Some x → slice_get (children_at rows l) i ≡ Some (child x)
  child_here i x e = ap (λ cs. slice_get cs i) children_here ∙ slice_get-map child items i x e

-- a stored list's tree is made of its children's trees; they are in range, of the list's sort and older than it
pub is_listed : (rows : List Row) → AreRows rows → (l : AnyHandle) → IsTrue (has_items l.table) → l.number < size rows (term_table l.table) → IsListed rows l (children_at rows l)
is_listed rows are l items h =
    let at = row_within rows (term_table l.table) l.number h in
    let means = Means-row rows are (term_table l.table) l.number at.0 at.1 in
    let older = older_row rows are (term_table l.table) l.number at.0 at.1 in
    let is = row_of_list l.table items at.0 means.same_table in
    let ss = children_shapes (children_of at.0) in
    subst (IsListed rows l) (sym (row_children rows l at.0 at.1)) (record {
      means = means.tree ∙ ap (fill (meaning rows)) is.shape ∙ fill_items (meaning rows) l.table ss;
      parts = items_parts (size rows) l.table ss (subst (HasParts (size rows)) is.shape means.parts);
      fit = is.fit;
      older = items_older rows (age rows (term_table l.table) l.number) l.table ss (subst (IsOlder rows (age rows (term_table l.table) l.number)) is.shape older);
    })

-- what is said of a stored term of this kind
pub record IsNode (rows : List Row) (n : AnyHandle) (k : Kind) : Type 0 where
  pub parts : HasParts (size rows) (kind_shape k)
  pub means : meaning rows (term_table n.table) n.number ≡ fill (meaning rows) (kind_shape k)
  pub older : IsOlder rows (age rows (term_table n.table) n.number) (kind_shape k)

kind_in_table : (k : Kind) → row_table (kind_row k) ≡ term_table (kind_table k)
kind_in_table (kind.Ty k) = refl
kind_in_table (kind.Const k) = refl
kind_in_table (kind.Pat k) = refl
kind_in_table (kind.Predicate k) = refl
kind_in_table (kind.Existential k) = refl

kind_row_shape : (k : Kind) → row_shape (kind_row k) ≡ kind_shape k
kind_row_shape (kind.Ty k) = refl
kind_row_shape (kind.Const k) = refl
kind_row_shape (kind.Pat k) = refl
kind_row_shape (kind.Predicate k) = refl
kind_row_shape (kind.Existential k) = refl

-- a stored term whose row holds a kind has the kind's tree; what the kind holds is in range and older than the term
pub is_node : (rows : List Row) → AreRows rows → (n : AnyHandle) (k : Kind) → kind_table k ≡ n.table → IsAt rows (kind_row k) n.number → IsNode rows n k
is_node rows are n k same at =
    let here = subst (λ t. slice_get (table t rows) n.number ≡ Some (kind_row k)) (kind_in_table k ∙ ap term_table same) at in
    let means = Means-row rows are (term_table n.table) n.number (kind_row k) here in
    record {
      parts = subst (HasParts (size rows)) (kind_row_shape k) means.parts;
      means = means.tree ∙ ap (fill (meaning rows)) (kind_row_shape k);
      older = subst (IsOlder rows (age rows (term_table n.table) n.number)) (kind_row_shape k) (older_row rows are (term_table n.table) n.number (kind_row k) here);
    }

-- the row of a term is a kind's
row_of_kind : (n : AnyHandle) → IsFalse (has_items n.table) → (r : Row) → row_table r ≡ term_table n.table → (kind_row (row_kind r) ≡ r) × (kind_table (row_kind r) ≡ n.table)
row_of_kind n h r e = by n.table h r e
  where
    by : (t : TermTable) → IsFalse (has_items t) → (r : Row) → row_table r ≡ term_table t → (kind_row (row_kind r) ≡ r) × (kind_table (row_kind r) ≡ t)
    by terms_of.Types h (type_row k) e = (refl, refl)
    by terms_of.Consts h (const_row k) e = (refl, refl)
    by terms_of.Patterns h (pat_row k) e = (refl, refl)
    by terms_of.Predicates h (predicate_row b) e = (refl, refl)
    by terms_of.Existentials h (existential_row b) e = (refl, refl)
    by terms_of.Types h _ e = cc
    by terms_of.Consts h _ e = cc
    by terms_of.Patterns h _ e = cc
    by terms_of.Predicates h _ e = cc
    by terms_of.Existentials h _ e = cc
    by _ h r e = cc

row_kind-back : (k : Kind) → row_kind (kind_row k) ≡ k
row_kind-back (kind.Ty k) = refl
row_kind-back (kind.Const k) = refl
row_kind-back (kind.Pat k) = refl
row_kind-back (kind.Predicate b) = refl
row_kind-back (kind.Existential b) = refl

-- the kind of a stored term is its row's
kind_of_row : (rows : List Row) (n : AnyHandle) (r : Row) → slice_get (table (term_table n.table) rows) n.number ≡ Some r → stored_kind rows n ≡ row_kind r
unfolding stored_kind
kind_of_row rows n r at = ap row_kind (get_or-some (table (term_table n.table) rows) n.number (text_row []) r at)

-- the kind of a stored term is the kind that its row holds
pub kind_there : (rows : List Row) (n : AnyHandle) (k : Kind) → kind_table k ≡ n.table → IsAt rows (kind_row k) n.number → stored_kind rows n ≡ k
kind_there rows n k same at =
    kind_of_row rows n (kind_row k) (subst (λ t. slice_get (table t rows) n.number ≡ Some (kind_row k)) (kind_in_table k ∙ ap term_table same) at) ∙ row_kind-back k

-- the kind of a stored term other than a list of clauses is of the term's table
pub stored_table : (rows : List Row) → AreRows rows → (n : AnyHandle) → n.number < size rows (term_table n.table) → IsFalse (has_items n.table) → kind_table (stored_kind rows n) ≡ n.table
stored_table rows are n h other =
    let at = row_within rows (term_table n.table) n.number h in
    let means = Means-row rows are (term_table n.table) n.number at.0 at.1 in
    ap kind_table (kind_of_row rows n at.0 at.1) ∙ (row_of_kind n other at.0 means.same_table).1

-- a stored term other than a list of clauses has its kind's tree; what the kind holds is in range and older
pub stored_is_node : (rows : List Row) → AreRows rows → (n : AnyHandle) → n.number < size rows (term_table n.table) → IsFalse (has_items n.table) → IsNode rows n (stored_kind rows n)
stored_is_node rows are n h other =
    let at = row_within rows (term_table n.table) n.number h in
    let means = Means-row rows are (term_table n.table) n.number at.0 at.1 in
    let is = row_of_kind n other at.0 means.same_table in
    let here : IsAt rows (kind_row (row_kind at.0)) n.number = subst (λ r. IsAt rows r n.number) (sym is.0) (subst (λ t. slice_get (table t rows) n.number ≡ Some at.0) (sym means.same_table) at.1) in
    subst (IsNode rows n) (sym (kind_of_row rows n at.0 at.1)) (is_node rows are n (row_kind at.0) is.1 here)

-- a form with labels of all tables
pub binder-relabelled : {L K : Type 0} (label : L → K) (f : Form L) → form_binder (relabelled label f) ≡ form_binder f
binder-relabelled label (Kinds.param i name) = refl
binder-relabelled label (Kinds.bound d e) = refl
binder-relabelled label (Kinds.plain l p) = refl
binder-relabelled label (Kinds.under l vars m p) = refl

-- a form with its label replaced has the same children
pub parts-relabelled : {L K : Type 0} (label : L → K) (f : Form L) → form_parts (relabelled label f) ≡ form_parts f
parts-relabelled label (Kinds.param i name) = refl
parts-relabelled label (Kinds.bound d e) = refl
parts-relabelled label (Kinds.plain l p) = refl
parts-relabelled label (Kinds.under l vars m p) = refl

-- whether first the label of a form is replaced or its children, the result is the same
pub refilled-relabelled : {L K : Type 0} (label : L → K) (q : Parts) (f : Form L) → relabelled label (refilled q f) ≡ refilled q (relabelled label f)
refilled-relabelled label q (Kinds.param i name) = refl
refilled-relabelled label q (Kinds.bound d e) = refl
refilled-relabelled label q (Kinds.plain l p) = refl
refilled-relabelled label q (Kinds.under l vars m p) = refl

-- kinds of a table have one sort
sort_of_table : TermTable → Sort
sort_of_table terms_of.Types = type_sort
sort_of_table _ = const_sort

by_table : (k : Kind) → kind_sort k ≡ sort_of_table (kind_table k)
unfolding sort_of_table
by_table (kind.Ty k) = refl
by_table (kind.Const k) = refl
by_table (kind.Pat k) = refl
by_table (kind.Predicate b) = refl
by_table (kind.Existential b) = refl

-- two kinds of one table have the same sort
pub same-sort : (j k : Kind) → kind_table j ≡ kind_table k → kind_sort j ≡ kind_sort k
same-sort j k h = by_table j ∙ ap sort_of_table h ∙ sym (by_table k)

-- a form with other children in range is in range
pub refilled_parts : (size : Sizes) (s : Sort) (q : Parts) (f : Form (Label ℕ)) → HasParts size (form_shape s f) → AreParts size (parts_shapes q) → HasParts size (form_shape s (refilled q f))
refilled_parts size s q (Kinds.param i name) h p = h
refilled_parts size s q (Kinds.bound d e) h p = h
refilled_parts size s q (Kinds.plain l r) h p = (h.0, p)
refilled_parts size s q (Kinds.under l vars m r) h p = (h.0, ((h.1.0.0, (refl, h.1.0.1.1, p)), tt))

-- the kind j is the stored term's kind with other children
pub like_parts : (rows : List Row) (n : AnyHandle) (k j : Kind) (q : Parts) → IsNode rows n k → kind_table j ≡ kind_table k → kind_form j ≡ refilled q (kind_form k) → AreParts (size rows) (parts_shapes q) → HasParts (size rows) (kind_shape j)
like_parts rows n k j q is table form p =
    rw (same-sort j k table, form) (refilled_parts (size rows) (kind_sort k) q (kind_form k) is.parts p)

-- and is stored
pub builds_like : (result : Result AnyHandle Refusal) (old new : Terms) (n : AnyHandle) (k j : Kind) (q : Parts) → stored_kind old.rows n ≡ k → kind_table j ≡ n.table → kind_form j ≡ refilled q (kind_form k)
    → Builds result (λ u. u.number) old new (kind_row j) → IfOk result (λ u. u.table ≡ kind_table j) → BuildsLike result old new n q
builds_like result old new n k j q is table form builds of_table =
    record { kind = j; table = table; form = rw is form; builds = builds; of_table = rw table at of_table }

-- a list of items in range is in range
list_parts : (size : Sizes) (s : TermTable) (ss : Shapes) → AreParts size ss → HasParts size (items_shape s ss)
list_parts size s ss = by (is_clause_table s)
  where
    by : (b : Bool) → AreParts size ss → HasParts size (cond b (term clause_list_label ss) (node (list_label (term_table s)) ss))
    by true = λ p. (tt, p)
    by false = λ p. (tt, p)

-- a refused list
IsUnbuilt-from : (terms : Terms) (r : Row) (s : TermTable) (ss : Shapes) → row_shape r ≡ items_shape s ss → AreParts (size terms.rows) ss → (e : Refusal) → IsCause terms r e → IsUnbuilt terms (items_tree s (fill_all (meaning terms.rows) ss)) e
IsUnbuilt-from terms r s ss is parts Memory h = tt
IsUnbuilt-from terms r s ss is parts TableFull h = record {
  row = r;
  fills = ap (fill (meaning terms.rows)) is ∙ fill_items (meaning terms.rows) s ss;
  parts = subst (HasParts (size terms.rows)) (sym is) (list_parts (size terms.rows) s ss parts);
  new = h.0;
  full = h.1;
}
IsUnbuilt-from terms r s ss is parts GreatestIndex h = absurd (items_shallow s ss (subst IsTooDeep is h))
IsUnbuilt-from terms r s ss is parts NoArguments h = absurd h
IsUnbuilt-from terms r s ss is parts (ArgOutOfRange i) h = absurd h
IsUnbuilt-from terms r s ss is parts (ArgKind i) h = absurd h
IsUnbuilt-from terms r s ss is parts (RegionVariable v) h = absurd h
IsUnbuilt-from terms r s ss is parts NotAClause h = absurd h
IsUnbuilt-from terms r s ss is parts NoSuchAnswer h = absurd h

module _ {H : Type 0} (number : H → ℕ) (old new : Terms) (s : TermTable) (r : Row) (cs : List Child) (is : IsRowOf s r cs)
    (fine : IsNoClauseList (children_tree old.rows s cs) → ⊥) where
  -- what a typed call stores is the list of the children
  pub StoresList-ok : (h : H) → Builds (Ok h) number old new r → (l : AnyHandle) → l.number ≡ number h → l.table ≡ s → StoresList (Ok l) old new s cs
  StoresList-ok h builds l same of_table = record {
    in_range = rw same (rw is.in_table at builds.in_range);
    means = rw same ((rw is.in_table at builds.means) ∙ ap (fill (meaning old.rows)) is.shape ∙ fill_items (meaning old.rows) s (children_shapes cs));
    extends = record { rows = builds.grows; limit = builds.limit };
    counters = builds.counters;
    err = tt;
    cause = tt;
    refused = fine;
    of_table = of_table;
    stored = rw (same, is.row) builds.stored;
    found = λ n at. let f = builds.found n (rw is.row at at) in inl ((l, refl, same ∙ ap number (ok_one f.0.0 _ refl f.0.1) ∙ f.0.2), f.1);
    full = λ new_row no_other past. absurd (ok_err _ refl (builds.full (rw is.row at new_row) shallow (rw (← is.in_table) at past)));
    other = λ bad. absurd (fine bad);
  }
    where
      shallow : IsTooDeep (row_shape r) → ⊥
      shallow deep = items_shallow s (children_shapes cs) (subst IsTooDeep is.shape deep)

      ok_one : (a : H) (result : Result H Refusal) → result ≡ Ok h → result ≡ Ok a → h ≡ a
      ok_one a result p q = cc

      ok_err : (result : Result H Refusal) → result ≡ Ok h → result ≡ Err TableFull → ⊥
      ok_err result p q = cc

  -- if a typed call is refused the row of the children, so is their list, for the same cause
  pub StoresList-err : AreParts (size old.rows) (children_shapes cs) → (e : Refusal) → Builds {H = H} (Err e) number old new r → StoresList (Err e) old new s cs
  StoresList-err parts e builds = record {
    in_range = tt;
    means = tt;
    extends = record { rows = builds.grows; limit = builds.limit };
    counters = builds.counters;
    err = builds.err;
    cause = IsUnbuilt-from old r s (children_shapes cs) is.shape parts e builds.cause;
    refused = tt;
    of_table = tt;
    stored = tt;
    found = λ n at. absurd (err_ok _ _ refl (builds.found n (rw is.row at at)).0.1);
    full = λ new_row no_other past. inl (ap Err (err_one _ refl (builds.full (rw is.row at new_row) shallow (rw (← is.in_table) at past))));
    other = λ bad. absurd (fine bad);
  }
    where
      shallow : IsTooDeep (row_shape r) → ⊥
      shallow deep = items_shallow s (children_shapes cs) (subst IsTooDeep is.shape deep)

      err_ok : (a : H) (result : Result H Refusal) → result ≡ Err e → result ≡ Ok a → ⊥
      err_ok a result p q = cc

      err_one : (result : Result H Refusal) → result ≡ Err e → result ≡ Err TableFull → e ≡ TableFull
      err_one result p q = cc

-- a list of clauses with another item
pub StoresList-other : (old : Terms) → AreRows old.rows → (cs : List Clause) → AreParts (size old.rows) (children_shapes (map (child_in terms_of.Predicates) cs)) → (AreClauses old.rows cs → ⊥)
    → StoresList (Err NotAClause) old old terms_of.ClauseLists (map (child_in terms_of.Predicates) cs)
StoresList-other old are cs parts not_all = let bad = other_there old.rows cs (subst (AreParts (size old.rows)) (clauses_shapes cs) parts) not_all in record {
  in_range = tt;
  means = tt;
  extends = Extends-refl old;
  counters = refl;
  err = refl;
  cause = bad;
  refused = tt;
  of_table = tt;
  stored = tt;
  found = λ n at. absurd (not_all (clauses_stored old.rows are cs n (rw (is_row_of_clauses cs).row at at)));
  full = λ new_row no_other past. absurd (no_other bad);
  other = λ b. inl refl;
}

-- want of memory for the items
pub StoresList-memory : (old : Terms) (s : TermTable) (cs : List Child) → most_in_place < length cs → StoresList (Err Memory) old old s cs
StoresList-memory old s cs many = record {
  in_range = tt;
  means = tt;
  extends = Extends-refl old;
  counters = refl;
  err = refl;
  cause = tt;
  refused = tt;
  of_table = tt;
  stored = tt;
  found = λ n at. inr (many, refl);
  full = λ new_row no_other past. inr (many, refl);
  other = λ bad. inr (many, refl);
}
