-- One step of a visit over plain variables.
use Rattle.std.proofs.Common.{◌≡◌, ℕ, ◌+◌, ◌<◌, List, [], ◌∷◌, ◌++◌, length, take, drop, get_or, ControlFlow, Continue}
use Rattle.std.proofs.Common.{Break, refl, ap, sym, ◌∙◌, ◌⊎◌, inl, inr, arith}
use Rattle.std.specs.Prelude.{IsFalse, IsTrue, Some, None, slice_get}
use Rattle.std.specs.ControlFlow.{MatchControlFlow}
use Rattle.std.proofs.lemmas.Grind.{common_steps}
use Rattle.std.proofs.lemmas.Option.{slice_get_within, get_or_from_slice_get}
use Rattle.tt_kinds.specs.Label.{Name, Sort, region_sort, type_sort, const_sort, TypeLabel, ConstLabel, Label}
use Rattle.tt_kinds.specs.Label.{type_label, const_label, pattern_label, predicate_label, existential_label}
use Rattle.tt_kinds.specs.Label.{clause_list_label, list_label, var_list_label, text_label, declaration_label}
use Rattle.tt_kinds.specs.Label.{definition_label, record_label, error_label, clause_label}
use Rattle.tt_kinds.specs.Tree as tree
use Rattle.tt_kinds.specs.Tree.{Depth, Tree, Forest}
use Rattle.tt_kinds.specs.Shape.{Shapes, none, also, append, rename_label, rename_record, Meaning, Sizes, AreParts}
use Rattle.tt_kinds.specs.Shape.{HasParts, fill, fill_all, name_of}
use Rattle.tt_kinds.specs.Kinds.{Form, param, bound, plain, under, ty_form, const_form, kind_form, relabelled}
use Rattle.tt_kinds.specs.Kinds.{form_binder, form_parts, form_shape, kind_sort, kind_shape, region_shape, child_shapes}
use Rattle.tt_kinds.specs.Kinds.{parts_shapes, children_shapes, items_tree}
use Rattle.tt_kinds.specs.declared.parts.Kind.{Kind}
use Rattle.tt_kinds.specs.declared.table.Table.{Table}
use Rattle.tt_interner.specs.Rows.{Row, type_row, const_row, pat_row, predicate_row, existential_row, clauses_row}
use Rattle.tt_interner.specs.Rows.{tys_row, consts_row, args_row, pats_row, existentials_row, assumptions_row, vars_row}
use Rattle.tt_interner.specs.Rows.{text_row, declared_row, defined_row, row_table, row_shape, table, size, meaning}
use Rattle.tt_interner.proofs.RowLaws.{place_cases, IsNewest, meaning-old, meaning-new}
use Rattle.tt_kinds.specs.declared.parts.Child.{Child}
use Rattle.tt_kinds.specs.declared.table.TermTable.{TermTable}
use Rattle.tt_kinds.specs.declared.table.TermTable.TheVariants.{Types, Consts, Patterns, Predicates, Existentials, ClauseLists}
use Rattle.tt_kinds.specs.TermTable.{has_items, is_term}
use Rattle.tt_kinds.specs.declared.region_kind.RegionKind.{RegionKind}
use Rattle.tt_kinds.specs.declared.region_kind.RegionKind.TheVariants.{ReEarlyParam, ReBound, ReLateParam, ReStatic}
use Rattle.tt_kinds.specs.declared.region_kind.RegionKind.TheVariants.{ReVar, RePlaceholder, ReErased, ReError}
use Rattle.tt_visit.specs.Root.{Root, root, a_region, hooked, unhooked, a_part, no_term, sort_root, term_root}
use Rattle.tt_visit.specs.Root.{table_root, error_of}
use Rattle.tt_visit.specs.declared.visitor.Next.TheVariants.{Skip, Descend}
use Rattle.tt_visit.specs.Visit.{Visits, Tells, TellingBreaks, GoesOver, GoesInside, GoesOverAll, skipped, went_inside}
use Rattle.tt_visit.specs.Visit.{unhooked_seen, node_seen, term_seen, param_seen, bound_seen, all_seen, one_seen}
use Rattle.tt_visit.specs.Visit.{Breaks, BreaksInside, BreaksAll, term_broke, inside_broke, unhooked_broke, node_broke}
use Rattle.tt_visit.specs.Visit.{error_broke, term_inside_broke, first_broke, later_broke}
use Rattle.tt_visit.specs.Steps.{form_error, kind_error, AreVarsStored, AsksVisitor, AskingBreaks, GoesUnder}
use Rattle.tt_visit.specs.Steps.{BreaksUnder}

-- a result that keeps a promise, whether it goes on or breaks, keeps every weaker promise
pub flow-weaker : {B C : Type 0} (r : ControlFlow B C) {P P' : C → Type 0} {Q Q' : B → Type 0}
    → MatchControlFlow r P Q → ((c : C) → P c → P' c) → ((b : B) → Q b → Q' b) → MatchControlFlow r P' Q'
flow-weaker (Continue c) h f g = f c h
flow-weaker (Break b) h f g = g b h

-- what a row of types or constants is
root-type : (f : Meaning) (x : Form TypeLabel) → root (fill f (form_shape type_sort (relabelled type_label x))) ≡ hooked
unfolding fill
root-type f (param i name) = refl
root-type f (bound d e) = refl
root-type f (plain l p) = refl
root-type f (under l vars m p) = refl

root-const : (f : Meaning) (x : Form ConstLabel) → root (fill f (form_shape const_sort (relabelled const_label x))) ≡ hooked
unfolding fill
root-const f (param i name) = refl
root-const f (bound d e) = refl
root-const f (plain l p) = refl
root-const f (under l vars m p) = refl

-- what a row is, as its table tells
root-row : (f : Meaning) (r : Row) → root (fill f (row_shape r)) ≡ table_root (row_table r)
unfolding fill
root-row f (type_row k) = root-type f (ty_form k)
root-row f (const_row k) = root-const f (const_form k)
root-row f (pat_row k) = refl
root-row f (predicate_row b) = refl
root-row f (existential_row b) = refl
root-row f (clauses_row cs) = refl
root-row f (tys_row ts) = refl
root-row f (consts_row cs) = refl
root-row f (args_row args) = refl
root-row f (pats_row ps) = refl
root-row f (existentials_row ps) = refl
root-row f (assumptions_row ps) = refl
root-row f (vars_row vs) = refl
root-row f (text_row bytes) = refl
root-row f (declared_row n d) = refl
root-row f (defined_row n vs) = refl

-- what a handle's tree is
older-or-newest : (r : Row) (rows : List Row) (t : Table) (n : ℕ) → (n < size rows t → root (meaning rows t n) ≡ table_root t)
    → (n < size rows t) ⊎ IsNewest r rows t n → root (meaning (r ∷ rows) t n) ≡ table_root t
older-or-newest r rows t n before (inl low) = ap root (meaning-old r rows t n low) ∙ before low
older-or-newest r rows t n before (inr is) =
    let whole : root (meaning (r ∷ rows) (row_table r) (size rows (row_table r))) ≡ table_root (row_table r) = ap root (meaning-new r rows) ∙ root-row (meaning rows) r in
    rw (is.last, ← is.same_table) whole

-- the table of a handle tells the root of the handle's tree
pub root-meaning : (rows : List Row) (t : Table) (n : ℕ) → n < size rows t → root (meaning rows t n) ≡ table_root t
unfolding table
root-meaning [] t n h = absurd (omega arith)
root-meaning (r ∷ rows) t n h = older-or-newest r rows t n (λ low. root-meaning rows t n low) (place_cases r rows t n h)

-- neither a parameter nor a bound variable is a term without a hook, and no such term tells of an error
sort-unhooked : (s : Sort) → sort_root s ≡ unhooked → ⊥
sort-unhooked region_sort e = let never = e in cc
sort-unhooked type_sort e = let never = e in cc
sort-unhooked const_sort e = let never = e in cc

-- the label of a term without a hook names no error
pub no-error : (l : Label Name) → term_root l ≡ unhooked → error_of l ≡ None
no-error (type_label l) is = cc
no-error (const_label l) is = cc
no-error (pattern_label l) is = refl
no-error predicate_label is = refl
no-error existential_label is = refl
no-error clause_list_label is = refl
no-error (list_label t) is = refl
no-error (var_list_label vs) is = refl
no-error (text_label bytes) is = refl
no-error (declaration_label n k name) is = refl
no-error (definition_label n vs) is = refl
no-error (record_label l) is = refl
no-error (error_label e) is = cc
no-error clause_label is = refl

-- its contents are all that there is to see
unhooked-inside : {M B : Type 0} (V : Visits M B) (s s' : M) (t : Tree Depth) → root t ≡ unhooked → GoesInside V s t s' → GoesOver V s t s'
unhooked-inside V s s' (tree.term l ts) is (term_seen {s1 = s1} e all) = let same : s1 ≡ s = rw (no-error l is) at e in unhooked_seen is (rw same at all)
unhooked-inside V s s' (tree.param o i name) is h = absurd (sort-unhooked o is)
unhooked-inside V s s' (tree.bound o d e) is h = absurd (sort-unhooked o is)
unhooked-inside V s s' (tree.binder vs t) is h = let never = is in cc
unhooked-inside V s s' (tree.region r) is h = let never = is in cc
unhooked-inside V s s' (tree.node l ts) is h = elim h [ ]

unhooked-broke : {M B : Type 0} (V : Visits M B) (s s' : M) (t : Tree Depth) (b : B) → root t ≡ unhooked → BreaksInside V s t b s' → Breaks V s t b s'
unhooked-broke V s s' (tree.term l ts) b is (error_broke e) = absurd (rw (no-error l is) at e)
unhooked-broke V s s' (tree.term l ts) b is (term_inside_broke {s1 = s1} e all) = let same : s1 ≡ s = rw (no-error l is) at e in unhooked_broke is (rw same at all)
unhooked-broke V s s' (tree.param o i name) b is h = absurd (sort-unhooked o is)
unhooked-broke V s s' (tree.bound o d e) b is h = absurd (sort-unhooked o is)
unhooked-broke V s s' (tree.binder vs t) b is h = let never = is in cc
unhooked-broke V s s' (tree.region r) b is h = let never = is in cc
unhooked-broke V s s' (tree.node l ts) b is h = elim h [ ]

-- what a hook's answer leads to
module _ {M B : Type 0} (V : Visits M B) where
  -- a visitor goes over a term that its hook answers to skip
  pub asked-skip : (r : Root) (s s' : M) (t : Tree Depth) → root t ≡ r → AsksVisitor V r s t Skip s' → GoesOver V s t s'
  asked-skip hooked s s' t is h = skipped is h
  asked-skip unhooked s s' t is h = let never = h.0 in cc
  asked-skip a_region s s' t is h = absurd h
  asked-skip a_part s s' t is h = absurd h
  asked-skip no_term s s' t is h = absurd h

  -- a visitor goes over a term that its hook answers to enter, if it then goes over the contents
  pub asked-descend : (r : Root) (s s1 s' : M) (t : Tree Depth) → root t ≡ r → AsksVisitor V r s t Descend s1 → GoesInside V s1 t s' → GoesOver V s t s'
  asked-descend hooked s s1 s' t is h inside = went_inside is h inside
  asked-descend unhooked s s1 s' t is h inside = unhooked-inside V s s' t is (rw h.1 at inside)
  asked-descend a_region s s1 s' t is h inside = absurd h
  asked-descend a_part s s1 s' t is h inside = absurd h
  asked-descend no_term s s1 s' t is h inside = absurd h

  -- the visit of a term breaks if the hook answers to enter it and the visit of the contents breaks
  pub asked-broke-inside : (r : Root) (s s1 s' : M) (t : Tree Depth) (b : B) → root t ≡ r → AsksVisitor V r s t Descend s1 → BreaksInside V s1 t b s' → Breaks V s t b s'
  asked-broke-inside hooked s s1 s' t b is h inside = inside_broke is h inside
  asked-broke-inside unhooked s s1 s' t b is h inside = unhooked-broke V s s' t b is (rw h.1 at inside)
  asked-broke-inside a_region s s1 s' t b is h inside = absurd h
  asked-broke-inside a_part s s1 s' t b is h inside = absurd h
  asked-broke-inside no_term s s1 s' t b is h inside = absurd h

  -- the visit of a term breaks if the term's hook breaks
  pub asking-broke : (r : Root) (s s' : M) (t : Tree Depth) (b : B) → root t ≡ r → AskingBreaks V r s t b s' → Breaks V s t b s'
  asking-broke hooked s s' t b is h = term_broke is h
  asking-broke unhooked s s' t b is h = absurd h
  asking-broke a_region s s' t b is h = absurd h
  asking-broke a_part s s' t b is h = absurd h
  asking-broke no_term s s' t b is h = absurd h

-- the contents of a kind
parts-form : (size : Sizes) (s : Sort) (x : Form (Label ℕ)) → HasParts size (form_shape s x) → AreVarsStored size (form_binder x) × AreParts size (parts_shapes (form_parts x))
parts-form size s (param i name) h = (tt, tt)
parts-form size s (bound d e) h = (tt, tt)
parts-form size s (plain l p) h = (tt, h.1)
parts-form size s (under l vars m p) h = (h.1.0.0, h.1.0.1.2)

-- if the contents of a kind are in range, so are its binder's variables and its parts
pub parts-kind : (size : Sizes) (k : Kind) → HasParts size (kind_shape k) → AreVarsStored size (form_binder (kind_form k)) × AreParts size (parts_shapes (form_parts (kind_form k)))
parts-kind size k h = parts-form size (kind_sort k) (kind_form k) h

-- a name does not hide an error
pub error_of-rename : {N M : Type 0} (name : N → M) (l : Label N) → error_of (rename_label name l) ≡ error_of l
error_of-rename name (type_label l) = refl
error_of-rename name (const_label l) = refl
error_of-rename name (pattern_label l) = refl
error_of-rename name predicate_label = refl
error_of-rename name existential_label = refl
error_of-rename name clause_list_label = refl
error_of-rename name (list_label t) = refl
error_of-rename name (var_list_label vs) = refl
error_of-rename name (text_label bytes) = refl
error_of-rename name (declaration_label i k n) = refl
error_of-rename name (definition_label i vs) = refl
error_of-rename name (record_label l) = refl
error_of-rename name (error_label e) = refl
error_of-rename name clause_label = refl

-- nothing is seen, and nothing breaks, where there is nothing
unseen : {M B : Type 0} (V : Visits M B) (s s' : M) → GoesOverAll V s tree.none s' → s' ≡ s
unseen V s s' all_seen = refl

unbroken : {M B : Type 0} (V : Visits M B) (s s' : M) (b : B) → BreaksAll V s tree.none b s' → ⊥
unbroken V s s' b h = elim h [ ]

module _ {M B : Type 0} (V : Visits M B) (f : Meaning) where
  inside-form : (sort : Sort) (x : Form (Label ℕ)) (s s1 s' : M) → Tells V s (form_error x) s1
      → GoesUnder V f s1 (form_binder x) (fill_all f (parts_shapes (form_parts x))) s' → GoesInside V s (fill f (form_shape sort x)) s'
  unfolding fill
  inside-form sort (param i name) s s1 s' e h = rw (unseen V s1 s' h, e) param_seen
  inside-form sort (bound d y) s s1 s' e h = rw (unseen V s1 s' h, e) bound_seen
  inside-form sort (plain l p) s s1 s' e h = term_seen (rw (error_of-rename (name_of f) l) e) h
  inside-form sort (under l vars m p) s s1 s' e h = term_seen (rw (error_of-rename (name_of f) l) e) (one_seen (h (rename_record (name_of f) m)) all_seen)

  told-form : (sort : Sort) (x : Form (Label ℕ)) (s s' : M) (b : B) → TellingBreaks V s (form_error x) b s' → BreaksInside V s (fill f (form_shape sort x)) b s'
  unfolding fill
  told-form sort (param i name) s s' b e = absurd e
  told-form sort (bound d y) s s' b e = absurd e
  told-form sort (plain l p) s s' b e = error_broke (rw (error_of-rename (name_of f) l) e)
  told-form sort (under l vars m p) s s' b e = error_broke (rw (error_of-rename (name_of f) l) e)

  broke-form : (sort : Sort) (x : Form (Label ℕ)) (s s1 s' : M) (b : B) → Tells V s (form_error x) s1
      → BreaksUnder V f s1 (form_binder x) (fill_all f (parts_shapes (form_parts x))) b s' → BreaksInside V s (fill f (form_shape sort x)) b s'
  unfolding fill
  broke-form sort (param i name) s s1 s' b e h = absurd (unbroken V s1 s' b h)
  broke-form sort (bound d y) s s1 s' b e h = absurd (unbroken V s1 s' b h)
  broke-form sort (plain l p) s s1 s' b e h = term_inside_broke (rw (error_of-rename (name_of f) l) e) h
  broke-form sort (under l vars m p) s s1 s' b e h = term_inside_broke (rw (error_of-rename (name_of f) l) e) (first_broke (h (rename_record (name_of f) m)))

  -- a kind's error and its parts
  pub inside-kind : (k : Kind) (s s1 s' : M) → Tells V s (kind_error k) s1
      → GoesUnder V f s1 (form_binder (kind_form k)) (fill_all f (parts_shapes (form_parts (kind_form k)))) s' → GoesInside V s (fill f (kind_shape k)) s'
  inside-kind k s s1 s' e h = inside-form (kind_sort k) (kind_form k) s s1 s' e h

  -- the visit of a kind's contents breaks if the visitor breaks at the kind's error
  pub told-kind : (k : Kind) (s s' : M) (b : B) → TellingBreaks V s (kind_error k) b s' → BreaksInside V s (fill f (kind_shape k)) b s'
  told-kind k s s' b e = told-form (kind_sort k) (kind_form k) s s' b e

  -- the visit of a kind's contents breaks if it goes past the kind's error and breaks in the parts
  pub broke-kind : (k : Kind) (s s1 s' : M) (b : B) → Tells V s (kind_error k) s1
      → BreaksUnder V f s1 (form_binder (kind_form k)) (fill_all f (parts_shapes (form_parts (kind_form k)))) b s' → BreaksInside V s (fill f (kind_shape k)) b s'
  broke-kind k s s1 s' b e h = broke-form (kind_sort k) (kind_form k) s s1 s' b e h

  -- some shapes, and then others
  pub seen-append : (ss us : Shapes) (s s1 s' : M) → GoesOverAll V s (fill_all f ss) s1 → GoesOverAll V s1 (fill_all f us) s' → GoesOverAll V s (fill_all f (append ss us)) s'
  unfolding fill_all
  seen-append none us s s1 s' a b = rw (← unseen V s s1 a) b
  seen-append (also x ss) us s s1 s' (one_seen {s1 = m} a more) b = one_seen a (seen-append ss us m s1 s' more b)

  -- a visit that breaks in the first of two lists of shapes breaks in both together
  pub broke-before : (ss us : Shapes) (s s' : M) (b : B) → BreaksAll V s (fill_all f ss) b s' → BreaksAll V s (fill_all f (append ss us)) b s'
  unfolding fill_all
  broke-before none us s s' b h = absurd (unbroken V s s' b h)
  broke-before (also x ss) us s s' b (first_broke h) = first_broke h
  broke-before (also x ss) us s s' b (later_broke {s1 = m} a h) = later_broke a (broke-before ss us m s' b h)

  -- a visit that goes over the first of two lists of shapes and breaks in the second breaks in both together
  pub broke-after : (ss us : Shapes) (s s1 s' : M) (b : B) → GoesOverAll V s (fill_all f ss) s1 → BreaksAll V s1 (fill_all f us) b s' → BreaksAll V s (fill_all f (append ss us)) b s'
  unfolding fill_all
  broke-after none us s s1 s' b a h = rw (← unseen V s s1 a) h
  broke-after (also x ss) us s s1 s' b (one_seen {s1 = m} a more) h = later_broke a (broke-after ss us m s1 s' b more h)

-- parts of some shapes, and then of others
pub parts-before : (size : Sizes) (ss us : Shapes) → AreParts size (append ss us) → AreParts size ss
parts-before size none us h = tt
parts-before size (also x ss) us h = (h.0, parts-before size ss us h.1)

-- the second of two lists of shapes is in range if both together are
pub parts-after : (size : Sizes) (ss us : Shapes) → AreParts size (append ss us) → AreParts size us
parts-after size none us h = h
parts-after size (also x ss) us h = parts-after size ss us h.1

-- the children of a list, before one of them and after
append-assoc : (ss us vs : Shapes) → append (append ss us) vs ≡ append ss (append us vs)
append-assoc none us vs = refl
append-assoc (also x ss) us vs = ap (also x) (append-assoc ss us vs)

children-append : (xs ys : List Child) → children_shapes (xs ++ ys) ≡ append (children_shapes xs) (children_shapes ys)
children-append [] ys = refl
children-append (x ∷ xs) ys = ap (append (child_shapes x)) (children-append xs ys) ∙ sym (append-assoc (child_shapes x) (children_shapes xs) (children_shapes ys))

-- the first n + 1 items of a list are the first n and the item after them
pub take-more : {A : Type 0} (list : List A) (n : ℕ) (x : A) → x ≡ get_or list n x → n < length list → take (n + 1) list ≡ take n list ++ x ∷ []
take-more list n x is_x lt = grind (arith, common_steps)

-- a list is its first n items, the item after them, and the others
pub take-rest : {A : Type 0} (list : List A) (n : ℕ) (x : A) → x ≡ get_or list n x → n < length list → list ≡ take n list ++ (x ∷ drop (n + 1) list)
take-rest list n x is_x lt = grind (arith, common_steps)

is-read : {A : Type 0} (list : List A) (n : ℕ) (x : A) → slice_get list n ≡ Some x → x ≡ get_or list n x
is-read list n x h = sym (get_or_from_slice_get list n x x h)

-- the shapes of a list's children are the shapes before one of the children, its own, and the shapes after it
pub children-from : (list : List Child) (n : ℕ) (x : Child) → slice_get list n ≡ Some x
    → children_shapes list ≡ append (children_shapes (take n list)) (append (child_shapes x) (children_shapes (drop (n + 1) list)))
children-from list n x h =
    ap children_shapes (take-rest list n x (is-read list n x h) (slice_get_within list n x h)) ∙ children-append (take n list) (x ∷ drop (n + 1) list)

-- a child of a list is in range if all the children are
pub parts-child : (size : Sizes) (list : List Child) (n : ℕ) (x : Child) → slice_get list n ≡ Some x → AreParts size (children_shapes list) → AreParts size (child_shapes x)
parts-child size list n x h are =
    parts-before size (child_shapes x) (children_shapes (drop (n + 1) list))
    (parts-after size (children_shapes (take n list)) (append (child_shapes x) (children_shapes (drop (n + 1) list))) (rw (children-from list n x h) at are))

-- a stored term that is no list of clauses has a kind
pub has-kind : (t : TermTable) → IsTrue (is_term t) → (t ≡ ClauseLists → ⊥) → IsFalse (has_items t)
has-kind ClauseLists h never = absurd (never refl)
has-kind Types h never = refl
has-kind Consts h never = refl
has-kind Patterns h never = refl
has-kind Predicates h never = refl
has-kind Existentials h never = refl
has-kind _ h never = cc

-- a list that is none of clauses has no hook
module _ {M B : Type 0} (V : Visits M B) where
  -- a visitor that goes over the items of a list goes over the list, unless it is one of clauses
  pub list-seen : (t : TermTable) → IsFalse (is_term t) → (ts : Forest Depth) (s s' : M) → GoesOverAll V s ts s' → GoesOver V s (items_tree t ts) s'
  list-seen ClauseLists is ts s s' h = cc
  list-seen _ is ts s s' h = node_seen refl h

  -- if the visit of a list's items breaks, so does the visit of the list, unless it is one of clauses
  pub list-broke : (t : TermTable) → IsFalse (is_term t) → (ts : Forest Depth) (s s' : M) (b : B) → BreaksAll V s ts b s' → Breaks V s (items_tree t ts) b s'
  list-broke ClauseLists is ts s s' b h = cc
  list-broke _ is ts s s' b h = node_broke refl h

-- a region is a region
pub root-region : (f : Meaning) (r : RegionKind) → root (fill f (region_shape r)) ≡ a_region
unfolding fill
root-region f (ReEarlyParam p) = refl
root-region f (ReBound i b) = refl
root-region f (ReLateParam p) = refl
root-region f ReStatic = refl
root-region f (ReVar v) = refl
root-region f (RePlaceholder p) = refl
root-region f ReErased = refl
root-region f (ReError e) = refl
