-- More rows change nothing that a shape means.
use Rattle.std.proofs.Common.{◌≡◌, ℕ, zero, suc, ◌<◌, ◌≤◌, List, [], ◌∷◌, ◌++◌, refl, ap, sym, ◌∙◌, arith, append_assoc}
use Rattle.std.specs.Prelude.{map}
use Rattle.std.proofs.lemmas.Option.{slice_get_within}
use Rattle.tt_kinds.specs.declared.table.Table.{Table}
use Rattle.tt_kinds.specs.declared.table.Table.TheVariants.{VarLists, Symbols}
use Rattle.tt_kinds.specs.Label.{RegionName, anonymous, printed, named, environment, VarKind, region_variable}
use Rattle.tt_kinds.specs.Label.{type_variable, const_variable, FreeRegion, static_region, erased_region, region_var}
use Rattle.tt_kinds.specs.Label.{error_region, late_param_region, placeholder_region, RecordLabel, fn_sig_tys_record}
use Rattle.tt_kinds.specs.Label.{pair_record, triple_record, absent_record, present_record, sequence_record}
use Rattle.tt_kinds.specs.Label.{unsafe_binder_record, trait_record, host_effect_record, region_outlives_record}
use Rattle.tt_kinds.specs.Label.{type_outlives_record, projection_record, const_has_type_record, well_formed_record}
use Rattle.tt_kinds.specs.Label.{const_evaluatable_record, unstable_feature_record, dyn_compatible_record}
use Rattle.tt_kinds.specs.Label.{subtype_record, coerce_record, const_equate_record, ambiguous_record}
use Rattle.tt_kinds.specs.Label.{normalizes_to_record, alias_relate_record, existential_trait_record}
use Rattle.tt_kinds.specs.Label.{existential_projection_record, auto_trait_record, trait_ref_record, alias_term_record}
use Rattle.tt_kinds.specs.Label.{alias_ty_record, outlives_record, type_and_mut_record, fn_sig_record, param_env_record}
use Rattle.tt_kinds.specs.Label.{witness_types_record, bare_param_record, bare_bound_record, bare_type_record}
use Rattle.tt_kinds.specs.Label.{bare_const_record, bare_pattern_record, Label, type_label, const_label, pattern_label}
use Rattle.tt_kinds.specs.Label.{predicate_label, existential_label, clause_list_label, list_label, var_list_label}
use Rattle.tt_kinds.specs.Label.{text_label, declaration_label, definition_label, record_label, error_label}
use Rattle.tt_kinds.specs.Label.{clause_label}
use Rattle.tt_kinds.specs.Tree as tree
use Rattle.tt_kinds.specs.Shape.{Shape, Shapes, param, bound, region, term, node, binder, stored, part_of, none, also}
use Rattle.tt_kinds.specs.Shape.{Meaning, Sizes, text_of, items_of, items_in, name_of, rename_region, rename_kind}
use Rattle.tt_kinds.specs.Shape.{rename_free, rename_record, rename_label, fill, fill_all, IsNamed, IsNamedKind}
use Rattle.tt_kinds.specs.Shape.{AreNamedKinds, IsNamedFree, IsNamedRecord, IsNamedLabel, IsPart, AreParts, HasParts}
use Rattle.tt_kinds.specs.TermTable.{term_table}
use Rattle.tt_kinds.specs.declared.handle.AnyHandle.{AnyHandle}
use Rattle.tt_interner.specs.Rows.{Row, text_row, row_table, table, size, meaning, Grows}
use Rattle.tt_interner.specs.Children.{children_of, children_at}
use Rattle.tt_interner.specs.Nodes.{row_kind, stored_kind}
use Rattle.tt_interner.specs.Stored.{Terms, Extends, IsAt}
use Rattle.tt_interner.proofs.RowLaws.{keeps, slice_get-keeps, get_or-keeps}

-- parts in range stay in range where tables grow
module _ (small large : Sizes) (more : (t : Table) → small t ≤ large t) where
  IsNamed-more : (r : RegionName ℕ) → IsNamed small r → IsNamed large r
  IsNamed-more anonymous h = tt
  IsNamed-more (printed n) h = let m = more Symbols in omega arith
  IsNamed-more (named d) h = tt
  IsNamed-more environment h = tt

  IsNamedKind-more : (v : VarKind ℕ) → IsNamedKind small v → IsNamedKind large v
  IsNamedKind-more (region_variable r) h = IsNamed-more r h
  IsNamedKind-more (type_variable k) h = tt
  IsNamedKind-more const_variable h = tt

  AreNamedKinds-more : (vs : List (VarKind ℕ)) → AreNamedKinds small vs → AreNamedKinds large vs
  AreNamedKinds-more [] h = tt
  AreNamedKinds-more (v ∷ vs) h = (IsNamedKind-more v h.0, AreNamedKinds-more vs h.1)

  IsNamedFree-more : (r : FreeRegion ℕ) → IsNamedFree small r → IsNamedFree large r
  IsNamedFree-more static_region h = tt
  IsNamedFree-more erased_region h = tt
  IsNamedFree-more (region_var x) h = tt
  IsNamedFree-more (error_region e) h = tt
  IsNamedFree-more (late_param_region d r) h = IsNamed-more r h
  IsNamedFree-more (placeholder_region u v r) h = IsNamed-more r h

  IsNamedRecord-more : (m : RecordLabel ℕ) → IsNamedRecord small m → IsNamedRecord large m
  IsNamedRecord-more fn_sig_tys_record h = tt
  IsNamedRecord-more pair_record h = tt
  IsNamedRecord-more triple_record h = tt
  IsNamedRecord-more absent_record h = tt
  IsNamedRecord-more present_record h = tt
  IsNamedRecord-more sequence_record h = tt
  IsNamedRecord-more unsafe_binder_record h = tt
  IsNamedRecord-more (trait_record d) h = tt
  IsNamedRecord-more (host_effect_record d c) h = tt
  IsNamedRecord-more region_outlives_record h = tt
  IsNamedRecord-more type_outlives_record h = tt
  IsNamedRecord-more (projection_record d) h = tt
  IsNamedRecord-more const_has_type_record h = tt
  IsNamedRecord-more well_formed_record h = tt
  IsNamedRecord-more const_evaluatable_record h = tt
  IsNamedRecord-more (unstable_feature_record n) h = let m = more Symbols in omega arith
  IsNamedRecord-more (dyn_compatible_record d) h = tt
  IsNamedRecord-more (subtype_record b) h = tt
  IsNamedRecord-more coerce_record h = tt
  IsNamedRecord-more const_equate_record h = tt
  IsNamedRecord-more ambiguous_record h = tt
  IsNamedRecord-more (normalizes_to_record d) h = tt
  IsNamedRecord-more (alias_relate_record r) h = tt
  IsNamedRecord-more (existential_trait_record d) h = tt
  IsNamedRecord-more (existential_projection_record d) h = tt
  IsNamedRecord-more (auto_trait_record d) h = tt
  IsNamedRecord-more (trait_ref_record d) h = tt
  IsNamedRecord-more (alias_term_record d) h = tt
  IsNamedRecord-more (alias_ty_record k) h = tt
  IsNamedRecord-more outlives_record h = tt
  IsNamedRecord-more (type_and_mut_record m) h = tt
  IsNamedRecord-more (fn_sig_record k) h = tt
  IsNamedRecord-more param_env_record h = tt
  IsNamedRecord-more witness_types_record h = tt
  IsNamedRecord-more (bare_param_record s i n) h = let m = more Symbols in omega arith
  IsNamedRecord-more (bare_bound_record s d e) h = IsNamedKind-more e.kind h
  IsNamedRecord-more (bare_type_record l) h = tt
  IsNamedRecord-more (bare_const_record l) h = tt
  IsNamedRecord-more (bare_pattern_record l) h = tt

  IsNamedLabel-more : (l : Label ℕ) → IsNamedLabel small l → IsNamedLabel large l
  IsNamedLabel-more (type_label l) h = tt
  IsNamedLabel-more (list_label t) h = tt
  IsNamedLabel-more (var_list_label vs) h = AreNamedKinds-more vs h
  IsNamedLabel-more (text_label bytes) h = tt
  IsNamedLabel-more (declaration_label i k n) h = let m = more Symbols in omega arith
  IsNamedLabel-more (definition_label i vs) h = tt
  IsNamedLabel-more (record_label l) h = IsNamedRecord-more l h
  IsNamedLabel-more (error_label e) h = tt
  IsNamedLabel-more clause_label h = tt
  IsNamedLabel-more (const_label l) h = tt
  IsNamedLabel-more (pattern_label l) h = tt
  IsNamedLabel-more predicate_label h = tt
  IsNamedLabel-more existential_label h = tt
  IsNamedLabel-more clause_list_label h = tt

  mutual
    pub IsPart-more : (s : Shape) → IsPart small s → IsPart large s
    IsPart-more (param s i name) h = let m = more Symbols in (h.0, omega (arith, h.1))
    IsPart-more (bound s d e) h = (h.0, IsNamedKind-more e.kind h.1)
    IsPart-more (region r) h = IsNamedFree-more r h
    IsPart-more (term l ss) h = h
    IsPart-more (node l ss) h = (h.0, IsNamedLabel-more l h.1, AreParts-more ss h.2)
    IsPart-more (binder n s) h = let m = more VarLists in (omega (arith, h.0), IsPart-more s h.1)
    IsPart-more (stored t n) h = let m = more t in omega arith
    IsPart-more (part_of t n e) h = let m = more t in omega arith

    pub AreParts-more : (ss : Shapes) → AreParts small ss → AreParts large ss
    AreParts-more none h = tt
    AreParts-more (also s ss) h = (IsPart-more s h.0, AreParts-more ss h.1)

  -- what a row holds stays in range where tables grow
  pub HasParts-more : (s : Shape) → HasParts small s → HasParts large s
  HasParts-more (param s i name) h = let m = more Symbols in omega arith
  HasParts-more (bound s d e) h = IsNamedKind-more e.kind h
  HasParts-more (region r) h = h
  HasParts-more (term l ss) h = (IsNamedLabel-more l h.0, AreParts-more ss h.1)
  HasParts-more (node l ss) h = (IsNamedLabel-more l h.0, AreParts-more ss h.1)
  HasParts-more (binder n s) h = h
  HasParts-more (stored t n) h = h
  HasParts-more (part_of t n e) h = h

-- parts keep their trees where handles in range do
module _ (f g : Meaning) (bounds : Sizes) (same : (t : Table) (n : ℕ) → n < bounds t → f t n ≡ g t n) where
  region-same : (r : RegionName ℕ) → IsNamed bounds r → rename_region (name_of f) r ≡ rename_region (name_of g) r
  region-same anonymous h = refl
  region-same (printed n) h = ap (λ t. printed (text_of t)) (same Symbols n h)
  region-same (named d) h = refl
  region-same environment h = refl

  kind-same : (v : VarKind ℕ) → IsNamedKind bounds v → rename_kind (name_of f) v ≡ rename_kind (name_of g) v
  kind-same (region_variable r) h = ap region_variable (region-same r h)
  kind-same (type_variable k) h = refl
  kind-same const_variable h = refl

  kinds-same : (vs : List (VarKind ℕ)) → AreNamedKinds bounds vs → map (rename_kind (name_of f)) vs ≡ map (rename_kind (name_of g)) vs
  kinds-same [] h = refl
  kinds-same (v ∷ vs) h = rw (kind-same v h.0, kinds-same vs h.1) refl

  free-same : (r : FreeRegion ℕ) → IsNamedFree bounds r → rename_free (name_of f) r ≡ rename_free (name_of g) r
  free-same static_region h = refl
  free-same erased_region h = refl
  free-same (region_var x) h = refl
  free-same (error_region e) h = refl
  free-same (late_param_region d r) h = ap (late_param_region d) (region-same r h)
  free-same (placeholder_region u v r) h = ap (placeholder_region u v) (region-same r h)

  record-same : (m : RecordLabel ℕ) → IsNamedRecord bounds m → rename_record (name_of f) m ≡ rename_record (name_of g) m
  record-same fn_sig_tys_record h = refl
  record-same pair_record h = refl
  record-same triple_record h = refl
  record-same absent_record h = refl
  record-same present_record h = refl
  record-same sequence_record h = refl
  record-same unsafe_binder_record h = refl
  record-same (trait_record d) h = refl
  record-same (host_effect_record d c) h = refl
  record-same region_outlives_record h = refl
  record-same type_outlives_record h = refl
  record-same (projection_record d) h = refl
  record-same const_has_type_record h = refl
  record-same well_formed_record h = refl
  record-same const_evaluatable_record h = refl
  record-same (unstable_feature_record n) h = ap (λ t. unstable_feature_record (text_of t)) (same Symbols n h)
  record-same (dyn_compatible_record d) h = refl
  record-same (subtype_record b) h = refl
  record-same coerce_record h = refl
  record-same const_equate_record h = refl
  record-same ambiguous_record h = refl
  record-same (normalizes_to_record d) h = refl
  record-same (alias_relate_record r) h = refl
  record-same (existential_trait_record d) h = refl
  record-same (existential_projection_record d) h = refl
  record-same (auto_trait_record d) h = refl
  record-same (trait_ref_record d) h = refl
  record-same (alias_term_record d) h = refl
  record-same (alias_ty_record k) h = refl
  record-same outlives_record h = refl
  record-same (type_and_mut_record m) h = refl
  record-same (fn_sig_record k) h = refl
  record-same param_env_record h = refl
  record-same witness_types_record h = refl
  record-same (bare_param_record s i n) h = ap (λ t. bare_param_record s i (text_of t)) (same Symbols n h)
  record-same (bare_bound_record s d e) h = ap (λ k. bare_bound_record s d (record { var = e.var; kind = k })) (kind-same e.kind h)
  record-same (bare_type_record l) h = refl
  record-same (bare_const_record l) h = refl
  record-same (bare_pattern_record l) h = refl

  label-same : (l : Label ℕ) → IsNamedLabel bounds l → rename_label (name_of f) l ≡ rename_label (name_of g) l
  label-same (type_label l) h = refl
  label-same (list_label t) h = refl
  label-same (var_list_label vs) h = ap var_list_label (kinds-same vs h)
  label-same (text_label bytes) h = refl
  label-same (declaration_label i k n) h = ap (λ t. declaration_label i k (text_of t)) (same Symbols n h)
  label-same (definition_label i vs) h = refl
  label-same (record_label l) h = ap record_label (record-same l h)
  label-same (error_label e) h = refl
  label-same clause_label h = refl
  label-same (const_label l) h = refl
  label-same (pattern_label l) h = refl
  label-same predicate_label h = refl
  label-same existential_label h = refl
  label-same clause_list_label h = refl

  mutual
    unfolding fill

    pub fill-same : (s : Shape) → IsPart bounds s → fill f s ≡ fill g s
    fill-same (param s i name) h = ap (λ t. tree.param s i (text_of t)) (same Symbols name h.1)
    fill-same (bound s d e) h = ap (λ k. tree.bound s d (record { var = e.var; kind = k })) (kind-same e.kind h.1)
    fill-same (region r) h = ap tree.region (free-same r h)
    fill-same (term l ss) h = absurd h
    fill-same (node l ss) h = rw (label-same l h.1, fill_all-same ss h.2) refl
    fill-same (binder n s) h = rw (same VarLists n h.0, fill-same s h.1) refl
    fill-same (stored t n) h = same t n h
    fill-same (part_of t n e) h = ap (λ u. tree.node (record_label sequence_record) (items_in e (items_of u))) (same t n h)

    pub fill_all-same : (ss : Shapes) → AreParts bounds ss → fill_all f ss ≡ fill_all g ss
    fill_all-same none h = refl
    fill_all-same (also s ss) h = rw (fill-same s h.0, fill_all-same ss h.1) refl

  -- what a row holds has one tree by two meanings that agree on handles in range
  pub row-same : (s : Shape) → HasParts bounds s → fill f s ≡ fill g s
  unfolding fill
  row-same (param s i name) h = ap (λ t. tree.param s i (text_of t)) (same Symbols name h)
  row-same (bound s d e) h = ap (λ k. tree.bound s d (record { var = e.var; kind = k })) (kind-same e.kind h)
  row-same (region r) h = absurd h
  row-same (term l ss) h = rw (label-same l h.0, fill_all-same ss h.1) refl
  row-same (node l ss) h = rw (label-same l h.0, fill_all-same ss h.1) refl
  row-same (binder n s) h = absurd h
  row-same (stored t n) h = absurd h
  row-same (part_of t n e) h = absurd h

-- where the rows are more, no table has fewer
pub sizes-grow : (more old new : List Row) → new ≡ more ++ old → (t : Table) → size old t ≤ size new t
sizes-grow more old new kept t = by (size old t) refl
  where
    by : (n : ℕ) → n ≡ size old t → n ≤ size new t
    by zero e = omega arith
    by (suc n) e = let h : n < size new t = rw kept (keeps more old t n (omega (arith, e))).0 in omega (arith, h)

-- rows have grown if others are added in front of them
pub Grows-more : {old new : List Row} (more : List Row) → new ≡ more ++ old → Grows old new
Grows-more {old} {new} more kept = record { more = more; kept = kept; in_range = sizes-grow more old new kept }

-- rows that stay as they are have grown by none
pub Grows-refl : (rows : List Row) → Grows rows rows
Grows-refl rows = Grows-more [] refl

-- growth after growth is growth
pub Grows-trans : {a b c : List Row} → Grows a b → Grows b c → Grows a c
Grows-trans {a} g h = Grows-more (h.more ++ g.more) (h.kept ∙ ap (λ x. h.more ++ x) g.kept ∙ sym (append_assoc h.more g.more a))

-- terms that stay as they are extend themselves
pub Extends-refl : (terms : Terms) → Extends terms terms
Extends-refl terms = record { rows = Grows-refl terms.rows; limit = refl }

-- terms that extend an extension of others extend these others
pub Extends-trans : {a b c : Terms} → Extends a b → Extends b c → Extends a c
Extends-trans g h = record { rows = Grows-trans g.rows h.rows; limit = h.limit ∙ g.limit }

-- where rows grow, all of this stays
module _ (old new : List Row) (g : Grows old new) where
  -- where rows grow, a handle in range stays in range
  pub in_range-grows : (t : Table) (n : ℕ) → n < size old t → n < size new t
  in_range-grows t n h = rw g.kept (keeps g.more old t n h).0

  -- where rows grow, no table has fewer of them than before
  pub size-grows : (t : Table) → size old t ≤ size new t
  size-grows t = g.in_range t

  -- where rows grow, a handle in range keeps its tree
  pub meaning-grows : (t : Table) (n : ℕ) → n < size old t → meaning new t n ≡ meaning old t n
  meaning-grows t n h = rw g.kept (keeps g.more old t n h).1

  -- where rows grow, a shape in range stays in range
  pub IsPart-grows : (s : Shape) → IsPart (size old) s → IsPart (size new) s
  IsPart-grows s h = IsPart-more (size old) (size new) size-grows s h

  -- where rows grow, shapes in range stay in range
  pub AreParts-grows : (ss : Shapes) → AreParts (size old) ss → AreParts (size new) ss
  AreParts-grows ss h = AreParts-more (size old) (size new) size-grows ss h

  -- where rows grow, what a row holds stays in range
  pub HasParts-grows : (s : Shape) → HasParts (size old) s → HasParts (size new) s
  HasParts-grows s h = HasParts-more (size old) (size new) size-grows s h

  -- where rows grow, a shape in range keeps its tree
  pub fill-grows : (s : Shape) → IsPart (size old) s → fill (meaning new) s ≡ fill (meaning old) s
  fill-grows s h = fill-same (meaning new) (meaning old) (size old) meaning-grows s h

  -- where rows grow, shapes in range keep their trees
  pub fill_all-grows : (ss : Shapes) → AreParts (size old) ss → fill_all (meaning new) ss ≡ fill_all (meaning old) ss
  fill_all-grows ss h = fill_all-same (meaning new) (meaning old) (size old) meaning-grows ss h

  -- the same of what a row holds
  pub row-grows : (s : Shape) → HasParts (size old) s → fill (meaning new) s ≡ fill (meaning old) s
  row-grows s h = row-same (meaning new) (meaning old) (size old) meaning-grows s h

-- a list keeps its children
pub children_at-grows : (old new : List Row) → Grows old new → (l : AnyHandle) → l.number < size old (term_table l.table) → children_at new l ≡ children_at old l
unfolding children_at
children_at-grows old new g l h = ap children_of (rw g.kept (get_or-keeps g.more old (term_table l.table) l.number (text_row []) h))

-- a term keeps its kind
pub stored_kind-grows : (old new : List Row) → Grows old new → (n : AnyHandle) → n.number < size old (term_table n.table) → stored_kind new n ≡ stored_kind old n
unfolding stored_kind
stored_kind-grows old new g n h = ap row_kind (rw g.kept (get_or-keeps g.more old (term_table n.table) n.number (text_row []) h))

-- a row keeps its number
pub IsAt-grows : (old new : List Row) → Grows old new → (r : Row) (n : ℕ) → IsAt old r n → IsAt new r n
IsAt-grows old new g r n at =
    rw g.kept (slice_get-keeps g.more old (row_table r) n (slice_get_within (table (row_table r) old) n r at) ∙ at)
