-- The steps of the argument folder's hooks.
use Rattle.std.proofs.Common.{inl, inr, ◌≡◌, ℕ, zero, suc, ◌<◌, List, [], ◌∷◌, refl, sym, ap, subst, ◌∙◌, arith, true}
use Rattle.std.proofs.Common.{false}
use Rattle.std.specs.Prelude.{◌≢◌, IsTrue, Option, Some, None, slice_get, option_map}
use Rattle.std.proofs.lemmas.Option.{slice_get-map, slice_get_cases}
use Rattle.std.proofs.lemmas.List.{length-map}
use Rattle.tt_index.specs.declared.refusal.Refusal.{Refusal}
use Rattle.tt_index.specs.declared.refusal.Refusal.TheVariants.{Memory, TableFull, GreatestIndex, NoArguments}
use Rattle.tt_index.specs.declared.refusal.Refusal.TheVariants.{ArgOutOfRange, ArgKind, RegionVariable, NotAClause}
use Rattle.tt_index.specs.declared.refusal.Refusal.TheVariants.{NoSuchAnswer}
use Rattle.tt_kinds.specs.Label.{Name, Sort, region_sort, type_sort, const_sort, Label, const_label, is_type}
use Rattle.tt_kinds.specs.Label.{is_type_or_clause}
use Rattle.tt_kinds.specs.Tree.{Depth, at, canonical, Tree, Forest, param, bound, region, term, node, binder}
use Rattle.tt_kinds.specs.Reading.{place, read, moved, move, FitsAt, Fits}
use Rattle.tt_kinds.specs.Argument.{Argument, same_sort, argument}
use Rattle.tt_kinds.specs.Plain.{shift_tree, inst_tree}
use Rattle.tt_kinds.specs.Param.{holds_param, IsGeneric_among}
use Rattle.tt_kinds.specs.Cause.{Cause}
use Rattle.tt_kinds.specs.Shape.{IsPart, Meaning, fill, name_of}
use Rattle.tt_kinds.specs.Kinds.{arg_shape, region_shape, relabelled, form_shape, value_form, ty_kind_shape}
use Rattle.tt_kinds.specs.Kinds.{const_kind_shape}
use Rattle.tt_kinds.specs.Handle.{Ty}
use Rattle.tt_kinds.specs.declared.const_kind.ValTreeKind.{ValTreeKind}
use Rattle.tt_kinds.specs.declared.const_kind.ValTreeKind.TheVariants as valtree
use Rattle.tt_kinds.specs.declared.generic_arg.GenericArgKind.{GenericArgKind}
use Rattle.tt_kinds.specs.Bound.{depth, IsBelowGreatest}
use Rattle.tt_kinds.specs.RegionKind.{IsShallow}
use Rattle.tt_kinds.proofs.ReadingLaws.{place-outer}
use Rattle.tt_kinds.proofs.FitsLaws.{FitsUnder-past}
use Rattle.tt_kinds.proofs.ParamLaws.{IsGeneric_among-from_test}
use Rattle.tt_kinds.specs.declared.region_kind.EarlyParamRegion.{EarlyParamRegion}
use Rattle.tt_kinds.specs.declared.region_kind.RegionKind.{RegionKind}
use Rattle.tt_kinds.specs.declared.region_kind.RegionKind.TheVariants.{ReEarlyParam, ReBound, ReLateParam, ReStatic}
use Rattle.tt_kinds.specs.declared.region_kind.RegionKind.TheVariants.{ReVar, RePlaceholder, ReErased, ReError}
use Rattle.tt_kinds.specs.declared.ty_kind.ParamTy.{ParamTy}
use Rattle.tt_kinds.specs.declared.ty_kind.TyKind.{TyKind}
use Rattle.tt_kinds.specs.declared.ty_kind.TyKind.TheVariants as ty
use Rattle.tt_kinds.specs.declared.const_kind.ParamConst.{ParamConst}
use Rattle.tt_kinds.specs.declared.const_kind.ConstKind.{ConstKind}
use Rattle.tt_kinds.specs.declared.const_kind.ConstKind.TheVariants as const
use Rattle.tt_interner.specs.Rows.{Row, size}
use Rattle.tt_interner.specs.Stored.{counted, Terms}
use Rattle.tt_visit.specs.Types.{is_type_tree}
use Rattle.tt_fold.specs.Shift.{IsShiftRefusal}
use Rattle.tt_fold.specs.Steps.{IsRefused}
use Rattle.tt_fold.specs.Stands.{itself}
use Rattle.tt_fold.specs.Counts.{Standing}
use Rattle.tt_fold.specs.Walk.{replace, keep, descend}
use Rattle.tt_fold.specs.Places.{IsIn}
use Rattle.tt_fold.specs.Remember.{here, places, IsTaken, OnTerm, given, left_alone, taken_apart, gone_into, AfterTerm}
use Rattle.tt_fold.specs.Remember.{not_noted}
use Rattle.tt_interner.specs.Arguments.{arg_sort, argument_of, arguments, AreArguments}
use Rattle.tt_binder.specs.Instantiation.{Instantiation, Instantiates, PutsArgument, instantiation, LeafRefuses}
use Rattle.tt_binder.specs.Instantiation.{shift_unbuilt, shift_too_far, IsTypeOrClause, is_const, IsInnerConst}
use Rattle.tt_kinds.specs.Param.{IsParam}
use Rattle.tt_kinds.specs.Cause.{IsUntouched}
use Rattle.tt_binder.proofs.FlagLaws.{hides_none}
use Rattle.tt_binder.proofs.RowArguments.{IsTypeTree, IsConstTree, IsClauseTree}
use Rattle.tt_binder.proofs.WalkLaws.{on_true, const-gone, left_done}

-- the arguments aren't none
some_arguments : (rows : List Row) (items : List GenericArgKind) → items ≢ [] → arguments rows items ≢ []
some_arguments rows [] h e = h refl
some_arguments rows (x ∷ items) h e = cc

-- what the list of arguments has at an index
argument_at : (rows : List Row) (items : List GenericArgKind) (i : ℕ) (o : Option GenericArgKind) → slice_get items i ≡ o → slice_get (arguments rows items) i ≡ option_map (argument_of rows) o
argument_at rows items i o e = slice_get-map (argument_of rows) items i ∙ ap (option_map (argument_of rows)) e

-- there is none at the parameter's index
pub out_of_range : (rows : List Row) (items : List GenericArgKind) (s : Sort) (i : ℕ) (name : Name) → items ≢ [] → slice_get items i ≡ None
    → Cause (param s i name) (arguments rows items) (ArgOutOfRange i)
out_of_range rows items s i name some e = (
  some_arguments rows items some,
  refl,
  elim (slice_get_cases items i).1 [
    | inl within ↦ absurd (none_some _ (sym e ∙ within.2))
    | inr past ↦ omega (arith, past.0, length-map items (argument_of rows))
  ],
)
  where
    none_some : (x : GenericArgKind) → None ≡ Some x → ⊥
    none_some x h = cc

-- the one there is of another sort
pub of_other_sort : (rows : List Row) (items : List GenericArgKind) (s : Sort) (i : ℕ) (name : Name) (a : GenericArgKind) → slice_get items i ≡ Some a → same_sort s (arg_sort a) ≡ false
    → Cause (param s i name) (arguments rows items) (ArgKind i)
of_other_sort rows items s i name a e other = (refl, rw (argument_at rows items i (Some a) e, other) refl)

-- the one there is of the sort
pub argument_given : (rows : List Row) (items : List GenericArgKind) (s : Sort) (i : ℕ) (a : GenericArgKind) → slice_get items i ≡ Some a → same_sort s (arg_sort a) ≡ true
    → argument (arguments rows items) s i ≡ Some (argument_of rows a).value
argument_given rows items s i a e same = rw (argument_at rows items i (Some a) e, same) refl

-- an argument is among the rows
pub argument_part : (rows : List Row) (items : List GenericArgKind) (i : ℕ) (a : GenericArgKind) → AreArguments rows items → slice_get items i ≡ Some a → IsPart (size rows) (arg_shape a)
argument_part rows [] i a are e = cc
argument_part rows (x ∷ items) zero a are e = let same : x ≡ a = cc in rw same at are.0
argument_part rows (x ∷ items) (suc i) a are e = argument_part rows items i a are.1 e

-- a parameter's argument, shifted past the binders above it
pub given_done : (args : List (Argument Depth)) (k : ℕ) (s : Sort) (i : ℕ) (name : Name) (t r : Tree Depth) → argument args s i ≡ Some t → r ≡ shift_tree 0 k t → Instantiates args k (param s i name) r
given_done args k s i name t r a h = record { plain = h ∙ rw a refl; allows = record { answered = rw a refl; hides = λ x g. g } }

-- a shift that needs too great an index is past some binders
pub given_refused : (unbuilt : Tree Depth → Refusal → Type 0) (args : List (Argument Depth)) (k : ℕ) (s : Sort) (i : ℕ) (name : Name) (t : Tree Depth) (e : Refusal) → argument args s i ≡ Some t
    → 0 < k → e ≡ GreatestIndex → (Fits (move k (read 0 t)) → ⊥) → LeafRefuses unbuilt args k (param s i name) e
given_refused unbuilt args k s i name t e a below is h = shift_too_far below is (λ fits. h (FitsUnder-past k t (rw a at fits)))

-- a region in range fits where it is
shallow_fits : (f : Meaning) (r : RegionKind) → IsShallow r → Fits (move 0 (read 0 (fill f (region_shape r))))
unfolding fill
shallow_fits f (ReEarlyParam p) h = tt
shallow_fits f (ReBound i b) h = index_fits (depth i) h
  where
    index_fits : (d : Depth) → IsBelowGreatest d → FitsAt 0 (moved 0 (place 0 d))
    index_fits (at d) low = rw (place-outer 0 d (omega arith)) (omega (arith, low))
    index_fits canonical low = tt
shallow_fits f (ReLateParam p) h = tt
shallow_fits f ReStatic h = tt
shallow_fits f (ReVar v) h = tt
shallow_fits f (RePlaceholder p) h = tt
shallow_fits f ReErased h = tt
shallow_fits f (ReError e) h = tt

-- so a shift of it that is refused is past some binders
pub region_past : (f : Meaning) (r : RegionKind) (k : ℕ) → IsShallow r → (Fits (move k (read 0 (fill f (region_shape r)))) → ⊥) → 0 < k
region_past f r k shallow unfit = by k refl
  where
    by : (n : ℕ) → n ≡ k → 0 < k
    by zero e = absurd (unfit (rw (← e) (shallow_fits f r shallow)))
    by (suc n) e = omega (arith, e)

-- a refused shift past some binders
pub given_unshifted : (terms : Terms) (args : List (Argument Depth)) (k : ℕ) (s : Sort) (i : ℕ) (name : Name) (t : Tree Depth) (e : Refusal) → argument args s i ≡ Some t → 0 < k → IsShiftRefusal terms k t e
    → LeafRefuses (IsRefused terms) args k (param s i name) e
given_unshifted terms args k s i name t Memory a below h = shift_unbuilt below (inst_tree k args (param s i name)) itself (Memory, (refl, tt))
given_unshifted terms args k s i name t TableFull a below h = shift_unbuilt below h.0 (rw a h.1) (TableFull, (refl, h.2))
given_unshifted terms args k s i name t GreatestIndex a below h = given_refused (IsRefused terms) args k s i name t GreatestIndex a below refl h
given_unshifted terms args k s i name t NotAClause a below h = absurd h
given_unshifted terms args k s i name t NoSuchAnswer a below h = absurd h
given_unshifted terms args k s i name t NoArguments a below h = absurd h
given_unshifted terms args k s i name t (ArgOutOfRange index) a below h = absurd h
given_unshifted terms args k s i name t (ArgKind index) a below h = absurd h
given_unshifted terms args k s i name t (RegionVariable x) a below h = absurd h

-- a parameter by its sort and its index
pub param_by_index : (sort : Sort) (index : ℕ) (t : Tree Depth) → IsParam sort index t → (name : Name) × (t ≡ param sort index name)
param_by_index sort index (param s i name) h = (name, rw (h.0, h.1) refl)
param_by_index sort index (bound s d e) h = absurd h
param_by_index sort index (region r) h = absurd h
param_by_index sort index (term l ts) h = absurd h
param_by_index sort index (node l ts) h = absurd h
param_by_index sort index (binder vs t) h = absurd h

-- a type that holds a parameter and is none
pub record InnerType (t : Tree Depth) : Type 0 where
  pub label : Label Name
  pub children : Forest Depth
  pub is : t ≡ term label children
  pub kind : IsTrue (is_type label)
  pub generic : IsGeneric_among children

-- a type that holds a parameter and is none is a term, with a parameter among its children
pub inner_type : (t : Tree Depth) → IsTypeTree t → holds_param t ≡ true → ((i : ℕ) → IsParam type_sort i t → ⊥) → InnerType t
inner_type (param s i name) is h no_param = absurd (no_param i (is, refl))
inner_type (bound s d e) is h no_param = cc
inner_type (region r) is h no_param = absurd is
inner_type (term l ts) is h no_param = record { label = l; children = ts; is = refl; kind = is; generic = IsGeneric_among-from_test ts h }
inner_type (node l ts) is h no_param = absurd is
inner_type (binder vs t) is h no_param = absurd is

-- the kind of a term that is a parameter, and of one that is none
pub type_param_found : (f : Meaning) (p : ParamTy) → IsParam type_sort p.index (fill f (ty_kind_shape (ty.Param p)))
unfolding fill
type_param_found f p = (refl, refl)

-- the tree of a type whose kind is no parameter is no parameter
pub type_param_none : (f : Meaning) (k : TyKind) → ((p : ParamTy) → k ≡ ty.Param p → ⊥) → (i : ℕ) → IsParam type_sort i (fill f (ty_kind_shape k)) → ⊥
unfolding fill
type_param_none f (ty.Param p) other i h = other p refl
type_param_none f _ other i h = h

-- the tree of a constant whose kind is a parameter is a parameter of the same index
pub const_param_found : (f : Meaning) (p : ParamConst) → IsParam const_sort p.index (fill f (const_kind_shape (const.Param p)))
unfolding fill
const_param_found f p = (refl, refl)

value_none : (f : Meaning) (t : Ty) (v : ValTreeKind) (i : ℕ) → IsParam const_sort i (fill f (form_shape const_sort (relabelled const_label (value_form t v)))) → ⊥
unfolding fill
value_none f t (valtree.Leaf s) i h = h
value_none f t (valtree.Branch cs) i h = h

-- the tree of a constant whose kind is no parameter is no parameter
pub const_param_none : (f : Meaning) (k : ConstKind) → ((p : ParamConst) → k ≡ const.Param p → ⊥) → (i : ℕ) → IsParam const_sort i (fill f (const_kind_shape k)) → ⊥
unfolding fill
const_param_none f (const.Param p) other i h = other p refl
const_param_none f (const.Value v) other i h = value_none f v.ty v.valtree.kind i h
const_param_none f _ other i h = h

-- a region that is neither a parameter nor a variable is left as it is
pub region_untouched : (f : Meaning) (r : RegionKind) → ((p : EarlyParamRegion) → r ≡ ReEarlyParam p → ⊥) → ((v : ℕ) → r ≡ ReVar v → ⊥) → IsUntouched (fill f (region_shape r))
unfolding fill
region_untouched f (ReEarlyParam p) no_param no_var = absurd (no_param p refl)
region_untouched f (ReBound i b) no_param no_var = (refl, λ x h. h)
region_untouched f (ReLateParam p) no_param no_var = (refl, λ x h. h)
region_untouched f ReStatic no_param no_var = (refl, λ x h. h)
region_untouched f (ReVar v) no_param no_var = absurd (no_var v refl)
region_untouched f (RePlaceholder p) no_param no_var = (refl, λ x h. h)
region_untouched f ReErased no_param no_var = (refl, λ x h. h)
region_untouched f (ReError e) no_param no_var = (refl, λ x h. h)

-- one that is a parameter or a variable isn't
pub param_touched : (f : Meaning) (r : RegionKind) (p : EarlyParamRegion) → r ≡ ReEarlyParam p → IsUntouched (fill f (region_shape r)) → ⊥
unfolding fill
param_touched f r p e h = let left = rw e at h in let both = left.0 in cc

-- a region variable isn't left as it is
pub var_touched : (f : Meaning) (r : RegionKind) (v : ℕ) → r ≡ ReVar v → IsUntouched (fill f (region_shape r)) → ⊥
unfolding fill
var_touched f r v e h = let left = rw e at h in left.1 v refl

-- a region variable is refused where there are arguments
pub var_refused : (f : Meaning) (rows : List Row) (items : List GenericArgKind) (r : RegionKind) (v : ℕ) → r ≡ ReVar v → items ≢ [] → Cause (fill f (region_shape r)) (arguments rows items) (RegionVariable v)
unfolding fill
var_refused f rows items r v e some = rw e (some_arguments rows items some, refl)

-- a region parameter's tree
pub param_region : (f : Meaning) (r : RegionKind) (p : EarlyParamRegion) → r ≡ ReEarlyParam p → fill f (region_shape r) ≡ param region_sort p.index (name_of f p.name.number)
unfolding fill
param_region f r p e = rw e refl

-- the same of a tree that is another
pub leaf_at : (unbuilt : Tree Depth → Refusal → Type 0) (args : List (Argument Depth)) (k : ℕ) (t u : Tree Depth) (e : Refusal) → t ≡ u → LeafRefuses unbuilt args k u e → LeafRefuses unbuilt args k t e
leaf_at unbuilt args k t u e same h = subst (λ x. LeafRefuses unbuilt args k x e) (sym same) h

-- an instance of a tree is an instance of an equal tree
pub done_at : (args : List (Argument Depth)) (k : ℕ) (t u r : Tree Depth) → t ≡ u → Instantiates args k u r → Instantiates args k t r
done_at args k t u r same h = subst (λ x. Instantiates args k x r) (sym same) h

ap3 : {A B C D : Type 0} (f : A → B → C → D) {a a' : A} {b b' : B} {c c' : C} → a ≡ a' → b ≡ b' → c ≡ c' → f a b c ≡ f a' b' c'
ap3 f p q r = cc

-- the steps before a term's children
same_standing : (s s' : Standing Instantiation) (d n : ℕ) → s'.state ≡ s.state → s'.counters.descents ≡ d → s'.counters.shift_descents ≡ n
    → s' ≡ record { state = s.state; counters = record { descents = d; shift_descents = n } }
same_standing s s' d n state descents shifts = ap3 (λ q x y. record { state = q; counters = record { descents = x; shift_descents = y } }) state descents shifts

-- before a term's children: a parameter is replaced by the argument that is put for it
pub given_step : (s s' : Standing Instantiation) (t r : Tree Depth) (o : Sort) (i : ℕ) (name : Name) → t ≡ param o i name
    → s'.state ≡ record { rule = s.state.rule; under = s.state.under; kept = s'.state.kept; memory = s.state.memory }
    → PutsArgument s.state.rule s.state.under (param o i name) r s.state.kept s.counters s'.state.kept s'.counters → OnTerm instantiation s t (replace r) s'
given_step s s' t r o i name is state puts =
    subst (λ q. OnTerm instantiation s t (replace r) (record { state = q; counters = s'.counters })) (sym state)
    (given (subst (λ u. PutsArgument s.state.rule s.state.under u r s.state.kept s.counters s'.state.kept s'.counters) (sym is) puts))

-- a type that holds a parameter, is none and isn't remembered is taken apart, and counted
pub taken_step : (s s' : Standing Instantiation) (t : Tree Depth) → InnerType t → (IsIn (here s.state t) (places s.state.memory) → ⊥) → s'.state ≡ s.state
    → s'.counters.descents ≡ counted s.counters.descents → s'.counters.shift_descents ≡ s.counters.shift_descents → OnTerm instantiation s t descend s'
taken_step s s' t inner fresh state descents shifts =
    let same = same_standing s s' (counted s.counters.descents) s.counters.shift_descents state descents shifts in
    subst (λ q. OnTerm instantiation s t descend q) (sym same)
    (taken_apart (subst (λ u. IsTaken instantiation s.state.rule s.state.under u) (sym inner.is) (inner.kind, inner.generic)) fresh)

-- a predicate or a clause list that holds a parameter is entered
pub gone_step : (s : Standing Instantiation) (t : Tree Depth) → IsClauseTree t → holds_param t ≡ true → OnTerm instantiation s t descend s
gone_step s (term l ts) is h = gone_into is.0 (on_true (is_type_or_clause l) (IsGeneric_among-from_test ts h))
gone_step s _ is h = absurd is

-- a constant that is no parameter is gone into
const_label_other : (l : Label Name) → IsTrue (is_const l) → is_type l ≡ false
const_label_other (const_label l) is = refl
const_label_other _ is = cc

const_other : (t : Tree Depth) → IsInnerConst t → is_type_tree t ≡ false
const_other (bound s d e) is = rw is refl
const_other (term l ts) is = const_label_other l is
const_other _ is = absurd is

-- what came of a term that is no type isn't remembered
const_tree_other : (t : Tree Depth) → IsConstTree t → is_type_tree t ≡ false
const_tree_other (param s i name) is = rw is refl
const_tree_other (bound s d e) is = rw is refl
const_tree_other (term l ts) is = const_label_other l is
const_tree_other _ is = absurd is

-- the result of a constant isn't remembered
pub const_unnoted : (s : Standing Instantiation) (t r : Tree Depth) → IsConstTree t → AfterTerm instantiation s t r r s
const_unnoted s t r is = not_noted (const_tree_other t is)

-- the result of a predicate or a clause list isn't remembered
pub clause_unnoted : (s : Standing Instantiation) (t r : Tree Depth) → IsClauseTree t → AfterTerm instantiation s t r r s
clause_unnoted s (term l ts) r is = not_noted is.0
clause_unnoted s _ r is = absurd is

-- before a term's children: a constant that is no parameter is entered
pub const_step : (s : Standing Instantiation) (t : Tree Depth) → IsInnerConst t → OnTerm instantiation s t descend s
const_step s t is = gone_into (const_other t is) (const-gone t is)

-- what holds no parameter stays
pub left_step : (s : Standing Instantiation) (t : Tree Depth) → IsTypeOrClause t → holds_param t ≡ false → OnTerm instantiation s t keep s
left_step s t kind none = left_alone (left_done s.state.rule s.state.under t none (hides_none t kind none))
