-- The table of kinds, written by hand: what each kind adds by itself, and its children in order.
use Rattle.std.proofs.Common.{◌≡◌, ℕ, List, [], ◌∷◌, map, true, Option, Some, None, refl}
use Rattle.tt_index.specs.declared.numeric.IntTy.TheVariants as int
use Rattle.tt_index.specs.declared.numeric.UintTy.TheVariants as uint
use Rattle.tt_index.specs.declared.numeric.FloatTy.TheVariants as float
use Rattle.tt_index.specs.declared.qualifier.Mutability.TheVariants as mutability
use Rattle.tt_kinds.specs.declared.alias.AliasTyKind.{AliasTyKind}
use Rattle.tt_kinds.specs.declared.alias.AliasTyKind.TheVariants as alias
use Rattle.tt_kinds.specs.declared.binder.Binder.{Binder}
use Rattle.tt_kinds.specs.declared.bound.BoundTy.{BoundTy}
use Rattle.tt_kinds.specs.declared.bound.BoundConst.{BoundConst}
use Rattle.tt_kinds.specs.declared.bound.BoundTyKind.TheVariants as bound_ty
use Rattle.tt_kinds.specs.declared.bound.BoundVarIndexKind.TheVariants.{Bound, Canonical}
use Rattle.tt_kinds.specs.declared.const_kind.ConstKind.{ConstKind}
use Rattle.tt_kinds.specs.declared.const_kind.ConstKind.TheVariants as const
use Rattle.tt_kinds.specs.declared.const_kind.InferConst.TheVariants as infer_const
use Rattle.tt_kinds.specs.declared.const_kind.ValTreeKind.{ValTreeKind}
use Rattle.tt_kinds.specs.declared.const_kind.ValTreeKind.TheVariants as valtree
use Rattle.tt_kinds.specs.declared.existential.ExistentialPredicate.{ExistentialPredicate}
use Rattle.tt_kinds.specs.declared.existential.ExistentialPredicate.TheVariants as existential
use Rattle.tt_kinds.specs.declared.parts.Child.{Child}
use Rattle.tt_kinds.specs.declared.parts.Child.TheVariants as child
use Rattle.tt_kinds.specs.declared.parts.Kind.{Kind}
use Rattle.tt_kinds.specs.declared.parts.Kind.TheVariants as kind
use Rattle.tt_kinds.specs.declared.parts.Parts.{Parts}
use Rattle.tt_kinds.specs.declared.pattern.PatternKind.TheVariants as pattern
use Rattle.tt_kinds.specs.declared.placeholder.Placeholder.{Placeholder}
use Rattle.tt_kinds.specs.declared.predicate.BoundConstness.TheVariants as constness
use Rattle.tt_kinds.specs.declared.predicate.TraitRef.{TraitRef}
use Rattle.tt_kinds.specs.declared.alias.AliasTerm.{AliasTerm}
use Rattle.tt_kinds.specs.declared.predicate_kind.AliasRelationDirection.TheVariants as direction
use Rattle.tt_kinds.specs.declared.predicate_kind.ClauseKind.{ClauseKind}
use Rattle.tt_kinds.specs.declared.predicate_kind.ClauseKind.TheVariants as clause
use Rattle.tt_kinds.specs.declared.predicate_kind.PredicateKind.{PredicateKind}
use Rattle.tt_kinds.specs.declared.predicate_kind.PredicateKind.TheVariants as predicate
use Rattle.tt_kinds.specs.declared.region_kind.RegionKind.TheVariants.{ReStatic, ReErased}
use Rattle.tt_kinds.specs.declared.term.Term.{Term}
use Rattle.tt_kinds.specs.declared.term.TermKind.TheVariants as term
use Rattle.tt_kinds.specs.declared.ty_kind.InferTy.TheVariants as infer
use Rattle.tt_kinds.specs.declared.ty_kind.TyKind.{TyKind}
use Rattle.tt_kinds.specs.declared.ty_kind.TyKind.TheVariants as ty
use Rattle.tt_kinds.specs.Handle.{handle, Ty, Const, Pat, Tys, Consts, PatList, GenericArgs, BoundExistentialPredicates}
use Rattle.tt_kinds.specs.Handle.{BoundVarKinds}
use Rattle.tt_kinds.specs.Id.{id_of}
use Rattle.tt_kinds.specs.Kinds.{form_parts, form_binder, kind_form, kind_sort}
use Rattle.tt_kinds.specs.OwnFlags.{own_flags, own_reach}
use Rattle.tt_kinds.specs.Parts.{child_in, no_parts, one_part, two_parts}
use Rattle.tt_kinds.specs.declared.table.TermTable.TheVariants as table

-- what a table says of a kind: its own flags, how far it reaches by itself, the variables of the binder around its
-- children, and its children
abbrev Row : Type 0
Row = ℕ × ℕ × Option BoundVarKinds × Parts

-- what the definitions say of a kind
abbrev row_of : Kind → Row
row_of k = (own_flags (kind_sort k) (kind_form k), own_reach (kind_form k), form_binder (kind_form k), form_parts (kind_form k))

-- the definitions say of each kind what its row says
abbrev Agree : {K : Type 0} → (K → Kind) → List (K × Row) → Type 0
Agree of_table rows = map (λ r. row_of (of_table r.0)) rows ≡ map (λ r. r.1) rows

-- a kind with flags of its own, and one with such flags around children
abbrev flagged : ℕ → Row
flagged flags = (flags, 0, None, no_parts)

abbrev around : ℕ → Parts → Row
around flags ps = (flags, 0, None, ps)

-- a kind without flags of its own: around children, and around children under its binder
abbrev plain : Parts → Row
plain = around 0

abbrev under : BoundVarKinds → Parts → Row
under vars ps = (0, 0, Some vars, ps)

-- terms and lists to be children
abbrev pub t : Ty
t = handle 0

abbrev pub u : Ty
u = handle 1

abbrev pub c : Const
c = handle 0

abbrev pub d : Const
d = handle 1

abbrev pub p : Pat
p = handle 0

abbrev pub tys : Tys
tys = handle 0

abbrev pub args : GenericArgs
args = handle 0

abbrev pub consts : Consts
consts = handle 0

abbrev pub pats : PatList
pats = handle 0

abbrev pub existentials : BoundExistentialPredicates
existentials = handle 0

abbrev pub vars : BoundVarKinds
vars = handle 0

-- these as children
abbrev the_type : Ty → Child
the_type x = child_in table.Types x

abbrev the_const : Const → Child
the_const x = child_in table.Consts x

abbrev the_tys : Child
the_tys = child_in table.TypeLists tys

abbrev the_args : Child
the_args = child_in table.ArgLists args

-- a type and a constant as terms
abbrev pub type_term : Ty → Term
type_term x = record { kind = term.Ty x }

abbrev pub const_term : Const → Term
const_term x = record { kind = term.Const x }

-- a value under a binder of these variables
abbrev pub bound : {T : Type 0} → T → Binder T
bound x = record { value = x; bound_vars = vars }

-- the variable of number 1, as a type and as a constant, and placeholders of these
abbrev pub a_type : BoundTy
a_type = record { var = 1; kind = bound_ty.Anon }

abbrev pub a_const : BoundConst
a_const = record { var = 1 }

abbrev pub placeholder : {T : Type 0} → T → Placeholder T
placeholder x = record { universe = 3; bound = x }

-- types without children: the flags that each has by itself
type_leaves : Agree kind.Ty (
    (ty.Bool, plain no_parts)
    ∷ (ty.Char, plain no_parts)
    ∷ (ty.Int int.I8, plain no_parts)
    ∷ (ty.Uint uint.U8, plain no_parts)
    ∷ (ty.Float float.F32, plain no_parts)
    ∷ (ty.Str, plain no_parts)
    ∷ (ty.Never, plain no_parts)
    ∷ (ty.Foreign (id_of 0), plain no_parts)
    ∷ (ty.Param (record { index = 0; name = handle 0 }), flagged 0x1)
    ∷ (ty.Placeholder (placeholder a_type), flagged 0x40)
    ∷ (ty.Infer (infer.TyVar 0), flagged 0x8)
    ∷ (ty.Infer (infer.IntVar 0), flagged 0x8)
    ∷ (ty.Infer (infer.FloatVar 0), flagged 0x8)
    ∷ (ty.Infer (infer.FreshTy 0), flagged 0x400000)
    ∷ (ty.Infer (infer.FreshIntTy 0), flagged 0x400000)
    ∷ (ty.Infer (infer.FreshFloatTy 0), flagged 0x400000)
    ∷ (ty.Error (record { 0 = 1 }), flagged 0x8000)
    ∷ [])
type_leaves = refl

-- a bound type reaches one binder further than its index, and a canonical one has a flag more and points to no binder
bound_types : Agree kind.Ty (
    (ty.Bound (Bound 2) a_type, (0x80000, 3, None, no_parts))
    ∷ (ty.Bound Canonical a_type, flagged 0x4080000)
    ∷ [])
bound_types = refl

-- types with children, in order: of these a coroutine alone has a flag of its own
type_nodes : Agree kind.Ty (
    (ty.Adt (id_of 0) args, plain (one_part the_args))
    ∷ (ty.FnDef (id_of 0) args, plain (one_part the_args))
    ∷ (ty.Closure (id_of 0) args, plain (one_part the_args))
    ∷ (ty.CoroutineClosure (id_of 0) args, plain (one_part the_args))
    ∷ (ty.Coroutine (id_of 0) args, around 0x2000000 (one_part the_args))
    ∷ (ty.CoroutineWitness (id_of 0) args, plain (one_part the_args))
    ∷ (ty.Array t c, plain (two_parts (the_type t) (the_const c)))
    ∷ (ty.Pat t p, plain (two_parts (the_type t) (child_in table.Patterns p)))
    ∷ (ty.Slice t, plain (one_part (the_type t)))
    ∷ (ty.RawPtr t mutability.Mut, plain (one_part (the_type t)))
    ∷ (ty.Ref ReStatic t mutability.«Not», plain (two_parts (child.Region ReStatic) (the_type t)))
    ∷ (ty.Tuple tys, plain (one_part the_tys))
    ∷ (ty.Dynamic existentials ReErased, plain (two_parts (child_in table.ExistentialLists existentials) (child.Region ReErased)))
    ∷ [])
type_nodes = refl

-- an alias of this kind
abbrev pub alias_of : AliasTyKind → TyKind
alias_of k = ty.Alias (record { args = args; kind = k })

-- each kind of alias has a flag of its own
alias_nodes : Agree kind.Ty (
    (alias_of (alias.Projection (id_of 0)), around 0x400 (one_part the_args))
    ∷ (alias_of (alias.Free (id_of 0)), around 0x800 (one_part the_args))
    ∷ (alias_of (alias.Opaque (id_of 0)), around 0x1000 (one_part the_args))
    ∷ (alias_of (alias.Inherent (id_of 0)), around 0x2000 (one_part the_args))
    ∷ [])
alias_nodes = refl

-- pointers to functions and unsafe binders have their children under their binder
type_binders : Agree kind.Ty (
    (ty.FnPtr (bound (record { inputs_and_output = tys })) (record { fn_sig_kind = record { flags = 0; splat = 65535 } }), under vars (one_part the_tys))
    ∷ (ty.UnsafeBinder (record { 0 = bound t }), under vars (one_part (the_type t)))
    ∷ [])
type_binders = refl

-- a value of a type
abbrev pub value_of : ValTreeKind → ConstKind
value_of k = const.Value (record { ty = t; valtree = record { kind = k } })

-- each kind of constant: its own flags, how far it reaches by itself, and its children
const_kinds : Agree kind.Const (
    (const.Param (record { index = 0; name = handle 0 }), flagged 0x4)
    ∷ (const.Infer (infer_const.Var 0), flagged 0x20)
    ∷ (const.Infer (infer_const.Fresh 0), flagged 0x800000)
    ∷ (const.Bound (Bound 4) a_const, (0x100000, 5, None, no_parts))
    ∷ (const.Bound Canonical a_const, flagged 0x4100000)
    ∷ (const.Placeholder (placeholder a_const), flagged 0x100)
    ∷ (const.Error (record { 0 = 1 }), flagged 0x8000)
    ∷ (const.Unevaluated (record { def = id_of 0; args = args }), around 0x4000 (one_part the_args))
    ∷ (value_of (valtree.Leaf (record { bits = 7; size = 1 })), plain (one_part (the_type t)))
    ∷ (value_of (valtree.Branch consts), plain (two_parts (the_type t) (child_in table.ConstLists consts)))
    ∷ (const.Expr (record { tag = 5; args = args }), plain (one_part the_args))
    ∷ [])
const_kinds = refl

-- patterns have no flag of their own: their children in order
pattern_kinds : Agree kind.Pat (
    (pattern.Range c d, plain (two_parts (the_const c) (the_const d)))
    ∷ (pattern.Or pats, plain (one_part (child_in table.PatternLists pats)))
    ∷ (pattern.NotNull, plain no_parts)
    ∷ [])
pattern_kinds = refl

-- a predicate, a clause and an existential predicate under a binder
abbrev pub of_predicate : PredicateKind → Kind
of_predicate k = kind.Predicate (bound k)

abbrev pub of_clause : ClauseKind → Kind
of_clause k = of_predicate (predicate.Clause k)

abbrev of_existential : ExistentialPredicate → Kind
of_existential k = kind.Existential (bound k)

-- what some predicates are about
abbrev pub trait_ref : TraitRef
trait_ref = record { def_id = id_of 0; args = args }

abbrev pub alias_term : AliasTerm
alias_term = record { args = args; def_id = record { number = 0 } }

-- clauses: no flag of their own, and each has its children under the binder
clause_kinds : Agree of_clause (
    (clause.Trait (record { trait_ref = trait_ref }), under vars (one_part the_args))
    ∷ (clause.HostEffect (record { trait_ref = trait_ref; constness = constness.Maybe }), under vars (one_part the_args))
    ∷ (clause.RegionOutlives (record { 0 = ReStatic; 1 = ReErased }), under vars (two_parts (child.Region ReStatic) (child.Region ReErased)))
    ∷ (clause.TypeOutlives (record { 0 = t; 1 = ReErased }), under vars (two_parts (the_type t) (child.Region ReErased)))
    ∷ (clause.Projection (record { projection_term = alias_term; term = const_term c }), under vars (two_parts the_args (the_const c)))
    ∷ (clause.ConstArgHasType c t, under vars (two_parts (the_const c) (the_type t)))
    ∷ (clause.WellFormed (type_term t), under vars (one_part (the_type t)))
    ∷ (clause.WellFormed (const_term c), under vars (one_part (the_const c)))
    ∷ (clause.ConstEvaluatable c, under vars (one_part (the_const c)))
    ∷ (clause.UnstableFeature (handle 0), under vars no_parts)
    ∷ [])
clause_kinds = refl

-- predicates that are no clauses have their children under the binder too, and no flag of their own
predicate_kinds : Agree of_predicate (
    (predicate.DynCompatible (id_of 0), under vars no_parts)
    ∷ (predicate.Ambiguous, under vars no_parts)
    ∷ (predicate.Subtype (record { a_is_expected = true; a = t; b = u }), under vars (two_parts (the_type t) (the_type u)))
    ∷ (predicate.Coerce (record { a = t; b = u }), under vars (two_parts (the_type t) (the_type u)))
    ∷ (predicate.ConstEquate c d, under vars (two_parts (the_const c) (the_const d)))
    ∷ (predicate.NormalizesTo (record { alias = alias_term; term = type_term t }), under vars (two_parts the_args (the_type t)))
    ∷ (predicate.AliasRelate (type_term t) (const_term c) direction.Equate, under vars (two_parts (the_type t) (the_const c)))
    ∷ [])
predicate_kinds = refl

-- existential predicates have their children under their own binder, and no flag of their own
existential_kinds : Agree of_existential (
    (existential.Trait (record { def_id = id_of 0; args = args }), under vars (one_part the_args))
    ∷ (existential.Projection (record { def_id = record { number = 0 }; args = args; term = type_term t }), under vars (two_parts the_args (the_type t)))
    ∷ (existential.AutoTrait (id_of 0), under vars no_parts)
    ∷ [])
existential_kinds = refl
