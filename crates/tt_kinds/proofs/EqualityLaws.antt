-- The `==` of types, regions and arguments holds of equal values alone.
use Rattle.std.proofs.Common.{◌≡◌, ℕ, Bool, true, false, ◌&&◌, eqb, refl, ap, subst}
use Rattle.std.proofs.lemmas.Bool.{eqb-true, false≢true}
use Rattle.tt_index.specs.declared.numeric.IntTy.{IntTy}
use Rattle.tt_index.specs.declared.numeric.IntTy.TheVariants.{Isize, I8, I16, I32, I64, I128}
use Rattle.tt_index.specs.declared.numeric.UintTy.{UintTy}
use Rattle.tt_index.specs.declared.numeric.UintTy.TheVariants.{Usize, U8, U16, U32, U64, U128}
use Rattle.tt_index.specs.declared.numeric.FloatTy.{FloatTy}
use Rattle.tt_index.specs.declared.numeric.FloatTy.TheVariants.{F16, F32, F64, F128}
use Rattle.tt_index.specs.declared.qualifier.Mutability.{Mutability}
use Rattle.tt_index.specs.declared.qualifier.Mutability.TheVariants.{Not, Mut}
use Rattle.tt_kinds.specs.declared.alias.AliasTyKind.{AliasTyKind}
use Rattle.tt_kinds.specs.declared.alias.AliasTyKind.TheVariants as alias
use Rattle.tt_kinds.specs.contracts.alias.AliasTyKindPartialEq.TheImpl as aliases
use Rattle.tt_kinds.specs.declared.bound.BoundVarIndexKind.{BoundVarIndexKind}
use Rattle.tt_kinds.specs.declared.bound.BoundVarIndexKind.TheVariants.{Bound as BoundIndex, Canonical}
use Rattle.tt_kinds.specs.declared.bound.BoundRegionKind.{BoundRegionKind}
use Rattle.tt_kinds.specs.declared.bound.BoundRegionKind.TheVariants as region_kind
use Rattle.tt_kinds.specs.declared.bound.BoundTyKind.{BoundTyKind}
use Rattle.tt_kinds.specs.declared.bound.BoundTyKind.TheVariants as ty_var_kind
use Rattle.tt_kinds.specs.declared.bound.BoundTy.{BoundTy}
use Rattle.tt_kinds.specs.declared.bound.BoundRegion.{BoundRegion}
use Rattle.tt_kinds.specs.declared.bound.BoundVariableKind.{BoundVariableKind}
use Rattle.tt_kinds.specs.declared.bound.BoundVariableKind.TheVariants as variable
use Rattle.tt_kinds.specs.declared.placeholder.Placeholder.{Placeholder}
use Rattle.tt_kinds.specs.declared.fn_sig.FnSigTys.{FnSigTys}
use Rattle.tt_kinds.specs.declared.fn_sig.FnHeader.{FnHeader}
use Rattle.tt_kinds.specs.declared.binder.Binder.{Binder}
use Rattle.tt_kinds.specs.declared.region_kind.RegionKind.{RegionKind}
use Rattle.tt_kinds.specs.declared.region_kind.RegionKind.TheVariants.{ReEarlyParam, ReBound, ReLateParam, ReStatic}
use Rattle.tt_kinds.specs.declared.region_kind.RegionKind.TheVariants.{ReVar, RePlaceholder, ReErased, ReError}
use Rattle.tt_kinds.specs.declared.generic_arg.GenericArgKind.{GenericArgKind}
use Rattle.tt_kinds.specs.declared.generic_arg.GenericArgKind.TheVariants as arg
use Rattle.tt_kinds.specs.declared.ty_kind.InferTy.{InferTy}
use Rattle.tt_kinds.specs.declared.ty_kind.InferTy.TheVariants.{TyVar, IntVar, FloatVar, FreshTy, FreshIntTy}
use Rattle.tt_kinds.specs.declared.ty_kind.InferTy.TheVariants.{FreshFloatTy}
use Rattle.tt_kinds.specs.declared.ty_kind.TyKind.{TyKind}
use Rattle.tt_kinds.specs.declared.ty_kind.TyKind.TheVariants as ty
use Rattle.tt_index.specs.contracts.numeric.IntTyPartialEq.TheImpl as ints
use Rattle.tt_index.specs.contracts.numeric.UintTyPartialEq.TheImpl as uints
use Rattle.tt_index.specs.contracts.numeric.FloatTyPartialEq.TheImpl as floats
use Rattle.tt_index.specs.contracts.qualifier.MutabilityPartialEq.TheImpl as mutabilities
use Rattle.tt_kinds.specs.declared.handle.Handle.{Handle}
use Rattle.tt_kinds.specs.contracts.bound.BoundVarIndexKindPartialEq.TheImpl as indices
use Rattle.tt_kinds.specs.contracts.bound.BoundRegionKindPartialEq.TheImpl as region_kinds
use Rattle.tt_kinds.specs.contracts.bound.BoundTyKindPartialEq.TheImpl as ty_var_kinds
use Rattle.tt_kinds.specs.contracts.bound.BoundRegionPartialEq.TheImpl as bound_regions
use Rattle.tt_kinds.specs.contracts.bound.BoundTyPartialEq.TheImpl as bound_types
use Rattle.tt_kinds.specs.contracts.bound.BoundVariableKindPartialEq.TheImpl as variables
use Rattle.tt_kinds.specs.contracts.region_kind.RegionKindPartialEq.TheImpl as regions
use Rattle.tt_kinds.specs.contracts.generic_arg.GenericArgPartialEq.TheImpl as args
use Rattle.tt_kinds.specs.contracts.ty_kind.InferTyPartialEq.TheImpl as infers
use Rattle.tt_kinds.specs.contracts.ty_kind.TyKindPartialEq.TheImpl as kinds
use Rattle.tt_index.specs.Equality.{IsSameness}
use Rattle.tt_kinds.specs.Id.{id_of}
use Rattle.tt_kinds.specs.Handle.{handle}

-- an equality that holds of equal values alone, and of each value and itself
pub sameness : {A : Type 0} (eq : A → A → Bool) → ((a b : A) → eq a b ≡ true → a ≡ b) → ((a : A) → eq a a ≡ true) → IsSameness eq
sameness eq exact same a b = (exact a b, λ e. subst (λ x. eq a x ≡ true) e (same a))

-- both parts of a test hold
pub both : (a b : Bool) → (a && b) ≡ true → (a ≡ true) × (b ≡ true)
both true b e = (refl, e)
both false b e = absurd (false≢true e)

-- two parts that are equal where their tests hold
pub two_exact : {X Y Z : Type 0} (make : X → Y → Z) (s t : Bool) {a a' : X} {b b' : Y} → (s ≡ true → a ≡ a') → (t ≡ true → b ≡ b') → (s && t) ≡ true → make a b ≡ make a' b'
two_exact make s t first second e = let h = both s t e in let p = first h.0 in let q = second h.1 in λ i. make (p i) (q i)

-- two numbers
pub two_numbers : {Z : Type 0} (make : ℕ → ℕ → Z) (n m n' m' : ℕ) → (eqb n n' && eqb m m') ≡ true → make n m ≡ make n' m'
two_numbers make n m n' m' e = two_exact make (eqb n n') (eqb m m') (eqb-true n n') (eqb-true m m') e

int_exact : (a b : IntTy) → (ints.ghosts).eq a b ≡ true → a ≡ b
int_exact Isize Isize e = refl
int_exact I8 I8 e = refl
int_exact I16 I16 e = refl
int_exact I32 I32 e = refl
int_exact I64 I64 e = refl
int_exact I128 I128 e = refl
int_exact _ _ e = absurd (false≢true e)

uint_exact : (a b : UintTy) → (uints.ghosts).eq a b ≡ true → a ≡ b
uint_exact Usize Usize e = refl
uint_exact U8 U8 e = refl
uint_exact U16 U16 e = refl
uint_exact U32 U32 e = refl
uint_exact U64 U64 e = refl
uint_exact U128 U128 e = refl
uint_exact _ _ e = absurd (false≢true e)

float_exact : (a b : FloatTy) → (floats.ghosts).eq a b ≡ true → a ≡ b
float_exact F16 F16 e = refl
float_exact F32 F32 e = refl
float_exact F64 F64 e = refl
float_exact F128 F128 e = refl
float_exact _ _ e = absurd (false≢true e)

mutability_exact : (a b : Mutability) → (mutabilities.ghosts).eq a b ≡ true → a ≡ b
mutability_exact Not Not e = refl
mutability_exact Mut Mut e = refl
mutability_exact _ _ e = absurd (false≢true e)

-- indices of bound variables are equal where `==` holds of them
pub index_exact : (a b : BoundVarIndexKind) → (indices.ghosts).eq a b ≡ true → a ≡ b
index_exact (BoundIndex d) (BoundIndex c) e = ap BoundIndex (eqb-true d c e)
index_exact Canonical Canonical e = refl
index_exact _ _ e = absurd (false≢true e)

region_kind_exact : (a b : BoundRegionKind) → (region_kinds.ghosts).eq a b ≡ true → a ≡ b
region_kind_exact region_kind.Anon region_kind.Anon e = refl
region_kind_exact (region_kind.NamedForPrinting n) (region_kind.NamedForPrinting m) e = ap (λ k. region_kind.NamedForPrinting (handle k)) (eqb-true n.number m.number e)
region_kind_exact (region_kind.Named n) (region_kind.Named m) e = ap (λ k. region_kind.Named (record { number = k })) (eqb-true n.number m.number e)
region_kind_exact region_kind.ClosureEnv region_kind.ClosureEnv e = refl
region_kind_exact _ _ e = absurd (false≢true e)

ty_var_kind_exact : (a b : BoundTyKind) → (ty_var_kinds.ghosts).eq a b ≡ true → a ≡ b
ty_var_kind_exact ty_var_kind.Anon ty_var_kind.Anon e = refl
ty_var_kind_exact (ty_var_kind.Param n) (ty_var_kind.Param m) e = ap (λ k. ty_var_kind.Param (record { number = k })) (eqb-true n.number m.number e)
ty_var_kind_exact _ _ e = absurd (false≢true e)

bound_region_exact : (a b : BoundRegion) → (bound_regions.ghosts).eq a b ≡ true → a ≡ b
bound_region_exact a b = two_exact (λ v k. record { var = v; kind = k }) (eqb a.var b.var) ((region_kinds.ghosts).eq a.kind b.kind) (eqb-true a.var b.var) (region_kind_exact a.kind b.kind)

bound_ty_exact : (a b : BoundTy) → (bound_types.ghosts).eq a b ≡ true → a ≡ b
bound_ty_exact a b = two_exact (λ v k. record { var = v; kind = k }) (eqb a.var b.var) ((ty_var_kinds.ghosts).eq a.kind b.kind) (eqb-true a.var b.var) (ty_var_kind_exact a.kind b.kind)

-- placeholders are equal where their universes are and an exact test of what is bound holds
pub placeholder_exact : {T : Type 0} (eq : T → T → Bool) → ((a b : T) → eq a b ≡ true → a ≡ b) → (a b : Placeholder T) → (eqb a.universe b.universe && eq a.bound b.bound) ≡ true → a ≡ b
placeholder_exact eq exact a b = two_exact (λ u x. record { universe = u; bound = x }) (eqb a.universe b.universe) (eq a.bound b.bound) (eqb-true a.universe b.universe) (exact a.bound b.bound)

infer_exact : (a b : InferTy) → (infers.ghosts).eq a b ≡ true → a ≡ b
infer_exact (TyVar n) (TyVar m) e = ap TyVar (eqb-true n m e)
infer_exact (IntVar n) (IntVar m) e = ap IntVar (eqb-true n m e)
infer_exact (FloatVar n) (FloatVar m) e = ap FloatVar (eqb-true n m e)
infer_exact (FreshTy n) (FreshTy m) e = ap FreshTy (eqb-true n m e)
infer_exact (FreshIntTy n) (FreshIntTy m) e = ap FreshIntTy (eqb-true n m e)
infer_exact (FreshFloatTy n) (FreshFloatTy m) e = ap FreshFloatTy (eqb-true n m e)
infer_exact _ _ e = absurd (false≢true e)

-- handles, by their numbers
abbrev pub handle_eq : {K : Type 0} → Handle K → Handle K → Bool
handle_eq a b = eqb a.number b.number

-- handles of one table are equal where their numbers are
pub handle_exact : {K : Type 0} (a b : Handle K) → handle_eq a b ≡ true → a ≡ b
handle_exact a b e = ap (λ n. handle n) (eqb-true a.number b.number e)

alias_exact : (a b : AliasTyKind) → (aliases.ghosts).eq a b ≡ true → a ≡ b
alias_exact (alias.Projection n) (alias.Projection m) e = ap (λ k. alias.Projection (id_of k)) (eqb-true n.number m.number e)
alias_exact (alias.Inherent n) (alias.Inherent m) e = ap (λ k. alias.Inherent (id_of k)) (eqb-true n.number m.number e)
alias_exact (alias.Opaque n) (alias.Opaque m) e = ap (λ k. alias.Opaque (id_of k)) (eqb-true n.number m.number e)
alias_exact (alias.Free n) (alias.Free m) e = ap (λ k. alias.Free (id_of k)) (eqb-true n.number m.number e)
alias_exact _ _ e = absurd (false≢true e)

header_exact : (a b : FnHeader) → (eqb a.fn_sig_kind.flags b.fn_sig_kind.flags && eqb a.fn_sig_kind.splat b.fn_sig_kind.splat) ≡ true → a ≡ b
header_exact a b e =
    two_numbers (λ n m. record { fn_sig_kind = record { flags = n; splat = m } }) a.fn_sig_kind.flags a.fn_sig_kind.splat b.fn_sig_kind.flags b.fn_sig_kind.splat e

binder_exact : (a b : Binder FnSigTys) → (eqb a.value.inputs_and_output.number b.value.inputs_and_output.number && eqb a.bound_vars.number b.bound_vars.number) ≡ true → a ≡ b
binder_exact a b e =
    let h = both (eqb a.value.inputs_and_output.number b.value.inputs_and_output.number) (eqb a.bound_vars.number b.bound_vars.number) e in
    let values = eqb-true a.value.inputs_and_output.number b.value.inputs_and_output.number h.0 in
    let vars = eqb-true a.bound_vars.number b.bound_vars.number h.1 in
    λ i. record { value = record { inputs_and_output = handle (values i) }; bound_vars = handle (vars i) }

-- regions are equal where `==` holds of them
pub region_exact : (a b : RegionKind) → (regions.ghosts).eq a b ≡ true → a ≡ b
region_exact (ReEarlyParam p) (ReEarlyParam q) e =
    let h = both (eqb p.index q.index) (eqb p.name.number q.name.number) e in
    let indices = eqb-true p.index q.index h.0 in let names = handle_exact p.name q.name h.1 in
    λ i. ReEarlyParam (record { index = indices i; name = names i })
region_exact (ReBound i b) (ReBound j c) e =
    let h = both ((indices.ghosts).eq i j) ((bound_regions.ghosts).eq b c) e in
    let depths = index_exact i j h.0 in let variables = bound_region_exact b c h.1 in cc
region_exact (ReLateParam p) (ReLateParam q) e =
    two_exact (λ n k. ReLateParam (record { scope = record { number = n }; kind = k })) (eqb p.scope.number q.scope.number) ((region_kinds.ghosts).eq p.kind q.kind) (eqb-true p.scope.number q.scope.number) (region_kind_exact p.kind q.kind) e
region_exact ReStatic ReStatic e = refl
region_exact (ReVar v) (ReVar w) e = ap ReVar (eqb-true v w e)
region_exact (RePlaceholder p) (RePlaceholder q) e = ap RePlaceholder (placeholder_exact (bound_regions.ghosts).eq bound_region_exact p q e)
region_exact ReErased ReErased e = refl
region_exact (ReError x) (ReError y) e = ap (λ n. ReError (record { 0 = n })) (eqb-true x.0 y.0 e)
region_exact _ _ e = absurd (false≢true e)

-- the kinds of two bound variables are equal where `==` holds of them
pub var_exact : (a b : BoundVariableKind) → (variables.ghosts).eq a b ≡ true → a ≡ b
var_exact (variable.Ty k) (variable.Ty l) e = ap variable.Ty (ty_var_kind_exact k l e)
var_exact (variable.Region k) (variable.Region l) e = ap variable.Region (region_kind_exact k l e)
var_exact variable.Const variable.Const e = refl
var_exact _ _ e = absurd (false≢true e)

-- generic arguments are equal where `==` holds of them
pub arg_exact : (a b : GenericArgKind) → (args.ghosts).eq a b ≡ true → a ≡ b
arg_exact (arg.Lifetime a) (arg.Lifetime b) e = ap arg.Lifetime (region_exact a b e)
arg_exact (arg.«Type» a) (arg.«Type» b) e = ap arg.«Type» (handle_exact a b e)
arg_exact (arg.Const a) (arg.Const b) e = ap arg.Const (handle_exact a b e)
arg_exact _ _ e = absurd (false≢true e)

-- kinds of types are equal where `==` holds of them
pub kind_exact : (a b : TyKind) → (kinds.ghosts).eq a b ≡ true → a ≡ b
kind_exact ty.Bool ty.Bool e = refl
kind_exact ty.Char ty.Char e = refl
kind_exact (ty.Int i) (ty.Int j) e = ap ty.Int (int_exact i j e)
kind_exact (ty.Uint i) (ty.Uint j) e = ap ty.Uint (uint_exact i j e)
kind_exact (ty.Float f) (ty.Float g) e = ap ty.Float (float_exact f g e)
kind_exact ty.Str ty.Str e = refl
kind_exact ty.Never ty.Never e = refl
kind_exact (ty.Param p) (ty.Param q) e =
    let h = both (eqb p.index q.index) (eqb p.name.number q.name.number) e in
    let indices = eqb-true p.index q.index h.0 in let names = handle_exact p.name q.name h.1 in
    λ i. ty.Param (record { index = indices i; name = names i })
kind_exact (ty.Bound i b) (ty.Bound j c) e =
    let h = both ((indices.ghosts).eq i j) ((bound_types.ghosts).eq b c) e in
    let depths = index_exact i j h.0 in let variables = bound_ty_exact b c h.1 in cc
kind_exact (ty.Placeholder p) (ty.Placeholder q) e = ap ty.Placeholder (placeholder_exact (bound_types.ghosts).eq bound_ty_exact p q e)
kind_exact (ty.Infer i) (ty.Infer j) e = ap ty.Infer (infer_exact i j e)
kind_exact (ty.Error x) (ty.Error y) e = ap (λ n. ty.Error (record { 0 = n })) (eqb-true x.0 y.0 e)
kind_exact (ty.Ref r t m) (ty.Ref r' t' m') e =
    let h = both ((regions.ghosts).eq r r') (handle_eq t t' && (mutabilities.ghosts).eq m m') e in
    let k = both (handle_eq t t') ((mutabilities.ghosts).eq m m') h.1 in
    let same_regions = region_exact r r' h.0 in let same_types = handle_exact t t' k.0 in let same_mutabilities = mutability_exact m m' k.1 in cc
kind_exact (ty.RawPtr t m) (ty.RawPtr t' m') e =
    let h = both (handle_eq t t') ((mutabilities.ghosts).eq m m') e in
    let same_types = handle_exact t t' h.0 in let same_mutabilities = mutability_exact m m' h.1 in cc
kind_exact (ty.Slice t) (ty.Slice t') e = ap ty.Slice (handle_exact t t' e)
kind_exact (ty.Tuple ts) (ty.Tuple ts') e = ap (λ n. ty.Tuple (handle n)) (eqb-true ts.number ts'.number e)
kind_exact (ty.FnPtr b h) (ty.FnPtr b' h') e =
    let k = both (eqb b.value.inputs_and_output.number b'.value.inputs_and_output.number && eqb b.bound_vars.number b'.bound_vars.number)
    (eqb h.fn_sig_kind.flags h'.fn_sig_kind.flags && eqb h.fn_sig_kind.splat h'.fn_sig_kind.splat) e in
    let binders = binder_exact b b' k.0 in let headers = header_exact h h' k.1 in cc
kind_exact (ty.Adt d args) (ty.Adt d' args') e = two_numbers (λ n m. ty.Adt (id_of n) (handle m)) d.number args.number d'.number args'.number e
kind_exact (ty.FnDef d args) (ty.FnDef d' args') e = two_numbers (λ n m. ty.FnDef (id_of n) (handle m)) d.number args.number d'.number args'.number e
kind_exact (ty.Foreign d) (ty.Foreign d') e = ap (λ n. ty.Foreign (id_of n)) (eqb-true d.number d'.number e)
kind_exact (ty.Array t c) (ty.Array t' c') e = two_numbers (λ n m. ty.Array (handle n) (handle m)) t.number c.number t'.number c'.number e
kind_exact (ty.Pat t p) (ty.Pat t' p') e = two_numbers (λ n m. ty.Pat (handle n) (handle m)) t.number p.number t'.number p'.number e
kind_exact (ty.UnsafeBinder b) (ty.UnsafeBinder b') e =
    two_numbers (λ n m. ty.UnsafeBinder (record { 0 = record { value = handle n; bound_vars = handle m } })) b.0.value.number b.0.bound_vars.number b'.0.value.number b'.0.bound_vars.number e
kind_exact (ty.Dynamic ps r) (ty.Dynamic ps' r') e =
    two_exact (λ n x. ty.Dynamic (handle n) x) (eqb ps.number ps'.number) ((regions.ghosts).eq r r') (eqb-true ps.number ps'.number) (region_exact r r') e
kind_exact (ty.Closure d args) (ty.Closure d' args') e = two_numbers (λ n m. ty.Closure (id_of n) (handle m)) d.number args.number d'.number args'.number e
kind_exact (ty.CoroutineClosure d args) (ty.CoroutineClosure d' args') e = two_numbers (λ n m. ty.CoroutineClosure (id_of n) (handle m)) d.number args.number d'.number args'.number e
kind_exact (ty.Coroutine d args) (ty.Coroutine d' args') e = two_numbers (λ n m. ty.Coroutine (id_of n) (handle m)) d.number args.number d'.number args'.number e
kind_exact (ty.CoroutineWitness d args) (ty.CoroutineWitness d' args') e = two_numbers (λ n m. ty.CoroutineWitness (id_of n) (handle m)) d.number args.number d'.number args'.number e
kind_exact (ty.Alias a) (ty.Alias b) e =
    two_exact (λ n k. ty.Alias (record { args = handle n; kind = k })) (eqb a.args.number b.args.number) ((aliases.ghosts).eq a.kind b.kind) (eqb-true a.args.number b.args.number) (alias_exact a.kind b.kind) e
kind_exact _ _ e = absurd (false≢true e)
