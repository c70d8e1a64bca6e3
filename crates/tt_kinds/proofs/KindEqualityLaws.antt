-- The `==` of constants, patterns and predicates holds of equal values alone.
use Rattle.std.proofs.Common.{◌≡◌, true, ◌&&◌, eqb, refl, ap}
use Rattle.std.proofs.lemmas.Bool.{eqb-true, false≢true}
use Rattle.std.proofs.Math.Bool.{beq}
use Rattle.std.specs.Cmp.{booleans_Decides}
use Rattle.tt_kinds.specs.declared.bound.BoundConst.{BoundConst}
use Rattle.tt_kinds.specs.declared.term.Term.{Term}
use Rattle.tt_kinds.specs.declared.term.TermKind.{TermKind}
use Rattle.tt_kinds.specs.declared.term.TermKind.TheVariants as term_kind
use Rattle.tt_kinds.specs.declared.alias.AliasTerm.{AliasTerm}
use Rattle.tt_kinds.specs.declared.const_kind.InferConst.{InferConst}
use Rattle.tt_kinds.specs.declared.const_kind.InferConst.TheVariants as infer
use Rattle.tt_kinds.specs.declared.const_kind.ValTreeKind.{ValTreeKind}
use Rattle.tt_kinds.specs.declared.const_kind.ValTreeKind.TheVariants as valtree
use Rattle.tt_kinds.specs.declared.const_kind.ConstKind.{ConstKind}
use Rattle.tt_kinds.specs.declared.const_kind.ConstKind.TheVariants as const
use Rattle.tt_kinds.specs.declared.pattern.PatternKind.{PatternKind}
use Rattle.tt_kinds.specs.declared.pattern.PatternKind.TheVariants as pattern
use Rattle.tt_kinds.specs.declared.predicate.BoundConstness.{BoundConstness}
use Rattle.tt_kinds.specs.declared.predicate.BoundConstness.TheVariants as constness
use Rattle.tt_kinds.specs.declared.predicate.TraitRef.{TraitRef}
use Rattle.tt_kinds.specs.declared.predicate.SubtypePredicate.{SubtypePredicate}
use Rattle.tt_kinds.specs.declared.predicate_kind.ClauseKind.{ClauseKind}
use Rattle.tt_kinds.specs.declared.predicate_kind.ClauseKind.TheVariants as clause
use Rattle.tt_kinds.specs.declared.predicate_kind.AliasRelationDirection.{AliasRelationDirection}
use Rattle.tt_kinds.specs.declared.predicate_kind.AliasRelationDirection.TheVariants as direction
use Rattle.tt_kinds.specs.declared.predicate_kind.PredicateKind.{PredicateKind}
use Rattle.tt_kinds.specs.declared.predicate_kind.PredicateKind.TheVariants as predicate
use Rattle.tt_kinds.specs.declared.existential.ExistentialPredicate.{ExistentialPredicate}
use Rattle.tt_kinds.specs.declared.existential.ExistentialPredicate.TheVariants as existential
use Rattle.tt_kinds.specs.declared.parts.Kind.{Kind}
use Rattle.tt_kinds.specs.declared.parts.Kind.TheVariants as kind
use Rattle.tt_kinds.specs.contracts.parts.KindPartialEq.TheImpl as any_kinds
use Rattle.tt_kinds.specs.contracts.bound.BoundVarIndexKindPartialEq.TheImpl as indices
use Rattle.tt_kinds.specs.contracts.region_kind.RegionKindPartialEq.TheImpl as regions
use Rattle.tt_kinds.specs.contracts.term.TermKindPartialEq.TheImpl as term_kinds
use Rattle.tt_kinds.specs.contracts.const_kind.InferConstPartialEq.TheImpl as infers
use Rattle.tt_kinds.specs.contracts.const_kind.ValTreeKindPartialEq.TheImpl as valtrees
use Rattle.tt_kinds.specs.contracts.const_kind.ConstKindPartialEq.TheImpl as const_kinds
use Rattle.tt_kinds.specs.contracts.pattern.PatternKindPartialEq.TheImpl as pattern_kinds
use Rattle.tt_kinds.specs.contracts.predicate.BoundConstnessPartialEq.TheImpl as constnesses
use Rattle.tt_kinds.specs.contracts.predicate_kind.ClauseKindPartialEq.TheImpl as clause_kinds
use Rattle.tt_kinds.specs.contracts.predicate_kind.AliasRelationDirectionPartialEq.TheImpl as directions
use Rattle.tt_kinds.specs.contracts.predicate_kind.PredicateKindPartialEq.TheImpl as predicate_kinds
use Rattle.tt_kinds.specs.contracts.existential.ExistentialPredicatePartialEq.TheImpl as existential_kinds
use Rattle.tt_kinds.proofs.EqualityLaws.{both, two_exact, two_numbers, index_exact, placeholder_exact, region_exact}
use Rattle.tt_kinds.proofs.EqualityLaws.{kind_exact}
use Rattle.tt_kinds.specs.Id.{id_of}
use Rattle.tt_kinds.specs.Handle.{handle}

infer_const_exact : (a b : InferConst) → (infers.ghosts).eq a b ≡ true → a ≡ b
infer_const_exact (infer.Var n) (infer.Var m) e = ap infer.Var (eqb-true n m e)
infer_const_exact (infer.Fresh n) (infer.Fresh m) e = ap infer.Fresh (eqb-true n m e)
infer_const_exact _ _ e = absurd (false≢true e)

bound_const_exact : (a b : BoundConst) → eqb a.var b.var ≡ true → a ≡ b
bound_const_exact a b e = ap (λ n. record { var = n }) (eqb-true a.var b.var e)

valtree_exact : (a b : ValTreeKind) → (valtrees.ghosts).eq a b ≡ true → a ≡ b
valtree_exact (valtree.Leaf s) (valtree.Leaf t) e = two_numbers (λ n m. valtree.Leaf (record { bits = n; size = m })) s.bits s.size t.bits t.size e
valtree_exact (valtree.Branch s) (valtree.Branch t) e = ap (λ n. valtree.Branch (handle n)) (eqb-true s.number t.number e)
valtree_exact _ _ e = absurd (false≢true e)

-- kinds of constants are equal where `==` holds of them
pub const_kind_exact : (a b : ConstKind) → (const_kinds.ghosts).eq a b ≡ true → a ≡ b
const_kind_exact (const.Param p) (const.Param q) e = two_numbers (λ n m. const.Param (record { index = n; name = handle m })) p.index p.name.number q.index q.name.number e
const_kind_exact (const.Infer i) (const.Infer j) e = ap const.Infer (infer_const_exact i j e)
const_kind_exact (const.Bound i b) (const.Bound j c) e = two_exact const.Bound ((indices.ghosts).eq i j) (eqb b.var c.var) (index_exact i j) (bound_const_exact b c) e
const_kind_exact (const.Placeholder p) (const.Placeholder q) e = ap const.Placeholder (placeholder_exact (λ a b. eqb a.var b.var) bound_const_exact p q e)
const_kind_exact (const.Unevaluated u) (const.Unevaluated v) e =
    two_numbers (λ n m. const.Unevaluated (record { def = id_of n; args = handle m })) u.def.number u.args.number v.def.number v.args.number e
const_kind_exact (const.Value v) (const.Value w) e =
    two_exact (λ n k. const.Value (record { ty = handle n; valtree = record { kind = k } })) (eqb v.ty.number w.ty.number) ((valtrees.ghosts).eq v.valtree.kind w.valtree.kind)
    (eqb-true v.ty.number w.ty.number) (valtree_exact v.valtree.kind w.valtree.kind) e
const_kind_exact (const.Error x) (const.Error y) e = ap (λ n. const.Error (record { 0 = n })) (eqb-true x.0 y.0 e)
const_kind_exact (const.Expr x) (const.Expr y) e = two_numbers (λ n m. const.Expr (record { tag = n; args = handle m })) x.tag x.args.number y.tag y.args.number e
const_kind_exact _ _ e = absurd (false≢true e)

-- kinds of patterns are equal where `==` holds of them
pub pattern_kind_exact : (a b : PatternKind) → (pattern_kinds.ghosts).eq a b ≡ true → a ≡ b
pattern_kind_exact (pattern.Range s t) (pattern.Range s' t') e = two_numbers (λ n m. pattern.Range (handle n) (handle m)) s.number t.number s'.number t'.number e
pattern_kind_exact (pattern.Or ps) (pattern.Or qs) e = ap (λ n. pattern.Or (handle n)) (eqb-true ps.number qs.number e)
pattern_kind_exact pattern.NotNull pattern.NotNull e = refl
pattern_kind_exact _ _ e = absurd (false≢true e)

term_kind_exact : (a b : TermKind) → (term_kinds.ghosts).eq a b ≡ true → a ≡ b
term_kind_exact (term_kind.Ty t) (term_kind.Ty u) e = ap (λ n. term_kind.Ty (handle n)) (eqb-true t.number u.number e)
term_kind_exact (term_kind.Const c) (term_kind.Const d) e = ap (λ n. term_kind.Const (handle n)) (eqb-true c.number d.number e)
term_kind_exact _ _ e = absurd (false≢true e)

term_exact : (a b : Term) → (term_kinds.ghosts).eq a.kind b.kind ≡ true → a ≡ b
term_exact a b e = ap (λ k. record { kind = k }) (term_kind_exact a.kind b.kind e)

alias_term_exact : (a b : AliasTerm) → (eqb a.args.number b.args.number && eqb a.def_id.number b.def_id.number) ≡ true → a ≡ b
alias_term_exact a b = two_numbers (λ n m. record { args = handle n; def_id = record { number = m } }) a.args.number a.def_id.number b.args.number b.def_id.number

trait_ref_exact : (a b : TraitRef) → (eqb a.def_id.number b.def_id.number && eqb a.args.number b.args.number) ≡ true → a ≡ b
trait_ref_exact a b = two_numbers (λ n m. record { def_id = id_of n; args = handle m }) a.def_id.number a.args.number b.def_id.number b.args.number

constness_exact : (a b : BoundConstness) → (constnesses.ghosts).eq a b ≡ true → a ≡ b
constness_exact constness.Const constness.Const e = refl
constness_exact constness.Maybe constness.Maybe e = refl
constness_exact _ _ e = absurd (false≢true e)

direction_exact : (a b : AliasRelationDirection) → (directions.ghosts).eq a b ≡ true → a ≡ b
direction_exact direction.Equate direction.Equate e = refl
direction_exact direction.Subtype direction.Subtype e = refl
direction_exact _ _ e = absurd (false≢true e)

subtype_exact : (a b : SubtypePredicate) → (beq a.a_is_expected b.a_is_expected && (eqb a.a.number b.a.number && eqb a.b.number b.b.number)) ≡ true → a ≡ b
subtype_exact a b e =
    let h = both (beq a.a_is_expected b.a_is_expected) (eqb a.a.number b.a.number && eqb a.b.number b.b.number) e in
    let k = both (eqb a.a.number b.a.number) (eqb a.b.number b.b.number) h.1 in
    let expected = (booleans_Decides a.a_is_expected b.a_is_expected).0 h.0 in let firsts = eqb-true a.a.number b.a.number k.0 in let seconds = eqb-true a.b.number b.b.number k.1 in
    λ i. record { a_is_expected = expected i; a = handle (firsts i); b = handle (seconds i) }

-- kinds of clauses are equal where `==` holds of them
pub clause_kind_exact : (a b : ClauseKind) → (clause_kinds.ghosts).eq a b ≡ true → a ≡ b
clause_kind_exact (clause.Trait p) (clause.Trait q) e = ap (λ t. clause.Trait (record { trait_ref = t })) (trait_ref_exact p.trait_ref q.trait_ref e)
clause_kind_exact (clause.RegionOutlives p) (clause.RegionOutlives q) e =
    two_exact (λ r s. clause.RegionOutlives (record { 0 = r; 1 = s })) ((regions.ghosts).eq p.0 q.0) ((regions.ghosts).eq p.1 q.1) (region_exact p.0 q.0) (region_exact p.1 q.1) e
clause_kind_exact (clause.TypeOutlives p) (clause.TypeOutlives q) e =
    two_exact (λ n s. clause.TypeOutlives (record { 0 = handle n; 1 = s })) (eqb p.0.number q.0.number) ((regions.ghosts).eq p.1 q.1) (eqb-true p.0.number q.0.number) (region_exact p.1 q.1) e
clause_kind_exact (clause.Projection p) (clause.Projection q) e =
    two_exact (λ a t. clause.Projection (record { projection_term = a; term = t })) (eqb p.projection_term.args.number q.projection_term.args.number && eqb p.projection_term.def_id.number q.projection_term.def_id.number)
    ((term_kinds.ghosts).eq p.term.kind q.term.kind) (alias_term_exact p.projection_term q.projection_term) (term_exact p.term q.term) e
clause_kind_exact (clause.ConstArgHasType c t) (clause.ConstArgHasType c' t') e = two_numbers (λ n m. clause.ConstArgHasType (handle n) (handle m)) c.number t.number c'.number t'.number e
clause_kind_exact (clause.WellFormed t) (clause.WellFormed u) e = ap clause.WellFormed (term_exact t u e)
clause_kind_exact (clause.ConstEvaluatable c) (clause.ConstEvaluatable d) e = ap (λ n. clause.ConstEvaluatable (handle n)) (eqb-true c.number d.number e)
clause_kind_exact (clause.HostEffect p) (clause.HostEffect q) e =
    two_exact (λ t c. clause.HostEffect (record { trait_ref = t; constness = c })) (eqb p.trait_ref.def_id.number q.trait_ref.def_id.number && eqb p.trait_ref.args.number q.trait_ref.args.number)
    ((constnesses.ghosts).eq p.constness q.constness) (trait_ref_exact p.trait_ref q.trait_ref) (constness_exact p.constness q.constness) e
clause_kind_exact (clause.UnstableFeature s) (clause.UnstableFeature t) e = ap (λ n. clause.UnstableFeature (handle n)) (eqb-true s.number t.number e)
clause_kind_exact _ _ e = absurd (false≢true e)

-- kinds of predicates are equal where `==` holds of them
pub predicate_kind_exact : (a b : PredicateKind) → (predicate_kinds.ghosts).eq a b ≡ true → a ≡ b
predicate_kind_exact (predicate.Clause c) (predicate.Clause d) e = ap predicate.Clause (clause_kind_exact c d e)
predicate_kind_exact (predicate.DynCompatible c) (predicate.DynCompatible d) e = ap (λ n. predicate.DynCompatible (id_of n)) (eqb-true c.number d.number e)
predicate_kind_exact (predicate.Subtype p) (predicate.Subtype q) e = ap predicate.Subtype (subtype_exact p q e)
predicate_kind_exact (predicate.Coerce p) (predicate.Coerce q) e = two_numbers (λ n m. predicate.Coerce (record { a = handle n; b = handle m })) p.a.number p.b.number q.a.number q.b.number e
predicate_kind_exact (predicate.ConstEquate c d) (predicate.ConstEquate c' d') e = two_numbers (λ n m. predicate.ConstEquate (handle n) (handle m)) c.number d.number c'.number d'.number e
predicate_kind_exact predicate.Ambiguous predicate.Ambiguous e = refl
predicate_kind_exact (predicate.NormalizesTo p) (predicate.NormalizesTo q) e =
    two_exact (λ a t. predicate.NormalizesTo (record { alias = a; term = t })) (eqb p.alias.args.number q.alias.args.number && eqb p.alias.def_id.number q.alias.def_id.number)
    ((term_kinds.ghosts).eq p.term.kind q.term.kind) (alias_term_exact p.alias q.alias) (term_exact p.term q.term) e
predicate_kind_exact (predicate.AliasRelate a b r) (predicate.AliasRelate a' b' r') e =
    let h = both ((term_kinds.ghosts).eq a.kind a'.kind) ((term_kinds.ghosts).eq b.kind b'.kind && (directions.ghosts).eq r r') e in
    let k = both ((term_kinds.ghosts).eq b.kind b'.kind) ((directions.ghosts).eq r r') h.1 in
    let firsts = term_exact a a' h.0 in let seconds = term_exact b b' k.0 in let same = direction_exact r r' k.1 in
    λ i. predicate.AliasRelate (firsts i) (seconds i) (same i)
predicate_kind_exact _ _ e = absurd (false≢true e)

-- existential predicates are equal where `==` holds of them
pub existential_kind_exact : (a b : ExistentialPredicate) → (existential_kinds.ghosts).eq a b ≡ true → a ≡ b
existential_kind_exact (existential.Trait p) (existential.Trait q) e =
    two_numbers (λ n m. existential.Trait (record { def_id = id_of n; args = handle m })) p.def_id.number p.args.number q.def_id.number q.args.number e
existential_kind_exact (existential.Projection p) (existential.Projection q) e =
    let h = both (eqb p.def_id.number q.def_id.number) (eqb p.args.number q.args.number && (term_kinds.ghosts).eq p.term.kind q.term.kind) e in
    let k = both (eqb p.args.number q.args.number) ((term_kinds.ghosts).eq p.term.kind q.term.kind) h.1 in
    let ids = eqb-true p.def_id.number q.def_id.number h.0 in let lists = eqb-true p.args.number q.args.number k.0 in let terms = term_exact p.term q.term k.1 in
    λ i. existential.Projection (record { def_id = record { number = ids i }; args = handle (lists i); term = terms i })
existential_kind_exact (existential.AutoTrait c) (existential.AutoTrait d) e = ap (λ n. existential.AutoTrait (id_of n)) (eqb-true c.number d.number e)
existential_kind_exact _ _ e = absurd (false≢true e)

-- kinds of stored terms, of whatever table, are equal where `==` holds of them
pub any_kind_exact : (a b : Kind) → (any_kinds.ghosts).eq a b ≡ true → a ≡ b
any_kind_exact (kind.Ty k) (kind.Ty l) e = ap kind.Ty (kind_exact k l e)
any_kind_exact (kind.Const k) (kind.Const l) e = ap kind.Const (const_kind_exact k l e)
any_kind_exact (kind.Pat k) (kind.Pat l) e = ap kind.Pat (pattern_kind_exact k l e)
any_kind_exact (kind.Predicate p) (kind.Predicate q) e =
    two_exact (λ k n. kind.Predicate (record { value = k; bound_vars = handle n })) ((predicate_kinds.ghosts).eq p.value q.value) (eqb p.bound_vars.number q.bound_vars.number)
    (predicate_kind_exact p.value q.value) (eqb-true p.bound_vars.number q.bound_vars.number) e
any_kind_exact (kind.Existential p) (kind.Existential q) e =
    two_exact (λ k n. kind.Existential (record { value = k; bound_vars = handle n })) ((existential_kinds.ghosts).eq p.value q.value) (eqb p.bound_vars.number q.bound_vars.number)
    (existential_kind_exact p.value q.value) (eqb-true p.bound_vars.number q.bound_vars.number) e
any_kind_exact _ _ e = absurd (false≢true e)
