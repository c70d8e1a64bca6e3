-- The keys' `==` finds exactly the row that is looked for.
use Rattle.std.proofs.lemmas.Bool.{eqb-true}
use Rattle.std.proofs.Common.{◌≡◌, ℕ, Bool, true, ◌&&◌, eqb, List, [], ◌∷◌, refl, sym, ap, subst, arith}
use Rattle.std.proofs.lemmas.Bool.Decides.{nat_tests}
use Rattle.std.proofs.lemmas.Bool.{false≢true}
use Rattle.std.specs.Cmp.Lexicographic.{pointwise, lists_equiv, bytes_decides}
use Rattle.std.specs.Str.{bytes_eq}
use Rattle.tt_kinds.specs.Handle.{Ty}
use Rattle.tt_kinds.specs.declared.handle.Handle.{Handle}
use Rattle.tt_kinds.specs.declared.generic_arg.GenericArgKind.{GenericArgKind}
use Rattle.tt_kinds.specs.declared.bound.BoundVariableKind.{BoundVariableKind}
use Rattle.tt_kinds.specs.declared.ty_kind.TyKind.{TyKind}
use Rattle.tt_kinds.specs.contracts.ty_kind.TyKindPartialEq.TheImpl as kinds
use Rattle.tt_kinds.specs.contracts.ty_kind.TyKindEq.TheImpl.Laws as kind_laws
use Rattle.tt_kinds.specs.contracts.generic_arg.GenericArgPartialEq.TheImpl as args
use Rattle.tt_kinds.specs.contracts.generic_arg.GenericArgEq.TheImpl.Laws as arg_laws
use Rattle.tt_kinds.specs.contracts.bound.BoundVariableKindPartialEq.TheImpl as vars
use Rattle.tt_kinds.specs.contracts.bound.BoundVariableKindEq.TheImpl.Laws as var_laws
use Rattle.tt_kinds.specs.declared.predicate.OutlivesPredicate.{OutlivesPredicate}
use Rattle.tt_kinds.specs.contracts.region_kind.RegionKindPartialEq.TheImpl as regions
use Rattle.tt_kinds.specs.contracts.region_kind.RegionKindEq.TheImpl.Laws as region_laws
use Rattle.tt_kinds.specs.Handle.{Const}
use Rattle.tt_kinds.specs.Handle.{Pat}
use Rattle.tt_kinds.specs.Handle.{Clause}
use Rattle.tt_kinds.specs.Handle.{PolyExistentialPredicate}
use Rattle.tt_kinds.specs.declared.binder.Binder.{Binder}
use Rattle.tt_kinds.specs.declared.const_kind.ConstKind.{ConstKind}
use Rattle.tt_kinds.specs.declared.predicate_kind.PredicateKind.{PredicateKind}
use Rattle.tt_kinds.specs.declared.existential.ExistentialPredicate.{ExistentialPredicate}
use Rattle.tt_kinds.specs.contracts.predicate_kind.PredicateKindPartialEq.TheImpl as predicate_kinds
use Rattle.tt_kinds.specs.contracts.predicate_kind.PredicateKindEq.TheImpl.Laws as predicate_kind_laws
use Rattle.tt_kinds.specs.contracts.existential.ExistentialPredicatePartialEq.TheImpl as existential_kinds
use Rattle.tt_kinds.specs.contracts.existential.ExistentialPredicateEq.TheImpl.Laws as existential_kind_laws
use Rattle.tt_kinds.specs.declared.pattern.PatternKind.{PatternKind}
use Rattle.tt_kinds.specs.contracts.const_kind.ConstKindPartialEq.TheImpl as const_kinds
use Rattle.tt_kinds.specs.contracts.const_kind.ConstKindEq.TheImpl.Laws as const_kind_laws
use Rattle.tt_kinds.specs.contracts.pattern.PatternKindPartialEq.TheImpl as pattern_kinds
use Rattle.tt_kinds.specs.contracts.pattern.PatternKindEq.TheImpl.Laws as pattern_kind_laws
use Rattle.tt_interner.specs.Rows.{Row, type_row, const_row, pat_row, predicate_row, existential_row, clauses_row}
use Rattle.tt_interner.specs.Rows.{tys_row, consts_row, args_row, pats_row, vars_row, existentials_row, assumptions_row}
use Rattle.tt_interner.specs.Rows.{text_row}
use Rattle.tt_kinds.proofs.EqualityLaws.{both, handle_eq, handle_exact, two_exact, arg_exact, region_exact, var_exact}
use Rattle.tt_kinds.proofs.EqualityLaws.{kind_exact}
use Rattle.tt_kinds.proofs.KindEqualityLaws.{const_kind_exact, pattern_kind_exact, predicate_kind_exact}
use Rattle.tt_kinds.proofs.KindEqualityLaws.{existential_kind_exact}
use Rattle.tt_interner.proofs.FoundLaws.{IsKey}
use Rattle.tt_kinds.specs.Handle.{handle}

-- a test that is exact, of what a key holds
pub key_by : {K X : Type 0} (eq : X → X → Bool) (exact : (a b : X) → eq a b ≡ true → a ≡ b) (same : (a : X) → eq a a ≡ true)
    (hold : K → X) (row : X → Row) → ((a b : X) → row a ≡ row b → a ≡ b) → (x : X) → IsKey (λ k. eq x (hold k)) (λ k. row (hold k)) (row x)
key_by eq exact same hold row one x = record {
  exact = λ k e. ap row (sym (exact x (hold k) e));
  same = λ k e. subst (λ y. eq x y ≡ true) (sym (one (hold k) x e)) (same x);
}

pointwise_exact : {X : Type 0} (eq : X → X → Bool) → ((a b : X) → eq a b ≡ true → a ≡ b) → (xs ys : List X) → pointwise eq xs ys ≡ true → xs ≡ ys
pointwise_exact eq exact [] [] e = refl
pointwise_exact eq exact (x ∷ xs) (y ∷ ys) e =
    let parts = both (eq x y) (pointwise eq xs ys) e in
    let first = exact x y parts.0 in let others = pointwise_exact eq exact xs ys parts.1 in cc
pointwise_exact eq exact _ _ e = absurd (false≢true e)

handles_same : {K : Type 0} (hs : List (Handle K)) → pointwise handle_eq hs hs ≡ true
handles_same [] = refl
handles_same (h ∷ hs) = let first : handle_eq h h ≡ true = grind (arith, nat_tests) in let others = handles_same hs in cc

-- the test for a kind of type is passed by the key of its row and by no other
pub type_key : (x : TyKind) → IsKey ((kinds.ghosts).eq x) type_row (type_row x)
type_key = key_by (kinds.ghosts).eq kind_exact (kind_laws.laws-law).refl (λ k. k) type_row (λ a b e. cc)

-- the test for a list of types, item by item, is passed by the keys with its row and by no others
pub tys_key : {K : Type 0} (items : K → List Ty) (xs : List Ty) → IsKey (λ k. pointwise handle_eq xs (items k)) (λ k. tys_row (items k)) (tys_row xs)
tys_key items = key_by (pointwise handle_eq) (pointwise_exact handle_eq handle_exact) handles_same items tys_row (λ a b e. cc)

-- the test for a list of generic arguments, item by item, is passed by the keys with its row and by no others
pub args_key : {K : Type 0} (items : K → List GenericArgKind) (xs : List GenericArgKind) → IsKey (λ k. pointwise (args.ghosts).eq xs (items k)) (λ k. args_row (items k)) (args_row xs)
args_key items = key_by (pointwise (args.ghosts).eq) (pointwise_exact (args.ghosts).eq arg_exact) (lists_equiv arg_laws.laws-law).refl items args_row (λ a b e. cc)

-- the test for a list of variables, item by item, is passed by the keys with its row and by no others
pub vars_key : {K : Type 0} (items : K → List BoundVariableKind) (xs : List BoundVariableKind) → IsKey (λ k. pointwise (vars.ghosts).eq xs (items k)) (λ k. vars_row (items k)) (vars_row xs)
vars_key items = key_by (pointwise (vars.ghosts).eq) (pointwise_exact (vars.ghosts).eq var_exact) (lists_equiv var_laws.laws-law).refl items vars_row (λ a b e. cc)

-- the test for a text, byte by byte, is passed by the keys with its row and by no others
pub text_key : {K : Type 0} (bytes : K → List ℕ) (xs : List ℕ) → IsKey (λ k. bytes_eq xs (bytes k)) (λ k. text_row (bytes k)) (text_row xs)
text_key bytes = key_by bytes_eq (λ a b. (bytes_decides a b).0) (λ a. (bytes_decides a a).1 refl) bytes text_row (λ a b e. cc)

-- the test for a list of constants, item by item, is passed by the keys with its row and by no others
pub consts_key : {K : Type 0} (items : K → List Const) (xs : List Const) → IsKey (λ k. pointwise handle_eq xs (items k)) (λ k. consts_row (items k)) (consts_row xs)
consts_key items = key_by (pointwise handle_eq) (pointwise_exact handle_eq handle_exact) handles_same items consts_row (λ a b e. cc)

-- the test for a list of patterns, item by item, is passed by the keys with its row and by no others
pub pats_key : {K : Type 0} (items : K → List Pat) (xs : List Pat) → IsKey (λ k. pointwise handle_eq xs (items k)) (λ k. pats_row (items k)) (pats_row xs)
pats_key items = key_by (pointwise handle_eq) (pointwise_exact handle_eq handle_exact) handles_same items pats_row (λ a b e. cc)

-- the test for a list of clauses, item by item, is passed by the keys with its row and by no others
pub clauses_key : {K : Type 0} (items : K → List Clause) (xs : List Clause) → IsKey (λ k. pointwise handle_eq xs (items k)) (λ k. clauses_row (items k)) (clauses_row xs)
clauses_key items = key_by (pointwise handle_eq) (pointwise_exact handle_eq handle_exact) handles_same items clauses_row (λ a b e. cc)

-- the test for a list of existential predicates, item by item, is passed by the keys with its row and by no others
pub existentials_key : {K : Type 0} (items : K → List PolyExistentialPredicate) (xs : List PolyExistentialPredicate) → IsKey (λ k. pointwise handle_eq xs (items k)) (λ k. existentials_row (items k)) (existentials_row xs)
existentials_key items = key_by (pointwise handle_eq) (pointwise_exact handle_eq handle_exact) handles_same items existentials_row (λ a b e. cc)

-- assumptions, by the tests of what outlives and of the region
abbrev assumption_eq : OutlivesPredicate GenericArgKind → OutlivesPredicate GenericArgKind → Bool
assumption_eq a b = (args.ghosts).eq a.0 b.0 && (regions.ghosts).eq a.1 b.1

assumption_exact : (a b : OutlivesPredicate GenericArgKind) → assumption_eq a b ≡ true → a ≡ b
assumption_exact a b = two_exact (λ x r. record { 0 = x; 1 = r }) ((args.ghosts).eq a.0 b.0) ((regions.ghosts).eq a.1 b.1) (arg_exact a.0 b.0) (region_exact a.1 b.1)

assumptions_same : (xs : List (OutlivesPredicate GenericArgKind)) → pointwise assumption_eq xs xs ≡ true
assumptions_same [] = refl
assumptions_same (x ∷ xs) =
    let first = (arg_laws.laws-law).refl x.0 in let second = (region_laws.laws-law).refl x.1 in let others = assumptions_same xs in cc

-- the test for a list of assumptions, item by item, is passed by the keys with its row and by no others
pub assumptions_key : {K : Type 0} (items : K → List (OutlivesPredicate GenericArgKind)) (xs : List (OutlivesPredicate GenericArgKind)) → IsKey (λ k. pointwise assumption_eq xs (items k)) (λ k. assumptions_row (items k)) (assumptions_row xs)
assumptions_key items = key_by (pointwise assumption_eq) (pointwise_exact assumption_eq assumption_exact) assumptions_same items assumptions_row (λ a b e. cc)

-- the test for a kind of constant is passed by the key of its row and by no other
pub const_key : (x : ConstKind) → IsKey ((const_kinds.ghosts).eq x) const_row (const_row x)
const_key = key_by (const_kinds.ghosts).eq const_kind_exact (const_kind_laws.laws-law).refl (λ k. k) const_row (λ a b e. cc)

-- the test for a kind of pattern is passed by the key of its row and by no other
pub pattern_key : (x : PatternKind) → IsKey ((pattern_kinds.ghosts).eq x) pat_row (pat_row x)
pattern_key = key_by (pattern_kinds.ghosts).eq pattern_kind_exact (pattern_kind_laws.laws-law).refl (λ k. k) pat_row (λ a b e. cc)

-- binders, by the test of what is under them
abbrev binder_eq : {T : Type 0} → (T → T → Bool) → Binder T → Binder T → Bool
binder_eq eq a b = eq a.value b.value && eqb a.bound_vars.number b.bound_vars.number

binder_exact : {T : Type 0} (eq : T → T → Bool) → ((a b : T) → eq a b ≡ true → a ≡ b) → (a b : Binder T) → binder_eq eq a b ≡ true → a ≡ b
binder_exact eq exact a b = two_exact (λ x n. record { value = x; bound_vars = handle n }) (eq a.value b.value) (eqb a.bound_vars.number b.bound_vars.number) (exact a.value b.value) (eqb-true a.bound_vars.number b.bound_vars.number)

binder_same : {T : Type 0} (eq : T → T → Bool) → ((a : T) → eq a a ≡ true) → (a : Binder T) → binder_eq eq a a ≡ true
binder_same eq same a = let values = same a.value in let lists : eqb a.bound_vars.number a.bound_vars.number ≡ true = grind (arith, nat_tests) in cc

-- the test for a predicate under its binder is passed by the key of its row and by no other
pub predicate_key : (x : Binder PredicateKind) → IsKey (binder_eq (predicate_kinds.ghosts).eq x) predicate_row (predicate_row x)
predicate_key = key_by (binder_eq (predicate_kinds.ghosts).eq) (binder_exact (predicate_kinds.ghosts).eq predicate_kind_exact) (binder_same (predicate_kinds.ghosts).eq (predicate_kind_laws.laws-law).refl) (λ k. k) predicate_row (λ a b e. cc)

-- the test for an existential predicate under its binder is passed by the key of its row and by no other
pub existential_key : (x : Binder ExistentialPredicate) → IsKey (binder_eq (existential_kinds.ghosts).eq x) existential_row (existential_row x)
existential_key = key_by (binder_eq (existential_kinds.ghosts).eq) (binder_exact (existential_kinds.ghosts).eq existential_kind_exact) (binder_same (existential_kinds.ghosts).eq (existential_kind_laws.laws-law).refl) (λ k. k) existential_row (λ a b e. cc)
