-- A small program, and what is derived from it.
use Rattle.std.proofs.Common.{◌≡◌, ℕ, zero, suc, List, [], ◌∷◌, refl, ap, sym, ◌∙◌, subst}
use Rattle.std.specs.Prelude.{Some, slice_get}
use Rattle.tt_index.specs.declared.numeric.UintTy.TheVariants as uint
use Rattle.tt_kinds.specs.Argument.{Argument}
use Rattle.tt_kinds.specs.Label.{bool_type, list_label, record_label, slice_type, trait_record, type_label, type_sort, uint_type}
use Rattle.tt_kinds.specs.Tree.{Depth, Place, Tree, param, term, node, none, also}
use Rattle.tt_kinds.specs.declared.table.Table.TheVariants.{ArgLists}
use Rattle.solver.specs.Answers.{IsNo}
use Rattle.solver.specs.Derivations.{Implementation, IsTypeArgument, Derives, assumed, implemented, instance_of}

abbrev u32 : {I : Type 0} → Tree I
u32 = term (type_label (uint_type uint.U32)) none

abbrev bool : {I : Type 0} → Tree I
bool = term (type_label bool_type) none

abbrev slice : {I : Type 0} → Tree I → Tree I
slice t = term (type_label slice_type) (also t none)

abbrev parameter : Tree Place
parameter = param type_sort 0 []

-- the type implements the trait of number 0
abbrev implements : Tree Place → Tree Place
implements t = node (record_label (trait_record 0)) (also (node (list_label ArgLists) (also t none)) none)

abbrev number_impl : Implementation
number_impl = record { params = 0; head = implements u32; conditions = [] }

abbrev slice_impl : Implementation
slice_impl = record { params = 1; head = implements (slice parameter); conditions = implements parameter ∷ [] }

-- `impl Trait for u32` and `impl<T> Trait for [T] where T: Trait`
abbrev impls : List Implementation
impls = number_impl ∷ slice_impl ∷ []

-- u32 implements the trait, by an implementation without parameters and conditions
pub number_derived : Derives impls [] (implements u32)
number_derived = implemented 0 number_impl refl [] (record { counted = refl; each = λ k a at. absurd (cc) }) refl (λ j c at. absurd (cc))

abbrev one_argument : Argument Depth
one_argument = record { sort = type_sort; value = u32 }

one_is_type : (k : ℕ) (a : Argument Depth) → slice_get (one_argument ∷ []) k ≡ Some a → IsTypeArgument a
one_is_type zero a at =
    let same : one_argument ≡ a = cc in
    subst IsTypeArgument same (record { sorted = refl; type = refl; closed = refl })
one_is_type (suc k) a at = absurd (cc)

one_condition : (j : ℕ) (c : Tree Place) → slice_get (implements parameter ∷ []) j ≡ Some c → Derives impls [] (instance_of (one_argument ∷ []) c)
one_condition zero c at =
    let same : implements parameter ≡ c = cc in
    subst (λ r. Derives impls [] (instance_of (one_argument ∷ []) r)) same number_derived
one_condition (suc j) c at = absurd (cc)

-- [u32] implements the trait, since u32 does
pub slice_derived : Derives impls [] (implements (slice u32))
slice_derived = implemented 1 slice_impl refl (one_argument ∷ []) (record { counted = refl; each = one_is_type }) refl one_condition

other_goal : {goal : Tree Place} → Derives impls [] goal → goal ≡ implements bool → ⊥
other_goal (assumed k at) is = absurd (cc)
other_goal (implemented zero i at args are instance conditions) is =
    let same : i ≡ number_impl = cc in
    let head : implements u32 ≡ implements bool = sym (instance ∙ ap (λ x. instance_of args x.head) same) ∙ is in
    absurd (cc)
other_goal (implemented (suc zero) i at args are instance conditions) is =
    let same : i ≡ slice_impl = cc in
    let head : instance_of args (implements (slice parameter)) ≡ implements bool = sym (instance ∙ ap (λ x. instance_of args x.head) same) ∙ is in
    absurd (cc)
other_goal (implemented (suc (suc k)) i at args are instance conditions) is = absurd (cc)

-- bool doesn't, whatever replaces inference variables: no head is an instance of it
pub bool_is_no : IsNo impls [] (implements bool)
bool_is_no ρ is derived = other_goal derived refl
