-- Which pairs of children no assignment to a table's variables alone makes equal.
use Rattle.std.proofs.Common.{◌≡◌, ◌≢◌, refl, ℕ, ◌<◌, ◌≤◌, List, [], ◌∷◌, length, Option, Some, None, Result, Ok, Err}
use Rattle.std.proofs.Common.{IfErr}
use Rattle.std.proofs.Common.{Bool, true, false, sym, subst, ap, ◌∙◌}
use Rattle.std.proofs.lemmas.Bool.{true≢false}
use Rattle.std.specs.Prelude.{IsTrue, unwrap_or}
use Rattle.std.proofs.lemmas.Option.{none-some, same_Some}
use Rattle.tt_kinds.specs.Label.{Name, Label, type_label, infer_type, label_table, list_label}
use Rattle.tt_kinds.specs.declared.ty_kind.InferTy.TheVariants.{TyVar}
use Rattle.tt_kinds.specs.declared.table.Table.TheVariants.{Types, ArgLists}
use Rattle.tt_kinds.specs.Tree as tree
use Rattle.tt_kinds.specs.Tree.{Depth, Tree}
use Rattle.tt_kinds.specs.Shape as shape
use Rattle.tt_kinds.specs.Shape.{AreParts, fill, fill_all}
use Rattle.tt_kinds.specs.Parts.{ChildSort, a_stored, child_sort}
use Rattle.tt_kinds.specs.TermTable.{has_items, term_table}
use Rattle.tt_kinds.specs.declared.handle.AnyHandle.{AnyHandle}
use Rattle.tt_kinds.specs.declared.table.TermTable.TheVariants as terms_of
use Rattle.tt_kinds.specs.Kinds.{region_shape, handle_shape, child_shapes, ty_shape}
use Rattle.tt_kinds.specs.Handle.{Ty}
use Rattle.tt_kinds.specs.declared.region_kind.RegionKind.{RegionKind}
use Rattle.tt_kinds.specs.declared.region_kind.RegionKind.TheVariants.{ReErased}
use Rattle.tt_kinds.specs.declared.generic_arg.GenericArgKind.TheVariants as arg
use Rattle.tt_kinds.specs.declared.parts.Child.{Child}
use Rattle.tt_kinds.specs.declared.parts.Child.TheVariants as child
use Rattle.tt_interner.specs.Owned.{IsOwned}
use Rattle.tt_interner.specs.Rows.{Row, args_row, meaning, size, AreRows}
use Rattle.tt_interner.specs.Stored.{Terms}
use Rattle.tt_interner.proofs.Fill.{tree_table, fill-one}
use Rattle.tt_interner.proofs.ShapeLaws.{shape_one}
use Rattle.tt_interner.proofs.Trees.{distinct}
use Rattle.tt_interner.proofs.ViewLaws.{row_no_view}
use Rattle.tt_fold.specs.Steps.{tree_in}
use Rattle.unify.specs.Substitution.{Substitution, Assignment, GivesTypes, LeavesRoot, IsIdempotent, IsResolved, Solves}
use Rattle.unify.specs.Substitution.{variable_of, variable_in, bound_to, assign, assign_all}
use Rattle.unify.specs.Resolver.{binding}
use Rattle.unify.specs.Bindings.{stored}
use Rattle.unify.specs.Faults.{IsMismatch}
use Rattle.unify.specs.Pairs.{pair_shape, Equates, EquatesTypes, HasNoOwnSolution, IsNoList}
use Rattle.unify.specs.declared.fault.Fault.{Fault}
use Rattle.unify.specs.declared.pairs.Pair.{Pair}
use Rattle.unify.proofs.SubstitutionLaws.{bound_variable, first_tree}
use Rattle.unify.proofs.PairLaws.{pair_parts}
use Rattle.unify.proofs.ResolverSteps.{EntrySays}
use Rattle.unify.proofs.RootLaws.{first_sort, child_told, stored_root, region_left, table_one}
use Rattle.unify.proofs.SolutionLaws.{stored_met}

-- what never fails with a mismatch promises anything of one
pub never_mismatch : {T : Type 0} (A : Type 0) (result : Result T Fault) → IfErr result (λ f. IsMismatch f → ⊥) → IfErr result (λ f. IsMismatch f → A)
never_mismatch A (Ok e) never = tt
never_mismatch A (Err f) never = λ is. absurd (never is)

-- what is promised of a mismatch, is promised on any condition
pub on_condition : {T : Type 0} (A P : Type 0) (result : Result T Fault) → IfErr result (λ f. IsMismatch f → A) → IfErr result (λ f. IsMismatch f → P → A)
on_condition A P (Ok e) promised = tt
on_condition A P (Err f) promised = λ is condition. promised is

-- and where the condition holds, it is promised without it
pub condition_met : {T : Type 0} (A P : Type 0) (result : Result T Fault) → P → IfErr result (λ f. IsMismatch f → P → A) → IfErr result (λ f. IsMismatch f → A)
condition_met A P (Ok e) condition promised = tt
condition_met A P (Err f) condition promised = λ is. promised is condition

-- a child of this sort is a list
abbrev is_list : ChildSort → Bool
is_list (a_stored t) = has_items t
is_list s = false

unlisted : (c : Child) → IsNoList c → is_list (child_sort c) ≡ false
unlisted (child.Stored h) free = free
unlisted c free = refl

-- the first argument of a row, if it is a region
abbrev region_in : Row → RegionKind
region_in (args_row (arg.Lifetime r ∷ args)) = r
region_in _ = ReErased

region_one : (r r' : RegionKind) → region_shape r ≡ region_shape r' → r ≡ r'
region_one r r' h =
    ap region_in (shape_one (args_row (arg.Lifetime r ∷ [])) (args_row (arg.Lifetime r' ∷ [])) (ap (λ s. shape.node (list_label ArgLists) (shape.also s shape.none)) h))

label_root : (l : Label Name) (v : ℕ) → variable_of l ≡ Some v → label_table l ≡ Some Types
label_root (type_label (infer_type (TyVar w))) v is = refl
label_root l v is = absurd (cc)

-- a variable's tree is a type's
pub variable_root : (t : Tree Depth) (v : ℕ) → variable_in t ≡ Some v → tree_table t ≡ Some Types
variable_root (tree.term l ts) v is = label_root l v is
variable_root t v is = absurd (cc)

module _ (rows : List Row) (are : AreRows rows) where
  -- a term that is no type is no variable
  no_type_left : (ρ : Assignment) (n : AnyHandle) → n.number < size rows (term_table n.table) → (term_table n.table ≡ Types → ⊥) → LeavesRoot ρ (fill (meaning rows) (handle_shape n))
  unfolding fill
  no_type_left ρ n inside other v is =
      absurd (other (same_Some (term_table n.table) Types
      (sym ((distinct rows are).roots (term_table n.table) n.number inside) ∙ variable_root (meaning rows (term_table n.table) n.number) v is)))

  module _ (ρ : Assignment) (types : GivesTypes ρ) where
    -- children that become the same are of one sort
    sorts_met : (c d : Child) → AreParts (size rows) (child_shapes c) → AreParts (size rows) (child_shapes d)
        → assign_all ρ (fill_all (meaning rows) (child_shapes c)) ≡ assign_all ρ (fill_all (meaning rows) (child_shapes d)) → child_sort c ≡ child_sort d
    sorts_met c d p q h =
        sym (child_told ρ types (size rows) (meaning rows) (distinct rows are) c p) ∙ ap first_sort h
        ∙ child_told ρ types (size rows) (meaning rows) (distinct rows are) d q

    -- a list and another child
    list_apart : (c d : Child) (l : AnyHandle) → c ≡ child.Stored l → IsTrue (has_items l.table) → IsNoList d
        → AreParts (size rows) (child_shapes c) → AreParts (size rows) (child_shapes d)
        → assign_all ρ (fill_all (meaning rows) (child_shapes c)) ≡ assign_all ρ (fill_all (meaning rows) (child_shapes d)) → ⊥
    list_apart c d l is items free p q h =
        true≢false (sym items ∙ ap (λ x. is_list (child_sort x)) (sym is) ∙ ap is_list (sorts_met c d p q h) ∙ unlisted d free)

    regions_apart : (r r' : RegionKind) → AreParts (size rows) (child_shapes (child.Region r)) → AreParts (size rows) (child_shapes (child.Region r'))
        → assign_all ρ (fill_all (meaning rows) (child_shapes (child.Region r))) ≡ assign_all ρ (fill_all (meaning rows) (child_shapes (child.Region r'))) → r ≡ r'
    unfolding fill
    regions_apart r r' p q h =
        let m = meaning rows in
        let trees = sym (region_left ρ m r) ∙ ap (first_tree (fill m (region_shape r))) h ∙ region_left ρ m r' in
        region_one r r' (fill-one (size rows) m (distinct rows are) (region_shape r) (region_shape r')
        (row_no_view (args_row (arg.Lifetime r ∷ []))).0 (row_no_view (args_row (arg.Lifetime r' ∷ []))).0 p.0 q.0 trees)

    -- a child that is neither a term nor a list, and another child
    leaf_apart : (c d : Child) → ((n : AnyHandle) → c ≢ child.Stored n) → IsNoList c → IsNoList d → c ≢ d
        → AreParts (size rows) (child_shapes c) → AreParts (size rows) (child_shapes d) → child_sort c ≡ child_sort d
        → assign_all ρ (fill_all (meaning rows) (child_shapes c)) ≡ assign_all ρ (fill_all (meaning rows) (child_shapes d)) → ⊥
    leaf_apart (child.Stored n) d leaf free free' other p q sorts h = leaf n refl
    leaf_apart child.Absent child.Absent leaf free free' other p q sorts h = other refl
    leaf_apart (child.Region r) (child.Region r') leaf free free' other p q sorts h = other (ap child.Region (regions_apart r r' p q h))
    leaf_apart _ _ leaf free free' other p q sorts h = cc

module _ (a : Terms) (xs : List (Option Ty)) (ps : List Pair) where
  -- two types that aren't variables of the table, and that no assignment makes equal that leaves them if they are
  -- variables; the given types become what they do
  pub types_mismatch : (left right l r : Ty)
      → ((ρ : Assignment) → GivesTypes ρ → LeavesRoot ρ (tree_in a.rows (ty_shape l)) → LeavesRoot ρ (tree_in a.rows (ty_shape r))
      → assign ρ (tree_in a.rows (ty_shape l)) ≢ assign ρ (tree_in a.rows (ty_shape r)))
      → ((v : ℕ) → variable_in (tree_in a.rows (ty_shape l)) ≡ Some v → length xs ≤ v)
      → ((v : ℕ) → variable_in (tree_in a.rows (ty_shape r)) ≡ Some v → length xs ≤ v)
      → ((ρ : Assignment) → Solves ρ (stored a xs) → EquatesTypes ρ a left right → EquatesTypes ρ a l r)
      → HasNoOwnSolution (λ ρ. EquatesTypes ρ a left right) a xs ps
  types_mismatch left right l r apart foreign foreign' met = record {
    never = λ ρ meets solution.
        apart ρ meets.0.types (λ v is. meets.0.leaves v (foreign v is)) (λ v is. meets.0.leaves v (foreign' v is)) (met ρ solution.solves meets.1);
  }

  -- two lists that no assignment makes equal
  pub lists_mismatch : (p : Pair) (l r : AnyHandle) → p.left ≡ child.Stored l → p.right ≡ child.Stored r
      → ((ρ : Assignment) → assign ρ (tree_in a.rows (handle_shape l)) ≢ assign ρ (tree_in a.rows (handle_shape r)))
      → HasNoOwnSolution (λ ρ. Equates ρ a p) a xs ps
  lists_mismatch p l r is is' apart = record { never = λ ρ meets solution. apart ρ (stored_met ρ a p l r is is' meets.1) }

  module _ (are : AreRows a.rows) (p : Pair) (owned : IsOwned pair_shape a p) where
    -- a list and no list
    pub list_mismatch : (l : AnyHandle) → (p.left ≡ child.Stored l) × IsTrue (has_items l.table) → IsNoList p.right
        → HasNoOwnSolution (λ ρ. Equates ρ a p) a xs ps
    list_mismatch l is free = let parts = pair_parts a p owned in record {
      never = λ ρ meets solution. list_apart a.rows are ρ meets.0.types p.left p.right l is.0 is.1 free parts.0 parts.1 meets.1;
    }

    -- no list and a list
    pub other_mismatch : (l : AnyHandle) → IsNoList p.left → (p.right ≡ child.Stored l) × IsTrue (has_items l.table)
        → HasNoOwnSolution (λ ρ. Equates ρ a p) a xs ps
    other_mismatch l free is = let parts = pair_parts a p owned in record {
      never = λ ρ meets solution. list_apart a.rows are ρ meets.0.types p.right p.left l is.0 is.1 free parts.1 parts.0 (sym meets.1);
    }

    module _ (free : IsNoList p.left) (free' : IsNoList p.right) (other : p.left ≢ p.right) where
      -- two children, neither a list, of which the first is no term
      pub left_mismatch : ((n : AnyHandle) → p.left ≢ child.Stored n) → HasNoOwnSolution (λ ρ. Equates ρ a p) a xs ps
      left_mismatch leaf = let parts = pair_parts a p owned in record {
        never = λ ρ meets solution. leaf_apart a.rows are ρ meets.0.types p.left p.right leaf free free' other parts.0 parts.1
            (sorts_met a.rows are ρ meets.0.types p.left p.right parts.0 parts.1 meets.1) meets.1;
      }

      -- or the second is none
      pub right_mismatch : ((n : AnyHandle) → p.right ≢ child.Stored n) → HasNoOwnSolution (λ ρ. Equates ρ a p) a xs ps
      right_mismatch leaf = let parts = pair_parts a p owned in record {
        never = λ ρ meets solution. leaf_apart a.rows are ρ meets.0.types p.right p.left leaf free' free (λ e. other (sym e)) parts.1 parts.0
            (sorts_met a.rows are ρ meets.0.types p.right p.left parts.1 parts.0 (sym meets.1)) (sym meets.1);
      }

    -- two terms, not both types, that no assignment makes equal that leaves them if they are variables
    pub stored_mismatch : (l r : AnyHandle) → p.left ≡ child.Stored l → p.right ≡ child.Stored r
        → ((l.table ≡ terms_of.Types) × (r.table ≡ terms_of.Types) → ⊥)
        → ((ρ : Assignment) → GivesTypes ρ → LeavesRoot ρ (tree_in a.rows (handle_shape l)) → LeavesRoot ρ (tree_in a.rows (handle_shape r))
        → assign ρ (tree_in a.rows (handle_shape l)) ≢ assign ρ (tree_in a.rows (handle_shape r)))
        → HasNoOwnSolution (λ ρ. Equates ρ a p) a xs ps
    unfolding fill
    stored_mismatch l r is is' not_types apart =
        let parts = pair_parts a p owned in
        let inside = (subst (λ c. AreParts (size a.rows) (child_shapes c)) is parts.0).0 in
        let inside' = (subst (λ c. AreParts (size a.rows) (child_shapes c)) is' parts.1).0 in
        record {
          never = λ ρ meets solution.
              let types = meets.0.types in
              let same = stored_met ρ a p l r is is' meets.1 in
              let tables : term_table l.table ≡ term_table r.table = same_Some (term_table l.table) (term_table r.table)
              (sym (stored_root ρ types (size a.rows) (meaning a.rows) (distinct a.rows are) (term_table l.table) l.number inside)
              ∙ ap tree_table same ∙ stored_root ρ types (size a.rows) (meaning a.rows) (distinct a.rows are) (term_table r.table) r.number inside') in
              let never : term_table l.table ≡ Types → ⊥ = λ e. not_types (table_one l.table terms_of.Types e, table_one r.table terms_of.Types (sym tables ∙ e)) in
              apart ρ types (no_type_left a.rows are ρ l inside never) (no_type_left a.rows are ρ r inside' (λ e. never (tables ∙ e))) same;
        }

resolved_unbound : (σ : Substitution) (r : Tree Depth) → IsResolved σ r → binding σ r ≡ None
resolved_unbound σ (tree.term l ts) resolved = by (bound_to σ l) refl
  where
    by : (o : Option (Tree Depth)) → bound_to σ l ≡ o → bound_to σ l ≡ None
    by None e = e
    by (Some b) e = let found = bound_variable σ l b e in absurd ((resolved found.variable b found.has).0 found.is)
resolved_unbound σ _ resolved = refl

-- what a variable is bound to is no bound variable
pub binding_unbound : (σ : Substitution) (t r : Tree Depth) → IsIdempotent σ → binding σ t ≡ Some r → binding σ r ≡ None
binding_unbound σ (tree.term l ts) r idempotent h =
    let found = bound_variable σ l r h in resolved_unbound σ r (idempotent found.variable r found.has)
binding_unbound σ _ r idempotent h = absurd (cc)

-- a type that was looked up, and is no unbound variable of the table, is no variable of the table
pub foreign_by : (a : Terms) (xs ys zs : List (Option Ty)) (t : Tree Depth) → ys ≡ xs → zs ≡ xs → IsIdempotent (stored a xs)
    → (IsIdempotent (stored a ys) → binding (stored a ys) t ≡ None)
    → ((v : ℕ) → variable_in t ≡ Some v → binding (stored a zs) t ≡ None → length zs ≤ v)
    → (v : ℕ) → variable_in t ≡ Some v → length xs ≤ v
foreign_by a xs ys zs t e f idempotent unbound foreign v is =
    let none = subst (λ ws. IsIdempotent (stored a ws) → binding (stored a ws) t ≡ None) e unbound idempotent in
    subst (λ ws. (v : ℕ) → variable_in t ≡ Some v → binding (stored a ws) t ≡ None → length ws ≤ v) f foreign v is none

-- a type that is looked up is no bound variable
pub looked_up_unbound : (a : Terms) (xs : List (Option Ty)) (ty result : Ty) (o : Option Ty) → EntrySays a (stored a xs) (tree_in a.rows (ty_shape ty)) o
    → result ≡ unwrap_or o ty → IsIdempotent (stored a xs) → binding (stored a xs) (tree_in a.rows (ty_shape result)) ≡ None
looked_up_unbound a xs ty result None says is idempotent =
    subst (λ t. binding (stored a xs) (tree_in a.rows (ty_shape t)) ≡ None) (sym is) says
looked_up_unbound a xs ty result (Some b) says is idempotent =
    subst (λ t. binding (stored a xs) (tree_in a.rows (ty_shape t)) ≡ None) (sym is)
    (binding_unbound (stored a xs) (tree_in a.rows (ty_shape ty)) (tree_in a.rows (ty_shape b)) idempotent says)

-- a variable whose entry has a type is bound
pub entry_bound : (terms : Terms) (σ : Substitution) (t : Tree Depth) (o : Option Ty) (b : Ty) → EntrySays terms σ t o → o ≡ Some b → binding σ t ≡ None → ⊥
entry_bound terms σ t None b says e none = none-some b e
entry_bound terms σ t (Some x) b says e none = none-some (tree_in terms.rows (ty_shape x)) (sym none ∙ says)
