-- What the steps of the unifier do to the solutions of bindings and pairs.
use Rattle.std.proofs.Common.{◌≡◌, ℕ, List, Option, Some, Result, Ok, Err, IfOk, IfErr, sym, subst, ap, ◌∙◌}
use Rattle.tt_kinds.specs.Tree as tree
use Rattle.tt_kinds.specs.Tree.{Depth, Tree}
use Rattle.tt_kinds.specs.Shape.{Meaning, fill}
use Rattle.tt_kinds.specs.TermTable.{term_table}
use Rattle.tt_kinds.specs.declared.handle.AnyHandle.{AnyHandle}
use Rattle.tt_kinds.specs.declared.table.TermTable.TheVariants as terms_of
use Rattle.tt_kinds.specs.Kinds.{ty_shape, handle_shape}
use Rattle.tt_kinds.specs.Handle.{Ty, any_handle}
use Rattle.tt_kinds.specs.declared.parts.Child.TheVariants as child
use Rattle.tt_interner.specs.Owned.{AreOwned}
use Rattle.tt_interner.specs.Stored.{Terms, Extends}
use Rattle.tt_fold.specs.Steps.{tree_in}
use Rattle.unify.specs.Substitution.{Assignment, variable_in, assign, assign_all, Solves}
use Rattle.unify.specs.Bindings.{stored}
use Rattle.unify.specs.Pairs.{pair_shape, child_trees, Equates, EquatesAll, EquatesTypes, HasNoSolution, KeepsSolutions}
use Rattle.unify.specs.Faults.{IsOccurs}
use Rattle.unify.specs.declared.fault.Fault.{Fault}
use Rattle.unify.specs.declared.pairs.Pair.{Pair}
use Rattle.unify.proofs.SubstitutionLaws.{first_tree}
use Rattle.unify.proofs.GeneralLaws.{variable_assigned}
use Rattle.unify.proofs.PairLaws.{equates_grown}

module _ (a : Terms) (xs : List (Option Ty)) where
  -- a step that changes nothing keeps all solutions
  pub same_solutions : (Meets : Assignment → Type 0) (ps : List Pair) → KeepsSolutions Meets a xs ps a xs ps
  same_solutions Meets ps = record { keep = λ ρ meets solution. solution }

  -- a step that leaves the bindings keeps the solutions that make the new pairs equal
  pub pairs_keep : (Meets : Assignment → Type 0) (ps qs : List Pair)
      → ((ρ : Assignment) → Meets ρ → Solves ρ (stored a xs) → EquatesAll ρ a ps → EquatesAll ρ a qs) → KeepsSolutions Meets a xs ps a xs qs
  pairs_keep Meets ps qs equates = record {
    keep = λ ρ meets solution. record { solves = solution.solves; equates = equates ρ meets solution.solves solution.equates };
  }

  -- two types that become one tree: so do their bindings, or the types themselves where they have none
  pub looked_up_met : (ys zs : List (Option Ty)) (left right l r : Ty) → ys ≡ xs → zs ≡ xs
      → ((ρ : Assignment) → Solves ρ (stored a ys) → EquatesTypes ρ a left l)
      → ((ρ : Assignment) → Solves ρ (stored a zs) → EquatesTypes ρ a right r)
      → (ρ : Assignment) → Solves ρ (stored a xs) → EquatesTypes ρ a left right → EquatesTypes ρ a l r
  looked_up_met ys zs left right l r e f same same' ρ solves met =
      sym (same ρ (subst (λ s. Solves ρ (stored a s)) (sym e) solves)) ∙ met ∙ same' ρ (subst (λ s. Solves ρ (stored a s)) (sym f) solves)

  -- binding a variable keeps the solutions that make it and the type equal
  pub bound_keeps : {T E : Type 0} (b : Terms) (result : Result T E) (items : T → List (Option Ty)) (ps : List Pair) (left right variable other : Ty) (v : ℕ)
      → IfOk result (λ e. (ρ : Assignment) → ρ v ≡ assign ρ (tree_in a.rows (ty_shape other)) → Solves ρ (stored a xs) → Solves ρ (stored b (items e)))
      → Extends a b → AreOwned pair_shape a ps
      → variable_in (tree_in a.rows (ty_shape variable)) ≡ Some v
      → ((ρ : Assignment) → Solves ρ (stored a xs) → EquatesTypes ρ a left right → EquatesTypes ρ a variable other)
      → IfOk result (λ e. KeepsSolutions (λ ρ. EquatesTypes ρ a left right) a xs ps b (items e) ps)
  bound_keeps b (Ok e) items ps left right variable other v general extends owned is met = record {
    keep = λ ρ meets solution. record {
      solves = general ρ (sym (variable_assigned ρ (tree_in a.rows (ty_shape variable)) v is) ∙ met ρ solution.solves meets) solution.solves;
      equates = equates_grown ρ a b extends ps owned solution.equates;
    };
  }
  bound_keeps b (Err e) items ps left right variable other v general extends owned is met = tt

  -- a step keeps the solutions that meet more, too
  pub keeps_under : {T E : Type 0} (b : Terms) (result : Result T E) (items : T → List (Option Ty)) (ps qs : List Pair) (Meets Other : Assignment → Type 0)
      → ((ρ : Assignment) → Other ρ → Meets ρ)
      → IfOk result (λ e. KeepsSolutions Meets a xs ps b (items e) qs) → IfOk result (λ e. KeepsSolutions Other a xs ps b (items e) qs)
  keeps_under b (Ok e) items ps qs Meets Other meets keeps = record { keep = λ ρ other solution. keeps.keep ρ (meets ρ other) solution }
  keeps_under b (Err e) items ps qs Meets Other meets keeps = tt

  -- where binding a variable has no solution, two types that would become it and the type have none
  pub bound_never : {T : Type 0} (result : Result T Fault) (ps : List Pair) (left right variable other : Ty) (v : ℕ)
      → IfErr result (λ f. IsOccurs f → (ρ : Assignment) → ρ v ≡ assign ρ (tree_in a.rows (ty_shape other)) → Solves ρ (stored a xs) → ⊥)
      → variable_in (tree_in a.rows (ty_shape variable)) ≡ Some v
      → ((ρ : Assignment) → Solves ρ (stored a xs) → EquatesTypes ρ a left right → EquatesTypes ρ a variable other)
      → IfErr result (λ f. IsOccurs f → HasNoSolution (λ ρ. EquatesTypes ρ a left right) a xs ps)
  bound_never (Ok e) ps left right variable other v never is met = tt
  bound_never (Err f) ps left right variable other v never is met = λ occurs. record {
    never = λ ρ meets solution.
        never occurs ρ (sym (variable_assigned ρ (tree_in a.rows (ty_shape variable)) v is) ∙ met ρ solution.solves meets) solution.solves;
  }

  -- what has no solution has none that meets more
  pub never_under : {T : Type 0} (Is : Fault → Type 0) (result : Result T Fault) (ps : List Pair) (Meets Other : Assignment → Type 0)
      → ((ρ : Assignment) → Other ρ → Meets ρ)
      → IfErr result (λ f. Is f → HasNoSolution Meets a xs ps) → IfErr result (λ f. Is f → HasNoSolution Other a xs ps)
  never_under Is (Ok e) ps Meets Other meets never = tt
  never_under Is (Err f) ps Meets Other meets never = λ is. record { never = λ ρ other solution. (never is).never ρ (meets ρ other) solution }

-- two types that become one tree, as children
pub types_met : (ρ : Assignment) (a : Terms) (l r : Ty) → EquatesTypes ρ a l r
    → assign_all ρ (child_trees a (child.Stored (any_handle terms_of.Types l))) ≡ assign_all ρ (child_trees a (child.Stored (any_handle terms_of.Types r)))
unfolding fill
types_met ρ a l r met = ap (λ t. tree.also t tree.none) met

-- a term's and a list's tree, by the handle
pub stored_tree : (m : Meaning) (h : AnyHandle) (t : Tree Depth) → m (term_table h.table) h.number ≡ t → fill m (handle_shape h) ≡ t
unfolding fill
stored_tree m h t is = is

module _ (ρ : Assignment) (a : Terms) (p : Pair) where
  -- a pair of terms or lists that is made equal
  pub stored_met : (l r : AnyHandle) → p.left ≡ child.Stored l → p.right ≡ child.Stored r → Equates ρ a p
      → assign ρ (tree_in a.rows (handle_shape l)) ≡ assign ρ (tree_in a.rows (handle_shape r))
  unfolding fill
  stored_met l r is is' met =
      let both : assign_all ρ (child_trees a (child.Stored l)) ≡ assign_all ρ (child_trees a (child.Stored r)) =
      sym (ap (λ c. assign_all ρ (child_trees a c)) is) ∙ met ∙ ap (λ c. assign_all ρ (child_trees a c)) is' in
      ap (first_tree (tree_in a.rows (handle_shape l))) both
