-- Replacing inference variables, in trees and in their readings.
use Rattle.std.proofs.Common.{◌≡◌, ℕ, suc, List, refl, ap, sym, ◌∙◌}
use Rattle.std.specs.Prelude.{Option, Some, None, option_map, unwrap_or, IsSome}
use Rattle.tt_kinds.specs.Label.{Name, Sort, Label, type_label, infer_type}
use Rattle.tt_kinds.specs.declared.ty_kind.InferTy.TheVariants.{TyVar}
use Rattle.tt_kinds.specs.Tree.{Depth, Place, Tree, param, bound, region, term, node, binder, Forest, none, also}
use Rattle.tt_kinds.specs.Argument.{Argument, argument, put, put_all, change_values}
use Rattle.tt_kinds.specs.Param.{IsAnswered, EachParam_among}
use Rattle.tt_kinds.specs.Reading.{read, read_all}
use Rattle.tt_kinds.proofs.PutLaws.{argument-change_values}
use Rattle.unify.specs.Substitution.{Assignment, IsType, assign, assign_all, bound_to, every, or_else, variable_of}
use Rattle.solver.specs.Answers.{IsAssignment, assigned, all_assigned, at_variable}
use Rattle.solver.specs.Written.{IsGround, AreGround}
use Rattle.solver.proofs.ClosedLaws.{closed_read}

module _ (ρ : Assignment) (is : IsAssignment ρ) where
  variable_read : (k : ℕ) (l : Label Name) (t : Tree Depth) (r : Tree Place) → read k t ≡ r
      → read k (or_else (bound_to (every ρ) l) t) ≡ at_variable ρ (variable_of l) r
  variable_read k (type_label (infer_type (TyVar v))) t r h = closed_read k (ρ v) (is.closed v)
  variable_read k l t r h = h

  mutual
    -- to replace variables in a tree is to replace them in the tree's reading
    pub read_assign : (k : ℕ) (t : Tree Depth) → read k (assign ρ t) ≡ assigned ρ (read k t)
    read_assign k (param s i name) = refl
    read_assign k (bound s d e) = refl
    read_assign k (region r) = refl
    read_assign k (term l ts) = variable_read k l (term l (assign_all ρ ts)) (term l (all_assigned ρ (read_all k ts)))
        (ap (term l) (read_assign_all k ts))
    read_assign k (node l ts) = ap (node l) (read_assign_all k ts)
    read_assign k (binder vs t) = ap (binder vs) (read_assign (suc k) t)

    read_assign_all : (k : ℕ) (ts : Forest Depth) → read_all k (assign_all ρ ts) ≡ all_assigned ρ (read_all k ts)
    read_assign_all k none = refl
    read_assign_all k (also t ts) = rw (read_assign k t, read_assign_all k ts) refl

  variable_type : (l : Label Name) (t : Tree Depth) → IsType t → IsType (or_else (bound_to (every ρ) l) t)
  variable_type (type_label (infer_type (TyVar v))) t h = is.types v
  variable_type l t h = h

  -- a type stays a type
  pub assign_type : (t : Tree Depth) → IsType t → IsType (assign ρ t)
  assign_type (param s i name) h = h
  assign_type (bound s d e) h = h
  assign_type (region r) h = absurd h
  assign_type (term l ts) h = variable_type l (term l (assign_all ρ ts)) h
  assign_type (node l ts) h = absurd h
  assign_type (binder vs t) h = absurd h

module _ (ρ : Assignment) (args : List (Argument Place)) where
  at_value : (s : Sort) (i : ℕ) (name : Name) (o : Option (Tree Place)) → IsSome o
      → assigned ρ (unwrap_or o (param s i name)) ≡ unwrap_or (option_map (assigned ρ) o) (param s i name)
  at_value s i name None x = cc
  at_value s i name (Some t) x = refl

  mutual
    -- in an instance of a goal without variables, variables are in the arguments alone
    pub assigned_put : (r : Tree Place) → IsGround r → IsAnswered args r
        → assigned ρ (put args r) ≡ put (change_values (assigned ρ) args) r
    assigned_put (param s i name) h x = at_value s i name (argument args s i) x
        ∙ ap (λ o. unwrap_or o (param s i name)) (sym (argument-change_values (assigned ρ) args s i))
    assigned_put (bound s p e) h x = refl
    assigned_put (region r) h x = refl
    assigned_put (term l rs) h x = rw (h.0, all_assigned_put rs h.1 x) refl
    assigned_put (node l rs) h x = ap (node l) (all_assigned_put rs h x)
    assigned_put (binder vs r) h x = ap (binder vs) (assigned_put r h x)

    all_assigned_put : (rs : Forest Place) → AreGround rs → EachParam_among (λ s i. IsSome (argument args s i)) rs
        → all_assigned ρ (put_all args rs) ≡ put_all (change_values (assigned ρ) args) rs
    all_assigned_put none h x = refl
    all_assigned_put (also r rs) h x = rw (assigned_put r h.0 x.0, all_assigned_put rs h.1 x.1) refl
