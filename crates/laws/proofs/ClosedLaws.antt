-- What has no parameter has none in its reading, and arguments without parameters.
use Rattle.std.proofs.Common.{◌≡◌, ℕ, suc, List, [], ◌∷◌, Bool, true, false, refl, sym, ap, ◌∙◌}
use Rattle.std.specs.Prelude.{◌||◌, Option, Some, None, option_map, if◌then◌else◌}
use Rattle.tt_kinds.specs.Label.{Sort}
use Rattle.tt_kinds.specs.Tree.{Depth, Place, Tree, param, bound, region, term, node, binder, Forest, none, also}
use Rattle.tt_kinds.specs.Reading.{read, read_all}
use Rattle.tt_kinds.specs.Argument.{Argument, same_sort, argument, readings}
use Rattle.tt_kinds.specs.Param.{ArgumentsHoldNone, holds_param, holds_param_among}
use Rattle.tt_kinds.proofs.PutLaws.{argument-change_values}

mutual
  -- a reading holds a parameter exactly if the tree does
  pub holds_param-read : (k : ℕ) (t : Tree Depth) → holds_param (read k t) ≡ holds_param t
  holds_param-read k (param s i name) = refl
  holds_param-read k (bound s d e) = refl
  holds_param-read k (region r) = refl
  holds_param-read k (term l ts) = holds_param_among-read k ts
  holds_param-read k (node l ts) = holds_param_among-read k ts
  holds_param-read k (binder vs t) = holds_param-read (suc k) t

  holds_param_among-read : (k : ℕ) (ts : Forest Depth) → holds_param_among (read_all k ts) ≡ holds_param_among ts
  holds_param_among-read k none = refl
  holds_param_among-read k (also t ts) = both (holds_param-read k t) (holds_param_among-read k ts)
    where
      both : {a b c d : Bool} → a ≡ b → c ≡ d → a || c ≡ b || d
      both p q = cc

-- if the trees of the arguments hold no parameter, their readings hold none
pub ArgumentsHoldNone-read : (args : List (Argument Depth)) → ArgumentsHoldNone args → ArgumentsHoldNone (readings args)
ArgumentsHoldNone-read args h s i r e = at (argument args s i) refl (sym (argument-change_values (read 0) args s i) ∙ e)
  where
    at : (o : Option (Tree Depth)) → argument args s i ≡ o → option_map (read 0) o ≡ Some r → holds_param r ≡ false
    at None found x = cc
    at (Some t) found x = sym (ap holds_param (some_is (read 0 t) r x)) ∙ holds_param-read 0 t ∙ h s i t found
      where
        some_is : (a b : Tree Place) → Some a ≡ Some b → a ≡ b
        some_is a b y = cc

-- a type without parameters, as the only argument
pub ArgumentsHoldNone-one : (sort : Sort) (u : Tree Depth) → holds_param u ≡ false → ArgumentsHoldNone (record { sort = sort; value = u } ∷ [])
ArgumentsHoldNone-one sort u h s ℕ.zero t e = at (same_sort s sort) e
  where
    at : (b : Bool) → (if b then Some u else None) ≡ Some t → holds_param t ≡ false
    at true x = subst' x
      where
        subst' : Some u ≡ Some t → holds_param t ≡ false
        subst' y = cc
    at false x = cc
ArgumentsHoldNone-one sort u h s (suc i) t e = cc
