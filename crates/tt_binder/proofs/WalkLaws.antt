-- The laws of the argument folder's task: it gives plain replacement, and is refused only for its reasons.
use Rattle.std.proofs.Common.{◌≡◌, ℕ, inl, inr, List, refl, sym, subst, ◌∙◌, arith, Bool, true, false}
use Rattle.std.specs.Prelude.{IsSome}
use Rattle.std.specs.Bool.{OnTrue}
use Rattle.tt_index.specs.declared.refusal.Refusal.{Refusal}
use Rattle.tt_index.specs.declared.refusal.Refusal.TheVariants.{Memory, TableFull, GreatestIndex, NoArguments}
use Rattle.tt_index.specs.declared.refusal.Refusal.TheVariants.{ArgOutOfRange, ArgKind, RegionVariable, NotAClause}
use Rattle.tt_index.specs.declared.refusal.Refusal.TheVariants.{NoSuchAnswer}
use Rattle.tt_kinds.specs.Label.{Name, region_sort, VarKind, type_label, const_label}
use Rattle.tt_kinds.specs.Label.{pattern_label, predicate_label, existential_label, clause_list_label}
use Rattle.tt_kinds.specs.Label.{clause_label, Label, is_type_or_clause}
use Rattle.tt_kinds.specs.Tree.{Depth, Tree, Forest, param, bound, term, node, binder, none, also}
use Rattle.tt_kinds.specs.Reading.{read, FitsUnder}
use Rattle.tt_kinds.specs.Argument.{argument}
use Rattle.tt_kinds.specs.Plain.{given_under, inst_tree}
use Rattle.tt_kinds.specs.Param.{holds_param, EachParam_among, IsGeneric_among}
use Rattle.tt_kinds.specs.Cause.{HidesRegionVars, HasExposed_among, Cause}
use Rattle.tt_kinds.proofs.ParamLaws.{inst_tree-none, EachParam-none}
use Rattle.tt_kinds.proofs.ChildLaws.{Among, HasParam-among, HasExposed-among}
use Rattle.tt_interner.specs.Stored.{Counters}
use Rattle.tt_fold.specs.Counts.{Standing}
use Rattle.tt_fold.specs.Walk.{IsPassed}
use Rattle.tt_fold.specs.Remember.{made, IsTaken}
use Rattle.tt_fold.specs.Stands.{StandsIn}
use Rattle.tt_fold.proofs.LeafLaws.{with_leaves-rebuild}
use Rattle.tt_fold.proofs.ShiftLaws.{counted-one, counted-up}
use Rattle.tt_fold.proofs.RememberLaws.{Knows}
use Rattle.tt_fold.proofs.TaskLaws.{AllowsAll, Refuses, without, too_far, caused, IsGiven, TaskLaws}
use Rattle.tt_binder.specs.Instantiation.{Args, Kept, Instantiation, at_first, Instantiates, IsInstantiable}
use Rattle.tt_binder.specs.Instantiation.{LeafRefuses}
use Rattle.tt_binder.specs.Instantiation.{for_cause, shift_unbuilt, shift_too_far, IsInnerConst, IsGoneInto}
use Rattle.tt_binder.specs.Instantiation.{PutsArgument, as_it_is, shifted_now, instantiation}

-- the instantiated tree is what the task makes of a tree
pub made-inst : (args : Args) (k : ℕ) (t : Tree Depth) → made instantiation args k t ≡ inst_tree k args t
made-inst args k t = with_leaves-rebuild (λ j d. d) (given_under args) k t

inst_done : (args : Args) (k : ℕ) (t r : Tree Depth) → r ≡ inst_tree k args t → IsInstantiable args t → Instantiates args k t r
inst_done args k t r is allows = record { plain = is ∙ sym (made-inst args k t); allows = allows }

-- what holds no parameter is instantiated to itself
pub left_done : (args : Args) (k : ℕ) (t : Tree Depth) → holds_param t ≡ false → HidesRegionVars t → Instantiates args k t t
left_done args k t h hides = inst_done args k t t (sym (inst_tree-none k args t h)) (record { answered = EachParam-none _ t h; hides = hides })

-- where the hook answers so, and where there is none
pub on_true : (b : Bool) {P : Type 0} → P → OnTrue b P
on_true true h = h
on_true false h = tt

-- a constant that is no parameter is among the trees that are entered
pub const-gone : (t : Tree Depth) → IsInnerConst t → IsGoneInto t
const-gone (bound s d e) is = tt
const-gone (term (const_label l) ts) is = tt
const-gone (term (type_label l) ts) is = cc
const-gone (term predicate_label ts) is = cc
const-gone (term clause_list_label ts) is = cc
const-gone (term _ ts) is = tt
const-gone _ is = absurd is

-- a term without a hook is among the trees that are entered
pub passed-gone : (t : Tree Depth) → IsPassed t → IsGoneInto t
passed-gone (bound s d e) is = tt
passed-gone (term (pattern_label l) ts) is = tt
passed-gone (term existential_label ts) is = tt
passed-gone (param region_sort i name) is = cc
passed-gone (node clause_label ts) is = cc
passed-gone _ is = cc

taken-gone : (args : Args) (k : ℕ) (t : Tree Depth) → IsTaken instantiation args k t → IsGoneInto t
taken-gone args k (term l ts) taken = on_true (is_type_or_clause l) taken.1
taken-gone args k _ taken = absurd taken

-- what is allowed in all parts
all_answered : (args : Args) (k : ℕ) (ts : Forest Depth) → AllowsAll instantiation args k ts → EachParam_among (λ s i. IsSome (argument args s i)) ts
all_answered args k none h = tt
all_answered args k (also t ts) h = (h.0.answered, all_answered args k ts h.1)

all_hide : (args : Args) (k : ℕ) (ts : Forest Depth) → AllowsAll instantiation args k ts → (x : ℕ) → HasExposed_among x ts → ⊥
all_hide args k none h x e = e
all_hide args k (also t ts) h x e = elim e [ inl a ↦ h.0.hides x a | inr b ↦ all_hide args k ts h.1 x b ]

-- a cause in a child of a term or a node, or under a binder, is a cause in the whole
Cause-term : (args : Args) (l : Label Name) (t : Tree Depth) (ts : Forest Depth) → Among t ts → OnTrue (is_type_or_clause l) (IsGeneric_among ts)
    → (e : Refusal) → Cause t args e → Cause (term l ts) args e
Cause-term args l t ts m g Memory h = h
Cause-term args l t ts m g TableFull h = h
Cause-term args l t ts m g GreatestIndex h = h
Cause-term args l t ts m g NotAClause h = h
Cause-term args l t ts m g NoSuchAnswer h = h
Cause-term args l t ts m g NoArguments h = (h.0, HasParam-among _ t ts m h.1)
Cause-term args l t ts m g (ArgOutOfRange index) h = (h.0, HasParam-among _ t ts m h.1, h.2)
Cause-term args l t ts m g (ArgKind index) h = HasParam-among _ t ts m h
Cause-term args l t ts m g (RegionVariable x) h = (h.0, (g, HasExposed-among x t ts m h.1))

Cause-node : (args : Args) (l : Label Name) (t : Tree Depth) (ts : Forest Depth) → Among t ts → (e : Refusal) → Cause t args e → Cause (node l ts) args e
Cause-node args l t ts m Memory h = h
Cause-node args l t ts m TableFull h = h
Cause-node args l t ts m GreatestIndex h = h
Cause-node args l t ts m NotAClause h = h
Cause-node args l t ts m NoSuchAnswer h = h
Cause-node args l t ts m NoArguments h = (h.0, HasParam-among _ t ts m h.1)
Cause-node args l t ts m (ArgOutOfRange index) h = (h.0, HasParam-among _ t ts m h.1, h.2)
Cause-node args l t ts m (ArgKind index) h = HasParam-among _ t ts m h
Cause-node args l t ts m (RegionVariable x) h = (h.0, HasExposed-among x t ts m h.1)

Cause-binder : (args : Args) (vs : List (VarKind Name)) (t : Tree Depth) (e : Refusal) → Cause t args e → Cause (binder vs t) args e
Cause-binder args vs t Memory h = h
Cause-binder args vs t TableFull h = h
Cause-binder args vs t GreatestIndex h = h
Cause-binder args vs t NotAClause h = h
Cause-binder args vs t NoSuchAnswer h = h
Cause-binder args vs t NoArguments h = h
Cause-binder args vs t (ArgOutOfRange index) h = h
Cause-binder args vs t (ArgKind index) h = h
Cause-binder args vs t (RegionVariable x) h = h

-- a leaf's refusal is one of a tree
leaf_refused : (unbuilt : Tree Depth → Refusal → Type 0) (args : Args) (k : ℕ) (t : Tree Depth) (e : Refusal) → LeafRefuses unbuilt args k t e → Refuses instantiation unbuilt args k t e
leaf_refused unbuilt args k t e (for_cause h) = caused h
leaf_refused unbuilt args k t e (shift_unbuilt below u m h) = without u (subst (λ v. StandsIn u v) (sym (made-inst args k t)) m) h
leaf_refused unbuilt args k t e (shift_too_far below is unfit) = too_far is (subst (λ u. FitsUnder k (read k u) → ⊥) (sym (made-inst args k t)) unfit)

argument_given : (s : Standing Instantiation) (t r : Tree Depth) (kept : Kept) (c : Counters) → PutsArgument s.state.rule s.state.under t r s.state.kept s.counters kept c
    → IsGiven instantiation s t r c
argument_given s t r kept c (as_it_is is) = record {
  is_done = inst_done s.state.rule s.state.under t r is.plain is.allows;
  rises = record { descents = omega arith; shift_descents = omega arith };
  amount = omega arith;
}
argument_given s t r kept c (shifted_now i n is place below now more pairs) = record {
  is_done = inst_done s.state.rule s.state.under t r is.plain is.allows;
  rises = record { descents = omega arith; shift_descents = more };
  amount = omega arith;
}

-- the argument folder's task meets the laws of one
pub instantiation_laws : TaskLaws instantiation
instantiation_laws = record {
  passed_entered = λ args k t is. passed-gone t is;
  taken_entered = taken-gone;
  param_stays = λ args k o i name entered. absurd entered;
  bound_stays = λ args k o d e entered. left_done args k (bound o d e) refl (λ x h. h);
  allows_term = λ args k l ts entered all. record { answered = all_answered args k ts all; hides = λ x h. all_hide args k ts all x h.1 };
  allows_node = λ args k l ts all. record { answered = all_answered args k ts all; hides = all_hide args k ts all };
  allows_binder = λ args k vs t h. record { answered = h.answered; hides = h.hides };
  given = argument_given;
  region_refused = leaf_refused;
  term_refused = λ unbuilt s t e s' h. record {
    why = leaf_refused unbuilt s.state.rule s.state.under t e h.2;
    rises = record { descents = omega (arith, h.0); shift_descents = h.1.0 };
    amount = omega (arith, h.0);
  };
  cause_term = λ args k l t ts e entered m h. Cause-term args l t ts m entered e h;
  cause_node = λ args k l t ts e m h. Cause-node args l t ts m e h;
  cause_binder = λ args k vs t e h. Cause-binder args vs t e h;
  count_one = λ c. counted-one c.descents;
  rises_one = λ c. record { descents = counted-up c.descents; shift_descents = omega arith };
  rises_still = λ c. record { descents = omega arith; shift_descents = omega arith };
  rises_then = λ a b c m n. record { descents = omega (arith, m.descents, n.descents); shift_descents = omega (arith, m.shift_descents, n.shift_descents) };
}

-- at first nothing is remembered, so all that is was done
pub knows_first : (args : Args) (s : Instantiation) → s ≡ at_first args → Knows instantiation instantiation_laws s
knows_first args s is = subst (λ q. Knows instantiation instantiation_laws q) (sym is) (λ m h. absurd h)
