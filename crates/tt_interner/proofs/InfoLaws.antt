-- What is kept beside a term, from what is kept beside its parts.
use Rattle.std.proofs.Common.{◌≡◌, ℕ, zero, suc, ◌+◌, ◌-◌, ◌<◌, ◌≤◌, List, [], ◌∷◌, length, get_or, drop, max, bit_or}
use Rattle.std.proofs.Common.{Some, None, refl, sym, ap, ◌∙◌, arith}
use Rattle.std.specs.Prelude.{map, IsTrue}
use Rattle.std.proofs.Math.Numerals.{add-one}
use Rattle.std.proofs.Math.Seq.{drop-cons}
use Rattle.std.proofs.Math.ListN.{drop_of_length-le}
use Rattle.std.specs.Int.Bits.{or_zero_l, or_zero_r}
use Rattle.std.proofs.lemmas.Nat.Bits.{bit_at_or, same_from_bits}
use Rattle.tt_flags.specs.FlagComputation.{computed}
use Rattle.tt_flags.specs.declared.flag_computation.FlagComputation.{FlagComputation}
use Rattle.tt_kinds.specs.Handle.{BoundVarKinds}
use Rattle.tt_kinds.specs.declared.table.Table.{Table}
use Rattle.tt_kinds.specs.declared.table.Table.TheVariants.{VarLists}
use Rattle.tt_kinds.specs.Label.{Name, Sort, VarKind, Label, type_label, const_label, pattern_label, predicate_label}
use Rattle.tt_kinds.specs.Label.{existential_label, clause_list_label, list_label, var_list_label, text_label}
use Rattle.tt_kinds.specs.Label.{declaration_label, definition_label, record_label, error_label, clause_label}
use Rattle.tt_kinds.specs.Label.{list_flags, flags_of_label}
use Rattle.tt_kinds.specs.Tree as tree
use Rattle.tt_kinds.specs.Tree.{Tree, Forest, Depth}
use Rattle.tt_kinds.specs.Reading.{read_all, greatest_reach_all, outer_binder}
use Rattle.tt_kinds.specs.Scan.{scan, scan_all}
use Rattle.tt_kinds.specs.Shape.{Shape, Shapes, term, node, stored, none, also, append, item_shapes, Meaning, vars_of}
use Rattle.tt_kinds.specs.Shape.{name_of, rename_kind, rename_record, rename_label, fill, fill_all, Sizes, IsPart}
use Rattle.tt_kinds.specs.Shape.{AreParts, HasParts, IsTooDeep}
use Rattle.tt_kinds.specs.Kinds.{Form, param, bound, plain, under, form_parts, form_binder, form_shape, parts_shapes}
use Rattle.tt_kinds.proofs.PlainLaws.{outer_binder-binder}
use Rattle.tt_kinds.specs.TermTable.{term_table}
use Rattle.tt_kinds.specs.declared.table.TermTable.{TermTable}
use Rattle.tt_kinds.specs.declared.table.TermTable.TheVariants as terms_of
use Rattle.tt_interner.specs.Info.{keeps_info}
use Rattle.tt_interner.specs.Stored.{IsInfo}
use Rattle.tt_interner.specs.Tables.{AreInfosOf, AreJoined}
use Rattle.tt_kinds.specs.OwnFlags.{own_flags, own_reach}
use Rattle.tt_interner.specs.OwnNames.{IsNamedForm, IsBinderIn}

or_assoc : (a b c : ℕ) → bit_or (bit_or a b) c ≡ bit_or a (bit_or b c)
or_assoc a b c = same_from_bits (bit_or (bit_or a b) c) (bit_or a (bit_or b c)) (λ i.
    let outer = bit_at_or (bit_or a b) c i in let inner = bit_at_or a b i in
    let outer' = bit_at_or a (bit_or b c) i in let inner' = bit_at_or b c i in
    omega arith)

list_flags-map : {N M : Type 0} (f : VarKind N → VarKind M) (vs : List (VarKind N)) → list_flags (map f vs) ≡ list_flags vs
list_flags-map f [] = refl
list_flags-map f (v ∷ vs) = refl

-- names have no flags
flags_of_label-rename : (name : ℕ → Name) (l : Label ℕ) → flags_of_label (rename_label name l) ≡ flags_of_label l
flags_of_label-rename name (type_label l) = refl
flags_of_label-rename name (list_label t) = refl
flags_of_label-rename name (var_list_label vs) = list_flags-map (rename_kind name) vs
flags_of_label-rename name (text_label bytes) = refl
flags_of_label-rename name (declaration_label i k n) = refl
flags_of_label-rename name (definition_label i vs) = refl
flags_of_label-rename name (record_label l) = refl
flags_of_label-rename name (error_label e) = refl
flags_of_label-rename name clause_label = refl
flags_of_label-rename name (const_label l) = refl
flags_of_label-rename name (pattern_label l) = refl
flags_of_label-rename name predicate_label = refl
flags_of_label-rename name existential_label = refl
flags_of_label-rename name clause_list_label = refl

module _ (f : Meaning) (info : FlagComputation) where
  -- a row without contents
  pub info_node : (l : Label ℕ) → info ≡ computed (flags_of_label l) 0 → IsInfo info (fill f (node l none))
  unfolding fill
  info_node l is = record {
    flags = ap (λ x. x.flags.bits) is ∙ sym (flags_of_label-rename (name_of f) l) ∙ sym (or_zero_r (flags_of_label (rename_label (name_of f) l)));
    outer = ap (λ x. x.outer_exclusive_binder) is;
  }

  -- a list
  pub info_list : (t : Table) (ss : Shapes) → AreInfosOf info (fill_all f ss) → IsInfo info (fill f (node (list_label t) ss))
  unfolding fill
  info_list t ss is = record { flags = is.flags ∙ sym (or_zero_l (scan_all (fill_all f ss))); outer = is.outer }

  -- what has no flags of its own
  pub info_term : (l : Label ℕ) (ss : Shapes) → flags_of_label l ≡ 0 → AreInfosOf info (fill_all f ss) → IsInfo info (fill f (term l ss))
  unfolding fill
  info_term l ss own is = record {
    flags = is.flags ∙ sym (or_zero_l (scan_all (fill_all f ss))) ∙ ap (λ n. bit_or n (scan_all (fill_all f ss))) (sym (flags_of_label-rename (name_of f) l ∙ own));
    outer = is.outer;
  }

  -- one child
  pub infos_one : (s : Shape) → IsInfo info (fill f s) → AreInfosOf info (fill_all f (also s none))
  unfolding fill
  infos_one s is = let o = is.outer in record {
    flags = is.flags ∙ sym (or_zero_r (scan (fill f s)));
    outer = omega arith;
  }

  -- one stored child
  pub infos_stored : (t : Table) (n : ℕ) → IsInfo info (f t n) → AreInfosOf info (fill_all f (also (stored t n) none))
  unfolding fill
  infos_stored t n is = infos_one (stored t n) is

-- the tables of terms keep the information of their rows
pub terms_keep_info : (t : TermTable) → IsTrue (keeps_info (term_table t))
terms_keep_info terms_of.Types = refl
terms_keep_info terms_of.Consts = refl
terms_keep_info terms_of.Patterns = refl
terms_keep_info terms_of.Predicates = refl
terms_keep_info terms_of.Existentials = refl
terms_keep_info terms_of.ClauseLists = refl
terms_keep_info terms_of.TypeLists = refl
terms_keep_info terms_of.ConstLists = refl
terms_keep_info terms_of.ArgLists = refl
terms_keep_info terms_of.PatternLists = refl
terms_keep_info terms_of.ExistentialLists = refl

-- no children
pub infos_none : (f : Meaning) → AreInfosOf (computed 0 0) (fill_all f none)
unfolding fill
infos_none f = record { flags = refl; outer = refl }

-- children one after another
pub infos_append : (f : Meaning) (ss us : Shapes) (a b : FlagComputation) → AreInfosOf a (fill_all f ss) → AreInfosOf b (fill_all f us)
    → AreInfosOf (computed (bit_or a.flags.bits b.flags.bits) (max a.outer_exclusive_binder b.outer_exclusive_binder)) (fill_all f (append ss us))
unfolding fill
infos_append f none us a b is is' = let first = is.flags in let second = is'.flags in let alone = or_zero_l (scan_all (fill_all f us)) in let o = is.outer in let o' = is'.outer in record {
  flags = cc;
  outer = omega arith;
}
infos_append f (also s ss) us a b is is' =
    let rest = infos_append f ss us (computed (scan_all (fill_all f ss)) (greatest_reach_all (read_all 0 (fill_all f ss)))) b (record { flags = refl; outer = refl }) is' in
    let o = is.outer in let o' = rest.outer in record {
      flags = ap (λ n. bit_or n b.flags.bits) is.flags ∙ or_assoc (scan (fill f s)) (scan_all (fill_all f ss)) b.flags.bits ∙ ap (bit_or (scan (fill f s))) rest.flags;
      outer = omega arith;
    }

-- if two lists of shapes are in range as one list, each of them is in range
pub AreParts-append : (size : Sizes) (ss us : Shapes) → AreParts size (append ss us) → AreParts size ss × AreParts size us
AreParts-append size none us h = (tt, h)
AreParts-append size (also s ss) us h = let rest = AreParts-append size ss us h.1 in ((h.0, rest.0), rest.1)

-- two lists of shapes that are in range are in range as one list
pub AreParts-join : (size : Sizes) (ss us : Shapes) → AreParts size ss → AreParts size us → AreParts size (append ss us)
AreParts-join size none us h k = k
AreParts-join size (also s ss) us h k = (h.0, AreParts-join size ss us h.1 k)

-- A kind by its form.

module _ (s : Sort) where
  -- the children of a kind are in range
  pub form_has_parts : (size : Sizes) (k : Form (Label ℕ)) → HasParts size (form_shape s k) → AreParts size (parts_shapes (form_parts k))
  form_has_parts size (param i name) h = tt
  form_has_parts size (bound d e) h = tt
  form_has_parts size (plain l p) h = h.1
  form_has_parts size (under l vars m p) h = h.1.0.1.2

  -- the binder's list is in range
  pub form_has_vars : (size : Sizes) (k : Form (Label ℕ)) (vars : BoundVarKinds) → form_binder k ≡ Some vars → HasParts size (form_shape s k) → vars.number < size VarLists
  form_has_vars size (param i name) vars e h = cc
  form_has_vars size (bound d e') vars e h = cc
  form_has_vars size (plain l p) vars e h = cc
  form_has_vars size (under l vars' m p) vars e h = let same : vars' ≡ vars = cc in rw (← same) h.1.0.0

  module _ (f : Meaning) (own inside info : FlagComputation) where
    -- what has children and no binder
    pub info_plain : (k : Form (Label ℕ)) → form_binder k ≡ None → own.flags.bits ≡ own_flags s k → own.outer_exclusive_binder ≡ own_reach k
        → AreInfosOf inside (fill_all f (parts_shapes (form_parts k)))
        → info ≡ computed (bit_or own.flags.bits inside.flags.bits) (max own.outer_exclusive_binder inside.outer_exclusive_binder)
        → IsInfo info (fill f (form_shape s k))
    unfolding fill
    info_plain (param i name) b flags outer is e = let nothing = is.flags in let o = is.outer in record {
      flags = ap (λ x. x.flags.bits) e ∙ ap (bit_or own.flags.bits) nothing ∙ or_zero_r own.flags.bits ∙ flags;
      outer = ap (λ (x : FlagComputation). x.outer_exclusive_binder) e ∙ (omega arith);
    }
    info_plain (bound d en) b flags outer is e = let nothing = is.flags in let o = is.outer in record {
      flags = ap (λ x. x.flags.bits) e ∙ ap (bit_or own.flags.bits) nothing ∙ or_zero_r own.flags.bits ∙ flags;
      outer = ap (λ (x : FlagComputation). x.outer_exclusive_binder) e ∙ (omega arith);
    }
    info_plain (plain l p) b flags outer is e = let o = is.outer in record {
      flags = ap (λ x. x.flags.bits) e ∙ ap (bit_or own.flags.bits) is.flags ∙ ap (λ n. bit_or n (scan_all (fill_all f (parts_shapes p)))) (flags ∙ sym (flags_of_label-rename (name_of f) l));
      outer = ap (λ (x : FlagComputation). x.outer_exclusive_binder) e ∙ (omega arith);
    }
    info_plain (under l vars m p) b flags outer is e = cc

    -- what is under a binder
    pub info_under : (k : Form (Label ℕ)) (vars : BoundVarKinds) (list : FlagComputation) → form_binder k ≡ Some vars → own.flags.bits ≡ own_flags s k
        → own.outer_exclusive_binder ≡ own_reach k
        → AreInfosOf inside (fill_all f (parts_shapes (form_parts k)))
        → f VarLists vars.number ≡ tree.node (var_list_label (vars_of (f VarLists vars.number))) tree.none → IsInfo list (f VarLists vars.number)
        → info ≡ computed (bit_or own.flags.bits (bit_or list.flags.bits inside.flags.bits)) (max own.outer_exclusive_binder (inside.outer_exclusive_binder - 1))
        → IsInfo info (fill f (form_shape s k))
    unfolding fill
    info_under (param i name) vars list b flags outer is root of_list e = cc
    info_under (bound d en) vars list b flags outer is root of_list e = cc
    info_under (plain l p) vars list b flags outer is root of_list e = cc
    info_under (under l vars' m p) vars list b flags outer is root of_list e =
        let same : vars' ≡ vars = cc in
        let ts = fill_all f (parts_shapes p) in
        let vs = vars_of (f VarLists vars.number) in
        let listed : list.flags.bits ≡ list_flags vs = of_list.flags ∙ ap scan root ∙ or_zero_r (list_flags vs) in
        let under : outer_binder (tree.binder vs (tree.node (record_label (rename_record (name_of f) m)) ts)) ≡ greatest_reach_all (read_all 0 ts) - 1 = outer_binder-binder vs (tree.node (record_label (rename_record (name_of f) m)) ts) in
        let o = is.outer in
        rw same (record {
          flags = ap (λ x. x.flags.bits) e
              ∙ ap (λ n. bit_or n (bit_or list.flags.bits inside.flags.bits)) (flags ∙ sym (flags_of_label-rename (name_of f) l))
              ∙ ap (bit_or (flags_of_label (rename_label (name_of f) l)))
              (ap (λ n. bit_or n inside.flags.bits) listed ∙ ap (bit_or (list_flags vs)) (is.flags ∙ sym (or_zero_l (scan_all ts)))
              ∙ sym (or_zero_r (bit_or (list_flags vs) (bit_or 0 (scan_all ts)))));
          outer = ap (λ (x : FlagComputation). x.outer_exclusive_binder) e ∙ (omega arith);
        })

  -- a bound variable with the greatest index has its own flags alone
  pub deepest_flags : (f : Meaning) (k : Form (Label ℕ)) → IsTooDeep (form_shape s k) → scan (fill f (form_shape s k)) ≡ own_flags s k
  unfolding fill
  deepest_flags f (bound d e) h = refl
  deepest_flags f (param i name) h = absurd h
  deepest_flags f (plain l p) h = absurd h
  deepest_flags f (under l vars m p) h = absurd h

-- A kind is in range where its names, its children and its binder's list are.
module _ (size : Sizes) (s : Sort) where
  -- what a form holds is in range if its names, its children and its binder's list are
  pub form_in_range : (k : Form (Label ℕ)) → IsNamedForm size k → AreParts size (parts_shapes (form_parts k)) → IsBinderIn size (form_binder k) → HasParts size (form_shape s k)
  form_in_range (param i name) n p b = n
  form_in_range (bound d e) n p b = n
  form_in_range (plain l ps) n p b = (n, p)
  form_in_range (under l vars m ps) n p b = (n.0, ((b, (refl, n.1, p)), tt))

  -- if what a form holds is in range, so are its names, its children and its binder's list
  pub form_of_range : (k : Form (Label ℕ)) → HasParts size (form_shape s k) → IsNamedForm size k × AreParts size (parts_shapes (form_parts k)) × IsBinderIn size (form_binder k)
  form_of_range (param i name) h = (h, tt, tt)
  form_of_range (bound d e) h = (h, tt, tt)
  form_of_range (plain l ps) h = (h.0, h.1, tt)
  form_of_range (under l vars m ps) h = ((h.0, h.1.0.1.1), h.1.0.1.2, h.1.0.0)

-- A loop over a list.

-- at the start, with the information of no tree, all trees are left to be joined
pub joined_first : (ts : Forest Depth) (info : FlagComputation) → info ≡ computed 0 0 → AreJoined info ts ts
joined_first ts info is = record {
  flags = ap (λ (x : FlagComputation). bit_or x.flags.bits (scan_all ts)) is ∙ or_zero_l (scan_all ts);
  outer = let o = ap (λ (x : FlagComputation). x.outer_exclusive_binder) is in omega arith;
}

-- a step: once the next tree's information is joined, only the trees after it are left
pub joined_next : (info next : FlagComputation) (t : Tree Depth) (ts whole : Forest Depth) → AreJoined info (tree.also t ts) whole → IsInfo next t
    → AreJoined (computed (bit_or info.flags.bits next.flags.bits) (max info.outer_exclusive_binder next.outer_exclusive_binder)) ts whole
joined_next info next t ts whole so_far is = let o = is.outer in let all = so_far.outer in record {
  flags = or_assoc info.flags.bits next.flags.bits (scan_all ts) ∙ ap (λ n. bit_or info.flags.bits (bit_or n (scan_all ts))) is.flags ∙ so_far.flags;
  outer = omega arith;
}

-- at the end, where no tree is left, the information so far is the information of all
pub joined_all : (info : FlagComputation) (whole : Forest Depth) → AreJoined info tree.none whole → AreInfosOf info whole
joined_all info whole is = let o = is.outer in record { flags = sym (or_zero_r info.flags.bits) ∙ is.flags; outer = omega arith }

-- the next part of a list
pub parts_at : {T : Type 0} (shape : T → Shape) (size : Sizes) (xs : List T) (i : ℕ) (d : T) → i < length xs → AreParts size (item_shapes shape xs) → IsPart size (shape (get_or xs i d))
parts_at shape size [] i d h parts = absurd (omega arith)
parts_at shape size (x ∷ xs) zero d h parts = parts.0
parts_at shape size (x ∷ xs) (suc i) d h parts = parts_at shape size xs i d (omega arith) parts.1

-- the trees of the items from a place on are the tree of the item there and then the trees of the items after it
pub fill_all-drop : {T : Type 0} (shape : T → Shape) (f : Meaning) (xs : List T) (i : ℕ) (d : T) → i < length xs
    → fill_all f (item_shapes shape (drop i xs)) ≡ tree.also (fill f (shape (get_or xs i d))) (fill_all f (item_shapes shape (drop (i + 1) xs)))
unfolding fill
fill_all-drop shape f xs i d h = rw (add-one, drop-cons xs i d) refl

-- past the end of a list there are no trees
pub fill_all-past : {T : Type 0} (shape : T → Shape) (f : Meaning) (xs : List T) (i : ℕ) → length xs ≤ i → fill_all f (item_shapes shape (drop i xs)) ≡ tree.none
unfolding fill
fill_all-past shape f xs i h = rw (drop_of_length-le xs {i = i} h) refl
