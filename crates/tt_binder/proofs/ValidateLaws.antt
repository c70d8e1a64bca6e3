-- What a validation finds.
use Rattle.std.proofs.Common.{inl, inr, ◌≡◌, ℕ, zero, suc, ◌+◌, ◌-◌, ◌<◌, ◌≤◌, List, [], ◌∷◌, refl, ap, sym, ◌∙◌, subst}
use Rattle.std.proofs.Common.{arith}
use Rattle.std.specs.Prelude.{◌⊎◌, Result, Ok, Err, OnOk, OnErr, Option, Some, None, Bool, true, false, IsTrue, ◌↔◌}
use Rattle.std.specs.Prelude.{map, slice_get, option_map, nat_lt, if◌then◌else◌}
use Rattle.std.proofs.lemmas.Bool.{cases_Bool, le-ltb}
use Rattle.std.proofs.lemmas.Option.{slice_get-map, same_Some}
use Rattle.indexmap.specs.IndexMap.{insert_entry}
use Rattle.tt_index.specs.Greatest.{greatest}
use Rattle.tt_kinds.specs.Bound.{depth, region_name, var_kind, ty_entry, const_entry}
use Rattle.tt_kinds.specs.Count.{TypeAt}
use Rattle.tt_kinds.specs.Handle.{handle, BoundVarKinds, Const, Ty}
use Rattle.tt_kinds.specs.Kinds.{form_shape, relabelled, value_form, ty_kind_shape, ty_shape, const_kind_shape}
use Rattle.tt_kinds.specs.Kinds.{const_shape, region_shape}
use Rattle.tt_kinds.specs.Label.{Name, Sort, type_sort, const_sort, error_label, const_label, RegionName}
use Rattle.tt_kinds.specs.Label.{anonymous, printed, named, environment, VarKind, region_variable, type_variable}
use Rattle.tt_kinds.specs.Label.{const_variable, Entry}
use Rattle.tt_kinds.specs.Matched.{IsEntryOf}
use Rattle.tt_kinds.specs.Range.{IndicesFit, IndicesFit_all}
use Rattle.tt_kinds.specs.Reading.{read, read_all, reach, greatest_reach, greatest_reach_all, outer_binder}
use Rattle.tt_kinds.specs.Shape as shape
use Rattle.tt_kinds.specs.Shape.{Meaning, vars_of, name_of, rename_region, rename_kind, rename_entry, fill}
use Rattle.tt_kinds.specs.Shape.{IsNamed, IsNamedKind, AreNamedKinds}
use Rattle.tt_kinds.specs.Tree.{Depth, at, canonical, own, outer, Tree, Forest, param, bound, region, term, node}
use Rattle.tt_kinds.specs.Tree.{binder, none, also}
use Rattle.tt_kinds.specs.declared.bound.BoundConst.{BoundConst}
use Rattle.tt_kinds.specs.declared.bound.BoundRegion.{BoundRegion}
use Rattle.tt_kinds.specs.declared.bound.BoundRegionKind.{BoundRegionKind}
use Rattle.tt_kinds.specs.declared.bound.BoundRegionKind.TheVariants as region_kind
use Rattle.tt_kinds.specs.declared.bound.BoundTy.{BoundTy}
use Rattle.tt_kinds.specs.declared.bound.BoundVarIndexKind.{BoundVarIndexKind}
use Rattle.tt_kinds.specs.declared.bound.BoundVariableKind.{BoundVariableKind}
use Rattle.tt_kinds.specs.declared.bound.BoundVariableKind.TheVariants as variable
use Rattle.tt_kinds.specs.declared.const_kind.ConstKind.{ConstKind}
use Rattle.tt_kinds.specs.declared.const_kind.ConstKind.TheVariants as const
use Rattle.tt_kinds.specs.declared.const_kind.ValTreeKind.{ValTreeKind}
use Rattle.tt_kinds.specs.declared.const_kind.ValTreeKind.TheVariants as valtree
use Rattle.tt_kinds.specs.declared.region_kind.RegionKind.{RegionKind}
use Rattle.tt_kinds.specs.declared.region_kind.RegionKind.TheVariants.{ReEarlyParam, ReBound, ReLateParam, ReStatic}
use Rattle.tt_kinds.specs.declared.region_kind.RegionKind.TheVariants.{ReVar, RePlaceholder, ReErased, ReError}
use Rattle.tt_kinds.specs.declared.table.Table.TheVariants.{VarLists}
use Rattle.tt_kinds.specs.declared.ty_kind.TyKind.{TyKind}
use Rattle.tt_kinds.specs.declared.ty_kind.TyKind.TheVariants as ty
use Rattle.tt_kinds.proofs.OuterLaws.{greatest_reach-deeper}
use Rattle.tt_interner.specs.Reads.{Reads}
use Rattle.tt_interner.specs.Rows.{Row, type_row, const_row, vars_row, size, meaning, AreRows}
use Rattle.tt_interner.specs.Stored.{IsAt}
use Rattle.tt_interner.proofs.Fill.{name_one}
use Rattle.tt_interner.proofs.Trees.{distinct}
use Rattle.tt_visit.specs.Root.{error_of}
use Rattle.tt_visit.specs.Visit.{Tells, TellingBreaks, GoesOver, GoesOverAll, region_seen, skipped, went_inside}
use Rattle.tt_visit.specs.Visit.{token_seen, node_seen, unhooked_seen, binder_skipped, binder_seen, term_seen}
use Rattle.tt_visit.specs.Visit.{param_seen, bound_seen, value_seen, all_seen, one_seen, Breaks, BreaksAll}
use Rattle.tt_visit.specs.Visit.{region_broke, term_broke, inside_broke, unhooked_broke, token_broke, node_broke}
use Rattle.tt_visit.specs.Visit.{enter_broke, under_broke, error_broke, term_inside_broke, value_broke, first_broke}
use Rattle.tt_visit.specs.Visit.{later_broke}
use Rattle.tt_visit.specs.declared.visitor.Next.{Next}
use Rattle.tt_visit.specs.declared.visitor.Next.TheVariants.{Skip, Descend}
use Rattle.tt_fold.specs.Memory.{place_of, same_place, type_at, memo_at, memos}
use Rattle.tt_fold.specs.Places.{IsIn}
use Rattle.tt_fold.specs.Remember.{Memo, places}
use Rattle.tt_fold.specs.declared.memory.Place.{Place}
use Rattle.tt_binder.specs.Validate.{Agrees, Agrees_all, vars_at, Validation, validation_place, SeenAgree, RootAgrees}
use Rattle.tt_binder.specs.Validate.{AddsPlace, ValidationLooks, EntersOnce, validate_hooks, IsSamePlace}
use Rattle.tt_binder.specs.Validate.{ValidationIsExact}
use Rattle.tt_binder.specs.declared.validate_bound_vars.WrongBoundVar.{WrongBoundVar}
use Rattle.tt_binder.proofs.RowArguments.{IsClauseTree, kind_tree, const_kind_tree}

-- Which variables are of other binders.

at_one : (d k : ℕ) → at d ≡ at k → d ≡ k
at_one d k e = cc

-- a variable of one of the k binders is not of the binder outside of them
own_apart : (k d : ℕ) (b : Bool) → nat_lt d k ≡ b → reach (if b then own d else outer (d - k)) ≡ 0 → d ≡ k → ⊥
own_apart k d true is low e = let past : k ≤ d = omega arith in let never = sym is ∙ le-ltb d k past in cc
own_apart k d false is low e = absurd (omega arith)

mutual
  own_agrees : (vs : List (VarKind Name)) (k : ℕ) (t : Tree Depth) → greatest_reach (read k t) ≡ 0 → Agrees vs k t
  own_agrees vs k (param s i name) low = tt
  own_agrees vs k (bound s (at d) e) low = λ is. absurd (own_apart k d (nat_lt d k) refl low (at_one d k is))
  own_agrees vs k (bound s canonical e) low = λ is. let never = is in cc
  own_agrees vs k (region r) low = tt
  own_agrees vs k (term l ts) low = own_all_agree vs k ts low
  own_agrees vs k (node l ts) low = own_all_agree vs k ts low
  own_agrees vs k (binder ws t) low = own_agrees vs (suc k) t low

  own_all_agree : (vs : List (VarKind Name)) (k : ℕ) (ts : Forest Depth) → greatest_reach_all (read_all k ts) ≡ 0 → Agrees_all vs k ts
  own_all_agree vs k none low = tt
  own_all_agree vs k (also t ts) low = (own_agrees vs k t (omega arith), own_all_agree vs k ts (omega arith))

-- a term whose outer exclusive binder is not above the k binders holds no variable of the binder outside of them
pub low_agrees : (vs : List (VarKind Name)) (k : ℕ) (t : Tree Depth) → outer_binder t ≤ k → Agrees vs k t
low_agrees vs k t h = own_agrees vs k t none_left
  where
    none_left : greatest_reach (read k t) ≡ 0
    none_left = let deeper : greatest_reach (read (k + 0) t) ≡ greatest_reach (read 0 t) - k = greatest_reach-deeper k 0 t in
        let here : k + 0 ≡ k = omega arith in let reaches : greatest_reach (read 0 t) ≤ k = h in (rw here at deeper) ∙ (omega arith)

mutual
  -- under as many binders as the greatest index there is no variable of the binder outside of them
  deep_agrees : (vs : List (VarKind Name)) (k : ℕ) (t : Tree Depth) → greatest ≤ k → IndicesFit t → Agrees vs k t
  deep_agrees vs k (param s i name) deep fits = tt
  deep_agrees vs k (bound s (at d) e) deep fits = λ is.
      let same : d ≡ k = at_one d k is in let below : d < greatest = fits in absurd (omega arith)
  deep_agrees vs k (bound s canonical e) deep fits = λ is. let never = is in cc
  deep_agrees vs k (region r) deep fits = tt
  deep_agrees vs k (term l ts) deep fits = deep_all_agree vs k ts deep fits
  deep_agrees vs k (node l ts) deep fits = deep_all_agree vs k ts deep fits
  deep_agrees vs k (binder ws t) deep fits = deep_agrees vs (suc k) t (omega arith) fits

  deep_all_agree : (vs : List (VarKind Name)) (k : ℕ) (ts : Forest Depth) → greatest ≤ k → IndicesFit_all ts → Agrees_all vs k ts
  deep_all_agree vs k none deep fits = tt
  deep_all_agree vs k (also t ts) deep fits = (deep_agrees vs k t deep fits.0, deep_all_agree vs k ts deep fits.1)

-- How a visit changes the validation.

told_still : (s s' : Validation) (o : Option ℕ) → Tells validate_hooks s o s' → s' ≡ s
told_still s s' None h = h
told_still s s' (Some e) h = h

never_told : (s s' : Validation) (o : Option ℕ) (b : WrongBoundVar) → TellingBreaks validate_hooks s o b s' → ⊥
never_told s s' None b h = h
never_told s s' (Some e) b h = h

-- what holds under one more binder
under_one : (s s1 : Validation) (t : Tree Depth) → s1 ≡ record { vars = s.vars; depth = s.depth + 1; seen = s.seen } → Agrees s1.vars s1.depth t ≡ Agrees s.vars (suc s.depth) t
under_one s s1 t entered =
    let deeper : s1.depth ≡ s.depth + 1 = ap (λ x. x.depth) entered in
    let under : s1.depth ≡ suc s.depth = omega arith in
    ap (λ vs. Agrees vs s1.depth t) (ap (λ x. x.vars) entered) ∙ ap (λ n. Agrees s.vars n t) under

same_after : (s s' : Validation) → s' ≡ s → IsSamePlace s s'
same_after s s' e = (ap (λ x. x.vars) e, ap (λ x. x.depth) e)

same_twice : (s s1 s' : Validation) → IsSamePlace s s1 → IsSamePlace s1 s' → IsSamePlace s s'
same_twice s s1 s' first rest = (rest.0 ∙ first.0, rest.1 ∙ first.1)

mutual
  goes_same : (s s' : Validation) (t : Tree Depth) → GoesOver validate_hooks s t s' → IsSamePlace s s'
  goes_same s s' t (region_seen is h) = same_after s s' h.0
  goes_same s s' t (skipped is h) = same_after s s' h.1
  goes_same s s' (term l ts) (went_inside {s1 = s1} is h (term_seen {s1 = s2} told all)) =
      same_twice s s1 s' (h.vars, h.depth) (same_twice s1 s2 s' (same_after s1 s2 (told_still s1 s2 (error_of l) told)) (goes_all_same s2 s' ts all))
  goes_same s s' (param o i name) (went_inside is h param_seen) = (h.vars, h.depth)
  goes_same s s' (bound o d e) (went_inside is h bound_seen) = (h.vars, h.depth)
  goes_same s s' (region r) (went_inside is h inside) = elim inside [ ]
  goes_same s s' (node l ts) (went_inside is h inside) = elim inside [ ]
  goes_same s s' (binder vs t) (went_inside is h inside) = let never = is in cc
  goes_same s s' (term l ts) (unhooked_seen is all) = goes_all_same s s' ts all
  goes_same s s' (node (error_label e) none) (token_seen h) = same_after s s' h
  goes_same s s' (node l ts) (node_seen is all) = goes_all_same s s' ts all
  goes_same s s' (binder vs t) (binder_skipped e) = same_after s s' e.1
  goes_same s s' (binder vs t) (binder_seen {s1 = s1} {s2 = s2} e (value_seen h) l) =
      let inner = goes_same s1 s2 t h in
      let deeper : s1.depth ≡ s.depth + 1 = ap (λ x. x.depth) e in
      let inside : s2.depth ≡ s1.depth = inner.1 in
      let left : s'.depth ≡ s2.depth - 1 = ap (λ x. x.depth) l in
      (ap (λ x. x.vars) l ∙ inner.0 ∙ ap (λ x. x.vars) e, omega arith)

  goes_all_same : (s s' : Validation) (ts : Forest Depth) → GoesOverAll validate_hooks s ts s' → IsSamePlace s s'
  goes_all_same s s' none all_seen = (refl, refl)
  goes_all_same s s' (also t ts) (one_seen {s1 = s1} h more) = same_twice s s1 s' (goes_same s s1 t h) (goes_all_same s1 s' ts more)

-- What a visit that goes to its end says. A term is remembered when it is entered, before it is known to agree. It
-- doesn't occur in itself, so within a term only what is smaller is skipped.

abbrev mutual
  tree_size : Tree Depth → ℕ
  tree_size (param s i name) = 1
  tree_size (bound s d e) = 1
  tree_size (region r) = 1
  tree_size (term l ts) = suc (size_all ts)
  tree_size (node l ts) = suc (size_all ts)
  tree_size (binder vs t) = suc (tree_size t)

  size_all : Forest Depth → ℕ
  size_all none = 0
  size_all (also t ts) = tree_size t + size_all ts

-- the places whose terms are smaller than n agree
record Clean (vs : List (VarKind Name)) (n : ℕ) (seen : List TypeAt) : Type 0 where
  at_place : (p : TypeAt) → IsIn p seen → tree_size p.standing < n → Agrees vs p.under p.standing

-- each place was there, or agrees
abbrev AddsClean : List (VarKind Name) → List TypeAt → List TypeAt → Type 0
AddsClean vs old new = (p : TypeAt) → IsIn p new → IsIn p old ⊎ Agrees vs p.under p.standing

adds_none : (vs : List (VarKind Name)) (s s' : Validation) → s' ≡ s → AddsClean vs s.seen s'.seen
adds_none vs s s' e = λ p m. inl (rw e at m)

fewer_clean : (vs vs' : List (VarKind Name)) (n n' : ℕ) (seen seen' : List TypeAt) → vs' ≡ vs → n' ≤ n → seen' ≡ seen → Clean vs n seen → Clean vs' n' seen'
fewer_clean vs vs' n n' seen seen' same less there clean = record {
  at_place = λ p m small.
      let within : tree_size p.standing < n' = small in
      rw same (clean.at_place p (rw there at m) (omega arith));
}

-- a term that is entered, and what comes to be remembered in it
descended : (vs : List (VarKind Name)) (p : TypeAt) (old between new : List TypeAt) → Agrees vs p.under p.standing → AddsPlace p old between → AddsClean vs between new → AddsClean vs old new
descended vs p old between new agrees first rest q m = elim (rest q m) [
  | inl there ↦ elim (first q there) [
    | inl is ↦ inr (rw is agrees)
    | inr before ↦ inl before
  ]
  | inr fine ↦ inr fine
]

-- the places but the one of the entered term
inside_clean : (vs : List (VarKind Name)) (p : TypeAt) (n : ℕ) (old new : List TypeAt) → tree_size p.standing ≡ n → AddsPlace p old new → Clean vs (suc n) old → Clean vs n new
inside_clean vs p n old new size adds clean = record {
  at_place = λ q m small.
      let within : tree_size q.standing < n = small in
      elim (adds q m) [
        | inl is ↦ (let same : tree_size q.standing ≡ tree_size p.standing = ap (λ x. tree_size x.standing) is in absurd (omega arith))
        | inr before ↦ clean.at_place q before (omega arith)
      ];
}

-- the places after a first term, for the ones that follow
later_clean : (vs : List (VarKind Name)) (n n' : ℕ) (old new : List TypeAt) → n' ≤ n → AddsClean vs old new → Clean vs n old → Clean vs n' new
later_clean vs n n' old new less adds clean = record {
  at_place = λ q m small.
      let within : tree_size q.standing < n' = small in
      elim (adds q m) [
        | inl before ↦ clean.at_place q before (omega arith)
        | inr fine ↦ fine
      ];
}

adds_both : (vs : List (VarKind Name)) (old between new : List TypeAt) → AddsClean vs old between → AddsClean vs between new → AddsClean vs old new
adds_both vs old between new first rest q m = elim (rest q m) [
  | inl there ↦ first q there
  | inr fine ↦ inr fine
]

-- what is known of a tree or of trees after a visit
record Went (s : Validation) (agrees : Type 0) (s' : Validation) : Type 0 where
  fine : agrees
  seen : AddsClean s.vars s.seen s'.seen

mutual
  goes_agrees : (s s' : Validation) (t : Tree Depth) → GoesOver validate_hooks s t s' → IndicesFit t → Clean s.vars (suc (tree_size t)) s.seen → Went s (Agrees s.vars s.depth t) s'
  goes_agrees s s' t (region_seen is h) fits clean = record { fine = h.1; seen = adds_none s.vars s s' h.0 }
  goes_agrees s s' t (skipped is h) fits clean = record {
    fine = elim h.0 [
      | inl agrees ↦ agrees
      | inr there ↦ (let small : tree_size t < suc (tree_size t) = omega arith in clean.at_place (validation_place s t) there small)
    ];
    seen = adds_none s.vars s s' h.1;
  }
  goes_agrees s s' (term l ts) (went_inside {s1 = s1} is h (term_seen {s1 = s2} told all)) fits clean =
      let still = told_still s1 s2 (error_of l) told in
      let vars : s2.vars ≡ s.vars = ap (λ x. x.vars) still ∙ h.vars in
      let depth : s2.depth ≡ s.depth = ap (λ x. x.depth) still ∙ h.depth in
      let entered : AddsPlace (validation_place s (term l ts)) s.seen s2.seen = λ q m. h.seen q (rw still at m) in
      let before = inside_clean s.vars (validation_place s (term l ts)) (suc (size_all ts)) s.seen s2.seen refl entered clean in
      let less : suc (size_all ts) ≤ suc (size_all ts) = omega arith in
      let inner = goes_all_agree s2 s' ts all fits (fewer_clean s.vars s2.vars (suc (size_all ts)) (suc (size_all ts)) s2.seen s2.seen vars less refl before) in
      let among : Agrees_all s.vars s.depth ts = rw (vars, depth) at inner.fine in
      let added : AddsClean s.vars s2.seen s'.seen = rw vars at inner.seen in
      record { fine = among; seen = descended s.vars (validation_place s (term l ts)) s.seen s2.seen s'.seen among entered added }
  goes_agrees s s' (param o i name) (went_inside is h param_seen) fits clean = record {
    fine = tt;
    seen = descended s.vars (validation_place s (param o i name)) s.seen s'.seen s'.seen tt h.seen (λ q m. inl m);
  }
  goes_agrees s s' (bound o d e) (went_inside is h bound_seen) fits clean = record {
    fine = h.agrees;
    seen = descended s.vars (validation_place s (bound o d e)) s.seen s'.seen s'.seen h.agrees h.seen (λ q m. inl m);
  }
  goes_agrees s s' (region r) (went_inside is h inside) fits clean = elim inside [ ]
  goes_agrees s s' (node l ts) (went_inside is h inside) fits clean = elim inside [ ]
  goes_agrees s s' (binder vs t) (went_inside is h inside) fits clean = let never = is in cc
  goes_agrees s s' (term l ts) (unhooked_seen is all) fits clean =
      let less : suc (size_all ts) ≤ suc (suc (size_all ts)) = omega arith in
      let inner = goes_all_agree s s' ts all fits (fewer_clean s.vars s.vars (suc (suc (size_all ts))) (suc (size_all ts)) s.seen s.seen refl less refl clean) in
      record { fine = inner.fine; seen = inner.seen }
  goes_agrees s s' (node (error_label e) none) (token_seen h) fits clean = record { fine = tt; seen = adds_none s.vars s s' h }
  goes_agrees s s' (node l ts) (node_seen is all) fits clean =
      let less : suc (size_all ts) ≤ suc (suc (size_all ts)) = omega arith in
      let inner = goes_all_agree s s' ts all fits (fewer_clean s.vars s.vars (suc (suc (size_all ts))) (suc (size_all ts)) s.seen s.seen refl less refl clean) in
      record { fine = inner.fine; seen = inner.seen }
  goes_agrees s s' (binder vs t) (binder_skipped e) fits clean =
      let deep : greatest ≤ s.depth = e.0 in
      record { fine = deep_agrees s.vars (suc s.depth) t (omega arith) fits; seen = adds_none s.vars s s' e.1 }
  goes_agrees s s' (binder vs t) (binder_seen {s1 = s1} {s2 = s2} e (value_seen h) l) fits clean =
      let vars : s1.vars ≡ s.vars = ap (λ x. x.vars) e in
      let before : s1.seen ≡ s.seen = ap (λ x. x.seen) e in
      let last : s'.seen ≡ s2.seen = ap (λ x. x.seen) l in
      let less : suc (tree_size t) ≤ suc (suc (tree_size t)) = omega arith in
      let inner = goes_agrees s1 s2 t h fits (fewer_clean s.vars s1.vars (suc (suc (tree_size t))) (suc (tree_size t)) s.seen s1.seen vars less before clean) in
      let added : AddsClean s.vars s.seen s2.seen = rw (vars, before) at inner.seen in
      record { fine = subst (λ A. A) (under_one s s1 t e) inner.fine; seen = rw last added }

  goes_all_agree : (s s' : Validation) (ts : Forest Depth) → GoesOverAll validate_hooks s ts s' → IndicesFit_all ts → Clean s.vars (suc (size_all ts)) s.seen → Went s (Agrees_all s.vars s.depth ts) s'
  goes_all_agree s s' none all_seen fits clean = record { fine = tt; seen = λ q m. inl m }
  goes_all_agree s s' (also t ts) (one_seen {s1 = s1} h more) fits clean =
      let fewer : suc (tree_size t) ≤ suc (tree_size t + size_all ts) = omega arith in
      let first = goes_agrees s s1 t h fits.0 (fewer_clean s.vars s.vars (suc (tree_size t + size_all ts)) (suc (tree_size t)) s.seen s.seen refl fewer refl clean) in
      let same = goes_same s s1 t h in
      let less : suc (size_all ts) ≤ suc (tree_size t + size_all ts) = omega arith in
      let later = later_clean s.vars (suc (tree_size t + size_all ts)) (suc (size_all ts)) s.seen s1.seen less first.seen clean in
      let enough : suc (size_all ts) ≤ suc (size_all ts) = omega arith in
      let rest = goes_all_agree s1 s' ts more fits.1 (fewer_clean s.vars s1.vars (suc (size_all ts)) (suc (size_all ts)) s1.seen s1.seen same.0 enough refl later) in
      let others : Agrees_all s.vars s.depth ts = rw (same.0, same.1) at rest.fine in
      let added : AddsClean s.vars s1.seen s'.seen = rw same.0 at rest.seen in
      record { fine = (first.fine, others); seen = adds_both s.vars s.seen s1.seen s'.seen first.seen added }

-- What a visit that breaks says.

mutual
  breaks_disagrees : (s s' : Validation) (t : Tree Depth) (b : WrongBoundVar) → Breaks validate_hooks s t b s' → Agrees s.vars s.depth t → ⊥
  breaks_disagrees s s' t b (region_broke is h) agrees = h.1 agrees
  breaks_disagrees s s' t b (term_broke is h) agrees = h.1 agrees
  breaks_disagrees s s' (term l ts) b (inside_broke {s1 = s1} is h (error_broke e)) agrees = never_told s1 s' (error_of l) b e
  breaks_disagrees s s' (term l ts) b (inside_broke {s1 = s1} is h (term_inside_broke {s1 = s2} e all)) agrees =
      let same = same_twice s s1 s2 (h.vars, h.depth) (same_after s1 s2 (told_still s1 s2 (error_of l) e)) in
      breaks_all_disagree s2 s' ts b all (rw (same.0, same.1) agrees)
  breaks_disagrees s s' (param o i name) b (inside_broke is h inside) agrees = elim inside [ ]
  breaks_disagrees s s' (bound o d e) b (inside_broke is h inside) agrees = elim inside [ ]
  breaks_disagrees s s' (region r) b (inside_broke is h inside) agrees = elim inside [ ]
  breaks_disagrees s s' (node l ts) b (inside_broke is h inside) agrees = elim inside [ ]
  breaks_disagrees s s' (binder vs t) b (inside_broke is h inside) agrees = let never = is in cc
  breaks_disagrees s s' (term l ts) b (unhooked_broke is all) agrees = breaks_all_disagree s s' ts b all agrees
  breaks_disagrees s s' (node (error_label e) none) b (token_broke h) agrees = h
  breaks_disagrees s s' (node l ts) b (node_broke is all) agrees = breaks_all_disagree s s' ts b all agrees
  breaks_disagrees s s' (binder vs t) b (enter_broke e) agrees = e
  breaks_disagrees s s' (binder vs t) b (under_broke {s1 = s1} {s2 = s2} e (value_broke h) l) agrees =
      breaks_disagrees s1 s2 t b h (subst (λ A. A) (sym (under_one s s1 t e)) agrees)

  breaks_all_disagree : (s s' : Validation) (ts : Forest Depth) (b : WrongBoundVar) → BreaksAll validate_hooks s ts b s' → Agrees_all s.vars s.depth ts → ⊥
  breaks_all_disagree s s' none b h agree = elim h [ ]
  breaks_all_disagree s s' (also t ts) b (first_broke h) agree = breaks_disagrees s s' t b h agree.0
  breaks_all_disagree s s' (also t ts) b (later_broke {s1 = s1} a h) agree =
      let same = goes_same s s1 t a in
      breaks_all_disagree s1 s' ts b h (rw (same.0, same.1) agree.1)

mutual
  breaks_same : (s s' : Validation) (t : Tree Depth) (b : WrongBoundVar) → Breaks validate_hooks s t b s' → IsSamePlace s s'
  breaks_same s s' t b (region_broke is h) = same_after s s' h.0
  breaks_same s s' t b (term_broke is h) = same_after s s' h.0
  breaks_same s s' (term l ts) b (inside_broke {s1 = s1} is h (error_broke e)) = absurd (never_told s1 s' (error_of l) b e)
  breaks_same s s' (term l ts) b (inside_broke {s1 = s1} is h (term_inside_broke {s1 = s2} e all)) =
      same_twice s s1 s' (h.vars, h.depth) (same_twice s1 s2 s' (same_after s1 s2 (told_still s1 s2 (error_of l) e)) (breaks_all_same s2 s' ts b all))
  breaks_same s s' (param o i name) b (inside_broke is h inside) = elim inside [ ]
  breaks_same s s' (bound o d e) b (inside_broke is h inside) = elim inside [ ]
  breaks_same s s' (region r) b (inside_broke is h inside) = elim inside [ ]
  breaks_same s s' (node l ts) b (inside_broke is h inside) = elim inside [ ]
  breaks_same s s' (binder vs t) b (inside_broke is h inside) = let never = is in cc
  breaks_same s s' (term l ts) b (unhooked_broke is all) = breaks_all_same s s' ts b all
  breaks_same s s' (node (error_label e) none) b (token_broke h) = absurd h
  breaks_same s s' (node l ts) b (node_broke is all) = breaks_all_same s s' ts b all
  breaks_same s s' (binder vs t) b (enter_broke e) = absurd e
  breaks_same s s' (binder vs t) b (under_broke {s1 = s1} {s2 = s2} e (value_broke h) l) =
      let inner = breaks_same s1 s2 t b h in
      let deeper : s1.depth ≡ s.depth + 1 = ap (λ x. x.depth) e in
      let inside : s2.depth ≡ s1.depth = inner.1 in
      let left : s'.depth ≡ s2.depth - 1 = ap (λ x. x.depth) l in
      (ap (λ x. x.vars) l ∙ inner.0 ∙ ap (λ x. x.vars) e, omega arith)

  breaks_all_same : (s s' : Validation) (ts : Forest Depth) (b : WrongBoundVar) → BreaksAll validate_hooks s ts b s' → IsSamePlace s s'
  breaks_all_same s s' none b h = elim h [ ]
  breaks_all_same s s' (also t ts) b (first_broke h) = breaks_same s s' t b h
  breaks_all_same s s' (also t ts) b (later_broke {s1 = s1} a h) = same_twice s s1 s' (goes_same s s1 t a) (breaks_all_same s1 s' ts b h)

all_found : (s s' : Validation) (t : Tree Depth) → GoesOver validate_hooks s t s' → IndicesFit t → SeenAgree s → Agrees s.vars s.depth t × SeenAgree s'
all_found s s' t went fits agree =
    let found = goes_agrees s s' t went fits (record { at_place = λ p m small. agree p m }) in
    let same = goes_same s s' t went in (
      found.fine,
      λ p m. elim (found.seen p m) [
        | inl before ↦ rw same.0 (agree p before)
        | inr fine ↦ rw same.0 fine
      ],
    )

-- a visit that goes to its end found that all variables agree, and one that breaks found one that does not
pub validation_is_exact : ValidationIsExact
validation_is_exact s s' t = (all_found s s' t, λ b h. breaks_disagrees s s' t b h, λ b h. breaks_same s s' t b h)

-- What is remembered.

in_places : (m : Memo) (ms : List Memo) → IsIn m ms → IsIn m.place (places ms)
in_places m (n ∷ ms) h = elim h [
  | inl is ↦ inl (ap (λ x. x.place) is)
  | inr later ↦ inr (in_places m ms later)
]
in_places m [] h = h

-- the place of a type that is found
pub found_place : (rows : List Row) (es : List (Place × Ty)) (t : Ty) (k : ℕ) (after : Ty) → IsIn (memo_at rows t k after) (memos rows es) → IsIn (type_at rows t k) (places (memos rows es))
found_place rows es t k after h = in_places (memo_at rows t k after) (memos rows es) h

-- a note adds no other place
pub noted_place : (rows : List Row) (es : List (Place × Ty)) (t : Ty) (k : ℕ) (after : Ty)
    → AddsPlace (type_at rows t k) (places (memos rows es)) (places (memos rows (insert_entry same_place es (place_of t k) after)))
noted_place rows [] t k after q h = h
noted_place rows (e ∷ es) t k after q h = elim (cases_Bool (same_place (place_of t k) e.0)) [
  | inl is ↦ (let there = rw is at h in inr there)
  | inr other ↦ (let there = rw other at h in elim there [
    | inl first ↦ inr (inl first)
    | inr later ↦ elim (noted_place rows es t k after q later) [
      | inl new ↦ inl new
      | inr old ↦ inr (inr old)
    ]
  ])
]

-- What an entry's number says of its name.

region_one : (rows : List Row) → AreRows rows → (a b : RegionName ℕ) → IsNamed (size rows) a → IsNamed (size rows) b → rename_region (name_of (meaning rows)) a ≡ rename_region (name_of (meaning rows)) b → a ≡ b
region_one rows are anonymous anonymous p q e = refl
region_one rows are (printed n) (printed m) p q e =
    let texts : name_of (meaning rows) n ≡ name_of (meaning rows) m = cc in
    ap printed (name_one (size rows) (meaning rows) (distinct rows are) n m p q texts)
region_one rows are (named c) (named c') p q e = cc
region_one rows are environment environment p q e = refl
region_one rows are _ _ p q e = cc

kind_one : (rows : List Row) → AreRows rows → (a b : VarKind ℕ) → IsNamedKind (size rows) a → IsNamedKind (size rows) b → rename_kind (name_of (meaning rows)) a ≡ rename_kind (name_of (meaning rows)) b → a ≡ b
kind_one rows are (region_variable r) (region_variable r') p q e =
    let names : rename_region (name_of (meaning rows)) r ≡ rename_region (name_of (meaning rows)) r' = cc in
    ap region_variable (region_one rows are r r' p q names)
kind_one rows are (type_variable k) (type_variable k') p q e = cc
kind_one rows are const_variable const_variable p q e = refl
kind_one rows are _ _ p q e = cc

region_name_one : (a b : BoundRegionKind) → region_name a ≡ region_name b → a ≡ b
region_name_one region_kind.Anon region_kind.Anon e = refl
region_name_one (region_kind.NamedForPrinting x) (region_kind.NamedForPrinting y) e =
    let same : x.number ≡ y.number = cc in ap (λ n. region_kind.NamedForPrinting (handle n)) same
region_name_one (region_kind.Named x) (region_kind.Named y) e =
    let same : x.number ≡ y.number = cc in ap (λ n. region_kind.Named (record { number = n })) same
region_name_one region_kind.ClosureEnv region_kind.ClosureEnv e = refl
region_name_one _ _ e = cc

var_kind_one : (a b : BoundVariableKind) → var_kind a ≡ var_kind b → a ≡ b
var_kind_one (variable.Ty k) (variable.Ty l) e = cc
var_kind_one (variable.Region k) (variable.Region l) e =
    let names : region_name k ≡ region_name l = cc in ap variable.Region (region_name_one k l names)
var_kind_one variable.Const variable.Const e = refl
var_kind_one _ _ e = cc

named_at : (rows : List Row) (items : List BoundVariableKind) (i : ℕ) (x : BoundVariableKind) → AreNamedKinds (size rows) (map var_kind items) → slice_get items i ≡ Some x → IsNamedKind (size rows) (var_kind x)
named_at rows [] i x are e = cc
named_at rows (y ∷ items) zero x are e = let same : y ≡ x = cc in rw same at are.0
named_at rows (y ∷ items) (suc i) x are e = named_at rows items i x are.1 e

-- the entry of a number in the list
abbrev pub IsEntryAt : List Row → BoundVarKinds → ℕ → Option BoundVariableKind → Type 0
IsEntryAt rows vars i o = (items : List BoundVariableKind) × Reads rows VarLists vars.number (vars_row items) × (o ≡ slice_get items i)

vars_are : (rows : List Row) (vars : BoundVarKinds) (items : List BoundVariableKind) → Reads rows VarLists vars.number (vars_row items)
    → vars_at rows vars ≡ map (rename_kind (name_of (meaning rows))) (map var_kind items)
unfolding fill
vars_are rows vars items reads = ap vars_of reads.means

entry_is : (rows : List Row) (vars : BoundVarKinds) (i : ℕ) (o : Option BoundVariableKind) → IsEntryAt rows vars i o
    → slice_get (vars_at rows vars) i ≡ option_map (rename_kind (name_of (meaning rows))) (option_map var_kind o)
entry_is rows vars i o found =
    ap (λ vs. slice_get vs i) (vars_are rows vars found.0 found.1)
    ∙ slice_get-map (rename_kind (name_of (meaning rows))) (map var_kind found.0) i
    ∙ ap (option_map (rename_kind (name_of (meaning rows)))) (slice_get-map var_kind found.0 i ∙ ap (option_map var_kind) (sym found.2))

from_entry : (rows : List Row) → AreRows rows → (vars : BoundVarKinds) (e : Entry ℕ) (x : BoundVariableKind) → e.kind ≡ var_kind x → IsNamedKind (size rows) e.kind
    → (o : Option BoundVariableKind) → IsEntryAt rows vars e.var o → IsEntryOf (vars_at rows vars) (rename_entry (name_of (meaning rows)) e) → o ≡ Some x
from_entry rows are vars e x kind is_named None found h = let never = sym (entry_is rows vars e.var None found) ∙ h in cc
from_entry rows are vars e x kind is_named (Some y) found h =
    let names = same_Some _ _ (sym (entry_is rows vars e.var (Some y) found) ∙ h) in
    let own = named_at rows found.0 e.var y found.1.parts.0 (sym found.2) in
    ap Some (var_kind_one y x (kind_one rows are (var_kind y) e.kind own is_named names ∙ kind))

to_entry : (rows : List Row) (vars : BoundVarKinds) (e : Entry ℕ) (x : BoundVariableKind) → e.kind ≡ var_kind x
    → (o : Option BoundVariableKind) → IsEntryAt rows vars e.var o → o ≡ Some x → IsEntryOf (vars_at rows vars) (rename_entry (name_of (meaning rows)) e)
to_entry rows vars e x kind o found is =
    entry_is rows vars e.var o found
    ∙ ap (λ z. option_map (rename_kind (name_of (meaning rows))) (option_map var_kind z)) is
    ∙ ap (λ z. Some (rename_kind (name_of (meaning rows)) z)) (sym kind)

-- an answer of a test of a variable of the binder
pub valid_here : (rows : List Row) → AreRows rows → (vars : BoundVarKinds) (k : ℕ) (s : Sort) (d : Depth) (e : Entry ℕ) (x : BoundVariableKind) → e.kind ≡ var_kind x → IsNamedKind (size rows) e.kind → d ≡ at k
    → (o : Option BoundVariableKind) → IsEntryAt rows vars e.var o → (r : Bool) → (IsTrue r ↔ (o ≡ Some x)) → IsTrue r ↔ Agrees (vars_at rows vars) k (fill (meaning rows) (shape.bound s d e))
unfolding fill
valid_here rows are vars k s d e x kind is_named here o found r asked = (
  λ yes is. to_entry rows vars e x kind o found (asked.0 yes),
  λ agrees. asked.1 (from_entry rows are vars e x kind is_named o found (agrees here)),
)

-- one of another binder agrees
pub valid_elsewhere : (rows : List Row) (vars : BoundVarKinds) (k : ℕ) (s : Sort) (d : Depth) (e : Entry ℕ) (b : Bool) → b ≡ false → (IsTrue b ↔ (d ≡ at k))
    → IsTrue true ↔ Agrees (vars_at rows vars) k (fill (meaning rows) (shape.bound s d e))
unfolding fill
valid_elsewhere rows vars k s d e b is asked = (λ yes here. let never = asked.1 here in cc, λ agrees. refl)

-- a test whether two kinds of variables are equal is a test whether entries with these kinds are
pub same_entry : (x y : BoundVariableKind) (r : Bool) → (IsTrue r ↔ (y ≡ x)) → IsTrue r ↔ (Some y ≡ Some x)
same_entry x y r asked = (λ yes. ap Some (asked.0 yes), λ e. asked.1 (same_Some y x e))

-- where a list has no entry for a variable, the answer `false` is right
pub no_entry : (x : BoundVariableKind) → IsTrue false ↔ (let o : Option BoundVariableKind = None in o ≡ Some x)
no_entry x = (λ yes. let never = yes in cc, λ e. let never = e in cc)

-- an answer that is no
pub told_no : (P : Type 0) (r : Bool) → r ≡ false → (IsTrue r ↔ P) → P → ⊥
told_no P r is asked p = let never = asked.1 p in cc

-- What isn't a bound variable agrees by itself.

-- a region that is no bound variable agrees
pub region_other : (f : Meaning) (vs : List (VarKind Name)) (k : ℕ) (r : RegionKind) → ((i : BoundVarIndexKind) (b : BoundRegion) → r ≡ ReBound i b → ⊥) → Agrees vs k (fill f (region_shape r))
unfolding fill
region_other f vs k (ReEarlyParam p) other = tt
region_other f vs k (ReBound i b) other = absurd (other i b refl)
region_other f vs k (ReLateParam p) other = tt
region_other f vs k ReStatic other = tt
region_other f vs k (ReVar v) other = tt
region_other f vs k (RePlaceholder p) other = tt
region_other f vs k ReErased other = tt
region_other f vs k (ReError e) other = tt

-- a type that is no bound variable is itself no variable that disagrees
pub ty_other : (f : Meaning) (vs : List (VarKind Name)) (k : ℕ) (kind : TyKind) → ((i : BoundVarIndexKind) (b : BoundTy) → kind ≡ ty.Bound i b → ⊥) → RootAgrees vs k (fill f (ty_kind_shape kind))
unfolding fill
ty_other f vs k (ty.Bound i b) other = absurd (other i b refl)
ty_other f vs k _ other = tt

value_other : (f : Meaning) (vs : List (VarKind Name)) (k : ℕ) (t : Ty) (v : ValTreeKind) → RootAgrees vs k (fill f (form_shape const_sort (relabelled const_label (value_form t v))))
unfolding fill
value_other f vs k t (valtree.Leaf s) = tt
value_other f vs k t (valtree.Branch cs) = tt

-- a constant that is no bound variable is itself no variable that disagrees
pub const_other : (f : Meaning) (vs : List (VarKind Name)) (k : ℕ) (kind : ConstKind) → ((i : BoundVarIndexKind) (b : BoundConst) → kind ≡ const.Bound i b → ⊥) → RootAgrees vs k (fill f (const_kind_shape kind))
unfolding fill
const_other f vs k (const.Bound i b) other = absurd (other i b refl)
const_other f vs k (const.Value v) other = value_other f vs k v.ty v.valtree.kind
const_other f vs k _ other = tt

-- a predicate or a clause list is itself no variable that disagrees
pub clause_other : (vs : List (VarKind Name)) (k : ℕ) (t : Tree Depth) → IsClauseTree t → RootAgrees vs k t
clause_other vs k (term l ts) is = tt
clause_other vs k _ is = absurd is

-- What the tests of variables say of the terms that are these variables.

-- a type's tree is the tree of its kind, which is the variable
pub ty_variable : (rows : List Row) (t : Ty) (kind : TyKind) (i : BoundVarIndexKind) (b : BoundTy) → AreRows rows → IsAt rows (type_row kind) t.number → kind ≡ ty.Bound i b
    → fill (meaning rows) (ty_shape t) ≡ fill (meaning rows) (shape.bound type_sort (depth i) (ty_entry b))
ty_variable rows t kind i b are row e = kind_tree rows t kind are row ∙ ap (λ x. fill (meaning rows) (ty_kind_shape x)) e

-- a constant's tree is the tree of its kind, which is the variable
pub const_variable_tree : (rows : List Row) (c : Const) (kind : ConstKind) (i : BoundVarIndexKind) (b : BoundConst) → AreRows rows → IsAt rows (const_row kind) c.number → kind ≡ const.Bound i b
    → fill (meaning rows) (const_shape c) ≡ fill (meaning rows) (shape.bound const_sort (depth i) (const_entry b))
const_variable_tree rows c kind i b are row e = const_kind_tree rows c kind are row ∙ ap (λ x. fill (meaning rows) (const_kind_shape x)) e

-- a tree agrees if an equal tree does
pub same_valid : (vs : List (VarKind Name)) (k : ℕ) (t u : Tree Depth) → t ≡ u → Agrees vs k u → Agrees vs k t
same_valid vs k t u e h = subst (λ x. Agrees vs k x) (sym e) h

-- a tree disagrees if an equal tree does
pub same_wrong : (vs : List (VarKind Name)) (k : ℕ) (t u : Tree Depth) → t ≡ u → (Agrees vs k u → ⊥) → Agrees vs k t → ⊥
same_wrong vs k t u e wrong h = wrong (subst (λ x. Agrees vs k x) e h)

-- a term is itself no variable that disagrees if an equal term is none
pub same_root : (vs : List (VarKind Name)) (k : ℕ) (t u : Tree Depth) → t ≡ u → RootAgrees vs k u → RootAgrees vs k t
same_root vs k t u e h = subst (λ x. RootAgrees vs k x) (sym e) h

-- the answers at terms
pub looks_skip : (s : Validation) (t : Tree Depth) (o : ℕ) → o ≡ outer_binder t → o ≤ s.depth → ValidationLooks s t Skip s
looks_skip s t o e low = (inl (low_agrees s.vars s.depth t (rw (← e) low)), refl)

-- a term that is itself no variable that disagrees may be entered without being remembered
pub looks_enter : (s : Validation) (t : Tree Depth) → RootAgrees s.vars s.depth t → ValidationLooks s t Descend s
looks_enter s t agrees = record { agrees = agrees; vars = refl; depth = refl; seen = λ q m. inr m }

-- a term that is itself no variable that disagrees is skipped if it is remembered, and else entered
pub looks_once : (vs : List (VarKind Name)) (k : ℕ) (old new : List TypeAt) (t : Tree Depth) (next : Next) → RootAgrees vs k t → EntersOnce (record { standing = t; under = k }) old next new
    → ValidationLooks (record { vars = vs; depth = k; seen = old }) t next (record { vars = vs; depth = k; seen = new })
looks_once vs k old new t Skip agrees once = (inr once.0, ap (λ x. record { vars = vs; depth = k; seen = x }) once.1)
looks_once vs k old new t Descend agrees once = record { agrees = agrees; vars = refl; depth = refl; seen = once }

-- the validation of a visitor
abbrev pub validation : List Row → BoundVarKinds → ℕ → List (Place × Ty) → Validation
validation rows vars k es = record { vars = vars_at rows vars; depth = k; seen = places (memos rows es) }

-- what holds after a note, as it holds of the memory with the note and of the one without
pub note_kept : {A : Type 0} {E : Type 0} (P : A → Type 0) (r : Result (Unit {0}) E) (new noted old : A) → OnOk r (new ≡ noted) → OnErr r (new ≡ old) → P noted → P old → P new
note_kept P (Ok u) new noted old ok err p q = subst P (sym ok) p
note_kept P (Err e) new noted old ok err p q = subst P (sym err) q
