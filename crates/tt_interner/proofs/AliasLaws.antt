-- What is known of an alias by the row of its arguments.
use Rattle.std.proofs.Common.{◌≡◌, ◌↔◌, ℕ, ◌-◌, ◌<◌, Bool, true, false, IsTrue, List, [], ◌∷◌, ◌++◌, length, take, drop}
use Rattle.std.proofs.Common.{Option, Some, None, is_some, Ok, Err, inl, inr, sym, ap, subst, ◌∙◌}
use Rattle.std.proofs.Math.Seq.{take-length}
use Rattle.std.proofs.lemmas.List.{length-drop, take-append-drop}
use Rattle.std.proofs.lemmas.Option.{same_Some}
use Rattle.tt_kinds.specs.Handle.{GenericArgs, Ty}
use Rattle.tt_kinds.specs.Kinds.{arg_shape}
use Rattle.tt_kinds.specs.declared.alias.AliasTy.{AliasTy}
use Rattle.tt_kinds.specs.declared.generic_arg.GenericArgKind.{GenericArgKind}
use Rattle.tt_kinds.specs.declared.generic_arg.GenericArgKind.TheVariants as arg
use Rattle.tt_kinds.specs.declared.id.Id.{Id}
use Rattle.tt_kinds.specs.declared.id.Trait.{Trait}
use Rattle.tt_kinds.specs.declared.predicate.TraitRef.{TraitRef}
use Rattle.tt_kinds.specs.declared.table.Table.TheVariants.{ArgLists, Types}
use Rattle.tt_kinds.specs.declared.view.GenericArgsSlice.{GenericArgsSlice}
use Rattle.tt_interner.specs.Alias.{first_type, HasSelfTy, HasParams, TraitArgs, IsOwnArgs, viewed, AreJoined}
use Rattle.tt_interner.specs.Alias.{JoinsTraitArgs}
use Rattle.tt_interner.specs.Collect.{BuildsCollected}
use Rattle.tt_interner.specs.Owned.{AreOwned}
use Rattle.tt_interner.specs.Rows.{Row, args_row, size}
use Rattle.tt_interner.specs.Stored.{Terms, IsAt, Builds}
use Rattle.tt_interner.proofs.Growth.{IsAt-grows}
use Rattle.tt_interner.proofs.StoreSteps.{in_range}

-- a list has one row
same_list : (rows : List Row) (xs ys : List GenericArgKind) (n : ℕ) → IsAt rows (args_row xs) n → IsAt rows (args_row ys) n → xs ≡ ys
same_list rows xs ys n p q = cc

-- the list has a self type exactly where one is found in it
pub self_ty_found : (rows : List Row) (args : GenericArgs) (items : List GenericArgKind) → IsAt rows (args_row items) args.number → (found : Option Ty) → found ≡ first_type items → (b : Bool) → b ≡ is_some found
    → IsTrue b ↔ HasSelfTy rows args
self_ty_found rows args items at (Some ty) is b some = ((λ h. (ty, record { items = items; stored = at; first = sym is })), (λ h. some))
self_ty_found rows args items at None is b none = (
  (λ h. let yes : b ≡ true = h in absurd (cc)),
  (λ h. let first = h.1.first in let one = same_list rows items h.1.items args.number at h.1.stored in absurd (cc)),
)

-- a list that is not stored has none
pub self_ty_absent : (rows : List Row) (args : GenericArgs) (b : Bool) → IsTrue b ↔ (args.number < size rows ArgLists) → b ≡ false → IsTrue b ↔ HasSelfTy rows args
self_ty_absent rows args b owns absent = (
  (λ h. let yes : b ≡ true = h in absurd (cc)),
  (λ h. owns.1 (in_range rows (args_row h.1.items) args.number h.1.stored)),
)

-- the first of the interner's arguments is its own
pub first_owned : (terms : Terms) (items : List GenericArgKind) (ty : Ty) → first_type items ≡ Some ty → AreOwned arg_shape terms items → ty.number < size terms.rows Types
first_owned terms [] ty first owned = absurd (cc)
first_owned terms (arg.«Type» t ∷ others) ty first owned = subst (λ (u : Ty). u.number < size terms.rows Types) (same_Some t ty first) owned.0
first_owned terms (arg.Lifetime r ∷ others) ty first owned = absurd (cc)
first_owned terms (arg.Const c ∷ others) ty first owned = absurd (cc)

-- an alias has one trait and one list of arguments
same_args : {rows : List Row} {alias : AliasTy} {p q : Id Trait} {n m : ℕ} {xs ys : List GenericArgKind} → TraitArgs rows alias p n xs → TraitArgs rows alias q m ys → (n ≡ m) × (xs ≡ ys)
same_args {rows} {alias} {p} {q} {n} {m} {xs} {ys} g h =
    let in_first = g.in_trait in
    let in_second = h.in_trait in
    let parents : p ≡ q = cc in
    let first : HasParams rows q n = subst (λ t. HasParams rows t n) parents g.declared in
    let of_first = first.1 in
    let of_second = h.declared.1 in
    let params : n ≡ m = cc in
    (params, same_list rows xs ys alias.args.number g.stored h.stored)

-- the arguments from a place on are as many as are left
rest_all : (n : ℕ) (xs : List GenericArgKind) → take (length xs - n) (drop n xs) ≡ drop n xs
rest_all n xs = rw (← length-drop n xs) (take-length (drop n xs))

put_together : (n : ℕ) (xs firsts items : List GenericArgKind) (view : GenericArgsSlice) → firsts ≡ take n xs → items ≡ xs → view.start ≡ n → view.len ≡ length xs - n → firsts ++ viewed items view ≡ items
put_together n xs firsts items view f i s l = rw (f, i, s, l, rest_all n xs) (take-append-drop n xs)

joined_built : (old new : Terms) (alias : AliasTy) (both : TraitRef × GenericArgsSlice) (n : ℕ) (xs : List GenericArgKind) (parent : Id Trait) → TraitArgs old.rows alias parent n xs
    → Builds (Ok both) (λ (h : TraitRef × GenericArgsSlice). h.0.args.number) old new (args_row (take n xs)) → IsOwnArgs old.rows alias both.0.def_id both.1 → AreJoined new.rows alias both.0 both.1
joined_built old new alias both n xs parent args b own = λ firsts items at at'.
    let one = same_args args own.args in
    let kept : IsAt new.rows (args_row xs) alias.args.number = IsAt-grows old.rows new.rows b.grows (args_row xs) alias.args.number args.stored in
    let start : both.1.start ≡ n = ap (λ v. v.start) own.is ∙ sym one.0 in
    let len : both.1.len ≡ length xs - n = rw (one.0, one.1) (ap (λ v. v.len) own.is) in
    put_together n xs firsts items both.1 (same_list new.rows firsts (take n xs) both.0.args.number at b.stored.stored) (same_list new.rows items xs alias.args.number at' kept) start len

joined : (old new : Terms) (alias : AliasTy) (both : TraitRef × GenericArgsSlice) (n : ℕ) (xs : List GenericArgKind) (parent : Id Trait) → TraitArgs old.rows alias parent n xs
    → BuildsCollected (Ok both) (λ (h : TraitRef × GenericArgsSlice). h.0.args.number) old new args_row (take n xs) → IsOwnArgs old.rows alias both.0.def_id both.1 → AreJoined new.rows alias both.0 both.1
joined old new alias both n xs parent args (inl b) own = joined_built old new alias both n xs parent args b own
joined old new alias both n xs parent args (inr m) own = absurd (let never = m.0.1 in cc)

-- the first arguments and the own ones are all
pub joins : JoinsTraitArgs
joins old new alias (Ok both) built own = joined old new alias both built.params built.items built.parent built.args built.builds own
joins old new alias (Err e) built own = tt
