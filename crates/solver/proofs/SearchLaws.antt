-- How tables of bindings go on through the calls of a search.
use Rattle.std.proofs.Common.{◌≡◌, ◌+◌, ℕ, zero, suc, ◌⊎◌, inl, inr, List, [], ◌∷◌, ◌++◌, length, refl, ap, sym, ◌∙◌, subst, arith}
use Rattle.std.proofs.lemmas.List.{length-append}
use Rattle.std.specs.Prelude.{◌↔◌, Bool, false, IsTrue, Some, slice_get, Err, IfOk, Ok, OnErr, Result}
use Rattle.tt_flags.specs.TypeFlags.{has_ty_infer}
use Rattle.tt_kinds.specs.Handle.{GenericArgs}
use Rattle.tt_kinds.specs.Kinds.{arg_shape, args_shape}
use Rattle.tt_kinds.specs.Label.{list_label}
use Rattle.tt_kinds.specs.Reading.{read}
use Rattle.tt_kinds.specs.Scan.{scan}
use Rattle.tt_kinds.specs.Shape.{fill, fill_all, item_shapes}
use Rattle.tt_kinds.specs.Tree.{Depth, Tree, node}
use Rattle.tt_kinds.specs.Values.{trait_predicate_shape}
use Rattle.tt_kinds.specs.declared.generic_arg.GenericArgKind.{GenericArgKind}
use Rattle.tt_kinds.specs.declared.predicate.TraitPredicate.{TraitPredicate}
use Rattle.tt_kinds.specs.declared.table.Table.TheVariants.{ArgLists}
use Rattle.tt_interner.specs.Owned.{AreOwned, IsOwned, tree_by, tree_in}
use Rattle.tt_interner.specs.Reads.{Reads}
use Rattle.tt_interner.specs.Rows.{args_row, meaning, row_shape}
use Rattle.tt_interner.specs.Stored.{Extends, Terms}
use Rattle.tt_interner.proofs.Growth.{Extends-refl, Extends-trans, fill-grows}
use Rattle.tt_interner.proofs.OwnedLaws.{found_owned, list_still_owned, owned_laws, still_owned}
use Rattle.tt_visit.specs.HasTypeFlags.{Meets}
use Rattle.tt_fold.proofs.KeptLaws.{misses}
use Rattle.unify.specs.Bindings.{IsTable, KeepsEarlier, Table, substitution, table_at, with_variable}
use Rattle.unify.specs.Substitution.{Refines, Substitution, apply, apply_all}
use Rattle.unify.proofs.ComparisonLaws.{rolled_back}
use Rattle.unify.proofs.FlagLaws.{unflagged_stays}
use Rattle.unify.proofs.SubstitutionLaws.{refines_itself}
use Rattle.unify.proofs.TableLaws.{pushed_same, table_idempotent}
use Rattle.unify.proofs.UnificationLaws.{earlier_further, earlier_itself, refined_further, refined_grown, substitution_stays, table_stays}
use Rattle.solver.specs.Search.{ArePlain, Continues}

-- a table that goes on twice goes on
pub continues_further : {a b c : Terms} {x y z : Table} → Continues a x b y → Continues b y c z → Continues a x c z
continues_further {a} {b} {c} {x} {y} {z} first second = record {
  extends = Extends-trans first.extends second.extends;
  refined = refined_further a b c x y z first.refined second.refined;
  earlier = earlier_further x y z first.earlier second.earlier;
}

-- a table goes on as itself, whatever the interner builds
pub continues_grown : {a b : Terms} {x : Table} → Extends a b → IsTable a x → Continues a x b x
continues_grown {a} {b} {x} extends table = record {
  extends = extends;
  refined = refined_grown a b x extends table;
  earlier = earlier_itself x;
}

pub continues_itself : {a : Terms} {x : Table} → IsTable a x → Continues a x a x
continues_itself {a} table = continues_grown (Extends-refl a) table

-- what a table becomes is a table
pub continues_table : {a b : Terms} {x y : Table} → Continues a x b y → IsTable b y
continues_table on = on.refined.table

pub continues_extends : {a b : Terms} {x y : Table} → Continues a x b y → Extends a b
continues_extends on = on.extends

-- a table that is what it was goes on
pub continues_back : {a b : Terms} {x y z : Table} (n k : ℕ) → IsTable a x → Continues a x b y → n ≡ length x.entries → k ≡ length x.bound
    → z ≡ table_at n k y → Continues a x b z
continues_back {a} {b} {x} {y} {z} n k table on variables bindings is =
    subst (λ t. Continues a x b t) (sym (is ∙ rolled_back x y n k on.earlier variables bindings)) (continues_grown on.extends table)

-- a table that went on is what it was where it is rolled back to it
pub turned_back : {a b : Terms} {x y z : Table} (n k : ℕ) → Continues a x b y → n ≡ length x.entries → k ≡ length x.bound
    → z ≡ table_at n k y → z ≡ x
turned_back {a} {b} {x} {y} n k on variables bindings is = is ∙ rolled_back x y n k on.earlier variables bindings

-- what holds in any case holds on success under a condition, and on a fault
pub any_ok : {A E X : Type 0} (Y : A → Type 0) (r : Result A E) → X → IfOk r (λ a. Y a → X)
any_ok Y (Ok a) x = λ y. x
any_ok Y (Err e) x = tt

pub any_err : {A E X : Type 0} (r : Result A E) → X → OnErr r X
any_err (Ok a) x = tt
any_err (Err e) x = x

-- a table goes on where a variable is added
pub continues_made : {a b : Terms} {x y : Table} → Extends a b → IsTable a x → IsTable b y → KeepsEarlier x y → y ≡ with_variable x
    → Continues a x b y
continues_made {a} {b} {x} {y} extends table made earlier is = record {
  extends = extends;
  refined = record {
    table = made;
    refines =
        let stays = table_stays a b x extends table in
        let same : substitution b (with_variable x) ≡ substitution a x =
        (λ i v. pushed_same b x.entries stays v i) ∙ substitution_stays a b x extends table in
        subst (λ t. Refines (substitution a x) (substitution b t)) (sym is)
        (subst (Refines (substitution a x)) (sym same) (refines_itself (substitution a x) (table_idempotent a x.entries table)));
  };
  earlier = earlier;
}

-- an item of a list with one more is one of the list, or the last
pushed_at : {X : Type 0} (xs : List X) (x : X) (k : ℕ) (y : X) → slice_get (xs ++ x ∷ []) k ≡ Some y
    → (slice_get xs k ≡ Some y) ⊎ ((k ≡ length xs) × (x ≡ y))
pushed_at [] x zero y at = inr (refl, cc)
pushed_at [] x (suc k) y at = absurd (cc)
pushed_at (z ∷ xs) x zero y at = inl at
pushed_at (z ∷ xs) x (suc k) y at = elim (pushed_at xs x k y at) [ inl old ↦ inl old | inr last ↦ inr (ap suc last.0, last.1) ]

-- and so with one more
pub plain_next : (σ : Substitution) (old between new : Terms) (olds news : List GenericArgKind) (a b : GenericArgKind) → Extends between new
    → AreOwned arg_shape between news → ArePlain σ old olds between news → slice_get olds (length news) ≡ Some a
    → tree_in new.rows (arg_shape b) ≡ apply σ (tree_in old.rows (arg_shape a)) → ArePlain σ old olds new (news ++ b ∷ [])
plain_next σ old between new olds news a b extends owned plain at is = λ k x y there found.
    elim (pushed_at news b k y found) [
      | inl older ↦ (
          fill-grows between.rows new.rows extends.rows (arg_shape y) (found_owned arg_shape between news k y older owned)
          ∙ plain k x y there older)
      | inr last ↦ (
          let this : a ≡ x = let p = ap (slice_get olds) last.0 in cc in
          ap (λ z. tree_in new.rows (arg_shape z)) (sym last.1) ∙ is ∙ ap (λ z. apply σ (tree_in old.rows (arg_shape z))) this)
    ]

-- lists of one length, of which each item is so
pub plain_lists : (σ : Substitution) (old new : Terms) (olds news : List GenericArgKind) → length news ≡ length olds
    → ArePlain σ old olds new news
    → fill_all (meaning new.rows) (item_shapes arg_shape news) ≡ apply_all σ (fill_all (meaning old.rows) (item_shapes arg_shape olds))
unfolding fill
plain_lists σ old new [] [] same plain = refl
plain_lists σ old new [] (b ∷ news) same plain = absurd (cc)
plain_lists σ old new (a ∷ olds) [] same plain = absurd (cc)
plain_lists σ old new (a ∷ olds) (b ∷ news) same plain =
    let first = plain zero a b refl refl in
    let rest = plain_lists σ old new olds news (omega (arith, same)) (λ k. plain (suc k)) in
    rw (first, rest) refl

-- an argument that was resolved later, whatever the interner had built by then
pub plain_before : (old between : Terms) (x : Table) (a : GenericArgKind) (t : Tree Depth) → Extends old between → IsTable old x
    → IsOwned arg_shape old a → t ≡ apply (substitution between x) (tree_in between.rows (arg_shape a))
    → t ≡ apply (substitution old x) (tree_in old.rows (arg_shape a))
plain_before old between x a t extends table owned is =
    is ∙ ap (λ σ. apply σ (tree_in between.rows (arg_shape a))) (substitution_stays old between x extends table)
    ∙ ap (apply (substitution old x)) (fill-grows old.rows between.rows extends.rows (arg_shape a) owned)

-- a list that is made of the resolved arguments of a list
pub plain_args : (σ : Substitution) (old between new : Terms) (args made : GenericArgs) (olds news : List GenericArgKind)
    → Reads old.rows ArgLists args.number (args_row olds)
    → meaning new.rows ArgLists made.number ≡ fill (meaning between.rows) (row_shape (args_row news))
    → length news ≡ length olds → ArePlain σ old olds between news
    → tree_in new.rows (args_shape made) ≡ apply σ (tree_in old.rows (args_shape args))
unfolding fill
plain_args σ old between new args made olds news read means same plain =
    means ∙ ap (node (list_label ArgLists)) (plain_lists σ old between olds news same plain) ∙ ap (apply σ) (sym read.means)

-- a goal with the resolved list of its arguments
pub plain_goal : (σ : Substitution) (old new : Terms) (goal : TraitPredicate) (args : GenericArgs)
    → tree_in new.rows (args_shape args) ≡ apply σ (tree_in old.rows (args_shape goal.trait_ref.args))
    → tree_by trait_predicate_shape new.rows (record { trait_ref = record { def_id = goal.trait_ref.def_id; args = args } })
    ≡ apply σ (tree_by trait_predicate_shape old.rows goal)
unfolding fill
plain_goal σ old new goal args is = let p = is in cc

-- a list with one more item is one longer
pub one_longer : {X : Type 0} (xs ys : List X) (x : X) (n : ℕ) → length xs ≡ n → ys ≡ xs ++ x ∷ [] → length ys ≡ n + 1
one_longer xs ys x n long is = ap length is ∙ length-append xs (x ∷ []) ∙ ap (λ m. m + 1) long

-- an argument that is no type, where a test for inference variables answers no
pub unresolved : (σ : Substitution) (t : Tree Depth) (found : Bool) → IsTrue found ↔ Meets has_ty_infer (scan t) → found ≡ false → t ≡ apply σ t
unresolved σ t found exact none_found = sym (unflagged_stays σ t (misses has_ty_infer (scan t) found exact none_found))

-- the laws of a search, for `using`
pub ruleset search_laws = (Extends-trans, owned_laws)
