-- The fields of data types: their places, and their instances in turn.
use Rattle.std.proofs.Common.{◌≡◌, ℕ, zero, suc, ◌+◌, ◌<◌, List, [], ◌∷◌, ◌++◌, length, map, get_or, set, take}
use Rattle.std.proofs.Common.{drop, All, Option, Result, Ok, Err, refl, sym, ap, subst, inl, inr, ◌∙◌, arith}
use Rattle.std.proofs.Common.{append_assoc}
use Rattle.std.specs.Prelude.{◌≢◌, IfOk, IsOkAnd}
use Rattle.std.specs.declared.alloc.Global.{Global}
use Rattle.std.specs.declared.vec.Vec.{Vec}
use Rattle.std.specs.Vec.{with_items}
use Rattle.std.proofs.lemmas.List.{take-append-drop, take_more, take_more_set, drop_more, drop-set-lt}
use Rattle.std.proofs.lemmas.List.{with_items_is, length-take-le, length-map, map-append, append-nil}
use Rattle.std.proofs.lemmas.List.Elements.{All-nil, All-cons, All-head, All-tail, All-append}
use Rattle.tt_index.specs.declared.refusal.Refusal.{Refusal}
use Rattle.tt_kinds.specs.Argument.{Argument}
use Rattle.tt_kinds.specs.Handle.{Ty, GenericArgs, Symbol}
use Rattle.tt_kinds.specs.Shape.{fill}
use Rattle.tt_kinds.specs.Tree.{Depth, Tree}
use Rattle.tt_kinds.specs.Variant.{Variant, variant_of}
use Rattle.tt_kinds.specs.declared.field.FieldInfo.{FieldInfo}
use Rattle.tt_kinds.specs.declared.id.DataType.{DataType}
use Rattle.tt_kinds.specs.declared.id.Id.{Id}
use Rattle.tt_kinds.specs.declared.table.Table.TheVariants.{ArgLists, Types}
use Rattle.tt_kinds.specs.declared.variant.FieldDef.{FieldDef}
use Rattle.tt_kinds.specs.declared.variant.VariantDef.{VariantDef}
use Rattle.tt_interner.specs.Definitions.{IsOwnField, IsOwnVariant}
use Rattle.tt_interner.specs.Rows.{Row, size, meaning, AreRows}
use Rattle.tt_interner.specs.Stored.{Terms, Extends}
use Rattle.tt_interner.proofs.Growth.{Extends-refl, Extends-trans, in_range-grows, meaning-grows}
use Rattle.tt_interner.specs.Arguments.{arguments, args_at, AreArguments}
use Rattle.tt_binder.specs.ArgumentLaws.{args_at-grows, arguments-still}
use Rattle.tt_binder.specs.Instance.{IsPlain}
use Rattle.tt_binder.proofs.RowArguments.{are_arguments_at}
use Rattle.tt_binder.specs.Fields.{declared_field, fields_from, fields_among, InstantiatesTy, with_ty, AreInstances}
use Rattle.tt_binder.specs.Fields.{StopsAtField, GivesInstances, ArePlain, IsAdtOf, declared_fields, GivesFields}

-- the types of the fields are in range
abbrev pub OwnsTypes : List Row → List FieldInfo → Type 0
OwnsTypes rows fs = All (λ f. f.ty.number < size rows Types) fs

-- one field more
pub instances-more : (args : GenericArgs) (fs is : List FieldInfo) (f i : FieldInfo) (old between new : Terms) → AreInstances args fs is old between
    → i ≡ with_ty f i.ty → InstantiatesTy args f.ty between (Ok i.ty) new → AreInstances args (fs ++ f ∷ []) (is ++ i ∷ []) old new
instances-more args [] [] f i old between new still same step = (same, (new, subst (λ t. InstantiatesTy args f.ty t (Ok i.ty) new) still step, refl))
instances-more args [] (j ∷ is) f i old between new h same step = absurd h
instances-more args (g ∷ fs) [] f i old between new h same step = absurd h
instances-more args (g ∷ fs) (j ∷ is) f i old between new h same step = (h.0, (h.1.0, h.1.1, instances-more args fs is f i h.1.0 between new h.1.2 same step))

-- the next field is refused
pub stops-after : (args : GenericArgs) (fs is : List FieldInfo) (f : FieldInfo) (more : List FieldInfo) (e : Refusal) (old between new : Terms) → AreInstances args fs is old between
    → InstantiatesTy args f.ty between (Err e) new → StopsAtField args (fs ++ f ∷ more) e old new
stops-after args [] [] f more e old between new still step = inl (subst (λ t. InstantiatesTy args f.ty t (Err e) new) still step)
stops-after args [] (j ∷ is) f more e old between new h step = absurd h
stops-after args (g ∷ fs) [] f more e old between new h step = absurd h
stops-after args (g ∷ fs) (j ∷ is) f more e old between new h step = inr (j.ty, h.1.0, h.1.1, stops-after args fs is f more e h.1.0 between new h.1.2 step)

-- nothing earlier is lost
pub instances-extend : (args : GenericArgs) (fs is : List FieldInfo) (old new : Terms) → AreInstances args fs is old new → Extends old new
instances-extend args [] [] old new still = subst (Extends old) (sym still) (Extends-refl old)
instances-extend args [] (i ∷ is) old new h = absurd h
instances-extend args (f ∷ fs) [] old new h = absurd h
instances-extend args (f ∷ fs) (i ∷ is) old new h = Extends-trans h.1.1.extends (instances-extend args fs is h.1.0 new h.1.2)

stops-extend : (args : GenericArgs) (fs : List FieldInfo) (e : Refusal) (old new : Terms) → StopsAtField args fs e old new → Extends old new
stops-extend args [] e old new h = absurd h
stops-extend args (f ∷ fs) e old new (inl h) = h.extends
stops-extend args (f ∷ fs) e old new (inr h) = Extends-trans h.2.extends (stops-extend args fs e h.1 new h.3)

pub gives-extend : (args : GenericArgs) (fs : List FieldInfo) (old : Terms) (result : Result (Vec FieldInfo Global) Refusal) (new : Terms) → GivesInstances args fs old result new → Extends old new
gives-extend args fs old (Ok fields) new h = instances-extend args fs fields.items old new h
gives-extend args fs old (Err e) new (inl h) = stops-extend args fs e old new h
gives-extend args fs old (Err e) new (inr h) = subst (Extends old) (sym h.2) (Extends-refl old)

-- replacement in equal trees
plain-same : (xs ys : List (Argument Depth)) (t u r s : Tree Depth) → ys ≡ xs → u ≡ t → s ≡ r → IsPlain ys u r → IsPlain xs t s
plain-same xs ys t u r s same_args same_t same_r h =
    subst (IsPlain xs t) (sym same_r) (subst (λ x. IsPlain xs x r) same_t (subst (λ x. IsPlain x u r) same_args h))

-- each instance is plain replacement, also read at the end
module _ (args : GenericArgs) (start : Terms) (own : args.number < size start.rows ArgLists) (are : AreArguments start.rows (args_at start.rows args)) where
  plain_from : (fs is : List FieldInfo) (now new : Terms) → Extends start now → OwnsTypes start.rows fs → AreInstances args fs is now new → ArePlain args fs is start.rows new.rows
  unfolding fill
  plain_from [] [] now new g types h = tt
  plain_from [] (i ∷ is) now new g types h = h
  plain_from (f ∷ fs) [] now new g types h = h
  plain_from (f ∷ fs) (i ∷ is) now new g types h =
      let after : Extends h.1.0 new = instances-extend args fs is h.1.0 new h.1.2 in
      let same = args_at-grows start.rows now.rows args g.rows own in (
        in_range-grows h.1.0.rows new.rows after.rows Types i.ty.number h.1.1.in_range,
        plain-same (arguments start.rows (args_at start.rows args)) (arguments now.rows (args_at now.rows args)) (meaning start.rows Types f.ty.number) (meaning now.rows Types f.ty.number)
            (meaning h.1.0.rows Types i.ty.number) (meaning new.rows Types i.ty.number) (arguments-still start.rows now.rows (args_at start.rows args) (args_at now.rows args) g.rows same are)
            (meaning-grows start.rows now.rows g.rows Types f.ty.number (All-head (λ (x : FieldInfo). x.ty.number < size start.rows Types) f fs types)) (meaning-grows h.1.0.rows new.rows after.rows Types i.ty.number h.1.1.in_range) h.1.1.plain,
        plain_from fs is h.1.0 new (Extends-trans g h.1.1.extends) (All-tail (λ (x : FieldInfo). x.ty.number < size start.rows Types) f fs types) h.1.2,
      )

  pub gives-plain : (fs : List FieldInfo) (result : Result (Vec FieldInfo Global) Refusal) (new : Terms) → OwnsTypes start.rows fs → GivesInstances args fs start result new
      → IfOk result (λ fields. ArePlain args fs fields.items start.rows new.rows)
  gives-plain fs (Ok fields) new types h = plain_from fs fields.items start new (Extends-refl start) types h
  gives-plain fs (Err e) new types h = tt

-- without fields the list is empty
none-instances : (args : GenericArgs) (is : List FieldInfo) (old new : Terms) → AreInstances args [] is old new → (is ≡ []) × (new ≡ old)
none-instances args [] old new h = (refl, h)
none-instances args (i ∷ is) old new h = absurd h

gives-none : (args : GenericArgs) (fs : List FieldInfo) (old : Terms) (result : Result (Vec FieldInfo Global) Refusal) (new : Terms) → fs ≡ [] → GivesInstances args fs old result new
    → IsOkAnd result (λ fields. fields.items ≡ []) × (new ≡ old)
gives-none args [] old (Ok fields) new none h = none-instances args fields.items old new h
gives-none args [] old (Err e) new none (inl h) = absurd h
gives-none args [] old (Err e) new none (inr h) = absurd (h.1 refl)
gives-none args (f ∷ fs) old result new none h = cc

-- the fields of a data type
pub gives-fields : (base : Ty) (id : Id DataType) (args : GenericArgs) (old : Terms) (result : Result (Vec FieldInfo Global) Refusal) (new : Terms) → IsAdtOf old.rows base id args
    → args.number < size old.rows ArgLists → AreRows old.rows → OwnsTypes old.rows (declared_fields old.rows base id)
    → GivesInstances args (declared_fields old.rows base id) old result new → GivesFields base old result new
gives-fields base id args old result new stored own are types gives = record {
  id = id;
  args = args;
  stored = stored;
  instances = gives;
  extends = gives-extend args (declared_fields old.rows base id) old result new gives;
  plain = gives-plain args old own (are_arguments_at old.rows args are) (declared_fields old.rows base id) result new types gives;
  none = λ none. gives-none args (declared_fields old.rows base id) old result new none gives;
}

-- all instances, written over the fields of a vector
pub given-all : (args : GenericArgs) (fs : List FieldInfo) (fields : Vec FieldInfo Global) (is : List FieldInfo) (old new : Terms) → length is ≡ fields.len → AreInstances args fs is old new
    → GivesInstances args fs old (Ok (with_items fields is)) new
given-all args fs fields is old new same h = subst (λ xs. AreInstances args fs xs old new) (sym (with_items_is fields is same)) h

-- in place: the fields up to i have their instances, and the others are as they were
pub record AreInstancesTo (args : GenericArgs) (fs : List FieldInfo) (i : ℕ) (now : List FieldInfo) (old new : Terms) : Type 0 where
  pub done : AreInstances args (take i fs) (take i now) old new
  pub rest : drop i now ≡ drop i fs

-- the next field is as it was
next-field : (fs now : List FieldInfo) (i : ℕ) (d : FieldInfo) → length now ≡ length fs → i < length fs → drop i now ≡ drop i fs → get_or now i d ≡ get_or fs i d
next-field [] now i d same h rest = absurd (omega arith)
next-field (f ∷ fs) [] i d same h rest = absurd (omega arith)
next-field (f ∷ fs) (x ∷ now) zero d same h rest = cc
next-field (f ∷ fs) (x ∷ now) (suc i) d same h rest = next-field fs now i d (omega arith) (omega arith) rest

later-fields : {X : Type 0} (x y : X) (xs ys : List X) → x ∷ xs ≡ y ∷ ys → xs ≡ ys
later-fields x y xs ys e = cc

module _ (args : GenericArgs) (fs now : List FieldInfo) (i : ℕ) (old between : Terms) (same : length now ≡ length fs) (to : AreInstancesTo args fs i now old between) where
  to-extend : Extends old between
  to-extend = instances-extend args (take i fs) (take i now) old between to.done

  -- the arguments stay in range, and so do the types of the fields that are still to come
  pub to-args : args.number < size old.rows ArgLists → args.number < size between.rows ArgLists
  to-args own = in_range-grows old.rows between.rows to-extend.rows ArgLists args.number own

  -- the type of the next field, which has no instance yet, is in range
  pub to-own : (d : FieldInfo) → i < length fs → OwnsTypes old.rows fs → (get_or now i d).ty.number < size between.rows Types
  to-own d h own =
      let here : (get_or fs i d).ty.number < size old.rows Types = own i d h in
      rw (next-field fs now i d same h to.rest) (in_range-grows old.rows between.rows to-extend.rows Types (get_or fs i d).ty.number here)

  -- one more
  pub to-more : (d : FieldInfo) (t : Ty) (new : Terms) → i < length fs → InstantiatesTy args (get_or now i d).ty between (Ok t) new
      → AreInstancesTo args fs (i + 1) (set now i (with_ty (get_or now i d) t)) old new
  to-more d t new h step =
      let f = get_or fs i d in
      let here : get_or now i d ≡ f = next-field fs now i d same h to.rest in
      let inside : i < length now = omega arith in
      let j = with_ty (get_or now i d) t in
      let is_f : j ≡ with_ty f t = ap (λ x. with_ty x t) here in
      let left : get_or now i d ∷ drop (i + 1) now ≡ f ∷ drop (i + 1) fs = sym (drop_more now i d inside) ∙ to.rest ∙ drop_more fs i d h in
      record {
        done = rw (take_more fs i d h, take_more_set now i j inside)
            (instances-more args (take i fs) (take i now) f j old between new to.done is_f (subst (λ (x : FieldInfo). InstantiatesTy args x.ty between (Ok t) new) here step));
        rest = drop-set-lt (i + 1) now i j (omega arith) ∙ later-fields _ _ _ _ left;
      }

  -- the next one is refused
  pub to-stops : (d : FieldInfo) (e : Refusal) (new : Terms) → i < length fs → InstantiatesTy args (get_or now i d).ty between (Err e) new → StopsAtField args fs e old new
  to-stops d e new h step =
      let f = get_or fs i d in
      let refused : InstantiatesTy args f.ty between (Err e) new = subst (λ (x : FieldInfo). InstantiatesTy args x.ty between (Err e) new) (next-field fs now i d same h to.rest) step in
      let split : take i fs ++ f ∷ drop (i + 1) fs ≡ fs = ap (λ xs. take i fs ++ xs) (sym (drop_more fs i d h)) ∙ take-append-drop i fs in
      subst (λ xs. StopsAtField args xs e old new) split (stops-after args (take i fs) (take i now) f (drop (i + 1) fs) e old between new to.done refused)

-- a field more of a variant
fields_from-push : (base : Ty) (name : Option Symbol) (v k m : ℕ) (fs : List FieldDef) (f : FieldDef) → k + length fs ≡ m
    → fields_from base name v k (fs ++ f ∷ []) ≡ fields_from base name v k fs ++ declared_field base name v m f ∷ []
fields_from-push base name v k m [] f is = let same : k ≡ m = omega arith in rw same refl
fields_from-push base name v k m (x ∷ fs) f is = ap (λ ys. declared_field base name v k x ∷ ys) (fields_from-push base name v (k + 1) m fs f (omega arith))

-- once the next field of a variant is pushed, the list ends with one more of the variant's fields
pub fields_from-more : (base : Ty) (name : Option Symbol) (v : ℕ) (fs : List FieldDef) (i : ℕ) (d : FieldDef) (before now later : List FieldInfo) → i < length fs
    → now ≡ before ++ fields_from base name v 0 (take i fs) → later ≡ now ++ declared_field base name v i (get_or fs i d) ∷ [] → later ≡ before ++ fields_from base name v 0 (take (i + 1) fs)
fields_from-more base name v fs i d before now later h is pushed =
    let f = get_or fs i d in
    let count : 0 + length (take i fs) ≡ i = let n = length-take-le i fs (omega arith) in omega arith in
    let last = fields_from-push base name v 0 i (take i fs) f count in
    pushed ∙ ap (λ xs. xs ++ declared_field base name v i f ∷ []) is ∙ append_assoc before (fields_from base name v 0 (take i fs)) (declared_field base name v i f ∷ [])
    ∙ ap (λ xs. before ++ xs) (sym last) ∙ ap (λ xs. before ++ fields_from base name v 0 xs) (sym (take_more fs i d h))

-- a variant more
fields_among-push : (base : Ty) (k m : ℕ) (vs : List Variant) (v : Variant) → k + length vs ≡ m
    → fields_among base k (vs ++ v ∷ []) ≡ fields_among base k vs ++ fields_from base v.name m 0 v.fields
fields_among-push base k m [] v is = let same : k ≡ m = omega arith in rw same (append-nil (fields_from base v.name m 0 v.fields))
fields_among-push base k m (x ∷ vs) v is =
    ap (λ ys. fields_from base x.name k 0 x.fields ++ ys) (fields_among-push base (k + 1) m vs v (omega arith)) ∙ sym (append_assoc (fields_from base x.name k 0 x.fields) _ _)

-- once the fields of the next variant are added, the list has the fields of one variant more
pub fields_among-more : (base : Ty) (vs : List VariantDef) (i : ℕ) (v : VariantDef) (now later : List FieldInfo) → i < length vs → v ≡ get_or vs i v
    → now ≡ fields_among base 0 (map variant_of (take i vs)) → later ≡ now ++ fields_from base v.name i 0 v.fields.items → later ≡ fields_among base 0 (map variant_of (take (i + 1) vs))
fields_among-more base vs i v now later h at is added =
    let taken : take (i + 1) vs ≡ take i vs ++ v ∷ [] = take_more vs i v h ∙ ap (λ x. take i vs ++ x ∷ []) (sym at) in
    let count : 0 + length (map variant_of (take i vs)) ≡ i = let n = length-map (take i vs) variant_of ∙ length-take-le i vs (omega arith) in omega arith in
    let last = fields_among-push base 0 i (map variant_of (take i vs)) (variant_of v) count in
    added ∙ ap (λ xs. xs ++ fields_from base v.name i 0 v.fields.items) is ∙ sym last ∙ ap (fields_among base 0) (sym (map-append variant_of (take i vs) (v ∷ []))) ∙ ap (λ xs. fields_among base 0 (map variant_of xs)) (sym taken)

-- the types of the declared fields are in range
module _ (rows : List Row) (base : Ty) where
  abbrev HasOwnTy : FieldInfo → Type 0
  HasOwnTy f = f.ty.number < size rows Types

  own-from : (name : Option Symbol) (v i : ℕ) (fs : List FieldDef) → All (IsOwnField rows) fs → OwnsTypes rows (fields_from base name v i fs)
  own-from name v i [] h = All-nil HasOwnTy
  own-from name v i (f ∷ fs) h =
      All-cons HasOwnTy (declared_field base name v i f) (fields_from base name v (i + 1) fs) (All-head (IsOwnField rows) f fs h).1 (own-from name v (i + 1) fs (All-tail (IsOwnField rows) f fs h))

  -- if the names and types in variants are in range, so are the types of all their fields
  pub own-among : (v : ℕ) (vs : List VariantDef) → All (IsOwnVariant rows) vs → OwnsTypes rows (fields_among base v (map variant_of vs))
  own-among v [] h = All-nil HasOwnTy
  own-among v (x ∷ vs) h =
      All-append HasOwnTy (fields_from base x.name v 0 x.fields.items) (fields_among base (v + 1) (map variant_of vs))
      (own-from x.name v 0 x.fields.items (All-head (IsOwnVariant rows) x vs h).1) (own-among (v + 1) vs (All-tail (IsOwnVariant rows) x vs h))

-- a data type with a field has fields
nil-left : {X : Type 0} (xs ys : List X) → xs ++ ys ≡ [] → xs ≡ []
nil-left [] ys e = refl
nil-left (x ∷ xs) ys e = cc

nil-right : {X : Type 0} (xs ys : List X) → xs ++ ys ≡ [] → ys ≡ []
nil-right [] ys e = e
nil-right (x ∷ xs) ys e = cc

none-from : (base : Ty) (name : Option Symbol) (v i : ℕ) (fs : List FieldDef) → fields_from base name v i fs ≡ [] → fs ≡ []
none-from base name v i [] e = refl
none-from base name v i (f ∷ fs) e = cc

-- if one of the variants has a field, the list of all their fields isn't empty
pub some-among : (base : Ty) (k : ℕ) (vs : List VariantDef) (i : ℕ) (v : VariantDef) → i < length vs → v ≡ get_or vs i v → v.fields.items ≢ [] → fields_among base k (map variant_of vs) ≢ []
some-among base k [] i v h at some = absurd (omega arith)
some-among base k (x ∷ vs) zero v h at some = λ e.
    some (ap (λ (w : VariantDef). w.fields.items) at ∙ none-from base x.name k 0 x.fields.items (nil-left (fields_from base x.name k 0 x.fields.items) (fields_among base (k + 1) (map variant_of vs)) e))
some-among base k (x ∷ vs) (suc i) v h at some = λ e.
    some-among base (k + 1) vs i v (omega arith) at some (nil-right (fields_from base x.name k 0 x.fields.items) (fields_among base (k + 1) (map variant_of vs)) e)
