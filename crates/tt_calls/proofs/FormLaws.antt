-- Kinds that are made of what was built are the ones that calls name, over plain variables.
use Rattle.std.proofs.Common.{◌≡◌, ℕ, List, Option, map, refl, ap}
use Rattle.std.specs.Prelude.{IfSome}
use Rattle.tt_index.specs.declared.refusal.Refusal.{Refusal}
use Rattle.tt_kinds.specs.Label.{Name, VarKind, region_variable, type_variable, const_variable, Label, RecordLabel}
use Rattle.tt_kinds.specs.Label.{type_label, const_label, pattern_label, predicate_label, existential_label}
use Rattle.tt_kinds.specs.Label.{record_label, unstable_feature_record, bare_param_record, bare_bound_record}
use Rattle.tt_kinds.specs.Tree as tree
use Rattle.tt_kinds.specs.Shape as shape
use Rattle.tt_kinds.specs.Shape.{Shape, Sizes, fill, name_of, rename_entry, rename_label, rename_record}
use Rattle.tt_kinds.specs.Shape.{IsNamedKind, IsNamedLabel, IsNamedRecord}
use Rattle.tt_kinds.specs.Kinds.{parts_shapes}
use Rattle.tt_interner.specs.Rows.{Row, size, meaning}
use Rattle.tt_interner.specs.Stored.{Terms}
use Rattle.std.specs.declared.alloc.Global.{Global}
use Rattle.std.specs.declared.vec.Vec.{Vec}
use Rattle.tt_calls.specs.declared.call.RegionCall.{RegionCall}
use Rattle.tt_calls.specs.declared.call.ExistentialCall.{ExistentialCall}
use Rattle.tt_calls.specs.declared.call.TyCall.{TyCall}
use Rattle.tt_calls.specs.declared.call.TyCall.TheVariants as ty
use Rattle.tt_calls.specs.declared.build.parts.Built.{Built}
use Rattle.tt_calls.specs.CallForm.{Part, CallForm, param, bound, plain, under, trait_object, form_positions}
use Rattle.tt_calls.specs.CallForm.{parts_positions, ArePartsTooDeep, IsFormTooDeep, ty_call_form, variable_kind}
use Rattle.tt_calls.specs.CallForm.{existential_record}
use Rattle.tt_calls.specs.Told.{Told}
use Rattle.tt_calls.specs.Means.{AreTerms}
use Rattle.tt_calls.specs.Build.{IsKindOf, IsUnbuiltPart}
use Rattle.tt_calls.specs.Room.{HasValues, FormNeedsRoom}
use Rattle.tt_calls.specs.Parts.{IsBuilt, IsSymbolOf, form_children, form_vars, form_text, record_text}
use Rattle.tt_calls.specs.Parts.{built_shape, IsKindForm, IsKindLabel, IsInnerLabel, IsTermVariable, BuiltNeedsRoom}
use Rattle.tt_calls.proofs.KindLaws.{param-kind, bound-kind}
use Rattle.tt_calls.proofs.PartLaws.{plain-kind, IsUnbuiltPart-weaker}
use Rattle.tt_calls.proofs.ValueLaws.{in-term, in-node, in-binder, first-value}
use Rattle.tt_calls.proofs.TextLaws.{param-lacks, record-lacks}

-- a label of a kind has no name that could be replaced
label-again : (f : ℕ → Name) (n : ℕ) (l : Label Name) → IsKindLabel l → rename_label f (rename_label (λ _. n) l) ≡ l
label-again f n (type_label l) h = refl
label-again f n (const_label l) h = refl
label-again f n (pattern_label l) h = refl
label-again f n predicate_label h = refl
label-again f n existential_label h = refl
label-again f n _ h = absurd h

label-named : (s : Sizes) (n : ℕ) (l : Label Name) → IsKindLabel l → IsNamedLabel s (rename_label (λ _. n) l)
label-named s n (type_label l) h = tt
label-named s n (const_label l) h = tt
label-named s n (pattern_label l) h = tt
label-named s n predicate_label h = tt
label-named s n existential_label h = tt
label-named s n _ h = absurd h

-- the name in a record's label is the text of the symbol
record-again : (terms : Terms) (b : Built) (m : RecordLabel Name) → IsInnerLabel m → IfSome (record_text m) (λ t. IsSymbolOf terms t b.name)
    → rename_record (name_of (meaning terms.rows)) (rename_record (λ _. b.name.number) m) ≡ m
record-again terms b (unstable_feature_record t) h k = ap unstable_feature_record k.means
record-again terms b (bare_param_record s i t) h k = absurd h
record-again terms b (bare_bound_record s d e) h k = absurd h
record-again terms b _ h k = refl

record-named : (terms : Terms) (b : Built) (m : RecordLabel Name) → IsInnerLabel m → IfSome (record_text m) (λ t. IsSymbolOf terms t b.name)
    → IsNamedRecord (size terms.rows) (rename_record (λ _. b.name.number) m)
record-named terms b (unstable_feature_record t) h k = k.in_range
record-named terms b (bare_param_record s i t) h k = absurd h
record-named terms b (bare_bound_record s d e) h k = absurd h
record-named terms b _ h k = tt

-- a variable that is a type or a constant has no name
entry-again : (f : ℕ → Name) (n v : ℕ) (k : VarKind Name) → IsTermVariable k → rename_entry f (rename_entry (λ _. n) (record { var = v; kind = k })) ≡ record { var = v; kind = k }
entry-again f n v (region_variable r) h = absurd h
entry-again f n v (type_variable k) h = refl
entry-again f n v const_variable h = refl

entry-named : (s : Sizes) (n v : ℕ) (k : VarKind Name) → IsTermVariable k → IsNamedKind s (rename_entry (λ _. n) (record { var = v; kind = k })).kind
entry-named s n v (region_variable r) h = absurd h
entry-named s n v (type_variable k) h = tt
entry-named s n v const_variable h = tt

-- the kind that is made of what was built for a form is of the form
pub built-kind : (terms : Terms) (e : List Told) (f : CallForm) (b : Built) → IsKindForm f → IsBuilt terms e (form_children f) (form_vars f) (form_text f) b
    → IsKindOf terms e f (built_shape f b)
unfolding fill
built-kind terms e (param s i text) b k h = param-kind terms e s i b.name.number text h.text.in_range h.text.means
built-kind terms e (bound s d x) b k h =
    bound-kind terms e s d (rename_entry (λ _. b.name.number) x) x (entry-named (size terms.rows) b.name.number x.var x.kind k) (entry-again (name_of (meaning terms.rows)) b.name.number x.var x.kind k)
built-kind terms e (plain l ps) b k h =
    plain-kind terms e l ps (rename_label (λ _. b.name.number) l) (parts_shapes b.parts) h.parts
    (label-named (size terms.rows) b.name.number l k) (label-again (name_of (meaning terms.rows)) b.name.number l k)
built-kind terms e (under l vs m ps) b k h = record {
  parts = (label-named (size terms.rows) b.name.number l k.0, ((h.vars.in_range, (refl, record-named terms b m k.1 h.text, h.parts.parts)), tt));
  means = rw (label-again (name_of (meaning terms.rows)) b.name.number l k.0, record-again terms b m k.1 h.text, h.vars.means, h.parts.means) refl;
  named = h.parts.named;
  deep = (λ d. absurd d, h.parts.shallow);
}
built-kind terms e (trait_object xs r) b k h = absurd k

-- no values
no-values : (rows : List Row) → HasValues rows tree.none
unfolding fill
no-values rows = record { shapes = shape.none; parts = tt; means = refl }

-- if a refusal for want of room says that something of what was to be built isn't there, it says so of the term
pub built-room : (rows : List Row) (e : List Told) (f : CallForm) (r : Refusal) → BuiltNeedsRoom rows e (form_children f) (form_vars f) (form_text f) r
    → FormNeedsRoom rows e f r
built-room rows e (param s i text) r h room short are v = h room tt tt are (no-values rows) tt (λ new. param-lacks rows s i text new are v)
built-room rows e (bound s d x) r h room short are v = h room tt tt are (no-values rows) tt tt
built-room rows e (plain l ps) r h room short are v = h room short tt are (in-term rows are l _ v) tt tt
built-room rows e (under l vs m ps) r h room short are v =
    let u = in-binder rows are vs _ (first-value rows _ _ (in-term rows are l _ v)) in
    h room short.1 short.0 are (in-node rows are (record_label m) _ u.body).children u.vars (record-lacks rows are m _ u.body)
built-room rows e (trait_object xs c) r h room short are v = h room tt tt are (no-values rows) tt tt

-- the positions that a form names are those of its children
form-named : (e : List Told) (f : CallForm) → AreTerms e (form_positions f) → AreTerms e (parts_positions (form_children f))
form-named e (param s i text) h = tt
form-named e (bound s d x) h = tt
form-named e (plain l ps) h = h
form-named e (under l vs m ps) h = h
form-named e (trait_object xs r) h = tt

-- a form is too deep if its children are
form-deep : (f : CallForm) → ArePartsTooDeep (form_children f) → IsFormTooDeep f
form-deep (param s i text) h = h
form-deep (bound s d x) h = absurd h
form-deep (plain l ps) h = h
form-deep (under l vs m ps) h = h
form-deep (trait_object xs r) h = absurd h

-- what a call for an existential predicate builds, as a form; ids has the number of the id at each position
abbrev pub existential_whole : (ℕ → ℕ) → ExistentialCall → CallForm
existential_whole ids x = under existential_label (map (variable_kind ids) x.vars.items)
    (existential_record ids x.kind).label (existential_record ids x.kind).parts

-- records of one shape have one shape under a binder too
pub under-binder : (l : Label ℕ) (vars : ℕ) {s t : Shape} → s ≡ t
    → shape.term l (shape.also (shape.binder vars s) shape.none) ≡ shape.term l (shape.also (shape.binder vars t) shape.none)
under-binder l vars e = ap (λ (x : Shape). shape.term l (shape.also (shape.binder vars x) shape.none)) e

-- the kind of this shape is of the form, if it is made of what was built
pub made-kind : (terms : Terms) (e : List Told) (f : CallForm) (ps : List Part) (vs : Option (List (VarKind Name))) (text : Option Name) (b : Built) (s : Shape)
    → IsBuilt terms e ps vs text b → ps ≡ form_children f → vs ≡ form_vars f → text ≡ form_text f → IsKindForm f → s ≡ built_shape f b → IsKindOf terms e f s
made-kind terms e f ps vs text b s h p v t k is = rw (is) (built-kind terms e f b k (rw (← p, ← v, ← t) h))

-- what was refused for want of room says so of the form
pub made-room : (rows : List Row) (e : List Told) (f : CallForm) (ps : List Part) (vs : Option (List (VarKind Name))) (text : Option Name) (r : Refusal)
    → BuiltNeedsRoom rows e ps vs text r → ps ≡ form_children f → vs ≡ form_vars f → text ≡ form_text f → FormNeedsRoom rows e f r
made-room rows e f ps vs text r h p v t = built-room rows e f r (rw (← p, ← v, ← t) h)

-- why the children were not built is why the form was not
pub made-unbuilt : (P : Type 0) (e : List Told) (f : CallForm) (ps : List Part) (r : Refusal) → ps ≡ form_children f
    → IsUnbuiltPart P e (parts_positions ps) (ArePartsTooDeep ps) r → IsUnbuiltPart P e (form_positions f) (IsFormTooDeep f) r
made-unbuilt P e f ps r p h =
    IsUnbuiltPart-weaker P e e (parts_positions ps) (form_positions f) (ArePartsTooDeep ps) (IsFormTooDeep f) r
    (λ a. rw (p) (form-named e f a)) (λ d. form-deep f (rw (p) at d)) h

-- a type that is no trait object is of a kind's form
pub no-object : (ids : ℕ → ℕ) (k : TyCall) → ((xs : Vec ExistentialCall Global) (r : RegionCall) → k ≡ ty.Dynamic xs r → ⊥) → IsKindForm (ty_call_form ids k)
no-object ids (ty.Dynamic xs r) f = f xs r refl
no-object ids (ty.FnPtr vars ts h) f = (tt, tt)
no-object ids (ty.UnsafeBinder vars t) f = (tt, tt)
no-object ids _ f = tt
