-- The visit of kinds that aren't stored, from the visit of their contents.
use Rattle.std.proofs.Common.{◌≡◌, ℕ, Option, Some, None, refl}
use Rattle.tt_kinds.specs.Label.{Name, Sort, Entry, RecordLabel, Label, type_sort, const_sort, type_label, const_label}
use Rattle.tt_kinds.specs.Label.{record_label, bare_type_record, bare_const_record, error_of_type, error_of_const}
use Rattle.tt_kinds.specs.Tree as tree
use Rattle.tt_kinds.specs.Tree.{Depth, Tree}
use Rattle.tt_kinds.specs.Shape as shape
use Rattle.tt_kinds.specs.Shape.{Meaning, fill, fill_all, name_of}
use Rattle.tt_kinds.specs.Kinds.{Form, param, bound, plain, under, relabelled, form_shape, parts_shapes, kind_shape}
use Rattle.tt_kinds.specs.Kinds.{ty_form, const_form}
use Rattle.tt_kinds.specs.declared.parts.Kind.TheVariants as kind
use Rattle.tt_kinds.specs.declared.ty_kind.TyKind.{TyKind}
use Rattle.tt_kinds.specs.declared.const_kind.ConstKind.{ConstKind}
use Rattle.tt_visit.specs.Root.{error_of}
use Rattle.tt_visit.specs.Visit.{Visits, Tells, TellingBreaks, GoesOver, GoesInside, GoesOverAll, node_seen, token_seen}
use Rattle.tt_visit.specs.Visit.{term_seen, param_seen, bound_seen, all_seen, one_seen, Breaks, BreaksInside, BreaksAll}
use Rattle.tt_visit.specs.Visit.{node_broke, token_broke, error_broke, term_inside_broke, first_broke}
use Rattle.tt_kinds.specs.Bare.{token_shapes, bare_shape, bare_ty_shape, bare_const_shape}
use Rattle.tt_visit.proofs.VisitSteps.{error_of-rename, seen-append, broke-before, broke-after}

-- what was seen in a parameter, a variable and a term
module _ {M B : Type 0} (V : Visits M B) where
  inside-param : (s s' : M) (o : Sort) (i : ℕ) (name : Name) → GoesInside V s (tree.param o i name) s' → s' ≡ s
  inside-param s s' o i name param_seen = refl

  inside-bound : (s s' : M) (o : Sort) (d : Depth) (e : Entry Name) → GoesInside V s (tree.bound o d e) s' → s' ≡ s
  inside-bound s s' o d e bound_seen = refl

  -- a token as a child
  token-seen : (f : Meaning) (e : Option ℕ) (s s' : M) → Tells V s e s' → GoesOverAll V s (fill_all f (token_shapes e)) s'
  unfolding fill_all
  token-seen f None s s' h = rw h all_seen
  token-seen f (Some e) s s' h = one_seen (token_seen h) all_seen

  token-broke : (f : Meaning) (e : Option ℕ) (s s' : M) (b : B) → TellingBreaks V s e b s' → BreaksAll V s (fill_all f (token_shapes e)) b s'
  unfolding fill_all
  token-broke f None s s' b h = absurd h
  token-broke f (Some e) s s' b h = first_broke (token_broke h)

  -- a token, and then what stands in a term
  inside-term : (f : Meaning) (l : Label ℕ) (ss : shape.Shapes) (s s' : M) → GoesInside V s (fill f (shape.term l ss)) s'
      → GoesOverAll V s (fill_all f (shape.append (token_shapes (error_of l)) ss)) s'
  unfolding fill fill_all
  inside-term f l ss s s' (term_seen {s1 = s1} e all) =
      seen-append V f (token_shapes (error_of l)) ss s s1 s' (token-seen f (error_of l) s s1 (rw (← error_of-rename (name_of f) l) e)) all

  broke-term : (f : Meaning) (l : Label ℕ) (ss : shape.Shapes) (s s' : M) (b : B) → BreaksInside V s (fill f (shape.term l ss)) b s'
      → BreaksAll V s (fill_all f (shape.append (token_shapes (error_of l)) ss)) b s'
  unfolding fill fill_all
  broke-term f l ss s s' b (error_broke e) =
      broke-before V f (token_shapes (error_of l)) ss s s' b (token-broke f (error_of l) s s' b (rw (← error_of-rename (name_of f) l) e))
  broke-term f l ss s s' b (term_inside_broke {s1 = s1} e all) =
      broke-after V f (token_shapes (error_of l)) ss s s1 s' b (token-seen f (error_of l) s s1 (rw (← error_of-rename (name_of f) l) e)) all

-- a kind of one table: the labels of its rows and of its plain nodes, and what tells of an error
module _ {L : Type 0} (sort : Sort) (label : L → Label ℕ) (record_of : L → RecordLabel ℕ) (token_of : L → Option ℕ)
    (tells : (l : L) → error_of (label l) ≡ token_of l) {M B : Type 0} (V : Visits M B) (f : Meaning) where
  form-seen : (x : Form L) (s s' : M) → GoesInside V s (fill f (form_shape sort (relabelled label x))) s' → GoesOver V s (fill f (bare_shape sort record_of token_of x)) s'
  unfolding fill fill_all
  form-seen (param i name) s s' h = node_seen refl (rw (inside-param V s s' _ _ _ h) all_seen)
  form-seen (bound d e) s s' h = node_seen refl (rw (inside-bound V s s' _ _ _ h) all_seen)
  form-seen (plain l p) s s' h = let inside = inside-term V f (label l) (parts_shapes p) s s' h in node_seen refl (rw (tells l) at inside)
  form-seen (under l vars m p) s s' h =
      let inside = inside-term V f (label l) (shape.also (shape.binder vars.number (shape.node (record_label m) (parts_shapes p))) shape.none) s s' h in node_seen refl (rw (tells l) at inside)

  form-broke : (x : Form L) (s s' : M) (b : B) → BreaksInside V s (fill f (form_shape sort (relabelled label x))) b s' → Breaks V s (fill f (bare_shape sort record_of token_of x)) b s'
  unfolding fill fill_all
  form-broke (param i name) s s' b h = elim h [ ]
  form-broke (bound d e) s s' b h = elim h [ ]
  form-broke (plain l p) s s' b h = let inside = broke-term V f (label l) (parts_shapes p) s s' b h in node_broke refl (rw (tells l) at inside)
  form-broke (under l vars m p) s s' b h =
      let inside = broke-term V f (label l) (shape.also (shape.binder vars.number (shape.node (record_label m) (parts_shapes p))) shape.none) s s' b h in node_broke refl (rw (tells l) at inside)

module _ {M B : Type 0} (V : Visits M B) (f : Meaning) where
  -- a visitor that goes over the contents of a kind of type goes over the kind's plain node
  pub ty-seen : (k : TyKind) (s s' : M) → GoesInside V s (fill f (kind_shape (kind.Ty k))) s' → GoesOver V s (fill f (bare_ty_shape k)) s'
  ty-seen k s s' h = form-seen type_sort type_label bare_type_record error_of_type (λ l. refl) V f (ty_form k) s s' h

  -- if the visit of the contents of a kind of type breaks, so does the visit of the kind's plain node
  pub ty-broke : (k : TyKind) (s s' : M) (b : B) → BreaksInside V s (fill f (kind_shape (kind.Ty k))) b s' → Breaks V s (fill f (bare_ty_shape k)) b s'
  ty-broke k s s' b h = form-broke type_sort type_label bare_type_record error_of_type (λ l. refl) V f (ty_form k) s s' b h

  -- a visitor that goes over the contents of a kind of constant goes over the kind's plain node
  pub const-seen : (k : ConstKind) (s s' : M) → GoesInside V s (fill f (kind_shape (kind.Const k))) s' → GoesOver V s (fill f (bare_const_shape k)) s'
  const-seen k s s' h = form-seen const_sort const_label bare_const_record error_of_const (λ l. refl) V f (const_form k) s s' h

  -- if the visit of the contents of a kind of constant breaks, so does the visit of the kind's plain node
  pub const-broke : (k : ConstKind) (s s' : M) (b : B) → BreaksInside V s (fill f (kind_shape (kind.Const k))) b s' → Breaks V s (fill f (bare_const_shape k)) b s'
  const-broke k s s' b h = form-broke const_sort const_label bare_const_record error_of_const (λ l. refl) V f (const_form k) s s' b h
