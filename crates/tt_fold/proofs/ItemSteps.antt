-- What the walk asks of a term or a list, and what it builds of one: what the calls promise makes what the whole
-- promises.
use Rattle.std.proofs.Common.{◌≡◌, ℕ, ◌<◌, ◌^◌, [], ◌∷◌, length, drop, All, Result, Ok, Err, Option, Some, None, refl}
use Rattle.std.proofs.Common.{ap, sym, ◌∙◌, ◌⊎◌, inl, inr, arith, get_or, ◌≤◌}
use Rattle.std.proofs.Common.{List as Listed}
use Rattle.std.proofs.lemmas.Result.{MatchResult-weaker}
use Rattle.std.proofs.lemmas.Option.{same_Some, none-some}
use Rattle.std.specs.Prelude.{MatchResult, IsTrue, IsFalse}
use Rattle.tt_kinds.specs.Label.{Sort, Label}
use Rattle.tt_kinds.specs.Tree.{Depth, Tree}
use Rattle.tt_kinds.specs.Parts.{child_sort, AreLike, IsItem}
use Rattle.tt_kinds.specs.TermTable.{has_items, term_table}
use Rattle.tt_kinds.specs.Shape.{fill, append, HasParts}
use Rattle.tt_kinds.specs.Kinds.{Form, param, bound, plain, under, form_binder, form_parts, form_shape, refilled}
use Rattle.tt_kinds.specs.Kinds.{kind_form, kind_sort, kind_shape, kind_table, handle_shape}
use Rattle.tt_kinds.specs.Kinds.{child_shapes, parts_shapes, children_shapes, items_tree}
use Rattle.tt_kinds.specs.Handle.{BoundVarKinds}
use Rattle.tt_kinds.specs.declared.handle.AnyHandle.{AnyHandle}
use Rattle.tt_kinds.specs.declared.table.TermTable.{TermTable}
use Rattle.tt_kinds.specs.declared.table.TermTable.TheVariants as terms_of
use Rattle.tt_kinds.specs.declared.parts.Child.{Child}
use Rattle.tt_kinds.specs.declared.parts.Child.TheVariants as child
use Rattle.tt_kinds.specs.declared.parts.Kind.{Kind}
use Rattle.tt_kinds.specs.declared.parts.Parts.{Parts}
use Rattle.tt_interner.specs.Rows.{Row, size, meaning, Grows}
use Rattle.tt_interner.specs.Stored.{Terms, Extends}
use Rattle.tt_interner.specs.Children.{children_at}
use Rattle.tt_interner.specs.Nodes.{stored_kind}
use Rattle.tt_interner.proofs.Growth.{Extends-refl, Extends-trans, IsPart-grows, fill-grows, fill_all-grows}
use Rattle.tt_visit.specs.Frames.{present}
use Rattle.tt_visit.specs.Root.{root, table_root, hooked, unhooked, a_part}
use Rattle.tt_visit.proofs.VisitSteps.{root-meaning}
use Rattle.tt_fold.specs.Walk.{Hooks, Errors, IsTerm, replaced, kept, Fails, term_failed}
use Rattle.tt_fold.specs.Walk.{InsideFails}
use Rattle.tt_fold.specs.Counts.{Standing, stands}
use Rattle.tt_fold.specs.Steps.{Goes, IsPartOf, tree_in, vars_in, answer_of}
use Rattle.tt_fold.specs.Still.{IsAlone, EndsAt}
use Rattle.tt_fold.specs.Parts.{ArePartsOf, trees_in, children_trees, handle_tree, binder_in, HasHook}
use Rattle.tt_fold.specs.Parts.{IsInner, IsChildless, IsStepFor, IsStoredFor}
use Rattle.tt_fold.specs.Stack.{whole, binder_of, TakesAny, Asks, asks, passes, at_list, Opens, opens_bare}
use Rattle.tt_fold.specs.Stack.{opens_binder, Leaves, leaves_bare, leaves_binder, EnterFails, enter_fails, LeaveFails}
use Rattle.tt_fold.specs.Stack.{leave_fails, rebuilds, RebuildFails, not_left, not_rebuilt, Finishes, finishes, unasked}
use Rattle.tt_fold.specs.Stack.{FinishFails}
use Rattle.tt_fold.specs.Going.{form_outline, outline_of, term_parts_at, walked_parts, parts_of, children_in}
use Rattle.tt_fold.specs.Going.{IsTermFrame, IsFoldFrame, AreAlike, Holds, IsNewFrame, IsAsked}
use Rattle.tt_fold.specs.Going.{IsOpen, IsBegun, IsRebuilt, left_of}
use Rattle.tt_fold.specs.declared.folder.Step.{Step}
use Rattle.tt_fold.specs.declared.folder.Step.TheVariants as step
use Rattle.tt_fold.specs.declared.stack.Begun.TheVariants as begun
use Rattle.tt_fold.specs.declared.stack.Frame.{Frame}
use Rattle.tt_fold.proofs.PartLaws.{stored_tree, in_range, children-one}
use Rattle.tt_fold.proofs.WalkLaws.{walks_leaf}
use Rattle.tt_fold.proofs.StackLaws.{enter_fails_inside, asks_fails, leaf_fails, leaf_walks}
use Rattle.tt_fold.proofs.FrameLaws.{alike_all, alike_length}
use Rattle.tt_fold.proofs.FrameLaws.{walked_shapes, walked_few}
use Rattle.tt_fold.proofs.FrameLaws.{form_outline-grows, outline-grows, frame-grows}
use Rattle.tt_fold.proofs.FormLaws.{form-labels, form-binder}

-- an error of a call that gives nothing else
abbrev pub unit_err : {E : Type 0} → E → Result (Unit {0}) E
unit_err e = Err e

-- what a form makes of its children
pub form_whole : (rows : Listed Row) (o : Sort) (f : Form (Label ℕ)) → IsInner f → tree_in rows (form_shape o f) ≡ whole (form_outline rows f) (trees_in rows (parts_shapes (form_parts f)))
unfolding fill
form_whole rows o (param i name) is = absurd is
form_whole rows o (bound d e) is = absurd is
form_whole rows o (plain l p) is = refl
form_whole rows o (under l vars m p) is = refl

-- a form with children or a binder may have any children
pub form_any : (rows : Listed Row) (f : Form (Label ℕ)) → IsInner f → TakesAny (form_outline rows f)
form_any rows (param i name) is = absurd is
form_any rows (bound d e) is = absurd is
form_any rows (plain l p) is = is _
form_any rows (under l vars m p) is = (is _, λ ts us h. h)

-- the binder of a form is the binder of its outline
pub form_binder_of : (rows : Listed Row) (f : Form (Label ℕ)) → binder_of (form_outline rows f) ≡ binder_in rows (form_binder f)
form_binder_of rows (param i name) = refl
form_binder_of rows (bound d e) = refl
form_binder_of rows (plain l p) = refl
form_binder_of rows (under l vars m p) = refl

-- how a hook treats a stored term or list
pub item_root : (rows : Listed Row) (h : AnyHandle) → IsPartOf rows (handle_shape h) → root (handle_tree rows h) ≡ table_root (term_table h.table)
item_root rows h part = rw (stored_tree rows (term_table h.table) h.number) (root-meaning rows (term_table h.table) h.number (in_range rows (term_table h.table) h.number part))

-- a term at which a hook is called
pub hooked_is : (rows : Listed Row) (h : AnyHandle) → HasHook h → IsPartOf rows (handle_shape h) → IsTerm (handle_tree rows h)
hooked_is rows h hook part = item_root rows h part ∙ hook

-- a table without a hook is of terms that are passed, or of lists
unhooked_root : (t : TermTable) → (table_root (term_table t) ≡ hooked → ⊥) → (table_root (term_table t) ≡ unhooked) ⊎ (table_root (term_table t) ≡ a_part)
unhooked_root terms_of.Types never = absurd (never refl)
unhooked_root terms_of.Consts never = absurd (never refl)
unhooked_root terms_of.Patterns never = inl refl
unhooked_root terms_of.Predicates never = absurd (never refl)
unhooked_root terms_of.Existentials never = inl refl
unhooked_root terms_of.ClauseLists never = absurd (never refl)
unhooked_root terms_of.TypeLists never = inr refl
unhooked_root terms_of.ConstLists never = inr refl
unhooked_root terms_of.ArgLists never = inr refl
unhooked_root terms_of.PatternLists never = inr refl
unhooked_root terms_of.ExistentialLists never = inr refl

unhooked_asks : {M E : Type 0} {H : Hooks M E} {s : M} (rows : Listed Row) (h : AnyHandle) → IsPartOf rows (handle_shape h) → (HasHook h → ⊥) → Asks H (handle_tree rows h) s s
unhooked_asks {H} {s} rows h part never = by (unhooked_root h.table never)
  where
    by : (table_root (term_table h.table) ≡ unhooked) ⊎ (table_root (term_table h.table) ≡ a_part) → Asks H (handle_tree rows h) s s
    by (inl e) = passes (item_root rows h part ∙ e)
    by (inr e) = at_list (item_root rows h part ∙ e)

-- what each answer of a hook makes
hook_answers : {M E : Type 0} (H : Hooks M E) {s s' : M} (rows : Listed Row) {t : Tree Depth} (h : AnyHandle) (a : Step AnyHandle) → IsTerm t → IsStepFor h rows a
    → H.on_term s t (answer_of handle_shape rows a) s' → IsAsked H t h rows a s s'
hook_answers H rows h (step.Replace y) is for_h k = (for_h, replaced is k)
hook_answers H rows h step.Keep is for_h k = kept is k
hook_answers H rows h step.Descend is for_h k = asks is k

-- where the hook doesn't answer `descend`, the walk isn't inside
pub never_descends : {M E : Type 0} {H : Hooks M E} {touches_nothing : Tree Depth → Type 0} {s m' : M} (rows : Listed Row) (h : AnyHandle) → IsPartOf rows (handle_shape h)
    → IsAlone (handle_shape h) → EndsAt H touches_nothing s (handle_tree rows h) → Asks H (handle_tree rows h) s m' → ⊥
never_descends rows h part alone ends (asks is hook) = ends.ends _ hook
never_descends rows h part alone ends (passes is) = (let k : unhooked ≡ hooked = sym is ∙ hooked_is rows h alone part in cc)
never_descends rows h part alone ends (at_list is) = (let k : a_part ≡ hooked = sym is ∙ hooked_is rows h alone part in cc)

-- a list before its children
pub list_opened : {rows : Listed Row} {count : ℕ} (l : AnyHandle) → IsPartOf rows (handle_shape l) → IsTrue (has_items l.table)
    → count ≡ length (children_at rows l)
    → meaning rows (term_table l.table) l.number ≡ items_tree l.table (children_trees rows (children_at rows l))
    → ArePartsOf rows (children_shapes (children_at rows l)) → All (λ x. IsItem l.table (child_sort x)) (children_at rows l) → count < 2 ^ 64
    → IsNewFrame rows l (record { handle = l; count = count; next = 0 })
list_opened {rows} l part is counted means parts fit fits = record {
  is = record {
    part = part;
    tree = rw is (stored_tree rows (term_table l.table) l.number ∙ means);
    made = rw is (record { in_range = in_range rows (term_table l.table) l.number part; parts = parts; fit = fit; counted = counted; fits = fits });
  };
  same = refl;
  start = refl;
}

-- a term before its children
term_frame : {rows : Listed Row} {count : ℕ} (h : AnyHandle) → IsPartOf rows (handle_shape h) → IsFalse (has_items h.table) → IsTermFrame rows h count
    → meaning rows (term_table h.table) h.number ≡ fill (meaning rows) (kind_shape (stored_kind rows h))
    → IsFoldFrame rows (record { handle = h; count = count; next = 0 })
term_frame {rows} h part is t means =
    let k = stored_kind rows h in
    let p = form_parts (kind_form k) in
    let kids = ap (trees_in rows) (walked_shapes p) in
    let tree : handle_tree rows h ≡ whole (form_outline rows (kind_form k)) (children_trees rows (walked_parts p)) =
    rw kids (stored_tree rows (term_table h.table) h.number ∙ means ∙ form_whole rows (kind_sort k) (kind_form k) t.inner) in
    record { part = part; tree = rw is tree; made = rw is t }

-- what the interner says of a term
pub term_made : {rows : Listed Row} {count : ℕ} (h : AnyHandle) → IsPartOf rows (handle_shape h)
    → kind_table (stored_kind rows h) ≡ h.table → HasParts (size rows) (kind_shape (stored_kind rows h)) → IsInner (kind_form (stored_kind rows h))
    → count ≡ length (walked_parts (term_parts_at rows h))
    → IsTermFrame rows h count
term_made {rows} h part table named inner counted = record {
  in_range = in_range rows (term_table h.table) h.number part;
  table = table;
  named = named;
  inner = inner;
  counted = counted;
}

outline_is : (rows : Listed Row) (h : AnyHandle) → IsFalse (has_items h.table) → outline_of rows h ≡ form_outline rows (kind_form (stored_kind rows h))
outline_is rows h is = rw is refl

module _ {M E S : Type 0} {owned : Listed Row → S → Type 0} {means : Listed Row → S → M} {H : Hooks (Standing M) E} {errors : Errors E} where
  -- binders
  pub enter_bare : {terms : Terms} {s : S} {b : Option BoundVarKinds} → b ≡ None → owned terms.rows s
      → Goes owned means (λ _ _ m m'. Opens H (binder_in terms.rows b) m m') (EnterFails H errors (binder_in terms.rows b)) terms s (Ok (tt {0})) terms s
  enter_bare {terms} same o = rw same (record { extends = Extends-refl terms; is_owned = o; outcome = opens_bare })

  -- the binder of a term is entered, or not, as the hook before it says
  pub enter_binder : {terms terms1 : Terms} {s s1 : S} {b : Option BoundVarKinds} {vars : BoundVarKinds} {r : Result (Unit {0}) E} → b ≡ Some vars → Extends terms terms1 → owned terms1.rows s1
      → MatchResult r (λ _. H.enter (stands means terms s) (vars_in terms.rows vars) (stands means terms1 s1)) (λ e. H.enter_fails errors.unbuilt (stands means terms s) (vars_in terms.rows vars) e (stands means terms1 s1))
      → Goes owned means (λ _ _ m m'. Opens H (binder_in terms.rows b) m m') (EnterFails H errors (binder_in terms.rows b)) terms s r terms1 s1
  enter_binder {r} same extends o h =
      rw same (record { extends = extends; is_owned = o; outcome = MatchResult-weaker r h (λ y k. opens_binder k) (λ e k. enter_fails k) })

  -- a term without a binder has none to be left
  pub leave_bare : {terms : Terms} {s : S} {b : Option BoundVarKinds} → b ≡ None → owned terms.rows s
      → Goes owned means (λ _ _ m m'. Leaves H (binder_in terms.rows b) m m') (LeaveFails H errors (binder_in terms.rows b)) terms s (Ok (tt {0})) terms s
  leave_bare {terms} same o = rw same (record { extends = Extends-refl terms; is_owned = o; outcome = leaves_bare })

  -- the binder of a term is left, or not, as the hook after it says
  pub leave_binder : {terms terms1 : Terms} {s s1 : S} {b : Option BoundVarKinds} {vars : BoundVarKinds} {r : Result (Unit {0}) E} → b ≡ Some vars → Extends terms terms1 → owned terms1.rows s1
      → MatchResult r (λ _. H.leave (stands means terms s) (vars_in terms.rows vars) (stands means terms1 s1)) (λ e. H.leave_fails errors.unbuilt (stands means terms s) (vars_in terms.rows vars) e (stands means terms1 s1))
      → Goes owned means (λ _ _ m m'. Leaves H (binder_in terms.rows b) m m') (LeaveFails H errors (binder_in terms.rows b)) terms s r terms1 s1
  leave_binder {r} same extends o h =
      rw same (record { extends = extends; is_owned = o; outcome = MatchResult-weaker r h (λ y k. leaves_binder k) (λ e k. leave_fails k) })

  -- the items of a list
  pub open_list : {terms : Terms} {s : S} (l : AnyHandle) (f : Frame) → IsTrue (has_items l.table) → owned terms.rows s → IsNewFrame terms.rows l f
      → Goes owned means (IsOpen H (handle_tree terms.rows l) l) (λ m e m'. InsideFails H errors m (handle_tree terms.rows l) e m') terms s (Ok (Some f)) terms s
  open_list {terms} l f items o is = record { extends = Extends-refl terms; is_owned = o; outcome = (is, rw items tt, rw items opens_bare) }

  -- the contents of a term
  pub open_leaf : {terms : Terms} {s : S} (h : AnyHandle) → owned terms.rows s
      → meaning terms.rows (term_table h.table) h.number ≡ fill (meaning terms.rows) (kind_shape (stored_kind terms.rows h))
      → IsChildless (form_binder (kind_form (stored_kind terms.rows h))) (form_parts (kind_form (stored_kind terms.rows h)))
      → Goes owned means (IsOpen H (handle_tree terms.rows h) h) (λ m e m'. InsideFails H errors m (handle_tree terms.rows h) e m') terms s (Ok None) terms s
  open_leaf {terms} h o is leaf =
      let tree = stored_tree terms.rows (term_table h.table) h.number ∙ is in
      record { extends = Extends-refl terms; is_owned = o; outcome = rw tree (walks_leaf H _ terms.rows (stored_kind terms.rows h) leaf) }

  -- the contents of a term aren't begun if its binder isn't entered
  pub open_fails : {terms terms1 : Terms} {s s1 : S} {e : E} {count : ℕ} (h : AnyHandle) (b : Option BoundVarKinds) → IsPartOf terms.rows (handle_shape h) → IsFalse (has_items h.table)
      → b ≡ form_binder (kind_form (stored_kind terms.rows h)) → IsTermFrame terms.rows h count
      → meaning terms.rows (term_table h.table) h.number ≡ fill (meaning terms.rows) (kind_shape (stored_kind terms.rows h))
      → Goes owned means (λ _ _ m m'. Opens H (binder_in terms.rows b) m m') (EnterFails H errors (binder_in terms.rows b)) terms s (unit_err e) terms1 s1
      → Goes owned means (IsOpen H (handle_tree terms.rows h) h) (λ m x m'. InsideFails H errors m (handle_tree terms.rows h) x m') terms s (Err e) terms1 s1
  open_fails {terms} {count} h b part is vars_are t means_is d =
      let f = kind_form (stored_kind terms.rows h) in
      let frame = term_frame h part is t means_is in
      let tree = frame.tree ∙ ap (λ o. whole o (children_trees terms.rows (children_in terms.rows (record { handle = h; count = count; next = 0 })))) (outline_is terms.rows h is) in
      let k = rw (vars_are, ← form_binder_of terms.rows f) at d.outcome in
      record { extends = d.extends; is_owned = d.is_owned; outcome = rw tree (enter_fails_inside (form_outline terms.rows f) _ (form_any terms.rows f t.inner) k) }

  -- once a term's binder is entered, its contents are begun with a frame of its children
  pub open_ok : {terms terms1 : Terms} {s s1 : S} {count : ℕ} (h : AnyHandle) (b : Option BoundVarKinds) → IsPartOf terms.rows (handle_shape h) → IsFalse (has_items h.table)
      → b ≡ form_binder (kind_form (stored_kind terms.rows h)) → IsTermFrame terms.rows h count
      → meaning terms.rows (term_table h.table) h.number ≡ fill (meaning terms.rows) (kind_shape (stored_kind terms.rows h))
      → Goes owned means (λ _ _ m m'. Opens H (binder_in terms.rows b) m m') (EnterFails H errors (binder_in terms.rows b)) terms s (Ok (tt {0})) terms1 s1
      → Goes owned means (IsOpen H (handle_tree terms.rows h) h) (λ m x m'. InsideFails H errors m (handle_tree terms.rows h) x m') terms s
      (Ok (Some (record { handle = h; count = count; next = 0 }))) terms1 s1
  open_ok {terms} {terms1} h b part is vars_are t means_is d =
      let f = kind_form (stored_kind terms.rows h) in
      let frame = term_frame h part is t means_is in
      let before = outline_is terms.rows h is in
      let after = outline-grows d.extends.rows frame ∙ before in
      let k = rw (vars_are, ← form_binder_of terms.rows f) at d.outcome in
      record {
        extends = d.extends;
        is_owned = d.is_owned;
        outcome = (record { is = frame-grows d.extends.rows frame; same = refl; start = refl }, rw after (form_any terms.rows f t.inner), rw after k);
      }

  -- the hook at a term
  pub ask_none : {terms : Terms} {s : S} (h : AnyHandle) → IsPartOf terms.rows (handle_shape h) → (HasHook h → ⊥) → owned terms.rows s
      → Goes owned means (IsAsked H (handle_tree terms.rows h) h) (λ m e m'. Fails H errors m (handle_tree terms.rows h) e m') terms s (Ok step.Descend) terms s
  ask_none {terms} h part never o = record { extends = Extends-refl terms; is_owned = o; outcome = unhooked_asks terms.rows h part never }

  -- the hook's answer is the answer of the walk
  pub ask_hook : {terms terms1 : Terms} {s s1 : S} {r : Result (Step AnyHandle) E} (h : AnyHandle) → IsPartOf terms.rows (handle_shape h) → HasHook h
      → Goes owned means (λ rows a m m'. IsStepFor h rows a × H.on_term m (handle_tree terms.rows h) (answer_of handle_shape rows a) m')
      (λ m e m'. H.term_fails errors.unbuilt m (handle_tree terms.rows h) e m') terms s r terms1 s1
      → Goes owned means (IsAsked H (handle_tree terms.rows h) h) (λ m e m'. Fails H errors m (handle_tree terms.rows h) e m') terms s r terms1 s1
  ask_hook {terms} {terms1} {r} h part hook d =
      let is = hooked_is terms.rows h hook part in
      record { extends = d.extends; is_owned = d.is_owned; outcome = MatchResult-weaker r d.outcome (λ a k. hook_answers H terms1.rows h a is k.0 k.1) (λ e k. term_failed is k) }

  -- the result of the hook after a term is the result of the walk
  pub finish_hook : {terms terms1 : Terms} {s s1 : S} (q : AnyHandle) {r : Result AnyHandle E} (h : AnyHandle) → IsPartOf terms.rows (handle_shape h) → HasHook h
      → Goes owned means (λ rows y m m'. IsStoredFor h rows y × H.after_term m (handle_tree terms.rows h) (handle_tree terms.rows q) (handle_tree rows y) m')
      (λ m e m'. H.after_fails errors.unbuilt m (handle_tree terms.rows h) (handle_tree terms.rows q) e m') terms s r terms1 s1
      → Goes owned means
      (λ rows y m m'. IsStoredFor h rows y × Finishes H (handle_tree terms.rows h) (handle_tree terms.rows q) m (handle_tree rows y) m')
      (FinishFails H errors (handle_tree terms.rows h) (handle_tree terms.rows q)) terms s r terms1 s1
  finish_hook {terms} q {r} h part hook d =
      let is = hooked_is terms.rows h hook part in
      record { extends = d.extends; is_owned = d.is_owned; outcome = MatchResult-weaker r d.outcome (λ y k. (k.0, finishes is k.1)) (λ e k. record { is = is; failed = k }) }

  -- a list, or a term without a hook, is finished as it was built
  pub finish_none : {terms : Terms} {s : S} {r : AnyHandle} (h : AnyHandle) → IsPartOf terms.rows (handle_shape h) → (HasHook h → ⊥) → owned terms.rows s → IsStoredFor h terms.rows r
      → Goes owned means
      (λ rows y m m'. IsStoredFor h rows y × Finishes H (handle_tree terms.rows h) (handle_tree terms.rows r) m (handle_tree rows y) m')
      (FinishFails H errors (handle_tree terms.rows h) (handle_tree terms.rows r)) terms s (Ok r) terms s
  finish_none {terms} h part never o for_h =
      record { extends = Extends-refl terms; is_owned = o; outcome = (for_h, unasked (λ is. never (sym (item_root terms.rows h part) ∙ is))) }

  -- the begin of a term or a list
  pub begun_replaced : {terms terms1 : Terms} {s s1 : S} (h y : AnyHandle) → Goes owned means (IsAsked H (handle_tree terms.rows h) h) (λ m x m'. Fails H errors m (handle_tree terms.rows h) x m') terms s (Ok (step.Replace y)) terms1 s1
      → Goes owned means (IsBegun H (handle_tree terms.rows h) h) (λ m x m'. Fails H errors m (handle_tree terms.rows h) x m') terms s (Ok (begun.Done y)) terms1 s1
  begun_replaced h y d = record { extends = d.extends; is_owned = d.is_owned; outcome = d.outcome }

  -- a term whose hook keeps it is done, and comes to itself
  pub begun_kept : {terms terms1 : Terms} {s s1 : S} (h : AnyHandle) → IsPartOf terms.rows (handle_shape h) → Goes owned means (IsAsked H (handle_tree terms.rows h) h) (λ m x m'. Fails H errors m (handle_tree terms.rows h) x m') terms s (Ok step.Keep) terms1 s1
      → Goes owned means (IsBegun H (handle_tree terms.rows h) h) (λ m x m'. Fails H errors m (handle_tree terms.rows h) x m') terms s (Ok (begun.Done h)) terms1 s1
  begun_kept h part d = record {
    extends = d.extends;
    is_owned = d.is_owned;
    outcome = (
      record { owned = IsPart-grows _ _ d.extends.rows (handle_shape h) part; like = refl },
      rw (fill-grows _ _ d.extends.rows (handle_shape h) part) d.outcome,
    );
  }

  -- the fold of a term or a list fails if the hook answers to descend and the contents can't be begun
  pub begun_not_open : {terms terms1 terms2 : Terms} {s s1 s2 : S} {e : E} {other : Errors E} (h : AnyHandle) → IsPartOf terms.rows (handle_shape h)
      → Goes owned means (IsAsked H (handle_tree terms.rows h) h) (λ m x m'. Fails H other m (handle_tree terms.rows h) x m') terms s (Ok step.Descend) terms1 s1
      → Goes owned means (IsOpen H (handle_tree terms1.rows h) h) (λ m x m'. InsideFails H errors m (handle_tree terms1.rows h) x m') terms1 s1 (Err e) terms2 s2
      → Goes owned means (IsBegun H (handle_tree terms.rows h) h) (λ m x m'. Fails H errors m (handle_tree terms.rows h) x m') terms s (Err e) terms2 s2
  begun_not_open h part d o =
      let k = rw (fill-grows _ _ d.extends.rows (handle_shape h) part) at o.outcome in
      record { extends = Extends-trans d.extends o.extends; is_owned = o.is_owned; outcome = asks_fails d.outcome k }

  -- a term or a list is begun with the frame of its contents if the hook answers to descend
  pub begun_inside : {terms terms1 terms2 : Terms} {s s1 s2 : S} {other : Errors E} (h : AnyHandle) (f : Frame) → IsPartOf terms.rows (handle_shape h)
      → Goes owned means (IsAsked H (handle_tree terms.rows h) h) (λ m x m'. Fails H other m (handle_tree terms.rows h) x m') terms s (Ok step.Descend) terms1 s1
      → Goes owned means (IsOpen H (handle_tree terms1.rows h) h) (λ m x m'. InsideFails H errors m (handle_tree terms1.rows h) x m') terms1 s1 (Ok (Some f)) terms2 s2
      → Goes owned means (IsBegun H (handle_tree terms.rows h) h) (λ m x m'. Fails H errors m (handle_tree terms.rows h) x m') terms s (Ok (begun.Inside f)) terms2 s2
  begun_inside {terms} {terms2} h f part d o =
      let opened = o.outcome.0 in
      let all = Extends-trans d.extends o.extends in
      let before = sym (fill-grows _ _ all.rows (handle_shape h) part) in
      let at : handle_tree terms2.rows h ≡ whole (outline_of terms2.rows h) (children_trees terms2.rows (children_in terms2.rows f)) = ap (handle_tree terms2.rows) (sym opened.same) ∙ opened.is.tree ∙ ap (λ x. whole (outline_of terms2.rows x) (children_trees terms2.rows (children_in terms2.rows f))) opened.same in
      let left : left_of terms2.rows f ≡ children_trees terms2.rows (children_in terms2.rows f) = ap (λ n. children_trees terms2.rows (drop n (children_in terms2.rows f))) opened.start in
      record {
        extends = all;
        is_owned = o.is_owned;
        outcome = (opened, record { between = _; is_whole = before ∙ rw left at; any = o.outcome.1; asked = d.outcome; opened = o.outcome.2 });
      }

  -- the fold of a term without contents to begin fails if the hook after the term fails
  pub begun_finish_fails : {terms terms1 terms2 terms3 : Terms} {s s1 s2 s3 : S} {e : E} {other another : Errors E} (h : AnyHandle) → IsPartOf terms.rows (handle_shape h)
      → Goes owned means (IsAsked H (handle_tree terms.rows h) h) (λ m x m'. Fails H other m (handle_tree terms.rows h) x m') terms s (Ok step.Descend) terms1 s1
      → Goes owned means (IsOpen H (handle_tree terms1.rows h) h) (λ m x m'. InsideFails H another m (handle_tree terms1.rows h) x m') terms1 s1 (Ok None) terms2 s2
      → Goes owned means
      (λ rows y m m'. IsStoredFor h rows y × Finishes H (handle_tree terms2.rows h) (handle_tree terms2.rows h) m (handle_tree rows y) m')
      (FinishFails H errors (handle_tree terms2.rows h) (handle_tree terms2.rows h)) terms2 s2 (Err e) terms3 s3
      → Goes owned means (IsBegun H (handle_tree terms.rows h) h) (λ m x m'. Fails H errors m (handle_tree terms.rows h) x m') terms s (Err e) terms3 s3
  begun_finish_fails h part d o f =
      let k = rw (fill-grows _ _ d.extends.rows (handle_shape h) part) at o.outcome in
      let l = rw (fill-grows _ _ (Extends-trans d.extends o.extends).rows (handle_shape h) part) at f.outcome in
      record { extends = Extends-trans (Extends-trans d.extends o.extends) f.extends; is_owned = f.is_owned; outcome = leaf_fails d.outcome k l }

  -- a term without contents to begin is done, and comes to what the hook after the term returns
  pub begun_leaf : {terms terms1 terms2 terms3 : Terms} {s s1 s2 s3 : S} {y : AnyHandle} {other another : Errors E} (h : AnyHandle) → IsPartOf terms.rows (handle_shape h)
      → Goes owned means (IsAsked H (handle_tree terms.rows h) h) (λ m x m'. Fails H other m (handle_tree terms.rows h) x m') terms s (Ok step.Descend) terms1 s1
      → Goes owned means (IsOpen H (handle_tree terms1.rows h) h) (λ m x m'. InsideFails H another m (handle_tree terms1.rows h) x m') terms1 s1 (Ok None) terms2 s2
      → Goes owned means
      (λ rows z m m'. IsStoredFor h rows z × Finishes H (handle_tree terms2.rows h) (handle_tree terms2.rows h) m (handle_tree rows z) m')
      (FinishFails H errors (handle_tree terms2.rows h) (handle_tree terms2.rows h)) terms2 s2 (Ok y) terms3 s3
      → Goes owned means (IsBegun H (handle_tree terms.rows h) h) (λ m x m'. Fails H errors m (handle_tree terms.rows h) x m') terms s (Ok (begun.Done y)) terms3 s3
  begun_leaf h part d o f =
      let k = rw (fill-grows _ _ d.extends.rows (handle_shape h) part) at o.outcome in
      let l = rw (fill-grows _ _ (Extends-trans d.extends o.extends).rows (handle_shape h) part) at f.outcome.1 in
      record {
        extends = Extends-trans (Extends-trans d.extends o.extends) f.extends;
        is_owned = f.is_owned;
        outcome = (f.outcome.0, leaf_walks d.outcome k l);
      }

  -- a list without a hook is begun with the frame of its items
  pub begun_list : {terms : Terms} {s : S} (l : AnyHandle) (f : Frame) → IsPartOf terms.rows (handle_shape l) → IsTrue (has_items l.table) → (HasHook l → ⊥)
      → owned terms.rows s → IsNewFrame terms.rows l f
      → Goes owned means (IsBegun H (handle_tree terms.rows l) l) (λ m x m'. Fails H errors m (handle_tree terms.rows l) x m') terms s (Ok (begun.Inside f)) terms s
  begun_list l f part items never o new =
      begun_inside {other = errors} l f part (ask_none l part never o) (open_list l f items o new)

-- a form with other children
pub refilled_whole : (rows : Listed Row) (o : Sort) (q : Parts) (f : Form (Label ℕ)) → IsInner f → tree_in rows (form_shape o (refilled q f)) ≡ whole (form_outline rows f) (trees_in rows (parts_shapes q))
unfolding fill
refilled_whole rows o q (param i name) is = absurd is
refilled_whole rows o q (bound d e) is = absurd is
refilled_whole rows o q (plain l p) is = refl
refilled_whole rows o q (under l vars m p) is = refl

-- what came of a list's items may be in a list
pub list_fits : {rows : Listed Row} {f : Frame} {results : Listed Child} → Holds rows f results → IsTrue (has_items f.handle.table) → All (λ x. IsItem f.handle.table (child_sort x)) results
list_fits {rows} {f} {results} h is =
    let made = rw is at h.frame.made in
    let alike = rw is at h.alike in
    alike_all (λ x. IsItem f.handle.table (child_sort x)) results (children_at rows f.handle) (λ v c s p. rw s p) alike made.fit

-- at most two values have the shapes of the parts that they are
results_shapes : (vs : Listed Child) → length vs ≤ 2 → children_shapes vs ≡ parts_shapes (parts_of vs)
results_shapes [] few = refl
results_shapes (v ∷ []) few = refl
results_shapes (v ∷ w ∷ []) few = ap (append (child_shapes v)) (children-one w)
results_shapes (v ∷ w ∷ x ∷ vs) few = absurd (omega (arith, few))

alike_second : (c : Child) (vs : Listed Child) → AreAlike vs (present c) → length vs ≡ length (present c) → child_sort (get_or vs 0 child.Absent) ≡ child_sort c
alike_second child.Absent [] h all = refl
alike_second child.Absent (v ∷ vs) h all = absurd h
alike_second (child.Region r) [] h all = absurd (omega (arith, all))
alike_second (child.Region r) (v ∷ vs) h all = h.0
alike_second (child.Stored k) [] h all = absurd (omega (arith, all))
alike_second (child.Stored k) (v ∷ vs) h all = h.0

-- the values of all walked parts are as parts of the same sorts
alike_parts : (p : Parts) (vs : Listed Child) → AreAlike vs (walked_parts p) → length vs ≡ length (walked_parts p) → AreLike p (parts_of vs)
alike_parts p [] h all = absurd (omega (arith, all))
alike_parts p (v ∷ vs) h all = record { first = h.0; second = alike_second p.second vs h.1 (omega (arith, all)) }

-- a term's frame and what came of its children
module _ {rows : Listed Row} {f : Frame} {results : Listed Child} (h : Holds rows f results) (is : IsFalse (has_items f.handle.table)) where
  -- if the frame is no list's, its term is stored and has contents
  pub term_facts : IsTermFrame rows f.handle f.count
  term_facts = rw is at h.frame.made

  term_children : children_in rows f ≡ walked_parts (term_parts_at rows f.handle)
  term_children = rw is refl

  pub term_outline : outline_of rows f.handle ≡ form_outline rows (kind_form (stored_kind rows f.handle))
  term_outline = outline_is rows f.handle is

  pub term_binder : (b : Option BoundVarKinds) → b ≡ form_binder (kind_form (stored_kind rows f.handle)) → binder_of (outline_of rows f.handle) ≡ binder_in rows b
  term_binder b vars_are = ap binder_of term_outline ∙ form_binder_of rows (kind_form (stored_kind rows f.handle)) ∙ ap (binder_in rows) (sym vars_are)

  -- the results by their places
  pub term_like : (q : Parts) → q ≡ parts_of results → length results ≡ f.count → AreLike (form_parts (kind_form (stored_kind rows f.handle))) q
  term_like q are all =
      rw are (alike_parts (term_parts_at rows f.handle) results (rw term_children at h.alike) (all ∙ term_facts.counted))

  term_few : length results ≤ 2
  term_few = omega (arith, alike_length results (children_in rows f) h.alike, ap length term_children, walked_few (term_parts_at rows f.handle))

  -- the values that came of a term's children are in range as parts
  pub term_parts : (q : Parts) → q ≡ parts_of results → ArePartsOf rows (parts_shapes q)
  term_parts q are = rw (are, ← results_shapes results term_few) h.owned

  -- the term with other children, among more rows
  pub term_rebuilt : {new : Listed Row} (q : Parts) (j : Kind) → Grows rows new → q ≡ parts_of results
      → kind_form j ≡ refilled q (kind_form (stored_kind rows f.handle)) → kind_sort j ≡ kind_sort (stored_kind rows f.handle)
      → tree_in new (kind_shape j) ≡ whole (outline_of rows f.handle) (children_trees rows results)
  term_rebuilt {new} q j g are form sort_is =
      let k = stored_kind rows f.handle in
      let same_outline : form_outline new (kind_form k) ≡ form_outline rows (kind_form k) = form_outline-grows g (kind_form k) (form-labels rows new g (kind_sort k) (kind_form k) term_facts.named) (form-binder rows (kind_sort k) (kind_form k) term_facts.named) in
      let same_trees : trees_in new (parts_shapes q) ≡ children_trees rows results =
      fill_all-grows rows new g (parts_shapes q) (term_parts q are) ∙ ap (λ x. trees_in rows (parts_shapes x)) are
      ∙ ap (trees_in rows) (sym (results_shapes results term_few)) in
      ap (λ s. tree_in new (form_shape s (kind_form j))) sort_is ∙ ap (λ x. tree_in new (form_shape (kind_sort k) x)) form
      ∙ refilled_whole new (kind_sort k) q (kind_form k) term_facts.inner
      ∙ rw (same_outline, same_trees, term_outline) refl

module _ {M E S : Type 0} {owned : Listed Row → S → Type 0} {means : Listed Row → S → M} {H : Hooks (Standing M) E} {errors : Errors E} where
  -- a list is not stored
  pub rebuild_list_fails : {terms terms1 : Terms} {s : S} {e : E} {f : Frame} {results : Listed Child} → Holds terms.rows f results → owned terms.rows s → IsTrue (has_items f.handle.table)
      → terms1 ≡ terms → errors.unbuilt (items_tree f.handle.table (children_trees terms.rows results)) e
      → Goes owned means (IsRebuilt H terms.rows f results) (RebuildFails H errors (outline_of terms.rows f.handle) (children_trees terms.rows results)) terms s (Err e) terms1 s
  rebuild_list_fails {terms} h o is same b =
      let fit = rw is at h.wanted in
      rw same (record { extends = Extends-refl terms; is_owned = o; outcome = rw is (not_rebuilt fit leaves_bare b) })

  -- a frame's list is built of its values if the list of these items is stored
  pub rebuild_list_ok : {terms terms1 : Terms} {s : S} {f : Frame} {results : Listed Child} {y : AnyHandle} → Holds terms.rows f results → IsTrue (has_items f.handle.table)
      → Extends terms terms1 → owned terms1.rows s → stands means terms1 s ≡ stands means terms s
      → IsStoredFor f.handle terms1.rows y
      → handle_tree terms1.rows y ≡ items_tree f.handle.table (children_trees terms.rows results)
      → Goes owned means (IsRebuilt H terms.rows f results) (RebuildFails H errors (outline_of terms.rows f.handle) (children_trees terms.rows results)) terms s (Ok y) terms1 s
  rebuild_list_ok h is extends o still for_f tree =
      let fit = rw is at h.wanted in
      record { extends = extends; is_owned = o; outcome = (for_f, rw (is, tree, still) (rebuilds fit leaves_bare)) }

  -- the binder of a term is not left
  pub rebuild_not_left : {terms terms1 : Terms} {s s1 : S} {e : E} {f : Frame} {results : Listed Child} {b : Option BoundVarKinds} → Holds terms.rows f results → IsFalse (has_items f.handle.table)
      → b ≡ form_binder (kind_form (stored_kind terms.rows f.handle))
      → Goes owned means (λ _ _ m m'. Leaves H (binder_in terms.rows b) m m') (LeaveFails H errors (binder_in terms.rows b)) terms s (unit_err e) terms1 s1
      → Goes owned means (IsRebuilt H terms.rows f results) (RebuildFails H errors (outline_of terms.rows f.handle) (children_trees terms.rows results)) terms s (Err e) terms1 s1
  rebuild_not_left h is vars_are d =
      let k = rw (← term_binder h is _ vars_are) at d.outcome in
      record { extends = d.extends; is_owned = d.is_owned; outcome = not_left k }

  -- it is not stored
  pub rebuild_not_stored : {terms terms1 terms2 : Terms} {s s1 : S} {e : E} {f : Frame} {results : Listed Child} {other : Errors E} {b : Option BoundVarKinds} (q : Parts) (j : Kind)
      → Holds terms.rows f results → IsFalse (has_items f.handle.table)
      → b ≡ form_binder (kind_form (stored_kind terms.rows f.handle))
      → Goes owned means (λ _ _ m m'. Leaves H (binder_in terms.rows b) m m') (LeaveFails H other (binder_in terms.rows b)) terms s (Ok (tt {0})) terms1 s1
      → q ≡ parts_of results → kind_form j ≡ refilled q (kind_form (stored_kind terms.rows f.handle)) → kind_sort j ≡ kind_sort (stored_kind terms.rows f.handle)
      → terms2 ≡ terms1 → errors.unbuilt (tree_in terms1.rows (kind_shape j)) e
      → Goes owned means (IsRebuilt H terms.rows f results) (RebuildFails H errors (outline_of terms.rows f.handle) (children_trees terms.rows results)) terms s (Err e) terms2 s1
  rebuild_not_stored q j h is vars_are d are form sort_is same b =
      let l = rw (← term_binder h is _ vars_are) at d.outcome in
      let c = rw (term_rebuilt h is q j d.extends.rows are form sort_is) at b in
      rw same (record { extends = d.extends; is_owned = d.is_owned; outcome = not_rebuilt h.wanted l c })

  -- or it is
  pub rebuild_stored : {terms terms1 terms2 : Terms} {s s1 : S} {f : Frame} {results : Listed Child} {y : AnyHandle} {other : Errors E} {b : Option BoundVarKinds} (q : Parts) (j : Kind)
      → Holds terms.rows f results → IsFalse (has_items f.handle.table)
      → b ≡ form_binder (kind_form (stored_kind terms.rows f.handle))
      → Goes owned means (λ _ _ m m'. Leaves H (binder_in terms.rows b) m m') (LeaveFails H other (binder_in terms.rows b)) terms s (Ok (tt {0})) terms1 s1
      → q ≡ parts_of results → kind_form j ≡ refilled q (kind_form (stored_kind terms.rows f.handle)) → kind_sort j ≡ kind_sort (stored_kind terms.rows f.handle)
      → Extends terms1 terms2 → owned terms2.rows s1 → stands means terms2 s1 ≡ stands means terms1 s1
      → IsStoredFor f.handle terms2.rows y → handle_tree terms2.rows y ≡ tree_in terms1.rows (kind_shape j)
      → Goes owned means (IsRebuilt H terms.rows f results) (RebuildFails H errors (outline_of terms.rows f.handle) (children_trees terms.rows results)) terms s (Ok y) terms2 s1
  rebuild_stored q j h is vars_are d are form sort_is extends o still for_f tree =
      let l = rw (← term_binder h is _ vars_are) at d.outcome in
      let built = tree ∙ term_rebuilt h is q j d.extends.rows are form sort_is in
      record {
        extends = Extends-trans d.extends extends;
        is_owned = o;
        outcome = (for_f, rw (built, still) (rebuilds h.wanted l));
      }
