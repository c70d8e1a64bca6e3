-- A visit that collects goes over the variables of the whole value.
use Rattle.std.proofs.Common.{◌≡◌, refl, ℕ, List, Bool, true, false, Option, Some, None, sym, ap, ◌∙◌}
use Rattle.std.proofs.lemmas.Bool.{true≢false}
use Rattle.tt_kinds.specs.Label.{Label, type_label}
use Rattle.tt_kinds.specs.Label.{Name}
use Rattle.tt_kinds.specs.Tree as tree
use Rattle.tt_kinds.specs.Tree.{Depth, Tree, Forest}
use Rattle.tt_visit.specs.Root.{a_region, unhooked, root, term_root, node_root, error_of}
use Rattle.tt_visit.specs.Types.{is_type_tree}
use Rattle.tt_visit.specs.Visit.{Tells, GoesOver, GoesInside, GoesOverAll, region_seen, skipped, went_inside}
use Rattle.tt_visit.specs.Visit.{token_seen, node_seen, unhooked_seen, binder_skipped, binder_seen, term_seen}
use Rattle.tt_visit.specs.Visit.{param_seen, bound_seen, value_seen, all_seen, one_seen}
use Rattle.tt_visit.specs.declared.visitor.Next.{Next}
use Rattle.tt_visit.specs.declared.visitor.Next.TheVariants.{Skip, Descend}
use Rattle.unify.specs.Substitution.{variable_of, variable_in}
use Rattle.canonical.specs.Canonical.{noted, collect, collect_all}
use Rattle.canonical.specs.Collector.{collecting}

no_region_term : (l : Label Name) → term_root l ≡ a_region → ⊥
no_region_term (type_label l) h = absurd (cc)
no_region_term l h = absurd (cc)

no_region_node : (l : Label Name) → node_root l ≡ a_region → ⊥
no_region_node (type_label l) h = absurd (cc)
no_region_node l h = absurd (cc)

-- a region adds nothing
region_adds : (t : Tree Depth) (found : List ℕ) → root t ≡ a_region → collect t found ≡ found
region_adds (tree.param s i name) found h = refl
region_adds (tree.bound s d e) found h = refl
region_adds (tree.region r) found h = refl
region_adds (tree.term l ts) found h = absurd (no_region_term l h)
region_adds (tree.node l ts) found h = absurd (no_region_node l h)
region_adds (tree.binder vs t) found h = absurd (cc)

-- what is no type is no variable
no_variable : (t : Tree Depth) → is_type_tree t ≡ false → variable_in t ≡ None
no_variable (tree.term (type_label l) ts) h = absurd (cc)
no_variable t h = refl

unhooked_plain : (l : Label Name) → term_root l ≡ unhooked → variable_of l ≡ None
unhooked_plain (type_label l) h = absurd (cc)
unhooked_plain l h = refl

-- the state after the token of an error
told : (B : Type 0) (o : Option ℕ) (s s' : List ℕ) → Tells (collecting {B = B}) s o s' → s' ≡ s
told B None s s' h = h
told B (Some e) s s' h = h

-- the answer at a term
abbrev pub Asked : Tree Depth → List ℕ → Next → List ℕ → Type 0
Asked t s next s' = (is_type_tree t ≡ true → (next ≡ Skip) × (s' ≡ collect t s))
    × (is_type_tree t ≡ false → (next ≡ Descend) × (s' ≡ s))

skip_collects : (t : Tree Depth) (s s' : List ℕ) (b : Bool) → is_type_tree t ≡ b → Asked t s Skip s'
    → s' ≡ collect t s
skip_collects t s s' true is asked = (asked.0 is).1
skip_collects t s s' false is asked = let wrong = (asked.1 is).0 in absurd (cc)

descend_stays : (t : Tree Depth) (s s' : List ℕ) (b : Bool) → is_type_tree t ≡ b → Asked t s Descend s'
    → (variable_in t ≡ None) × (s' ≡ s)
descend_stays t s s' true is asked = let wrong = (asked.0 is).0 in absurd (cc)
descend_stays t s s' false is asked = (no_variable t is, (asked.1 is).1)

module _ {B : Type 0} where
  mutual
    -- a visit collects what the definition collects
    pub visit_collects : {s s' : List ℕ} {t : Tree Depth} → GoesOver (collecting {B = B}) s t s' → s' ≡ collect t s
    visit_collects {s} {s'} {t} (region_seen at on) = on ∙ sym (region_adds t s at)
    visit_collects {s} {s'} {t} (skipped at on) = skip_collects t s s' (is_type_tree t) refl on
    visit_collects {s} {s'} {t} (went_inside {s1 = s1} at on inside) =
        let first = descend_stays t s s1 (is_type_tree t) refl on in
        inside_collects inside first.0 ∙ ap (collect t) first.1
    visit_collects {s} (unhooked_seen {l = l} {ts = ts} at all) =
        all_collect all ∙ sym (ap (λ o. collect_all ts (noted o s)) (unhooked_plain l at))
    visit_collects (token_seen on) = on
    visit_collects (node_seen at all) = all_collect all
    visit_collects {s} {s'} (binder_skipped into) = let wrong = into.0 in absurd (cc)
    visit_collects {t = t} (binder_seen into inside out) =
        out ∙ inside_collects inside refl ∙ ap (collect t) into.1

    inside_collects : {s s' : List ℕ} {t : Tree Depth} → GoesInside (collecting {B = B}) s t s' → variable_in t ≡ None
        → s' ≡ collect t s
    inside_collects {s} (term_seen {s1 = s1} {l = l} {ts = ts} tells all) none =
        all_collect all ∙ ap (collect_all ts) (told B (error_of l) s s1 tells)
        ∙ sym (ap (λ o. collect_all ts (noted o s)) none)
    inside_collects param_seen none = refl
    inside_collects bound_seen none = refl
    inside_collects (value_seen visit) none = visit_collects visit

    all_collect : {s s' : List ℕ} {ts : Forest Depth} → GoesOverAll (collecting {B = B}) s ts s'
        → s' ≡ collect_all ts s
    all_collect all_seen = refl
    all_collect (one_seen {ts = ts} one rest) = all_collect rest ∙ ap (collect_all ts) (visit_collects one)

-- a type's hook collects
pub collects_type : (t : Tree Depth) (s s' : List ℕ) → is_type_tree t ≡ true → s' ≡ collect t s → Asked t s Skip s'
collects_type t s s' is all = ((λ yes. (refl, all)), λ no. absurd (true≢false (sym is ∙ no)))

-- and the hook of what is no type enters it
pub enters_other : (t : Tree Depth) (s : List ℕ) → is_type_tree t ≡ false → Asked t s Descend s
enters_other t s other = ((λ yes. absurd (true≢false (sym yes ∙ other))), λ no. (refl, refl))
