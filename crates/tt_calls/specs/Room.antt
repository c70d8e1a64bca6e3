-- What a refusal for want of room means: some part of the term that was to be built isn't stored.
use Rattle.std.specs.Prelude.{◌≡◌, ℕ, ◌≤◌, length, List, Option, IsSomeAnd, ⊤}
use Rattle.tt_index.specs.declared.refusal.Refusal.{Refusal}
use Rattle.tt_index.specs.declared.refusal.Refusal.TheVariants.{Memory, TableFull}
use Rattle.tt_kinds.specs.Label.{Name, VarKind, var_list_label}
use Rattle.tt_kinds.specs.Tree.{Tree, Forest, Depth, node, none}
use Rattle.tt_kinds.specs.Shape.{Shape, Shapes, fill, fill_all, IsPart, AreParts}
use Rattle.tt_interner.specs.Rows.{Row, text_row, size, meaning, IsNew, AreRows}
use Rattle.tt_interner.specs.Stored.{most_in_place}
use Rattle.tt_calls.specs.CallForm.{CallForm, Part, ExistentialForm, IsShort}
use Rattle.tt_calls.specs.CallForm.{IsShortExistential, AreShortExistentials, IsOfShortLists, part_tree}
use Rattle.tt_calls.specs.CallForm.{existential_tree, existentials_tree, clauses_tree, form_tree}
use Rattle.tt_calls.specs.Told.{Told}
use Rattle.tt_calls.specs.Means.{number_at, tree_at}

-- the refusal is for want of memory or of a row
abbrev pub IsRefusalForRoom : Refusal → Type 0
IsRefusalForRoom Memory = ⊤
IsRefusalForRoom TableFull = ⊤
IsRefusalForRoom _ = ⊥

-- a value whose handles are in range has this tree
pub record HasValue (rows : List Row) (t : Tree Depth) : Type 0 where
  pub shape : Shape
  pub part : IsPart (size rows) shape
  pub means : fill (meaning rows) shape ≡ t

-- values whose handles are in range have these trees, in order
pub record HasValues (rows : List Row) (ts : Forest Depth) : Type 0 where
  pub shapes : Shapes
  pub parts : AreParts (size rows) shapes
  pub means : fill_all (meaning rows) shapes ≡ ts

-- no value whose handles are in range has this tree
abbrev pub LacksValue : List Row → Tree Depth → Type 0
LacksValue rows t = AreRows rows → HasValue rows t → ⊥

-- the text, if there is one, isn't stored
abbrev pub LacksText : List Row → Option Name → Type 0
LacksText rows text = IsSomeAnd text (λ name. IsNew (text_row name) rows)

-- if the refusal is for want of room, and no list to be built is long, no value has the tree
abbrev pub NeedsRoom : List Row → Type 0 → Tree Depth → Refusal → Type 0
NeedsRoom rows short t r = IsRefusalForRoom r → short → LacksValue rows t

-- the same for a child
abbrev pub PartNeedsRoom : List Row → List Told → Part → Refusal → Type 0
PartNeedsRoom rows earlier p r = NeedsRoom rows (IsShort p) (part_tree (number_at earlier) (tree_at earlier) p) r

-- the same for the list of a binder's variables
abbrev pub VarsNeedRoom : List Row → List (VarKind Name) → Refusal → Type 0
VarsNeedRoom rows vs r = NeedsRoom rows (length vs ≤ most_in_place) (node (var_list_label vs) none) r

-- the same for an existential predicate
abbrev pub ExistentialNeedsRoom : List Row → List Told → ExistentialForm → Refusal → Type 0
ExistentialNeedsRoom rows earlier x r = NeedsRoom rows (IsShortExistential x)
    (existential_tree (number_at earlier) (tree_at earlier) x) r

-- the same for a list of existential predicates
abbrev pub ExistentialsNeedRoom : List Row → List Told → List ExistentialForm → Refusal → Type 0
ExistentialsNeedRoom rows earlier xs r = NeedsRoom rows (AreShortExistentials xs)
    (existentials_tree (number_at earlier) (tree_at earlier) xs) r

-- the same for the list of the clauses at the positions
abbrev pub ClausesNeedRoom : List Row → List Told → List ℕ → Refusal → Type 0
ClausesNeedRoom rows earlier ps r = NeedsRoom rows (length ps ≤ most_in_place)
    (clauses_tree (number_at earlier) (tree_at earlier) ps) r

-- the same for the term
abbrev pub FormNeedsRoom : List Row → List Told → CallForm → Refusal → Type 0
FormNeedsRoom rows earlier f r = NeedsRoom rows (IsOfShortLists f) (form_tree (number_at earlier) (tree_at earlier) f) r
