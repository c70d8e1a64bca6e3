-- The content of answers, with each handle replaced by its tree.
use Rattle.std.specs.Prelude.{◌≡◌, ℕ, ◌<◌, ◌≤◌, Bool, List, [], ◌∷◌, map, Option, Some, None, ⊤}
use Rattle.tt_index.specs.declared.refusal.Refusal.{Refusal}
use Rattle.tt_kinds.specs.Tree.{Depth, Tree}
use Rattle.tt_kinds.specs.declared.table.Table.{Table}
use Rattle.tt_kinds.specs.declared.declaration.DeclarationSort.{DeclarationSort}
use Rattle.tt_kinds.specs.declared.table.Table.TheVariants.{Types, Consts, Patterns, Predicates, ClauseLists, ArgLists}
use Rattle.tt_kinds.specs.declared.table.Table.TheVariants.{Declarations}
use Rattle.tt_interner.specs.Rows.{Row, size, meaning}
use Rattle.tt_interner.specs.Stored.{Terms}
use Rattle.tt_interner.specs.Declarations.{IsOfSort}
use Rattle.tt_calls.specs.declared.answer.Answer.{Answer}
use Rattle.tt_calls.specs.declared.answer.Answer.TheVariants as answer

-- the content of an answer: a term, an id, a truth value, flags and an outer exclusive binder, a refusal, or a bad line
pub data Told : Type 0 where
  -- a term of the table
  term : Table → Tree Depth → Told
  -- the id of a declaration of this sort: its number, and its tree, which has what is declared and the name
  declared : DeclarationSort → ℕ → Tree Depth → Told
  truth : Bool → Told
  info : ℕ → ℕ → Told
  refused : Refusal → Told
  bad : Told

-- the content of an answer, if these are the rows
abbrev pub told : List Row → Answer → Told
told rows (answer.Ty t) = term Types (meaning rows Types t.number)
told rows (answer.Const c) = term Consts (meaning rows Consts c.number)
told rows (answer.Pat p) = term Patterns (meaning rows Patterns p.number)
told rows (answer.Predicate p) = term Predicates (meaning rows Predicates p.number)
told rows (answer.Clauses l) = term ClauseLists (meaning rows ClauseLists l.number)
told rows (answer.Args l) = term ArgLists (meaning rows ArgLists l.number)
told rows (answer.Id sort id) = declared sort id.number (meaning rows Declarations id.number)
told rows (answer.Truth b) = truth b
told rows (answer.Info flags outer) = info flags.bits outer
told rows (answer.Refused r) = refused r
told rows answer.Bad = bad

-- the table of an answer's handle, if the answer is one
abbrev pub handle_table : Answer → Option Table
handle_table (answer.Ty t) = Some Types
handle_table (answer.Const c) = Some Consts
handle_table (answer.Pat p) = Some Patterns
handle_table (answer.Predicate p) = Some Predicates
handle_table (answer.Clauses l) = Some ClauseLists
handle_table (answer.Args l) = Some ArgLists
handle_table _ = None

-- the number of an answer's handle in its table, or 0 if the answer is not a handle
abbrev pub handle_number : Answer → ℕ
handle_number (answer.Ty h) = h.number
handle_number (answer.Const h) = h.number
handle_number (answer.Pat h) = h.number
handle_number (answer.Predicate h) = h.number
handle_number (answer.Clauses h) = h.number
handle_number (answer.Args h) = h.number
handle_number _ = 0

-- the contents of answers, in order
abbrev pub told_all : List Row → List Answer → List Told
told_all rows answers = map (told rows) answers

-- the handle, if there is one, is in range; the id, if there is one, names a declaration of its sort
abbrev pub IsOwnedAnswer : List Row → Answer → Type 0
IsOwnedAnswer rows (answer.Ty t) = t.number < size rows Types
IsOwnedAnswer rows (answer.Const c) = c.number < size rows Consts
IsOwnedAnswer rows (answer.Pat p) = p.number < size rows Patterns
IsOwnedAnswer rows (answer.Predicate p) = p.number < size rows Predicates
IsOwnedAnswer rows (answer.Clauses l) = l.number < size rows ClauseLists
IsOwnedAnswer rows (answer.Args l) = l.number < size rows ArgLists
IsOwnedAnswer rows (answer.Id sort id) = IsOfSort rows sort id.number
IsOwnedAnswer rows _ = ⊤

-- the same for all answers
abbrev pub AreOwnedAnswers : List Row → List Answer → Type 0
AreOwnedAnswers rows [] = ⊤
AreOwnedAnswers rows (a ∷ answers) = IsOwnedAnswer rows a × AreOwnedAnswers rows answers

-- some table holds the limit of rows
pub record HasFullTable (terms : Terms) : Type 0 where
  pub table : Table
  pub full : terms.limit ≤ size terms.rows table

-- a term of the table is stored in the rows and has this tree
pub record IsStored (rows : List Row) (table : Table) (tree : Tree Depth) : Type 0 where
  pub number : ℕ
  pub within : number < size rows table
  pub means : meaning rows table number ≡ tree

-- the facts about an interner while calls are answered
pub record Setting : Type 1 where
  -- some table holds its limit at the end
  pub full : Type 0
  -- how many declarations there were before the calls
  pub declarations : ℕ
  -- a term of the table with this tree was stored before the calls
  pub stored : Table → Tree Depth → Type 0

-- the facts if the interner has the old terms before the calls, and the new ones at the end
abbrev pub setting : Terms → Terms → Setting
setting old new = record {
  full = HasFullTable new;
  declarations = size old.rows Declarations;
  stored = IsStored old.rows;
}
