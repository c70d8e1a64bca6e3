-- The answers that a list of calls may have. Nothing is looked up in a table: each handle is replaced by its tree.
use Rattle.std.specs.Prelude.{◌≡◌, ◌≢◌, ◌↔◌, ◌⊎◌, ℕ, ◌<◌, ◌≤◌, suc, zero, Bool, false, IsTrue, List, [], ◌∷◌, ◌++◌, map}
use Rattle.std.specs.Prelude.{Option, Some, None, IsSomeAnd, slice_get, length, ⊤}
use Rattle.tt_index.specs.declared.refusal.Refusal.{Refusal}
use Rattle.tt_index.specs.declared.refusal.Refusal.TheVariants.{Memory, TableFull, GreatestIndex, NoSuchAnswer}
use Rattle.tt_kinds.specs.Label.{Sort, region_sort, type_sort, const_sort, erased_region}
use Rattle.tt_kinds.specs.Tree as tree
use Rattle.tt_kinds.specs.Tree.{Depth, Place, Tree}
use Rattle.tt_kinds.specs.Reading.{read, move, outer_binder, Fits}
use Rattle.tt_kinds.specs.Argument.{Argument, put, readings}
use Rattle.tt_kinds.specs.Scan.{scan}
use Rattle.tt_kinds.specs.Cause.{Cause}
use Rattle.tt_kinds.specs.Met.{met, placed}
use Rattle.tt_kinds.specs.Param.{holds_param}
use Rattle.tt_kinds.specs.declared.declaration.DeclarationSort.{DeclarationSort}
use Rattle.tt_kinds.specs.declared.table.Table.{Table}
use Rattle.tt_kinds.specs.declared.table.Table.TheVariants.{Types, Consts, Patterns, Predicates, ClauseLists, ArgLists}
use Rattle.tt_interner.specs.Clauses.{is_clause_tree}
use Rattle.tt_interner.specs.Stored.{most_in_place}
use Rattle.tt_kinds.specs.Param.{IsParam}
use Rattle.tt_kinds.specs.Cause.{IsUntouched}
use Rattle.tt_calls.specs.declared.call.ArgCall.{ArgCall}
use Rattle.tt_calls.specs.declared.call.ArgCall.TheVariants as arg
use Rattle.tt_calls.specs.declared.call.Call.{Call}
use Rattle.tt_calls.specs.declared.call.DeclareCall.{DeclareCall}
use Rattle.tt_calls.specs.declared.call.Call.TheVariants as call
use Rattle.tt_calls.specs.CallForm.{CallForm, IsShort, IsOfShortLists, form_tree, Want, of_table, of_clause, as_at}
use Rattle.tt_calls.specs.CallForm.{of_any, with_flags, of_id, of_any_id, Named, arg_items, args_part, args_ids}
use Rattle.tt_calls.specs.CallForm.{ty_ids, const_ids, predicate_ids, ty_call_form, const_call_form, pat_call_form}
use Rattle.tt_calls.specs.CallForm.{predicate_call_form, declared_sort, declared_ids, declared_positions}
use Rattle.tt_calls.specs.CallForm.{declaration_tree, clause_items, clauses_tree, form_positions, items_positions}
use Rattle.tt_calls.specs.CallForm.{part_positions, part_tree, region_call_tree, IsFormTooDeep, IsPartTooDeep}
use Rattle.tt_calls.specs.CallForm.{AreItemsTooDeep}
use Rattle.tt_calls.specs.Told.{Setting, Told, term, declared, truth, info, refused, bad}

-- a term with its table
pub record Term : Type 0 where
  pub table : Table
  pub tree : Tree Depth

-- the term that was told, if one was
abbrev pub as_term : Option Told → Option Term
as_term (Some (term t u)) = Some (record { table = t; tree = u })
as_term _ = None

-- the term at a position, counted from 1
abbrev pub term_at : List Told → ℕ → Option Term
term_at earlier zero = None
term_at earlier (suc n) = as_term (slice_get earlier n)

-- an id with the sort of its declaration
pub record Id : Type 0 where
  pub sort : DeclarationSort
  pub number : ℕ

-- the id that was told, if one was
abbrev pub as_id : Option Told → Option Id
as_id (Some (declared s n t)) = Some (record { sort = s; number = n })
as_id _ = None

-- the id at a position, counted from 1
abbrev pub id_at : List Told → ℕ → Option Id
id_at earlier zero = None
id_at earlier (suc n) = as_id (slice_get earlier n)

-- the number of an id, or 0 if there is none
abbrev pub number_of : Option Id → ℕ
number_of None = 0
number_of (Some i) = i.number

-- the number of the id at a position, or 0 if there is none
abbrev pub number_at : List Told → ℕ → ℕ
number_at earlier p = number_of (id_at earlier p)

-- the tree of a term, or the erased region if there is none
abbrev pub tree_of : Option Term → Tree Depth
tree_of None = tree.region erased_region
tree_of (Some t) = t.tree

-- the tree at a position that tells a term
abbrev pub tree_at : List Told → ℕ → Tree Depth
tree_at earlier p = tree_of (term_at earlier p)

-- the table of a term, if there is one
abbrev pub table_of : Option Term → Option Table
table_of None = None
table_of (Some t) = Some t.table

-- the table of the term at a position, if there is one
abbrev pub table_at : List Told → ℕ → Option Table
table_at earlier p = table_of (term_at earlier p)

-- a position whose term may be of any table
abbrev pub any : ℕ → Named
any p = record { want = of_any; position = p }

-- the positions of ids that a call names, except for the trait or implementation that a declaration names
abbrev pub id_positions : Call → List Named
id_positions (call.Ty k) = ty_ids k
id_positions (call.Const k) = const_ids k
id_positions (call.Predicate k) = predicate_ids k
id_positions (call.Args args) = args_ids args.items
id_positions (call.Declare d) = declared_ids d.kind
id_positions (call.Instantiate p args) = args_ids args.items
id_positions _ = []

-- the positions that a call names
abbrev pub positions : List Told → Call → List Named
positions earlier (call.Ty k) = ty_ids k ++ form_positions (ty_call_form (number_at earlier) k)
positions earlier (call.Const k) = const_ids k ++ form_positions (const_call_form (number_at earlier) k)
positions earlier (call.Pat k) = form_positions (pat_call_form k)
positions earlier (call.Predicate k) = predicate_ids k ++ form_positions (predicate_call_form (number_at earlier) k)
positions earlier (call.Clauses ps) = items_positions (clause_items ps.items)
positions earlier (call.Args args) = args_ids args.items ++ part_positions (args_part args.items)
positions earlier (call.Declare d) = declared_ids d.kind ++ declared_positions d.kind
positions earlier (call.Shift p n) = any p ∷ []
positions earlier (call.EraseRegions p) = any p ∷ []
positions earlier (call.Instantiate p args) = any p ∷ (args_ids args.items ++ items_positions (arg_items args.items))
positions earlier (call.Equal p q) = any p ∷ record { want = as_at p; position = q } ∷ []
positions earlier (call.Info p) = record { want = with_flags; position = p } ∷ []
positions earlier call.Bad = []

-- the term is what is wanted
abbrev pub Suits : List Told → Want → Term → Type 0
Suits earlier (of_table t) u = u.table ≡ t
Suits earlier of_clause u = (u.table ≡ Predicates) × IsTrue (is_clause_tree u.tree)
Suits earlier (as_at p) u = table_at earlier p ≡ Some u.table
Suits earlier of_any u = ⊤
Suits earlier with_flags u = u.table ≢ ArgLists
Suits earlier (of_id s) u = ⊥
Suits earlier of_any_id u = ⊥

-- the position tells what is wanted there: an id of the sort, an id of any sort, or a term that suits
abbrev pub TellsWanted : List Told → Want → ℕ → Type 0
TellsWanted earlier (of_id s) p = IsSomeAnd (id_at earlier p) (λ i. i.sort ≡ s)
TellsWanted earlier of_any_id p = IsSomeAnd (id_at earlier p) (λ i. ⊤)
TellsWanted earlier w p = IsSomeAnd (term_at earlier p) (Suits earlier w)

-- each position tells what is wanted there
abbrev pub AreTerms : List Told → List Named → Type 0
AreTerms earlier [] = ⊤
AreTerms earlier (n ∷ ns) = TellsWanted earlier n.want n.position × AreTerms earlier ns

-- each position that the call names tells what is wanted there
abbrev pub NamesTerms : List Told → Call → Type 0
NamesTerms earlier c = AreTerms earlier (positions earlier c)

-- what the call builds, or a region in it or in an argument, is bound by the binder of the greatest index
abbrev pub IsCallTooDeep : List Told → Call → Type 0
IsCallTooDeep earlier (call.Ty k) = IsFormTooDeep (ty_call_form (number_at earlier) k)
IsCallTooDeep earlier (call.Const k) = IsFormTooDeep (const_call_form (number_at earlier) k)
IsCallTooDeep earlier (call.Pat k) = IsFormTooDeep (pat_call_form k)
IsCallTooDeep earlier (call.Predicate k) = IsFormTooDeep (predicate_call_form (number_at earlier) k)
IsCallTooDeep earlier (call.Args args) = IsPartTooDeep (args_part args.items)
IsCallTooDeep earlier (call.Instantiate p args) = AreItemsTooDeep (arg_items args.items)
IsCallTooDeep earlier _ = ⊥

-- an argument with its tree
abbrev pub told_argument : List Told → ArgCall → Argument Depth
told_argument earlier (arg.Lifetime r) = record { sort = region_sort; value = region_call_tree (number_at earlier) r }
told_argument earlier (arg.«Type» p) = record { sort = type_sort; value = tree_at earlier p }
told_argument earlier (arg.Const p) = record { sort = const_sort; value = tree_at earlier p }

-- the arguments with their trees
abbrev pub told_arguments : List Told → List ArgCall → List (Argument Depth)
told_arguments earlier args = map (told_argument earlier) args

-- the call builds, declares or folds
abbrev pub BuildsOrFolds : Call → Type 0
BuildsOrFolds (call.Ty k) = ⊤
BuildsOrFolds (call.Const k) = ⊤
BuildsOrFolds (call.Pat k) = ⊤
BuildsOrFolds (call.Predicate k) = ⊤
BuildsOrFolds (call.Clauses ps) = ⊤
BuildsOrFolds (call.Args args) = ⊤
BuildsOrFolds (call.Declare d) = ⊤
BuildsOrFolds (call.Shift p n) = ⊤
BuildsOrFolds (call.EraseRegions p) = ⊤
BuildsOrFolds (call.Instantiate p args) = ⊤
BuildsOrFolds _ = ⊥

-- the tree with the erased region in the place of each region that is neither canonical nor bound in the tree
abbrev pub erased : Tree Depth → Tree Depth
erased t = placed 0 t (map (λ m. tree.region erased_region) (met 0 t))

-- the reading of the term that the call gives, if the call folds
abbrev pub folded : List Told → Call → Option (Tree Place)
folded earlier (call.Shift p n) = Some (move n (read 0 (tree_at earlier p)))
folded earlier (call.EraseRegions p) = Some (read 0 (erased (tree_at earlier p)))
folded earlier (call.Instantiate p args) = Some (put (readings (told_arguments earlier args.items))
    (read 0 (tree_at earlier p)))
folded earlier _ = None

-- the table of the term that the call gives, if it gives one
abbrev pub given_table : List Told → Call → Option Table
given_table earlier (call.Ty k) = Some Types
given_table earlier (call.Const k) = Some Consts
given_table earlier (call.Pat k) = Some Patterns
given_table earlier (call.Predicate k) = Some Predicates
given_table earlier (call.Clauses ps) = Some ClauseLists
given_table earlier (call.Args args) = Some ArgLists
given_table earlier (call.Shift p n) = table_at earlier p
given_table earlier (call.EraseRegions p) = table_at earlier p
given_table earlier (call.Instantiate p args) = table_at earlier p
given_table earlier _ = None

-- the term is the one that the call builds, or the result of the fold
abbrev pub Gives : List Told → Call → Tree Depth → Type 0
Gives earlier (call.Ty k) t = t ≡ form_tree (number_at earlier) (tree_at earlier) (ty_call_form (number_at earlier) k)
Gives earlier (call.Const k) t = t ≡ form_tree (number_at earlier) (tree_at earlier)
    (const_call_form (number_at earlier) k)
Gives earlier (call.Pat k) t = t ≡ form_tree (number_at earlier) (tree_at earlier) (pat_call_form k)
Gives earlier (call.Predicate k) t = t ≡ form_tree (number_at earlier) (tree_at earlier)
    (predicate_call_form (number_at earlier) k)
Gives earlier (call.Clauses ps) t = t ≡ clauses_tree (number_at earlier) (tree_at earlier) ps.items
Gives earlier (call.Args args) t = t ≡ part_tree (number_at earlier) (tree_at earlier) (args_part args.items)
Gives earlier (call.EraseRegions p) t = t ≡ erased (tree_at earlier p)
Gives earlier c t = folded earlier c ≡ Some (read 0 t)

-- the call instantiates, and the term with these arguments has a cause for this refusal
abbrev pub HasCause : List Told → Call → Refusal → Type 0
HasCause earlier (call.Instantiate p args) r = Cause (tree_at earlier p) (told_arguments earlier args.items) r
HasCause earlier _ r = ⊥

-- a term of the table with this tree was told
abbrev pub IsTold : List Told → Table → Tree Depth → Type 0
IsTold [] table u = ⊥
IsTold (term t v ∷ earlier) table u = ((t ≡ table) × (v ≡ u)) ⊎ IsTold earlier table u
IsTold (t ∷ earlier) table u = IsTold earlier table u

-- a term of the table with this tree is there: it was stored before the calls, or told
abbrev pub IsKnown : Setting → List Told → Table → Tree Depth → Type 0
IsKnown s earlier table u = s.stored table u ⊎ IsTold earlier table u

-- the term that is built is there, and has no long list
abbrev pub IsThere : Setting → List Told → Table → CallForm → Type 0
IsThere s earlier table f = IsOfShortLists f × IsKnown s earlier table
    (form_tree (number_at earlier) (tree_at earlier) f)

-- whatever the arguments are, the term is untouched: no parameter occurs in it, and no region variable is exposed
abbrev pub IsUntouchedTerm : Term → Type 0
IsUntouchedTerm u = IsUntouched u.tree

-- the term is the parameter of this sort and index
abbrev pub IsParameterOf : Sort → ℕ → Term → Type 0
IsParameterOf type_sort i u = (u.table ≡ Types) × IsParam type_sort i u.tree
IsParameterOf const_sort i u = (u.table ≡ Consts) × IsParam const_sort i u.tree
IsParameterOf region_sort i u = ⊥

-- the term is itself a parameter, of a type or of a constant: its instance is the argument that is told
abbrev pub IsParameter : Term → Type 0
IsParameter u = (s : Sort) × (i : ℕ) × IsParameterOf s i u

-- the call adds nothing: the term that it builds is there, or the term that it folds stays as it is or is itself a
-- parameter
abbrev pub AddsNothing : Setting → List Told → Call → Type 0
AddsNothing s earlier (call.Ty k) = IsThere s earlier Types (ty_call_form (number_at earlier) k)
AddsNothing s earlier (call.Const k) = IsThere s earlier Consts (const_call_form (number_at earlier) k)
AddsNothing s earlier (call.Pat k) = IsThere s earlier Patterns (pat_call_form k)
AddsNothing s earlier (call.Predicate k) = IsThere s earlier Predicates (predicate_call_form (number_at earlier) k)
AddsNothing s earlier (call.Clauses ps) =
    (length ps.items ≤ most_in_place) × IsKnown s earlier ClauseLists
    (clauses_tree (number_at earlier) (tree_at earlier) ps.items)
AddsNothing s earlier (call.Args args) =
    IsShort (args_part args.items) × IsKnown s earlier ArgLists
    (part_tree (number_at earlier) (tree_at earlier) (args_part args.items))
AddsNothing s earlier (call.Shift p n) = (n ≡ 0) ⊎ (outer_binder (tree_at earlier p) ≡ 0)
AddsNothing s earlier (call.EraseRegions p) = met 0 (tree_at earlier p) ≡ []
AddsNothing s earlier (call.Instantiate p args) =
    ((args.items ≡ []) × (holds_param (tree_at earlier p) ≡ false))
    ⊎ IsSomeAnd (term_at earlier p) (λ u. IsUntouchedTerm u ⊎ IsParameter u)
AddsNothing s earlier _ = ⊥

-- the call may need memory or a row
abbrev pub MayGrow : Setting → List Told → Call → Type 0
MayGrow s earlier c = BuildsOrFolds c × (AddsNothing s earlier c → ⊥)

-- why a call may be refused
pub data MayRefuse (s : Setting) (earlier : List Told) (c : Call) (r : Refusal) : Type 0 where
  want_of_memory : MayGrow s earlier c → r ≡ Memory → MayRefuse s earlier c r
  full_table : MayGrow s earlier c → s.full → r ≡ TableFull → MayRefuse s earlier c r
  no_term : (NamesTerms earlier c → ⊥) → r ≡ NoSuchAnswer → MayRefuse s earlier c r
  too_deep : IsCallTooDeep earlier c → r ≡ GreatestIndex → MayRefuse s earlier c r
  -- the result of the fold doesn't fit
  unfit : NamesTerms earlier c → IsSomeAnd (folded earlier c) (λ t. Fits t → ⊥) → r ≡ GreatestIndex
      → MayRefuse s earlier c r
  unsuited : NamesTerms earlier c → HasCause earlier c r → MayRefuse s earlier c r

-- the truth value is whether the two terms are the same
abbrev pub GivesTruth : List Told → Call → Bool → Type 0
GivesTruth earlier (call.Equal p q) b = IsTrue b ↔ (tree_at earlier p ≡ tree_at earlier q)
GivesTruth earlier _ b = ⊥

-- the flags and the outer exclusive binder are the term's
abbrev pub GivesInfo : List Told → Call → ℕ → ℕ → Type 0
GivesInfo earlier (call.Info p) flags outer = (flags ≡ scan (tree_at earlier p))
    × (outer ≡ outer_binder (tree_at earlier p))
GivesInfo earlier _ flags outer = ⊥

-- the number is above the number of each id that was told
abbrev pub IsAbove : List Told → ℕ → Type 0
IsAbove [] n = ⊤
IsAbove (declared s m t ∷ ts) n = (m < n) × IsAbove ts n
IsAbove (t ∷ ts) n = IsAbove ts n

-- the id is new, and names the declaration that the call makes: its sort and its tree
pub record GivesId (s : Setting) (earlier : List Told) (call : DeclareCall) (sort : DeclarationSort) (n : ℕ)
    (t : Tree Depth) : Type 0 where
  pub sorted : sort ≡ declared_sort call.kind
  pub declares : t ≡ declaration_tree (number_at earlier) (tree_at earlier) n call
  -- no declaration from before the calls has its number, and no declaration that was told
  pub new : s.declarations ≤ n
  pub later : IsAbove earlier n

-- the call declares, and the id names its declaration
abbrev pub NamesDeclaration : Setting → List Told → Call → DeclarationSort → ℕ → Tree Depth → Type 0
NamesDeclaration s earlier (call.Declare d) sort n t = GivesId s earlier d sort n t
NamesDeclaration s earlier _ sort n t = ⊥

-- the call may have this answer after what was told earlier
abbrev pub IsAllowed : Setting → List Told → Call → Told → Type 0
IsAllowed s earlier c (term table t) =
    NamesTerms earlier c × (IsCallTooDeep earlier c → ⊥) × (given_table earlier c ≡ Some table) × Gives earlier c t
    × ((r : Refusal) → HasCause earlier c r → ⊥)
IsAllowed s earlier c (declared sort n t) = NamesTerms earlier c × NamesDeclaration s earlier c sort n t
IsAllowed s earlier c (truth b) = NamesTerms earlier c × GivesTruth earlier c b
IsAllowed s earlier c (info flags outer) = NamesTerms earlier c × GivesInfo earlier c flags outer
IsAllowed s earlier c (refused r) = MayRefuse s earlier c r
IsAllowed s earlier c bad = c ≡ call.Bad

-- each call, after what was told earlier, has an answer that it may have
abbrev pub Means : Setting → List Told → List Call → List Told → Type 0
Means s earlier [] [] = ⊤
Means s earlier [] (t ∷ ts) = ⊥
Means s earlier (c ∷ calls) [] = ⊥
Means s earlier (c ∷ calls) (t ∷ ts) = IsAllowed s earlier c t × Means s (earlier ++ t ∷ []) calls ts
