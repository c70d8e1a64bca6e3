-- How the kinds of terms are spelled: their heads and styles, by their labels.
use Rattle.std.specs.Prelude.{ℕ, ◌<◌, List, [], ◌++◌, Option, Some, None}
use Rattle.tt_kinds.specs.Label.{Name, Sort, Label}
use Rattle.tt_kinds.specs.Kinds.{Form, param, bound, plain, under}
use Rattle.tt_kinds.specs.Shape as shape
use Rattle.tt_kinds.specs.Shape.{Shape, Sizes, Meaning, name_of, vars_of}
use Rattle.tt_kinds.specs.Tree.{Depth, Forest, count_trees}
use Rattle.tt_kinds.specs.declared.table.Table.TheVariants.{Symbols, VarLists}
use Rattle.tt_kinds.specs.Handle.{BoundVarKinds}
use Rattle.tt_print.specs.Text.{Subject, nothing, words, convention, numbered, paired, sized, item, called, Head}
use Rattle.tt_print.specs.Text.{no_head, with_word, record_head, head_in, bound_head, free_head, record_style}
use Rattle.tt_print.specs.Text.{style_in, closing, head_text, variables_text, texts}
use Rattle.tt_print.specs.declared.ir_print.layout.Style.{Style}
use Rattle.tt_print.specs.declared.ir_print.layout.Style.TheVariants as style
use Rattle.tt_print.specs.declared.ir_print.spelling.Subject.{Subject as SpelledSubject}
use Rattle.tt_print.specs.declared.ir_print.spelling.Subject.TheVariants as spelled
use Rattle.tt_print.specs.declared.ir_print.spelling.Spelling.{Spelling}

-- the part of a term's data that is written
abbrev pub subject_of : SpelledSubject → Subject ℕ
subject_of spelled.Nothing = nothing
subject_of (spelled.Words w) = words w.now
subject_of (spelled.Convention w i) = convention w.now i
subject_of (spelled.Numbered n) = numbered n
subject_of (spelled.Counted n) = numbered n
subject_of (spelled.Paired m n) = paired m n
subject_of (spelled.Sized bits bytes) = sized bits bytes
subject_of (spelled.Item d) = item d.number
subject_of (spelled.Called s) = called s.number

-- the text in front of the children
abbrev pub head_of : Spelling → Head ℕ
head_of s = record { before = s.before.now; subject = subject_of s.subject; after = s.after.now }

-- the head of a form, where a parameter or a bound variable is of the sort
abbrev pub form_head : Sort → Form (Label ℕ) → Head ℕ
form_head s (param i name) = with_word [] (called name)
form_head s (bound d e) = bound_head s d e.var
form_head s (plain l p) = head_in style.Joined l
form_head s (under l vars m p) = record_head (style_in style.Joined l) m

-- the style of a form's children
abbrev pub form_style : Form (Label ℕ) → Style
form_style (param i name) = style.Joined
form_style (bound d e) = style.Joined
form_style (plain l p) = style_in style.Joined l
form_style (under l vars m p) = record_style (style_in style.Joined l) m

-- the head of a region
abbrev pub region_head : Shape → Head ℕ
region_head (shape.param s i name) = with_word [] (called name)
region_head (shape.bound s d e) = bound_head s d e.var
region_head (shape.region r) = free_head r
region_head _ = no_head

module _ {N M : Type 0} (name : N → M) where
  -- the same part of the data with its name replaced
  abbrev pub rename_subject : Subject N → Subject M
  rename_subject nothing = nothing
  rename_subject (words w) = words w
  rename_subject (convention w i) = convention w i
  rename_subject (numbered n) = numbered n
  rename_subject (paired m n) = paired m n
  rename_subject (sized m n) = sized m n
  rename_subject (item d) = item d
  rename_subject (called n) = called (name n)

  -- the head with its name replaced
  abbrev pub rename_head : Head N → Head M
  rename_head h = record { before = h.before; subject = rename_subject h.subject; after = h.after }

-- if the part of the data is a name, the name is in the table of symbols
abbrev pub IsNamedSubject : Sizes → Subject ℕ → Type 0
IsNamedSubject size (called n) = n < size Symbols
IsNamedSubject size _ = Unit {0}

-- the text of a binder's variables, if there is a binder
abbrev pub binder_text : (ℕ → Name) → Meaning → Option BoundVarKinds → List ℕ
binder_text item_name f None = []
binder_text item_name f (Some vars) = variables_text item_name 0 (vars_of (f VarLists vars.number))

-- the text of a spelling, with these children
abbrev pub spelled_text : (ℕ → Name) → Meaning → Spelling → Forest Depth → List ℕ
spelled_text item_name f s ts = head_text item_name (rename_head (name_of f) (head_of s))
    ++ (texts item_name s.style 0 ts ++ closing item_name s.style (count_trees ts))
