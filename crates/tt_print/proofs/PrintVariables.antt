-- The texts of a binder's variables: what is written, and what is left.
use Rattle.std.proofs.Common.{◌≡◌, ℕ, suc, ◌+◌, ◌<◌, ◌≤◌, List, [], ◌∷◌, ◌++◌, Ok, Result, length, get_or, drop, map}
use Rattle.std.proofs.Common.{zero, refl, ap, sym, ◌∙◌, append_assoc, drop-cons, arith}
use Rattle.std.proofs.lemmas.Grind.{common_steps}
use Rattle.tt_kinds.specs.Label.{Name, VarKind}
use Rattle.tt_kinds.specs.Shape.{Meaning, Sizes, fill, name_of, vars_of, rename_kind, AreNamedKinds, IsNamedKind}
use Rattle.tt_kinds.specs.Bound.{var_kind}
use Rattle.tt_kinds.specs.declared.bound.BoundVariableKind.{BoundVariableKind}
use Rattle.tt_kinds.specs.declared.table.Table.TheVariants.{VarLists}
use Rattle.tt_interner.specs.Rows.{Row, vars_row, size, meaning, AreRows}
use Rattle.tt_interner.specs.Stored.{IsAt}
use Rattle.tt_interner.proofs.Trees.{Means-row}
use Rattle.tt_print.specs.Text.{Head, head_text, variable_head, variable_title, variable_text, variables_text}
use Rattle.tt_print.specs.Text.{before_variable, after_variables, BeginsText, Writes}
use Rattle.tt_print.specs.Spelling.{rename_head}
use Rattle.tt_print.proofs.PrintSteps.{begins-more, begins-same, writes-end}
use Rattle.tt_print.proofs.PrintLaws.{variable-renamed, title-renamed}

-- variables as a tree has them
abbrev pub tree_variables : Meaning → List BoundVariableKind → List (VarKind Name)
tree_variables f items = map (rename_kind (name_of f)) (map var_kind items)

module _ (item_name : ℕ → Name) (f : Meaning) where
  -- what is written of a variable is its text
  pub variable-written : (n : ℕ) (v : VarKind ℕ) (h t : Head ℕ) → h ≡ variable_head n v → t ≡ variable_title v
      → head_text item_name (rename_head (name_of f) h) ++ head_text item_name (rename_head (name_of f) t) ≡ variable_text item_name n (rename_kind (name_of f) v)
  variable-written n v h t of_head of_title =
      ap (λ (w : Head Name). head_text item_name w ++ head_text item_name (rename_head (name_of f) t)) (ap (rename_head (name_of f)) of_head ∙ variable-renamed (name_of f) n v)
      ∙ ap (λ (w : Head Name). head_text item_name (variable_head n (rename_kind (name_of f) v)) ++ head_text item_name w) (ap (rename_head (name_of f)) of_title ∙ title-renamed (name_of f) v)

  -- what was written, and the variables from the place n on, are the whole text behind the old one
  pub record VariablesLeft (a b : List ℕ) (items : List BoundVariableKind) (n : ℕ) : Type 0 where
    pub within : n ≤ length items
    pub text : b ++ variables_text item_name n (tree_variables f (drop n items)) ≡ a ++ variables_text item_name 0 (tree_variables f items)
    pub kept : BeginsText a b

  -- at the start nothing is written
  pub variables-start : (a : List ℕ) (items : List BoundVariableKind) (n : ℕ) → n ≡ 0 → VariablesLeft a a items n
  variables-start a items n is = rw is (record { within = omega arith; text = refl; kept = begins-same a })

  variables-from : (items : List BoundVariableKind) (n m : ℕ) (d : BoundVariableKind) → n < length items → m ≡ n + 1
      → variables_text item_name n (tree_variables f (drop n items))
      ≡ before_variable n ++ (variable_text item_name n (rename_kind (name_of f) (var_kind (get_or items n d))) ++ variables_text item_name m (tree_variables f (drop m items)))
  variables-from items n m d low next =
      let step : m ≡ suc n = omega arith in
      rw (step, drop-cons items n d low) refl

  -- the next variable was written
  pub variables-go-on : {T U E F : Type 0} (x : T) (y : U) (a b c e : List ℕ) (items : List BoundVariableKind) (n m : ℕ) (d : BoundVariableKind) → n < length items → m ≡ n + 1
      → VariablesLeft a b items n → Writes {T = T} {E = E} (Ok x) b c (before_variable n)
      → Writes {T = U} {E = F} (Ok y) c e (variable_text item_name n (rename_kind (name_of f) (var_kind (get_or items n d))))
      → VariablesLeft a e items m
  variables-go-on x y a b c e items n m d low next h k l =
      let rest = variables_text item_name m (tree_variables f (drop m items)) in
      let mark = before_variable n in
      let this = variable_text item_name n (rename_kind (name_of f) (var_kind (get_or items n d))) in
      record {
        within = omega arith;
        text = ap (λ w. w ++ rest) (l.written ∙ ap (λ w. w ++ this) k.written)
            ∙ append_assoc (b ++ mark) this rest
            ∙ append_assoc b mark (this ++ rest)
            ∙ ap (λ w. b ++ w) (sym (variables-from items n m d low next))
            ∙ h.text;
        kept = begins-more a c e (begins-more a b c h.kept k.kept) l.kept;
      }

  -- all variables were written, and the text after them
  pub variables-end : {T E : Type 0} (r : Result T E) (a b c : List ℕ) (items : List BoundVariableKind) (n : ℕ) → length items ≤ n → VariablesLeft a b items n
      → Writes r b c (after_variables n) → Writes r a c (variables_text item_name 0 (tree_variables f items))
  variables-end r a b c items n high h k =
      let ended : drop n items ≡ [] = grind (arith, common_steps) in
      let whole : b ++ after_variables n ≡ a ++ variables_text item_name 0 (tree_variables f items) = rw ended at h.text in
      writes-end r a b c (after_variables n) (variables_text item_name 0 (tree_variables f items)) whole h.kept k

-- the tree of a stored list of variables
pub stored-variables : (rows : List Row) → AreRows rows → (items : List BoundVariableKind) (n : ℕ) → IsAt rows (vars_row items) n
    → vars_of (meaning rows VarLists n) ≡ tree_variables (meaning rows) items
unfolding fill
stored-variables rows are items n at = ap vars_of (Means-row rows are VarLists n (vars_row items) at).tree

named-at : (size : Sizes) (items : List BoundVariableKind) (n : ℕ) (d : BoundVariableKind) → n < length items → AreNamedKinds size (map var_kind items)
    → IsNamedKind size (var_kind (get_or items n d))
named-at size [] n d low h = absurd (omega arith)
named-at size (y ∷ items) zero d low h = h.0
named-at size (y ∷ items) (suc n) d low h = named-at size items n d (omega arith) h.1

-- the names of a stored list's variables are in range
pub variable-named-at : (rows : List Row) → AreRows rows → (items : List BoundVariableKind) (list n : ℕ) (d : BoundVariableKind) → IsAt rows (vars_row items) list → n < length items
    → IsNamedKind (size rows) (var_kind (get_or items n d))
variable-named-at rows are items list n d at low = named-at (size rows) items n d low (Means-row rows are VarLists list (vars_row items) at).parts.0
