-- The children, the variables and the name that kinds are made of, over plain variables.
use Rattle.std.proofs.Common.{◌≡◌, ℕ, List, [], ◌∷◌, map, Option, Some, None, Result, Ok, Err}
use Rattle.std.specs.Prelude.{IfSome, IfErr, IsErrAnd}
use Rattle.tt_index.specs.declared.refusal.Refusal.{Refusal}
use Rattle.tt_kinds.specs.Label.{Name, VarKind}
use Rattle.tt_kinds.specs.Shape as shape
use Rattle.tt_kinds.specs.Shape.{Shape, fill}
use Rattle.tt_kinds.specs.Parts.{child_sort, one_part, two_parts}
use Rattle.tt_kinds.specs.Kinds.{child_shapes, parts_shapes}
use Rattle.tt_kinds.specs.Handle.{BoundVarKinds}
use Rattle.tt_kinds.specs.Handle.{Symbol}
use Rattle.tt_kinds.specs.declared.parts.Child.{Child}
use Rattle.tt_kinds.specs.declared.table.Table.TheVariants.{VarLists}
use Rattle.tt_interner.specs.Rows.{Row, text_row}
use Rattle.tt_interner.specs.Stored.{Terms, Extends, Builds}
use Rattle.tt_interner.proofs.Growth.{IsPart-grows, fill-grows}
use Rattle.tt_calls.specs.declared.call.VariableCall.{VariableCall}
use Rattle.tt_calls.specs.declared.build.parts.Built.{Built}
use Rattle.tt_calls.specs.CallForm.{Part, variable_kind, part_positions, parts_positions, IsPartTooDeep, ArePartsTooDeep}
use Rattle.tt_calls.specs.Told.{Told, HasFullTable}
use Rattle.tt_calls.specs.Build.{IsUnbuiltPart, IsPartOfCall, ArePartsOfCall, GivesVariables}
use Rattle.tt_calls.specs.Room.{PartNeedsRoom}
use Rattle.tt_calls.specs.Parts.{part_sort, IsChildOf, GivesChild, IsListOfVars, GivesVars, GivesText}
use Rattle.tt_calls.specs.Parts.{GivesBuilt, PartsNeedRoom, VarListNeedsRoom, TextNeedsRoom, BuiltNeedsRoom}
use Rattle.tt_calls.proofs.PartLaws.{parts-one, parts-two, placed-grows}
use Rattle.tt_calls.proofs.BuildLaws.{unstored, Builds-extends, symbol-named}
use Rattle.tt_calls.proofs.ValueLaws.{first-value, later-values}

-- a value in its place is the child
pub child-given : (terms : Terms) (e : List Told) (p : Part) (s : Shape) (c : Child) → IsPartOfCall terms e p s → child_shapes c ≡ shape.also s shape.none
    → child_sort c ≡ part_sort p → GivesChild terms e p (Ok c)
child-given terms e p s c h is sort = record { ok = record { sort = sort; value = s; is = is; part = h }; err = tt }

-- what a question mark passes on
pub child-passed : (terms : Terms) (e : List Told) (p : Part) (result : Result Child Refusal) (r : Refusal) → IsErrAnd result (λ x. x ≡ r)
    → IsUnbuiltPart (HasFullTable terms) e (part_positions p) (IsPartTooDeep p) r → GivesChild terms e p result
child-passed terms e p (Ok c) r h u = absurd h
child-passed terms e p (Err x) r h u = record { ok = tt; err = rw h u }

-- an error that is passed on is the refusal of what was to be built, if it is a reason why that was not built
pub built-passed : (terms : Terms) (e : List Told) (ps : List Part) (vs : Option (List (VarKind Name))) (text : Option Name) (result : Result Built Refusal) (r : Refusal)
    → IsErrAnd result (λ x. x ≡ r) → IsUnbuiltPart (HasFullTable terms) e (parts_positions ps) (ArePartsTooDeep ps) r → GivesBuilt terms e ps vs text result
built-passed terms e ps vs text (Ok b) r h u = absurd h
built-passed terms e ps vs text (Err x) r h u = record { ok = tt; err = rw h u }

-- an only child is all children
pub only-child : (terms : Terms) (e : List Told) (p : Part) (c : Child) → IsChildOf terms e p c → ArePartsOfCall terms e (p ∷ []) (parts_shapes (one_part c))
only-child terms e p c h = rw (h.is) (parts-one terms e p h.value h.part)

-- two children are all children, where rows were added after the first
pub both-children : (old new : Terms) (e : List Told) (p q : Part) (c d : Child) → Extends old new → IsChildOf old e p c → IsChildOf new e q d
    → ArePartsOfCall new e (p ∷ q ∷ []) (parts_shapes (two_parts c d))
both-children old new e p q c d x h k = rw (h.is, k.is) (parts-two new e p q h.value k.value (placed-grows old new x h.part) k.part)

-- a child that isn't there is one of the children that aren't
pub first-needs : (rows : List Row) (e : List Told) (p : Part) (ps : List Part) (r : Refusal) → PartNeedsRoom rows e p r → PartsNeedRoom rows e (p ∷ ps) r
first-needs rows e p ps r h room short are vs = h room short.0 are (first-value rows _ _ vs)

pub second-needs : (rows : List Row) (e : List Told) (p q : Part) (ps : List Part) (r : Refusal) → PartNeedsRoom rows e q r → PartsNeedRoom rows e (p ∷ q ∷ ps) r
second-needs rows e p q ps r h room short are vs = h room short.1.0 are (first-value rows _ _ (later-values rows _ _ vs))

-- the list of a binder's variables
pub vars-given : (terms : Terms) (ids : ℕ → ℕ) (cs : List VariableCall) (result : Result BoundVarKinds Refusal) → GivesVariables terms ids cs result
    → GivesVars terms (Some (map (variable_kind ids) cs)) result
vars-given terms ids cs (Ok l) h = record { ok = record { in_range = h.ok.in_range; means = h.ok.means }; err = tt }
vars-given terms ids cs (Err r) h = record { ok = tt; err = h.err }

-- the symbol of a text
pub text-given : (old new : Terms) (text : Name) (result : Result Symbol Refusal) → Builds result (λ s. s.number) old new (text_row text) → GivesText new (Some text) result
text-given old new text (Ok s) b = record { ok = record { in_range = b.in_range; means = symbol-named old new text s.number b.means }; err = tt }
text-given old new text (Err r) b = record { ok = tt; err = unstored old new (Builds-extends (Err r) (λ s. s.number) old new (text_row text) b) (text_row text) [] [] ⊥ (λ d. d) r b.cause }

-- a text that is refused is new
pub text-needs : (old new : Terms) (text : Name) (result : Result Symbol Refusal) → Builds result (λ s. s.number) old new (text_row text) → IfErr result (TextNeedsRoom new.rows (Some text))
text-needs old new text (Ok s) b = tt
text-needs old new text (Err r) b = rw (b.err) b.absent

-- what more rows leave as it is
pub vars-grow : (old new : Terms) → Extends old new → (vs : Option (List (VarKind Name))) (l : BoundVarKinds) → IfSome vs (λ ws. IsListOfVars old ws l) → IfSome vs (λ ws. IsListOfVars new ws l)
unfolding fill
vars-grow old new x None l h = tt
vars-grow old new x (Some ws) l h = record {
  in_range = IsPart-grows old.rows new.rows x.rows (shape.stored VarLists l.number) h.in_range;
  means = rw (fill-grows old.rows new.rows x.rows (shape.stored VarLists l.number) h.in_range) h.means;
}

-- why something of what was to be built isn't there
pub by-parts : (rows : List Row) (e : List Told) (ps : List Part) (vs : Option (List (VarKind Name))) (text : Option Name) (r : Refusal) → PartsNeedRoom rows e ps r → BuiltNeedsRoom rows e ps vs text r
by-parts rows e ps vs text r h room short few are values list known = h room short are values

pub by-vars : (rows : List Row) (e : List Told) (ps : List Part) (vs : Option (List (VarKind Name))) (text : Option Name) (r : Refusal) → VarListNeedsRoom rows vs r → BuiltNeedsRoom rows e ps vs text r
by-vars rows e ps None text r h room short few are values list known = h room
by-vars rows e ps (Some ws) text r h room short few are values list known = h room few are list

pub by-text : (rows : List Row) (e : List Told) (ps : List Part) (vs : Option (List (VarKind Name))) (text : Option Name) (r : Refusal) → TextNeedsRoom rows text r → BuiltNeedsRoom rows e ps vs text r
by-text rows e ps vs None r h room short few are values list known = h
by-text rows e ps vs (Some t) r h room short few are values list known = known h
