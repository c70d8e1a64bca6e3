-- How deep a visit may go: the ages of the contents of a kind or a list.
use Rattle.std.proofs.Common.{ℕ, ◌<◌, ◌≤◌, List, [], ◌∷◌, arith}
use Rattle.tt_kinds.specs.Label.{Sort, Label}
use Rattle.tt_kinds.specs.Shape.{Shapes, append, none, also}
use Rattle.tt_kinds.specs.Kinds.{Form, param, bound, plain, under, form_parts, form_shape, kind_form, kind_sort}
use Rattle.tt_kinds.specs.Kinds.{kind_shape, child_shapes, parts_shapes, children_shapes}
use Rattle.tt_kinds.specs.declared.parts.Child.{Child}
use Rattle.tt_kinds.specs.declared.parts.Child.TheVariants as child
use Rattle.tt_kinds.specs.declared.parts.Parts.{Parts}
use Rattle.tt_kinds.specs.declared.parts.Kind.{Kind}
use Rattle.tt_interner.specs.Rows.{Row, IsOlder, AreOlder}
use Rattle.tt_visit.specs.Frames.{children_height}
pub use Rattle.tt_visit.specs.Frames.{stored_age, child_height, parts_height}

older-before : (rows : List Row) (a : ℕ) (ss us : Shapes) → AreOlder rows a (append ss us) → AreOlder rows a ss
older-before rows a none us h = tt
older-before rows a (also x ss) us h = (h.0, older-before rows a ss us h.1)

older-after : (rows : List Row) (a : ℕ) (ss us : Shapes) → AreOlder rows a (append ss us) → AreOlder rows a us
older-after rows a none us h = h
older-after rows a (also x ss) us h = older-after rows a ss us h.1

-- a child that came before so many rows
low-child : (rows : List Row) (a : ℕ) (c : Child) → AreOlder rows a (child_shapes c) → child_height rows c ≤ a
low-child rows a child.Absent h = omega arith
low-child rows a (child.Region r) h = omega arith
low-child rows a (child.Stored r) h = let older : stored_age rows r < a = h.0 in omega arith

low-parts : (rows : List Row) (a : ℕ) (p : Parts) → AreOlder rows a (parts_shapes p) → parts_height rows p ≤ a
low-parts rows a p h =
    let first = low-child rows a p.first (older-before rows a (child_shapes p.first) (child_shapes p.second) h) in
    let second = low-child rows a p.second (older-after rows a (child_shapes p.first) (child_shapes p.second) h) in
    omega arith

low-form : (rows : List Row) (a : ℕ) (s : Sort) (x : Form (Label ℕ)) → IsOlder rows a (form_shape s x) → parts_height rows (form_parts x) ≤ a
low-form rows a s (param i name) h = omega arith
low-form rows a s (bound d e) h = omega arith
low-form rows a s (plain l p) h = low-parts rows a p h
low-form rows a s (under l vars m p) h = low-parts rows a p h.0

-- the contents of a kind came before its row
pub low-kind : (rows : List Row) (a : ℕ) (k : Kind) → IsOlder rows a (kind_shape k) → parts_height rows (form_parts (kind_form k)) ≤ a
low-kind rows a k h = low-form rows a (kind_sort k) (kind_form k) h

-- the contents of a list came before its row
pub low-children : (rows : List Row) (a : ℕ) (cs : List Child) → AreOlder rows a (children_shapes cs) → children_height rows cs ≤ a
low-children rows a [] h = omega arith
low-children rows a (c ∷ cs) h =
    let first = low-child rows a c (older-before rows a (child_shapes c) (children_shapes cs) h) in
    let more = low-children rows a cs (older-after rows a (child_shapes c) (children_shapes cs) h) in
    omega arith
