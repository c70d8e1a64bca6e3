-- One step of writing a text: what was written before it, and what it adds.
use Rattle.std.specs.Prelude.{OnOk, OnErr}
use Rattle.std.proofs.Common.{◌≡◌, ℕ, List, [], ◌++◌, Ok, Err, Result, ◌≤◌, length, take, ap, sym, ◌∙◌, append_assoc}
use Rattle.std.proofs.Common.{length-append, arith}
use Rattle.std.proofs.Math.Seq.{take-append_seam}
use Rattle.std.specs.Str.{IsUtf8, IsCharBoundary}
use Rattle.std.proofs.lemmas.Str.{IsCharBoundary-from_take}
use Rattle.std.proofs.lemmas.List.{append-nil}
use Rattle.tt_print.specs.Text.{BeginsText, Writes}

-- bytes were added, and then others
pub begins-more : (a b c : List ℕ) → BeginsText a b → BeginsText b c → BeginsText a c
begins-more a b c h k = record { rest = h.rest ++ k.rest; is = k.is ∙ ap (λ x. x ++ k.rest) h.is ∙ append_assoc a h.rest k.rest }

-- nothing was added
pub begins-same : (a : List ℕ) → BeginsText a a
begins-same a = record { rest = []; is = sym (append-nil a) }

-- the same text, written another way
pub writes-same : {T E : Type 0} (r : Result T E) (a b x y : List ℕ) → x ≡ y → Writes r a b x → Writes r a b y
writes-same r a b x y e h = rw (← e) h

-- the end of an old text is a place where the longer one may be cut
pub old-end : (old now : List ℕ) (n : ℕ) → IsUtf8 old → IsUtf8 now → n ≡ length old → BeginsText old now → IsCharBoundary now n × (take n now ≡ old)
old-end old now n old_text now_text count h =
    let first : take n now ≡ old = rw (count, h.is) (take-append_seam old h.rest) in
    let within : n ≤ length now = rw (count, h.is) (omega (arith, length-append old h.rest)) in
    (IsCharBoundary-from_take now n now_text within (rw first old_text), first)

-- a text was written, and then another one
pub writes-then : {T U E : Type 0} (x : T) (r : Result U E) (a b c first rest : List ℕ) → Writes {T = T} {E = E} (Ok x) a b first → Writes r b c rest → Writes r a c (first ++ rest)
writes-then x (Ok y) a b c first rest h k = record {
  written = k.written ∙ ap (λ w. w ++ rest) h.written ∙ append_assoc a first rest;
  kept = begins-more a b c h.kept k.kept;
}
writes-then x (Err e) a b c first rest h k = record { written = tt; kept = begins-more a b c h.kept k.kept }

-- a text was written that ends the whole one behind the old one
pub writes-end : {T E : Type 0} (r : Result T E) (a b c rest whole : List ℕ) → b ++ rest ≡ a ++ whole → BeginsText a b → Writes r b c rest → Writes r a c whole
writes-end (Ok x) a b c rest whole same h k = record { written = k.written ∙ same; kept = begins-more a b c h k.kept }
writes-end (Err e) a b c rest whole same h k = record { written = tt; kept = begins-more a b c h k.kept }

-- a text was written, or nothing was
pub writes-printed : {T E : Type 0} (r : Result T E) (a b x : List ℕ) → OnOk r (b ≡ a ++ x) → OnErr r (b ≡ a) → Writes r a b x
writes-printed (Ok y) a b x h k = record { written = h; kept = record { rest = x; is = h } }
writes-printed (Err e) a b x h k = record { written = tt; kept = record { rest = []; is = k ∙ sym (append-nil a) } }

-- the same text was printed, written another way
pub printed-same : {T E : Type 0} (r : Result T E) (a b x y : List ℕ) → x ≡ y → OnOk r (b ≡ a ++ x) → OnOk r (b ≡ a ++ y)
printed-same r a b x y e h = rw (← e) h
