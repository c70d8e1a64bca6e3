-- Written types and ids in turn, and whatever the interner builds.
use Rattle.std.proofs.Common.{◌≡◌, refl, ℕ, zero, suc, ◌<◌, ◌≤◌, List, [], ◌∷◌, ◌++◌, length, Some, ap, arith, pred}
use Rattle.std.proofs.Common.{sym, subst, ◌∙◌, inl, inr}
use Rattle.std.specs.Prelude.{option_map, slice_get}
use Rattle.std.proofs.lemmas.Option.{slice_get-map}
use Rattle.std.specs.String.{string_bytes}
use Rattle.std.specs.declared.alloc.Global.{Global}
use Rattle.std.specs.declared.string.String.{String}
use Rattle.tt_kinds.specs.Handle.{Ty}
use Rattle.tt_kinds.specs.Kinds.{ty_shape}
use Rattle.tt_kinds.specs.declared.id.Id.{Id}
use Rattle.tt_kinds.specs.Tree.{Depth, Tree}
use Rattle.tt_interner.specs.Owned.{IsOwned}
use Rattle.tt_interner.specs.Stored.{Terms, Extends}
use Rattle.tt_interner.proofs.OwnedLaws.{found_owned, list_still_owned, push_owned}
use Rattle.tt_fold.specs.Steps.{tree_in}
use Rattle.checker_syntax.specs.declared.program.DataType.{DataType}
use Rattle.checker_syntax.specs.declared.program.Program.{Program}
use Rattle.checker_syntax.specs.declared.program.Span.{Span}
use Rattle.checker_syntax.specs.declared.program.WrittenType.{WrittenType}
use Rattle.checker_syntax.specs.declared.program.WrittenType.TheVariants as written_as
use Rattle.checker.specs.Items.{AdtId, AreWrittenTypes, numbers, AreTypesBefore}
use Rattle.checker.specs.Scope.{trees}
use Rattle.checker.specs.TypeTrees.{data_type_of, parameter_of, reference_to, tuple_of}
use Rattle.checker.specs.Written.{AreDistinct, AreWritten, IsWritten, Writes, at, data_type, done, next, parameter}
use Rattle.checker.specs.Written.{part, reference, tuple}
use Rattle.checker.proofs.ListLaws.{found_of_pushed, length_mapped, length_pushed, mapped_pushed}
use Rattle.checker.proofs.TreeLaws.{tree_stays}

-- the number of an id
pub number_at : (ids : List AdtId) (k : ℕ) (id : AdtId) → slice_get ids k ≡ Some id → slice_get (numbers ids) k ≡ Some id.number
number_at ids k id there = slice_get-map (λ (i : AdtId). i.number) ids k ∙ ap (option_map (λ (i : AdtId). i.number)) there

-- each number is below the bound
abbrev pub AreBelow : List ℕ → ℕ → Type 0
AreBelow ns bound = (k n : ℕ) → slice_get ns k ≡ Some n → n < bound

-- numbers with a greater one are distinct still
distinct_pushed : (ns : List ℕ) (n bound : ℕ) → AreDistinct ns → AreBelow ns bound → bound ≤ n → AreDistinct (ns ++ n ∷ [])
distinct_pushed ns n bound distinct below above j k m first second =
    elim (found_of_pushed ns n j m first) [
      | inl here ↦ elim (found_of_pushed ns n k m second) [
        | inl there ↦ distinct j k m here there
        | inr newest ↦ (let less = below j m here in absurd (omega (arith, less, newest.1, above)))
      ]
      | inr newest ↦ elim (found_of_pushed ns n k m second) [
        | inl there ↦ (let less = below k m there in absurd (omega (arith, less, newest.1, above)))
        | inr same ↦ newest.0 ∙ sym same.0
      ]
    ]

-- so are ids with one that was declared after them
pub distinct_next : {S : Type 0} (ids : List (Id S)) (id : Id S) (bound : ℕ) → AreDistinct (numbers ids) → AreBelow (numbers ids) bound
    → bound ≤ id.number → AreDistinct (numbers (ids ++ id ∷ []))
distinct_next {S} ids id bound distinct below above =
    subst AreDistinct (sym (mapped_pushed (λ (i : Id S). i.number) ids id)) (distinct_pushed (numbers ids) id.number bound distinct below above)

-- and all are below the next bound
below_pushed : (ns : List ℕ) (n bound further : ℕ) → AreBelow ns bound → bound ≤ n → n < further → AreBelow (ns ++ n ∷ []) further
below_pushed ns n bound further below above less k m found =
    elim (found_of_pushed ns n k m found) [
      | inl older ↦ (let here = below k m older in omega (arith, here, above, less))
      | inr newest ↦ subst (λ x. x < further) newest.1 less
    ]

pub below_next_id : {S : Type 0} (ids : List (Id S)) (id : Id S) (bound further : ℕ) → AreBelow (numbers ids) bound → bound ≤ id.number → id.number < further
    → AreBelow (numbers (ids ++ id ∷ [])) further
below_next_id {S} ids id bound further below above less =
    subst (λ ns. AreBelow ns further) (sym (mapped_pushed (λ (i : Id S). i.number) ids id))
    (below_pushed (numbers ids) id.number bound further below above less)

module _ (terms : Terms) (program : Program) (ids : List ℕ) (types : List Ty) where
  -- one more written type
  pub written_next : (count : ℕ) (w : WrittenType) (ty : Ty) → AreWrittenTypes terms program ids types count
      → slice_get program.types.items count ≡ Some w → IsOwned ty_shape terms ty
      → IsWritten program ids w (tree_in terms.rows (ty_shape ty)) → AreWrittenTypes terms program ids (types ++ ty ∷ []) (suc count)
  written_next count w ty h there owned is = record {
    owned = push_owned ty_shape terms types ty h.owned owned;
    counted = length_pushed types ty ∙ ap suc h.counted;
    each = λ k t found. elim (found_of_pushed types ty k t found) [
      | inl older ↦ h.each k t older
      | inr newest ↦ (let place = newest.0 ∙ h.counted in
          subst (λ x. Writes program ids k (tree_in terms.rows (ty_shape x))) newest.1
          (at (subst (λ x. slice_get program.types.items x ≡ Some w) (sym place) there) is))
    ];
  }

  -- written types that were found by their numbers
  pub all_written : (count limit : ℕ) (ns : List ℕ) (found : List Ty) → AreWrittenTypes terms program ids types count
      → AreTypesBefore types limit ns found → AreWritten program ids ns (trees terms.rows found)
  all_written count limit [] [] h are = done
  all_written count limit [] (ty ∷ found) h are = let never = are.counted in absurd (cc)
  all_written count limit (n ∷ ns) [] h are = let never = are.counted in absurd (cc)
  all_written count limit (n ∷ ns) (ty ∷ found) h are =
      let first = are.each zero n refl in
      let same : ty ≡ first.0 = let p = first.1 in cc in
      let one = h.each n first.0 first.3 in
      next (subst (λ x. Writes program ids n (tree_in terms.rows (ty_shape x))) (sym same) one)
      (all_written count limit ns found h (record { counted = ap pred are.counted; each = λ k m there. are.each (suc k) m there }))

-- written types stay so
pub written_stay : (old new : Terms) (program : Program) (ids : List ℕ) (types : List Ty) (count : ℕ) → Extends old new
    → AreWrittenTypes old program ids types count → AreWrittenTypes new program ids types count
written_stay old new program ids types count extends h = record {
  owned = list_still_owned ty_shape old new types extends h.owned;
  counted = h.counted;
  each = λ n ty there.
      let owned = found_owned ty_shape old types n ty there h.owned in
      subst (Writes program ids n) (sym (tree_stays old new ty extends owned)) (h.each n ty there);
}

-- a type parameter that was built
pub parameter_written : (program : Program) (ids : List ℕ) (index name : ℕ) (s : String Global) (bytes : List ℕ) (t : Tree Depth)
    → slice_get program.names.items name ≡ Some s → bytes ≡ string_bytes s → t ≡ parameter_of index bytes
    → IsWritten program ids (written_as.Param index name) t
parameter_written program ids index name s bytes t there named is =
    subst (IsWritten program ids (written_as.Param index name)) (sym (is ∙ ap (parameter_of index) named)) (parameter there)

module _ (terms : Terms) (program : Program) (ids : List ℕ) (earlier : List Ty) (written : AreWrittenTypes terms program ids earlier (length earlier)) where
  -- a tuple that was built of earlier types
  pub tuple_written : (s : Span) (ns : List ℕ) (limit : ℕ) (found : List Ty) (t : Tree Depth) → ns ≡ part program.parts.items s
      → AreTypesBefore earlier limit ns found → t ≡ tuple_of (trees terms.rows found) → IsWritten program ids (written_as.Tuple s) t
  tuple_written s ns limit found t same are is =
      let all = all_written terms program ids earlier (length earlier) limit ns found written are in
      subst (IsWritten program ids (written_as.Tuple s)) (sym is)
      (tuple (subst (λ xs. AreWritten program ids xs (trees terms.rows found)) same all))

  -- a reference that was built to an earlier type
  pub reference_written : (n : ℕ) (found : Ty) (t : Tree Depth) → slice_get earlier n ≡ Some found
      → t ≡ reference_to (tree_in terms.rows (ty_shape found)) → IsWritten program ids (written_as.Reference n) t
  reference_written n found t there is =
      subst (IsWritten program ids (written_as.Reference n)) (sym is) (reference (written.each n found there))

  -- a data type that was built at earlier types
  pub data_type_written : (k id : ℕ) (s : Span) (item : DataType) (ns : List ℕ) (limit : ℕ) (found : List Ty) (t : Tree Depth)
      → slice_get program.«data».items k ≡ Some item → slice_get ids k ≡ Some id → ns ≡ part program.parts.items s
      → AreTypesBefore earlier limit ns found → length found ≡ length item.params.items
      → t ≡ data_type_of id (trees terms.rows found) → IsWritten program ids (written_as.Data k s) t
  data_type_written k id s item ns limit found t there named same are counted is =
      let all = all_written terms program ids earlier (length earlier) limit ns found written are in
      let count = length_mapped (λ (ty : Ty). tree_in terms.rows (ty_shape ty)) found ∙ counted in
      subst (IsWritten program ids (written_as.Data k s)) (sym is)
      (data_type there named (subst (λ xs. AreWritten program ids xs (trees terms.rows found)) same all) count)
