-- What walks do to flags.
use Rattle.std.proofs.Common.{inl, inr, ◌≡◌, ℕ, suc, refl, ap}
use Rattle.std.specs.Prelude.{bit_or}
use Rattle.std.proofs.lemmas.Bool.{cases_lt}
use Rattle.tt_kinds.specs.Label.{Name, Sort, list_flags, flags_of_label}
use Rattle.tt_kinds.specs.Tree.{Depth, at, canonical, Tree, param, bound, region, term, node, binder, Forest, none}
use Rattle.tt_kinds.specs.Tree.{also, rebuild, rebuild_all, Each, Each_all}
use Rattle.tt_kinds.specs.Reading.{keep}
use Rattle.tt_kinds.specs.Plain.{shifted, shift_tree}
use Rattle.tt_kinds.specs.Scan.{param_flags, bound_flags, index_flags, scan, scan_all}
use Rattle.tt_kinds.proofs.RebuildLaws.{Each-always}
use Rattle.tt_kinds.proofs.ReadingLaws.{shifted-own, shifted-outer}

module _ (f : ℕ → Depth → Depth) (p : ℕ → Sort → ℕ → Name → Tree Depth) where
  mutual
    -- a walk that keeps the flags of each leaf keeps the flags
    pub scan-rebuild : (k : ℕ) (t : Tree Depth) → Each (λ j d. index_flags (f j d) ≡ index_flags d) (λ j s i name. scan (p j s i name) ≡ param_flags s) k t → scan (rebuild f p k t) ≡ scan t
    scan-rebuild k (param s i name) h = h
    scan-rebuild k (bound s d e) h = ap (bit_or (bound_flags s)) h
    scan-rebuild k (region r) h = refl
    scan-rebuild k (term l ts) h = ap (bit_or (flags_of_label l)) (scan_all-rebuild k ts h)
    scan-rebuild k (node l ts) h = ap (bit_or (flags_of_label l)) (scan_all-rebuild k ts h)
    scan-rebuild k (binder vs t) h = ap (bit_or (list_flags vs)) (scan-rebuild (suc k) t h)

    pub scan_all-rebuild : (k : ℕ) (ts : Forest Depth) → Each_all (λ j d. index_flags (f j d) ≡ index_flags d) (λ j s i name. scan (p j s i name) ≡ param_flags s) k ts → scan_all (rebuild_all f p k ts) ≡ scan_all ts
    scan_all-rebuild k none h = refl
    scan_all-rebuild k (also t ts) h = let first = scan-rebuild k t h.0 in let rest = scan_all-rebuild k ts h.1 in cc

-- a shift keeps the flags
pub scan-shift_tree : (k n : ℕ) (t : Tree Depth) → scan (shift_tree k n t) ≡ scan t
scan-shift_tree k n t = scan-rebuild (shifted n) keep k t (Each-always _ _ same (λ j s i name. refl) k t)
  where
    same : (j : ℕ) (d : Depth) → index_flags (shifted n j d) ≡ index_flags d
    same j (at d) = elim (cases_lt d j) [ inl h ↦ ap index_flags (shifted-own n j d h) | inr h ↦ ap index_flags (shifted-outer n j d h) ]
    same j canonical = refl
