-- The laws of the walks, from which every law of readings follows at single leaves.
use Rattle.std.proofs.Common.{◌≡◌, ℕ, suc, ◌+◌, refl, ap, sym, ◌∙◌, subst, add-suc}
use Rattle.tt_kinds.specs.Label.{Name, Sort}
use Rattle.tt_kinds.specs.Tree.{Tree, param, bound, region, term, node, binder, Forest, none, also, rebuild}
use Rattle.tt_kinds.specs.Tree.{rebuild_all, replace, replace_all, Each, Each_all}
use Rattle.tt_kinds.specs.Reading.{keep}

ap2 : {A B C : Type 0} (f : A → B → C) {a a' : A} {b b' : B} → a ≡ a' → b ≡ b' → f a b ≡ f a' b'
ap2 f p q = cc

-- what is replaced at each depth by what does not depend on it
module _ {I J : Type 0} (index : I → J) (parameter : Sort → ℕ → Name → Tree J) where
  mutual
    -- a walk that replaces alike at each depth is the replacement that counts no binders
    pub rebuild-anywhere : (k : ℕ) (t : Tree I) → rebuild (λ j. index) (λ j. parameter) k t ≡ replace index parameter t
    rebuild-anywhere k (param s i name) = refl
    rebuild-anywhere k (bound s d e) = refl
    rebuild-anywhere k (region r) = refl
    rebuild-anywhere k (term l ts) = ap (term l) (rebuild_all-anywhere k ts)
    rebuild-anywhere k (node l ts) = ap (node l) (rebuild_all-anywhere k ts)
    rebuild-anywhere k (binder vs t) = ap (binder vs) (rebuild-anywhere (suc k) t)

    pub rebuild_all-anywhere : (k : ℕ) (ts : Forest I) → rebuild_all (λ j. index) (λ j. parameter) k ts ≡ replace_all index parameter ts
    rebuild_all-anywhere k none = refl
    rebuild_all-anywhere k (also t ts) = ap2 also (rebuild-anywhere k t) (rebuild_all-anywhere k ts)

-- walks that agree at each leaf give one tree
module _ {I J : Type 0} (f g : ℕ → I → J) (p q : ℕ → Sort → ℕ → Name → Tree J) where
  mutual
    -- two walks that agree at each leaf of a tree make one tree of it
    pub rebuild-same : (k : ℕ) (t : Tree I) → Each (λ j d. f j d ≡ g j d) (λ j s i name. p j s i name ≡ q j s i name) k t → rebuild f p k t ≡ rebuild g q k t
    rebuild-same k (param s i name) h = h
    rebuild-same k (bound s d e) h = ap (λ x. bound s x e) h
    rebuild-same k (region r) h = refl
    rebuild-same k (term l ts) h = ap (term l) (rebuild_all-same k ts h)
    rebuild-same k (node l ts) h = ap (node l) (rebuild_all-same k ts h)
    rebuild-same k (binder vs t) h = ap (binder vs) (rebuild-same (suc k) t h)

    pub rebuild_all-same : (k : ℕ) (ts : Forest I) → Each_all (λ j d. f j d ≡ g j d) (λ j s i name. p j s i name ≡ q j s i name) k ts → rebuild_all f p k ts ≡ rebuild_all g q k ts
    rebuild_all-same k none h = refl
    rebuild_all-same k (also t ts) h = ap2 also (rebuild-same k t h.0) (rebuild_all-same k ts h.1)

-- a condition that every leaf meets
module _ {I : Type 0} (P : ℕ → I → Type 0) (Q : ℕ → Sort → ℕ → Name → Type 0) (index : (k : ℕ) (d : I) → P k d) (parameter : (k : ℕ) (s : Sort) (i : ℕ) (name : Name) → Q k s i name) where
  mutual
    -- a condition that every index and every parameter meets is met at each leaf of a tree
    pub Each-always : (k : ℕ) (t : Tree I) → Each P Q k t
    Each-always k (param s i name) = parameter k s i name
    Each-always k (bound s d e) = index k d
    Each-always k (region r) = tt
    Each-always k (term l ts) = Each_all-always k ts
    Each-always k (node l ts) = Each_all-always k ts
    Each-always k (binder vs t) = Each-always (suc k) t

    pub Each_all-always : (k : ℕ) (ts : Forest I) → Each_all P Q k ts
    Each_all-always k none = tt
    Each_all-always k (also t ts) = (Each-always k t, Each_all-always k ts)

-- a condition that follows from another
module _ {I : Type 0} (P P' : ℕ → I → Type 0) (Q Q' : ℕ → Sort → ℕ → Name → Type 0) (index : (k : ℕ) (d : I) → P k d → P' k d) (parameter : (k : ℕ) (s : Sort) (i : ℕ) (name : Name) → Q k s i name → Q' k s i name) where
  mutual
    -- where each leaf of a tree meets a condition, each meets one that follows from it
    pub Each-then : (k : ℕ) (t : Tree I) → Each P Q k t → Each P' Q' k t
    Each-then k (param s i name) h = parameter k s i name h
    Each-then k (bound s d e) h = index k d h
    Each-then k (region r) h = tt
    Each-then k (term l ts) h = Each_all-then k ts h
    Each-then k (node l ts) h = Each_all-then k ts h
    Each-then k (binder vs t) h = Each-then (suc k) t h

    pub Each_all-then : (k : ℕ) (ts : Forest I) → Each_all P Q k ts → Each_all P' Q' k ts
    Each_all-then k none h = tt
    Each_all-then k (also t ts) h = (Each-then k t h.0, Each_all-then k ts h.1)

-- two walks in turn are one
module _ {I J K : Type 0} (f : ℕ → I → J) (p : ℕ → Sort → ℕ → Name → Tree J) (g : ℕ → J → K) (q : ℕ → Sort → ℕ → Name → Tree K) where
  mutual
    pub rebuild-rebuild : (k : ℕ) (t : Tree I) → rebuild g q k (rebuild f p k t) ≡ rebuild (λ j d. g j (f j d)) (λ j s i name. rebuild g q j (p j s i name)) k t
    rebuild-rebuild k (param s i name) = refl
    rebuild-rebuild k (bound s d e) = refl
    rebuild-rebuild k (region r) = refl
    rebuild-rebuild k (term l ts) = ap (term l) (rebuild_all-rebuild k ts)
    rebuild-rebuild k (node l ts) = ap (node l) (rebuild_all-rebuild k ts)
    rebuild-rebuild k (binder vs t) = ap (binder vs) (rebuild-rebuild (suc k) t)

    pub rebuild_all-rebuild : (k : ℕ) (ts : Forest I) → rebuild_all g q k (rebuild_all f p k ts) ≡ rebuild_all (λ j d. g j (f j d)) (λ j s i name. rebuild g q j (p j s i name)) k ts
    rebuild_all-rebuild k none = refl
    rebuild_all-rebuild k (also t ts) = ap2 also (rebuild-rebuild k t) (rebuild_all-rebuild k ts)

-- a walk that begins n binders deeper
module _ {I J : Type 0} (f : ℕ → I → J) (p : ℕ → Sort → ℕ → Name → Tree J) (n : ℕ) where
  mutual
    -- a walk that begins n binders deeper is the walk that takes each depth for n greater
    pub rebuild-deeper : (k : ℕ) (t : Tree I) → rebuild f p (n + k) t ≡ rebuild (λ j. f (n + j)) (λ j. p (n + j)) k t
    rebuild-deeper k (param s i name) = refl
    rebuild-deeper k (bound s d e) = refl
    rebuild-deeper k (region r) = refl
    rebuild-deeper k (term l ts) = ap (term l) (rebuild_all-deeper k ts)
    rebuild-deeper k (node l ts) = ap (node l) (rebuild_all-deeper k ts)
    rebuild-deeper k (binder vs t) = ap (binder vs) (rw (← add-suc n k) (rebuild-deeper (suc k) t))

    pub rebuild_all-deeper : (k : ℕ) (ts : Forest I) → rebuild_all f p (n + k) ts ≡ rebuild_all (λ j. f (n + j)) (λ j. p (n + j)) k ts
    rebuild_all-deeper k none = refl
    rebuild_all-deeper k (also t ts) = ap2 also (rebuild-deeper k t) (rebuild_all-deeper k ts)

-- what is left as it is
mutual
  -- a walk that keeps each index and each parameter gives the tree itself
  pub rebuild-nothing : {I : Type 0} (k : ℕ) (t : Tree I) → rebuild (λ j d. d) keep k t ≡ t
  rebuild-nothing k (param s i name) = refl
  rebuild-nothing k (bound s d e) = refl
  rebuild-nothing k (region r) = refl
  rebuild-nothing k (term l ts) = ap (term l) (rebuild_all-nothing k ts)
  rebuild-nothing k (node l ts) = ap (node l) (rebuild_all-nothing k ts)
  rebuild-nothing k (binder vs t) = ap (binder vs) (rebuild-nothing (suc k) t)

  pub rebuild_all-nothing : {I : Type 0} (k : ℕ) (ts : Forest I) → rebuild_all (λ j d. d) keep k ts ≡ ts
  rebuild_all-nothing k none = refl
  rebuild_all-nothing k (also t ts) = ap2 also (rebuild-nothing k t) (rebuild_all-nothing k ts)

-- two walks in turn that give at each leaf what one walk gives
module _ {I J K : Type 0} (f : ℕ → I → J) (p : ℕ → Sort → ℕ → Name → Tree J) (g : ℕ → J → K) (q : ℕ → Sort → ℕ → Name → Tree K) (h : ℕ → I → K) (r : ℕ → Sort → ℕ → Name → Tree K) where
  -- two walks in turn are a third one, if at each leaf of the tree they give what it gives
  pub rebuild-joined : (k : ℕ) (t : Tree I) → Each (λ j d. g j (f j d) ≡ h j d) (λ j s i name. rebuild g q j (p j s i name) ≡ r j s i name) k t → rebuild g q k (rebuild f p k t) ≡ rebuild h r k t
  rebuild-joined k t e = rebuild-rebuild f p g q k t ∙ rebuild-same _ _ _ _ k t e

-- the same of a walk and then a replacement
module _ {I J K : Type 0} (f : ℕ → I → J) (p : ℕ → Sort → ℕ → Name → Tree J) (g : J → K) (q : Sort → ℕ → Name → Tree K) (h : ℕ → I → K) (r : ℕ → Sort → ℕ → Name → Tree K) where
  -- a walk and then a replacement are another walk, if at each leaf of the tree they give what it gives
  pub replace-rebuild : (k : ℕ) (t : Tree I) → Each (λ j d. g (f j d) ≡ h j d) (λ j s i name. replace g q (p j s i name) ≡ r j s i name) k t → replace g q (rebuild f p k t) ≡ rebuild h r k t
  replace-rebuild k t e = sym (rebuild-anywhere g q k (rebuild f p k t)) ∙ rebuild-joined f p (λ j. g) (λ j. q) h r k t
      (Each-then _ _ _ _ (λ j d x. x) (λ j s i name x. rebuild-anywhere g q j (p j s i name) ∙ x) k t e)

-- the same of two replacements
module _ {I J K : Type 0} (f : I → J) (p : Sort → ℕ → Name → Tree J) (g : J → K) (q : Sort → ℕ → Name → Tree K) (h : I → K) (r : Sort → ℕ → Name → Tree K) where
  -- two replacements in turn are a third one, if at each leaf of the tree they give what it gives
  pub replace-replace : (t : Tree I) → Each (λ j d. g (f d) ≡ h d) (λ j s i name. replace g q (p s i name) ≡ r s i name) 0 t → replace g q (replace f p t) ≡ replace h r t
  replace-replace t e = ap (replace g q) (sym (rebuild-anywhere f p 0 t)) ∙ replace-rebuild (λ j. f) (λ j. p) g q (λ j. h) (λ j. r) 0 t e ∙ rebuild-anywhere h r 0 t

-- a condition on a walk's result is one on its leaves
module _ {I J : Type 0} (P : ℕ → J → Type 0) (Q : ℕ → Sort → ℕ → Name → Type 0) (f : ℕ → I → J) (p : ℕ → Sort → ℕ → Name → Tree J) where
  mutual
    pub Each-rebuild : (k : ℕ) (t : Tree I) → Each (λ j d. P j (f j d)) (λ j s i name. Each P Q j (p j s i name)) k t → Each P Q k (rebuild f p k t)
    Each-rebuild k (param s i name) h = h
    Each-rebuild k (bound s d e) h = h
    Each-rebuild k (region r) h = tt
    Each-rebuild k (term l ts) h = Each_all-rebuild k ts h
    Each-rebuild k (node l ts) h = Each_all-rebuild k ts h
    Each-rebuild k (binder vs t) h = Each-rebuild (suc k) t h

    pub Each_all-rebuild : (k : ℕ) (ts : Forest I) → Each_all (λ j d. P j (f j d)) (λ j s i name. Each P Q j (p j s i name)) k ts → Each_all P Q k (rebuild_all f p k ts)
    Each_all-rebuild k none h = tt
    Each_all-rebuild k (also t ts) h = (Each-rebuild k t h.0, Each_all-rebuild k ts h.1)

-- the same of a replacement
module _ {I J : Type 0} (P : ℕ → J → Type 0) (Q : ℕ → Sort → ℕ → Name → Type 0) (f : I → J) (p : Sort → ℕ → Name → Tree J) where
  -- a condition is met throughout the result of a replacement if what replaces each leaf meets it
  pub Each-replace : (k : ℕ) (t : Tree I) → Each (λ j d. P j (f d)) (λ j s i name. Each P Q j (p s i name)) k t → Each P Q k (replace f p t)
  Each-replace k t h = subst (λ r. Each P Q k r) (rebuild-anywhere f p k t) (Each-rebuild P Q (λ j. f) (λ j. p) k t h)

-- two conditions that hold together
module _ {I : Type 0} (P P' : ℕ → I → Type 0) (Q Q' : ℕ → Sort → ℕ → Name → Type 0) where
  mutual
    pub Each-both : (k : ℕ) (t : Tree I) → Each P Q k t → Each P' Q' k t → Each (λ j d. P j d × P' j d) (λ j s i name. Q j s i name × Q' j s i name) k t
    Each-both k (param s i name) h h' = (h, h')
    Each-both k (bound s d e) h h' = (h, h')
    Each-both k (region r) h h' = tt
    Each-both k (term l ts) h h' = Each_all-both k ts h h'
    Each-both k (node l ts) h h' = Each_all-both k ts h h'
    Each-both k (binder vs t) h h' = Each-both (suc k) t h h'

    pub Each_all-both : (k : ℕ) (ts : Forest I) → Each_all P Q k ts → Each_all P' Q' k ts → Each_all (λ j d. P j d × P' j d) (λ j s i name. Q j s i name × Q' j s i name) k ts
    Each_all-both k none h h' = tt
    Each_all-both k (also t ts) h h' = (Each-both k t h.0 h'.0, Each_all-both k ts h.1 h'.1)
