-- Readings: a variable bound outside of a term has one number at every depth.
use Rattle.std.specs.Prelude.{ℕ, suc, ◌+◌, ◌-◌, ◌<◌, max, nat_lt, if◌then◌else◌, ⊤}
use Rattle.tt_index.specs.Greatest.{greatest}
use Rattle.tt_kinds.specs.Label.{Name, Sort}
use Rattle.tt_kinds.specs.Tree.{Depth, at, canonical, Place, own, outer, apart, Tree, param, bound, region, term, node}
use Rattle.tt_kinds.specs.Tree.{binder, Forest, none, also, rebuild, rebuild_all, replace, replace_all}

-- where the binder of a variable under k binders is
abbrev pub place : ℕ → Depth → Place
place k (at d) = if nat_lt d k then own d else outer (d - k)
place k canonical = apart

-- a parameter as it is
abbrev pub keep : {I : Type 0} → ℕ → Sort → ℕ → Name → Tree I
keep k s i name = param s i name

-- the reading of a tree under k binders
abbrev pub read : ℕ → Tree Depth → Tree Place
read k t = rebuild place keep k t

abbrev pub read_all : ℕ → Forest Depth → Forest Place
read_all k ts = rebuild_all place keep k ts

-- the place n binders further out, if it is outside
abbrev pub moved : ℕ → Place → Place
moved n (own d) = own d
moved n (outer j) = outer (n + j)
moved n apart = apart

-- the reading with n added to each outer number
abbrev pub move : ℕ → Tree Place → Tree Place
move n r = replace (moved n) param r

abbrev pub move_all : ℕ → Forest Place → Forest Place
move_all n rs = replace_all (moved n) param rs

-- one more than an outer number, or 0
abbrev pub reach : Place → ℕ
reach (own d) = 0
reach (outer j) = suc j
reach apart = 0

abbrev mutual
  -- one more than the greatest outer number of a reading, or 0
  pub greatest_reach : Tree Place → ℕ
  greatest_reach (param s i name) = 0
  greatest_reach (bound s p e) = reach p
  greatest_reach (region r) = 0
  greatest_reach (term l rs) = greatest_reach_all rs
  greatest_reach (node l rs) = greatest_reach_all rs
  greatest_reach (binder vs r) = greatest_reach r

  pub greatest_reach_all : Forest Place → ℕ
  greatest_reach_all none = 0
  greatest_reach_all (also r rs) = max (greatest_reach r) (greatest_reach_all rs)

-- the outer exclusive binder of a tree
abbrev pub outer_binder : Tree Depth → ℕ
outer_binder t = greatest_reach (read 0 t)

-- under k binders a variable at the place has an index below the greatest
abbrev pub FitsAt : ℕ → Place → Type 0
FitsAt k (own d) = ⊤
FitsAt k (outer j) = j + k < greatest
FitsAt k apart = ⊤

abbrev mutual
  -- under k binders each outer variable has an index below the greatest, and no binder is too deep
  pub FitsUnder : ℕ → Tree Place → Type 0
  FitsUnder k (param s i name) = ⊤
  FitsUnder k (bound s p e) = FitsAt k p
  FitsUnder k (region r) = ⊤
  FitsUnder k (term l rs) = FitsUnder_all k rs
  FitsUnder k (node l rs) = FitsUnder_all k rs
  FitsUnder k (binder vs r) = (k < greatest) × FitsUnder (suc k) r

  pub FitsUnder_all : ℕ → Forest Place → Type 0
  FitsUnder_all k none = ⊤
  FitsUnder_all k (also r rs) = FitsUnder k r × FitsUnder_all k rs

-- the reading is under no binder, and its indices and binders are in range
abbrev pub Fits : Tree Place → Type 0
Fits r = FitsUnder 0 r
