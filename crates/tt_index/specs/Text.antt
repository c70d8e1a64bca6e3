-- The texts of inference variables.
use Rattle.std.specs.Prelude.{ℕ, List, ◌++◌, codes}
use Rattle.std.specs.Fmt.{decimal}

-- a question mark, the number of the variable, and the letter of its kind
abbrev pub vid_text : List ℕ → ℕ → List ℕ
vid_text letter number = codes "?" ++ decimal number ++ letter

-- a region variable: an apostrophe, a question mark, and the number
abbrev pub region_vid_text : ℕ → List ℕ
region_vid_text number = codes "'?" ++ decimal number
