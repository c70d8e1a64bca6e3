-- the tokens that are still to be read
use Rattle.std.specs.Prelude.{ℕ, length}
use Rattle.checker_syntax.specs.declared.tokens.Tokens.{Tokens}

-- how many tokens are left
abbrev pub tokens_left : Tokens → ℕ
tokens_left tokens = length tokens.rest.now
