-- Rules of YARA files.
use Rattle.std.specs.Prelude.{ℕ, ◌||◌, ◌&&◌, ◌==◌, Bool, List, nat_le}
use Rattle.std.specs.Str.{bytes_eq}
use Rattle.av_import.specs.declared.lexer.Token.{Token}

-- white space: a space, and the signs from a tab to a carriage return
abbrev pub is_space : ℕ → Bool
is_space b = b == 32 || (nat_le 9 b && nat_le b 13)

-- the token is this word
abbrev pub is_word : List ℕ → Token → Bool
is_word word token = bytes_eq token.text.now word
