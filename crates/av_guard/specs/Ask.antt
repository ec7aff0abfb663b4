-- An ask.
use Rattle.std.specs.Prelude.{ℕ, List}

-- who asks, under which tag, about which content
pub record Ask : Type 0 where
  pub client : ℕ
  pub tag : ℕ
  pub content : List ℕ
