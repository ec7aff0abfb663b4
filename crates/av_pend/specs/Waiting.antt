use Rattle.std.specs.Prelude.{ℕ}

-- an open that waits, as contracts see it
pub record Waiting : Type 0 where
  pub open_id : ℕ
  pub stream : ℕ
  pub least : ℕ
  pub rescans : ℕ
