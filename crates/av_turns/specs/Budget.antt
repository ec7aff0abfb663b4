-- How much a turn may take.
use Rattle.std.specs.Prelude.{◌≡◌, ◌≤◌, ℕ, ◌+◌, ◌-◌, min, Bool, false, ◌||◌, nat_eq, nat_le, List, [], ◌∷◌, length}
use Rattle.av_turns.specs.declared.budget.Budget.{Budget}

-- a thing was parsed, and put so many bytes into the output
abbrev pub spent : ℕ → Budget → Budget
spent bytes b = record { asks = b.asks - 1; said = min (b.said + bytes) 18446744073709551615 }

-- its asks are parsed, or it put 4,096 bytes into the output
abbrev pub is_spent : Budget → Bool
is_spent b = nat_eq b.asks 0 || nat_le 4096 b.said

-- things that a turn parsed, one after the other, each told by the bytes that it put into the output
abbrev pub Spend : List ℕ → Budget → Budget → Type 0
Spend [] old new = new ≡ old
Spend (bytes ∷ rest) old new = (is_spent old ≡ false) × Spend rest (spent bytes old) new

-- a turn parses no more things than it was told to
abbrev pub TurnsAreBounded : Type 0
TurnsAreBounded = (things : List ℕ) (old new : Budget) → Spend things old new → length things ≤ old.asks
