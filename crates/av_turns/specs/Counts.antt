-- What is counted of a client's asks in line, and the asks.
use Rattle.std.specs.Prelude.{◌≡◌, ◌≤◌, ℕ, ◌+◌, List, [], ◌∷◌, length, slice_get, Option, None, Some}
use Rattle.std.specs.Option.{option_map}
use Rattle.av_turns.specs.Clients.{at}
use Rattle.av_turns.specs.Line.{Asked, queue_of}
use Rattle.av_turns.specs.declared.client.Client.{Client}

-- how many small asks are in line; when the first byte of the next small one came, and that of the large one; how many bytes are in line
pub record Counts : Type 0 where
  pub small : ℕ
  pub next_small : Option ℕ
  pub next_large : Option ℕ
  pub bytes : ℕ

-- as they are kept with a client
abbrev pub kept_of : Client → Counts
kept_of c = record { small = c.line; next_small = c.next_small; next_large = c.next_large; bytes = c.lined }

abbrev pub kept_at : List (ℕ × Client) → ℕ → Option Counts
kept_at clients n = option_map kept_of (at clients n)

-- when the first byte of the first ask came
abbrev pub first_in : List Asked → Option ℕ
first_in asks = option_map (λ a. a.first) (slice_get asks 0)

abbrev pub bytes_in : List Asked → ℕ
bytes_in [] = 0
bytes_in (a ∷ asks) = length a.content + bytes_in asks

-- as they are in line
abbrev pub counts_of : List Asked → List Asked → Counts
counts_of small large =
    record { small = length small; next_small = first_in small; next_large = first_in large; bytes = bytes_in small + bytes_in large }

-- who is not there has no ask in line; who is there has its asks counted, of which at most one is large
abbrev pub IsCounted : Option Counts → List Asked → List Asked → Type 0
IsCounted None small large = (small ≡ []) × (large ≡ [])
IsCounted (Some kept) small large = (kept ≡ counts_of small large) × (length large ≤ 1)

abbrev pub AreCounted : List (ℕ × Client) → List (ℕ × List Asked) → List (ℕ × List Asked) → Type 0
AreCounted clients small large = (n : ℕ) → IsCounted (kept_at clients n) (queue_of small n) (queue_of large n)
