-- The clients of a guard by the numbers of their connections, and which of them is told what.
use Rattle.std.specs.Prelude.{ℕ, ◌≡◌, ◌≢◌, ◌++◌, List, Option, None, Some, option_map}
use Rattle.std.specs.Borrow.{Bor}
use Rattle.std.specs.BTreeMap.{is_at}
use Rattle.std.specs.Map.{lookup}
use Rattle.std.specs.Ordering.{nat_cmp}
use Rattle.av_peers.specs.Client.{told_text}
use Rattle.av_peers.specs.declared.client.Client.{Client}
use Rattle.av_peers.specs.declared.told.LargeTold.{LargeTold}

-- the client of a connection
abbrev pub client_at : ℕ → List (ℕ × Client) → Option Client
client_at n clients = lookup (is_at (nat_cmp n)) clients

-- what a client is to be sent
abbrev pub waiting_of : Client → List ℕ
waiting_of c = c.line.waiting.items

-- what the client of a connection is to be sent
abbrev pub waiting_at : ℕ → List (ℕ × Client) → Option (List ℕ)
waiting_at n clients = option_map waiting_of (client_at n clients)

-- nobody is told anything
abbrev pub IsSilent : List (ℕ × Client) → List (ℕ × Client) → Type 0
IsSilent old new = (n : ℕ) → waiting_at n new ≡ waiting_at n old

-- nobody is, but the client of this connection
abbrev pub IsSilentBeside : ℕ → List (ℕ × Client) → List (ℕ × Client) → Type 0
IsSilentBeside n old new = (m : ℕ) → m ≢ n → waiting_at m new ≡ waiting_at m old

-- the client of a connection is gone
pub record IsLost (n : ℕ) (old new : List (ℕ × Client)) : Type 0 where
  pub own : client_at n new ≡ None
  pub others : IsSilentBeside n old new

-- what a client is to be sent, with an answer under a tag behind it
abbrev pub HasAnswer : Client → ℕ → LargeTold → List ℕ → Type 0
HasAnswer c tag told text = (name : Option (Bor (List ℕ))) × (text ≡ waiting_of c ++ told_text c.speech tag told name)

-- The client of a connection is told an answer under a tag, if it is there and is not lost for it. Nobody else is told anything.
pub record IsTold (n tag : ℕ) (told : LargeTold) (old new : List (ℕ × Client)) : Type 0 where
  pub own : (text : List ℕ) → waiting_at n new ≡ Some text → (c : Client) × (client_at n old ≡ Some c) × HasAnswer c tag told text
  pub others : IsSilentBeside n old new
