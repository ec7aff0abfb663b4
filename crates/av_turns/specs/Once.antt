-- What becomes of the asks of one client in line, call by call.
use Rattle.std.specs.Prelude.{◌≡◌, List, [], ◌∷◌, ◌++◌}
use Rattle.av_turns.specs.Line.{Asked}

-- an ask stands behind the others; the first one leaves, asked or denied; the client is gone with all of them
pub data Move : Type 0 where
  Stands : (a : Asked) → Move
  Leaves : (a : Asked) → Move
  Drops : (asks : List Asked) → Move

abbrev pub Does : Move → List Asked → List Asked → Type 0
Does (Stands a) old new = new ≡ old ++ a ∷ []
Does (Leaves a) old new = old ≡ a ∷ new
Does (Drops asks) old new = (old ≡ asks) × (new ≡ [])

abbrev pub Lead : List Move → List Asked → List Asked → Type 0
Lead [] old new = new ≡ old
Lead (m ∷ moves) old new = (next : List Asked) × Does m old next × Lead moves next new

-- the asks that stood in line, in their order
abbrev pub stood : List Move → List Asked
stood [] = []
stood (Stands a ∷ moves) = a ∷ stood moves
stood (Leaves a ∷ moves) = stood moves
stood (Drops asks ∷ moves) = stood moves

-- the asks that left the line, in their order
abbrev pub gone : List Move → List Asked
gone [] = []
gone (Stands a ∷ moves) = gone moves
gone (Leaves a ∷ moves) = a ∷ gone moves
gone (Drops asks ∷ moves) = asks ++ gone moves

-- Each ask that stood left the line, once and in its turn among those of its client, or is in line still.
abbrev pub AsksStandOnce : Type 0
AsksStandOnce = (moves : List Move) (new : List Asked) → Lead moves [] new → stood moves ≡ gone moves ++ new
