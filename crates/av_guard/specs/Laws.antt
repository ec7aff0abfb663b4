-- What an ask is about.
use Rattle.std.specs.Prelude.{◌≡◌, ℕ, List, Some}
use Rattle.std.specs.Option.{option_map}
use Rattle.av_guard.specs.Asking.{place_of}
use Rattle.av_guard.specs.Place.{Held}
use Rattle.av_guard.specs.State.{State}
use Rattle.av_store.specs.Rows.{stream_at}

-- the stream that is opened for a content that is kept has exactly its bytes
abbrev pub OpensItsBytes : Type 0
OpensItsBytes =
    (g : State) (c : List ℕ) (s : ℕ) → place_of g c ≡ Held s
    → option_map (λ x. x.bytes) (stream_at s g.volume.streams) ≡ Some c
