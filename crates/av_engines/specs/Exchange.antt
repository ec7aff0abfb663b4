-- Both directions of a stream of frames.
use Rattle.std.specs.Prelude.{ℕ, ◌≡◌, List, [], Option}
use Rattle.std.specs.Io.KnownBytes.{Appends}
use Rattle.av_base.specs.Device.{AppendsPrefix}
use Rattle.av_frame.specs.declared.end.End.{End}
use Rattle.av_frame.specs.declared.end.End.TheVariants.{WriteFault}
use Rattle.av_engines.specs.declared.exchange.Exchange.{Exchange}
use Rattle.av_engines.specs.Incoming.{EndsAs, Takes}
use Rattle.av_frame.specs.Message.{Letter}

-- What waited to go out went out, and then these messages were taken off. The reader had and has these bytes, and the writer.
pub record Passes (old new : Exchange) (had has held holds : Option (List ℕ)) (messages : List Letter) : Type 0 where
  pub sent : Appends held holds old.outgoing
  pub empty : new.outgoing ≡ []
  pub taken : Takes old.incoming new.incoming had has messages

-- the next message doesn't come: what waited did not go out, or it did and the messages have this end
abbrev pub StopsAs : End → Exchange → Exchange → Option (List ℕ) → Option (List ℕ) → Option (List ℕ) → Option (List ℕ) → Type 0
StopsAs WriteFault old new had has held holds = AppendsPrefix held holds old.outgoing × Takes old.incoming new.incoming had has []
StopsAs e old new had has held holds = Passes old new had has held holds [] × EndsAs e new.incoming has
