-- Who waits to be read while the service takes no more of contents in parts.
use Rattle.std.specs.Prelude.{Bool, true, false}
use Rattle.av_turns.specs.declared.client.Left.{Left}
use Rattle.av_turns.specs.declared.client.Left.TheVariants.{Nothing, Whole, Part, Held}
use Rattle.av_peers.specs.declared.client.Place.{Place}
use Rattle.av_peers.specs.declared.client.Place.TheVariants.{Free, Parked, Called}

-- a client waits behind others, where some wait, until it is called
abbrev pub waits_behind : Place → Bool → Bool
waits_behind Free others_wait = others_wait
waits_behind Parked others_wait = true
waits_behind Called others_wait = false

-- what is left of what it sent is held
abbrev pub held : Left → Left
held Nothing = Held 0
held (Whole n) = Held n
held (Part n total) = Held n
held (Held n) = Held n
