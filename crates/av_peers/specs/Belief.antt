-- Which versions of sets are believed.
use Rattle.std.specs.Prelude.{ℕ, Option, None, Some, nat_lt, if◌then◌else◌}
use Rattle.av_arrival.specs.declared.refusal.TurnedAway.{TurnedAway}
use Rattle.av_arrival.specs.declared.refusal.TurnedAway.TheVariants.{Above, Older}
use Rattle.av_peers.specs.declared.belief.Belief.{Belief}
use Rattle.av_peers.specs.declared.service.Claim.{Claim}
use Rattle.av_peers.specs.declared.service.Claim.TheVariants.{Greeting, Newer}

-- the least version that is believed: it rises with the floor
abbrev pub risen : Belief → ℕ → ℕ
risen belief floor = if nat_lt floor belief.least then belief.least else floor

-- a greeting is turned away under a version above the most, and under one below the least
abbrev pub greeting_refusal : Belief → ℕ → ℕ → Option TurnedAway
greeting_refusal belief version floor =
    if nat_lt belief.most version then Some (Above belief.most) else
    (if nat_lt version (risen belief floor) then Some (Older (risen belief floor)) else None)

-- a newer set is turned away under a version above the most
abbrev pub newer_refusal : Belief → ℕ → Option TurnedAway
newer_refusal belief version = if nat_lt belief.most version then Some (Above belief.most) else None

-- why a service is turned away that says this of its set
abbrev pub refusal_of : Belief → Claim → ℕ → Option TurnedAway
refusal_of belief (Greeting version) floor = greeting_refusal belief version floor
refusal_of belief (Newer version) floor = newer_refusal belief version
