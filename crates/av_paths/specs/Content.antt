-- How a content is asked about.
use Rattle.std.specs.Prelude.{ℕ, ◌-◌, false, true, length, List, nat_le, is_some, Option, None, slice_get, Some}
use Rattle.std.specs.Option.{unwrap_or}
use Rattle.av_client.specs.Again.{next_way_of}
use Rattle.av_client.specs.declared.again.Chance.{Chance}
use Rattle.av_client.specs.declared.again.Way.{Way}
use Rattle.av_client.specs.declared.again.Way.TheVariants.{One, Parts}
use Rattle.av_client.specs.declared.reply.Reply.{Reply}
use Rattle.av_paths.specs.declared.content.Manner.{Manner}

-- as one with at most so many bytes, and otherwise in parts or in vain
abbrev pub manner_of : Way → Option ℕ → Manner
manner_of Parts (Some size) = record { most = 65_536; is_in_vain = false }
manner_of One (Some size) = record { most = 1_048_576; is_in_vain = true }
manner_of way None = record { most = 1_048_576; is_in_vain = false }

-- what is known of a file of this size, where it can be had once more
abbrev pub chance_of : ℕ → Option ℕ → Chance
chance_of tries size = record { tries = tries; is_kept = is_some size; is_small = nat_le (unwrap_or size 0) 1_048_576 }

-- how the content that was asked about last is asked about again, if its reply came and wants that
abbrev pub again_after : Option (Option Reply) → ℕ → Option ℕ → Option Way
again_after (Some (Some reply)) tries size = next_way_of reply (chance_of tries size)
again_after (Some None) tries size = None
again_after None tries size = None

abbrev pub again_of : List (Option Reply) → ℕ → Option ℕ → Option Way
again_of answers tries size = again_after (slice_get answers (length answers - 1)) tries size
