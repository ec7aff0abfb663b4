use Rattle.av_world.proofs.SoundLemmas
use Rattle.av_world.proofs.laws.asked_at_one_port.Goals as goal

pub returns : goal.returns
returns c = record { once = SoundLemmas.scans_once; there = SoundLemmas.replies_there }
