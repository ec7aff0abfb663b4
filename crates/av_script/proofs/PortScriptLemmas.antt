-- The scripts over two ports, computed.
use Rattle.std.proofs.Common.{refl, Bool, true}
use Rattle.std.specs.Fmt.{digits}
use Rattle.hex.specs.Hex.{decode_pairs, encode_with}
use Rattle.av_world.proofs.ExampleLemmas.{all_open}
use Rattle.av_script.specs.PortScripts.{each_text, AreWorked, AskedOnTheOther, NoneLeft, TwoWait, OldReply, WrittenMeanwhile, StaleReply, RunsAlone, LateHello, JobsFull, BadLines}

-- every definition that a script's text computes with
unfoldable pub scripts_open : Bool
unfolding all_open each_text digits encode_with decode_pairs
scripts_open = true

asked_on_the_other : AskedOnTheOther
unfolding scripts_open
asked_on_the_other = refl

none_left : NoneLeft
unfolding scripts_open
none_left = refl

two_wait : TwoWait
unfolding scripts_open
two_wait = refl

old_reply : OldReply
unfolding scripts_open
old_reply = refl

written_meanwhile : WrittenMeanwhile
unfolding scripts_open
written_meanwhile = refl

stale_reply : StaleReply
unfolding scripts_open
stale_reply = refl

runs_alone : RunsAlone
unfolding scripts_open
runs_alone = refl

late_hello : LateHello
unfolding scripts_open
late_hello = refl

jobs_full : JobsFull
unfolding scripts_open
jobs_full = refl

bad_lines : BadLines
unfolding scripts_open
bad_lines = record { one_written = refl; three = refl; filter_restarts = refl; no_side = refl; more = refl }

pub are_worked : AreWorked
are_worked = record { asked_on_the_other = asked_on_the_other; none_left = none_left; two_wait = two_wait; old_reply = old_reply; written_meanwhile = written_meanwhile; stale_reply = stale_reply; runs_alone = runs_alone; late_hello = late_hello; jobs_full = jobs_full; bad_lines = bad_lines }
