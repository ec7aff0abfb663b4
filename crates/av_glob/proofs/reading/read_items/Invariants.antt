use Rattle.std.proofs.Common.{◌≡◌, [], length}
use Rattle.av_glob.specs.Reading.{read, with_items}
use Rattle.av_glob.specs.declared.reading.Place.TheVariants.{Between}
use Rattle.av_glob.proofs.reading.read_items.Given as goal

-- the items so far and those that are left are all of them
abbrev pub invariant-bytes : goal.invariant-bytes
invariant-bytes l = with_items l.items.items (read l.place l.members.items l.rest) ≡ read Between [] l.text

abbrev pub decreases-bytes : goal.decreases-bytes
decreases-bytes l = length l.rest
