-- What a choice sees of a world.
use Rattle.std.specs.Prelude.{ℕ, ◌+◌, List, length, is_some, codes, if◌then◌else◌}
use Rattle.av_base.specs.declared.port.Port.TheVariants.{One}
use Rattle.av_sigset.specs.Catalogue.{newest}
use Rattle.av_store.specs.Rows.{number_named}
use Rattle.av_history.specs.World.{WorldState, desk_of}
use Rattle.av_generate.specs.declared.sight.Sight.{Sight}

-- 1 where a name has a stream
abbrev pub taken : WorldState → List ℕ → ℕ
taken w name = if is_some (number_named name w.volume.streams) then 1 else 0

-- how many of the script's names have a stream
abbrev pub taken_of_all : WorldState → ℕ
taken_of_all w = taken w (codes "a") + taken w (codes "b") + taken w (codes "c")

-- what there is to see of a world, of the service of port One alone, where these works are lent, and this was the last question
unfoldable pub sight_of : WorldState → List ℕ → ℕ → Sight
sight_of w lent asked =
    record {
      latest = newest w.sets;
      streams = taken_of_all w;
      connected = (desk_of w One).connected;
      questions = length w.table.questions;
      down = length w.down;
      up = length w.up;
      works = length w.works;
      lent = length lent;
      asked = asked;
    }
