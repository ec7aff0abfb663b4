-- Which version a message shows to the caller who hands it in.
use Rattle.std.specs.Prelude.{ℕ}
use Rattle.av_filter.specs.declared.note.Note.{Note}
use Rattle.av_filter.specs.declared.note.Note.TheVariants.{Welcome}
use Rattle.av_frame.specs.Message.{Letter}
use Rattle.av_frame.specs.declared.message.Body.{Body}
use Rattle.av_frame.specs.declared.message.Body.TheVariants.{Hello, Updated}

-- a service that was welcome with it, or that was updated to it
abbrev pub shown_by : Body → Note → ℕ
shown_by (Hello volume version) Welcome = version
shown_by (Updated version) note = version
shown_by _ note = 0

-- the same of a message with its port
abbrev pub version_shown : Letter → Note → ℕ
version_shown m note = shown_by m.body note
