-- Why a file isn't moved, by what was seen of it before.
use Rattle.std.specs.Prelude.{Bool, false, not, ◌&&◌, ◌==◌, Option, None, Some, if◌then◌else◌}
use Rattle.av_quarantine.specs.declared.looks.Found.{Found}
use Rattle.av_quarantine.specs.declared.looks.Node.{Node}
use Rattle.av_quarantine.specs.declared.looks.Seen.{Seen}
use Rattle.av_quarantine.specs.declared.steps.MoveFault.{MoveFault}
use Rattle.av_quarantine.specs.declared.steps.MoveFault.TheVariants.{NotRegular, Another, Inside}

-- one file: the same number on the same device
abbrev pub is_one : Node → Node → Bool
is_one a b = a.device == b.device && a.number == b.number

-- one file, and unchanged as far as its length and the time of its last writing tell
abbrev pub is_same : Seen → Seen → Bool
is_same a b = is_one a.node b.node && (a.length == b.length && a.written == b.written)

-- one folder, as far as both were seen
abbrev pub is_one_folder : Option Node → Option Node → Bool
is_one_folder (Some a) (Some b) = is_one a b
is_one_folder a b = false

-- why what was found under its name isn't moved into a folder: it is no regular file, not the one that was judged as it was then, or there already
abbrev pub why_not : Seen → Option Node → Option Node → Option Found → Option MoveFault
why_not judged own other None = Some Another
why_not judged own other (Some found) =
    if not found.is_regular then Some NotRegular
    else if not (is_same found.seen judged) then Some Another
    else if is_one_folder own other then Some Inside
    else None
