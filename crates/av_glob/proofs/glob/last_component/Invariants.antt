use Rattle.std.proofs.Common.{◌≡◌, length}
use Rattle.av_glob.specs.Glob.{component, last_component}
use Rattle.av_glob.proofs.glob.last_component.Given as goal

-- what is left decides, from here on
abbrev pub invariant-bytes : goal.invariant-bytes
invariant-bytes l = component l.last l.rest ≡ last_component l.path

abbrev pub decreases-bytes : goal.decreases-bytes
decreases-bytes l = length l.rest
