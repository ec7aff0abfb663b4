use Rattle.std.proofs.Common.{◌≡◌, length}
use Rattle.av_glob.specs.Glob.{is_left_out}
use Rattle.av_glob.proofs.glob.any_leaves_out.Given as goal

-- those that are left decide
abbrev pub invariant-globs : goal.invariant-globs
invariant-globs l = is_left_out l.rest l.path ≡ is_left_out l.globs l.path

abbrev pub decreases-globs : goal.decreases-globs
decreases-globs l = length l.rest
