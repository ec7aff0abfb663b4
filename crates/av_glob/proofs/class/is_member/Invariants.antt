use Rattle.std.proofs.Common.{◌≡◌, length}
use Rattle.av_glob.specs.Class.{is_member, is_member_of}
use Rattle.av_glob.proofs.class.is_member.Given as goal

-- those that are left decide
abbrev pub invariant-members : goal.invariant-members
invariant-members l = is_member l.held l.rest l.byte ≡ is_member_of l.members l.byte

abbrev pub decreases-members : goal.decreases-members
decreases-members l = length l.rest
