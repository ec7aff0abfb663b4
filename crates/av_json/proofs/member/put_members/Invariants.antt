use Rattle.std.proofs.Common.{◌≡◌, ◌++◌, map, take}
use Rattle.av_json.specs.Member.{joined, member_tokens}
use Rattle.av_json.proofs.member.put_members.Given as goal

-- the members so far were put
abbrev pub invariant-loop-member : goal.invariant-loop-member
invariant-loop-member l =
    (l.line.before ≡ l.initial.line.before)
    × (l.line.tokens ≡ l.initial.line.tokens ++ joined (map member_tokens (take l.member-index l.members)))
