use Rattle.std.proofs.Common.{◌≡◌, length}
use Rattle.av_client.specs.Sending.{IsBrought}
use Rattle.av_client.proofs.sending.send_parts.Given as goal

-- all that was read so far was written in parts, and counted
abbrev pub invariant-parts : goal.invariant-parts
invariant-parts g l =
    (length l.piece ≡ 131_072)
    × IsBrought l.tag l.count (g.C.Read.remaining l.initial.content) (g.C.Read.remaining l.content) (g.W.Write.contents l.initial.out) (g.W.Write.contents l.out)
