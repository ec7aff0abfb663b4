use Rattle.std.proofs.Common.{take}
use Rattle.av_sockets.specs.Filter.{AreSoFar}
use Rattle.av_sockets.proofs.filter.open_all.Given as goal

-- the files so far wait in their group or were opened
abbrev pub invariant-files : goal.invariant-files
invariant-files g l =
    AreSoFar (g.F.Contents.has_content l.files) l.wishes l.fn.tally (g.W.Write.contents l.fn.out) l.fn.opener.mount (take l.name-index l.names) l.opener.group.names.items
    l.tally (g.W.Write.contents l.out) l.opener.mount
