use Rattle.std.proofs.Common.{◌≡◌, take}
use Rattle.av_host.specs.Lines.{receipts_of}
use Rattle.av_host.proofs.host.receipts_of.Given as goal

abbrev pub invariant-openers : goal.invariant-openers
invariant-openers l = l.all.items ≡ receipts_of (take l.opener-index l.brought)
