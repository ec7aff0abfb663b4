use Rattle.std.proofs.Common.{◌≡◌, ◌++◌, map, take}
use Rattle.av_log.specs.Line.{items_tokens}
use Rattle.av_log.specs.Words.{item_of}
use Rattle.av_log.proofs.line.put_items.Given as goal

-- the fields so far were put
abbrev pub invariant-loop-field : goal.invariant-loop-field
invariant-loop-field l =
    (l.line.before ≡ l.initial.line.before)
    × (l.line.tokens ≡ l.initial.line.tokens ++ items_tokens (map item_of (take l.field-index l.fields)))
