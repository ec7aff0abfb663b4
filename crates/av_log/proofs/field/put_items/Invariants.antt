use Rattle.std.proofs.Common.{◌≡◌, ◌++◌, map, take}
use Rattle.av_log.specs.Words.{item_of, items_text}
use Rattle.av_log.proofs.field.put_items.Given as goal

-- the fields so far were put
abbrev pub invariant-loop-field : goal.invariant-loop-field
invariant-loop-field l = l.out.items ≡ l.initial.out.items ++ items_text (map item_of (take l.field-index l.fields))
