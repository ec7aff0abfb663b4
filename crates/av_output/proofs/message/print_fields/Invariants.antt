use Rattle.std.proofs.Common.{map, take}
use Rattle.std.specs.Io.KnownBytes.{Appends}
use Rattle.av_base.specs.Part.{spelt}
use Rattle.av_output.specs.Text.Messages.{field_text}
use Rattle.av_output.proofs.message.print_fields.Given as goal

-- the fields so far were written
abbrev pub invariant-loop-field : goal.invariant-loop-field
invariant-loop-field g l = Appends (g.W.Write.contents l.initial.writer) (g.W.Write.contents l.writer) (spelt (map field_text (take l.field-index l.fields)))
