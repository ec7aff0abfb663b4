use Rattle.std.proofs.Common.{sym, ◌∙◌}
use Rattle.av_script.proofs.HexLemmas.{is_hex-digits, is_hex-empty}
use Rattle.av_script.proofs.hexadecimal.is_hex.Goals as goal

pub returns-then-is_empty : goal.returns-then-is_empty
returns-then-is_empty c = sym (is_hex-empty c.args.word.now (sym c.is_empty.ensures ∙ c.if-is_empty.true))

pub returns : goal.returns
returns c = c.is_hex.ensures ∙ is_hex-digits c.args.word.now (sym c.is_empty.ensures ∙ c.if-is_empty.false)
