use Rattle.std.proofs.Common.{rules, ◌≡◌, ◌++◌, add-one, ap, sym, ◌∙◌, get_or}
use Rattle.av_base.proofs.PartLemmas.{spelt_next}
use Rattle.av_chart.specs.Escape.{printed_byte}
use Rattle.av_chart.proofs.escape.printed.Goals as goal

pub loop-byte-preserved : goal.loop-byte-preserved
loop-byte-preserved c =
    let at = c.loop-byte.byte-index in
    let bs = c.args.bytes.now in
    let own = printed_byte (get_or bs at 0) in
    let put : c.put_printed_byte.new.page.items ≡ c.loop-byte.text.items ++ own = search rules in
    rw add-one (put ∙ ap (λ t. t ++ own) c.loop-byte.invariant ∙ sym (spelt_next printed_byte bs at 0 c.loop-byte-test.true))
