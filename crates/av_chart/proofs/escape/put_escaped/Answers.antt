use Rattle.std.proofs.Common.{rules, ◌≡◌, ◌++◌, add-one, ap, sym, ◌∙◌, append_assoc, take, get_or}
use Rattle.av_base.proofs.PartLemmas.{spelt_next}
use Rattle.av_chart.specs.Escape.{escaped, escaped_byte}
use Rattle.av_chart.proofs.escape.put_escaped.Goals as goal

pub loop-byte-preserved : goal.loop-byte-preserved
loop-byte-preserved c =
    let at = c.loop-byte.byte-index in
    let bs = c.args.bytes.now in
    let own = escaped_byte (get_or bs at 0) in
    let put : c.put_escaped_byte.new.page.items ≡ c.loop-byte.page.items ++ own = search rules in
    rw add-one
    (put ∙ ap (λ t. t ++ own) c.loop-byte.invariant ∙ append_assoc c.args.page.now.items (escaped (take at bs)) own
    ∙ ap (λ t. c.args.page.now.items ++ t) (sym (spelt_next escaped_byte bs at 0 c.loop-byte-test.true)))
