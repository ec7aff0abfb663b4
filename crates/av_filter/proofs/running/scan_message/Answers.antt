use Rattle.std.proofs.Common.{◌≡◌, length, ap, ◌∙◌, arith}
use Rattle.av_base.proofs.LimitLemmas.{generation_in, length_in}
use Rattle.av_filter.proofs.ReadyLemmas.{stream_in}
use Rattle.av_filter_table.specs.Answering.{stream_bytes, stream_generation}
use Rattle.av_filter.proofs.running.scan_message.Goals as goal

pub scan-requires-clause-stream : goal.scan-requires-clause-stream
scan-requires-clause-stream c = (stream_in c.args.volume.now c.args.stream c.requires.there.0 c.limits-ranges.ensures.bounds c.requires.there.1).number

pub scan-requires-clause-generation : goal.scan-requires-clause-generation
scan-requires-clause-generation c =
    let x = c.requires.there.0 in
    let inside = stream_in c.args.volume.now c.args.stream x c.limits-ranges.ensures.bounds c.requires.there.1 in
    let is : c.generation_now.result ≡ x.generation = c.generation_now.ensures ∙ ap stream_generation c.requires.there.1 in
    let low = inside.low in
    let high = inside.high in
    let most = (generation_in c.args.volume.now.limits c.limits-ranges.ensures.bounds.limits).1 in (omega arith, omega arith)

pub scan-requires-clause-length : goal.scan-requires-clause-length
scan-requires-clause-length c =
    let x = c.requires.there.0 in
    let inside = stream_in c.args.volume.now c.args.stream x c.limits-ranges.ensures.bounds c.requires.there.1 in
    let is : c.length_now.result ≡ length x.bytes = c.length_now.ensures ∙ ap (λ o. length (stream_bytes o)) c.requires.there.1 in
    let size = inside.size in
    let most = (length_in c.args.volume.now.limits c.limits-ranges.ensures.bounds.limits).1 in
    omega arith
