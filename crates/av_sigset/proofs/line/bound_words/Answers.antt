use Rattle.std.proofs.Common.{◌≡◌, Some, sym, ap, ◌∙◌}
use Rattle.std.specs.Option.{option_copied}
use Rattle.hex.specs.Hex.{decode_of}
use Rattle.av_base.specs.Line.{rest_of}
use Rattle.av_sigset.specs.Judge.{signature_under, span_in}
use Rattle.av_sigset.specs.Line.{SpellsPattern}
use Rattle.av_sigset.proofs.DigitsLemmas.{made}
use Rattle.av_sigset.proofs.line.bound_words.Goals as goal

pub returns-in-Some-span_of-clause-words : goal.returns-in-Some-span_of-clause-words
returns-in-Some-span_of-clause-words c =
    let spelt : SpellsPattern c.args.digits.now = c.in_default.ensures in
    let named : span_in (rest_of 32 (option_copied c.args.behind)) ≡ Some c.in-Some-span_of.span = sym c.span_of.ensures.span ∙ c.in-Some-span_of.is in
    record {
      spells = spelt;
      bound = c.in-Some-span_of.ensures.bound;
      made = ap (signature_under c.args.name.now (decode_of c.args.digits.now)) named ∙ made c.args.name.now c.args.digits.now spelt.bytes (Some c.in-Some-span_of.span) spelt.decoded spelt.low spelt.high;
    }
