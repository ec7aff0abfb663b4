use Rattle.std.proofs.Common.{◌<◌, List, length, arith}
use Rattle.std.proofs.lemmas.List.{length-map}
use Rattle.av_sigset.specs.Set.{patterns_of}
use Rattle.av_sigset.specs.declared.signature.Pattern.{Pattern}
use Rattle.av_sigset.specs.declared.signature.Signature.{Signature}
use Rattle.av_shared.proofs.OnlyLemmas.{same_more}
use Rattle.av_shared.proofs.still.same_patterns.Goals as goal

pub patterns-preserved : goal.patterns-preserved
patterns-preserved c =
    let ps : List Pattern = patterns_of c.args.one.now.signatures in
    let f : Signature → Pattern = λ s. s.pattern in
    let all = length-map c.args.one.now.signatures f in
    let within : c.patterns.place < length ps = omega (arith, all, c.len-place-end.ensures.len, c.patterns-test.true) in
    same_more ps (patterns_of c.args.other.now.signatures) c.patterns.place within c.patterns.invariant (c.same_pattern_at.ensures.sound c.if-not-same_pattern_at.false)
