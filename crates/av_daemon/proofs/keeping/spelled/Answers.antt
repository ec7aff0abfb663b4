use Rattle.std.proofs.Common.{Some, sym}
use Rattle.std.proofs.lemmas.Bool.Decides.{Decides-eqb}
use Rattle.std.proofs.lemmas.Slice.Eq.{strip_prefix_is, strip_suffix_is}
use Rattle.av_daemon.proofs.KeepingLemmas.{says_version}
use Rattle.av_daemon.proofs.keeping.spelled.Goals as goal

pub returns : goal.returns
returns c =
    rw (c.new.ensures)
    (says_version c.args.line.now c.in_ok-strip_prefix.field-0.now c.in_ok-number.number.now c.as_slice.result.now c.as_slice-2.result.now c.in_ok-decimal.field-0
    (strip_prefix_is Decides-eqb c.args.line.now c.as_slice.result.now (Some c.in_ok-strip_prefix.field-0) c.in_ok-strip_prefix.ensures.cases)
    (strip_suffix_is Decides-eqb c.in_ok-strip_prefix.field-0.now c.as_slice-2.result.now (Some c.in_ok-number.number) c.in_ok-number.ensures.cases)
    c.as_slice.ensures c.as_slice-2.ensures (sym c.in_ok-decimal.ensures))
