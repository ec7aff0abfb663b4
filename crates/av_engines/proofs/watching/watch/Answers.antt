use Rattle.std.proofs.Common.{◌+◌, ◌≤◌, ◌∙◌, length, sym, subst, eq-eqb}
use Rattle.std.proofs.lemmas.Bool.{ne_eqb}
use Rattle.av_store.specs.Store.{greatest}
use Rattle.av_engines.proofs.CauseLemmas.{left_all, left_then, of_reads}
use Rattle.av_engines.proofs.IncomingLemmas.{takes_less}
use Rattle.av_engines.proofs.WatchingLemmas.{done_is, nothing_watched, watching_begins, watching_goes_on, watching_stops, watching_fails, watching_ends, watching_breaks}
use Rattle.av_engines.proofs.watching.watch.Goals as goal

pub returns-in-Err-clause-runs : goal.returns-in-Err-clause-runs
returns-in-Err-clause-runs g c = nothing_watched _ _ _ _ _ _ _ _ _ _ _ _ c.in-Err.ensures.amid.0 c.in-Err.ensures.amid.1

pub messages-init : goal.messages-init
messages-init g c = record {
  watching = watching_begins _ _ _ _ _ _ _ _ _ _ _ _ _ c.requires.nothing c.in-Ok.ensures.ok;
  left = λ before. subst (λ n. n + length c.args.opens.now ≤ greatest) (sym (c.in-Ok.ensures.left before)) c.requires.left;
  first = c.begin.ensures.first ∙ c.requires.none.1;
  counted = left_all _ _;
}

pub returns-in-Err-next-clause-runs : goal.returns-in-Err-next-clause-runs
returns-in-Err-next-clause-runs g c =
    let h = c.messages.invariant.watching in
    let open_still = done_is _ _ _ _ _ _ _ _ _ _ _ _ _ _ _ _ _ h c.messages.invariant.first c.messages.tally.counted ∙ ne_eqb _ _ c.messages-test.true in
    watching_stops c.bytes_spell_one_list.ensures.fault _ _ _ _ _ _ c.messages.exchange c.next.new.self _ _ _ _ _ _ _ _ _ _ h open_still c.in-Err-next.ensures.stops

pub returns-in-Err-hear-clause-runs : goal.returns-in-Err-hear-clause-runs
returns-in-Err-hear-clause-runs g c =
    let h = c.messages.invariant.watching in
    let open_still = done_is _ _ _ _ _ _ _ _ _ _ _ _ _ _ _ _ _ h c.messages.invariant.first c.messages.tally.counted ∙ ne_eqb _ _ c.messages-test.true in
    watching_fails _ _ _ _ _ c.messages.exchange c.next.new.self _ _ _ _ _ _ _ _ _ _ _ _ _ _ h open_still c.in-Ok-next.ensures.message c.in-Err-hear.ensures.amid

pub messages-smaller-in-Ok-hear : goal.messages-smaller-in-Ok-hear
messages-smaller-in-Ok-hear g c = takes_less _ _ _ _ _ c.in-Ok-next.ensures.message.taken

pub messages-smaller : goal.messages-smaller
messages-smaller g c = takes_less _ _ _ _ _ c.in-Ok-next.ensures.message.taken

pub messages-preserved-in-Ok-hear : goal.messages-preserved-in-Ok-hear
messages-preserved-in-Ok-hear g c =
    let h = c.messages.invariant.watching in
    let open_still = done_is _ _ _ _ _ _ _ _ _ _ _ _ _ _ _ _ _ h c.messages.invariant.first c.messages.tally.counted ∙ ne_eqb _ _ c.messages-test.true in
    record {
      watching = watching_goes_on _ _ _ _ _ c.messages.exchange c.next.new.self _ _ _ _ _ _ _ _ _ _ _ _ _ _ _ _ h open_still c.in-Ok-next.ensures.message c.in-Ok-hear.ensures.ok;
      left = λ before. let kept = c.in-Ok-hear.ensures.left before in subst (λ n. n + length c.args.opens.now ≤ greatest) (sym kept.1) (c.messages.invariant.left kept.0);
      first = c.hear.ensures.first ∙ c.messages.invariant.first;
      counted = left_then _ _ _ _ _ _ c.messages.invariant.counted c.next.ensures.counted;
    }

pub messages-preserved : goal.messages-preserved
messages-preserved g c =
    let h = c.messages.invariant.watching in
    let open_still = done_is _ _ _ _ _ _ _ _ _ _ _ _ _ _ _ _ _ h c.messages.invariant.first c.messages.tally.counted ∙ ne_eqb _ _ c.messages-test.true in
    record {
      watching = watching_goes_on _ _ _ _ _ c.messages.exchange c.next.new.self _ _ _ _ _ _ _ _ _ _ _ _ _ _ _ _ h open_still c.in-Ok-next.ensures.message c.in-Ok-hear.ensures.ok;
      left = λ before. let kept = c.in-Ok-hear.ensures.left before in subst (λ n. n + length c.args.opens.now ≤ greatest) (sym kept.1) (c.messages.invariant.left kept.0);
      first = c.hear.ensures.first ∙ c.messages.invariant.first;
      counted = left_then _ _ _ _ _ _ c.messages.invariant.counted c.next.ensures.counted;
    }

pub returns-in-Ok-flush-clause-runs : goal.returns-in-Ok-flush-clause-runs
returns-in-Ok-flush-clause-runs g c =
    let h = c.messages.invariant.watching in
    let done = done_is _ _ _ _ _ _ _ _ _ _ _ _ _ _ _ _ _ h c.messages.invariant.first c.messages.tally.counted ∙ eq-eqb _ _ c.messages-test.false in
    watching_ends _ _ _ _ _ _ _ _ _ _ _ _ _ _ _ _ h done c.in-Ok-flush.ensures.writes

pub returns-in-Err-flush-clause-runs : goal.returns-in-Err-flush-clause-runs
returns-in-Err-flush-clause-runs g c =
    watching_breaks _ _ _ _ _ _ _ _ _ _ _ _ _ _ _ _ c.messages.invariant.watching c.in-Err-flush.ensures.writes

pub returns-in-Err-next-clause-read : goal.returns-in-Err-next-clause-read
returns-in-Err-next-clause-read g c =
    of_reads _ _ _ _ _ _ (left_then _ _ _ _ _ _ c.messages.invariant.counted c.next.ensures.counted) c.in-Err-next.ensures.read
