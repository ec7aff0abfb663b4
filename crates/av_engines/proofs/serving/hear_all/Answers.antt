use Rattle.std.proofs.Common.{arith, ap, sym, ◌∙◌}
use Rattle.std.specs.Prelude.{None, Some}
use Rattle.av_engines.specs.Serving.{patterns_at}
use Rattle.av_engines.proofs.CauseLemmas.{left_all, left_then, of_reads}
use Rattle.av_engines.proofs.FreshLemmas.{goes_freshened, goes_heard, goes_nowhere, goes_passed, goes_then, heard_version, hearing_fails, hearing_stops, hearing_unsent, looked}
use Rattle.av_engines.proofs.serving.hear_all.Goals as goal

pub looks-init : goal.looks-init
looks-init g c = record { goes = goes_nowhere _ _ _ _ _ _ _; newest = c.requires.newest; patterns = c.requires.patterns; counted = left_all _ _ }

pub returns-in_default-clause-hears : goal.returns-in_default-clause-hears
returns-in_default-clause-hears g c =
    hearing_unsent _ _ _ _ _ _ _ _ _ _ _ _ _ _ _ _ _ _ _ c.requires.unread c.looks.invariant.goes c.in_default.ensures.freshens

pub looks-preserved-in-Ok-None : goal.looks-preserved-in-Ok-None
looks-preserved-in-Ok-None g c = record {
  goes =
      goes_then (goes_then c.looks.invariant.goes (goes_freshened _ _ _ _ _ _ _ _ _ _ _ c.in-Ok.ensures.freshens))
      (goes_passed _ _ _ _ _ _ _ _ _ (looked _ None c.in-Ok-None.field-0-is c.in-Ok-None.ensures.message));
  newest = c.in-Ok.ensures.newest;
  patterns = c.in-Ok.ensures.patterns;
  counted = left_then _ _ _ _ _ _ c.looks.invariant.counted c.look.ensures.counted;
}

pub returns-in-Err-clause-hears : goal.returns-in-Err-clause-hears
returns-in-Err-clause-hears g c =
    hearing_stops c.bytes_spell_one_list.ensures.fault _ _ _ _ _ _ _ _ _ _ _ _ _ _ _ _ _ c.requires.unread
    (goes_then c.looks.invariant.goes (goes_freshened _ _ _ _ _ _ _ _ _ _ _ c.in-Ok.ensures.freshens)) c.in-Err.ensures.stops

pub returns-in-Err-hear-clause-hears : goal.returns-in-Err-hear-clause-hears
returns-in-Err-hear-clause-hears g c =
    hearing_fails c.works_are_lent_under_the_present_version.ensures _ _ _ _ _ _ _ _ _ _ _ _ _ _ _ _ _ _ _ c.requires.unread
    c.in-Ok.ensures.patterns (goes_then c.looks.invariant.goes (goes_freshened _ _ _ _ _ _ _ _ _ _ _ c.in-Ok.ensures.freshens))
    (looked _ (Some c.in-Ok-Some.message) c.in-Ok-Some.field-0-is c.in-Ok-Some.ensures.message) c.in-Err-hear.ensures.err

pub looks-preserved-in-Ok-hear : goal.looks-preserved-in-Ok-hear
looks-preserved-in-Ok-hear g c =
    let same = heard_version c.works_are_lent_under_the_present_version.ensures _ _ _ _ _ _ c.in-Ok-hear.ensures.ok in
    record {
      goes =
          goes_then (goes_then c.looks.invariant.goes (goes_freshened _ _ _ _ _ _ _ _ _ _ _ c.in-Ok.ensures.freshens))
          (goes_heard c.works_are_lent_under_the_present_version.ensures _ _ _ _ _ _ _ _ _ _ _ _ _ c.in-Ok.ensures.patterns
          (looked _ (Some c.in-Ok-Some.message) c.in-Ok-Some.field-0-is c.in-Ok-Some.ensures.message) c.in-Ok-hear.ensures.ok);
      newest = omega (arith, same, c.in-Ok.ensures.newest);
      patterns = c.in-Ok.ensures.patterns ∙ ap (patterns_at _) (sym same);
      counted = left_then _ _ _ _ _ _ c.looks.invariant.counted c.look.ensures.counted;
    }

pub looks-preserved : goal.looks-preserved
looks-preserved g c =
    let same = heard_version c.works_are_lent_under_the_present_version.ensures _ _ _ _ _ _ c.in-Ok-hear.ensures.ok in
    record {
      goes =
          goes_then (goes_then c.looks.invariant.goes (goes_freshened _ _ _ _ _ _ _ _ _ _ _ c.in-Ok.ensures.freshens))
          (goes_heard c.works_are_lent_under_the_present_version.ensures _ _ _ _ _ _ _ _ _ _ _ _ _ c.in-Ok.ensures.patterns
          (looked _ (Some c.in-Ok-Some.message) c.in-Ok-Some.field-0-is c.in-Ok-Some.ensures.message) c.in-Ok-hear.ensures.ok);
      newest = omega (arith, same, c.in-Ok.ensures.newest);
      patterns = c.in-Ok.ensures.patterns ∙ ap (patterns_at _) (sym same);
      counted = left_then _ _ _ _ _ _ c.looks.invariant.counted c.look.ensures.counted;
    }

pub returns-in-Err-clause-read : goal.returns-in-Err-clause-read
returns-in-Err-clause-read g c =
    of_reads _ _ _ _ _ _ (left_then _ _ _ _ _ _ c.looks.invariant.counted c.look.ensures.counted) c.in-Err.ensures.read
