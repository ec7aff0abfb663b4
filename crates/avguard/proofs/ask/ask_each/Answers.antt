use Rattle.std.proofs.Common.{◌≡◌, ◌∙◌, ◌++◌, ◌∷◌, [], ap, arith, length, rules, subst, sym}
use Rattle.std.proofs.lemmas.List.{length_push}
use Rattle.std.specs.String.{string_bytes}
use Rattle.av_status.specs.Status.{IsAsGrave}
use Rattle.avguard.specs.declared.inquiry.Found.{Found}
use Rattle.av_status.proofs.StatusLemmas.{fault_stays, grave_then}
use Rattle.avguard.proofs.AskLemmas.{found_more}
use Rattle.avguard.proofs.ask.ask_each.Goals as goal

pub returns-then-is_err-clause-tags : goal.returns-then-is_err-clause-tags
returns-then-is_err-clause-tags g c = λ first. c.ask_one.ensures.tags (c.files.invariant.0 first)

pub returns-then-is_err-clause-owed : goal.returns-then-is_err-clause-owed
returns-then-is_err-clause-owed g c = λ each. c.ask_one.ensures.owed (c.files.invariant.1 each)

pub files-preserved : goal.files-preserved
files-preserved g c = (
  λ first. c.ask_one.ensures.tags (c.files.invariant.0 first),
  λ each. c.ask_one.ensures.owed (c.files.invariant.1 each),
  subst (λ e. IsAsGrave c.args.finds.now.missed e) (sym c.or_graver-ended.ensures) (grave_then _ _ _ c.files.invariant.2),
  λ done. absurd (fault_stays c.files.ended c.in-Err.failed.status c.in-Err.ensures.failed (sym c.or_graver-ended.ensures ∙ done)),
)

pub files-preserved-in-Ok : goal.files-preserved-in-Ok
files-preserved-in-Ok g c =
    let pushed : c.push.new.self.items ≡ c.files.names.items ++ c.as_str.result ∷ [] = search rules in (
      λ first. c.ask_one.ensures.tags (c.files.invariant.0 first),
      λ each. c.ask_one.ensures.owed (c.files.invariant.1 each),
      c.files.invariant.2,
      λ done.
          let so = c.files.invariant.3 done in (
            found_more c.files.names.items _ c.as_str.result c.as_slice-files.result.now c.files.done c.index-files-done.result c.files-test.true pushed (c.as_str.ensures.value ∙ ap (λ (f : Found). string_bytes f.name) c.index-files-done.is) so.0,
            omega (arith, c.in-Ok.ensures.asked, so.1, ap (λ l. length l) pushed, length_push c.files.names.items c.as_str.result),
          ),
    )
