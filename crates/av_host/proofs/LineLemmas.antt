-- Lines that are true, one after the other.
use Rattle.std.proofs.Common.{◌≡◌, ◌<◌, ◌+◌, ℕ, List, [], ◌∷◌, ◌++◌, Some, get_or, length, take, refl, sym, ap, ◌∙◌, subst}
use Rattle.std.specs.List.{AllByRecursion as Each}
use Rattle.av_base.specs.Among.{Among}
use Rattle.av_base.specs.declared.verdict.Verdict.TheVariants.{Clean}
use Rattle.av_files.specs.declared.opened.Opened.{Opened}
use Rattle.av_filter.specs.Audit.{answers_given}
use Rattle.av_gate.specs.declared.audit.Audit.{Audit as GateAudit}
use Rattle.av_match.specs.Match.{verdict}
use Rattle.av_pend.specs.declared.answer.Answer.{Answer}
use Rattle.av_pend.specs.declared.answer.Answer.TheVariants.{Denied, Granted, Unscanned}
use Rattle.av_shared.specs.Still.{TellsTrue}
use Rattle.av_sigset.specs.Set.{NumberedSet, patterns_of}
use Rattle.av_store.specs.Store.{Store}
use Rattle.av_host.specs.Lines.{AreDeniedRight, AreOfTheirFiles, AreTrueLines, IsDeniedRight, IsOfItsFile, IsSameStream, IsTrueAnswer, IsTrueLine}

true_answer : (gate : GateAudit) (set : NumberedSet) (v : Store) (name : List ℕ) (a : Answer) → TellsTrue gate set → Among a (answers_given gate.events.items) → IsOfItsFile v gate.volume name a → IsDeniedRight v set name a → IsTrueAnswer v set name a
true_answer gate set v name (Granted n least s g u) tells there same right =
    let said = tells (Granted n least s g u) there same.other same.also in
    record {
      named = same.named;
      content = same.content;
      there = same.there;
      generation_is = said.0 ∙ same.generation;
      version_is = said.1;
      clean = subst (λ bytes. Clean ≡ verdict (patterns_of set.signatures) bytes) same.bytes said.2;
    }
true_answer gate set v name (Unscanned n s g cause) tells there same right = tells (Unscanned n s g cause) there
true_answer gate set v name (Denied n cause) tells there same right = right

pub true_lines : (gate : GateAudit) (set : NumberedSet) (v : Store) (os : List Opened) → TellsTrue gate set → Each (λ (o : Opened). Among o.answer (answers_given gate.events.items)) os → AreOfTheirFiles v gate.volume os → AreDeniedRight v set os → AreTrueLines v set os
true_lines gate set v [] tells there same right = tt
true_lines gate set v (o ∷ os) tells there same right = (true_answer gate set v o.name.now o.answer tells there.0 same.0 right.0, true_lines gate set v os tells there.1 same.1 right.1)
