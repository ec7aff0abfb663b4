use Rattle.std.proofs.Common.{ℕ, ◌≡◌, ◌∙◌, List, Option, rules, subst}
use Rattle.std.specs.Borrow.{Bor}
use Rattle.av_files.specs.Volume.{FileRead, volume_of_files}
use Rattle.av_host.proofs.FileLemmas.{told_of}
use Rattle.av_host.specs.Brought.{AreTold, AreToldOf}
use Rattle.av_sigset.specs.Set.{NumberedSet}
use Rattle.av_status.specs.Tally.{no_files}
use Rattle.av_status.specs.declared.status.Status.{Status}
use Rattle.av_status.specs.declared.tally.Tally.{Tally}
use Rattle.av_status.specs.declared.tally.Wishes.{Wishes}
use Rattle.av_store.specs.Store.{Store}
use Rattle.av_host.proofs.host.host_files.Goals as goal

-- the same of no file so far, under the set that was read and of the names that were given
told_as : (files : List FileRead) (volume : Store) (built set : NumberedSet) (openers : ℕ) (opened names : List (Bor (List ℕ))) (wishes : Wishes) (before after : Tally) (old new : Option (List ℕ)) (status : Status)
    → volume ≡ volume_of_files files → built ≡ set → opened ≡ names → before ≡ no_files → AreTold volume built openers opened wishes before after old new status
    → AreToldOf files set openers names wishes no_files after old new status
told_as files volume built set openers opened names wishes before after old new status is same named none told =
    subst (λ (t : Tally). AreToldOf files set openers names wishes t after old new status) none
    (subst (λ (ns : List (Bor (List ℕ))). AreToldOf files set openers ns wishes before after old new status) named
    (subst (λ (s : NumberedSet). AreToldOf files s openers opened wishes before after old new status) same
    (told_of files volume built openers opened wishes before after old new status is told)))

pub returns-in-Ok-host_group : goal.returns-in-Ok-host_group
returns-in-Ok-host_group g c = λ well.
    let holds = c.in-Ok-read_inputs.ensures.volume in
    record {
      tally = c.host_group.new.tally;
      ended = c.in-Ok-host_group.ended;
      set = c.in-Ok.set;
      spelled = c.in-Ok.ensures.set;
      files = holds.files;
      read = holds.read;
      told = told_as holds.files _ _ c.in-Ok.set _ _ _ _ _ _ _ _ _ holds.volume_is c.in-Ok-build.ensures (c.as_slice.ensures.value ∙ c.in-Ok-read_inputs.ensures.names) c.new-tally.ensures c.in-Ok-host_group.ensures.told;
      concluded = search rules;
    }
