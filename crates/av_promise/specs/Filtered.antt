-- The lines of a filter that a service joined over a socket, and the audits of the services at its ports, put together.
use Rattle.std.specs.Prelude.{◌≡◌, ℕ, List, [], ◌∷◌, ◌++◌, Option, Some}
use Rattle.std.specs.Borrow.{Bor}
use Rattle.std.specs.List.{AllByRecursion as Each}
use Rattle.av_base.specs.declared.port.Port.{Port}
use Rattle.av_base.specs.declared.verdict.Verdict.TheVariants.{Clean}
use Rattle.av_files.specs.declared.opened.Opened.{Opened}
use Rattle.av_filter.specs.Audit.{FilterEntry}
use Rattle.av_filter.specs.Conduct.{FilterEvent, filter_step}
use Rattle.av_filter.specs.Mount.{Mount}
use Rattle.av_filter_table.specs.Table.{Table}
use Rattle.av_match.specs.Match.{verdict}
use Rattle.av_pend.specs.declared.answer.Answer.{Answer}
use Rattle.av_pend.specs.declared.answer.Answer.TheVariants.{Denied, Granted, Unscanned}
use Rattle.av_promise.specs.Promise.{IsServed, published_by}
use Rattle.av_sigset.specs.Publication.{Publication, published_as}
use Rattle.av_sigset.specs.declared.signature.Pattern.{Pattern}
use Rattle.av_sockets.specs.Filter.{AreFiltered, AreOpened, AreOpenedInPart, AreTold, AreToldSoFar, IsToldInPart, begun, more, nothing, unwritten}
use Rattle.av_sockets.specs.Run.{first}
use Rattle.av_status.specs.Tally.{no_files}
use Rattle.av_status.specs.declared.status.Status.{Status}
use Rattle.av_status.specs.declared.tally.Tally.{Tally}
use Rattle.av_status.specs.declared.tally.Wishes.{Wishes}
use Rattle.av_store.specs.Rows.{number_named, stream_at}
use Rattle.av_store.specs.Store.{Store}
use Rattle.av_store.specs.declared.stream.Stream.{Stream}
use Rattle.av_history.specs.Audits.{SideEntry}
use Rattle.av_history.specs.Scene.{Started}

-- an event of a filter, with what its conduct gives out at that place
abbrev pub entry_of : Table → Store → FilterEvent → FilterEntry
entry_of t v e =
    record { event = e; answers = (filter_step t v e).answers; messages = (filter_step t v e).messages; note = (filter_step t v e).note }

-- events that happened in turn
abbrev pub entries_of : Table → Store → List FilterEvent → List FilterEntry
entries_of t v [] = []
entries_of t v (e ∷ es) = entry_of t v e ∷ entries_of (filter_step t v e).table (filter_step t v e).volume es

-- what happened while a group of files was opened, and while their streams were taken away
abbrev pub history_of_group : {has_content : List ℕ → List ℕ → Type 0} {wishes : Wishes} {names : List (Bor (List ℕ))} {before after : Tally} {old new : Option (List ℕ)} {m m' : Mount}
    → AreOpened has_content wishes names before after old new m m' → List FilterEntry
history_of_group {m = m} group =
    entries_of m.table m.volume group.led.events ++ entries_of group.amid.table group.amid.volume group.cleared.leads.events

-- and all groups
abbrev pub history_of : {has_content : List ℕ → List ℕ → Type 0} {wishes : Wishes} {before : Tally} {old : Option (List ℕ)} {from : Mount} {names : List (Bor (List ℕ))} {after : Tally} {new : Option (List ℕ)} {m : Mount}
    → AreTold has_content wishes before old from names after new m → List FilterEntry
history_of nothing = []
history_of (more names group counted after held new m m' told opened) = history_of told ++ history_of_group opened

-- what happened before a front of the lines of a group was written
abbrev pub history_of_part : {has_content : List ℕ → List ℕ → Type 0} {wishes : Wishes} {names : List (Bor (List ℕ))} {old new : Option (List ℕ)} {m : Mount}
    → AreOpenedInPart has_content wishes names old new m → List FilterEntry
history_of_part {m = m} part = entries_of m.table m.volume part.led.events

-- what happened before the last line of a run was written, whatever followed
abbrev pub history_so_far : {has_content : List ℕ → List ℕ → Type 0} {wishes : Wishes} {before : Tally} {old : Option (List ℕ)} {from : Mount} {names : List (Bor (List ℕ))} {new : Option (List ℕ)}
    → AreToldSoFar has_content wishes before old from names new → List FilterEntry
history_so_far run = history_of run.told ++ history_of_part run.last

-- A grant of this stream, generation and version: the stream has the file's name, and its content, of that generation, is one that was
-- read for that name, and is clean under the patterns that were published as that version.
pub record IsCleanGrant (has_content : List ℕ → List ℕ → Type 0) (sets : List Publication) (v : Store) (name : List ℕ) (stream generation version : ℕ) : Type 0 where
  pub named : number_named name v.streams ≡ Some stream
  pub content : Stream
  pub there : stream_at stream v.streams ≡ Some content
  pub generation_is : generation ≡ content.generation
  pub read : has_content name content.bytes
  pub patterns : List Pattern
  pub published : published_as sets version ≡ Some patterns
  pub clean : verdict patterns content.bytes ≡ Clean

-- what a file was told lets it through only so
abbrev pub IsRightOf : (List ℕ → List ℕ → Type 0) → List Publication → Store → List ℕ → Answer → Type 0
IsRightOf has_content sets v name (Granted n least s g version) = IsCleanGrant has_content sets v name s g version
IsRightOf has_content sets v name (Unscanned n s g cause) = ⊥
IsRightOf has_content sets v name (Denied n cause) = Unit {0}

-- each line of each group, by the volume as it was when the line was written
abbrev pub AreRight : {has_content : List ℕ → List ℕ → Type 0} {wishes : Wishes} {before : Tally} {old : Option (List ℕ)} {from : Mount} {names : List (Bor (List ℕ))} {after : Tally} {new : Option (List ℕ)} {m : Mount}
    → List Publication → AreTold has_content wishes before old from names after new m → Type 0
AreRight sets nothing = Unit {0}
AreRight {has_content = has_content} sets (more names group counted after held new m m' told opened) =
    AreRight sets told × Each (λ (o : Opened). IsRightOf has_content sets opened.amid.volume o.name.now o.answer) opened.told.opened

-- each line of which a front was written
abbrev pub AreRightInPart : {has_content : List ℕ → List ℕ → Type 0} {wishes : Wishes} {names : List (Bor (List ℕ))} {answers : List Answer} {v : Store} {old new : Option (List ℕ)}
    → List Publication → IsToldInPart has_content wishes names answers v old new → Type 0
AreRightInPart sets (unwritten same) = Unit {0}
AreRightInPart {has_content = has_content} {v = v} sets (begun opened files named lines) = Each (λ (o : Opened). IsRightOf has_content sets v o.name.now o.answer) opened

-- Of every run of a filter over files that ended well, by what its function ensures, and services that keep the conduct: each line
-- is right.
abbrev pub FilteredGrantsAreClean : (List ℕ → List ℕ → Type 0) → Type 0
FilteredGrantsAreClean has_content =
    (names : List (Bor (List ℕ))) (wishes : Wishes) (old new : Option (List ℕ)) (status : Status) (run : AreFiltered has_content names wishes old new status)
    (starts : Port → Started) (sets : Port → List Publication) (es : List SideEntry) → IsServed (history_of run.told) starts sets es
    → AreRight (published_by sets es) run.told

-- Of every run, however it ended: each line that was written is right, those of the groups that were opened, and those of which a front was
-- written.
abbrev pub WrittenGrantsAreClean : (List ℕ → List ℕ → Type 0) → Type 0
WrittenGrantsAreClean has_content =
    (names : List (Bor (List ℕ))) (wishes : Wishes) (old new : Option (List ℕ)) (run : AreToldSoFar has_content wishes no_files old first names new)
    (starts : Port → Started) (sets : Port → List Publication) (es : List SideEntry) → IsServed (history_so_far run) starts sets es
    → AreRight (published_by sets es) run.told × AreRightInPart (published_by sets es) run.last.told
