-- The lines that a filter prints of the files that it opened, a group of them after the other.
use Rattle.std.specs.Prelude.{ℕ, ◌≡◌, List, [], ◌∷◌, ◌++◌, Option, length, map}
use Rattle.std.specs.Borrow.{Bor}
use Rattle.std.specs.Io.KnownBytes.{Appends}
use Rattle.std.specs.List.{AllByRecursion as Each, zip}
use Rattle.std.specs.List.Sorted.{IsNonDecreasingBy, IsPermutation}
use Rattle.av_base.specs.Among.{Among}
use Rattle.av_base.specs.Device.{AppendsPrefix}
use Rattle.av_pend.specs.Pend.{open_of}
use Rattle.av_pend.specs.declared.answer.Answer.{Answer}
use Rattle.av_files.specs.Opened.{ended_tally, opened_lines, tally_from}
use Rattle.av_files.specs.declared.opened.Opened.{Opened}
use Rattle.av_filter.specs.Mount.{Mount}
use Rattle.av_sockets.specs.Run.{AddsRead, AreOfContents, AreOfTheirStreams, IsContentIn, Leads, LeadsLate, first}
use Rattle.av_status.specs.Tally.{concluded, no_files}
use Rattle.av_status.specs.declared.status.Status.{Status}
use Rattle.av_status.specs.declared.tally.Tally.{Tally}
use Rattle.av_status.specs.declared.tally.Wishes.{Wishes}
use Rattle.av_store.specs.Store.{Store}

-- the file of this name, which was told this
abbrev pub opened_as : Bor (List ℕ) × Answer → Opened
opened_as (name, answer) = record { name = name; answer = answer }

-- these are the files with the answers in the order of their opens, each under the name at its place
pub record AreInOrder (names : List (Bor (List ℕ))) (answers : List Answer) (opened : List Opened) : Type 0 where
  pub ordered : List Answer
  pub same : IsPermutation answers ordered
  pub ascending : IsNonDecreasingBy open_of ordered
  pub named : opened ≡ map opened_as (zip names ordered)

-- the lines of files with these answers were written, as far as they have one, a grant that of the file's stream in the volume; and the
-- files are counted
pub record IsTold (has_content : List ℕ → List ℕ → Type 0) (wishes : Wishes) (names : List (Bor (List ℕ))) (answers : List Answer) (v : Store) (before after : Tally) (old new : Option (List ℕ)) : Type 0 where
  pub opened : List Opened
  pub files : AreInOrder names answers opened
  pub named : AreOfTheirStreams has_content v opened
  pub lines : Appends old new (opened_lines wishes opened)
  pub counted : after ≡ tally_from before opened

-- of a group that ends with a fault nothing was written, or a front of these lines
pub data IsToldInPart (has_content : List ℕ → List ℕ → Type 0) (wishes : Wishes) (names : List (Bor (List ℕ))) (answers : List Answer) (v : Store) (old new : Option (List ℕ)) : Type 0 where
  unwritten : new ≡ old → IsToldInPart has_content wishes names answers v old new
  begun : (opened : List Opened) → AreInOrder names answers opened → AreOfTheirStreams has_content v opened → AppendsPrefix old new (opened_lines wishes opened)
      → IsToldInPart has_content wishes names answers v old new

-- Files of these names were opened together. Each had become a stream and was opened, and messages came; the lines of those that have an
-- answer were written, all of them answers that the filter's conduct gave meanwhile, a grant that of the file's stream as it is; they are
-- counted; and then the streams were taken away.
pub record AreOpened (has_content : List ℕ → List ℕ → Type 0) (wishes : Wishes) (names : List (Bor (List ℕ))) (before after : Tally) (old new : Option (List ℕ)) (m m' : Mount) : Type 0 where
  pub answers : List Answer
  pub amid : Mount
  pub led : Leads m amid answers
  pub told : IsTold has_content wishes names answers amid.volume before after old new
  pub cleared : LeadsLate amid m'

-- The same of a group that ends with a fault: of the lines of those that have an answer a front was written, if any.
pub record AreOpenedInPart (has_content : List ℕ → List ℕ → Type 0) (wishes : Wishes) (names : List (Bor (List ℕ))) (old new : Option (List ℕ)) (m : Mount) : Type 0 where
  pub answers : List Answer
  pub amid : Mount
  pub led : Leads m amid answers
  pub told : IsToldInPart has_content wishes names answers amid.volume old new

-- files of these names were opened group by group: the lines of each group were written behind those of the groups before, and
-- all are counted
pub data AreTold (has_content : List ℕ → List ℕ → Type 0) (wishes : Wishes) (before : Tally) (old : Option (List ℕ)) (from : Mount) : List (Bor (List ℕ)) → Tally → Option (List ℕ) → Mount → Type 0 where
  nothing : AreTold has_content wishes before old from [] before old from
  more : (names group : List (Bor (List ℕ))) (counted after : Tally) (held new : Option (List ℕ)) (m m' : Mount)
      → AreTold has_content wishes before old from names counted held m → AreOpened has_content wishes group counted after held new m m'
      → AreTold has_content wishes before old from (names ++ group) after new m'

-- Of files of these names the first ones were opened group by group. Behind their lines a front of the lines of one more group may have
-- been written; and nothing else was.
pub record AreToldSoFar (has_content : List ℕ → List ℕ → Type 0) (wishes : Wishes) (before : Tally) (old : Option (List ℕ)) (from : Mount) (names : List (Bor (List ℕ))) (new : Option (List ℕ)) : Type 0 where
  pub opened : List (Bor (List ℕ))
  pub group : List (Bor (List ℕ))
  pub left : List (Bor (List ℕ))
  pub all : opened ++ (group ++ left) ≡ names
  pub tally : Tally
  pub held : Option (List ℕ)
  pub end : Mount
  pub told : AreTold has_content wishes before old from opened tally held end
  pub last : AreOpenedInPart has_content wishes group held new end

-- of the files that were read these wait in their group as streams, and those before them were opened; each stream has the content that
-- was read for its name
pub record AreSoFar (has_content : List ℕ → List ℕ → Type 0) (wishes : Wishes) (before : Tally) (old : Option (List ℕ)) (from : Mount) (read waiting : List (Bor (List ℕ))) (tally : Tally) (new : Option (List ℕ)) (m : Mount) : Type 0 where
  pub front : List (Bor (List ℕ))
  pub all : front ++ waiting ≡ read
  pub behind : Mount
  pub told : AreTold has_content wishes before old from front tally new behind
  pub added : Leads behind m []
  pub contents : AreOfContents has_content m.volume.streams

-- files of these names, which are the streams, were opened together: each content is that of a stream, and none was changed before it was
-- taken away
pub record OpensStreams (wishes : Wishes) (names : List (Bor (List ℕ))) (before after : Tally) (old new : Option (List ℕ)) (m m' : Mount) : Type 0 where
  pub opened : AreOpened (IsContentIn m.volume.streams) wishes names before after old new m m'
  pub fewer : Each (λ s. Among s m.volume.streams) m'.volume.streams

-- one file more was read into its group, which goes on waiting, or was opened with it
pub data GoesOn (wishes : Wishes) (name : Bor (List ℕ)) (content : Option (List ℕ)) (waited waits : List (Bor (List ℕ))) (before after : Tally) (old new : Option (List ℕ)) (m m' : Mount) : Type 0 where
  joins : waits ≡ waited ++ name ∷ [] → after ≡ before → new ≡ old → AddsRead m m' name.now content
      → GoesOn wishes name content waited waits before after old new m m'
  opens : waits ≡ [] → (full : Mount) → AddsRead m full name.now content → OpensStreams wishes (waited ++ name ∷ []) before after old new full m'
      → GoesOn wishes name content waited waits before after old new m m'

-- the same, as far as it went before a fault
pub data GoesOnInPart (wishes : Wishes) (name : Bor (List ℕ)) (content : Option (List ℕ)) (waited : List (Bor (List ℕ))) (old new : Option (List ℕ)) (m : Mount) : Type 0 where
  stops : new ≡ old → GoesOnInPart wishes name content waited old new m
  fails : (full : Mount) → AddsRead m full name.now content → AreOpenedInPart (IsContentIn full.volume.streams) wishes (waited ++ name ∷ []) old new full
      → GoesOnInPart wishes name content waited old new m

-- Files of these names were to be opened, by a filter that was just mounted: the lines of those that have an answer were written, group
-- after group, and the status is that of all files which were opened.
pub record AreFiltered (has_content : List ℕ → List ℕ → Type 0) (names : List (Bor (List ℕ))) (wishes : Wishes) (old new : Option (List ℕ)) (status : Status) : Type 0 where
  pub tally : Tally
  pub end : Mount
  pub told : AreTold has_content wishes no_files old first names tally new end
  pub ended : Status
  pub concluded : status ≡ concluded wishes (ended_tally tally (length names) ended)
