-- Volumes of files that were read, and what the files were told.
use Rattle.std.proofs.Common.{ℕ, ◌≡◌, ◌<◌, ◌+◌, ◌++◌, List, [], ◌∷◌, Option, None, Some, get_or, length, map, take, refl, sym, ap, ◌∙◌, subst}
use Rattle.std.specs.Borrow.{Bor}
use Rattle.std.specs.List.{AllByRecursion as Each}
use Rattle.std.specs.Option.{option_copied}
use Rattle.std.specs.Prelude.{IfSome}
use Rattle.std.proofs.lemmas.List.{map-append, take_more}
use Rattle.av_base.specs.declared.cause.Cause.{Cause}
use Rattle.av_base.specs.declared.cause.Cause.TheVariants.{Busy, FilterRestart, Infected, NoStream, NotConnected, PortDisconnected, ScanFailed, StreamRemoved, TimedOut, Unsettled}
use Rattle.av_files.proofs.VolumeLemmas.{content_read}
use Rattle.av_files.specs.Volume.{AddsFile, AreRead, FileRead, given_of, volume_of_files}
use Rattle.av_files.specs.declared.opened.Opened.{Opened}
use Rattle.av_files.specs.declared.scanner.Input.{Input}
use Rattle.av_pend.specs.declared.answer.Answer.{Answer}
use Rattle.av_pend.specs.declared.answer.Answer.TheVariants.{Denied, Granted, Unscanned}
use Rattle.av_sigset.specs.Set.{NumberedSet}
use Rattle.av_status.specs.declared.status.Status.{Status}
use Rattle.av_status.specs.declared.tally.Tally.{Tally}
use Rattle.av_status.specs.declared.tally.Wishes.{Wishes}
use Rattle.av_store.specs.Store.{Store}
use Rattle.av_files.proofs.EachLemmas.{each_push}
use Rattle.av_host.specs.Brought.{AreTold, AreToldOf}
use Rattle.av_host.specs.Files.{AreTrueOfFiles, HoldsContents, HoldsInputs, IsTrueDenialOfFile, IsTrueOfFile}
use Rattle.av_host.specs.Lines.{AreTrueLines, IsTrueAnswer, IsTrueDenial}

-- ---- one file more

-- what a function gives of one more
map_next : {A B : Type 0} (f : A → B) (xs : List A) (i : ℕ) (d : A) → i < length xs → map f (take (i + 1) xs) ≡ map f (take i xs) ++ f (get_or xs i d) ∷ []
map_next f xs i d lt = ap (λ ys. map f ys) (take_more xs i d lt) ∙ map-append f (take i xs) (get_or xs i d ∷ [])

abbrev known_of : FileRead → List ℕ × Option (List ℕ)
known_of f = (f.name, Some f.content)

-- an input more, which was read
read_next : (inputs : List Input) (i : ℕ) (d : Input) (files : List FileRead) (bytes : List ℕ) → i < length inputs → AreRead (take i inputs) files → option_copied (get_or inputs i d).content ≡ Some bytes
    → AreRead (take (i + 1) inputs) (files ++ record { name = (get_or inputs i d).name.now; content = bytes } ∷ [])
read_next inputs i d files bytes lt read is =
    let input : Input = get_or inputs i d in
    let file : FileRead = record { name = input.name.now; content = bytes } in
    let one : given_of input ≡ known_of file = ap (λ (o : Option (List ℕ)). (input.name.now, o)) is in
    map_next given_of inputs i d lt ∙ ap (λ xs. xs ++ given_of input ∷ []) read ∙ ap (λ x. map known_of files ++ x ∷ []) one ∙ sym (map-append known_of files (file ∷ []))

pub holds_next : (inputs : List Input) (i : ℕ) (d : Input) (old new : Store) → i < length inputs → HoldsInputs (take i inputs) old
    → AddsFile old new (get_or inputs i d).name.now (option_copied (get_or inputs i d).content) → HoldsInputs (take (i + 1) inputs) new
holds_next inputs i d old new lt holds adds = by (option_copied (get_or inputs i d).content) refl adds
  where
    by : (content : Option (List ℕ)) → option_copied (get_or inputs i d).content ≡ content → AddsFile old new (get_or inputs i d).name.now content → HoldsInputs (take (i + 1) inputs) new
    by None is none = absurd none
    by (Some bytes) is more =
        record {
          files = holds.files ++ record { name = (get_or inputs i d).name.now; content = bytes } ∷ [];
          read = read_next inputs i d holds.files bytes lt holds.read is;
          volume_is = more holds.files holds.volume_is;
        }

-- a content more, which was read for its name
pub contents_next : (has_content : List ℕ → List ℕ → Type 0) (names : List (Bor (List ℕ))) (i : ℕ) (d : Bor (List ℕ)) (said : List ℕ) (content : Option (List ℕ)) (old new : Store)
    → i < length names → said ≡ (get_or names i d).now → IfSome content (λ bytes. has_content (get_or names i d).now bytes)
    → HoldsContents has_content (take i names) old → AddsFile old new said content → HoldsContents has_content (take (i + 1) names) new
contents_next has_content names i d said None old new lt same has holds adds = absurd adds
contents_next has_content names i d said (Some bytes) old new lt same has holds adds =
    let name_of : FileRead → List ℕ = λ f. f.name in
    let now_of : Bor (List ℕ) → List ℕ = λ n. n.now in
    let file : FileRead = record { name = said; content = bytes } in
    let named : map name_of (holds.files ++ file ∷ []) ≡ map now_of (take (i + 1) names) =
    map-append name_of holds.files (file ∷ []) ∙ ap (λ n. map name_of holds.files ++ n ∷ []) same ∙ ap (λ ns. ns ++ (get_or names i d).now ∷ []) holds.read.named ∙ sym (map_next now_of names i d lt) in
    let contents : Each (λ (f : FileRead). has_content f.name f.content) (holds.files ++ file ∷ []) =
    each_push (λ (f : FileRead). has_content f.name f.content) holds.files file holds.read.contents (subst (λ n. has_content n bytes) (sym same) has) in
    record { files = holds.files ++ file ∷ []; read = record { named = named; contents = contents }; volume_is = adds holds.files holds.volume_is }

-- ---- what is true of a volume of files is true of the files

true_denial : (files : List FileRead) (set : NumberedSet) (name : List ℕ) (cause : Cause) → IsTrueDenial (volume_of_files files) set name cause → IsTrueDenialOfFile files set name cause
true_denial files set name Infected found =
    let read = content_read files name found.stream found.content found.named found.there in
    record { content = found.content.bytes; read = read.0; index = found.index; ends = found.ends; infected = found.infected }
true_denial files set name NoStream found = tt
true_denial files set name NotConnected found = tt
true_denial files set name Busy found = tt
true_denial files set name TimedOut found = tt
true_denial files set name PortDisconnected found = tt
true_denial files set name ScanFailed found = tt
true_denial files set name Unsettled found = tt
true_denial files set name StreamRemoved found = tt
true_denial files set name FilterRestart found = tt

true_of_file : (files : List FileRead) (set : NumberedSet) (name : List ℕ) (a : Answer) → IsTrueAnswer (volume_of_files files) set name a → IsTrueOfFile files set name a
true_of_file files set name (Granted n least s g version) grant =
    let read = content_read files name s grant.content grant.named grant.there in
    record { content = grant.content.bytes; read = read.0; generation_is = grant.generation_is ∙ read.1; version_is = grant.version_is; clean = grant.clean }
true_of_file files set name (Unscanned n s g cause) never = never
true_of_file files set name (Denied n cause) denial = true_denial files set name cause denial

true_of_files : (files : List FileRead) (set : NumberedSet) (os : List Opened) → AreTrueLines (volume_of_files files) set os → AreTrueOfFiles files set os
true_of_files files set [] all = tt
true_of_files files set (o ∷ os) all = (true_of_file files set o.name.now o.answer all.0, true_of_files files set os all.1)

pub told_of : (files : List FileRead) (volume : Store) (set : NumberedSet) (openers : ℕ) (names : List (Bor (List ℕ))) (wishes : Wishes) (before after : Tally) (old new : Option (List ℕ)) (status : Status)
    → volume ≡ volume_of_files files → AreTold volume set openers names wishes before after old new status → AreToldOf files set openers names wishes before after old new status
told_of files volume set openers names wishes before after old new status is told =
    let same : AreTold (volume_of_files files) set openers names wishes before after old new status =
    subst (λ (v : Store). AreTold v set openers names wishes before after old new status) is told in
    record { told = same; contents = true_of_files files set same.opened same.are_true }
