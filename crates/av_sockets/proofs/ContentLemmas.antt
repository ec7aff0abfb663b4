-- The content of a stream is one that was read for its name.
use Rattle.std.proofs.Common.{ℕ, ◌≡◌, ◌<◌, ◌≤◌, suc, true, false, cond, List, [], ◌∷◌, Option, Some, None, refl, sym, subst, arith}
use Rattle.std.specs.Borrow.{Bor}
use Rattle.std.specs.List.{AllByRecursion as Each}
use Rattle.std.specs.Option.{option_copied, option_map}
use Rattle.std.specs.Prelude.{IfSome}
use Rattle.std.specs.Cmp.{nat_cmp_is, eq_by_cmp_equiv}
use Rattle.std.specs.declared.cmp.Ordering.TheVariants.{Greater}
use Rattle.std.proofs.lemmas.Cmp.{nat_cmp_total}
use Rattle.av_base.proofs.AmongLemmas.{among_each}
use Rattle.av_base.specs.Among.{Among}
use Rattle.av_files.proofs.EachLemmas.{each_push}
use Rattle.av_files.specs.Volume.{stream_of_file}
use Rattle.av_files.specs.declared.opened.Opened.{Opened}
use Rattle.av_filter.specs.Mount.{Mount}
use Rattle.av_filter.proofs.EachLemmas.{each_weaker}
use Rattle.av_pend.specs.declared.answer.Answer.{Answer}
use Rattle.av_pend.specs.declared.answer.Answer.TheVariants.{Denied, Granted, Unscanned}
use Rattle.av_sockets.specs.Filter.{AreOpened, AreOpenedInPart, IsToldInPart, begun, unwritten}
use Rattle.av_sockets.specs.Run.{AddsRead, AreOfContents, AreOfTheirStreams, IsContentIn, IsItsStream, IsOfItsStream, Leads}
use Rattle.av_status.specs.declared.tally.Tally.{Tally}
use Rattle.av_status.specs.declared.tally.Wishes.{Wishes}
use Rattle.av_store.proofs.IndexLemmas.{same_path}
use Rattle.av_store.specs.Files.{File}
use Rattle.av_store.specs.Rows.{Streams, is_number, is_same, number_named, stream_at}
use Rattle.av_store.specs.Seen.{seen_from, stream_of}
use Rattle.av_store.specs.Sound.{IsOfFiles}
use Rattle.av_store.specs.Store.{Store}
use Rattle.av_store.specs.declared.stream.Stream.{Stream}

-- ---- the stream of a name has that name

number_self : (n : ℕ) → is_number n n ≡ true
number_self n = (eq_by_cmp_equiv nat_cmp_total).refl n

number_above : (n k : ℕ) → k < n → is_number n k ≡ false
number_above n k h = rw (sym (nat_cmp_is n k Greater h)) refl

-- a number from the first one on
named_from : (files : List File) (name : List ℕ) (first number : ℕ) → number_named name (seen_from first files) ≡ Some number → first ≤ number
unfolding seen_from
named_from [] name first number named = absurd cc
named_from (f ∷ fs) name first number named =
    (elim f.here as (λ h. number_named name (cond h ((first, stream_of f) ∷ seen_from (suc first) fs) (seen_from (suc first) fs)) ≡ Some number → first ≤ number) [
      | true ↦ elim (is_same name f.name) as (λ b. cond b (Some first) (number_named name (seen_from (suc first) fs)) ≡ Some number → first ≤ number) [
        | true ↦ λ here. let is : first ≡ number = cc in omega arith
        | false ↦ λ later. let after : suc first ≤ number = named_from fs name (suc first) number later in omega arith
      ]
      | false ↦ λ later. let after : suc first ≤ number = named_from fs name (suc first) number later in omega arith
    ]) named

-- what stands at the first number
first_own : (f : File) (later : Streams) (name : List ℕ) (first number : ℕ) (s : Stream) → is_same name f.name ≡ true → first ≡ number → stream_at number ((first, stream_of f) ∷ later) ≡ Some s → s.name ≡ name
first_own f later name first number s same is at =
    let found : ◌≡◌ {A = Option Stream} (Some (stream_of f)) (Some s) = rw (number_self first) at (subst (λ n. stream_at n ((first, stream_of f) ∷ later) ≡ Some s) (sym is) at) in
    let stream : ◌≡◌ {A = Stream} (stream_of f) s = cc in
    subst (λ (x : Stream). x.name ≡ name) stream (sym (same_path name f.name same))

named_own : (files : List File) (name : List ℕ) (first number : ℕ) (s : Stream) → number_named name (seen_from first files) ≡ Some number → stream_at number (seen_from first files) ≡ Some s → s.name ≡ name
unfolding seen_from
named_own [] name first number s named there = absurd cc
named_own (f ∷ fs) name first number s named there =
    (elim f.here as (λ h. number_named name (cond h ((first, stream_of f) ∷ seen_from (suc first) fs) (seen_from (suc first) fs)) ≡ Some number
    → stream_at number (cond h ((first, stream_of f) ∷ seen_from (suc first) fs) (seen_from (suc first) fs)) ≡ Some s → s.name ≡ name) [
      | true ↦ λ some at.
          (elim (is_same name f.name) as (λ b. is_same name f.name ≡ b → cond b (Some first) (number_named name (seen_from (suc first) fs)) ≡ Some number → s.name ≡ name) [
            | true ↦ λ e here. let is : first ≡ number = cc (here) in first_own f (seen_from (suc first) fs) name first number s e is at
            | false ↦ λ e later.
                let after : suc first ≤ number = named_from fs name (suc first) number later in
                let past : first < number = omega arith in
                named_own fs name (suc first) number s later (rw (number_above number first past) at at)
          ]) refl some
      | false ↦ λ later at. named_own fs name (suc first) number s later at
    ]) named there

-- the stream that a name names has a content under that name
pub own_content : (v : Store) (name : List ℕ) (number : ℕ) (s : Stream) → IsOfFiles v → number_named name v.streams ≡ Some number → stream_at number v.streams ≡ Some s → IsContentIn v.streams name s.bytes
own_content v name number s (files, keeps) named there =
    (number, s, there, named_own files name 1 number s (subst (λ ss. number_named name ss ≡ Some number) keeps.streams named) (subst (λ ss. stream_at number ss ≡ Some s) keeps.streams there), refl)

-- so it is the stream of a grant that names it and its generation
pub own_stream : (v : Store) (name : List ℕ) (number generation : ℕ) → IsOfFiles v → number_named name v.streams ≡ Some number → option_map (λ (s : Stream). s.generation) (stream_at number v.streams) ≡ Some generation
    → IsItsStream (IsContentIn v.streams) v name number generation
own_stream v name number generation files named is =
    (elim (stream_at number v.streams) as (λ o. stream_at number v.streams ≡ o → option_map (λ (s : Stream). s.generation) o ≡ Some generation → IsItsStream (IsContentIn v.streams) v name number generation) [
      | None ↦ λ at none. absurd cc
      | Some s ↦ λ at some.
          let same : s.generation ≡ generation = cc in
          record { named = named; content = s; there = at; generation_is = sym same; read = own_content v name number s files named at }
    ]) refl is

-- ---- contents that were read

-- a content behind a reference
pub copied_read : (has : List ℕ → List ℕ → Type 0) (name : List ℕ) (content : Option (Bor (List ℕ))) → IfSome content (λ c. has name c.now) → IfSome (option_copied content) (λ bytes. has name bytes)
copied_read has name None read = tt
copied_read has name (Some c) read = read

read_at : (has : List ℕ → List ℕ → Type 0) (ss : Streams) (n : ℕ) (s : Stream) → AreOfContents has ss → stream_at n ss ≡ Some s → has s.name s.bytes
read_at has [] n s all at = absurd cc
read_at has (e ∷ ss) n s all at =
    (elim (is_number n e.0) as (λ b. cond b (Some e.1) (stream_at n ss) ≡ Some s → has s.name s.bytes) [
      | true ↦ λ here. let same : e.1 ≡ s = cc in subst (λ (x : Stream). has x.name x.bytes) same all.0
      | false ↦ λ there. read_at has ss n s all.1 there
    ]) at

-- a content that is there was read
pub was_read : (has : List ℕ → List ℕ → Type 0) (ss : Streams) → AreOfContents has ss → (name content : List ℕ) → IsContentIn ss name content → has name content
was_read has ss all name content (n, s, at, named, is) = subst (λ c. has name c) is (subst (λ m. has m s.bytes) named (read_at has ss n s all at))

-- a file more was read
pub contents_next : (has : List ℕ → List ℕ → Type 0) (m m' : Mount) (name : List ℕ) (content : Option (List ℕ)) → IfSome content (λ bytes. has name bytes) → AreOfContents has m.volume.streams
    → AddsRead m m' name content → Leads m m' [] × AreOfContents has m'.volume.streams
contents_next has m m' name None read all adds = absurd adds
contents_next has m m' name (Some bytes) read all adds = (
  adds.leads,
  subst (AreOfContents has) (sym adds.added)
      (each_push (λ (s : ℕ × Stream). has s.1.name s.1.bytes) m.volume.streams (adds.number, stream_of_file (record { name = name; content = bytes })) all read),
)

-- streams were taken away
pub contents_left : (has : List ℕ → List ℕ → Type 0) (old new : Streams) → Each (λ s. Among s old) new → AreOfContents has old → AreOfContents has new
contents_left has old new fewer all =
    let Read : ℕ × Stream → Type 0 = λ s. has s.1.name s.1.bytes in
    each_weaker (λ s. Among s old) Read (λ s there. among_each Read old s all there) new fewer

-- ---- what holds of a content that is there holds of one that was read

module _ (has read : List ℕ → List ℕ → Type 0) (then : (name content : List ℕ) → has name content → read name content) where
  own_as : (v : Store) (name : List ℕ) (a : Answer) → IsOfItsStream has v name a → IsOfItsStream read v name a
  own_as v name (Granted n least s g version) own = record {
    named = own.named;
    content = own.content;
    there = own.there;
    generation_is = own.generation_is;
    read = then name own.content.bytes own.read;
  }
  own_as v name (Unscanned n s g cause) own = tt
  own_as v name (Denied n cause) own = tt

  all_as : (v : Store) (os : List Opened) → AreOfTheirStreams has v os → AreOfTheirStreams read v os
  all_as v os all = each_weaker (λ (o : Opened). IsOfItsStream has v o.name.now o.answer) (λ (o : Opened). IsOfItsStream read v o.name.now o.answer) (λ o own. own_as v o.name.now o.answer own) os all

  pub opened_as_read : (wishes : Wishes) (names : List (Bor (List ℕ))) (before after : Tally) (old new : Option (List ℕ)) (m m' : Mount)
      → AreOpened has wishes names before after old new m m' → AreOpened read wishes names before after old new m m'
  opened_as_read wishes names before after old new m m' o = record {
    answers = o.answers;
    amid = o.amid;
    led = o.led;
    told = record { opened = o.told.opened; files = o.told.files; named = all_as o.amid.volume o.told.opened o.told.named; lines = o.told.lines; counted = o.told.counted };
    cleared = o.cleared;
  }

  told_as : (wishes : Wishes) (names : List (Bor (List ℕ))) (answers : List Answer) (v : Store) (old new : Option (List ℕ)) → IsToldInPart has wishes names answers v old new → IsToldInPart read wishes names answers v old new
  told_as wishes names answers v old new (unwritten same) = unwritten same
  told_as wishes names answers v old new (begun opened files named lines) = begun opened files (all_as v opened named) lines

  pub part_as_read : (wishes : Wishes) (names : List (Bor (List ℕ))) (old new : Option (List ℕ)) (m : Mount) → AreOpenedInPart has wishes names old new m → AreOpenedInPart read wishes names old new m
  part_as_read wishes names old new m p = record { answers = p.answers; amid = p.amid; led = p.led; told = told_as wishes names p.answers p.amid.volume old new p.told }
