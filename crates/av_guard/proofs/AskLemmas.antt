-- Asks, as events of a guard's filter.
use Rattle.std.proofs.Common.{◌≡◌, ℕ, ◌+◌, ◌==◌, Bool, true, false, List, [], ◌∷◌, ◌++◌, map, Option, Some, None, if◌then◌else◌, refl, ap, ◌∙◌, sym, subst, append-nil}
use Rattle.std.specs.Option.{option_map}
use Rattle.std.specs.Result.{result_err}
use Rattle.av_base.specs.Among.{Among}
use Rattle.av_filter.proofs.EachLemmas.{each_weaker}
use Rattle.av_filter.proofs.FitLemmas.{event_fits}
use Rattle.av_filter.specs.Audit.{FilterEntry}
use Rattle.av_filter.specs.Conduct.{FilterEvent, Changes, Opens, filter_refusal, filter_step}
use Rattle.av_filter.specs.Fit.{Stands}
use Rattle.av_filter.specs.Reaction.{Reaction, only}
use Rattle.av_filter.specs.declared.fault.FilterFault.TheVariants as filter_fault
use Rattle.av_filter.specs.declared.note.Note.TheVariants.{Quiet}
use Rattle.av_filter_table.specs.Table.{Table}
use Rattle.av_frame.specs.Message.{Letter}
use Rattle.av_store.proofs.SeenLemmas.{next_free}
use Rattle.av_filter.proofs.StoringLemmas.{at_last, created_as, created_is, creation_fits, creation_taken, stored_by}
use Rattle.av_guard.proofs.LawLemmas.{opens_its_bytes}
use Rattle.av_guard.proofs.PairLemmas.{of_two}
use Rattle.av_guard.proofs.PastLemmas.{Past, entry_of, past_more, present}
use Rattle.av_guard.proofs.RunLemmas.{Made, made_of, undone_step, write_taken}
use Rattle.av_guard.proofs.SoundLemmas.{IsNameOf, free_name, written_more, written_same}
use Rattle.av_guard.proofs.StoryLemmas.{Story, opens_story}
use Rattle.av_guard.proofs.TellLemmas.{IsAsking, asking_more, founded_more}
use Rattle.av_filter.specs.Storing.{IsStored, stored, stream_with}
use Rattle.av_guard.specs.Asking.{IsRefused, IsThere, asked, ask_fault, kept, place_fault, place_of, spent}
use Rattle.av_guard.specs.Asking as refused_so
use Rattle.av_guard.specs.Place.{Held, Missing, Spot, Unused}
use Rattle.av_guard.specs.Run.{IsFounded, all_held}
use Rattle.av_guard.specs.State.{State}
use Rattle.av_guard.specs.Waiting.{ArePaired}
use Rattle.av_guard.specs.Written.{AreWritten}
use Rattle.av_guard.specs.Ask.{Ask}
use Rattle.av_guard.specs.declared.fault.AskFault.TheVariants.{OpensSpent}
use Rattle.av_guard.specs.declared.given.Told.{Told}
use Rattle.av_guard.specs.declared.waiter.Waiter.{Waiter}
use Rattle.av_store.specs.Files.{Create, Remove, Write}
use Rattle.av_store.specs.History.{content, now}
use Rattle.av_store.specs.Rows.{stream_at}
use Rattle.av_store.specs.Sound.{IsOfFiles}
use Rattle.av_store.specs.Store.{Store, create_of, greatest}
use Rattle.av_store.specs.declared.stream.Stream.{Stream}

module _ (t0 : Table) (v0 : Store) (asks : List Ask) (told : List Told) (sent : List Letter) where
  -- what stays of a guard whose history is longer by two events that told nothing
  two_more : (history : List FilterEntry) (x y : FilterEntry) (g : State) (t : Table) (v : Store) → Story t0 v0 asks told sent history g → Past t0 v0 t v sent (history ++ x ∷ [] ++ y ∷ []) → Stands t v → AreWritten g.key v.streams → t.pended ≡ g.table.pended
      → Story t0 v0 asks told sent (history ++ x ∷ [] ++ y ∷ []) (record g { table = t; volume = v })
  two_more history x y g t v s past stands written same = record {
    past = past;
    stands = stands;
    written = written;
    paired = subst (λ ps. ArePaired ps g.waiting) (sym same) s.paired;
    waiting = each_weaker (λ e. IsAsking asks history e.1) (λ e. IsAsking asks (history ++ x ∷ [] ++ y ∷ []) e.1) (λ e h. asking_more (history ++ x ∷ []) y asks e.1 (asking_more history x asks e.1 h)) g.waiting s.waiting;
    founded = each_weaker (IsFounded asks history) (IsFounded asks (history ++ x ∷ [] ++ y ∷ [])) (λ a h. founded_more (history ++ x ∷ []) y asks a (founded_more history x asks a h)) told s.founded;
  }

  module _ (history : List FilterEntry) (g : State) (s : Story t0 v0 asks told sent history g) (name : List ℕ) (creates : result_err (create_of g.volume name) ≡ None) where
    abbrev first : FilterEvent
    first = Changes (Create name)

    abbrev x : FilterEntry
    x = entry_of g.table g.volume first

    made : Made g.volume name
    made = made_of g.volume name creates

    of_files : IsOfFiles g.volume
    of_files = (map now (all_held [] history), s.past.keeps)

    away : stream_at (g.volume.last + 1) g.volume.streams ≡ None
    away = next_free g.volume of_files

    is : filter_step g.table g.volume first ≡ only g.table made.volume Quiet
    is = created_is g.table g.volume made.volume name made.id made.ok

    past_first : Past t0 v0 g.table made.volume sent (history ++ x ∷ [])
    past_first =
        subst (λ ms. Past t0 v0 g.table made.volume ms (history ++ x ∷ [])) (append-nil sent)
        (subst (λ (r : Reaction). Past t0 v0 r.table r.volume (sent ++ r.messages) (history ++ x ∷ [])) is (past_more t0 v0 g.table g.volume sent history first s.past (creation_taken g.table g.volume made.volume name made.id made.ok)))

    stands_first : Stands g.table made.volume
    stands_first = record { coherent = s.stands.coherent; fits = creation_fits g.table g.volume made.volume name made.id s.stands.fits made.ok }

    -- a content comes to be kept
    pub kept_story : (c : List ℕ) → IsNameOf g.key c name → IsThere g c (Unused name) → (h : List FilterEntry) × Story t0 v0 asks told sent h (kept g name c)
    kept_story c named there =
        let n = g.volume.last + 1 in
        let second = Changes (Write n 0 c) in
        let taken = write_taken g.table g.volume name c made away there.1 in
        let here : filter_refusal g.table made.volume second ≡ None = subst (λ (r : Reaction). filter_refusal r.table r.volume second ≡ None) is taken in
        let number : made.id ≡ n = (created_as g.volume made.volume name made.id made.ok).number in
        let whole : filter_step g.table made.volume second ≡ stored g.table g.volume name c = ap (λ (r : Reaction). filter_step r.table r.volume second) (sym is) in
        let kept_so : IsStored g.table g.volume name c (filter_step g.table made.volume (Changes (Write made.id 0 c))).table (filter_step g.table made.volume (Changes (Write made.id 0 c))).volume =
        stored_by g.table _ g.volume made.volume _ name c made.id s.stands.fits away made.ok (subst (λ k. filter_refusal g.table made.volume (Changes (Write k 0 c)) ≡ None) (sym number) here) refl refl in
        let y = entry_of g.table made.volume second in
        let quiet : (filter_step g.table made.volume second).messages ≡ [] = ap (λ (r : Reaction). r.messages) whole ∙ kept_so.messages in
        let past : Past t0 v0 (stored g.table g.volume name c).table (stored g.table g.volume name c).volume sent (history ++ x ∷ [] ++ y ∷ []) =
        subst (λ (r : Reaction). Past t0 v0 r.table r.volume sent (history ++ x ∷ [] ++ y ∷ [])) whole
        (subst (λ ms. Past t0 v0 (filter_step g.table made.volume second).table (filter_step g.table made.volume second).volume ms (history ++ x ∷ [] ++ y ∷ [])) (ap (λ ms. sent ++ ms) quiet ∙ append-nil sent)
        (past_more t0 v0 g.table made.volume sent (history ++ x ∷ []) second past_first here)) in
        let stands : Stands (stored g.table g.volume name c).table (stored g.table g.volume name c).volume = subst (λ (r : Reaction). Stands r.table r.volume) whole (event_fits g.table made.volume second stands_first here) in
        let pended : (stored g.table g.volume name c).table.pended ≡ g.table.pended = sym (ap (λ (t : Table). t.pended) kept_so.table) ∙ kept_so.pended in
        (history ++ x ∷ [] ++ y ∷ [], two_more history x y g (stored g.table g.volume name c).table (stored g.table g.volume name c).volume s past stands (written_same _ _ _ there.1 (written_more _ _ _ name c s.written named)) pended)

    -- and its opens are counted as before
    pub kept_opens : (c : List ℕ) → IsThere g c (Unused name) → (kept g name c).volume.opens ≡ g.volume.opens
    kept_opens c there =
        let n = g.volume.last + 1 in
        let second = Changes (Write n 0 c) in
        let here : filter_refusal g.table made.volume second ≡ None = subst (λ (r : Reaction). filter_refusal r.table r.volume second ≡ None) is (write_taken g.table g.volume name c made away there.1) in
        let number : made.id ≡ n = (created_as g.volume made.volume name made.id made.ok).number in
        let kept_so : IsStored g.table g.volume name c (filter_step g.table made.volume (Changes (Write made.id 0 c))).table (filter_step g.table made.volume (Changes (Write made.id 0 c))).volume =
        stored_by g.table _ g.volume made.volume _ name c made.id s.stands.fits away made.ok (subst (λ k. filter_refusal g.table made.volume (Changes (Write k 0 c)) ≡ None) (sym number) here) refl refl in
        sym (ap (λ (v : Store). v.opens) kept_so.volume) ∙ kept_so.opens

    pub kept_stream : (c : List ℕ) → IsThere g c (Unused name) → stream_at (g.volume.last + 1) (kept g name c).volume.streams ≡ Some (stream_with name c)
    kept_stream c there = ap (stream_at (g.volume.last + 1)) there.1 ∙ at_last g.volume.streams (g.volume.last + 1) (stream_with name c) away

    -- a number is spent
    pub spent_story : (h : List FilterEntry) × Story t0 v0 asks told sent h (spent g)
    spent_story =
        let second = Changes (Remove (g.volume.last + 1)) in
        let done = undone_step g.table g.volume name made s.stands.fits away in
        let y = entry_of g.table made.volume second in
        let past : Past t0 v0 g.table (record g.volume { last = g.volume.last + 1 }) sent (history ++ x ∷ [] ++ y ∷ []) =
        subst (λ ms. Past t0 v0 g.table (record g.volume { last = g.volume.last + 1 }) ms (history ++ x ∷ [] ++ y ∷ [])) (append-nil sent)
        (subst (λ (r : Reaction). Past t0 v0 r.table r.volume (sent ++ r.messages) (history ++ x ∷ [] ++ y ∷ [])) done.1 (past_more t0 v0 g.table made.volume sent (history ++ x ∷ []) second past_first done.0)) in
        let stands : Stands g.table (record g.volume { last = g.volume.last + 1 }) = subst (λ (r : Reaction). Stands r.table r.volume) done.1 (event_fits g.table made.volume second stands_first done.0) in
        (history ++ x ∷ [] ++ y ∷ [], two_more history x y g g.table (record g.volume { last = g.volume.last + 1 }) s past stands s.written refl)

  -- memory was refused to an ask
  pub refused_story : (history : List FilterEntry) (old new : State) (c : List ℕ) → Story t0 v0 asks told sent history old → IsRefused old new c → (h : List FilterEntry) × Story t0 v0 asks told sent h new
  refused_story history old new c s (refused_so.Same same) = (history, subst (Story t0 v0 asks told sent history) (sym same) s)
  refused_story history old new c s (refused_so.Spent name is creates same) =
      let done = spent_story history old s name creates in (done.0, subst (Story t0 v0 asks told sent done.0) (sym same) done.1)
  refused_story history old new c s (refused_so.Kept name is there same) =
      let done = kept_story history old s name there.0 c (free_name old.key old.volume c name is) there in (done.0, subst (Story t0 v0 asks told sent done.0) (sym same) done.1)

  opens_left : (g : State) (c : List ℕ) → ask_fault g c ≡ None → (g.volume.opens == greatest) ≡ false
  opens_left g c none = go (g.volume.opens == greatest) refl none
    where
      go : (b : Bool) → (g.volume.opens == greatest) ≡ b → (if b then Some OpensSpent else place_fault g (place_of g c)) ≡ None → (g.volume.opens == greatest) ≡ false
      go false e n = e
      go true e n = absurd cc

  may_open : (t : Table) (v : Store) (s : ℕ) → (v.opens == greatest) ≡ false → filter_refusal t v (Opens s 0) ≡ None
  unfolding filter_refusal
  may_open t v s left = ap (λ b. if b then Some filter_fault.OpensSpent else None) left

  bytes_of : (o : Option Stream) (c : List ℕ) → option_map (λ (x : Stream). x.bytes) o ≡ Some c → (x : Stream) × (o ≡ Some x) × (x.bytes ≡ c)
  bytes_of None c bad = absurd cc
  bytes_of (Some x) c is = (x, refl, cc)

  -- a content was asked about
  pub asked_story : (history : List FilterEntry) (g : State) (ask : Ask) → Story t0 v0 asks told sent history g → Among ask asks → ask_fault g ask.content ≡ None → IsThere g ask.content (place_of g ask.content)
      → (h : List FilterEntry)
      × Story t0 v0 asks (told ++ (asked g ask.client ask.tag ask.content (place_of g ask.content)).told) (sent ++ (asked g ask.client ask.tag ask.content (place_of g ask.content)).messages) h (asked g ask.client ask.tag ask.content (place_of g ask.content)).state
  asked_story history g ask s among none there = go (place_of g ask.content) refl there
    where
      left : (g.volume.opens == greatest) ≡ false
      left = opens_left g ask.content none

      go : (spot : Spot) → place_of g ask.content ≡ spot → IsThere g ask.content spot
          → (h : List FilterEntry) × Story t0 v0 asks (told ++ (asked g ask.client ask.tag ask.content spot).told) (sent ++ (asked g ask.client ask.tag ask.content spot).messages) h (asked g ask.client ask.tag ask.content spot).state
      go Missing is there = (history, subst (λ ms. Story t0 v0 asks (told ++ []) ms history g) (sym (append-nil sent)) (subst (λ ts. Story t0 v0 asks ts sent history g) (sym (append-nil told)) s))
      go (Held n) is there =
          let w : Waiter = record { client = ask.client; tag = ask.tag; stream = n } in
          let x = bytes_of (stream_at n g.volume.streams) ask.content (opens_its_bytes g ask.content n is) in
          let two : x.0.generation ≡ 2 = (of_two g.key g.volume.streams s.written n x.0 x.1).once in
          let bytes : content (all_held [] history) n 2 ≡ Some ask.content = subst (λ k. content (all_held [] history) n k ≡ Some ask.content) two (present g.volume (all_held [] history) n x.0 s.past.keeps x.1 ∙ ap (λ b. Some b) x.2) in
          opens_story t0 v0 asks told sent history g w s (record { ask = ask; taken = among; client = refl; tag = refl; bytes = bytes }) (may_open g.table g.volume n left)
      go (Unused name) is there =
          let n = g.volume.last + 1 in
          let w : Waiter = record { client = ask.client; tag = ask.tag; stream = n } in
          let k = kept_story history g s name there.0 ask.content (free_name g.key g.volume ask.content name is) there in
          let bytes : content (all_held [] k.0) n 2 ≡ Some ask.content = present (kept g name ask.content).volume (all_held [] k.0) n (stream_with name ask.content) k.1.past.keeps (kept_stream history g s name there.0 ask.content there) in
          let more : ((kept g name ask.content).volume.opens == greatest) ≡ false = ap (λ o. o == greatest) (kept_opens history g s name there.0 ask.content there) ∙ left in
          opens_story t0 v0 asks told sent k.0 (kept g name ask.content) w k.1 (record { ask = ask; taken = among; client = refl; tag = refl; bytes = bytes }) (may_open (kept g name ask.content).table (kept g name ask.content).volume n more)
