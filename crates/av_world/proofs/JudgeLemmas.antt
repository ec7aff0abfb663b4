-- A judgement is right by the history alone.
use Rattle.std.proofs.Common.{ℕ, ◌≡◌, List, [], ◌∷◌, map, None, Some, Ok, refl, sym, ◌∙◌, subst}
use Rattle.std.specs.Option.{option_map}
use Rattle.av_match.specs.Match.{verdict}
use Rattle.av_sigset.specs.Publication.{publication_of, published_as}
use Rattle.av_sigset.specs.Set.{NumberedSet, patterns_of}
use Rattle.av_store.proofs.HistoryLemmas.{remembers}
use Rattle.av_store.proofs.SeenLemmas.{follows}
use Rattle.av_store.specs.Files.{file_of}
use Rattle.av_store.specs.History.{StreamHistory, content, generation_of, now}
use Rattle.av_store.specs.Rows.{number_named, stream_at}
use Rattle.av_store.specs.Seen.{Keeps, stream_of}
use Rattle.av_store.specs.Store.{Store}
use Rattle.av_store.specs.declared.stream.Stream.{Stream}
use Rattle.av_world.proofs.PublishLemmas.{found_published}
use Rattle.av_world.specs.Judge.{judged_of, latest_set, name_judged, set_judged, stream_judged}
use Rattle.av_history.specs.Past.{IsRight, IsTold, past}
use Rattle.av_history.specs.World.{WorldState}
use Rattle.av_history.specs.declared.report.Judged.{Judged}

-- so has the latest one
latest_published : (sets : List NumberedSet) (s : NumberedSet) → latest_set sets ≡ Some s → published_as (map publication_of sets) s.version ≡ Some (patterns_of s.signatures)
latest_published [] s h = absurd cc
latest_published (t ∷ sets) s h =
    let found = found_published (t ∷ sets) t.version s h in
    subst (λ v. published_as (map publication_of (t ∷ sets)) v ≡ Some (patterns_of s.signatures)) (sym found.1) found.0

-- what a stream holds is the content of its present generation
held_then : (v : Store) (hs : List StreamHistory) (id : ℕ) (s : Stream) → Keeps v (map now hs) → stream_at id v.streams ≡ Some s
    → (content hs id s.generation ≡ Some s.bytes) × (s.generation ≡ generation_of hs id)
held_then v hs id s k h =
    (elim (file_of (map now hs) id) as (λ o. file_of (map now hs) id ≡ o → option_map stream_of o ≡ Some s → (content hs id s.generation ≡ Some s.bytes) × (s.generation ≡ generation_of hs id)) [
      | None ↦ λ is g. absurd cc
      | Some f ↦ λ is g.
          let same : stream_of f ≡ s = cc in
          subst (λ (t : Stream). (content hs id t.generation ≡ Some t.bytes) × (t.generation ≡ generation_of hs id)) same (remembers.current hs id f is)
    ]) refl (sym (follows.reads v (map now hs) id k) ∙ h)

right_set : (w : WorldState) (id : ℕ) (s : Stream) (j : Judged) → IsTold w → stream_at id w.volume.streams ≡ Some s → set_judged id s (latest_set w.sets) ≡ Ok j → IsRight (past w.history) j
right_set w id s j told at h =
    (elim (latest_set w.sets) as (λ o. latest_set w.sets ≡ o → set_judged id s o ≡ Ok j → IsRight (past w.history) j) [
      | None ↦ λ is g. absurd cc
      | Some set ↦ λ is g.
          let judged : Judged = record { stream = id; generation = s.generation; version = set.version; verdict = verdict (patterns_of set.signatures) s.bytes } in
          let same : judged ≡ j = cc in
          let holds = held_then w.volume (past w.history).streams id s told.volume at in
          subst (IsRight (past w.history)) same (record {
            present = holds.1;
            right = record {
              patterns = patterns_of set.signatures;
              bytes = s.bytes;
              published = subst (λ ps. published_as ps set.version ≡ Some (patterns_of set.signatures)) told.sets (latest_published w.sets set is);
              held = holds.0;
              right = refl;
            };
          })
    ]) refl h

-- what is judged is right by the history
pub right_judged : (w : WorldState) (name : List ℕ) (j : Judged) → IsTold w → judged_of w name ≡ Ok j → IsRight (past w.history) j
right_judged w name j told h =
    (elim (number_named name w.volume.streams) as (λ o. name_judged w o ≡ Ok j → IsRight (past w.history) j) [
      | None ↦ λ g. absurd cc
      | Some id ↦ λ g.
          (elim (stream_at id w.volume.streams) as (λ o. stream_at id w.volume.streams ≡ o → stream_judged w.sets id o ≡ Ok j → IsRight (past w.history) j) [
            | None ↦ λ is k. absurd cc
            | Some s ↦ λ is k. right_set w id s j told is k
          ]) refl g
    ]) h
