-- A history that grows by an event.
use Rattle.std.proofs.Common.{◌≡◌, ℕ, List, [], ◌∷◌, ◌++◌, map, Option, Some, None, refl, ap, sym, subst, ◌∙◌, append_assoc, append-nil}
use Rattle.av_filter.proofs.BoundLemmas.{leads_to, volume_after}
use Rattle.av_filter.proofs.FitLemmas.{accepted}
use Rattle.av_filter.specs.Audit.{FilterEntry, IsFilterAudit, IsReply, answers_given, filter_end, sent_down}
use Rattle.av_filter.specs.Changing.{changed_volume}
use Rattle.av_filter.specs.Conduct.{FilterEvent, Changes, Opens, Restarts, filter_refusal, filter_step}
use Rattle.av_filter.specs.Mount.{Mount}
use Rattle.av_filter_table.specs.Table.{Table}
use Rattle.av_frame.specs.Message.{Letter}
use Rattle.av_guard.specs.Run.{all_held, held_after}
use Rattle.av_store.proofs.HistoryLemmas.{remembers}
use Rattle.av_store.proofs.SeenLemmas.{follows, kept_change}
use Rattle.std.specs.Option.{option_map}
use Rattle.av_store.specs.Files.{File, file_of}
use Rattle.av_store.specs.History.{StreamHistory, content, now}
use Rattle.av_store.specs.Rows.{stream_at}
use Rattle.av_store.specs.Seen.{Keeps, stream_of}
use Rattle.av_store.specs.declared.stream.Stream.{Stream}
use Rattle.av_store.specs.Store.{Store}

-- the entry of an event
abbrev pub entry_of : Table → Store → FilterEvent → FilterEntry
entry_of t v e =
    record { event = e; answers = (filter_step t v e).answers; messages = (filter_step t v e).messages; note = (filter_step t v e).note }

audit_more : (t : Table) (v : Store) (xs : List FilterEntry) (x : FilterEntry) → IsFilterAudit t v xs → filter_refusal (filter_end t v xs).table (filter_end t v xs).volume x.event ≡ None
    → IsReply x (filter_step (filter_end t v xs).table (filter_end t v xs).volume x.event) → IsFilterAudit t v (xs ++ x ∷ [])
audit_more t v [] x legal ok reply = (ok, reply, tt)
audit_more t v (y ∷ ys) x legal ok reply = (legal.0, legal.1, audit_more (filter_step t v y.event).table (filter_step t v y.event).volume ys x legal.2 ok reply)

end_more : (t : Table) (v : Store) (xs : List FilterEntry) (x : FilterEntry) → filter_end t v (xs ++ x ∷ []) ≡ filter_end (filter_end t v xs).table (filter_end t v xs).volume (x ∷ [])
end_more t v [] x = refl
end_more t v (y ∷ ys) x = end_more (filter_step t v y.event).table (filter_step t v y.event).volume ys x

sent_more : (down : List Letter) (xs : List FilterEntry) (x : FilterEntry) → sent_down down (xs ++ x ∷ []) ≡ sent_down down xs ++ x.messages
sent_more down [] x = refl
sent_more down (y ∷ ys) x = sent_more (down ++ y.messages) ys x

pub held_more : (hs : List StreamHistory) (xs : List FilterEntry) (x : FilterEntry) → all_held hs (xs ++ x ∷ []) ≡ held_after (all_held hs xs) x.event
held_more hs [] x = refl
held_more hs (y ∷ ys) x = held_more (held_after hs y.event) ys x

pub answers_more : (xs : List FilterEntry) (x : FilterEntry) → answers_given (xs ++ x ∷ []) ≡ answers_given xs ++ x.answers
answers_more [] x = append-nil x.answers
answers_more (y ∷ ys) x = ap (λ rest. y.answers ++ rest) (answers_more ys x) ∙ sym (append_assoc y.answers (answers_given ys) x.answers)

keeps_after : (t : Table) (v : Store) (hs : List StreamHistory) (e : FilterEvent) → Keeps v (map now hs) → filter_refusal t v e ≡ None → Keeps (volume_after v e) (map now (held_after hs e))
unfolding filter_refusal
keeps_after t v hs (Opens s least) k ok = record { streams = k.streams; last = k.last }
keeps_after t v hs (Changes c) k ok = kept_change v (changed_volume v c) hs c k (accepted v c ok)
keeps_after t v hs Restarts k ok = record { streams = k.streams; last = k.last }
keeps_after t v hs _ k ok = k

-- no event takes a content away
pub held_stays : (hs : List StreamHistory) (e : FilterEvent) (s g : ℕ) (c : List ℕ) → content hs s g ≡ Some c → content (held_after hs e) s g ≡ Some c
held_stays hs (Changes ch) u g c h = remembers.stays hs ch u g c h
held_stays hs _ u g c h = h

-- where a history leads from a first table and volume, and what it sent
pub record Past (t0 : Table) (v0 : Store) (t : Table) (v : Store) (sent : List Letter) (history : List FilterEntry) : Type 0 where
  pub legal : IsFilterAudit t0 v0 history
  pub leads : ◌≡◌ {A = Mount} (filter_end t0 v0 history) (record { table = t; volume = v })
  pub sends : sent_down [] history ≡ sent
  pub keeps : Keeps v (map now (all_held [] history))

pub past_more : (t0 : Table) (v0 : Store) (t : Table) (v : Store) (sent : List Letter) (history : List FilterEntry) (e : FilterEvent) → Past t0 v0 t v sent history → filter_refusal t v e ≡ None
    → Past t0 v0 (filter_step t v e).table (filter_step t v e).volume (sent ++ (filter_step t v e).messages) (history ++ entry_of t v e ∷ [])
past_more t0 v0 t v sent history e p ok =
    let x = entry_of t v e in
    record {
      legal =
          audit_more t0 v0 history x p.legal (subst (λ (k : Mount). filter_refusal k.table k.volume e ≡ None) (sym p.leads) ok)
          (subst (λ (k : Mount). IsReply x (filter_step k.table k.volume e)) (sym p.leads) (record { answers = refl; messages = refl; note = refl }));
      leads = end_more t0 v0 history x ∙ ap (λ (k : Mount). filter_end k.table k.volume (x ∷ [])) p.leads;
      sends = sent_more [] history x ∙ ap (λ ms. ms ++ (filter_step t v e).messages) p.sends;
      keeps = subst (λ hs. Keeps (filter_step t v e).volume (map now hs)) (sym (held_more [] history x)) (subst (λ u. Keeps u (map now (held_after (all_held [] history) e))) (sym (leads_to t v e)) (keeps_after t v (all_held [] history) e p.keeps ok));
    }

-- what a stream has is the content of its generation
pub present : (v : Store) (hs : List StreamHistory) (s : ℕ) (x : Stream) → Keeps v (map now hs) → stream_at s v.streams ≡ Some x → content hs s x.generation ≡ Some x.bytes
present v hs s x k at = go (file_of (map now hs) s) refl (sym (follows.reads v (map now hs) s k) ∙ at)
  where
    go : (o : Option File) → file_of (map now hs) s ≡ o → option_map stream_of o ≡ Some x → content hs s x.generation ≡ Some x.bytes
    go None is bad = absurd cc
    go (Some f) is same =
        let x_is : stream_of f ≡ x = cc in
        subst (λ (y : Stream). content hs s y.generation ≡ Some y.bytes) x_is (remembers.current hs s f is).0
