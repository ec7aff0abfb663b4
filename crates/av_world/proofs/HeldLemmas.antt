-- What stands in a world, from what its parts hold one by one.
use Rattle.std.proofs.Common.{◌≡◌, ℕ, suc, ◌+◌, ◌<◌, ◌≤◌, List, [], ◌∷◌, ◌++◌, length, map, drop, get_or, slice_get, Option, Some, None, refl, sym, ap, ◌∙◌, add-one, drop-cons}
use Rattle.std.specs.List.{cons_option, filter_map, flat_map}
use Rattle.std.specs.Option.{option_map, option_or, option_to_list}
use Rattle.std.proofs.lemmas.List.{append_assoc, drop_all}
use Rattle.av_base.specs.declared.message_id.MessageId.{MessageId}
use Rattle.av_base.specs.declared.verdict.Verdict.{Verdict}
use Rattle.av_cache.specs.declared.entry.Entry.{Entry}
use Rattle.av_context.specs.declared.context_state.ContextState.{ContextState}
use Rattle.av_context.specs.declared.context_state.ContextState.TheVariants as context
use Rattle.av_filter.specs.Verdict.{verdict_of}
use Rattle.av_filter_table.specs.Table.{context_of}
use Rattle.av_frame.specs.Message.{Letter}
use Rattle.av_frame.specs.declared.message.Body.TheVariants as body
use Rattle.av_frame.specs.declared.message.Body.{Body}
use Rattle.av_frame.specs.declared.outcome.Outcome.TheVariants as outcome
use Rattle.av_store.specs.Rows.{Streams}
use Rattle.av_history.specs.Held.{Asked, asked, asked_by, entry, held, held_body, held_by, held_contexts, held_in, held_reply}
use Rattle.av_history.specs.World.{WorldState}

-- ---- contexts

-- the entry of the verdict of a stream's context, if there is one
abbrev pub context_entry : List (ℕ × ContextState) → ℕ × ℕ → Option Entry
context_entry contexts p = option_map (λ q. entry p.0 p.1 q.0 q.1) (verdict_of (context_of contexts p.0))

cons_held : (s g : ℕ) (o : Option ContextState) (es : List Entry) → cons_option (option_map (λ (q : ℕ × Verdict). entry s g q.0 q.1) (verdict_of o)) es ≡ held_in s g o ++ es
cons_held s g None es = refl
cons_held s g (Some context.Modified) es = refl
cons_held s g (Some (context.Scanning id)) es = refl
cons_held s g (Some (context.Judged v r)) es = refl

pub contexts_hold : (contexts : List (ℕ × ContextState)) (xs : Streams) → filter_map (context_entry contexts) (map (λ x. (x.0, x.1.generation)) xs) ≡ held_contexts contexts xs
unfolding held_contexts
contexts_hold contexts [] = refl
contexts_hold contexts (x ∷ xs) =
    cons_held x.0 x.1.generation (context_of contexts x.0) _ ∙ ap (λ es. held_in x.0 x.1.generation (context_of contexts x.0) ++ es) (contexts_hold contexts xs)

-- ---- replies

-- the entry of a reply, if it holds one
abbrev pub reply_entry : List Letter → Letter → Option Entry
reply_entry down m = slice_get (held_reply down m) 0

pub listed_first : {A : Type 0} (o : Option A) (xs : List A) → option_to_list o ≡ xs → o ≡ slice_get xs 0
listed_first None xs e = ap (λ ys. slice_get ys 0) e
listed_first (Some x) xs e = ap (λ ys. slice_get ys 0) e

cons_by : (o : Option Asked) (v : ℕ) (r : Verdict) (es : List Entry) → cons_option (slice_get (held_by o v r) 0) es ≡ held_by o v r ++ es
cons_by None v r es = refl
cons_by (Some a) v r es = refl

cons_body : (down : List Letter) (m : Body) (es : List Entry) → cons_option (slice_get (held_body down m) 0) es ≡ held_body down m ++ es
cons_body down (body.Reply id (outcome.Judged v r)) es = cons_by (asked down id) v r es
cons_body down (body.Reply id (outcome.Failed c)) es = refl
cons_body down (body.Scan i s g l) es = refl
cons_body down (body.Chunk i o b) es = refl
cons_body down (body.NoChunk i o c) es = refl
cons_body down (body.Abort i) es = refl
cons_body down (body.Hello n v) es = refl
cons_body down (body.Read i o c) es = refl
cons_body down (body.Updated v) es = refl

cons_reply : (down : List Letter) (m : Letter) (es : List Entry) → cons_option (reply_entry down m) es ≡ held_reply down m ++ es
cons_reply down m es = cons_body down m.body es

pub replies_hold : (down up : List Letter) → filter_map (reply_entry down) up ≡ flat_map (held_reply down) up
replies_hold down [] = refl
replies_hold down (m ∷ ms) = cons_reply down m _ ∙ ap (λ es. held_reply down m ++ es) (replies_hold down ms)

-- ---- all of it

pub held_parts : (w : WorldState) (contexts cached one two replied : List Entry) → contexts ≡ held_contexts w.table.contexts w.volume.streams → cached ≡ w.table.cache → one ≡ w.one.cache → two ≡ w.two.cache → replied ≡ flat_map (held_reply w.down) w.up → (((contexts ++ cached) ++ one) ++ two) ++ replied ≡ held w
unfolding held
held_parts w contexts cached one two replied a b c d e = simp append_assoc (cc)

-- ---- what an id was asked about

-- the content of what was asked
abbrev pub about : Option Asked → Option (ℕ × ℕ)
about o = option_map (λ a. (a.stream, a.generation)) o

later : (id : MessageId) (m : Letter) (ms : List Letter) → about (asked_by id m) ≡ None → asked (m ∷ ms) id ≡ asked ms id
unfolding asked
later id m ms none = (elim (asked_by id m) as (λ o. about o ≡ None → option_or o (asked ms id) ≡ asked ms id) [ None ↦ λ h. refl | Some a ↦ λ h. absurd (cc) ]) none

here : (id : MessageId) (m : Letter) (ms : List Letter) (p : ℕ × ℕ) → about (asked_by id m) ≡ Some p → about (asked (m ∷ ms) id) ≡ Some p
unfolding asked
here id m ms p some = (elim (asked_by id m) as (λ o. about o ≡ Some p → about (option_or o (asked ms id)) ≡ Some p) [ None ↦ λ h. absurd (cc) | Some a ↦ λ h. h ]) some

split_at : (ms : List Letter) (i : ℕ) (m : Letter) → i < length ms → m ≡ get_or ms i m → drop i ms ≡ m ∷ drop (suc i) ms
split_at ms i m within at = drop-cons ms i m within ∙ ap (λ x. x ∷ drop (suc i) ms) (sym at)

-- messages that do not ask are passed over
pub passes : (id : MessageId) (ms : List Letter) (i : ℕ) (m : Letter) → i < length ms → m ≡ get_or ms i m → about (asked_by id m) ≡ None → asked (drop i ms) id ≡ asked ms id → asked (drop (i + 1) ms) id ≡ asked ms id
passes id ms i m within at none so_far =
    rw add-one
    (sym (later id m (drop (suc i) ms) none) ∙ sym (ap (λ xs. asked xs id) (split_at ms i m within at)) ∙ so_far)

-- the first that asks tells what the id was asked about
pub first_asks : (id : MessageId) (ms : List Letter) (i : ℕ) (m : Letter) (p : ℕ × ℕ) → i < length ms → m ≡ get_or ms i m → about (asked_by id m) ≡ Some p → asked (drop i ms) id ≡ asked ms id → Some p ≡ about (asked ms id)
first_asks id ms i m p within at some so_far = sym (here id m (drop (suc i) ms) p some) ∙ ap (λ xs. about (asked xs id)) (sym (split_at ms i m within at)) ∙ ap about so_far

-- where none asks, the id was not asked about
pub none_asks : (id : MessageId) (ms : List Letter) (i : ℕ) → length ms ≤ i → asked (drop i ms) id ≡ asked ms id → None ≡ about (asked ms id)
unfolding asked
none_asks id ms i end so_far = ap (λ xs. about (asked xs id)) (sym (drop_all i ms end)) ∙ ap about so_far
