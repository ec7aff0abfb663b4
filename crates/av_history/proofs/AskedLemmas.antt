-- What a scan was asked about: found in the messages sent, and the same for good.
use Rattle.std.proofs.Common.{◌≡◌, ℕ, false, List, [], ◌∷◌, ◌++◌, Option, Some, None, if◌then◌else◌, refl, sym, ap, ◌∙◌, subst, true, is_some}
use Rattle.std.specs.Option.{option_or}
use Rattle.av_base.proofs.KeyLemmas.{same_id-refl}
use Rattle.av_base.specs.MessageId.{same_id}
use Rattle.av_base.specs.declared.message_id.MessageId.{MessageId}
use Rattle.av_frame.specs.declared.cause.NoChunkCause.{NoChunkCause}
use Rattle.av_frame.specs.Message.{Letter, via}
use Rattle.av_base.specs.declared.port.Port.{Port}
use Rattle.av_frame.specs.declared.message.Body.TheVariants.{Scan, Chunk, NoChunk, Abort}
use Rattle.av_history.specs.Whole.{ScanOnce}
use Rattle.av_history.specs.Held.{Asked, asked, asked_by}

option_or_assoc : (a b c : Option Asked) → option_or (option_or a b) c ≡ option_or a (option_or b c)
option_or_assoc None b c = refl
option_or_assoc (Some x) b c = refl

pub asked-append : (ms ns : List Letter) (id : MessageId) → asked (ms ++ ns) id ≡ option_or (asked ms id) (asked ns id)
unfolding asked
asked-append [] ns id = refl
asked-append (m ∷ ms) ns id = ap (option_or (asked_by id m)) (asked-append ms ns id) ∙ sym (option_or_assoc (asked_by id m) (asked ms id) (asked ns id))

-- an id that was asked about stays so
pub asked_more : (ms ns : List Letter) (id : MessageId) (a : Asked) → asked ms id ≡ Some a → asked (ms ++ ns) id ≡ Some a
asked_more ms ns id a h = asked-append ms ns id ∙ ap (λ o. option_or o (asked ns id)) h

pub asked_new : (ms ns : List Letter) (id : MessageId) → asked ms id ≡ None → asked (ms ++ ns) id ≡ asked ns id
asked_new ms ns id h = asked-append ms ns id ∙ ap (λ o. option_or o (asked ns id)) h

-- messages that ask nothing, and then one scan
abbrev pub IsPlain : List Letter → Type 0
IsPlain ms = (id : MessageId) → asked ms id ≡ None

pub asked_scan : (early : List Letter) → IsPlain early → (port : Port) (n : MessageId) (s g l : ℕ) → asked (early ++ via port (Scan n s g l) ∷ []) n ≡ Some (record { port = port; stream = s; generation = g; length = l })
unfolding asked
asked_scan early plain port n s g l = asked_new early (via port (Scan n s g l) ∷ []) n (plain n) ∙ subst (λ b. option_or {T = Asked} (if b then Some (record { port = port; stream = s; generation = g; length = l }) else None) None ≡ Some (record { port = port; stream = s; generation = g; length = l })) (sym (same_id-refl n)) refl

pub asked_scan_other : (early : List Letter) → IsPlain early → (port : Port) (n id : MessageId) (s g l : ℕ) → same_id n id ≡ false → asked (early ++ via port (Scan n s g l) ∷ []) id ≡ None
unfolding asked
asked_scan_other early plain port n id s g l ne = asked_new early (via port (Scan n s g l) ∷ []) id (plain id) ∙ subst (λ b. option_or {T = Asked} (if b then Some (record { port = port; stream = s; generation = g; length = l }) else None) None ≡ None) (sym ne) refl

pub plain_nil : IsPlain []
unfolding asked
plain_nil id = refl

pub plain_abort : (port : Port) (i : MessageId) → IsPlain (via port (Abort i) ∷ [])
unfolding asked
plain_abort port i id = refl

pub plain_chunk : (port : Port) (i : MessageId) (o : ℕ) (b : List ℕ) → IsPlain (via port (Chunk i o b) ∷ [])
unfolding asked
plain_chunk port i o b id = refl

pub plain_no_chunk : (port : Port) (i : MessageId) (o : ℕ) (r : NoChunkCause) → IsPlain (via port (NoChunk i o r) ∷ [])
unfolding asked
plain_no_chunk port i o r id = refl

-- ---- no id is asked twice

some_here : (o r : Option Asked) → is_some o ≡ true → is_some (option_or o r) ≡ true
some_here None r h = absurd (cc (h))
some_here (Some a) r h = refl

some_later : (o r : Option Asked) → is_some r ≡ true → is_some (option_or o r) ≡ true
some_later None r h = h
some_later (Some a) r h = refl

none_later : (o r : Option Asked) → option_or o r ≡ None → r ≡ None
none_later None r h = h
none_later (Some a) r h = absurd (cc (h))

pub once-append : (xs ys : List Letter) → ScanOnce xs → ScanOnce ys → ((id : MessageId) → is_some (asked xs id) ≡ true → asked ys id ≡ None) → ScanOnce (xs ++ ys)
unfolding asked
once-append [] ys a b apart = b
once-append (m ∷ xs) ys a b apart =
    ((λ id some. asked_new xs ys id (a.0 id some) ∙ apart id (some_here (asked_by id m) (asked xs id) some)), once-append xs ys a.1 b (λ id some. apart id (some_later (asked_by id m) (asked xs id) some)))

pub plain_once : (ms : List Letter) → IsPlain ms → ScanOnce ms
unfolding asked
plain_once [] plain = tt
plain_once (m ∷ ms) plain =
    ((λ id some. none_later (asked_by id m) (asked ms id) (plain id)), plain_once ms (λ id. none_later (asked_by id m) (asked ms id) (plain id)))

pub one_once : (m : Letter) → ScanOnce (m ∷ [])
unfolding asked
one_once m = ((λ id some. refl), tt)

pub some_none : (o : Option Asked) → is_some o ≡ true → o ≡ None → ⊥
some_none None h e = absurd (cc (h))
some_none (Some a) h e = absurd (cc (e))
