-- A string of bytes spells one list of frames.
use Rattle.std.proofs.Common.{ℕ, zero, suc, ◌≡◌, ◌+◌, ◌≤◌, List, [], ◌∷◌, ◌++◌, length, drop, get_or, Result, Ok, Err, refl, sym, ◌∙◌, ap, subst, arith, length-append, append_assoc, get_or-drop, drop-cons, ◌<◌, cond, false}
use Rattle.std.specs.Prelude.{Option, Some, None}
use Rattle.std.specs.List.{flat_map, AllByRecursion}
use Rattle.std.proofs.lemmas.List.{nil_from_length}
use Rattle.std.proofs.lemmas.List.Concat.{flat_map-cons}
use Rattle.std.proofs.Math.Seq.{drop-append_seam}
use Rattle.av_frame.specs.declared.fault.FrameFault.{FrameFault}
use Rattle.av_frame.specs.Message.{IsLetter, Letter}
use Rattle.av_frame.specs.Spelling.{frame, spelling}
use Rattle.av_frame.specs.declared.fault.FeedFault.{FeedFault}
use Rattle.av_frame.specs.declared.fault.FeedFault.TheVariants.{Broken}
use Rattle.av_frame.specs.Feed.{Fed, front_of, pushed}
use Rattle.av_frame.specs.Frames.{Frames, Ends, AreFrames, onto, by_front, frames_within, frames_of, joined}
use Rattle.av_frame.proofs.ReadingLemmas.{IsBytes}
use Rattle.av_frame.proofs.FrontLemmas.{length-frame, front_of-frame, front_framed, front_of-more}

pub front_of-nil : front_of [] ≡ Ok None
unfolding front_of
front_of-nil = refl

-- ---- frames of bytes are those that are computed

ended : (bytes : List ℕ) (fault : Option FrameFault) → Ends bytes fault → (others : List ℕ → Frames) → by_front others bytes (front_of bytes) ≡ record { messages = []; rest = bytes; fault = fault }
ended bytes None e others = ap (by_front others bytes) e
ended bytes (Some f) e others = ap (by_front others bytes) e

ended_at_once : (fault : Option FrameFault) → Ends [] fault → None ≡ fault
ended_at_once None e = refl
ended_at_once (Some f) e = let clash : ◌≡◌ {A = Result (Option (Letter × ℕ)) FrameFault} (Ok None) (Err f) = sym front_of-nil ∙ e in absurd cc

behind_frame : (m : Letter) (more : List ℕ) → drop (4 + length (spelling m)) (frame m ++ more) ≡ more
behind_frame m more = ap (λ n. drop n (frame m ++ more)) (sym (length-frame m)) ∙ drop-append_seam (frame m) more

within_is : (turns : ℕ) (bytes : List ℕ) (messages : List Letter) (rest : List ℕ) (fault : Option FrameFault) → length bytes ≤ turns → bytes ≡ flat_map frame messages ++ rest → AllByRecursion IsLetter messages → Ends rest fault → frames_within turns bytes ≡ record { messages = messages; rest = rest; fault = fault }
unfolding frames_within
within_is zero bytes [] rest fault short whole fits ends =
    let none : bytes ≡ [] = nil_from_length bytes (omega (arith, short)) in
    let at_end : rest ≡ [] = sym whole ∙ none in
    let no_fault = ended_at_once fault (subst (λ r. Ends r fault) at_end ends) in
    ap (λ b. record { messages = []; rest = b; fault = None }) whole ∙ ap (λ f. record { messages = []; rest = rest; fault = f }) no_fault
within_is (suc turns) bytes [] rest fault short whole fits ends =
    ap (λ b. by_front (frames_within turns) b (front_of b)) whole ∙ ended rest fault ends (frames_within turns)
within_is zero bytes (m ∷ messages) rest fault short whole fits ends =
    let parts : bytes ≡ frame m ++ (flat_map frame messages ++ rest) = whole ∙ ap (λ b. b ++ rest) (flat_map-cons frame m messages) ∙ append_assoc (frame m) (flat_map frame messages) rest in
    let size = ap length parts ∙ length-append (frame m) (flat_map frame messages ++ rest) in
    absurd (omega (arith, short, size, length-frame m))
within_is (suc turns) bytes (m ∷ messages) rest fault short whole fits ends =
    let more = flat_map frame messages ++ rest in
    let parts : bytes ≡ frame m ++ more = whole ∙ ap (λ b. b ++ rest) (flat_map-cons frame m messages) ∙ append_assoc (frame m) (flat_map frame messages) rest in
    let size = ap length parts ∙ length-append (frame m) more in
    let others = within_is turns more messages rest fault (omega (arith, short, size, length-frame m)) refl fits.1 ends in
    ap (λ b. by_front (frames_within turns) b (front_of b)) parts
    ∙ ap (by_front (frames_within turns) (frame m ++ more)) (front_of-frame m more fits.0)
    ∙ ap (λ b. onto m (frames_within turns b)) (behind_frame m more)
    ∙ ap (onto m) others

pub frames_are : (bytes : List ℕ) (frames : Frames) → AreFrames bytes frames → frames_of bytes ≡ frames
frames_are bytes frames are = within_is (length bytes) bytes frames.messages frames.rest frames.fault (omega arith) are.whole are.in_range are.ends

-- ---- those that are computed are the bytes' frames

IsBytes-behind : (bytes : List ℕ) (n : ℕ) → IsBytes bytes → IsBytes (drop n bytes)
IsBytes-behind bytes n fits i = rw get_or-drop (fits (n + i))

onto_are : (m : Letter) (bytes more : List ℕ) (frames : Frames) → IsLetter m → bytes ≡ frame m ++ more → AreFrames more frames → AreFrames bytes (onto m frames)
onto_are m bytes more frames fits parts are = record {
  whole = parts ∙ ap (λ b. frame m ++ b) are.whole ∙ sym (append_assoc (frame m) (flat_map frame frames.messages) frames.rest) ∙ ap (λ b. b ++ frames.rest) (sym (flat_map-cons frame m frames.messages));
  in_range = (fits, are.in_range);
  ends = are.ends;
}

within_are : (turns : ℕ) (bytes : List ℕ) → IsBytes bytes → length bytes ≤ turns → AreFrames bytes (frames_within turns bytes)
unfolding frames_within
within_are zero bytes fits short =
    let none : bytes ≡ [] = nil_from_length bytes (omega (arith, short)) in
    record { whole = refl; in_range = tt; ends = ap front_of none ∙ front_of-nil }
within_are (suc turns) bytes fits short =
    (elim (front_of bytes) as (λ r. front_of bytes ≡ r → AreFrames bytes (by_front (frames_within turns) bytes r)) [
      | Ok None ↦ λ e. record { whole = refl; in_range = tt; ends = e }
      | Ok (Some (m, size)) ↦ λ e.
          let framed = front_framed bytes m size fits e in
          let smaller = ap length framed.1 ∙ length-append (frame m) (drop size bytes) in
          onto_are m bytes (drop size bytes) _ framed.0 framed.1
          (within_are turns (drop size bytes) (IsBytes-behind bytes size fits) (omega (arith, short, smaller, length-frame m)))
      | Err f ↦ λ e. record { whole = refl; in_range = tt; ends = e }
    ]) refl

pub are_frames : (bytes : List ℕ) → IsBytes bytes → AreFrames bytes (frames_of bytes)
are_frames bytes fits = within_are (length bytes) bytes fits (omega arith)

-- ---- two frames that begin the same bytes

front_pair : (m n : Letter) (j k : ℕ) → ◌≡◌ {A = Result (Option (Letter × ℕ)) FrameFault} (Ok (Some (m, j))) (Ok (Some (n, k))) → m ≡ n
front_pair m n j k e = let pairs : ◌≡◌ {A = Letter × ℕ} (m, j) (n, k) = cc in ap (λ p. p.0) pairs

pub frames_part : (m n : Letter) (x y : List ℕ) → IsLetter m → IsLetter n → frame m ++ x ≡ frame n ++ y → (m ≡ n) × (x ≡ y)
frames_part m n x y fits others e =
    let same : m ≡ n = front_pair m n _ _ (sym (front_of-frame m x fits) ∙ ap front_of e ∙ front_of-frame n y others) in
    (same, sym (behind_frame m x) ∙ ap (drop (4 + length (spelling m))) (e ∙ ap (λ b. frame b ++ y) (sym same)) ∙ behind_frame m y)

-- ---- pieces of a stream

-- what was read of a stream ends in a fault, and more of the stream was not looked at
pub faulty : (stream rest more : List ℕ) (messages : List Letter) (f : FrameFault) → (flat_map frame messages ++ rest) ++ more ≡ stream → AllByRecursion IsLetter messages → Ends rest (Some f) → frames_of stream ≡ record { messages = messages; rest = rest ++ more; fault = Some f }
faulty stream rest more messages f whole fits ends =
    frames_are stream _ (record { whole = sym whole ∙ append_assoc (flat_map frame messages) rest more; in_range = fits; ends = front_of-more rest more f ends })

-- all of a stream was read
pub waiting : (stream rest : List ℕ) (messages : List Letter) → flat_map frame messages ++ rest ≡ stream → AllByRecursion IsLetter messages → Ends rest None → frames_of stream ≡ record { messages = messages; rest = rest; fault = None }
waiting stream rest messages whole fits ends =
    frames_are stream _ (record { whole = sym whole; in_range = fits; ends = ends })

-- the next piece goes from what is to come to what was read
pub one_more : (pieces : List (List ℕ)) (i : ℕ) (piece stream taken kept now_taken now_kept : List ℕ) → i < length pieces → piece ≡ get_or pieces i piece → (taken ++ kept) ++ joined (drop i pieces) ≡ stream → now_taken ++ now_kept ≡ taken ++ (kept ++ piece) → (now_taken ++ now_kept) ++ joined (drop (suc i) pieces) ≡ stream
one_more pieces i piece stream taken kept now_taken now_kept lt is whole step =
    let more = joined (drop (suc i) pieces) in
    let first : joined (drop i pieces) ≡ piece ++ more = ap joined (drop-cons pieces i piece lt) ∙ ap (λ p. p ++ more) (sym is) in
    ap (λ b. b ++ more) (step ∙ sym (append_assoc taken kept piece))
    ∙ append_assoc (taken ++ kept) piece more
    ∙ ap (λ b. (taken ++ kept) ++ b) (sym first)
    ∙ whole

-- what a push leaves in the feed
pub pushed_rest : (old new : Fed) (piece : List ℕ) → old.broken ≡ false → ◌≡◌ {A = Result Fed FeedFault} (pushed piece old) (Ok new) → new.rest ≡ old.rest ++ piece
pushed_rest old new piece sound e =
    let taken : ◌≡◌ {A = Result Fed FeedFault} (Ok (record old { rest = old.rest ++ piece })) (Ok new) =
    ap (λ b. cond b (Err Broken) (Ok (record old { rest = old.rest ++ piece }))) (sym sound) ∙ e in
    let same : ◌≡◌ {A = Fed} (record old { rest = old.rest ++ piece }) new = cc in
    ap (λ (f : Fed). f.rest) (sym same)
