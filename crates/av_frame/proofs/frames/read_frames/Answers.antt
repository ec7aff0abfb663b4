use Rattle.std.proofs.Common.{ℕ, suc, List, get_or, ◌≡◌, ◌++◌, refl, sym, ap, subst, ◌∙◌, drop, append-nil}
use Rattle.std.specs.Prelude.{Some, None}
use Rattle.std.specs.List.{flat_map}
use Rattle.std.proofs.Math.ListN.{drop_of_length-le}
use Rattle.av_frame.specs.Spelling.{frame}
use Rattle.av_frame.specs.Frames.{Ends, Frames, joined, frames_of}
use Rattle.av_frame.proofs.FramesLemmas.{front_of-nil, faulty, waiting, one_more, pushed_rest}
use Rattle.av_frame.proofs.frames.read_frames.Goals as goal

pub pieces-init : goal.pieces-init
pieces-init c =
    rw (c.new-feed.ensures, c.new-messages.ensures.items) (record { bytes = refl; in_range = tt; ends = front_of-nil; sound = refl })

-- all pieces were read
waits : (c : goal.After-drop-feed-inside-2) → frames_of (joined c.args.pieces.now) ≡ record { messages = c.pieces.messages.items; rest = c.pieces.feed.rest; fault = None }
waits c =
    let read = flat_map frame c.pieces.messages.items ++ c.pieces.feed.rest in
    let nothing = ap (λ ps. read ++ joined ps) (drop_of_length-le c.args.pieces.now c.pieces-test.false) in
    waiting _ c.pieces.feed.rest c.pieces.messages.items (sym (append-nil read) ∙ sym nothing ∙ c.pieces.invariant.bytes) c.pieces.invariant.in_range c.pieces.invariant.ends

pub returns-clause-messages : goal.returns-clause-messages
returns-clause-messages c = ap (λ (f : Frames). f.messages) (sym (waits c))

pub returns-clause-fault : goal.returns-clause-fault
returns-clause-fault c = ap (λ (f : Frames). f.fault) (sym (waits c))

-- a fault stands behind the messages
breaks : (c : goal.After-drop-feed-inside-in-Some) → frames_of (joined c.args.pieces.now) ≡ record { messages = c.take_all.new.messages.items; rest = c.take_all.new.feed.rest ++ joined (drop (suc c.pieces.piece-index) c.args.pieces.now); fault = Some c.in-Some.fault }
breaks c =
    let taken = flat_map frame c.pieces.messages.items in
    let pushed = pushed_rest c.pieces.feed c.push.new.self c.as_slice.result.now c.pieces.invariant.sound c.in-Ok.ensures in
    let step = c.in_ok-fault.ensures.bytes ∙ ap (λ b. taken ++ b) pushed in
    let piece = subst (λ (p : List ℕ). p ≡ get_or c.args.pieces.now c.pieces.piece-index p) (sym c.as_slice.ensures) c.piece-item.is in
    faulty _ c.take_all.new.feed.rest _ c.take_all.new.messages.items c.in-Some.fault
    (one_more c.args.pieces.now c.pieces.piece-index c.as_slice.result.now _ taken c.pieces.feed.rest (flat_map frame c.take_all.new.messages.items) c.take_all.new.feed.rest c.pieces-test.true piece c.pieces.invariant.bytes step)
    (c.in_ok-fault.ensures.in_range c.pieces.invariant.in_range)
    (subst (Ends c.take_all.new.feed.rest) c.in-Some.is c.in_ok-fault.ensures.ends)

pub returns-in-Some-clause-messages : goal.returns-in-Some-clause-messages
returns-in-Some-clause-messages c = ap (λ (f : Frames). f.messages) (sym (breaks c))

pub returns-in-Some-clause-fault : goal.returns-in-Some-clause-fault
returns-in-Some-clause-fault c = ap (λ (f : Frames). f.fault) (sym (breaks c))
