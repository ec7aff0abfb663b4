-- What longer lists of items hold, and a worker that goes on.
use Rattle.std.proofs.Common.{◌≡◌, ◌==◌, cond, ℕ, ◌+◌, arith, List, [], ◌∷◌, ◌++◌, append_assoc, map, refl, sym, ap, ◌∙◌}
use Rattle.std.specs.List.{AllByRecursion as Each, flat_map}
use Rattle.std.proofs.lemmas.List.{append-nil}
use Rattle.std.proofs.lemmas.List.Concat.{flat_map-append}
use Rattle.av_desk.specs.Lent.{FitsItsWork, LentState}
use Rattle.crossbeam_channel.specs.Claims.{Pass, view}
use Rattle.av_pool.proofs.Weighing.{weigh-append, weigh-flat, weigh-map}
use Rattle.av_pool.specs.Channel.{channel_of}
use Rattle.av_pool.specs.Items.{lent_in, lents_of, done_in, dones_of, idle_in, idles_of, mark_in, marks_of, run_in, runs_of}
use Rattle.av_pool.specs.Pool.{AreRunsOf, giver_state, taker_state, times_done, times_given}
use Rattle.av_pool.specs.Run.{done_of}
use Rattle.av_pool.specs.Tally.{tally, Knows}
use Rattle.av_pool.specs.Weights.{weigh}
use Rattle.av_pool.specs.Worker.{HasSent, Settles}
use Rattle.av_pool.specs.declared.item.DoneItem.{DoneItem}
use Rattle.av_pool.specs.declared.item.DoneItem.TheVariants as done
use Rattle.av_pool.specs.declared.item.WorkItem.{WorkItem}
use Rattle.av_pool.specs.declared.item.WorkItem.TheVariants.{Parcel, Mark, End}
use Rattle.av_pool.specs.declared.tally.PassTally.{PassTally}
use Rattle.av_service.specs.Work.{DoneState}

flat_more : {A B : Type 0} (f : A → List B) (xs : List A) (x : A) → flat_map f (xs ++ x ∷ []) ≡ flat_map f xs ++ f x
flat_more f xs x = flat_map-append f xs (x ∷ []) ∙ ap (λ l. flat_map f xs ++ l) (append-nil (f x))

-- what a pass put, with one item more
pub given_more : (v v' : PassTally WorkItem) (x : WorkItem) → v' ≡ tally v.parts (v.put ++ x ∷ []) v.taken → lents_of v'.put ≡ lents_of v.put ++ lent_in x
given_more v v' x e = ap (λ (z : PassTally WorkItem). lents_of z.put) e ∙ flat_more lent_in v.put x

-- where each of them fits its work, so it is with one more that does
pub fits_more : (xs : List LentState) (l : LentState) → Each FitsItsWork xs → FitsItsWork l → Each FitsItsWork (xs ++ l ∷ [])
fits_more [] l all fits = (fits, tt)
fits_more (x ∷ xs) l all fits = (all.0, fits_more xs l all.1 fits)

-- what a pass took, with one item more
pub taken_more : (v v' : PassTally DoneItem) (x : DoneItem) → v' ≡ tally v.parts v.put (v.taken ++ x ∷ []) → dones_of v'.taken ≡ dones_of v.taken ++ done_in x
taken_more v v' x e = ap (λ (z : PassTally DoneItem). dones_of z.taken) e ∙ flat_more done_in v.taken x

pub sent_more : (v v' : PassTally WorkItem) (w w' : PassTally DoneItem) (x : WorkItem) (y : DoneItem) → HasSent v w → v' ≡ tally v.parts v.put (v.taken ++ x ∷ []) → w' ≡ tally w.parts (w.put ++ y ∷ []) w.taken → done_in y ≡ run_in x → HasSent v' w'
sent_more v v' w w' x y h e f run = record {
  part = ap (λ (z : PassTally WorkItem). z.parts) e ∙ h.part;
  no_work = ap (λ (z : PassTally WorkItem). z.put) e ∙ h.no_work;
  other_part = ap (λ (z : PassTally DoneItem). z.parts) f ∙ h.other_part;
  no_done = ap (λ (z : PassTally DoneItem). z.taken) f ∙ h.no_done;
  same =
      ap (λ (z : PassTally DoneItem). dones_of z.put) f
      ∙ flat_more done_in w.put y
      ∙ (λ i. h.same i ++ run i)
      ∙ sym (flat_more run_in v.taken x)
      ∙ sym (ap (λ (z : PassTally WorkItem). runs_of z.taken) e);
}

-- a done work came out
pub settles_done : (out out' : List DoneState) (w w' : PassTally DoneItem) (v : PassTally WorkItem) (i : DoneItem) → Settles out w v → w' ≡ tally w.parts w.put (w.taken ++ i ∷ []) → out' ≡ out ++ done_in i → Settles out' w' v
settles_done out out' w w' v i settles e f h =
    let a : weigh h out' ≡ weigh h out + weigh h (done_in i) = ap (weigh h) f ∙ weigh-append h out (done_in i) in
    let b : weigh h (dones_of w'.put) ≡ weigh h (dones_of w.put) = ap (λ (z : PassTally DoneItem). weigh h (dones_of z.put)) e in
    let c : weigh h (dones_of w'.taken) ≡ weigh h (dones_of w.taken) + weigh h (done_in i) = ap (weigh h) (taken_more w w' i e) ∙ weigh-append h (dones_of w.taken) (done_in i) in
    let k = settles h in
    omega arith

-- a work came out, and was run here
pub settles_work : (out out' : List DoneState) (w : PassTally DoneItem) (v v' : PassTally WorkItem) (i : WorkItem) → Settles out w v → v' ≡ tally v.parts v.put (v.taken ++ i ∷ []) → out' ≡ out ++ run_in i → Settles out' w v'
settles_work out out' w v v' i settles e f h =
    let a : weigh h out' ≡ weigh h out + weigh h (run_in i) = ap (weigh h) f ∙ weigh-append h out (run_in i) in
    let c : weigh h (runs_of v'.taken) ≡ weigh h (runs_of v.taken) + weigh h (run_in i) =
    ap (λ (z : PassTally WorkItem). weigh h (runs_of z.taken)) e ∙ ap (weigh h) (flat_more run_in v.taken i) ∙ weigh-append h (runs_of v.taken) (run_in i) in
    let k = settles h in
    omega arith

-- a worker came home
pub settles_worker : (out : List DoneState) (w w' d : PassTally DoneItem) (v v' m : PassTally WorkItem) → Settles out w v → HasSent m d → w' ≡ tally (w.parts + d.parts) (w.put ++ d.put) (w.taken ++ d.taken) → v' ≡ tally (v.parts + m.parts) (v.put ++ m.put) (v.taken ++ m.taken)
    → Settles out w' v'
settles_worker out w w' d v v' m settles sent e f h =
    let b : weigh h (dones_of w'.put) ≡ weigh h (dones_of w.put) + weigh h (dones_of d.put) =
    ap (λ (z : PassTally DoneItem). weigh h (dones_of z.put)) e ∙ ap (weigh h) (flat_map-append done_in w.put d.put) ∙ weigh-append h (dones_of w.put) (dones_of d.put) in
    let none : weigh h (dones_of d.taken) ≡ 0 = ap (λ l. weigh h (dones_of l)) sent.no_done in
    let c : weigh h (dones_of w'.taken) ≡ weigh h (dones_of w.taken) + weigh h (dones_of d.taken) =
    ap (λ (z : PassTally DoneItem). weigh h (dones_of z.taken)) e ∙ ap (weigh h) (flat_map-append done_in w.taken d.taken) ∙ weigh-append h (dones_of w.taken) (dones_of d.taken) in
    let t : weigh h (runs_of v'.taken) ≡ weigh h (runs_of v.taken) + weigh h (runs_of m.taken) =
    ap (λ (z : PassTally WorkItem). weigh h (runs_of z.taken)) f ∙ ap (weigh h) (flat_map-append run_in v.taken m.taken) ∙ weigh-append h (runs_of v.taken) (runs_of m.taken) in
    let same : weigh h (dones_of d.put) ≡ weigh h (runs_of m.taken) = ap (weigh h) sent.same in
    let k = settles h in
    omega arith

-- a worker put no work
pub put_merged : (v v' m : PassTally WorkItem) → v' ≡ tally (v.parts + m.parts) (v.put ++ m.put) (v.taken ++ m.taken) → m.put ≡ [] → lents_of v'.put ≡ lents_of v.put
put_merged v v' m e none = ap (λ (z : PassTally WorkItem). lents_of z.put) e ∙ ap (λ l. lents_of (v.put ++ l)) none ∙ ap lents_of (append-nil v.put)

runs_are : (xs : List WorkItem) → runs_of xs ≡ map done_of (lents_of xs)
runs_are [] = refl
runs_are (Parcel l ∷ xs) = ap (λ ds. done_of l ∷ ds) (runs_are xs)
runs_are (Mark ∷ xs) = runs_are xs
runs_are (End ∷ xs) = runs_are xs

-- both channels are empty, and the one pass of each knows the whole: what came out is what the works that were put in give
pub all_out : (out : List DoneState) (w : PassTally DoneItem) (v : PassTally WorkItem) → Settles out w v → Knows w [] → Knows v [] → w.parts ≡ 1024 → v.parts ≡ 1024 → AreRunsOf (lents_of v.put) out
all_out out w v settles kw kv pw pv h =
    let a = kw pw (λ i. weigh h (done_in i)) in
    let b = kv pv (λ i. weigh h (run_in i)) in
    let k = settles h in
    let r : weigh h (runs_of v.put) ≡ weigh h (map done_of (lents_of v.put)) = ap (weigh h) (runs_are v.put) in
    omega (arith, weigh-flat done_in h w.put, weigh-flat done_in h w.taken, weigh-flat run_in h v.put, weigh-flat run_in h v.taken)

-- what was kept, after what came out before
pub grown : {A : Type 0} (before kept kept' more : List A) → kept' ≡ kept ++ more → before ++ kept' ≡ (before ++ kept) ++ more
grown before kept kept' more e = ap (λ l. before ++ l) e ∙ sym (append_assoc before kept more)

-- each lease comes out as often as it was given
pub times_even : (given : List LentState) (out : List DoneState) → AreRunsOf given out → (lease : ℕ) → times_done lease out ≡ times_given lease given
times_even given out runs lease = runs (λ d. cond (d.lease == lease) 1 0) ∙ weigh-map done_of (λ d. cond (d.lease == lease) 1 0) given

-- a giver that gave a work, or sent a mark
pub gave_work : (p q : Pass WorkItem (PassTally WorkItem)) (l : LentState) → channel_of q ≡ channel_of p → view q ≡ tally (view p).parts ((view p).put ++ Parcel l ∷ []) (view p).taken
    → giver_state q ≡ record (giver_state p) { given = lents_of (view p).put ++ l ∷ [] }
gave_work p q l same e =
    let marks : marks_of (view q).put ≡ marks_of (view p).put = ap (λ (z : PassTally WorkItem). marks_of z.put) e ∙ omega (arith, weigh-append mark_in (view p).put (Parcel l ∷ [])) in
    λ i. record { channel = same i; given = given_more (view p) (view q) (Parcel l) e i; marks = marks i }

pub gave_mark : (p q : Pass WorkItem (PassTally WorkItem)) → channel_of q ≡ channel_of p → view q ≡ tally (view p).parts ((view p).put ++ Mark ∷ []) (view p).taken
    → giver_state q ≡ record (giver_state p) { marks = marks_of (view p).put + 1 }
gave_mark p q same e =
    let marks : marks_of (view q).put ≡ marks_of (view p).put + 1 = ap (λ (z : PassTally WorkItem). marks_of z.put) e ∙ omega (arith, weigh-append mark_in (view p).put (Mark ∷ [])) in
    let given : lents_of (view q).put ≡ lents_of (view p).put = given_more (view p) (view q) Mark e ∙ append-nil (lents_of (view p).put) in
    λ i. record { channel = same i; given = given i; marks = marks i }

-- a taker that took a work, or something else
pub took_done : (p q : Pass DoneItem (PassTally DoneItem)) (d : DoneState) → channel_of q ≡ channel_of p → view q ≡ tally (view p).parts (view p).put ((view p).taken ++ done.Parcel d ∷ [])
    → taker_state q ≡ record (taker_state p) { taken = dones_of (view p).taken ++ d ∷ [] }
took_done p q d same e =
    let marks : idles_of (view q).taken ≡ idles_of (view p).taken = ap (λ (z : PassTally DoneItem). idles_of z.taken) e ∙ omega (arith, weigh-append idle_in (view p).taken (done.Parcel d ∷ [])) in
    λ i. record { channel = same i; taken = taken_more (view p) (view q) (done.Parcel d) e i; marks = marks i }

pub took_none : (p q : Pass DoneItem (PassTally DoneItem)) (x : DoneItem) → channel_of q ≡ channel_of p → view q ≡ tally (view p).parts (view p).put ((view p).taken ++ x ∷ []) → done_in x ≡ [] → idle_in x ≡ 1
    → taker_state q ≡ record (taker_state p) { marks = idles_of (view p).taken + 1 }
took_none p q x same e none one =
    let marks : idles_of (view q).taken ≡ idles_of (view p).taken + 1 = ap (λ (z : PassTally DoneItem). idles_of z.taken) e ∙ omega (arith, weigh-append idle_in (view p).taken (x ∷ []), one) in
    let taken : dones_of (view q).taken ≡ dones_of (view p).taken = taken_more (view p) (view q) x e ∙ ap (λ l. dones_of (view p).taken ++ l) none ∙ append-nil (dones_of (view p).taken) in
    λ i. record { channel = same i; taken = taken i; marks = marks i }
