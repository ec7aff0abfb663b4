-- A crew with one more worker.
use Rattle.std.proofs.Common.{◌≡◌, ◌+◌, ◌-◌, ◌<◌, [], ◌∷◌, ◌++◌, length, sym, ap, ◌∙◌, subst, arith, length-append}
use Rattle.std.specs.List.{All}
use Rattle.std.proofs.lemmas.List.Elements.{All-push, All-weaker}
use Rattle.std.specs.declared.thread.PromisedHandle.{PromisedHandle}
use Rattle.crossbeam_channel.specs.Claims.{Pass, view}
use Rattle.av_pool.specs.declared.tally.PassTally.{PassTally}
use Rattle.av_pool.specs.declared.item.WorkItem.{WorkItem}
use Rattle.av_pool.specs.declared.item.DoneItem.{DoneItem}
use Rattle.av_pool.specs.declared.crew.Sent.{Sent}
use Rattle.av_pool.specs.declared.crew.Crew.{Crew}
use Rattle.av_pool.specs.Tally.{tally}
use Rattle.av_pool.specs.Channel.{IsLike}
use Rattle.av_pool.specs.Handle.{IsHandleOf}
use Rattle.av_pool.specs.Crew.{IsFresh}

-- from one pass of a channel to another
like_back : {X V : Type 0} (p q r : Pass X V) → IsLike p q → IsLike p r → IsLike q r
like_back p q r a b = (b.0 ∙ sym a.0, b.1 ∙ sym a.1, b.2)

pub fresh_more : (p q : Crew) (h : PromisedHandle (Pass WorkItem (PassTally WorkItem) × Pass DoneItem (PassTally DoneItem)) Sent) → IsFresh p → length p.workers.items < 16 → q.workers.items ≡ p.workers.items ++ h ∷ []
    → view q.work_pass ≡ tally ((view p.work_pass).parts - 1) (view p.work_pass).put (view p.work_pass).taken → view q.done_pass ≡ tally ((view p.done_pass).parts - 1) (view p.done_pass).put (view p.done_pass).taken
    → IsLike p.work_pass q.work_pass → IsLike p.done_pass q.done_pass → IsHandleOf q.work_pass q.done_pass h → IsFresh q
fresh_more p q h f few grown work done like_work like_done handle =
    let long : length q.workers.items ≡ length p.workers.items + 1 = ap length grown ∙ length-append p.workers.items (h ∷ []) in
    let wp : (view q.work_pass).parts ≡ (view p.work_pass).parts - 1 = ap (λ (v : PassTally WorkItem). v.parts) work in
    let dp : (view q.done_pass).parts ≡ (view p.done_pass).parts - 1 = ap (λ (v : PassTally DoneItem). v.parts) done in
    let a = f.work_parts in
    let b = f.done_parts in
    let P = IsHandleOf q.work_pass q.done_pass in
    let old = All-weaker (IsHandleOf p.work_pass p.done_pass) P
    (λ x t. (like_back p.work_pass q.work_pass x.promise.work.value like_work t.0, like_back p.done_pass q.done_pass x.promise.done.value like_done t.1)) p.workers.items f.promised in
    record {
      few = omega arith;
      work_parts = omega arith;
      done_parts = omega arith;
      no_work = (ap (λ (v : PassTally WorkItem). v.put) work ∙ f.no_work.0, ap (λ (v : PassTally WorkItem). v.taken) work ∙ f.no_work.1);
      no_done = (ap (λ (v : PassTally DoneItem). v.put) done ∙ f.no_done.0, ap (λ (v : PassTally DoneItem). v.taken) done ∙ f.no_done.1);
      promised = subst (λ l. All P l) (sym grown) (All-push P p.workers.items h old handle);
    }
