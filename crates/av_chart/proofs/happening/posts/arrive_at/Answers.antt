use Rattle.std.proofs.Common.{rules, ◌≢◌, ◌≤◌, length, Result, Ok, Err, OnOk, arith}
use Rattle.av_chart.proofs.StoryLemmas.{arrive_is}
use Rattle.av_chart.proofs.happening.posts.arrive_at.Goals as goal

-- what follows where a call succeeds
on_ok : {A E P Q : Type 0} (r : Result A E) → OnOk r P → (P → Q) → OnOk r Q
on_ok (Ok a) h f = f h
on_ok (Err e) h f = h

pub returns : goal.returns
returns c =
    let some : c.args.place ≢ 0 = search rules in
    let within : c.args.place ≤ length c.args.sent.now.items = omega arith in
    on_ok c.arrive.result c.arrive.ensures.arrived
    (λ more. arrive_is c.args.sent.now.items c.args.place c.args.at c.index_mut.result.now c.arrive.new.sent some within c.index_mut.ensures.value more c.arrive.ensures.sent)
