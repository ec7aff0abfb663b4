use Rattle.std.proofs.Common.{rules, ◌≡◌, ◌-◌}
use Rattle.av_client.specs.Asking.{Hears, IsKept, IsOwedEach, told_of}
use Rattle.av_client.proofs.OwedLemmas.{kept_each}
use Rattle.av_client.proofs.TagLemmas.{both_heard, kept_hears}
use Rattle.av_client.proofs.asking.Asker.take.Goals as goal

-- an answer that is kept has its place, and was owed
pub answers-preserved : goal.answers-preserved
answers-preserved g c =
    let kept : IsKept c.answers.self.answers.items c.keep.new.self.answers.items (told_of c.in-Ok-Some.answer) = search rules in
    let one : c.keep.new.self.owed ≡ c.answers.self.owed - 1 = search rules in
    let before : Hears c.args.self.now.answers.items c.answers.self.answers.items = search rules in
    let room : c.keep.new.self.room.items ≡ c.args.self.now.room.items = search rules in
    let each : IsOwedEach c.args.self.now.owed c.args.self.now.answers.items → IsOwedEach c.answers.self.owed c.answers.self.answers.items = search rules in
    let old = c.answers.self.answers.items in
    let new = c.keep.new.self.answers.items in
    let told = told_of c.in-Ok-Some.answer in
    (both_heard c.args.self.now.answers.items old new before (kept_hears old new c.in-Ok-Some.answer kept), room, λ first. kept_each c.answers.self.owed c.keep.new.self.owed old new told kept one (each first))
