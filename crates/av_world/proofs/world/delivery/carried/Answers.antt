use Rattle.std.proofs.Common.{◌≡◌, [], ◌++◌, rules}
use Rattle.av_frame.specs.Message.{IsLetter}
use Rattle.av_frame.specs.Spelling.{frame}
use Rattle.av_world.proofs.DeliveryLemmas.{came_out}
use Rattle.av_world.proofs.world.delivery.carried.Goals as goal

pub returns-in-Ok-Some : goal.returns-in-Ok-Some
returns-in-Ok-Some c =
    let sent : IsLetter c.args.message.now = search rules in
    let bytes : c.as_slice.result.now ≡ [] ++ frame c.args.message.now = search rules in
    let came : IsLetter c.in-Ok-Some.message = search rules in
    let comes : c.as_slice.result.now ≡ frame c.in-Ok-Some.message ++ c.next.new.self.rest = search rules in
    came_out c.no_frame_begins_another.ensures.stream c.args.message.now c.in-Ok-Some.message c.as_slice.result.now c.next.new.self.rest sent came bytes comes
