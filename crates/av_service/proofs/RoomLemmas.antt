-- A publication sends as many messages as there is room for.
use Rattle.std.proofs.Common.{◌≡◌, Bool, true, false, suc, ◌∷◌, length, map, if◌then◌else◌, refl, ap, ◌∙◌}
use Rattle.std.proofs.lemmas.List.{length-map}
use Rattle.av_frame.specs.Message.{via}
use Rattle.av_frame.specs.declared.message.Body.TheVariants.{Updated}
use Rattle.av_service.specs.Conduct.{service_step}
use Rattle.av_service.specs.Desk.{afresh}
use Rattle.av_service.specs.Response.{read_message, says, sends}
use Rattle.av_service.specs.Room.{RoomFits}
use Rattle.av_service.specs.declared.note.ServiceNote.TheVariants.{Quiet}

pub room_fits : RoomFits
unfolding service_step
room_fits d v = go d.connected
  where
    go : (b : Bool) → length (if b then sends (record d { version = v; jobs = map (afresh v) d.jobs }) (Updated v ∷ map (λ j. read_message d.limits (afresh v j)) d.jobs) else says (record d { version = v }) Quiet).messages ≡ (if b then suc (length d.jobs) else 0)
    go true = ap suc (length-map (map (λ j. read_message d.limits (afresh v j)) d.jobs) (via d.port) ∙ length-map d.jobs (λ j. read_message d.limits (afresh v j)))
    go false = refl
