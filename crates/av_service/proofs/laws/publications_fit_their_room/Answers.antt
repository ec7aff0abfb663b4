use Rattle.av_service.proofs.RoomLemmas
use Rattle.av_service.proofs.laws.publications_fit_their_room.Goals as goal

pub returns : goal.returns
returns c = RoomLemmas.room_fits
