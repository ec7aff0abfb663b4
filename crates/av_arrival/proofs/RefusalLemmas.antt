-- A refusal that is spelled is read.
use Rattle.std.proofs.Common.{refl, ap}
use Rattle.std.specs.Prelude.{Some}
use Rattle.std.proofs.lemmas.Nat.{from_be_bytes-to_be_bytes_8}
use Rattle.av_arrival.specs.declared.refusal.TurnedAway.TheVariants.{Older, Above, Full, OtherSocket}
use Rattle.av_arrival.specs.Refusal.{IsReadBack, field8, refusal_of}

pub read_back : IsReadBack
unfolding field8 refusal_of
read_back (Older floor) fits = ap (λ version. Some (Older version)) (from_be_bytes-to_be_bytes_8 floor fits)
read_back (Above most) fits = ap (λ version. Some (Above version)) (from_be_bytes-to_be_bytes_8 most fits)
read_back Full fits = refl
read_back OtherSocket fits = refl
