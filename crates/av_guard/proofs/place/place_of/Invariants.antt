use Rattle.std.proofs.Common.{◌≡◌, ◌-◌, ◌≤◌, take}
use Rattle.arrayvec.specs.ArrayVec.{array_vec_len}
use Rattle.av_guard.specs.Naming.{stem_of}
use Rattle.av_guard.specs.Place.{place_from}
use Rattle.av_guard.proofs.place.place_of.Given as goal

-- the names so far are taken by others, and each begins with the stem
abbrev pub invariant-names : goal.invariant-names
invariant-names l = record {
  place : place_from (16 - l.number) l.number l.fn.key l.volume l.content ≡ place_from 16 0 l.fn.key l.volume l.content;
  stem : take 32 l.name.items ≡ stem_of l.fn.key l.content;
  len : 32 ≤ array_vec_len l.name;
}
