use Rattle.std.proofs.Common.{◌≤◌, ◌<◌, ℕ, ◌-◌, length}
use Rattle.av_sigset.specs.Catalogue.{version_at}
use Rattle.av_sigset.proofs.catalogue.place_of.Given as goal

-- below low the versions are less, and from high on they are greater
abbrev pub invariant-halves : goal.invariant-halves
invariant-halves l = record {
  within : l.high ≤ length l.sets;
  less : (i : ℕ) → i < l.low → i < length l.sets → version_at l.sets i < l.version;
  greater : (i : ℕ) → l.high ≤ i → i < length l.sets → l.version < version_at l.sets i;
}

abbrev pub decreases-halves : goal.decreases-halves
decreases-halves l = l.high - l.low
