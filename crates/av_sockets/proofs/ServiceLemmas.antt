-- The set of a service that was just started.
use Rattle.std.proofs.Common.{◌∷◌, List, eq-eqb, refl}
use Rattle.std.specs.Prelude.{IsSome}
use Rattle.av_sigset.specs.Catalogue.{latest, set_at}
use Rattle.av_sigset.specs.Set.{NumberedSet}

-- the newest set is there under its version
pub newest_found : (s : NumberedSet) (sets : List NumberedSet) → IsSome (set_at (s ∷ sets) (latest (s ∷ sets)))
unfolding set_at
newest_found s sets = rw (eq-eqb s.version s.version refl) refl
