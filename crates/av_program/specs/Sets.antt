-- The sets that are asked for by the names of their files.
use Rattle.std.specs.Prelude.{ℕ, ◌≡◌, ⊤, List, ◌∷◌, map, Option, None, Some}
use Rattle.std.specs.Borrow.{Bor}
use Rattle.std.specs.List.{AllByRecursion}
use Rattle.av_files.specs.Findings.{NamedSet}
use Rattle.av_files.specs.Scan.{IsAdmitted}
use Rattle.av_program.specs.declared.scanners.Sets.{Sets}
use Rattle.av_sets.specs.Sets.{IsTrusted}
use Rattle.av_sigset.specs.Set.{NumberedSet}
use Rattle.av_status.specs.declared.faults.EmptySets.{EmptySets}
use Rattle.av_trust.specs.declared.trust.Trust.{Trust}
use Rattle.av_trust.specs.declared.trust.Trust.TheVariants.{Unsigned, Signed}

-- which files are taken where a key is asked for by the name of its file: those that are signed with one, or unsigned ones where none is
abbrev pub IsTrustFor : Option (Bor (List ℕ)) → Trust → Type 0
IsTrustFor None trust = trust ≡ Unsigned
IsTrustFor (Some name) Unsigned = ⊥
IsTrustFor (Some name) (Signed key) = ⊤

-- a set that a file spells which is taken so
pub record IsTrustedFor (key : Option (Bor (List ℕ))) (set : NumberedSet) : Type 0 where
  pub trust : Trust
  pub trust_for : IsTrustFor key trust
  pub trusted : IsTrusted trust set

-- sets of the files of these names, in their order, each of which is trusted and may be taken
pub record AreOf (trust : Trust) (empty_sets : EmptySets) (names : List (List ℕ)) (sets : List NamedSet) : Type 0 where
  pub named : map (λ s. s.name) sets ≡ names
  pub trusted : AllByRecursion (λ s. IsTrusted trust s.set) sets
  pub admitted : AllByRecursion (λ s. IsAdmitted empty_sets s.set) sets

-- the sets that are asked for
pub record AreAsked (asked : Sets) (sets : List NamedSet) : Type 0 where
  pub trust : Trust
  pub trust_for : IsTrustFor asked.trust trust
  pub of_files : AreOf trust asked.empty_sets (asked.first.now ∷ map (λ n. n.now) asked.more.now) sets
