-- What the list of all verdicts means.
use Rattle.std.specs.Prelude.{ℕ, ◌≤◌, ◌↔◌, List}
use Rattle.av_base.specs.Among.{Among}
use Rattle.av_base.specs.declared.verdict.Verdict.TheVariants.{Infected}
use Rattle.av_match.specs.Match.{OccursAt}
use Rattle.av_sigset.specs.declared.signature.Pattern.{Pattern}
use Rattle.av_findings.specs.Findings.{all_verdicts}

-- pattern i ends at e, and nowhere before
abbrev pub EndsFirstAt : List Pattern → List ℕ → ℕ → ℕ → Type 0
EndsFirstAt ps c i e = OccursAt ps c e i × ((f : ℕ) → OccursAt ps c f i → e ≤ f)

-- a hit is listed exactly if its pattern ends first there
abbrev pub ListsExactly : Type 0
ListsExactly = (ps : List Pattern) (c : List ℕ) (i e : ℕ) → Among (Infected i e) (all_verdicts ps c) ↔ EndsFirstAt ps c i e
