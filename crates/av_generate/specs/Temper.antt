-- A temper: how much each verb counts in a spell of commands.
use Rattle.std.specs.Prelude.{ℕ, ◌==◌, List, [], ◌∷◌, map, if◌then◌else◌}
use Rattle.av_generate.specs.Draws.{below}
use Rattle.av_generate.specs.Verb.{verb_at, weight_of_all}
use Rattle.av_generate.specs.declared.profile.Profile.{Profile}
use Rattle.av_generate.specs.declared.sight.Sight.{Sight}
use Rattle.av_generate.specs.declared.temper.Leaning.{Leaning}
use Rattle.av_generate.specs.declared.verb.Verb.{Verb}
use Rattle.av_generate.specs.declared.verb.Verb.TheVariants.{Open}

-- a verb with its factor
abbrev pub leaning : Verb → ℕ → Leaning
leaning v factor = record { verb = v; factor = factor }

-- each verb counts as it weighs
unfoldable pub even : List Verb → List Leaning
even verbs = map (λ v. leaning v 1) verbs

-- a verb is left out, taken as it is twice as often, or counts six times
unfoldable pub factor_drawn : ℕ → ℕ × ℕ
factor_drawn s = let d = below 4 s in (if d.0 == 0 then 0 else if d.0 == 3 then 6 else 1, d.1)

-- a leaning in front of others
abbrev pub leaning_then : Leaning → List Leaning × ℕ → List Leaning × ℕ
leaning_then l rest = (l ∷ rest.0, rest.1)

-- a factor for each verb in turn
unfoldable pub temper_drawn : List Verb → ℕ → List Leaning × ℕ
temper_drawn [] s = ([], s)
temper_drawn (v ∷ vs) s =
    let d = factor_drawn s in leaning_then (leaning v d.0) (temper_drawn vs d.1)

-- in how many eighths of the draws what was just sent or lent is carried on at once
unfoldable pub eagerness_drawn : ℕ → ℕ × ℕ
eagerness_drawn s =
    let d = below 4 s in (if d.0 == 0 then 0 else if d.0 == 1 then 3 else if d.0 == 2 then 6 else 8, d.1)

-- a verb by its weight; an open where none weighs anything, with no draw
unfoldable pub verb_drawn : Profile → Sight → List Leaning → ℕ → Verb × ℕ
verb_drawn p w leanings s =
    let all = weight_of_all p w leanings in
    if all == 0 then (Open, s) else let d = below all s in (verb_at p w leanings d.0, d.1)
