-- What there is to do in a world, and how much each verb weighs.
use Rattle.std.specs.Prelude.{ℕ, ◌==◌, ◌*◌, ◌+◌, ◌-◌, Bool, not, nat_lt, is_some, List, [], ◌∷◌, if◌then◌else◌}
use Rattle.av_generate.specs.declared.profile.Profile.{Profile}
use Rattle.av_generate.specs.declared.profile.Profile.TheVariants.{Deep, Uniform}
use Rattle.av_generate.specs.declared.sight.Sight.{Sight}
use Rattle.av_generate.specs.declared.verb.Odds.{Odds}
use Rattle.av_generate.specs.declared.verb.Verb.{Verb}
use Rattle.av_generate.specs.declared.verb.Verb.TheVariants.{Publish, Create, Write, Cut, Remove, Judge, Open, Cleanup, Connect, Down, Up, Work, Timeout, DisconnectFilter, DisconnectService, RestartFilter, RestartService}
use Rattle.av_generate.specs.declared.temper.Leaning.{Leaning}

-- a verb has something to do: the volume of the script has room for two streams of its three names, and most verbs want one
abbrev pub has_work : Sight → Verb → Bool
has_work w Publish = not (is_some w.latest)
has_work w Create = nat_lt w.streams 2
has_work w Connect = not w.connected
has_work w Down = not (w.down == 0)
has_work w Up = not (w.up == 0)
has_work w Work = not (w.lent == 0)
has_work w Timeout = not (w.questions == 0)
has_work w Write = not (w.streams == 0)
has_work w Cut = not (w.streams == 0)
has_work w Remove = not (w.streams == 0)
has_work w Judge = not (w.streams == 0)
has_work w Open = not (w.streams == 0)
has_work w Cleanup = not (w.streams == 0)
has_work w DisconnectFilter = not (w.streams == 0)
has_work w DisconnectService = not (w.streams == 0)
has_work w RestartFilter = not (w.streams == 0)
has_work w RestartService = not (w.streams == 0)

abbrev pub of : ℕ → ℕ → Odds
of busy idle = record { busy = busy; idle = idle }

-- in a deep script a verb weighs this much where it has something to do, and else that
abbrev pub deep_odds : Verb → Odds
deep_odds Publish = of 12 2
deep_odds Create = of 12 1
deep_odds Write = of 8 1
deep_odds Cut = of 6 1
deep_odds Remove = of 1 1
deep_odds Judge = of 1 1
deep_odds Open = of 16 2
deep_odds Cleanup = of 5 1
deep_odds Connect = of 12 1
deep_odds Down = of 24 2
deep_odds Up = of 24 2
deep_odds Work = of 20 1
deep_odds Timeout = of 2 1
deep_odds DisconnectFilter = of 1 1
deep_odds DisconnectService = of 1 1
deep_odds RestartFilter = of 1 1
deep_odds RestartService = of 1 1

-- in a uniform script each verb weighs 1
abbrev pub odds : Profile → Verb → Odds
odds Deep v = deep_odds v
odds Uniform v = of 1 1

-- a verb's weight: its odds times its factor
unfoldable pub weight : Profile → Sight → Leaning → ℕ
weight p w l = (if has_work w l.verb then (odds p l.verb).busy else (odds p l.verb).idle) * l.factor

-- the weight of all
abbrev pub weight_of_all : Profile → Sight → List Leaning → ℕ
weight_of_all p w [] = 0
weight_of_all p w (l ∷ ls) = weight p w l + weight_of_all p w ls

-- the verb at a place of the line in which each takes as many places as it weighs
abbrev pub verb_at : Profile → Sight → List Leaning → ℕ → Verb
verb_at p w [] place = Open
verb_at p w (l ∷ ls) place = if nat_lt place (weight p w l) then l.verb else verb_at p w ls (place - weight p w l)
