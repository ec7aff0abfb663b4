-- Lives: who lives, and what a beginning and an end make of them.
use Rattle.std.specs.Prelude.{ℕ, ◌≡◌, ◌&&◌, Bool, true, List, [], ◌∷◌, ◌++◌, map, Option, None, Some, is_none, slice_get, if◌then◌else◌}
use Rattle.std.specs.List.{list_any}
use Rattle.av_base.specs.MessageId.{same_id}
use Rattle.av_base.specs.Port.{same_port}
use Rattle.av_base.specs.declared.message_id.MessageId.{MessageId}
use Rattle.av_base.specs.declared.port.Port.{Port}
use Rattle.av_base.specs.declared.port.Port.TheVariants.{One, Two}
use Rattle.av_chart.specs.Living.{Index}
use Rattle.av_chart.specs.declared.life.Bar.{Bar}
use Rattle.av_chart.specs.declared.life.End.{End}
use Rattle.av_chart.specs.declared.life.Moment.{Moment}

-- a life: whose it is and at which port, the name and the generation that it is of, when it began, and its end, if it has one.
-- What knows no port is at the first.
pub record Life : Type 0 where
  pub port : Port
  pub id : MessageId
  pub name : List ℕ
  pub generation : ℕ
  pub begin : Moment
  pub «end» : Option End

-- what a bar shows of a life
abbrev pub life_of : Bar → Life
life_of b = record { port = b.port; id = b.id; name = b.name.now; generation = b.generation; begin = b.begin; «end» = b.end }

abbrev pub lives_of : List Bar → List Life
lives_of bars = map life_of bars

-- whether a life at this port has no end
abbrev pub lives_at : Port → Life → Bool
lives_at port l = is_none l.end && same_port port l.port

-- whether a life is that of an id at a port, and has no end
abbrev pub lives_as : Port → MessageId → Life → Bool
lives_as port id l = same_id id l.id && lives_at port l

-- a life with its end
abbrev pub with_end : End → Life → Life
with_end e l = record l { «end» = Some e }

-- the life of an id at a port ends, where it lives
abbrev pub ended : Port → MessageId → End → Life → Life
ended port id e l = if lives_as port id l then with_end e l else l

abbrev pub ends : Port → MessageId → End → List Life → List Life
ends port id e lives = map (ended port id e) lives

-- each that lives at a port ends
abbrev pub ended_at : Port → End → Life → Life
ended_at port e l = if lives_at port l then with_end e l else l

abbrev pub ends_at : Port → End → List Life → List Life
ends_at port e lives = map (ended_at port e) lives

-- each that lives ends
abbrev pub ends_all : End → List Life → List Life
ends_all e lives = ends_at Two e (ends_at One e lives)

-- a life begins, unless one of its id lives at its port
abbrev pub begins : Life → List Life → List Life
begins l lives = if list_any (lives_as l.port l.id) lives then lives else lives ++ l ∷ []

-- a life of this id at this port, which has no end
abbrev pub LivesAs : Port → MessageId → Option Life → Type 0
LivesAs port id None = ⊥
LivesAs port id (Some l) = (is_none l.end ≡ true) × (l.port ≡ port) × (l.id ≡ id)

-- where each life that has no end is found by its port and id, and nothing else
pub record IsIndexed (lives : List Life) (at : Index) : Type 0 where
  pub each : (k : ℕ) (l : Life) → slice_get lives k ≡ Some l → is_none l.end ≡ true → at l.port l.id ≡ Some k
  pub only : (port : Port) (id : MessageId) (k : ℕ) → at port id ≡ Some k → LivesAs port id (slice_get lives k)
