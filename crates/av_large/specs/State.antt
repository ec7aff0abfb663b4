-- What a guard knows of contents that come in parts.
use Rattle.std.specs.Prelude.{ℕ, ◌≡◌, ◌==◌, Bool, false, not, List, [], ◌∷◌, filter, map, option_to_list}
use Rattle.av_large.specs.declared.answer.Answer.{Answer}
use Rattle.av_large.specs.declared.answer.LargeOut.{LargeOut}
use Rattle.av_large.specs.declared.answer.Told.{Told}
use Rattle.av_large.specs.declared.content.Content.{Content}
use Rattle.av_parts.specs.Judge.{without}
use Rattle.av_parts.specs.Orders.{Order, order_of}

-- Whether the service takes parts: its second connection is there, and has greeted. The number that was given last. The contents
-- that have no answer, by rising number. Of each client that is within a content its number, 0 where it had none; one that is
-- held no more was answered.
pub record State : Type 0 where
  pub takes : Bool
  pub last : ℕ
  pub held : List (ℕ × Content)
  pub current : List (ℕ × ℕ)

-- nothing came
abbrev pub at_first : State
at_first = record { takes = false; last = 0; held = []; current = [] }

-- the state after an event, what is told, and what is sent to the service
pub record Step : Type 0 where
  pub state : State
  pub told : List Told
  pub orders : List Order

-- nothing happens
abbrev pub quiet : State → Step
quiet g = record { state = g; told = []; orders = [] }

-- an answer to a content, told to its client under its tag
abbrev pub tell : Content → Answer → Told
tell c answer = record { client = c.client; tag = c.tag; answer = answer }

-- the state in which a content is held no more
abbrev pub forget : State → ℕ → State
forget g n = record g { held = without g.held n }

-- a content is answered, and these orders are sent; what its client still sends of it is passed over
abbrev pub answers : State → ℕ → Content → Answer → List Order → Step
answers g n c answer orders = record { state = forget g n; told = tell c answer ∷ []; orders = orders }

-- the contents of a client, and those of the others
abbrev pub theirs : ℕ → List (ℕ × Content) → List (ℕ × Content)
theirs client held = filter (λ e. e.1.client == client) held

abbrev pub others : ℕ → List (ℕ × Content) → List (ℕ × Content)
others client held = filter (λ e. not (e.1.client == client)) held

abbrev pub numbers_of : List (ℕ × Content) → List ℕ
numbers_of held = map (λ e. e.0) held

-- an event gave this out, and left this state
abbrev pub Gives : Step → State → LargeOut → Type 0
Gives step new given =
    (new ≡ step.state) × (option_to_list given.told ≡ step.told) × (map order_of (option_to_list given.order) ≡ step.orders)
