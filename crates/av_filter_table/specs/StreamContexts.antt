-- What is known of each stream: the context that is attached to it, and how many references to that were given out.
use Rattle.std.specs.Prelude.{◌≡◌, ℕ, ◌-◌, List, Option, None, Some, IfSome, map}
use Rattle.std.specs.Option.{option_map}
use Rattle.av_context.specs.declared.context.Context.{Context}
use Rattle.av_context.specs.declared.context_state.ContextState.{ContextState}
use Rattle.av_context.specs.Contexts.{Contexts, IsSound, at}
use Rattle.av_numbered.specs.Numbered.{joined}

-- a stream's context: its key, its state, and how many references were given out and have not come back
pub record Known : Type 0 where
  pub key : ℕ
  pub state : ContextState
  pub held : ℕ

-- a context at its key: the references that are not attachments were given out
abbrev pub known : ℕ → Context → Known
known k c = record { key = k; state = c.state; held = c.references - c.attached }

-- what is known of the context at a key
abbrev pub known_at : List (ℕ × Context) → ℕ → Option Known
known_at contexts k = option_map (known k) (at contexts k)

-- what is known, by stream
abbrev pub known_of : Contexts → List (ℕ × Known)
known_of t = joined t.attachments (known_at t.contexts)

-- every context is attached to one stream
pub record AreAttached (t : Contexts) : Type 0 where
  pub sound : IsSound t
  pub once : (k : ℕ) → IfSome (at t.contexts k) (λ c. c.attached ≡ 1)

-- how many references to a stream's context were given out
abbrev pub held_of : Option Known → ℕ
held_of None = 0
held_of (Some m) = m.held

-- the states alone
abbrev pub states : List (ℕ × Known) → List (ℕ × ContextState)
states m = map (λ p. (p.0, p.1.state)) m

-- with a reference back, and in this state
abbrev pub given_back : ContextState → Known → Known
given_back state m = record { key = m.key; state = state; held = m.held - 1 }

-- a context of this key and state, no reference to which is out
abbrev pub known_again : ℕ → ContextState → Known
known_again key state = record { key = key; state = state; held = 0 }

-- with a reference back
abbrev pub let_loose : Known → Known
let_loose m = record { key = m.key; state = m.state; held = m.held - 1 }
