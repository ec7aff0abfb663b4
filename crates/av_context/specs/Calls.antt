-- What each call on a table of contexts answers, and the table after it.
use Rattle.std.specs.Prelude.{ℕ, ◌==◌, Bool, false, [], Option, None, Some, Result, Ok, Err, if◌then◌else◌}
use Rattle.std.specs.Option.{option_map, option_and_then}
use Rattle.av_context.specs.declared.context.Context.{Context}
use Rattle.av_context.specs.declared.context_fault.ContextFault.{ContextFault}
use Rattle.av_context.specs.declared.context_fault.ContextFault.TheVariants.{NotFound, RefsSpent}
use Rattle.av_context.specs.declared.context_ref.Set.{Set}
use Rattle.av_context.specs.declared.context_ref.Set.TheVariants.{Attached, AlreadyDefined}
use Rattle.av_context.specs.declared.context_state.ContextState.{ContextState}
use Rattle.av_context.specs.Context.{most_references, referred, attached, passed, released, detached, with_state}
use Rattle.av_context.specs.Contexts.{Contexts, at, with, without, change, all_detached}

-- the count of a context can rise no more
abbrev pub is_spent : Option Context → Bool
is_spent None = false
is_spent (Some c) = c.references == most_references

-- a context is attached to a stream, and counts it
abbrev pub attach : Contexts → ℕ → ℕ → Contexts
attach t stream k = record { contexts = change (λ c. Some (attached c)) t.contexts k; attachments = with t.attachments stream k }

-- a new reference to a context is given out
abbrev pub refer : Contexts → ℕ → Contexts
refer t k = record t { contexts = change (λ c. Some (referred c)) t.contexts k }

-- attaching to a stream that keeps what it has
-- a new reference, unless the count can rise no more
abbrev pub refer_at : Contexts → ℕ → Result (ℕ × Contexts) ContextFault
refer_at t k = if is_spent (at t.contexts k) then Err RefsSpent else Ok (k, refer t k)

-- attaching to a stream that has this attachment or none: one that is there stays, and the caller gets it
abbrev pub keep_at : Contexts → ℕ → ℕ → Option ℕ → Result (Set × Contexts) ContextFault
keep_at t stream k None = if is_spent (at t.contexts k) then Err RefsSpent else Ok (Attached, attach t stream k)
keep_at t stream k (Some old) = if is_spent (at t.contexts old) then Err RefsSpent else Ok (AlreadyDefined old, refer t old)

-- attaching to a stream unless it has an attachment
abbrev pub set_keep : Contexts → ℕ → ℕ → Result (Set × Contexts) ContextFault
set_keep t stream k = keep_at t stream k (at t.attachments stream)

-- the reference of an attachment passes to the caller
abbrev pub pass : Option ℕ → Contexts → Contexts
pass None t = t
pass (Some old) t = record t { contexts = change (λ c. Some (passed c)) t.contexts old }

-- attaching to a stream in place of what it has
abbrev pub set_replace : Contexts → ℕ → ℕ → Result (Option ℕ × Contexts) ContextFault
set_replace t stream k =
    if is_spent (at t.contexts k) then Err RefsSpent
    else Ok (at t.attachments stream, pass (at t.attachments stream) (attach t stream k))

-- a reference to what is attached to a stream
abbrev pub get_at : Contexts → Option ℕ → Result (ℕ × Contexts) ContextFault
get_at t None = Err NotFound
get_at t (Some k) = refer_at t k

-- a reference to what a stream has
abbrev pub get : Contexts → ℕ → Result (ℕ × Contexts) ContextFault
get t stream = get_at t (at t.attachments stream)

-- a stream loses its attachment
abbrev pub delete_at : Contexts → ℕ → Option ℕ → Result Contexts ContextFault
delete_at t stream None = Err NotFound
delete_at t stream (Some k) = Ok (record { contexts = change detached t.contexts k; attachments = without t.attachments stream })

-- detaching what a stream has
abbrev pub delete : Contexts → ℕ → Result Contexts ContextFault
delete t stream = delete_at t stream (at t.attachments stream)

-- every stream loses its attachment
abbrev pub delete_all : Contexts → Contexts
delete_all t = record { contexts = all_detached t.attachments t.contexts; attachments = [] }

-- a reference comes back
abbrev pub release : Contexts → ℕ → Contexts
release t k = record t { contexts = change released t.contexts k }

-- a context has another state
abbrev pub set_state : Contexts → ℕ → ContextState → Contexts
set_state t k state = record t { contexts = change (λ c. Some (with_state state c)) t.contexts k }

-- the state of the context at a key, and of the one that is attached to a stream
abbrev pub state_at : Contexts → ℕ → Option ContextState
state_at t k = option_map (λ c. c.state) (at t.contexts k)

-- the state of what is attached to a stream
abbrev pub state_of : Contexts → ℕ → Option ContextState
state_of t stream = option_and_then (λ k. state_at t k) (at t.attachments stream)
