-- One context, and how its count changes.
use Rattle.std.specs.Prelude.{ℕ, ◌+◌, ◌-◌, ◌^◌, ◌==◌, Option, None, Some, if◌then◌else◌}
use Rattle.av_context.specs.declared.context.Context.{Context}
use Rattle.av_context.specs.declared.context_state.ContextState.{ContextState}

-- a new context, with the one reference that is given out
abbrev pub fresh : ContextState → Context
fresh state = record { state = state; references = 1; attached = 0 }

-- the greatest count
abbrev pub most_references : ℕ
most_references = 2 ^ 64 - 1

-- one reference more is given out
abbrev pub referred : Context → Context
referred c = record c { references = c.references + 1 }

-- one attachment more
abbrev pub attached : Context → Context
attached c = record c { references = c.references + 1; attached = c.attached + 1 }

-- the reference of an attachment passes to the caller
abbrev pub passed : Context → Context
passed c = record c { attached = c.attached - 1 }

-- a reference that was given out comes back; with the last one the context is gone
abbrev pub released : Context → Option Context
released c = if c.references == 1 then None else Some (record c { references = c.references - 1 })

-- an attachment ends, and its reference with it; with the last one the context is gone
abbrev pub detached : Context → Option Context
detached c = if c.references == 1 then None else Some (record c { references = c.references - 1; attached = c.attached - 1 })

-- every attachment ends, and its reference with it; what was given out stays
abbrev pub loosened : Context → Option Context
loosened c = if c.references == c.attached then None else Some (record c { references = c.references - c.attached; attached = 0 })

-- a context in another state
abbrev pub with_state : ContextState → Context → Context
with_state state c = record c { state = state }
