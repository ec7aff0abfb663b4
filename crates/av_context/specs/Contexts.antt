-- A table of contexts as two finite maps, each a list of pairs by rising key.
use Rattle.std.specs.Prelude.{◌≡◌, ◌≢◌, ℕ, ◌<◌, ◌≤◌, ◌==◌, List, [], ◌∷◌, sum_by, Option, None, Some, IsSomeAnd, if◌then◌else◌}
use Rattle.std.specs.Ordering.{nat_cmp}
use Rattle.std.specs.List.Sorted.{IsStrictlySortedBy}
use Rattle.std.specs.Map.{keys_of, values_of, lookup, remove_entry}
use Rattle.std.specs.BTreeMap.{is_at, insert_entry}
use Rattle.av_context.specs.declared.context.Context.{Context}
use Rattle.av_context.specs.Context.{detached}

-- the contexts by key, and the key of the context that is attached to a stream, by stream
pub record Contexts : Type 0 where
  pub contexts : List (ℕ × Context)
  pub attachments : List (ℕ × ℕ)

-- no context, and nothing attached
abbrev pub no_contexts : Contexts
no_contexts = record { contexts = []; attachments = [] }

-- what a map has at a key
abbrev pub at : {X : Type 0} → List (ℕ × X) → ℕ → Option X
at m k = lookup (is_at (nat_cmp k)) m

-- the map with x at a key
abbrev pub with : {X : Type 0} → List (ℕ × X) → ℕ → X → List (ℕ × X)
with m k x = insert_entry nat_cmp m k x

-- the map with nothing at a key
abbrev pub without : {X : Type 0} → List (ℕ × X) → ℕ → List (ℕ × X)
without m k = remove_entry (is_at (nat_cmp k)) m

-- the map with this at a key
abbrev pub set_at : {X : Type 0} → List (ℕ × X) → ℕ → Option X → List (ℕ × X)
set_at m k None = without m k
set_at m k (Some x) = with m k x

-- a map came to have this at a key, and has what it had at the others
pub record PutsAt {X : Type 0} (old new : List (ℕ × X)) (k : ℕ) (slot : Option X) : Type 0 where
  pub whole : new ≡ set_at old k slot
  pub here : at new k ≡ slot
  pub others : (j : ℕ) → j ≢ k → at new j ≡ at old j

-- the map with what is at a key changed; where nothing is, nothing changes
abbrev pub changed : {X : Type 0} → (X → Option X) → List (ℕ × X) → ℕ → Option X → List (ℕ × X)
changed f m k None = m
changed f m k (Some x) = set_at m k (f x)

-- one element of a map changed or taken out
abbrev pub change : {X : Type 0} → (X → Option X) → List (ℕ × X) → ℕ → List (ℕ × X)
change f m k = changed f m k (at m k)

-- a reference of this key is good: the table has the context, with a count above its attachments
abbrev pub IsHeld : Contexts → ℕ → Type 0
IsHeld t k = IsSomeAnd (at t.contexts k) (λ c. c.attached < c.references)

-- each attachment in turn gives its reference back
abbrev pub all_detached : List (ℕ × ℕ) → List (ℕ × Context) → List (ℕ × Context)
all_detached [] m = m
all_detached (a ∷ rest) m = all_detached rest (change detached m a.1)

-- how many streams a context is attached to
abbrev pub attachments_to : List (ℕ × ℕ) → ℕ → ℕ
attachments_to m k = sum_by (λ key. if key == k then 1 else 0) (values_of m)

-- what is at a key agrees with its number of attachments: a context counts each of them, and is there as long as anything
-- refers to it
abbrev pub CountsAgree : Option Context → ℕ → Type 0
CountsAgree None n = n ≡ 0
CountsAgree (Some c) n = (c.attached ≡ n) × (c.attached ≤ c.references) × (0 < c.references)

-- so it is at each key
abbrev pub AreCounted : List (ℕ × Context) → (ℕ → ℕ) → Type 0
AreCounted m n = (k : ℕ) → CountsAgree (at m k) (n k)

-- a context that is attached somewhere, and counts it
abbrev pub IsAttached : List (ℕ × Context) → ℕ → Type 0
IsAttached m k = IsSomeAnd (at m k) (λ c. (1 ≤ c.attached) × (c.attached ≤ c.references))

-- what holds of every table: keys and streams ascend, and each context agrees with its number of attachments
pub record IsSound (t : Contexts) : Type 0 where
  pub contexts_ascend : IsStrictlySortedBy nat_cmp (keys_of t.contexts)
  pub attachments_ascend : IsStrictlySortedBy nat_cmp (keys_of t.attachments)
  pub counted : AreCounted t.contexts (attachments_to t.attachments)
