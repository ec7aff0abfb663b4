-- The asks in line, client by client.
use Rattle.std.specs.Prelude.{◌≡◌, ℕ, Bool, true, false, nat_eq, List, [], ◌∷◌, ◌++◌, drop, length, slice_get, Option, None, Some, is_some, if◌then◌else◌}
use Rattle.std.specs.Option.{option_map, unwrap_or}
use Rattle.std.specs.Ordering.{nat_cmp}
use Rattle.std.specs.BTreeMap.{is_at}
use Rattle.std.specs.List.{list_any}
use Rattle.std.specs.Map.{lookup}
use Rattle.std.specs.Set.{remove_key}
use Rattle.av_turns.specs.Clients.{is_once}
use Rattle.av_turns.specs.declared.queue.QueuedAsk.{QueuedAsk}
use Rattle.av_turns.specs.declared.line.First.{First}
use Rattle.av_turns.specs.declared.line.Found.{Found}
use Rattle.av_turns.specs.declared.line.Found.TheVariants.{Front, Later, Nobody}

-- an ask: its client's word for it, when its first byte came, what is to be judged
pub record Asked : Type 0 where
  pub tag : ℕ
  pub first : ℕ
  pub content : List ℕ

abbrev pub asked_of : QueuedAsk → Asked
asked_of a = record { tag = a.tag; first = a.first; content = a.content.items }

-- no ask
abbrev pub is_nobody : List Asked → Bool
is_nobody [] = true
is_nobody (a ∷ as_well) = false

-- the asks of each client in line; the clients, in the order in which they are taken
pub record Lined : Type 0 where
  pub asks : List (ℕ × List Asked)
  pub order : List ℕ

-- the asks of a client
abbrev pub queue_at : List (ℕ × List Asked) → ℕ → Option (List Asked)
queue_at asks n = lookup (is_at (nat_cmp n)) asks

abbrev pub queue_of : List (ℕ × List Asked) → ℕ → List Asked
queue_of asks n = unwrap_or (queue_at asks n) []

-- a client's asks are these now, and those of the others as before
abbrev pub Sets : List (ℕ × List Asked) → List (ℕ × List Asked) → ℕ → List Asked → Type 0
Sets old new n queue = (q : ℕ) → queue_of new q ≡ (if nat_eq q n then queue else queue_of old q)

abbrev pub SameAsks : List (ℕ × List Asked) → List (ℕ × List Asked) → Type 0
SameAsks old new = (q : ℕ) → queue_of new q ≡ queue_of old q

-- a client's asks are dropped
abbrev pub Drops : List (ℕ × List Asked) → List (ℕ × List Asked) → ℕ → Type 0
Drops old new n = (q : ℕ) → queue_at new q ≡ (if nat_eq q n then None else queue_at old q)

-- whoever has an ask in line is in the order, once
pub record IsOrdered (asks : List (ℕ × List Asked)) (order : List ℕ) : Type 0 where
  pub there : (n : ℕ) → list_any (nat_eq n) order ≡ is_some (queue_at asks n)
  pub once : is_once order ≡ true

-- an ask of a client is behind its others; a client that was not in the order is behind the others
pub record Stands (old new : Lined) (n : ℕ) (a : Asked) : Type 0 where
  pub asks : Sets old.asks new.asks n (queue_of old.asks n ++ a ∷ [])
  pub order : new.order ≡ (if list_any (nat_eq n) old.order then old.order else old.order ++ n ∷ [])

-- nothing has changed
pub record Same (old new : Lined) : Type 0 where
  pub asks : SameAsks old.asks new.asks
  pub order : new.order ≡ old.order

-- the first ask of a client: how long it is, and when the first byte of the one behind it came
pub record IsFirst (asks : List (ℕ × List Asked)) (f : First) : Type 0 where
  pub length : Some f.length ≡ option_map (λ a. length a.content) (slice_get (queue_of asks f.client) 0)
  pub next : f.next ≡ option_map (λ a. a.first) (slice_get (queue_of asks f.client) 1)

-- the client in front has no ask, and left the order
pub record Leaves (old new : Lined) : Type 0 where
  pub who : ℕ
  pub front : old.order ≡ who ∷ new.order
  pub bare : queue_of old.asks who ≡ []
  pub asks : SameAsks old.asks new.asks

-- a look at the order: the client in front has an ask; or it has none, and leaves; or nobody is there
abbrev pub Looks : Lined → Lined → Found → Type 0
Looks old new (Front f) = (new ≡ old) × (old.order ≡ f.client ∷ drop 1 old.order) × IsFirst old.asks f
Looks old new Later = Leaves old new
Looks old new Nobody = (new ≡ old) × (old.order ≡ [])

-- clients in front that have no ask left the order
pub record Skips (old new : Lined) : Type 0 where
  pub gone : List ℕ
  pub order : old.order ≡ gone ++ new.order
  pub bare : (q : ℕ) → list_any (nat_eq q) gone ≡ true → queue_of old.asks q ≡ []
  pub asks : SameAsks old.asks new.asks

-- the client in front has an ask
pub record IsInFront (l : Lined) (f : First) : Type 0 where
  pub front : l.order ≡ f.client ∷ drop 1 l.order
  pub first : IsFirst l.asks f

-- the client in front has its first ask taken, and is behind the others
pub record Takes (old new : Lined) (n : ℕ) (a : Asked) : Type 0 where
  pub front : old.order ≡ n ∷ drop 1 old.order
  pub order : new.order ≡ drop 1 old.order ++ n ∷ []
  pub ask : queue_of old.asks n ≡ a ∷ queue_of new.asks n
  pub others : (q : ℕ) → nat_eq q n ≡ false → queue_of new.asks q ≡ queue_of old.asks q

-- the first ask of a client left the line out of its turn, and the order is as before
pub record Pulls (old new : Lined) (n : ℕ) (a : Asked) : Type 0 where
  pub order : new.order ≡ old.order
  pub ask : queue_of old.asks n ≡ a ∷ queue_of new.asks n
  pub others : (q : ℕ) → nat_eq q n ≡ false → queue_of new.asks q ≡ queue_of old.asks q

-- a client is gone, with its asks
pub record Forgets (old new : Lined) (n : ℕ) : Type 0 where
  pub asks : Sets old.asks new.asks n []
  pub order : new.order ≡ remove_key (nat_eq n) old.order

-- nothing can be taken: nobody is in the order, or the client in front has no ask
abbrev pub IsBare : Lined → Type 0
IsBare l = (order : List ℕ) → (n : ℕ) → l.order ≡ n ∷ order → queue_of l.asks n ≡ []

-- whoever has an ask in line is in the order
abbrev pub EachIsInLine : Lined → Type 0
EachIsInLine l = (n : ℕ) → is_nobody (queue_of l.asks n) ≡ false → list_any (nat_eq n) l.order ≡ true

-- nobody has an ask in line
abbrev pub IsNobodyInLine : Lined → Type 0
IsNobodyInLine l = (n : ℕ) → queue_of l.asks n ≡ []
