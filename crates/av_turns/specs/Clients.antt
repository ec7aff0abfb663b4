-- The clients: who is read next, who waits for a share, whose time is up.
use Rattle.std.specs.Prelude.{◌≡◌, ◌≤◌, ◌<◌, ℕ, zero, suc, ◌+◌, Bool, true, false, not, ◌&&◌, ◌||◌, nat_eq, nat_lt, List, [], ◌∷◌, ◌++◌, drop, sum_by, Option, None, Some, IsSomeAnd, if◌then◌else◌}
use Rattle.std.specs.Option.{option_map}
use Rattle.std.specs.Ordering.{nat_cmp}
use Rattle.std.specs.BTreeMap.{is_at, insert_entry}
use Rattle.std.specs.List.{list_any}
use Rattle.std.specs.Map.{lookup, set_value, values_of, remove_entry}
use Rattle.std.specs.Set.{remove_key}
use Rattle.av_turns.specs.Times.{has, is_time}
use Rattle.av_turns.specs.Client.{IsFit, due_of, granted, may_turn, settled}
use Rattle.av_turns.specs.declared.client.Client.{Client}
use Rattle.av_turns.specs.declared.clients.Look.{Look}
use Rattle.av_turns.specs.declared.clients.Look.TheVariants.{Turn, Later, Nobody}

-- the clients by number; who may be read; who waits for a share; bytes of all shares; how long each has
pub record State : Type 0 where
  pub clients : List (ℕ × Client)
  pub ring : List ℕ
  pub wants : List ℕ
  pub shared : ℕ
  pub wait : ℕ

-- what is counted of a client
abbrev pub at : List (ℕ × Client) → ℕ → Option Client
at clients n = lookup (is_at (nat_cmp n)) clients

-- each is there once
abbrev pub is_once : List ℕ → Bool
is_once [] = true
is_once (x ∷ xs) = not (list_any (nat_eq x) xs) && is_once xs

-- a client that may be read is marked, and those marked are in the ring; it waits for a share where it wants one
abbrev pub IsPlaced : Option Client → ℕ → List ℕ → List ℕ → Type 0
IsPlaced None n ring wants = (list_any (nat_eq n) ring ≡ false) × (list_any (nat_eq n) wants ≡ false)
IsPlaced (Some c) n ring wants =
    (may_turn c ≡ true → c.is_ready ≡ true) × (list_any (nat_eq n) ring ≡ c.is_ready) × (list_any (nat_eq n) wants ≡ nat_lt 0 c.want) × IsFit c

-- its time is up then
abbrev pub is_due : ℕ → Option Client → ℕ → Bool
is_due wait None time = false
is_due wait (Some c) time = is_time (due_of wait c) time

-- bytes of the pool that clients have
abbrev pub shared_in : List (ℕ × Client) → ℕ
shared_in clients = sum_by (λ c. c.share) (values_of clients)

-- so it is with each client, and the times of all are kept in their order
pub record IsSound (s : State) (due : List (ℕ × ℕ)) : Type 0 where
  pub placed : (n : ℕ) → IsPlaced (at s.clients n) n s.ring s.wants
  pub ring_once : is_once s.ring ≡ true
  pub wants_once : is_once s.wants ≡ true
  pub timed : (n time : ℕ) → has time n due ≡ is_due s.wait (at s.clients n) time
  pub counted : s.shared ≡ shared_in s.clients
  pub bounded : s.shared ≤ 67108864

-- the same client, marked where it may be read
abbrev pub marked : Client → Client
marked c = record c { is_ready = c.is_ready || may_turn c }

-- the ring, with a client behind the others that is not there and may be read
abbrev pub entered : Bool → Bool → ℕ → List ℕ → List ℕ
entered was may n ring = if was then ring else (if may then ring ++ n ∷ [] else ring)

-- those that wait, with a client that wants now, or without one that wants no more
abbrev pub waiting : ℕ → ℕ → ℕ → List ℕ → List ℕ
waiting was is n wants =
    if nat_eq is 0 then (if nat_eq was 0 then wants else remove_key (nat_eq n) wants) else (if nat_eq was 0 then wants ++ n ∷ [] else wants)

-- a client's counts are these now, and it is where it belongs
pub record Puts (old new : State) (n : ℕ) (was c : Client) : Type 0 where
  pub counts : new.clients ≡ set_value (is_at (nat_cmp n)) old.clients (marked c)
  pub ring : new.ring ≡ entered c.is_ready (may_turn c) n old.ring
  pub wants : new.wants ≡ waiting was.want c.want n old.wants
  pub shared : new.shared + was.share ≡ old.shared + c.share
  pub wait : new.wait ≡ old.wait

-- the front of the ring may not be read, and left
pub record LeavesRing (old new : State) : Type 0 where
  pub who : ℕ
  pub was : Client
  pub there : at old.clients who ≡ Some was
  pub may_not : may_turn was ≡ false
  pub front : old.ring ≡ who ∷ new.ring
  pub counts : new.clients ≡ set_value (is_at (nat_cmp who)) old.clients (record was { is_ready = false })
  pub rest : new ≡ record old { clients = new.clients; ring = new.ring }

-- a look at the front of the ring: the turn of one that may be read, who goes to the back; or the front leaves; or nobody is there
abbrev pub Looks : State → State → Look → Type 0
Looks old new (Turn n) =
    (old.ring ≡ n ∷ drop 1 old.ring) × (new ≡ record old { ring = drop 1 old.ring ++ n ∷ [] }) × IsSomeAnd (at old.clients n) (λ c. may_turn c ≡ true)
Looks old new Later = LeavesRing old new
Looks old new Nobody = (new ≡ old) × (old.ring ≡ [])

-- a client that may be read is in the ring
abbrev pub NobodyIsForgotten : State → Type 0
NobodyIsForgotten s = (n : ℕ) (c : Client) → at s.clients n ≡ Some c → may_turn c ≡ true → list_any (nat_eq n) s.ring ≡ true

-- nobody may be read
abbrev pub NobodyMayTurn : State → Type 0
NobodyMayTurn s = (n : ℕ) (c : Client) → at s.clients n ≡ Some c → may_turn c ≡ true → ⊥

-- a client is let in
pub record Admits (old new : State) (n : ℕ) (c : Client) : Type 0 where
  pub counts : new.clients ≡ insert_entry nat_cmp old.clients n (marked c)
  pub ring : new.ring ≡ entered false (may_turn c) n old.ring
  pub wants : new.wants ≡ old.wants
  pub shared : new.shared ≡ old.shared
  pub wait : new.wait ≡ old.wait

-- a client is gone, with all that is counted of it
pub record IsGone (old new : State) (n : ℕ) : Type 0 where
  pub counts : new.clients ≡ remove_entry (is_at (nat_cmp n)) old.clients
  pub ring : new.ring ≡ remove_key (nat_eq n) old.ring
  pub wants : new.wants ≡ remove_key (nat_eq n) old.wants
  pub wait : new.wait ≡ old.wait

-- whoever waited first has the share that it waited for, for which the pool has room
pub record Grants (old new : State) (n : ℕ) (was : Client) : Type 0 where
  pub front : old.wants ≡ n ∷ drop 1 old.wants
  pub there : at old.clients n ≡ Some was
  pub room : old.shared + was.want ≤ 67108864
  pub puts : Puts old new n was (granted was)

abbrev pub GrantsOne : State → State → Type 0
GrantsOne old new = (n : ℕ) × (was : Client) × Grants old new n was

-- so many that waited first have their shares, one behind the other
abbrev pub GrantsMany : ℕ → State → State → Type 0
GrantsMany zero old new = new ≡ old
GrantsMany (suc count) old new = (between : State) × GrantsOne old between × GrantsMany count between new

abbrev pub AreGranted : State → State → Type 0
AreGranted old new = (count : ℕ) × GrantsMany count old new

-- a client is gone, if it was there
abbrev pub GoesBy : Option Client → State → State → ℕ → Type 0
GoesBy None old new n = new ≡ old
GoesBy (Some c) old new n = IsGone old new n

-- the same, and then shares are given
pub record Goes (old new : State) (n : ℕ) : Type 0 where
  pub between : State
  pub gone : GoesBy (at old.clients n) old between n
  pub grants : AreGranted between new

-- a client that is there has its counts changed by this step
abbrev pub PutsBy : Option Client → State → State → ℕ → (Client → Client) → Type 0
PutsBy None old new n step = new ≡ old
PutsBy (Some c) old new n step = Puts old new n c (settled (step c))

-- the same, and then shares are given
pub record Steps (old new : State) (n : ℕ) (step : Client → Client) : Type 0 where
  pub between : State
  pub puts : PutsBy (at old.clients n) old between n step
  pub grants : AreGranted between new

-- what a client waits for
abbrev pub want_of : Option Client → ℕ
want_of None = 0
want_of (Some c) = c.want

-- the pool has too little for whoever waits first
abbrev pub IsServedBy : State → List ℕ → Type 0
IsServedBy s [] = Unit {0}
IsServedBy s (n ∷ rest) = 67108864 < s.shared + want_of (at s.clients n)

abbrev pub IsServed : State → Type 0
IsServed s = IsServedBy s s.wants

-- no client's time is up before
abbrev pub IsNoneBefore : State → ℕ → Type 0
IsNoneBefore s time = (n t : ℕ) → is_due s.wait (at s.clients n) t ≡ true → time ≤ t

-- no client has a time
abbrev pub IsNoneDue : State → Type 0
IsNoneDue s = (n t : ℕ) → is_due s.wait (at s.clients n) t ≡ false

-- of one that is idle since then and another client, whoever is idle longer, the first where both are
abbrev pub longer : Option (ℕ × ℕ) → ℕ → Option ℕ → Option (ℕ × ℕ)
longer longest number None = longest
longer None number (Some since) = Some (since, number)
longer (Some first) number (Some since) = if nat_lt since first.0 then Some (since, number) else Some first

abbrev pub longest_from : Option (ℕ × ℕ) → List (ℕ × Client) → Option (ℕ × ℕ)
longest_from longest [] = longest
longest_from longest (e ∷ es) = longest_from (longer longest e.0 e.1.idle) es

-- who is idle longest, if anybody is
abbrev pub longest_idle : List (ℕ × Client) → Option ℕ
longest_idle clients = option_map (λ longest. longest.1) (longest_from None clients)

-- no client holds more than it may
abbrev pub EachIsFit : State → Type 0
EachIsFit s = (n : ℕ) (c : Client) → at s.clients n ≡ Some c → IsFit c
