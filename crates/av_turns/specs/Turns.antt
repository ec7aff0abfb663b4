-- All that is known of the guard's clients, and what each call does to it.
use Rattle.std.specs.Prelude.{◌≡◌, ◌≤◌, ◌<◌, ◌+◌, min, ◌⊎◌, ℕ, Bool, true, false, List, [], length, Option, None, Some, Result, Ok, Err, IfSome, is_some, if◌then◌else◌}
use Rattle.std.specs.Option.{unwrap_or}
use Rattle.av_turns.specs.Budget.{is_spent, spent}
use Rattle.av_turns.specs.Client.{asked, large_left, large_stood, reply_of, room_of, said, settled, small_left, small_stood}
use Rattle.av_turns.specs.Clients.{Admits, at, Goes, is_due, IsGone, LeavesRing, longest_idle, NobodyMayTurn, Puts, State, Steps, Looks}
use Rattle.av_turns.specs.Line.{Asked, Forgets, IsFirst, IsInFront, IsNobodyInLine, Lined, Pulls, SameAsks, Skips, Stands, Takes}
use Rattle.av_turns.specs.Questions.{Ends, is_asked, question_at, Running}
use Rattle.av_turns.specs.Places.{is_over, since_of, stuck_of, unheard_of}
use Rattle.av_turns.specs.Times.{after}
use Rattle.av_turns.specs.Windows.{has_room}
use Rattle.av_turns.specs.declared.budget.Budget.{Budget}
use Rattle.av_turns.specs.declared.line.First.{First}
use Rattle.av_turns.specs.declared.client.Client.{Client}
use Rattle.av_turns.specs.declared.clients.Look.TheVariants.{Turn as LookTurn}
use Rattle.av_turns.specs.declared.line.Standing.{Standing}
use Rattle.av_turns.specs.declared.places.Places.{Places}
use Rattle.av_turns.specs.declared.places.Guest.TheVariants.{Nobody as NoGuest}
use Rattle.std.specs.declared.alloc.AllocError.{AllocError}
use Rattle.av_turns.specs.declared.turns.Admitted.{Admitted}
use Rattle.av_turns.specs.declared.turns.Admitted.TheVariants.{Admit, Instead, Away}
use Rattle.av_turns.specs.declared.turns.Late.{Late}
use Rattle.av_turns.specs.declared.turns.Late.TheVariants.{Close, Deny, Guest, Nothing, Question, Service}
use Rattle.av_turns.specs.declared.turns.Next.{Next}
use Rattle.av_turns.specs.declared.turns.Next.TheVariants.{Turn, Later, Nobody}
use Rattle.av_turns.specs.declared.turns.Parsed.{Parsed}
use Rattle.av_turns.specs.declared.turns.Parsed.TheVariants.{GoesOn, TurnEnds}
use Rattle.av_turns.specs.declared.turns.Thing.{Thing}
use Rattle.av_turns.specs.declared.turns.Thing.TheVariants.{Said, Known, New}
use Rattle.av_turns.specs.declared.turns.Why.{Why}
use Rattle.av_turns.specs.declared.turns.Why.TheVariants.{Idle, SaidNothing, TookNothing}

-- the clients, their small and their large asks in line, how many clients there may be, how long each thing may take, the places of the services and of who
-- waits for them, the questions that run, how many small asks left the line behind the last large one, whether one may go ahead, and what is left of the turn that
-- is on
pub record All : Type 0 where
  pub clients : State
  pub smalls : Lined
  pub larges : Lined
  pub passed : ℕ
  pub may_jump : Bool
  pub most : ℕ
  pub wait : ℕ
  pub places : Places
  pub questions : Running
  pub budget : Budget

-- what the line of asks does not touch
pub record IsBeside (old new : All) : Type 0 where
  pub most : new.most ≡ old.most
  pub wait : new.wait ≡ old.wait
  pub places : new.places ≡ old.places
  pub questions : new.questions ≡ old.questions
  pub budget : new.budget ≡ old.budget

-- nobody is there yet
abbrev pub nobody_yet : ℕ → ℕ → All
nobody_yet most wait =
    record {
      clients = record { clients = []; ring = []; wants = []; shared = 0; wait = wait };
      smalls = record { asks = []; order = [] };
      larges = record { asks = []; order = [] };
      passed = 0;
      may_jump = true;
      most = most;
      wait = wait;
      places = record { first = record { is_taken = false; misses = 0 }; second = record { is_taken = false; misses = 0 }; first_guest = NoGuest; second_guest = NoGuest };
      questions = record { running = []; windows = record { small = 0; large = 0 } };
      budget = record { asks = 0; said = 0 };
    }

-- all but the clients is as before
pub record IsApart (old new : All) : Type 0 where
  pub smalls : new.smalls ≡ old.smalls
  pub larges : new.larges ≡ old.larges
  pub passed : new.passed ≡ old.passed
  pub may_jump : new.may_jump ≡ old.may_jump
  pub most : new.most ≡ old.most
  pub wait : new.wait ≡ old.wait
  pub places : new.places ≡ old.places
  pub questions : new.questions ≡ old.questions
  pub budget : new.budget ≡ old.budget

-- a client's counts are changed by this step, and it is where it belongs
abbrev pub TellsBy : Option Client → All → All → ℕ → (Client → Client) → Type 0
TellsBy None old new n step = new ≡ old
TellsBy (Some c) old new n step = Puts old.clients new.clients n c (settled (step c)) × IsApart old new

abbrev pub Tells : All → All → ℕ → (Client → Client) → Type 0
Tells old new n step = TellsBy (at old.clients.clients n) old new n step

-- all but the turn that is on
abbrev pub in_turn_of : All → All → All
in_turn_of old new = record new { budget = old.budget }

-- a turn: the ring's front goes to its back, and gets bytes within its room and its part of the round
abbrev pub Nexts : All → All → Next → Type 0
Nexts old new (Turn n bytes asks) =
    Looks old.clients new.clients (LookTurn n) × IfSome (at new.clients.clients n) (λ c. bytes ≤ room_of c) × (bytes ≤ 65536) × (asks ≤ 16)
    × (new.budget ≡ record { asks = asks; said = 0 }) × IsApart old (in_turn_of old new)
Nexts old new Later = LeavesRing old.clients new.clients × IsApart old new
Nexts old new Nobody = (new ≡ old) × NobodyMayTurn old.clients

-- a thing that ends the turn was parsed
pub record EndsTurn (old new : All) : Type 0 where
  pub some : is_spent old.budget ≡ false
  pub none : new.budget ≡ record { asks = 0; said = 0 }

-- a thing was parsed, and put so many bytes into the output: the turn goes on until nothing of it is left
pub record Spends (old new : All) (bytes : ℕ) (p : Parsed) : Type 0 where
  pub some : is_spent old.budget ≡ false
  pub left : new.budget ≡ spent bytes old.budget
  pub ends : p ≡ (if is_spent new.budget then TurnEnds else GoesOn)

-- a small ask of a client is in line
pub record WaitsSmall (old new : All) (n : ℕ) (c : Client) (a : Asked) : Type 0 where
  pub counts : Puts old.clients new.clients n c (settled (small_stood (length a.content) a.first c))
  pub asks : Stands old.smalls new.smalls n a
  pub larges : new.larges ≡ old.larges
  pub passed : new.passed ≡ old.passed
  pub may_jump : new.may_jump ≡ old.may_jump
  pub turn : EndsTurn old new
  pub rest : IsBeside old (in_turn_of old new)

-- a large ask of a client is in line
pub record WaitsLarge (old new : All) (n : ℕ) (c : Client) (a : Asked) : Type 0 where
  pub counts : Puts old.clients new.clients n c (settled (large_stood (length a.content) a.first c))
  pub asks : Stands old.larges new.larges n a
  pub smalls : new.smalls ≡ old.smalls
  pub passed : new.passed ≡ old.passed
  pub may_jump : new.may_jump ≡ old.may_jump
  pub turn : EndsTurn old new
  pub rest : IsBeside old (in_turn_of old new)

-- an ask of a client is in line: a large one where it filled a share
abbrev pub Waits : Bool → All → All → ℕ → Client → Asked → Type 0
Waits true old new n c a = WaitsLarge old new n c a
Waits false old new n c a = WaitsSmall old new n c a

-- a command was answered
pub record ParsesCommand (old new : All) (n bytes now : ℕ) (p : Parsed) : Type 0 where
  pub counts : Tells old (in_turn_of old new) n (said bytes now)
  pub turn : Spends old new bytes p

-- a known ask waits for its answer, for which there is room
pub record ParsesKnown (old new : All) (n : ℕ) (p : Parsed) : Type 0 where
  pub counts : Tells old (in_turn_of old new) n asked
  pub turn : IfSome (at old.clients.clients n) (λ c. Spends old new (reply_of c.kind) p)

-- a thing was parsed: a command was answered; a known ask waits for its answer and no line has changed; another ask is in line, and ends the turn
abbrev pub Parses : All → All → ℕ → ℕ → Thing → Parsed → Type 0
Parses old new n now (Said bytes) p = ParsesCommand old new n bytes now p
Parses old new n now Known p = ParsesKnown old new n p
Parses old new n now (New tag content) p =
    IfSome (at old.clients.clients n) (λ c. Waits c.filling old new n c (record { tag = tag; first = unwrap_or c.first now; content = content.items })) × (p ≡ TurnEnds)

-- what a call that parses nothing passes back: the thing that it took
abbrev pub IsNew : ℕ → List ℕ → Thing → Type 0
IsNew tag items (Said bytes) = ⊥
IsNew tag items Known = ⊥
IsNew tag items (New t content) = (t ≡ tag) × (content.items ≡ items)

abbrev pub IsBack : Thing → Thing → Type 0
IsBack (Said bytes) back = back ≡ Said bytes
IsBack Known back = back ≡ Known
IsBack (New tag content) back = IsNew tag content.items back

-- the clients are as before, and each has the asks that it had
pub record IsUnchanged (old new : All) : Type 0 where
  pub clients : new.clients ≡ old.clients
  pub smalls : SameAsks old.smalls.asks new.smalls.asks
  pub larges : SameAsks old.larges.asks new.larges.asks
  pub passed : new.passed ≡ old.passed
  pub may_jump : new.may_jump ≡ old.may_jump
  pub rest : IsBeside old new

-- a client is let in, and then the one that is idle longest is gone, with its asks in line
pub record Replaces (old new : All) (n victim : ℕ) (c : Client) : Type 0 where
  pub full : old.most ≤ length old.clients.clients
  pub idle : longest_idle old.clients.clients ≡ Some victim
  pub between : State
  pub admits : Admits old.clients between n c
  pub goes : IsGone between new.clients victim
  pub small : Forgets old.smalls new.smalls victim
  pub large : Forgets old.larges new.larges victim
  pub passed : new.passed ≡ old.passed
  pub may_jump : new.may_jump ≡ old.may_jump
  pub rest : IsBeside old new

-- a client can't be let in: it is there, or there are as many as may be and none is idle
abbrev pub IsNoPlace : All → ℕ → Type 0
IsNoPlace s n = (is_some (at s.clients.clients n) ≡ true) ⊎ ((s.most ≤ length s.clients.clients) × (longest_idle s.clients.clients ≡ None))

-- a client is at the door: it is let in; it is let in in place of another; it is sent away, and nothing has changed
abbrev pub Accepts : All → All → ℕ → Client → Result Admitted AllocError → Type 0
Accepts old new n c (Ok Admit) = (length old.clients.clients < old.most) × Admits old.clients new.clients n c × IsApart old new
Accepts old new n c (Ok (Instead victim)) = Replaces old new n victim c
Accepts old new n c (Ok Away) = (new ≡ old) × IsNoPlace old n
Accepts old new n c (Err e) = new ≡ old

-- a client is gone, with its asks in line
pub record Closes (old new : All) (n : ℕ) : Type 0 where
  pub clients : Goes old.clients new.clients n
  pub small : Forgets old.smalls new.smalls n
  pub large : Forgets old.larges new.larges n
  pub passed : new.passed ≡ old.passed
  pub may_jump : new.may_jump ≡ old.may_jump
  pub rest : IsBeside old new

-- an ask that left the line, as it was put there
abbrev pub standing_of : Standing → Asked
standing_of s = record { tag = s.tag; first = s.first; content = s.content.items }

-- the window has no room for the ask in front
pub record IsTooLong (r : Running) (l : Lined) : Type 0 where
  pub first : First
  pub front : IsInFront l first
  pub full : has_room first.length r.windows ≡ false

-- no ask waits in this line, or the window has no room for the one in front
abbrev pub IsHeldUp : Running → Lined → Type 0
IsHeldUp r l = IsNobodyInLine l ⊎ IsTooLong r l

-- nothing has changed but that clients without an ask left the order
pub record IsKept (old new : All) : Type 0 where
  pub small : Skips old.smalls new.smalls
  pub large : Skips old.larges new.larges
  pub clients : new.clients ≡ old.clients
  pub passed : new.passed ≡ old.passed
  pub may_jump : new.may_jump ≡ old.may_jump
  pub rest : IsBeside old new

-- the small ask in front was taken
pub record TakesSmall (old new : All) (s : Standing) : Type 0 where
  pub first : First
  pub front : IsInFront old.smalls first
  pub client : s.client ≡ first.client
  pub takes : Takes old.smalls new.smalls s.client (standing_of s)
  pub counts : Steps old.clients new.clients first.client (small_left first.length first.next)
  pub passed : new.passed ≡ min (old.passed + 1) 18446744073709551615
  pub may_jump : new.may_jump ≡ true
  pub larges : new.larges ≡ old.larges
  pub rest : IsBeside old new

-- the large ask in front was taken
pub record TakesLarge (old new : All) (s : Standing) : Type 0 where
  pub first : First
  pub front : IsInFront old.larges first
  pub client : s.client ≡ first.client
  pub takes : Takes old.larges new.larges s.client (standing_of s)
  pub counts : Steps old.clients new.clients first.client (large_left first.length)
  pub passed : new.passed ≡ 0
  pub may_jump : new.may_jump ≡ true
  pub smalls : new.smalls ≡ old.smalls
  pub rest : IsBeside old new

-- a small ask left the line. While a large one may be asked, at most sixteen do
pub record GivesSmall (old new : All) (s : Standing) : Type 0 where
  pub between : All
  pub kept : IsKept old between
  pub takes : TakesSmall between new s
  pub turn : (old.passed < 16) ⊎ IsHeldUp old.questions between.larges

-- a large ask left the line: no small one may be asked, or sixteen were
pub record GivesLarge (old new : All) (s : Standing) : Type 0 where
  pub between : All
  pub kept : IsKept old between
  pub takes : TakesLarge between new s
  pub turn : (16 ≤ old.passed) ⊎ IsHeldUp old.questions between.smalls

abbrev pub IsInTurn : All → All → Standing → Type 0
IsInTurn old new s = GivesSmall old new s ⊎ GivesLarge old new s

-- the first small ask of a client went ahead of its turn, which the next one does not
pub record Jumps (old new : All) (s : Standing) : Type 0 where
  pub may : old.may_jump ≡ true
  pub may_jump : new.may_jump ≡ false
  pub first : First
  pub client : first.client ≡ s.client
  pub front : IsFirst old.smalls.asks first
  pub pulls : Pulls old.smalls new.smalls s.client (standing_of s)
  pub counts : Steps old.clients new.clients first.client (small_left first.length first.next)
  pub passed : new.passed ≡ min (old.passed + 1) 18446744073709551615
  pub larges : new.larges ≡ old.larges
  pub rest : IsBeside old new

abbrev pub IsGiven : All → All → Standing → Type 0
IsGiven old new s = IsInTurn old new s ⊎ Jumps old new s

-- no ask may be asked
pub record IsNoneGiven (old new : All) : Type 0 where
  pub kept : IsKept old new
  pub no_small : IsHeldUp old.questions new.smalls
  pub no_large : IsHeldUp old.questions new.larges

-- no client's time is up
abbrev pub IsNoneLate : State → ℕ → Type 0
IsNoneLate s now = (n t : ℕ) → is_due s.wait (at s.clients n) t ≡ true → now < t

-- no question's time is up
abbrev pub IsNoQuestionLate : Running → ℕ → Type 0
IsNoQuestionLate r now = (n t : ℕ) → is_asked (question_at r.running n) t ≡ true → now < t

-- the time of some client, of some question or of some guest is up then
abbrev pub IsDeadline : All → ℕ → Type 0
IsDeadline s t =
    ((n : ℕ) × (is_due s.clients.wait (at s.clients.clients n) t ≡ true)) ⊎ ((seq : ℕ) × (is_asked (question_at s.questions.running seq) t ≡ true))
    ⊎ (after (since_of s.places) s.wait ≡ Some t)

-- a question whose time was up runs no more
pub record EndsLate (old new : All) (now seq : ℕ) : Type 0 where
  pub due : ℕ
  pub asked : is_asked (question_at old.questions.running seq) due ≡ true
  pub late : due ≤ now
  pub ends : Ends old.questions new.questions seq
  pub rest : new ≡ record old { questions = new.questions }

-- the first small ask of a client left the line out of its turn
pub record LosesSmall (old new : All) (n : ℕ) (a : Asked) : Type 0 where
  pub first : First
  pub client : first.client ≡ n
  pub front : IsFirst old.smalls.asks first
  pub pulls : Pulls old.smalls new.smalls n a
  pub counts : Steps old.clients new.clients n (small_left first.length first.next)
  pub larges : new.larges ≡ old.larges
  pub passed : new.passed ≡ old.passed
  pub may_jump : new.may_jump ≡ old.may_jump
  pub rest : IsBeside old new

-- the large ask of a client left the line out of its turn
pub record LosesLarge (old new : All) (n : ℕ) (a : Asked) : Type 0 where
  pub first : First
  pub client : first.client ≡ n
  pub front : IsFirst old.larges.asks first
  pub pulls : Pulls old.larges new.larges n a
  pub counts : Steps old.clients new.clients n (large_left first.length)
  pub smalls : new.smalls ≡ old.smalls
  pub passed : new.passed ≡ old.passed
  pub may_jump : new.may_jump ≡ old.may_jump
  pub rest : IsBeside old new

-- an ask of a client, whose time was up, left the line
pub record DeniesLate (old new : All) (now n tag : ℕ) : Type 0 where
  pub client : Client
  pub there : at old.clients.clients n ≡ Some client
  pub ask : Asked
  pub tag_is : tag ≡ ask.tag
  pub loses :
      ((is_over (after client.next_small old.wait) now ≡ true) × LosesSmall old new n ask)
      ⊎ ((is_over (after client.next_large old.wait) now ≡ true) × LosesLarge old new n ask)

-- what a client did not do: it did not take its output, did not end what it began, or sent no command
abbrev pub why_of : ℕ → ℕ → Client → Why
why_of wait now c = if is_over (after c.waits wait) now then TookNothing else (if is_over (after c.first wait) now then SaidNothing else Idle)

-- a client whose time was up is closed
pub record ClosesLate (old new : All) (now n : ℕ) (why : Why) : Type 0 where
  pub client : Client
  pub there : at old.clients.clients n ≡ Some client
  pub due : ℕ
  pub is_due : is_due old.clients.wait (at old.clients.clients n) due ≡ true
  pub late : due ≤ now
  pub closes : Closes old new n
  pub reason : why ≡ why_of old.wait now client

-- one thing whose time was up, or none was
abbrev pub Lates : All → All → ℕ → Late → Type 0
Lates old new now (Question seq) = EndsLate old new now seq
Lates old new now (Service place) = (new ≡ old) × (stuck_of old.places ≡ Some place)
Lates old new now (Guest guest) = (new ≡ old) × (unheard_of old.wait now old.places ≡ Some guest)
Lates old new now (Deny n tag) = DeniesLate old new now n tag
Lates old new now (Close n why) = ClosesLate old new now n why
Lates old new now Nothing = (new ≡ old) × IsNoneLate old.clients now × IsNoQuestionLate old.questions now
