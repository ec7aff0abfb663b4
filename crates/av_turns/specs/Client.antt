-- What is counted of a client, and what each event does to it.
use Rattle.std.specs.Prelude.{◌≤◌, ℕ, ◌+◌, ◌-◌, min, Bool, true, false, not, ◌&&◌, ◌||◌, nat_eq, nat_lt, nat_le, Option, None, Some, is_none, is_some, if◌then◌else◌}
use Rattle.std.specs.Option.{unwrap_or}
use Rattle.av_turns.specs.Times.{after, earlier}
use Rattle.av_turns.specs.declared.client.Client.{Client}
use Rattle.av_turns.specs.declared.client.Kind.{Kind}
use Rattle.av_turns.specs.declared.client.Kind.TheVariants.{Opens, Clamd}
use Rattle.av_turns.specs.declared.client.Left.{Left}
use Rattle.av_turns.specs.declared.client.Left.TheVariants.{Nothing, Whole, Part, Held}

-- what one client may hold: input and asks in line within its floor and its share, output, small asks in line
pub record IsFit (c : Client) : Type 0 where
  pub memory : c.input + c.lined ≤ 8192 + c.share
  pub share : c.share + c.want ≤ 1048845
  pub output : c.out + c.kept ≤ 21504
  pub line : c.line ≤ 16
  pub taken : c.taken ≤ 4096

-- a client that was just let in
abbrev pub new_of : Kind → ℕ → Client
new_of kind now =
    record {
      kind = kind;
      readable = true;
      inside = false;
      filling = false;
      is_ready = false;
      line = 0;
      input = 0;
      lined = 0;
      share = 0;
      want = 0;
      kept = 0;
      out = 0;
      taken = 0;
      first = None;
      next_small = None;
      next_large = None;
      waits = None;
      idle = Some now;
    }

-- output, with the room that is kept for answers
abbrev pub weight_of : Client → ℕ
weight_of c = c.out + c.kept

-- room for input
abbrev pub room_of : Client → ℕ
room_of c = (if c.filling then 8192 + c.share else 8192) - (c.input + c.lined)

-- nothing of its own is in its way, and it waits for no share
abbrev pub is_free : Client → Bool
is_free c = nat_le (weight_of c) 16384 && nat_lt c.line 16 && is_none c.next_large && nat_eq c.want 0

-- its next turn may be: a thing is whole, or a read may come to something for which it has room
abbrev pub may_turn : Client → Bool
may_turn c = is_free c && (c.inside || (c.readable && nat_lt 0 (room_of c)))

-- one more thing may be parsed in its turn
abbrev pub may_parse : Client → Bool
may_parse c = nat_le (weight_of c) 20480 && nat_lt c.line 16 && is_none c.next_large

-- since when it is idle, where that counts
abbrev pub idle_by : Kind → Option ℕ → Option ℕ
idle_by Opens idle = None
idle_by Clamd idle = idle

-- when its time is up: from the first byte of its oldest ask in line, of what it began, of output that it did not take, or idle
abbrev pub due_of : ℕ → Client → Option ℕ
due_of wait c =
    after (earlier (earlier c.next_small c.next_large) (earlier c.first (earlier c.waits (idle_by c.kind c.idle)))) wait

-- nothing of it is in line, unanswered or unsent
abbrev pub is_quiet : Client → Bool
is_quiet c = nat_eq c.line 0 && is_none c.next_large && nat_eq c.kept 0 && nat_eq c.out 0

-- room that is kept for an answer
abbrev pub reply_of : Kind → ℕ
reply_of Opens = 64
reply_of Clamd = 1024

-- the whole size of a large ask, 0 of a small one
abbrev pub size_of : ℕ → ℕ → ℕ
size_of held total =
    if nat_lt 4096 total then min total 1048845 else (if nat_eq total 0 && nat_lt 4096 held then 1048845 else 0)

-- a read may bring something
abbrev pub told : Client → Client
told c = record c { readable = true }

-- bytes came, and there may be more
abbrev pub came : ℕ → Bool → ℕ → Client → Client
came count more now c =
    if nat_eq count 0 then record c { readable = more } else record c { readable = more; input = c.input + count; first = Some (unwrap_or c.first now); idle = None }

-- since when output waits, once so many bytes more do
abbrev pub waits_from : Option ℕ → ℕ → ℕ → Option ℕ
waits_from waits bytes now = if nat_eq bytes 0 then waits else Some (unwrap_or waits now)

-- a command was answered
abbrev pub said : ℕ → ℕ → Client → Client
said bytes now c =
    record c { out = c.out + min bytes 1024; waits = waits_from c.waits bytes now; first = None; idle = None; filling = false }

-- it waits for an answer
abbrev pub asked : Client → Client
asked c = record c { kept = c.kept + reply_of c.kind; first = None; idle = None; filling = false }

-- a small ask of it is in line
abbrev pub small_stood : ℕ → ℕ → Client → Client
small_stood size first c =
    record (asked c) { line = c.line + 1; next_small = Some (unwrap_or c.next_small first); input = c.input - size; lined = c.lined + size }

-- its large ask is in line
abbrev pub large_stood : ℕ → ℕ → Client → Client
large_stood size first c = record (asked c) { next_large = Some first; input = c.input - size; lined = c.lined + size }

-- its first small ask left the line
abbrev pub small_left : ℕ → Option ℕ → Client → Client
small_left size next c = record c { line = c.line - 1; next_small = next; lined = c.lined - size }

-- its large ask left the line
abbrev pub large_left : ℕ → Client → Client
large_left size c = record c { next_large = None; lined = c.lined - size }

-- nothing of its input is left
abbrev pub emptied : ℕ → Client → Client
emptied now c =
    record c { inside = false; filling = false; input = 0; first = None; idle = if is_quiet c then Some (unwrap_or c.idle now) else None }

-- a thing is begun
abbrev pub begun : ℕ → ℕ → ℕ → Client → Client
begun held total now c =
    record c {
      inside = false;
      filling = nat_lt 0 (size_of held total) && nat_eq (size_of held total - c.share) 0;
      want = size_of held total - c.share;
      input = min c.input held;
      first = Some (unwrap_or c.first now);
      idle = None;
    }

-- its turn is over
abbrev pub over : Left → ℕ → Client → Client
over Nothing now c = emptied now c
over (Whole held) now c = record c { inside = true; filling = false; input = min c.input held; first = None; idle = None }
over (Part held total) now c = begun held total now c
over (Held held) now c = record c { readable = false; inside = false; filling = false; input = min c.input held; first = None; idle = None }

-- it has the share that it waited for
abbrev pub granted : Client → Client
granted c = record c { share = c.share + c.want; want = 0; filling = true }

-- a share goes back once the rest is within the floor
abbrev pub settled : Client → Client
settled c =
    if c.filling || is_some c.next_large || nat_lt 0 c.want || nat_lt 8192 (c.input + c.lined) then c else record c { share = 0 }

-- an answer came
abbrev pub answered : ℕ → ℕ → Client → Client
answered bytes now c =
    record c {
      kept = c.kept - min c.kept (reply_of c.kind);
      out = c.out + min bytes (min c.kept (reply_of c.kind));
      waits = waits_from c.waits bytes now;
    }

-- it took all of its output
abbrev pub sent : ℕ → Client → Client
sent now c =
    record c {
      out = 0;
      taken = 0;
      waits = None;
      idle = if nat_eq c.line 0 && is_none c.next_large && nat_eq c.kept 0 && not c.inside && is_none c.first then Some (unwrap_or c.idle now) else c.idle;
    }

-- it took so many bytes
abbrev pub written : ℕ → ℕ → Client → Client
written count now c =
    if nat_le c.out count then sent now c else (if nat_le 4096 (c.taken + count) then record c { out = c.out - count; taken = 0; waits = Some now } else record c { out = c.out - count; taken = c.taken + count })
