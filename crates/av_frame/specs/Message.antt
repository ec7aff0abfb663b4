use Rattle.std.specs.Prelude.{ℕ, ◌+◌, ◌≤◌, ◌<◌, ◌^◌, ◌&&◌, Bool, true, nat_le, List, length}
use Rattle.av_base.specs.declared.limits.TheConstants.{MAX_CHUNK, MAX_GENERATION, MAX_LENGTH}
use Rattle.av_base.specs.declared.message_id.MessageId.{MessageId}
use Rattle.av_base.specs.declared.port.Port.{Port}
use Rattle.av_base.specs.declared.verdict.Verdict.{Verdict}
use Rattle.av_base.specs.declared.verdict.Verdict.TheVariants.{Clean, Infected}
use Rattle.av_frame.specs.declared.outcome.TheConstants.{MAX_INDEX}
use Rattle.av_frame.specs.declared.outcome.Outcome.{Outcome}
use Rattle.av_frame.specs.declared.outcome.Outcome.TheVariants.{Judged, Failed}
use Rattle.av_frame.specs.declared.message.Body.{Body}
use Rattle.av_frame.specs.declared.message.Body.TheVariants.{Scan, Chunk, NoChunk, Abort, Hello, Read, Reply, Updated}

-- a message: the port at which it goes or comes, and its fields
pub record Letter : Type 0 where
  pub port : Port
  pub body : Body

-- these fields, at this port
abbrev pub via : Port → Body → Letter
via port body = record { port = port; body = body }

-- a number of eight bytes that counts from 1
abbrev pub IsCount : ℕ → Type 0
IsCount n = (1 ≤ n) × (n < 2 ^ 64)

-- the id of a question: boots and sequences count from 1
abbrev pub IsId : MessageId → Type 0
IsId id = IsCount id.boot × IsCount id.seq

-- a verdict that a set of at most 1,024 signatures gives of a content of at most 1,048,576 bytes
abbrev pub IsVerdict : Verdict → Type 0
IsVerdict Clean = Unit {0}
IsVerdict (Infected index end_at) = (index ≤ MAX_INDEX) × (1 ≤ end_at) × (end_at ≤ MAX_LENGTH)

-- the ranges of an outcome's fields
abbrev pub IsOutcome : Outcome → Type 0
IsOutcome (Judged version verdict) = IsCount version × IsVerdict verdict
IsOutcome (Failed cause) = Unit {0}

-- some bytes of a content, from a place on
abbrev pub IsPart : ℕ → List ℕ → Type 0
IsPart offset bytes = (1 ≤ length bytes) × (length bytes ≤ MAX_CHUNK) × (offset + length bytes ≤ MAX_LENGTH)

-- each field of a message is in its range
abbrev pub IsInRange : Body → Type 0
IsInRange (Scan id stream generation size) =
    IsId id × IsCount stream × (1 ≤ generation) × (generation ≤ MAX_GENERATION) × (size ≤ MAX_LENGTH)
IsInRange (Chunk id offset bytes) = IsId id × IsPart offset bytes
IsInRange (NoChunk id offset cause) = IsId id × (offset ≤ MAX_LENGTH)
IsInRange (Abort id) = IsId id
IsInRange (Hello volume version) = (volume < 2 ^ 64) × IsCount version
IsInRange (Read id offset count) = IsId id × (offset ≤ MAX_LENGTH) × (1 ≤ count) × (count ≤ MAX_CHUNK)
IsInRange (Reply id outcome) = IsId id × IsOutcome outcome
IsInRange (Updated version) = IsCount version

-- each field of a message is in its range; every port is
abbrev pub IsLetter : Letter → Type 0
IsLetter m = IsInRange m.body

-- The same as tests, of numbers that fit their fields.
abbrev pub id_in_range : MessageId → Bool
id_in_range id = nat_le 1 id.boot && nat_le 1 id.seq

-- a verdict that a set gives of a content
abbrev pub verdict_in_range : Verdict → Bool
verdict_in_range Clean = true
verdict_in_range (Infected index end_at) = nat_le index MAX_INDEX && nat_le 1 end_at && nat_le end_at MAX_LENGTH

-- an outcome whose fields are in their ranges
abbrev pub outcome_in_range : Outcome → Bool
outcome_in_range (Judged version verdict) = nat_le 1 version && verdict_in_range verdict
outcome_in_range (Failed cause) = true

-- some bytes of a content, from a place on
abbrev pub part_in_range : ℕ → List ℕ → Bool
part_in_range offset bytes =
    nat_le 1 (length bytes) && nat_le (length bytes) MAX_CHUNK && nat_le (offset + length bytes) MAX_LENGTH

-- a message whose fields are in their ranges
abbrev pub in_range : Body → Bool
in_range (Scan id stream generation size) =
    id_in_range id && nat_le 1 stream && nat_le 1 generation && nat_le generation MAX_GENERATION && nat_le size MAX_LENGTH
in_range (Chunk id offset bytes) = id_in_range id && part_in_range offset bytes
in_range (NoChunk id offset cause) = id_in_range id && nat_le offset MAX_LENGTH
in_range (Abort id) = id_in_range id
in_range (Hello volume version) = nat_le 1 version
in_range (Read id offset count) = id_in_range id && nat_le offset MAX_LENGTH && nat_le 1 count && nat_le count MAX_CHUNK
in_range (Reply id outcome) = id_in_range id && outcome_in_range outcome
in_range (Updated version) = nat_le 1 version
