-- What a message or lent work tells, apart from the form in which it is told.
use Rattle.std.specs.Prelude.{ℕ, List, [], ◌∷◌, ◌++◌, length, codes}
use Rattle.av_base.specs.declared.message_id.MessageId.{MessageId}
use Rattle.av_base.specs.declared.verdict.Verdict.TheVariants.{Clean, Infected}
use Rattle.av_frame.specs.Cause.{fail_number, no_chunk_number}
use Rattle.av_frame.specs.declared.message.Body.TheVariants.{Scan, Chunk, NoChunk, Abort, Hello, Read, Reply, Updated}
use Rattle.av_frame.specs.declared.message.Body.{Body}
use Rattle.av_frame.specs.declared.outcome.Outcome.{Outcome}
use Rattle.av_frame.specs.declared.outcome.Outcome.TheVariants.{Judged, Failed}
use Rattle.av_service.specs.Work.{WorkState}
use Rattle.av_output.specs.declared.told.Field.{Field as HeldField}
use Rattle.av_output.specs.declared.told.Field.TheVariants as code
use Rattle.av_output.specs.declared.told.Told.{Told as HeldTold}

-- a field by its name: a question's id, a number, bytes, or a number or a word that a line gives without the name
pub data Field : Type 0 where
  Id : (id : MessageId) → Field
  Number : (name : List ℕ) (n : ℕ) → Field
  Bytes : (name bytes : List ℕ) → Field
  Plain : (name : List ℕ) (n : ℕ) → Field
  Word : (name word : List ℕ) → Field

-- the word of a kind, and its fields in turn
pub record Told : Type 0 where
  pub kind : List ℕ
  pub fields : List Field

abbrev pub of_kind : List ℕ → List Field → Told
of_kind kind fields = record { kind = kind; fields = fields }

-- how a question ended
abbrev pub outcome_fields : Outcome → List Field
outcome_fields (Judged version Clean) = Number (codes "version") version ∷ Word (codes "verdict") (codes "clean") ∷ []
outcome_fields (Judged version (Infected index end_at)) =
    Number (codes "version") version ∷ Word (codes "verdict") (codes "infected")
    ∷ Plain (codes "index") index ∷ Number (codes "end") end_at ∷ []
outcome_fields (Failed cause) = Word (codes "verdict") (codes "failed") ∷ Plain (codes "cause") (fail_number cause) ∷ []

-- what a message tells
abbrev pub told_of : Body → Told
told_of (Scan id stream generation size) =
    of_kind (codes "scan")
    (Id id ∷ Number (codes "stream") stream ∷ Number (codes "generation") generation ∷ Number (codes "length") size ∷ [])
told_of (Chunk id offset bytes) =
    of_kind (codes "chunk") (Id id ∷ Number (codes "offset") offset ∷ Bytes (codes "bytes") bytes ∷ [])
told_of (NoChunk id offset cause) =
    of_kind (codes "nochunk") (Id id ∷ Number (codes "offset") offset ∷ Number (codes "cause") (no_chunk_number cause) ∷ [])
told_of (Abort id) = of_kind (codes "abort") (Id id ∷ [])
told_of (Hello volume version) =
    of_kind (codes "hello") (Number (codes "volume") volume ∷ Number (codes "version") version ∷ [])
told_of (Read id offset count) =
    of_kind (codes "read") (Id id ∷ Number (codes "offset") offset ∷ Number (codes "count") count ∷ [])
told_of (Reply id outcome) = of_kind (codes "reply") (Id id ∷ outcome_fields outcome)
told_of (Updated version) = of_kind (codes "updated") (Plain (codes "version") version ∷ [])

-- the fields of lent work: its job's id, where its bytes begin, and how many they are
abbrev pub work_fields : WorkState → List Field
work_fields work =
    Id work.id ∷ Number (codes "offset") work.scan.fed ∷ Number (codes "length") (length work.chunk) ∷ []

-- fields in turn, each in its form, and what follows them
abbrev pub each : {A : Type 0} → (Field → List A → List A) → List Field → List A → List A
each form [] rest = rest
each form (f ∷ fs) rest = form f (each form fs rest)

-- a field that the code holds, if there is one
abbrev pub held_field : HeldField → List Field
held_field (code.Id id) = Id id ∷ []
held_field (code.Number name n) = Number name.now n ∷ []
held_field (code.Bytes name bytes) = Bytes name.now bytes.now ∷ []
held_field (code.Plain name n) = Plain name.now n ∷ []
held_field (code.Word name word) = Word name.now word.now ∷ []
held_field code.Nothing = []

-- the fields that it holds
abbrev pub held_fields : List HeldField → List Field
held_fields [] = []
held_fields (f ∷ fs) = held_field f ++ held_fields fs

-- what it holds
abbrev pub held : HeldTold → Told
held t = of_kind t.kind.now (held_fields t.fields)
