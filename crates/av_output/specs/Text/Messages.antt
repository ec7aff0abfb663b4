-- The lines of messages that were sent, and of work that was lent, by their places.
use Rattle.std.specs.Prelude.{ℕ, ◌+◌, List, [], ◌∷◌, ◌++◌, Option, None, Some, codes, decimal}
use Rattle.hex.specs.Hex.{encode_lower}
use Rattle.av_base.specs.Part.{spelt}
use Rattle.av_base.specs.declared.port.Port.{Port}
use Rattle.av_base.specs.declared.port.Port.TheVariants.{One, Two}
use Rattle.av_frame.specs.Message.{Letter}
use Rattle.av_frame.specs.declared.message.Body.{Body}
use Rattle.av_service.specs.Work.{WorkState}
use Rattle.av_output.specs.declared.message.Direction.{Direction}
use Rattle.av_output.specs.declared.message.Direction.TheVariants.{Down, Up}
use Rattle.av_output.specs.declared.told.Field.{Field as HeldField}
use Rattle.av_output.specs.Told.{Field, Id, Number, Bytes, Plain, Word, Told, each, held_field, of_kind, told_of, work_fields}

-- the end of a line: of port Two it names the port
abbrev pub line_end : Port → List ℕ
line_end One = codes "\n"
line_end Two = codes " port 2\n"

-- the word of the list in which a message stands
abbrev pub way_word : Direction → List ℕ
way_word Down = codes "down "
way_word Up = codes "up "

-- a field in a line, and what follows it: an id is written as boot and sequence with a dot between them
abbrev pub field_parts : Field → List (List ℕ) → List (List ℕ)
field_parts (Id id) rest = codes " " ∷ decimal id.boot ∷ codes "." ∷ decimal id.seq ∷ rest
field_parts (Number name n) rest = codes " " ∷ name ∷ codes " " ∷ decimal n ∷ rest
field_parts (Bytes name bytes) rest = codes " " ∷ name ∷ codes " " ∷ encode_lower bytes ∷ rest
field_parts (Plain name n) rest = codes " " ∷ decimal n ∷ rest
field_parts (Word name word) rest = codes " " ∷ word ∷ rest

-- the text of a field that the code holds, if there is one
abbrev pub field_text : HeldField → List ℕ
field_text f = spelt (each field_parts (held_field f) [])

-- the line of what is told of a place in a list, by the list's word
abbrev pub told_text : List ℕ → ℕ → Told → List ℕ → List ℕ
told_text list place t end = spelt (list ∷ decimal place ∷ codes " " ∷ t.kind ∷ each field_parts t.fields (end ∷ []))

-- the line of a message of these fields at a port, by its way and place
abbrev pub body_text : Direction → ℕ → Port → Body → List ℕ
body_text way place port body = told_text (way_word way) place (told_of body) (line_end port)

-- the line of a message
abbrev pub message_text : Direction → ℕ → Letter → List ℕ
message_text way place m = body_text way place m.port m.body

-- what is told of all that stands in a list from a place on, each with its place
abbrev pub placed : {A B : Type 0} → (ℕ → A → List B) → ℕ → List A → List B
placed told place [] = []
placed told place (x ∷ xs) = told place x ++ placed told (place + 1) xs

-- work that the service of a port lent
abbrev pub lent_text : ℕ → Port → WorkState → List ℕ
lent_text place port work = told_text (codes "work ") place (of_kind (codes "lent") (work_fields work)) (line_end port)

-- the same of a place, where work may have come back
abbrev pub work_text : ℕ → Option (Port × WorkState) → List ℕ
work_text place None = []
work_text place (Some x) = lent_text place x.0 x.1
