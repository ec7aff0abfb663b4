-- The objects of messages that were sent, and of work that was lent, by their places.
use Rattle.std.specs.Prelude.{ℕ, List, [], ◌∷◌, Option, None, Some, codes}
use Rattle.hex.specs.Hex.{encode_lower}
use Rattle.json.specs.Token.{Token}
use Rattle.av_base.specs.declared.port.Port.{Port}
use Rattle.av_base.specs.declared.port.Port.TheVariants.{One, Two}
use Rattle.av_frame.specs.Message.{Letter}
use Rattle.av_frame.specs.declared.message.Body.{Body}
use Rattle.av_json.specs.Member.{joined, number_tokens, object_tokens, text_tokens}
use Rattle.av_service.specs.Work.{WorkState}
use Rattle.av_output.specs.declared.message.Direction.{Direction}
use Rattle.av_output.specs.declared.message.Direction.TheVariants.{Down, Up}
use Rattle.av_output.specs.declared.told.Field.{Field as HeldField}
use Rattle.av_output.specs.Objects.Lines.{is}
use Rattle.av_output.specs.Told.{Field, Id, Number, Bytes, Plain, Word, Told, each, held_field, of_kind, told_of, work_fields}

-- the name of a message's place
abbrev pub way_name : Direction → List ℕ
way_name Down = codes "down"
way_name Up = codes "up"

-- the last members of an object: of port Two it names the port
abbrev pub port_members : Port → List (List Token)
port_members One = []
port_members Two = number_tokens (codes "port") 2 ∷ []

-- a field in an object, and what follows it: an id is two members
abbrev pub field_members : Field → List (List Token) → List (List Token)
field_members (Id id) rest = number_tokens (codes "boot") id.boot ∷ number_tokens (codes "seq") id.seq ∷ rest
field_members (Number name n) rest = number_tokens name n ∷ rest
field_members (Bytes name bytes) rest = text_tokens name (encode_lower bytes) ∷ rest
field_members (Plain name n) rest = number_tokens name n ∷ rest
field_members (Word name word) rest = text_tokens name word ∷ rest

-- the tokens of a field that the code holds, if there is one
abbrev pub field_tokens : HeldField → List Token
field_tokens f = joined (each field_members (held_field f) [])

-- the object of what is told of a place in a list, by the list's name
abbrev pub told_tokens : List ℕ → ℕ → Told → Port → List Token
told_tokens list place t port =
    object_tokens (is t.kind ∷ number_tokens list place ∷ each field_members t.fields (port_members port))

-- the object of a message of these fields at a port, by its way and place
abbrev pub body_tokens : Direction → ℕ → Port → Body → List Token
body_tokens way place port body = told_tokens (way_name way) place (told_of body) port

-- the object of a message
abbrev pub message_tokens : Direction → ℕ → Letter → List Token
message_tokens way place m = body_tokens way place m.port m.body

-- the object of work that the service of a port lent
abbrev pub lent_tokens : ℕ → Port → WorkState → List Token
lent_tokens place port work = told_tokens (codes "work") place (of_kind (codes "work") (work_fields work)) port

-- the same of a place, where work may have come back
abbrev pub work_tokens : ℕ → Option (Port × WorkState) → List Token
work_tokens place None = []
work_tokens place (Some x) = lent_tokens place x.0 x.1
