-- The head of a script: some of its limits, and its volume.
use Rattle.std.specs.Prelude.{ℕ, ◌+◌, ◌==◌, ◌++◌, List, [], Result, Ok, Err, codes, decimal, if◌then◌else◌}
use Rattle.av_base.specs.Limits.{checked, greatest_values, with_field}
use Rattle.av_base.specs.declared.limits.LimitFault.{LimitFault}
use Rattle.av_base.specs.declared.limits.LimitField.{LimitField}
use Rattle.av_base.specs.declared.limits.LimitField.TheVariants.{Streams, Length, Generation, Questions, Pended, Jobs, Cache, Chunk, Audit}
use Rattle.av_base.specs.declared.limits.LimitValues.{LimitValues}
use Rattle.av_base.specs.declared.mode.Mode.{Mode}
use Rattle.av_base.specs.declared.mode.Mode.TheVariants.{FailClosed, FailOpen}
use Rattle.std.specs.String.{string_bytes}
use Rattle.av_generate.specs.Draws.{below}
use Rattle.av_generate.specs.declared.head.Draft.{Draft}
use Rattle.av_generate.specs.declared.head.Head as declared

-- the word of a field
abbrev pub field_word : LimitField → List ℕ
field_word Streams = codes "streams"
field_word Length = codes "length"
field_word Generation = codes "generation"
field_word Questions = codes "questions"
field_word Pended = codes "pended"
field_word Jobs = codes "jobs"
field_word Cache = codes "cache"
field_word Chunk = codes "chunk"
field_word Audit = codes "audit"

-- the words of a limit line
abbrev pub limit_words : LimitField → ℕ → List ℕ
limit_words which value = codes "limit " ++ (field_word which ++ (codes " " ++ decimal value))

-- a head as far as it was drawn: its text, its limits, and the state of the draws
pub record Drawing : Type 0 where
  pub text : List ℕ
  pub limits : LimitValues
  pub draws : ℕ

-- a limit more
abbrev pub with_limit : LimitField → ℕ × ℕ → Drawing → Drawing
with_limit which d h =
    record { text = h.text ++ limit_words which (1 + d.0) ++ codes "\n"; limits = with_field which (1 + d.0) h.limits; draws = d.1 }

-- in one of three draws a field is limited, to 1 up to its most
unfoldable pub field_drawn : LimitField → ℕ → Drawing → Drawing
field_drawn which most h =
    let d = below 3 h.draws in
    if d.0 == 0 then with_limit which (below most d.1) h else record h { draws = d.1 }

-- the fields that may be limited, in turn
unfoldable pub fields_drawn : Drawing → Drawing
fields_drawn h =
    field_drawn Chunk 3
    (field_drawn Cache 3
    (field_drawn Jobs 2
    (field_drawn Pended 4 (field_drawn Questions 3 (field_drawn Generation 24 (field_drawn Length 8 (field_drawn Streams 3 h)))))))

-- the word of a mode
abbrev pub mode_word : Mode → List ℕ
mode_word FailClosed = codes "closed"
mode_word FailOpen = codes "open"

-- the words of the volume line
abbrev pub volume_words : Mode → List ℕ
volume_words mode = codes "volume 1 " ++ mode_word mode

-- one script in four fails open
unfoldable pub mode_drawn : ℕ → Mode × ℕ
mode_drawn s = let d = below 4 s in (if d.0 == 0 then FailOpen else FailClosed, d.1)

-- the limits that these values are, or the greatest
abbrev pub or_greatest : Result LimitValues LimitFault → LimitValues
or_greatest (Ok values) = values
or_greatest (Err fault) = greatest_values

-- a whole head: its text, what it says, and the state of the draws behind it
pub record Head : Type 0 where
  pub text : List ℕ
  pub limits : LimitValues
  pub mode : Mode
  pub draws : ℕ

-- the volume line below the limits
abbrev pub with_volume : Drawing → Mode × ℕ → Head
with_volume h m =
    record { text = h.text ++ volume_words m.0 ++ codes "\n"; limits = or_greatest (checked h.limits); mode = m.0; draws = m.1 }

-- behind the limits
unfoldable pub headed : Drawing → Head
headed h = with_volume h (mode_drawn h.draws)

-- the head of a seed's script
unfoldable pub head_drawn : ℕ → Head
head_drawn seed = headed (fields_drawn (record { text = []; limits = greatest_values; draws = seed }))

-- a draft with the state of the draws
abbrev pub drawn_as : Draft → ℕ → Drawing
drawn_as d s = record { text = string_bytes d.text; limits = d.values; draws = s }

-- a head with the state of the draws
abbrev pub headed_as : declared.Head → ℕ → Head
headed_as h s = record { text = string_bytes h.text; limits = h.limits; mode = h.mode; draws = s }
