-- The lines of a script, apart from any way to read them.
use Rattle.std.specs.Prelude.{ℕ, Bool, true, false, ◌==◌, ◌||◌, ◌&&◌, is_some, List, [], ◌∷◌, Option, None, Some, Result, Ok, Err, codes, map, if◌then◌else◌}
use Rattle.std.specs.List.{list_all}
use Rattle.std.specs.Option.{option_map}
use Rattle.std.specs.Str.{bytes_eq}
use Rattle.hex.specs.Hex.{decode_of}
use Rattle.hex.specs.declared.error.FromHexError.{FromHexError}
use Rattle.av_base.specs.declared.limits.LimitField.{LimitField}
use Rattle.av_base.specs.declared.limits.LimitField.TheVariants.{Streams, Length, Generation, Questions, Pended, Jobs, Cache, Chunk, Audit}
use Rattle.av_base.specs.declared.mode.Mode.{Mode}
use Rattle.av_base.specs.declared.mode.Mode.TheVariants.{FailClosed, FailOpen}
use Rattle.av_base.specs.declared.port.Port.{Port}
use Rattle.av_base.specs.declared.port.Port.TheVariants.{One, Two}
use Rattle.av_base.specs.Decimal.{decimal_of}
use Rattle.av_sigset.specs.Set.{widest}
use Rattle.av_sigset.specs.declared.signature.Span.{Span}
use Rattle.av_base.specs.Line.{pieces_of}
use Rattle.av_sigset.specs.declared.signature.Pattern.{Pattern}
use Rattle.av_history.specs.declared.event.Event.TheVariants.{Publish, Create, Write, Cut, Remove, Open, Cleanup, Down, Up, Run, Timeout, Connect, DisconnectFilter, DisconnectService, RestartFilter, RestartService}
use Rattle.av_script.specs.declared.command.Command.{Command}
use Rattle.av_script.specs.declared.command.Command.TheVariants.{Step, Judge}
use Rattle.av_script.specs.Script.Words.{one_word, two_words, three_words}

-- what a line says: nothing, a limit, the volume, or a command
pub data Line : Type 0 where
  Silent : Line
  Limit : (which : LimitField) (value : ℕ) → Line
  Volume : (number : ℕ) (mode : Mode) → Line
  Says : (command : Command) → Line

-- one pair of hexadecimal digits or more, of either case
abbrev pub spells_bytes : Result (List ℕ) FromHexError → Bool
spells_bytes (Ok []) = false
spells_bytes (Ok (b ∷ bs)) = true
spells_bytes (Err e) = false

-- a word of bytes in hexadecimal
abbrev pub is_hex : List ℕ → Bool
is_hex word = spells_bytes (decode_of word)

-- the bytes of a word, none of another
abbrev pub or_no_bytes : Result (List ℕ) FromHexError → List ℕ
or_no_bytes (Ok bs) = bs
or_no_bytes (Err e) = []

-- the bytes that such digits spell
abbrev pub bytes_in : List ℕ → List ℕ
bytes_in word = or_no_bytes (decode_of word)

-- from one number to another, in order or not
abbrev pub span_from : Option ℕ → Option ℕ → Option Span
span_from None high = None
span_from (Some low) None = None
span_from (Some low) (Some high) = Some (record { low = low; high = high })

-- the span of the words round a hyphen: two numbers
abbrev pub span_round : List (List ℕ) → Option Span
span_round [] = None
span_round (low ∷ []) = None
span_round (low ∷ high ∷ []) = span_from (decimal_of low) (decimal_of high)
span_round (low ∷ high ∷ other ∷ rest) = None

-- the span of the words behind the first @: without any it is the widest
abbrev pub span_behind : List (List ℕ) → Option Span
span_behind [] = Some widest
span_behind (range ∷ []) = span_round (pieces_of 45 range)
span_behind (range ∷ other ∷ rest) = None

-- this span, or the widest
abbrev pub span_or : Option Span → Span
span_or None = widest
span_or (Some s) = s

-- the words round each @ spell a pattern: bytes in hexadecimal, and a span
abbrev pub are_pattern : List (List ℕ) → Bool
are_pattern [] = false
are_pattern (digits ∷ behind) = is_hex digits && is_some (span_behind behind)

-- a word of a pattern: HEX, or HEX@LOW-HIGH
abbrev pub is_pattern : List ℕ → Bool
is_pattern word = are_pattern (pieces_of 64 word)

-- the pattern of such words
abbrev pub pattern_of_words : List (List ℕ) → Pattern
pattern_of_words [] = record { bytes = []; span = widest }
pattern_of_words (digits ∷ behind) = record { bytes = bytes_in digits; span = span_or (span_behind behind) }

-- the pattern that a word spells
abbrev pub pattern_in : List ℕ → Pattern
pattern_in word = pattern_of_words (pieces_of 64 word)

-- a hyphen stands for no bytes
abbrev pub is_hyphen : List ℕ → Bool
is_hyphen word = bytes_eq word (codes "-")

-- a word of a content: bytes in hexadecimal, or a hyphen for none
abbrev pub is_content : List ℕ → Bool
is_content word = is_hyphen word || is_hex word

-- the content that a word spells
abbrev pub content_in : List ℕ → List ℕ
content_in word = if is_hyphen word then [] else bytes_in word

-- a name is any word; a word has one byte or more
abbrev pub is_empty : List ℕ → Bool
is_empty [] = true
is_empty (b ∷ bs) = false

-- this, unless the test holds
abbrev pub unless : {A : Type 0} → Bool → Option A → Option A
unless true o = None
unless false o = o

-- this, where the test holds
abbrev pub when : {A : Type 0} → Bool → Option A → Option A
when true o = o
when false o = None

-- no word behind a verb
abbrev pub bare_line : Command → List (List ℕ) → Option Line
bare_line command [] = Some (Says command)
bare_line command (word ∷ words) = None

-- a name
abbrev pub name_line : (List ℕ → Command) → Option (List ℕ) → Option Line
name_line command None = None
name_line command (Some name) = unless (is_empty name) (Some (Says (command name)))

-- a number
abbrev pub number_line : (ℕ → Command) → Option (List ℕ) → Option Line
number_line command None = None
number_line command (Some number) = option_map (λ n. Says (command n)) (decimal_of number)

-- the port that the last words name: port One where they are none
abbrev pub port_said : List (List ℕ) → Option Port
port_said [] = Some One
port_said (word ∷ []) = if bytes_eq word (codes "2") then Some Two else None
port_said (word ∷ next ∷ words) = None

-- a port, or none
abbrev pub port_line : (Port → Command) → List (List ℕ) → Option Line
port_line command words = option_map (λ port. Says (command port)) (port_said words)

-- a side, the filter or the service, and what follows it
abbrev pub side_line : (List (List ℕ) → Option Line) → (List (List ℕ) → Option Line) → List (List ℕ) → Option Line
side_line filter service [] = None
side_line filter service (side ∷ rest) =
    if bytes_eq side (codes "filter") then filter rest
    else if bytes_eq side (codes "service") then service rest
    else None

-- a name and a number
abbrev pub cut_line : Option (List ℕ × List ℕ) → Option Line
cut_line None = None
cut_line (Some p) = unless (is_empty p.0) (option_map (λ n. Says (Step (Cut p.0 n))) (decimal_of p.1))

-- a name, a number and a content
abbrev pub write_line : Option (List ℕ × List ℕ × List ℕ) → Option Line
write_line None = None
write_line (Some p) =
    unless (is_empty p.0)
    (when (is_content p.2) (option_map (λ n. Says (Step (Write p.0 n (content_in p.2)))) (decimal_of p.1)))

-- the least version that an open accepts: 0 where it isn't said
abbrev pub least_of : List (List ℕ) → Option ℕ
least_of [] = Some 0
least_of (least ∷ []) = decimal_of least
least_of (least ∷ word ∷ words) = None

-- a name, and a least version or none
abbrev pub open_line : List (List ℕ) → Option Line
open_line [] = None
open_line (name ∷ rest) = unless (is_empty name) (option_map (λ n. Says (Step (Open name n))) (least_of rest))

-- a number, and patterns or none
abbrev pub publish_line : List (List ℕ) → Option Line
publish_line [] = None
publish_line (version ∷ patterns) =
    when (list_all is_pattern patterns) (option_map (λ v. Says (Step (Publish v (map pattern_in patterns)))) (decimal_of version))

-- the field of the limits that a word names
abbrev pub field_named : List ℕ → Option LimitField
field_named word =
    if bytes_eq word (codes "streams") then Some Streams
    else if bytes_eq word (codes "length") then Some Length
    else if bytes_eq word (codes "generation") then Some Generation
    else if bytes_eq word (codes "questions") then Some Questions
    else if bytes_eq word (codes "pended") then Some Pended
    else if bytes_eq word (codes "jobs") then Some Jobs
    else if bytes_eq word (codes "cache") then Some Cache
    else if bytes_eq word (codes "chunk") then Some Chunk
    else if bytes_eq word (codes "audit") then Some Audit
    else None

-- a limit line, of its field and its value
abbrev pub limit_of : Option LimitField → Option ℕ → Option Line
limit_of None value = None
limit_of (Some which) value = option_map (λ n. Limit which n) value

-- a limit line, of its two words
abbrev pub limit_line : Option (List ℕ × List ℕ) → Option Line
limit_line None = None
limit_line (Some p) = limit_of (field_named p.0) (decimal_of p.1)

-- the mode that a word names
abbrev pub mode_named : List ℕ → Option Mode
mode_named word =
    if bytes_eq word (codes "closed") then Some FailClosed
    else if bytes_eq word (codes "open") then Some FailOpen
    else None

-- the volume line, of its mode and its number
abbrev pub volume_of : Option Mode → Option ℕ → Option Line
volume_of None number = None
volume_of (Some mode) number = option_map (λ n. Volume n mode) number

-- the volume line, of its two words
abbrev pub volume_line : Option (List ℕ × List ℕ) → Option Line
volume_line None = None
volume_line (Some p) = volume_of (mode_named p.1) (decimal_of p.0)

-- a line of the head
abbrev pub setting_line : List ℕ → List (List ℕ) → Option Line
setting_line verb words =
    if bytes_eq verb (codes "limit") then limit_line (two_words words)
    else if bytes_eq verb (codes "volume") then volume_line (two_words words)
    else None

-- the first word says what the others are
abbrev pub line_of_words : List (List ℕ) → Option Line
line_of_words [] = None
line_of_words (verb ∷ words) =
    if bytes_eq verb (codes "publish") then publish_line words
    else if bytes_eq verb (codes "create") then name_line (λ name. Step (Create name)) (one_word words)
    else if bytes_eq verb (codes "write") then write_line (three_words words)
    else if bytes_eq verb (codes "cut") then cut_line (two_words words)
    else if bytes_eq verb (codes "remove") then name_line (λ name. Step (Remove name)) (one_word words)
    else if bytes_eq verb (codes "judge") then name_line (λ name. Judge name) (one_word words)
    else if bytes_eq verb (codes "open") then open_line words
    else if bytes_eq verb (codes "cleanup") then name_line (λ name. Step (Cleanup name)) (one_word words)
    else if bytes_eq verb (codes "connect") then port_line (λ port. Step (Connect port)) words
    else if bytes_eq verb (codes "down") then number_line (λ place. Step (Down place)) (one_word words)
    else if bytes_eq verb (codes "up") then number_line (λ place. Step (Up place)) (one_word words)
    else if bytes_eq verb (codes "work") then number_line (λ place. Step (Run place)) (one_word words)
    else if bytes_eq verb (codes "timeout") then number_line (λ seq. Step (Timeout seq)) (one_word words)
    else if bytes_eq verb (codes "disconnect") then
    side_line (port_line (λ port. Step (DisconnectFilter port))) (port_line (λ port. Step (DisconnectService port))) words
    else if bytes_eq verb (codes "restart") then
    side_line (bare_line (Step RestartFilter)) (port_line (λ port. Step (RestartService port))) words
    else setting_line verb words

-- an empty line and one that begins with # say nothing
abbrev pub is_silent : List ℕ → Bool
is_silent [] = true
is_silent (b ∷ bs) = b == 35

-- what a line says, where it is a line of a script
abbrev pub line_of : List ℕ → Option Line
line_of line = if is_silent line then Some Silent else line_of_words (pieces_of 32 line)
