-- What a line of the log says: an answer, or what became of the service, the clients, the kept version and the log itself.
use Rattle.std.specs.Prelude.{ℕ, ◌||◌, Bool, true, false, not, List, [], ◌∷◌, ◌++◌, Option, None, Some, codes}
use Rattle.std.specs.Borrow.{Bor}
use Rattle.av_asks.specs.LargeAnswers.{cause_number, cause_text}
use Rattle.av_asks.specs.declared.large_answer.LargeCause.{LargeCause}
use Rattle.av_base.specs.Cause.{number_of}
use Rattle.av_base.specs.Port.{port_number}
use Rattle.av_base.specs.declared.port.Port.{Port}
use Rattle.av_base.specs.declared.cause.Cause.{Cause}
use Rattle.av_base.specs.declared.cause.Cause.TheVariants as cause
use Rattle.av_json.specs.Cause.{why_of}
use Rattle.av_log.specs.Words.{Item, Word, Number, Bytes}
use Rattle.av_log.specs.declared.entry.Asked.{Asked}
use Rattle.av_log.specs.declared.entry.LogEntry.{LogEntry}
use Rattle.av_log.specs.declared.entry.LogEntry.TheVariants as entry
use Rattle.av_log.specs.declared.entry.Judged.{Judged}
use Rattle.av_log.specs.declared.entry.Judged.TheVariants.{Granted, Infected, Denied, Unscanned, LargeDenied, LargeUnscanned}
use Rattle.av_log.specs.declared.entry.Told.{Told}
use Rattle.av_log.specs.declared.entry.AskSocket.{AskSocket}
use Rattle.av_log.specs.declared.entry.AskSocket.TheVariants.{Opens, Clamd}

-- a cause, by its number and in words
abbrev pub cause_items : Cause → List Item
cause_items cause = Number (codes "cause") (number_of cause) ∷ Bytes (codes "why") (codes "why_hex") (why_of cause) ∷ []

-- the name of a signature, where it is known
abbrev pub name_items : Option (Bor (List ℕ)) → List Item
name_items None = []
name_items (Some name) = Bytes (codes "name") (codes "name_hex") name.now ∷ []

-- an answer that grants nothing
abbrev pub denial_items : List ℕ → Cause → List Item
denial_items answer c = Word (codes "answer") answer ∷ cause_items c

-- the same of a content in parts, for a cause of its own
abbrev pub large_cause_items : LargeCause → List Item
large_cause_items c = Number (codes "cause") (cause_number c) ∷ Bytes (codes "why") (codes "why_hex") (cause_text c) ∷ []

abbrev pub large_items : List ℕ → LargeCause → List Item
large_items answer c = Word (codes "answer") answer ∷ large_cause_items c

-- which signature occurs, where it ends, and of which set it is
abbrev pub found_items : ℕ → Option (Bor (List ℕ)) → List Item
found_items signature name = Number (codes "signature") signature ∷ name_items name

abbrev pub end_items : ℕ → ℕ → List Item
end_items end version = Number (codes "end") end ∷ Number (codes "version") version ∷ []

-- what an ask was answered
abbrev pub judged_items : Judged → Option (Bor (List ℕ)) → List Item
judged_items (Granted version) name = Word (codes "answer") (codes "granted") ∷ Number (codes "version") version ∷ []
judged_items (Infected version signature end) name =
    denial_items (codes "denied") cause.Infected ++ found_items signature name ++ end_items end version
judged_items (Denied c) name = denial_items (codes "denied") c
judged_items (Unscanned c) name = denial_items (codes "unscanned") c
judged_items (LargeDenied c) name = large_items (codes "denied") c
judged_items (LargeUnscanned c) name = large_items (codes "unscanned") c

-- at which socket it was asked
abbrev pub way_of : AskSocket → List ℕ
way_of Opens = codes "opens"
way_of Clamd = codes "clamd"

-- by whom
abbrev pub asker_items : AskSocket → ℕ → ℕ → List Item
asker_items way client tag = Word (codes "socket") (way_of way) ∷ Number (codes "client") client ∷ Number (codes "tag") tag ∷ []

-- the client's name for a content
abbrev pub label_items : Option (Bor (List ℕ)) → List Item
label_items None = []
label_items (Some label) = Bytes (codes "label") (codes "label_hex") label.now ∷ []

-- and about what, where that is known
abbrev pub asked_items : Option Asked → List Item
asked_items None = []
asked_items (Some a) = Number (codes "bytes") a.bytes ∷ label_items a.label

abbrev pub told_items : Told → List Item
told_items t = judged_items t.judged t.name ++ asker_items t.way t.client t.tag ++ asked_items t.asked

-- what happened, and to what
abbrev pub happened : List ℕ → List ℕ → List Item
happened what how = Word (codes "event") what ∷ Word (codes "state") how ∷ []

abbrev pub versioned : List ℕ → List ℕ → ℕ → List Item
versioned what how version = happened what how ++ Number (codes "version") version ∷ []

-- what became of the service of a port
abbrev pub at_port : List ℕ → Port → List Item
at_port how port = happened (codes "service") how ++ Number (codes "port") (port_number port) ∷ []

-- the items of a line
abbrev pub items_of : LogEntry → List Item
items_of (entry.Told t) = Word (codes "event") (codes "answer") ∷ told_items t
items_of (entry.Connected port version) = versioned (codes "service") (codes "connected") version ++ Number (codes "port") (port_number port) ∷ []
items_of (entry.Lost port) = at_port (codes "lost") port
items_of (entry.Newer port version) = versioned (codes "service") (codes "newer") version ++ Number (codes "port") (port_number port) ∷ []
items_of (entry.Older version least) = versioned (codes "service") (codes "refused") version ++ Number (codes "least") least ∷ []
items_of (entry.Above version most) = versioned (codes "service") (codes "refused") version ++ Number (codes "most") most ∷ []
items_of entry.Silent = happened (codes "service") (codes "silent")
items_of (entry.Stuck port) = at_port (codes "stuck") port
items_of (entry.Quiet port) = at_port (codes "quiet") port
items_of (entry.PartsConnected version) = versioned (codes "parts") (codes "connected") version
items_of entry.PartsLost = happened (codes "parts") (codes "lost")
items_of (entry.PartsOlder version least) = versioned (codes "parts") (codes "refused") version ++ Number (codes "least") least ∷ []
items_of (entry.Unkept version) = versioned (codes "state") (codes "unwritten") version
items_of entry.Crowded = happened (codes "client") (codes "closed")
items_of (entry.Dropped lines) = happened (codes "log") (codes "dropped") ++ Number (codes "lines") lines ∷ []

-- an answer that granted has a line where that is asked for; whatever else happens has one
abbrev pub is_grant : Judged → Bool
is_grant (Granted version) = true
is_grant (Infected version signature end) = false
is_grant (Denied c) = false
is_grant (Unscanned c) = false
is_grant (LargeDenied c) = false
is_grant (LargeUnscanned c) = false

abbrev pub is_logged : Bool → Judged → Bool
is_logged has_grants judged = has_grants || not (is_grant judged)
