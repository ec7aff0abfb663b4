-- A service over a connection of the parts protocol: it greets, and then hears orders and says words, read by read.
use Rattle.std.specs.Prelude.{ℕ, ◌≡◌, ◌≤◌, ◌≢◌, List, [], ◌∷◌, ◌++◌, length, map, Option, None, Some, Ok, Err}
use Rattle.std.specs.Io.KnownBytes.{Appends, Consumes, IsAtEnd}
use Rattle.std.specs.List.{flat_map}
use Rattle.av_base.specs.Device.{AppendsPrefix}
use Rattle.av_match.specs.Scanning.{Compiled}
use Rattle.av_parts.specs.declared.ended.Ended.{Ended}
use Rattle.av_parts.specs.declared.ended.Ended.TheVariants as ended
use Rattle.av_parts.specs.declared.word.Word.{Word}
use Rattle.av_parts.specs.declared.word.Said.TheVariants.{Hello, Of}
use Rattle.av_parts.specs.Course.{Happening, Comes, Renews, judged, orders_of}
use Rattle.av_parts.specs.Heard.{Hearing, fresh, heard_of}
use Rattle.av_parts.specs.Judge.{Judging, begun, obeyed}
use Rattle.av_parts.specs.Looks.{AreSeen, Looks}
use Rattle.av_parts.specs.Orders.{Order, bytewise}
use Rattle.av_parts.specs.Spelling.{said_frame}

-- A read: the newer set that was looked for once its bytes were there, if one had come, its bytes, and the orders that were
-- obeyed of them.
pub record Read : Type 0 where
  pub newer : Option Compiled
  pub bytes : List ℕ
  pub orders : List Order

-- a newer set comes, if it does
abbrev pub renewal : Option Compiled → List Happening
renewal None = []
renewal (Some set) = Renews set ∷ []

-- what happens at a read: the newer set comes before the first byte of the read is handled
abbrev pub happened : Read → List Happening
happened r = renewal r.newer ++ map Comes r.orders

-- the bytes that reads gave, and the newer sets that were looked for behind each
abbrev pub bytes_of : List Read → List ℕ
bytes_of reads = flat_map (λ (r : Read). r.bytes) reads

abbrev pub newer_of : List Read → List (Option Compiled)
newer_of reads = map (λ (r : Read). r.newer) reads

-- Where the bytes of reads lead, one read after another: what each told is what its orders bring byte by byte. Only the last
-- told more behind them.
abbrev pub AreHeard : Hearing → List Read → Hearing → List Order → Type 0
AreHeard was [] now more = (now ≡ was) × (more ≡ [])
AreHeard was (r ∷ []) now more = heard_of r.bytes was ≡ (now, flat_map bytewise r.orders ++ more)
AreHeard was (r ∷ s ∷ reads) now more =
    ((heard_of r.bytes was).1 ≡ flat_map bytewise r.orders) × AreHeard (heard_of r.bytes was).0 (s ∷ reads) now more

-- However the bytes were cut into reads, they told what they tell as one piece.
abbrev pub AreOneStream : Type 0
AreOneStream =
    (was now : Hearing) (reads : List Read) (more : List Order) → AreHeard was reads now more
    → heard_of (bytes_of reads) was ≡ (now, flat_map bytewise (orders_of (flat_map happened reads)) ++ more)

-- the frames of words
abbrev pub frames_of : List Word → List ℕ
frames_of words = flat_map (λ w. said_frame (Of w)) words

-- what a service writes that says these words: it greets first
abbrev pub service_text : Compiled → List Word → List ℕ
service_text set words = said_frame (Hello set.version) ++ frames_of words

-- The text went out. Where a write failed or memory was refused a front of it did.
abbrev pub IsSent : Ended → Option (List ℕ) → Option (List ℕ) → List ℕ → Type 0
IsSent ended.WriteFault held holds text = AppendsPrefix held holds text
IsSent ended.Memory held holds text = AppendsPrefix held holds text
IsSent _ held holds text = Appends held holds text

-- What is behind the orders that were obeyed, where the reader is by then, and where the judge: nothing but at a fault of the
-- judge's, which the next order has.
abbrev pub StopsAt : Ended → List Order → Hearing → Judging → Type 0
StopsAt (ended.Order f) more now j = (more ≡ []) × (now.fault ≡ Some f)
StopsAt (ended.Judge f) more now j = (next : Order) × (later : List Order) × (more ≡ bytewise next ++ later) × (obeyed j next ≡ Err f)
StopsAt ended.Memory more now j = Unit {0}
StopsAt _ more now j = ⊥

-- How it ends. The guard closed between frames, or within one; a read failed, or the guard was idle; as many reads were made as
-- were allowed; a write failed; or it stopped amid a read.
abbrev pub EndsAs : Ended → List Order → Hearing → Judging → Option (List ℕ) → Type 0
EndsAs ended.Done more now j rest = (more ≡ []) × (now ≡ fresh) × IsAtEnd rest
EndsAs ended.Cut more now j rest = (more ≡ []) × (now ≢ fresh) × IsAtEnd rest
EndsAs ended.ReadFault more now j rest = more ≡ []
EndsAs ended.Idle more now j rest = more ≡ []
EndsAs ended.Spent more now j rest = more ≡ []
EndsAs ended.WriteFault more now j rest = Unit {0}
EndsAs (ended.Order f) more now j rest = StopsAt (ended.Order f) more now j
EndsAs (ended.Judge f) more now j rest = StopsAt (ended.Judge f) more now j
EndsAs ended.Memory more now j rest = Unit {0}

-- as many reads gave bytes, or none in their time: all that were allowed, or fewer
abbrev pub IsWithin : Ended → ℕ → ℕ → Type 0
IsWithin ended.Spent count turns = count ≡ turns
IsWithin _ count turns = count ≤ turns

-- What a service has written by its end is the greeting and the words of the orders that its reads spelled, with the newer sets
-- that came meanwhile, each before the bytes that were read with it.
pub record ServesParts (set : Compiled) (had has : Looks) (input rest held holds : Option (List ℕ)) (turns : ℕ) (end : Ended) : Type 0 where
  pub reads : List Read
  pub came : Consumes input rest (bytes_of reads)
  pub looked : AreSeen had has (newer_of reads)
  pub few : IsWithin end (length reads) turns
  pub more : List Order
  pub now : Hearing
  pub heard : AreHeard fresh reads now more
  pub judge : Judging
  pub words : List Word
  pub said : judged (flat_map happened reads) (begun set) [] ≡ Ok (judge, words)
  pub sent : IsSent end held holds (service_text set words)
  pub ends : EndsAs end more now judge rest
