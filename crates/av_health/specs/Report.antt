-- A report's figures, and how they are spelled.
use Rattle.std.specs.Prelude.{ℕ, ◌≡◌, ◌<◌, ◌^◌, ◌==◌, if◌then◌else◌, List, [], ◌∷◌, ◌++◌, length, take, drop, get_or, Option, Some, None}
use Rattle.std.specs.Int.{w64, to_be_bytes, from_be_bytes}
use Rattle.std.specs.List.{AllByRecursion}
use Rattle.av_health.specs.declared.counts.Counts.{Counts}
use Rattle.av_health.specs.declared.report.Report.{Report}

-- the figures, in their order
unfoldable pub numbers_of : Report → List ℕ
numbers_of r =
    r.ready ∷ r.version ∷ r.services ∷ r.clients ∷ r.unanswered ∷ r.questions ∷ r.contents ∷ r.content_bytes
    ∷ r.counts.asks ∷ r.counts.grants ∷ r.counts.denials ∷ r.counts.unscanned ∷ r.counts.timeouts ∷ r.counts.dropped_lines
    ∷ r.uptime_seconds ∷ r.service_seconds ∷ r.memory_bytes ∷ r.parts ∷ r.open_contents
    ∷ r.signatures ∷ r.version_time ∷ []

-- a number in eight bytes, the highest first
unfoldable pub field8 : ℕ → List ℕ
field8 n = to_be_bytes w64 n

-- numbers, one behind the other
abbrev pub fields : List ℕ → List ℕ
fields [] = []
fields (n ∷ numbers) = field8 n ++ fields numbers

-- a report's one spelling: the format, and its figures
abbrev pub spelled : Report → List ℕ
spelled r = 3 ∷ fields (numbers_of r)

-- the number of eight bytes from a place on
abbrev pub number8 : List ℕ → ℕ → ℕ
number8 bytes at = from_be_bytes w64 (take 8 (drop at bytes))

-- the counts of a report's bytes, and its figures
unfoldable pub counts_in : List ℕ → Counts
counts_in bytes = record {
  asks = number8 bytes 65;
  grants = number8 bytes 73;
  denials = number8 bytes 81;
  unscanned = number8 bytes 89;
  timeouts = number8 bytes 97;
  dropped_lines = number8 bytes 105;
}

unfoldable pub figures_in : List ℕ → Report
figures_in bytes = record {
  ready = number8 bytes 1;
  version = number8 bytes 9;
  services = number8 bytes 17;
  clients = number8 bytes 25;
  unanswered = number8 bytes 33;
  questions = number8 bytes 41;
  contents = number8 bytes 49;
  content_bytes = number8 bytes 57;
  counts = counts_in bytes;
  uptime_seconds = number8 bytes 113;
  service_seconds = number8 bytes 121;
  memory_bytes = number8 bytes 129;
  parts = number8 bytes 137;
  open_contents = number8 bytes 145;
  signatures = number8 bytes 153;
  version_time = number8 bytes 161;
}

-- the report that bytes are the spelling of: so many, of this format
abbrev pub report_of : List ℕ → Option Report
report_of bytes = if length bytes == 169 then (if get_or bytes 0 0 == 3 then Some (figures_in bytes) else None) else None

-- what is spelled is read back
abbrev pub ReportsAreReadBack : Type 0
ReportsAreReadBack = (r : Report) → AllByRecursion (λ n. n < 2 ^ 64) (numbers_of r) → report_of (spelled r) ≡ Some r
