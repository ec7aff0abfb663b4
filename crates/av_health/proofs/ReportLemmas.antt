-- What is spelled is read back.
use Rattle.std.proofs.Common.{rules, ℕ, ◌≡◌, ◌<◌, ◌^◌, ◌++◌, List, [], ◌∷◌, take, drop, refl, ap, ◌∙◌, Some}
use Rattle.std.proofs.lemmas.Nat.{from_be_bytes-to_be_bytes_8}
use Rattle.av_health.specs.declared.counts.Counts.{Counts}
use Rattle.av_health.specs.declared.report.Report.{Report}
use Rattle.av_health.specs.Report.{spelled, number8, numbers_of, field8, counts_in, figures_in, ReportsAreReadBack}

-- counts of the same numbers are the same, and so are reports
same_counts : (a0 a1 a2 a3 a4 a5 b0 b1 b2 b3 b4 b5 : ℕ)
    → a0 ≡ b0 → a1 ≡ b1 → a2 ≡ b2 → a3 ≡ b3 → a4 ≡ b4 → a5 ≡ b5
    → ◌≡◌ {A = Counts}
    (record { asks = a0; grants = a1; denials = a2; unscanned = a3; timeouts = a4; dropped_lines = a5 })
    (record { asks = b0; grants = b1; denials = b2; unscanned = b3; timeouts = b4; dropped_lines = b5 })
same_counts a0 a1 a2 a3 a4 a5 b0 b1 b2 b3 b4 b5 e0 e1 e2 e3 e4 e5 = rw e0 (rw e1 (rw e2 (rw e3 (rw e4 (rw e5 (refl))))))

same_reports : (a0 a1 a2 a3 a4 a5 a6 a7 a9 a10 a11 a12 a13 a14 a15 b0 b1 b2 b3 b4 b5 b6 b7 b9 b10 b11 b12 b13 b14 b15 : ℕ) (a8 b8 : Counts)
    → a0 ≡ b0 → a1 ≡ b1 → a2 ≡ b2 → a3 ≡ b3 → a4 ≡ b4 → a5 ≡ b5 → a6 ≡ b6 → a7 ≡ b7 → a8 ≡ b8 → a9 ≡ b9 → a10 ≡ b10 → a11 ≡ b11 → a12 ≡ b12 → a13 ≡ b13 → a14 ≡ b14 → a15 ≡ b15
    → ◌≡◌ {A = Report}
    (record { ready = a0; version = a1; services = a2; clients = a3; unanswered = a4; questions = a5; contents = a6; content_bytes = a7; counts = a8; uptime_seconds = a9; service_seconds = a10; memory_bytes = a11; parts = a12; open_contents = a13; signatures = a14; version_time = a15 })
    (record { ready = b0; version = b1; services = b2; clients = b3; unanswered = b4; questions = b5; contents = b6; content_bytes = b7; counts = b8; uptime_seconds = b9; service_seconds = b10; memory_bytes = b11; parts = b12; open_contents = b13; signatures = b14; version_time = b15 })
same_reports a0 a1 a2 a3 a4 a5 a6 a7 a9 a10 a11 a12 a13 a14 a15 b0 b1 b2 b3 b4 b5 b6 b7 b9 b10 b11 b12 b13 b14 b15 a8 b8 e0 e1 e2 e3 e4 e5 e6 e7 e8 e9 e10 e11 e12 e13 e14 e15 = rw e0 (rw e1 (rw e2 (rw e3 (rw e4 (rw e5 (rw e6 (rw e7 (rw e8 (rw e9 (rw e10 (rw e11 (rw e12 (rw e13 (rw e14 (rw e15 (refl))))))))))))))))

pub reports_are_read_back : ReportsAreReadBack
unfolding numbers_of field8 counts_in figures_in
reports_are_read_back r small =
    let counts : counts_in (spelled r) ≡ r.counts =
    same_counts (number8 (spelled r) 65) (number8 (spelled r) 73) (number8 (spelled r) 81) (number8 (spelled r) 89) (number8 (spelled r) 97) (number8 (spelled r) 105) r.counts.asks r.counts.grants r.counts.denials r.counts.unscanned r.counts.timeouts r.counts.dropped_lines
    (from_be_bytes-to_be_bytes_8 r.counts.asks small.1.1.1.1.1.1.1.1.0) (from_be_bytes-to_be_bytes_8 r.counts.grants small.1.1.1.1.1.1.1.1.1.0) (from_be_bytes-to_be_bytes_8 r.counts.denials small.1.1.1.1.1.1.1.1.1.1.0) (from_be_bytes-to_be_bytes_8 r.counts.unscanned small.1.1.1.1.1.1.1.1.1.1.1.0) (from_be_bytes-to_be_bytes_8 r.counts.timeouts small.1.1.1.1.1.1.1.1.1.1.1.1.0) (from_be_bytes-to_be_bytes_8 r.counts.dropped_lines small.1.1.1.1.1.1.1.1.1.1.1.1.1.0) in
    ap Some (same_reports (number8 (spelled r) 1) (number8 (spelled r) 9) (number8 (spelled r) 17) (number8 (spelled r) 25) (number8 (spelled r) 33) (number8 (spelled r) 41) (number8 (spelled r) 49) (number8 (spelled r) 57) (number8 (spelled r) 113) (number8 (spelled r) 121) (number8 (spelled r) 129) (number8 (spelled r) 137) (number8 (spelled r) 145) (number8 (spelled r) 153) (number8 (spelled r) 161) r.ready r.version r.services r.clients r.unanswered r.questions r.contents r.content_bytes r.uptime_seconds r.service_seconds r.memory_bytes r.parts r.open_contents r.signatures r.version_time (counts_in (spelled r)) r.counts
    (from_be_bytes-to_be_bytes_8 r.ready small.0) (from_be_bytes-to_be_bytes_8 r.version small.1.0) (from_be_bytes-to_be_bytes_8 r.services small.1.1.0) (from_be_bytes-to_be_bytes_8 r.clients small.1.1.1.0) (from_be_bytes-to_be_bytes_8 r.unanswered small.1.1.1.1.0) (from_be_bytes-to_be_bytes_8 r.questions small.1.1.1.1.1.0) (from_be_bytes-to_be_bytes_8 r.contents small.1.1.1.1.1.1.0) (from_be_bytes-to_be_bytes_8 r.content_bytes small.1.1.1.1.1.1.1.0) counts (from_be_bytes-to_be_bytes_8 r.uptime_seconds small.1.1.1.1.1.1.1.1.1.1.1.1.1.1.0) (from_be_bytes-to_be_bytes_8 r.service_seconds small.1.1.1.1.1.1.1.1.1.1.1.1.1.1.1.0) (from_be_bytes-to_be_bytes_8 r.memory_bytes small.1.1.1.1.1.1.1.1.1.1.1.1.1.1.1.1.0) (from_be_bytes-to_be_bytes_8 r.parts small.1.1.1.1.1.1.1.1.1.1.1.1.1.1.1.1.1.0) (from_be_bytes-to_be_bytes_8 r.open_contents small.1.1.1.1.1.1.1.1.1.1.1.1.1.1.1.1.1.1.0) (from_be_bytes-to_be_bytes_8 r.signatures small.1.1.1.1.1.1.1.1.1.1.1.1.1.1.1.1.1.1.1.0) (from_be_bytes-to_be_bytes_8 r.version_time small.1.1.1.1.1.1.1.1.1.1.1.1.1.1.1.1.1.1.1.1.0))
