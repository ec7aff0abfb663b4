-- What each event does is one of the conduct's rows.
use Rattle.std.proofs.Common.{◌≡◌, ℕ, ◌+◌, ◌-◌, ◌==◌, ◌&&◌, not, nat_le, nat_lt, List, length, Option, Some, None, refl}
use Rattle.std.proofs.lemmas.Bool.{and_parts, cond_both, not-false}
use Rattle.av_base.specs.Port.{same_port}
use Rattle.av_base.specs.declared.message_id.MessageId.{MessageId}
use Rattle.av_base.specs.declared.port.Port.{Port}
use Rattle.av_base.specs.declared.verdict.Verdict.{Verdict}
use Rattle.av_cache.specs.Cache.{look}
use Rattle.av_cache.specs.declared.entry.Entry.{Entry}
use Rattle.av_frame.specs.Message.{via}
use Rattle.av_frame.specs.declared.message.Body.{Body}
use Rattle.av_frame.specs.declared.message.Body.TheVariants.{Scan, Chunk, NoChunk, Abort}
use Rattle.av_match.specs.Scanning.{ScanState}
use Rattle.av_service.specs.Conduct.{ServiceEvent, Connects, Disconnects, Receives, Finishes, Publishes, Restarts, service_step}
use Rattle.av_service.specs.Desk.{Desk, job_at, lent_under, loan_count, new_job}
use Rattle.av_service.specs.Lending.{finished}
use Rattle.av_service.specs.Rows
use Rattle.av_service.specs.Rows.{Drops, Hears, Row, ScanRow}
use Rattle.av_service.specs.Scanning.{awaits, chunk_found, dropped, most_leases, receives, scan_cached, scan_found}
use Rattle.av_service.specs.declared.job.Job.{Job}

module _ (d : Desk) where
  scan_row : (j : Job) (o : Option Entry) → look j.stream j.generation d.version d.cache ≡ o → ScanRow d j (scan_cached d j o)
  unfolding scan_cached
  scan_row j (Some e) at = Rows.cached e at
  scan_row j None at =
      cond_both (nat_le d.limits.jobs (length d.jobs)) _ _ (ScanRow d j) (λ e. Rows.full e)
      (λ room. cond_both (j.length == 0) _ _ (ScanRow d j) (λ e. Rows.empty e) (λ e. Rows.begins room e))

  found_row : (port : Port) → Hears d port → (id : MessageId) (s g l : ℕ) (o : Option Job) → job_at id d.jobs ≡ o
      → Row d (Receives (via port (Scan id s g l))) (scan_found d (new_job d.version id s g l) o)
  unfolding scan_found
  found_row port hears id s g l (Some k) at = Rows.repeated _
  found_row port hears id s g l None at = Rows.scanned port id s g l _ hears at (scan_row _ _ refl)

  chunk_row : (port : Port) → Hears d port → (id : MessageId) (offset : ℕ) (bytes : List ℕ) (o : Option Job) → job_at id d.jobs ≡ o
      → Row d (Receives (via port (Chunk id offset bytes))) (chunk_found d offset bytes o)
  unfolding chunk_found
  chunk_row port hears id offset bytes None at = Rows.ignored _
  chunk_row port hears id offset bytes (Some j) at =
      let P = Row d (Receives (via port (Chunk id offset bytes))) in
      cond_both (not (awaits j offset && nat_lt d.last_lease most_leases)) _ _ P (λ e. Rows.ignored _)
      (λ e.
      let tests = and_parts (awaits j offset) (nat_lt d.last_lease most_leases) (not-false _ e) in
      cond_both (nat_lt (j.length - offset) (length bytes)) _ _ P (λ w. Rows.past_length port id offset bytes j hears at tests.0 w)
      (λ w. Rows.lent port id offset bytes j hears at tests.0 tests.1 w))

  dropped_row : (port : Port) (m : Body) (id : MessageId) → Hears d port → Drops id m → (o : Option Job) → job_at id d.jobs ≡ o
      → Row d (Receives (via port m)) (dropped d o)
  unfolding dropped
  dropped_row port m id hears is None at = Rows.ignored _
  dropped_row port m id hears is (Some j) at = Rows.dropped port m id j hears is at

  heard_row : (port : Port) → Hears d port → (m : Body) → Row d (Receives (via port m)) (receives d m)
  unfolding receives
  heard_row port hears (Scan id s g l) = found_row port hears id s g l _ refl
  heard_row port hears (Chunk id offset bytes) = chunk_row port hears id offset bytes _ refl
  heard_row port hears (NoChunk id offset cause) = dropped_row port _ id hears refl _ refl
  heard_row port hears (Abort id) = dropped_row port _ id hears refl _ refl
  heard_row port hears m = Rows.ignored _

  finished_row : (lease : ℕ) (scan : ScanState) (hit : Option Verdict) (o : Option Job) → lent_under lease d.jobs ≡ o
      → Row d (Finishes lease scan hit) (finished d scan hit o)
  unfolding finished
  finished_row lease scan hit None at = Rows.orphaned lease scan hit
  finished_row lease scan (Some r) (Some j) at = Rows.hit lease scan r j at
  finished_row lease scan None (Some j) at =
      cond_both (j.offset + loan_count j.loan == j.length) _ _ (Row d (Finishes lease scan None)) (λ e. Rows.clean lease scan j at e)
      (λ e. Rows.goes_on lease scan j at e)

  pub row_of : (e : ServiceEvent) → Row d e (service_step d e)
  unfolding service_step
  row_of Connects = Rows.connects
  row_of (Receives m) =
      cond_both (d.connected && same_port m.port d.port) _ _ (Row d (Receives m)) (λ hears. heard_row m.port hears m.body) (λ e. Rows.ignored m)
  row_of (Finishes lease scan hit) = finished_row lease scan hit _ refl
  row_of (Publishes version) = cond_both d.connected _ _ (Row d (Publishes version)) (λ e. Rows.updated version e) (λ e. Rows.prepared version e)
  row_of Disconnects = Rows.disconnects
  row_of (Restarts latest) = Rows.restarts latest
