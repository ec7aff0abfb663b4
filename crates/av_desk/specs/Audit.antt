-- The audit of a desk that was closed.
use Rattle.std.specs.Prelude.{List, map}
use Rattle.av_desk.specs.Book.{opened_at}
use Rattle.av_desk.specs.declared.audit.Audit.{Audit}
use Rattle.av_service.specs.Desk.{Desk, just_started}
use Rattle.av_sigset.specs.Publication.{Publication, latest_as, publication_of}

-- the publications and the service before its first event
abbrev pub opened_by : Audit → List Publication
opened_by a = opened_at a.opening (map publication_of a.catalogue.sets)

-- the service that an audit begins with
abbrev pub started_by : Audit → Desk
started_by a = just_started a.volume_number a.port a.limits (latest_as (opened_by a))
