-- What a desk was set up with, and what its audit records of that.
use Rattle.av_desk.specs.declared.audit.Audit.{Audit}
use Rattle.av_desk.specs.declared.desk.Desk.{Desk}
use Rattle.av_desk.specs.declared.setup.Setup.{Setup}

-- the volume number, the port and the limits that a desk was set up with
abbrev pub setup_of : Desk → Setup
setup_of d = d.setup

-- those that an audit records
abbrev pub recorded_by : Audit → Setup
recorded_by a = record { volume_number = a.volume_number; port = a.port; limits = a.limits }
