-- How opening paths ends.
use Rattle.std.specs.Prelude.{◌≡◌, ◌⊎◌}
use Rattle.av_status.specs.declared.status.Status.{Status}
use Rattle.av_status.specs.declared.status.Status.TheVariants.{Device, Memory}

-- memory was refused, or a socket failed
abbrev pub IsFailed : Status → Type 0
IsFailed status = (status ≡ Device) ⊎ (status ≡ Memory)
