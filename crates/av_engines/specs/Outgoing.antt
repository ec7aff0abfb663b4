-- Messages that are sent over a stream of frames.
use Rattle.std.specs.Prelude.{ℕ, ◌≡◌, List, [], Option}
use Rattle.std.specs.Io.KnownBytes.{Keeps}
use Rattle.av_base.specs.Device.{AppendsPrefix}
use Rattle.av_frame.specs.declared.end.End.{End}
use Rattle.av_frame.specs.declared.end.End.TheVariants.{WriteFault, Memory}

-- how frames are not sent: a write failed, and a front of them is out; or memory was refused, and nothing has changed
abbrev pub FailsAs : End → List ℕ → List ℕ → Option (List ℕ) → Option (List ℕ) → List ℕ → Type 0
FailsAs WriteFault waited waits before after text = AppendsPrefix before after text × (waits ≡ [])
FailsAs Memory waited waits before after text = Keeps before after × (waits ≡ waited)
FailsAs _ waited waits before after text = ⊥
