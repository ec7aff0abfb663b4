-- What was written whole.
use Rattle.std.proofs.Common.{ℕ, ◌≡◌, List, [], Option, append-nil, sym}
use Rattle.std.specs.Io.KnownBytes.{Appends}
use Rattle.av_base.specs.Device.{AppendsPrefix}

-- all of a text is a front of it
pub all_of_it : (old new : Option (List ℕ)) (text : List ℕ) → Appends old new text → AppendsPrefix old new text
all_of_it old new text whole = record { front = text; back = []; parts = sym (append-nil text); appended = whole }
