-- What the words of avscan's command line may ask for.
use Rattle.std.specs.Prelude.{ℕ, ⊤, ◌≡◌, ◌||◌, true, List, codes}
use Rattle.std.specs.Str.{bytes_eq}
use Rattle.av_status.specs.declared.tally.Form.TheVariants.{Lines}
use Rattle.av_words.specs.Words.{IsSocketPath}
use Rattle.avscan_words.specs.declared.request.Request.{Request}
use Rattle.avscan_words.specs.declared.request.Request.TheVariants.{Run, Filter, Service}

-- a script on standard input, told in lines
abbrev pub IsStandardInput : Request → Type 0
IsStandardInput (Run script) = (script.path.now ≡ codes "-") × (script.form ≡ Lines)
IsStandardInput request = ⊥

-- the sockets that are asked for can be ones
abbrev pub AsksForSockets : Request → Type 0
AsksForSockets (Filter filter) = IsSocketPath filter.socket.now
AsksForSockets (Service service) = IsSocketPath service.socket.now
AsksForSockets request = ⊤

-- a command that another program has now
abbrev pub IsMoved : List ℕ → Type 0
IsMoved word =
    (bytes_eq word (codes "guard") || bytes_eq word (codes "ask") || bytes_eq word (codes "chart") || bytes_eq word (codes "generate")
    || bytes_eq word (codes "import"))
    ≡ true
