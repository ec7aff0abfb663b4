-- How a guard's decisions are logged, as its words and its file say.
use Rattle.std.specs.Prelude.{ℕ, ⊤, ◌≡◌, Bool, if◌then◌else◌, List, codes, Option, Some, None}
use Rattle.std.specs.Borrow.{Bor}
use Rattle.std.specs.Str.{bytes_eq}
use Rattle.av_daemon.specs.declared.recorder.Logging.{Logging}
use Rattle.av_log.specs.declared.line.Form.{Form}
use Rattle.av_log.specs.declared.line.Form.TheVariants.{Words, Json}
use Rattle.avguard_words.specs.declared.request.Guard.{Guard}

-- standard error
abbrev pub is_dash : List ℕ → Bool
is_dash file = bytes_eq file (codes "-")

abbrev pub form_of : Bool → Form
form_of is_json = if is_json then Json else Words

-- decisions are logged exactly if a file is named, to it, or to standard error for `-`
abbrev pub IsLogged : Option (Bor (List ℕ)) → Bool → Bool → Option Logging → Type 0
IsLogged None has_grants is_json None = ⊤
IsLogged None has_grants is_json (Some l) = ⊥
IsLogged (Some file) has_grants is_json None = ⊥
IsLogged (Some file) has_grants is_json (Some l) =
    l ≡ record { file = (if is_dash file.now then None else Some file); has_grants = has_grants; form = form_of is_json }

abbrev pub IsLogging : Guard → Option Logging → Type 0
IsLogging guard log = IsLogged guard.log guard.log_grants guard.log_json log
