-- What a configuration file says: which keys it may have, and how the value of each is read.
use Rattle.std.specs.Prelude.{ℕ, Bool, pos, ⊤, ◌≡◌, ◌&&◌, ◌||◌, false, if◌then◌else◌, nat_le, codes, length, List, Option, Some, None, option_copied}
use Rattle.std.specs.Str.{bytes_eq}
use Rattle.toml.specs.Data.{Data, string, integer, as_bool, Members, get_member}
use Rattle.av_status.specs.declared.status.Status.{Status}
use Rattle.av_status.specs.declared.status.Status.TheVariants.{Done, Refused, Usage, Memory, Device, Found, FoundInPart}
use Rattle.avguard_words.specs.Settings.{IsConfigured}
use Rattle.avguard_words.specs.declared.bounds.Bounds.{Bounds}
use Rattle.avguard_words.specs.declared.misfit.Misfit.{Misfit}
use Rattle.avguard_words.specs.declared.misfit.Wanted.{Wanted}
use Rattle.avguard_words.specs.declared.misfit.Wanted.TheVariants.{NoKey, Socket, File, Flag, Number, Rights}
use Rattle.avguard_words.specs.declared.request.Guard.{Guard}
use Rattle.avguard_words.specs.declared.settings.Settings.{Settings}

-- the keys of sockets, and of their rights
abbrev pub is_socket_key : List ℕ → Bool
is_socket_key k = bytes_eq k (codes "opens") || (bytes_eq k (codes "service") || (bytes_eq k (codes "clamd") || (bytes_eq k (codes "mode") || bytes_eq k (codes "service-mode"))))

-- the keys of files
abbrev pub is_file_key : List ℕ → Bool
is_file_key k = bytes_eq k (codes "names") || (bytes_eq k (codes "trust") || (bytes_eq k (codes "state") || bytes_eq k (codes "log")))

-- the keys of numbers
abbrev pub is_number_key : List ℕ → Bool
is_number_key k =
    bytes_eq k (codes "wait") || (bytes_eq k (codes "keep") || (bytes_eq k (codes "questions") || (bytes_eq k (codes "max-size")
    || (bytes_eq k (codes "stream-max-size") || (bytes_eq k (codes "least") || bytes_eq k (codes "most-version"))))))

-- the keys of what is on or off
abbrev pub is_flag_key : List ℕ → Bool
is_flag_key k = bytes_eq k (codes "open") || (bytes_eq k (codes "log-grants") || bytes_eq k (codes "log-json"))

-- the keys that a file may have
abbrev pub is_key : List ℕ → Bool
is_key k = is_socket_key k || (is_file_key k || (is_number_key k || is_flag_key k))

-- a number within bounds
abbrev pub number_in : Bounds → Data → Option ℕ
number_in b (integer (pos n)) = if nat_le b.least n && nat_le n b.greatest then Some n else None
number_in b _ = None

-- the path of a socket, 1 to 107 bytes
abbrev pub socket_in : Data → Option (List ℕ)
socket_in (string s) = if nat_le 1 (length s) && nat_le (length s) 107 then Some s else None
socket_in _ = None

-- the path of a file, which isn't empty
abbrev pub file_in : Data → Option (List ℕ)
file_in (string s) = if nat_le 1 (length s) then Some s else None
file_in _ = None

-- the rights of a socket, by the three digits that chmod has for them
abbrev pub rights_named : List ℕ → Option ℕ
rights_named s = if bytes_eq s (codes "600") then Some 384 else (if bytes_eq s (codes "660") then Some 432 else (if bytes_eq s (codes "666") then Some 438 else None))

abbrev pub rights_in : Data → Option ℕ
rights_in (string s) = rights_named s
rights_in _ = None

-- A key that is absent says nothing. One that is there says what its value is read as.
abbrev pub IsRead : {A : Type 0} → (Data → Option A) → Option Data → Option A → Type 0
IsRead read None found = found ≡ None
IsRead read (Some d) None = ⊥
IsRead read (Some d) (Some a) = read d ≡ Some a

-- what the members of a document say
pub record IsSaid (ms : Members) (s : Settings) : Type 0 where
  pub opens : IsRead socket_in (get_member (codes "opens") ms) (option_copied s.opens)
  pub service : IsRead socket_in (get_member (codes "service") ms) (option_copied s.service)
  pub clamd : IsRead socket_in (get_member (codes "clamd") ms) (option_copied s.clamd)
  pub names : IsRead file_in (get_member (codes "names") ms) (option_copied s.names)
  pub trust : IsRead file_in (get_member (codes "trust") ms) (option_copied s.trust)
  pub is_open : IsRead as_bool (get_member (codes "open") ms) s.is_open
  pub wait : IsRead (number_in (record { least = 1; greatest = 86_400 })) (get_member (codes "wait") ms) s.wait
  pub keep : IsRead (number_in (record { least = 0; greatest = 1_099_511_627_776 })) (get_member (codes "keep") ms) s.keep
  pub questions : IsRead (number_in (record { least = 1; greatest = 256 })) (get_member (codes "questions") ms) s.questions
  pub max_size : IsRead (number_in (record { least = 1; greatest = 9_223_372_036_854_775_807 })) (get_member (codes "max-size") ms) s.max_size
  pub stream_max_size : IsRead (number_in (record { least = 1; greatest = 9_223_372_036_854_775_807 })) (get_member (codes "stream-max-size") ms) s.stream_max_size
  pub mode : IsRead rights_in (get_member (codes "mode") ms) s.mode
  pub service_mode : IsRead rights_in (get_member (codes "service-mode") ms) s.service_mode
  pub least : IsRead (number_in (record { least = 0; greatest = 18_446_744_073_709_551_615 })) (get_member (codes "least") ms) s.least
  pub most_version : IsRead (number_in (record { least = 0; greatest = 18_446_744_073_709_551_615 })) (get_member (codes "most-version") ms) s.most_version
  pub state : IsRead file_in (get_member (codes "state") ms) (option_copied s.state)
  pub log : IsRead file_in (get_member (codes "log") ms) (option_copied s.log)
  pub log_grants : IsRead as_bool (get_member (codes "log-grants") ms) s.log_grants
  pub log_json : IsRead as_bool (get_member (codes "log-json") ms) s.log_json

-- a key is there, and its value can't be read
abbrev pub Misses : {A : Type 0} → (Data → Option A) → Option Data → Type 0
Misses read None = ⊥
Misses read (Some d) = read d ≡ None

-- a value is none of what is wanted at its key
abbrev pub WrongAt : Wanted → List ℕ → Members → Type 0
WrongAt NoKey k ms = is_key k ≡ false
WrongAt Socket k ms = Misses socket_in (get_member k ms)
WrongAt File k ms = Misses file_in (get_member k ms)
WrongAt Flag k ms = Misses as_bool (get_member k ms)
WrongAt (Number b) k ms = Misses (number_in b) (get_member k ms)
WrongAt Rights k ms = Misses rights_in (get_member k ms)

-- what is wrong with the members of a document, at a key
abbrev pub IsWrong : Members → Misfit → Type 0
IsWrong ms m = WrongAt m.wants m.key.now ms

-- A guard runs as its words say, and as the members of a document do where they say nothing.
pub record IsRunBy (words : Settings) (ms : Members) (guard : Guard) : Type 0 where
  pub file : Settings
  pub said : IsSaid ms file
  pub both : IsConfigured words file guard

-- a configuration file is bad, or memory was refused
abbrev pub IsOfConfig : Status → Type 0
IsOfConfig Usage = ⊤
IsOfConfig Memory = ⊤
IsOfConfig Done = ⊥
IsOfConfig Refused = ⊥
IsOfConfig Device = ⊥
IsOfConfig Found = ⊥
IsOfConfig FoundInPart = ⊥
