-- What the words of avguard's command line may ask for.
use Rattle.std.specs.Prelude.{ℕ, ⊤, ◌≡◌, false, IfSome, List}
use Rattle.std.specs.Str.{bytes_eq}
use Rattle.av_words.specs.Words.{IsSocketPath}
use Rattle.avguard_words.specs.Settings.{HasUseOfNames}
use Rattle.avguard_words.specs.declared.request.Guard.{Guard as Guarding}
use Rattle.avguard_words.specs.declared.request.Paths.{Paths as Opening}
use Rattle.avguard_words.specs.declared.request.Request.{Request}
use Rattle.avguard_words.specs.declared.request.Request.TheVariants.{Guard, Configured, CheckConfig, Ask, Report, Paths}

-- the sockets of a guard can be ones
abbrev pub HasSockets : Guarding → Type 0
HasSockets g = IsSocketPath g.opens.now × (IsSocketPath g.service.now × IfSome g.clamd (λ clamd. IsSocketPath clamd.now))

-- the sockets of a program that opens paths can be ones
abbrev pub HaveSockets : Opening → Type 0
HaveSockets p = IsSocketPath p.door.now × IsSocketPath p.opens.now

-- two sockets have different paths
abbrev pub Differ : List ℕ → List ℕ → Type 0
Differ one other = bytes_eq one other ≡ false

-- no two sockets of a guard have one path
abbrev pub AreApart : Guarding → Type 0
AreApart g = Differ g.opens.now g.service.now × IfSome g.clamd (λ clamd. Differ clamd.now g.opens.now × Differ clamd.now g.service.now)

-- no two sockets that are asked for have one path; those of a configuration file are judged with it
abbrev pub AsksForApart : Request → Type 0
AsksForApart (Guard guard) = AreApart guard
AsksForApart (Configured asked) = ⊤
AsksForApart (CheckConfig file) = ⊤
AsksForApart (Ask ask) = ⊤
AsksForApart (Report report) = ⊤
AsksForApart (Paths paths) = Differ paths.door.now paths.opens.now

-- a guard that is asked for has names only for clients of clamd
abbrev pub AsksForUseOfNames : Request → Type 0
AsksForUseOfNames (Guard guard) = HasUseOfNames guard
AsksForUseOfNames (Configured asked) = ⊤
AsksForUseOfNames (CheckConfig file) = ⊤
AsksForUseOfNames (Ask ask) = ⊤
AsksForUseOfNames (Report report) = ⊤
AsksForUseOfNames (Paths paths) = ⊤

-- the sockets that are asked for can be ones
abbrev pub AsksForSockets : Request → Type 0
AsksForSockets (Guard guard) = HasSockets guard
AsksForSockets (Configured asked) = ⊤
AsksForSockets (CheckConfig file) = ⊤
AsksForSockets (Ask ask) = IsSocketPath ask.opens.now
AsksForSockets (Report report) = IsSocketPath report.opens.now
AsksForSockets (Paths paths) = HaveSockets paths
