-- What a command line and a configuration file say of a guard, and the guard that results.
use Rattle.std.specs.Prelude.{ℕ, ◌≡◌, false, List, Some, IsSome, unwrap_or}
use Rattle.std.specs.Borrow.{Bor}
use Rattle.std.specs.Option.{option_or}
use Rattle.avguard_words.specs.declared.request.Guard.{Guard}
use Rattle.avguard_words.specs.declared.settings.Settings.{Settings}

-- what one source says, and the other one where it says nothing
abbrev pub settings_over : Settings → Settings → Settings
settings_over s other = record {
  opens = option_or s.opens other.opens;
  service = option_or s.service other.service;
  clamd = option_or s.clamd other.clamd;
  names = option_or s.names other.names;
  trust = option_or s.trust other.trust;
  is_open = option_or s.is_open other.is_open;
  wait = option_or s.wait other.wait;
  keep = option_or s.keep other.keep;
  questions = option_or s.questions other.questions;
  max_size = option_or s.max_size other.max_size;
  stream_max_size = option_or s.stream_max_size other.stream_max_size;
  mode = option_or s.mode other.mode;
  service_mode = option_or s.service_mode other.service_mode;
  least = option_or s.least other.least;
  most_version = option_or s.most_version other.most_version;
  state = option_or s.state other.state;
  log = option_or s.log other.log;
  log_grants = option_or s.log_grants other.log_grants;
  log_json = option_or s.log_json other.log_json;
}

-- the guard of what was said: where nothing was, it is closed, with 30 seconds, 64 MiB, 256 questions, the owner's sockets, any version,
-- and no log
abbrev pub guard_at : Settings → Bor (List ℕ) → Bor (List ℕ) → Guard
guard_at s opens service = record {
  opens = opens;
  service = service;
  clamd = s.clamd;
  names = s.names;
  trust = s.trust;
  is_open = unwrap_or s.is_open false;
  wait = unwrap_or s.wait 30;
  keep = unwrap_or s.keep 67_108_864;
  questions = unwrap_or s.questions 256;
  max_size = unwrap_or s.max_size 9_223_372_036_854_775_807;
  stream_max_size = unwrap_or s.stream_max_size 26_214_399;
  mode = unwrap_or s.mode 384;
  service_mode = unwrap_or s.service_mode 384;
  least = unwrap_or s.least 0;
  most_version = unwrap_or s.most_version 18_446_744_073_709_551_615;
  state = s.state;
  log = s.log;
  log_grants = unwrap_or s.log_grants false;
  log_json = unwrap_or s.log_json false;
}

-- A guard runs as its words say, and as its file does where they say nothing. Both together name its two sockets.
pub record IsConfigured (words file : Settings) (guard : Guard) : Type 0 where
  pub opens : (settings_over words file).opens ≡ Some guard.opens
  pub service : (settings_over words file).service ≡ Some guard.service
  pub settled : guard ≡ guard_at (settings_over words file) guard.opens guard.service

-- names are of use to clients of clamd alone, and a key to names alone
abbrev pub HasUseOfNames : Guard → Type 0
HasUseOfNames g = (IsSome g.names → IsSome g.clamd) × (IsSome g.trust → IsSome g.names)
