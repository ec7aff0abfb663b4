use Rattle.std.proofs.Common.{◌≡◌, All, true, string_bytes}
use Rattle.avguard_words.specs.Config.{is_key}
use Rattle.avguard_words.proofs.config.unknown_in.Given as goal

-- the keys so far are known
abbrev pub invariant-keys : goal.invariant-keys
invariant-keys l = All (λ key. is_key (string_bytes key.now) ≡ true) l.yielded
