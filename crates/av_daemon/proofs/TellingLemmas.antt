-- Who is told what, step after step.
use Rattle.std.proofs.Common.{ℕ, ◌≡◌, ◌∙◌, false, List, Result, Ok, Err, inl, inr, arith}
use Rattle.std.specs.Result.{OnOk, is_err}
use Rattle.av_guard.specs.State.{State}
use Rattle.av_peers.specs.Clients.{IsSilent}
use Rattle.av_peers.specs.declared.client.Client.{Client}
use Rattle.av_daemon.specs.Telling.{IsAskedOrStands}

-- what holds in any case holds where it ends well
pub on_any : {A E P : Type 0} → (r : Result A E) → P → OnOk r P
on_any (Ok a) p = p
on_any (Err e) p = tt

-- what holds where it ends well, of what ended well
pub told_well : {A E P : Type 0} → (r : Result A E) → is_err r ≡ false → OnOk r P → P
told_well (Ok a) well p = p
told_well (Err e) well p = grind (arith, well)

-- nobody is told anything before
pub silent_before : (client tag : ℕ) (content : List ℕ) (guard after : State) (old next new : List (ℕ × Client)) → IsSilent old next
    → IsAskedOrStands client tag content guard after next new → IsAskedOrStands client tag content guard after old new
silent_before client tag content guard after old next new silent (inl asked) =
    inl (record { given = asked.given; after = asked.after; takes = asked.takes; before = asked.before; silent = λ n. asked.silent n ∙ silent n; told = asked.told })
silent_before client tag content guard after old next new silent (inr stands) = inr (stands.0, λ n. stands.1 n ∙ silent n)
