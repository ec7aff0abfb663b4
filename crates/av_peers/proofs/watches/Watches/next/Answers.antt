use Rattle.std.proofs.Common.{arith, ℕ, ◌≡◌, ◌+◌, ◌<◌, ◌≤◌, None, Option, Some}
use Rattle.std.proofs.lemmas.Bool.Decides.{nat_tests}
use Rattle.av_turns.specs.Waits.{Lates, until}
use Rattle.av_peers.specs.Watches.{CanBeNewer, IsNext, Watching}
use Rattle.av_peers.proofs.watches.Watches.next.Goals as goal

-- a version that can be followed is named until the next
follows : (version : ℕ) → version < 18446744073709551615 → until version 1 ≡ version + 1
follows version low = grind (arith, nat_tests, low)

above : (version floor : ℕ) → floor < until version 1 → floor ≤ version
above version floor later = grind (arith, nat_tests, later)

next_is : (old new : Watching) (floor : ℕ) (given : Option ℕ) → CanBeNewer old → Lates old new 1 floor given → IsNext old new floor given
next_is old new floor None can late = (late.0, λ client version named. above version floor (late.1 client version named))
next_is old new floor (Some client) can late =
    let later : until late.0 1 ≤ floor = late.3 in
    (late.0, late.1, omega (arith, later, follows late.0 (can client late.0 late.1)), late.4)

pub returns : goal.returns
returns c = rw (← c.self.view_is) (next_is _ _ _ _ c.self.invariant c.late.ensures)
