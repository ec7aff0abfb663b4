-- How often asks were taken, told, and wait.
use Rattle.std.specs.Prelude.{◌≡◌, ℕ, ◌+◌, ◌==◌, ◌&&◌, false, List, [], ◌∷◌, if◌then◌else◌}
use Rattle.av_guard.specs.Beginning.{begun}
use Rattle.av_guard.specs.Run.{Call, ClientLost, Lead, asks_in, told_in}
use Rattle.av_guard.specs.State.{State}
use Rattle.av_guard.specs.Telling.{Waiters}
use Rattle.av_guard.specs.Ask.{Ask}
use Rattle.av_guard.specs.declared.given.Told.{Told}
use Rattle.av_guard.specs.declared.settings.Settings.{Settings}

-- one where these are the client and the tag, else none
abbrev pub one_if : ℕ → ℕ → ℕ → ℕ → ℕ
one_if client tag c t = if (c == client) && (t == tag) then 1 else 0

-- how often a client asks under a tag, is told, and waits
abbrev pub asks_of : ℕ → ℕ → List Ask → ℕ
asks_of client tag [] = 0
asks_of client tag (a ∷ rest) = one_if client tag a.client a.tag + asks_of client tag rest

abbrev pub told_of : ℕ → ℕ → List Told → ℕ
told_of client tag [] = 0
told_of client tag (t ∷ rest) = one_if client tag t.client t.tag + told_of client tag rest

abbrev pub waits_of_ask : ℕ → ℕ → Waiters → ℕ
waits_of_ask client tag [] = 0
waits_of_ask client tag (e ∷ rest) = one_if client tag e.1.client e.1.tag + waits_of_ask client tag rest

-- the client does not leave by these calls
abbrev pub Stays : ℕ → List Call → Type 0
Stays client [] = Unit {0}
Stays client (ClientLost c ∷ rest) = ((c == client) ≡ false) × Stays client rest
Stays client (_ ∷ rest) = Stays client rest

-- Of a client that has not left, each ask that was taken was told or waits, and only one of these.
abbrev pub AsksAreAnsweredOnce : Type 0
AsksAreAnsweredOnce =
    (settings : Settings) (calls : List Call) (g : State) (client tag : ℕ)
    → Lead calls (begun settings) g → Stays client calls
    → asks_of client tag (asks_in calls) ≡ told_of client tag (told_in calls) + waits_of_ask client tag g.waiting
