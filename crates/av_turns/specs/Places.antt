-- The places of two services, and who waits at their door.
use Rattle.std.specs.Prelude.{◌≤◌, ℕ, Bool, true, false, nat_le, ◌&&◌, ◌||◌, Option, None, Some, if◌then◌else◌}
use Rattle.av_turns.specs.declared.places.Arrived.{Arrived}
use Rattle.av_turns.specs.declared.places.Arrived.TheVariants as arrived
use Rattle.av_turns.specs.declared.places.Guest.{Guest}
use Rattle.av_turns.specs.declared.places.Guest.TheVariants.{Nobody, Came, StandsBy}
use Rattle.av_turns.specs.declared.places.Nth.{Nth}
use Rattle.av_turns.specs.declared.places.Nth.TheVariants.{First, Second}
use Rattle.av_turns.specs.declared.places.Place.{Place}
use Rattle.av_turns.specs.declared.places.Places.{Places}
use Rattle.av_turns.specs.Times.{after, earlier}

-- the first or the second place
abbrev pub place_at : Nth → Places → Place
place_at First p = p.first
place_at Second p = p.second

abbrev pub with_place : Nth → Place → Places → Places
with_place First place p = record p { first = place }
with_place Second place p = record p { second = place }

abbrev pub with_guest : Nth → Guest → Places → Places
with_guest First guest p = record p { first_guest = guest }
with_guest Second guest p = record p { second_guest = guest }

abbrev pub with_misses : Nth → ℕ → Places → Places
with_misses First misses p = record p { first = record p.first { misses = misses } }
with_misses Second misses p = record p { second = record p.second { misses = misses } }

-- nobody is a guest there
abbrev pub is_free : Guest → Bool
is_free Nobody = true
is_free (Came since) = false
is_free (StandsBy place) = false

-- one is at the services' door: it is the first guest that there may be, or there are two already
abbrev pub came_of : ℕ → Places → Option Nth × Places
came_of now p =
    if is_free p.first_guest then (Some First, record p { first_guest = Came now })
    else (if is_free p.second_guest then (Some Second, record p { second_guest = Came now }) else (None, p))

abbrev pub same_nth : Nth → Nth → Bool
same_nth First First = true
same_nth First Second = false
same_nth Second First = false
same_nth Second Second = true

-- a guest stands by for this place
abbrev pub is_for : Nth → Guest → Bool
is_for place Nobody = false
is_for place (Came since) = false
is_for place (StandsBy other) = same_nth other place

-- the guest that does
abbrev pub stands_by : Nth → Places → Option Nth
stands_by place p = if is_for place p.first_guest then Some First else (if is_for place p.second_guest then Some Second else None)

-- a guest leaves
abbrev pub left_of : Nth → Places → Places
left_of guest p = with_guest guest Nobody p

-- a service has this place
abbrev pub taken_of : Nth → Places → Places
taken_of place p = with_place place (record { is_taken = true; misses = 0 }) p

abbrev pub freed_of : Nth → Places → Places
freed_of place p = with_place place (record { is_taken = false; misses = 0 }) p

-- a guest greets where a service is: it stands by where nobody does
abbrev pub stands_of : Option Nth → Nth → Nth → Places → Arrived × Places
stands_of None guest place p = (arrived.Successor, with_guest guest (StandsBy place) p)
stands_of (Some other) guest place p = (arrived.Away, left_of guest p)

-- a guest greets at a place: it has it where it is free
abbrev pub greeted_of : Nth → Nth → Places → Arrived × Places
greeted_of guest place p =
    if (place_at place p).is_taken then stands_of (stands_by place p) guest place p else (arrived.Place, taken_of place (left_of guest p))

-- a service is lost: who stood by has its place at once
abbrev pub lost_to : Option Nth → Nth → Places → Option Nth × Places
lost_to None place p = (None, freed_of place p)
lost_to (Some guest) place p = (Some guest, taken_of place (left_of guest p))

abbrev pub lost_of : Nth → Places → Option Nth × Places
lost_of place p = lost_to (stands_by place p) place p

-- since when a guest is waited for to greet
abbrev pub since_of_guest : Guest → Option ℕ
since_of_guest Nobody = None
since_of_guest (Came since) = Some since
since_of_guest (StandsBy place) = None

-- the same of the one that came first
abbrev pub since_of : Places → Option ℕ
since_of p = earlier (since_of_guest p.first_guest) (since_of_guest p.second_guest)

-- the time is up
abbrev pub is_over : Option ℕ → ℕ → Bool
is_over None now = false
is_over (Some due) now = nat_le due now

-- a service is to be lost: eight questions in a row had no reply
abbrev pub is_stuck : Place → Bool
is_stuck place = nat_le 8 place.misses && place.is_taken

abbrev pub stuck_of : Places → Option Nth
stuck_of p = if is_stuck p.first then Some First else (if is_stuck p.second then Some Second else None)

-- a guest has not greeted in time
abbrev pub is_unheard : ℕ → ℕ → Guest → Bool
is_unheard wait now guest = is_over (after (since_of_guest guest) wait) now

abbrev pub unheard_of : ℕ → ℕ → Places → Option Nth
unheard_of wait now p = if is_unheard wait now p.first_guest then Some First else (if is_unheard wait now p.second_guest then Some Second else None)

-- a time is not after another
abbrev pub IsNotAfter : Option ℕ → Option ℕ → Type 0
IsNotAfter time None = Unit {0}
IsNotAfter None (Some due) = ⊥
IsNotAfter (Some time) (Some due) = time ≤ due
