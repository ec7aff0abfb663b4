-- The members of a class: a byte is itself, and three bytes of which the second is a hyphen are all from the first to the third.
use Rattle.std.specs.Prelude.{ℕ, ◌==◌, ◌||◌, ◌&&◌, Bool, false, not, if◌then◌else◌, List, [], ◌∷◌, nat_le}
use Rattle.av_glob.specs.declared.class.Held.{Held}
use Rattle.av_glob.specs.declared.class.Held.TheVariants.{Nothing, Low, Dashed}

-- a byte is a member once the next one is read: it was held and begins no range, or is in the range that ends here
abbrev pub is_met : Held → ℕ → ℕ → Bool
is_met Nothing member b = false
is_met (Low low) member b = not (member == 45) && (low == b)
is_met (Dashed low) member b = nat_le low b && nat_le b member

-- what is held then: a member that may begin a range, and with the hyphen behind it
abbrev pub held_after : Held → ℕ → Held
held_after Nothing member = Low member
held_after (Low low) member = if member == 45 then Dashed low else Low member
held_after (Dashed low) member = Nothing

-- a byte is what is held at the end, where a hyphen is itself
abbrev pub is_last : Held → ℕ → Bool
is_last Nothing b = false
is_last (Low low) b = low == b
is_last (Dashed low) b = (low == b) || (b == 45)

-- a byte is one of the members that are left
abbrev pub is_member : Held → List ℕ → ℕ → Bool
is_member held [] b = is_last held b
is_member held (member ∷ members) b = is_met held member b || is_member (held_after held member) members b

-- a byte is one of the members
abbrev pub is_member_of : List ℕ → ℕ → Bool
is_member_of members b = is_member Nothing members b
