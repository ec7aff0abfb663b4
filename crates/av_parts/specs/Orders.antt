-- What a guard sends over the parts protocol, and the bytes that came of a content.
use Rattle.std.specs.Prelude.{ℕ, List, [], ◌∷◌, ◌++◌, ◌==◌, map, if◌then◌else◌}
use Rattle.av_parts.specs.declared.order.Order.{Order as Sent}
use Rattle.av_parts.specs.declared.order.Order.TheVariants as sent

-- a content begins, some of it comes, it is whole and has so many bytes, or it is given up
pub data Order : Type 0 where
  Begins : (number : ℕ) → Order
  Brings : (number : ℕ) (some : List ℕ) → Order
  Ends : (number count : ℕ) → Order
  Drops : (number : ℕ) → Order

-- an order, with its bytes
abbrev pub order_of : Sent → Order
order_of (sent.Begin n) = Begins n
order_of (sent.Part n some) = Brings n some.now
order_of (sent.End n count) = Ends n count
order_of (sent.Drop n) = Drops n

-- bytes of a content, one at a time
abbrev pub singly : ℕ → List ℕ → List Order
singly n some = map (λ b. Brings n (b ∷ [])) some

-- an order byte by byte: of a part that begins no byte has come
abbrev pub bytewise : Order → List Order
bytewise (Begins n) = Begins n ∷ []
bytewise (Brings n []) = Brings n [] ∷ []
bytewise (Brings n (b ∷ some)) = singly n (b ∷ some)
bytewise (Ends n count) = Ends n count ∷ []
bytewise (Drops n) = Drops n ∷ []

-- these bytes, if they are of this content, before what else comes of it
abbrev pub if_number : ℕ → ℕ → List ℕ → List ℕ → List ℕ
if_number n m some more = if n == m then some ++ more else more

-- the bytes that came of a content
unfoldable pub brought : ℕ → List Order → List ℕ
brought n [] = []
brought n (Begins m ∷ rest) = brought n rest
brought n (Brings m some ∷ rest) = if_number n m some (brought n rest)
brought n (Ends m count ∷ rest) = brought n rest
brought n (Drops m ∷ rest) = brought n rest
