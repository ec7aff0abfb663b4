-- How a service reads orders.
use Rattle.std.specs.Prelude.{ℕ, ◌+◌, ◌-◌, ◌≤◌, ◌==◌, ◌&&◌, Bool, not, nat_le, nat_lt, List, [], ◌∷◌, ◌++◌, length, Option, None, Some, Result, Ok, Err, slice_index, if◌then◌else◌}
use Rattle.av_parts.specs.declared.sizes.TheConstants.{END_SIZE, MAX_ORDER, NUMBER_SIZE, PART_HEAD}
use Rattle.av_parts.specs.declared.fault.OrderFault.{OrderFault}
use Rattle.av_parts.specs.declared.fault.OrderFault.TheVariants as fault
use Rattle.av_parts.specs.declared.front.Kind.{Kind}
use Rattle.av_parts.specs.declared.front.Kind.TheVariants as kind
use Rattle.av_parts.specs.declared.front.Front.{Front}
use Rattle.av_parts.specs.declared.front.Front.TheVariants as front
use Rattle.av_parts.specs.declared.order.Order.{Order as Sent}
use Rattle.av_parts.specs.declared.order_reader.Place.{Place}
use Rattle.av_parts.specs.declared.order_reader.Place.TheVariants as place
use Rattle.av_parts.specs.Listening.{hears}
use Rattle.av_parts.specs.Orders.{Order, Begins, Brings, Ends, Drops, bytewise, order_of}
use Rattle.av_parts.specs.Spelling.{number4, number8}

-- the kind of a body that begins with this byte
abbrev pub kind_of : ℕ → Option Kind
kind_of byte =
    if byte == 16 then Some kind.Begin else (if byte == 17 then Some kind.Part else
    (if byte == 18 then Some kind.End else (if byte == 19 then Some kind.Drop else None)))

-- how many bytes the body of an order of a kind can have
abbrev pub fits_kind : Kind → ℕ → Bool
fits_kind kind.Begin size = size == NUMBER_SIZE
fits_kind kind.Part size = nat_lt PART_HEAD size && nat_le size MAX_ORDER
fits_kind kind.End size = size == END_SIZE
fits_kind kind.Drop size = size == NUMBER_SIZE

-- how many bytes of a frame tell an order of a kind: all but a part's bytes
abbrev pub length_of : Kind → ℕ
length_of kind.Begin = 4 + NUMBER_SIZE
length_of kind.Part = 4 + PART_HEAD
length_of kind.End = 4 + END_SIZE
length_of kind.Drop = 4 + NUMBER_SIZE

-- what the front of a frame tells, whose body has so many bytes
abbrev pub front_as : Kind → ℕ → List ℕ → Front
front_as kind.Begin size bytes = front.Begin (number8 bytes 5)
front_as kind.Part size bytes = front.Part (number8 bytes 5) (size - PART_HEAD)
front_as kind.End size bytes = front.End (number8 bytes 5) (number8 bytes 13)
front_as kind.Drop size bytes = front.Drop (number8 bytes 5)

-- the same, once enough came: a kind that no order has is told first, and then a length that is not the kind's
abbrev pub front_by : Option Kind → ℕ → List ℕ → Result (Option Front) OrderFault
front_by None size bytes = Err fault.Kind
front_by (Some k) size bytes =
    if not (fits_kind k size) then Err fault.Shape else
    (if nat_lt (length bytes) (length_of k) then Ok None else Ok (Some (front_as k size bytes)))

-- what the bytes of a frame that came tell: a length that no order has is told first
unfoldable pub front_of : List ℕ → Result (Option Front) OrderFault
front_of bytes =
    if nat_lt (length bytes) 4 then Ok None else
    (if not (nat_le NUMBER_SIZE (number4 bytes 0) && nat_le (number4 bytes 0) MAX_ORDER) then Err fault.Length else
    (if length bytes == 4 then Ok None else front_by (kind_of (slice_index bytes 4)) (number4 bytes 0) bytes))

-- a part has a byte left
abbrev pub HasLeft : Place → Type 0
HasLeft place.Front = Unit {0}
HasLeft (place.Within n left) = 1 ≤ left

-- A reader: the bytes of a frame's front that came, where it is, and the fault that it met. Behind a fault nothing is heard.
pub record Hearing : Type 0 where
  pub front : List ℕ
  pub place : Place
  pub fault : Option OrderFault

-- nothing came
abbrev pub fresh : Hearing
fresh = record { front = []; place = place.Front; fault = None }

-- within a part of this content with so many bytes to come; behind its last byte at a front again
abbrev pub within : ℕ → ℕ → Place
within n left = if left == 0 then place.Front else place.Within n left

-- where a reader is behind a front
abbrev pub place_after : Front → Place
place_after (front.Begin n) = place.Front
place_after (front.Part n left) = within n left
place_after (front.End n count) = place.Front
place_after (front.Drop n) = place.Front

-- what a front tells: of a part that begins no byte has come
abbrev pub front_order : Front → Order
front_order (front.Begin n) = Begins n
front_order (front.Part n left) = Brings n []
front_order (front.End n count) = Ends n count
front_order (front.Drop n) = Drops n

abbrev pub front_orders : Option Front → List Order
front_orders None = []
front_orders (Some f) = front_order f ∷ []

-- what is told, byte by byte
abbrev pub bytewise_of : Option Sent → List Order
bytewise_of None = []
bytewise_of (Some order) = bytewise (order_of order)

-- the bytes of a frame that came are these
abbrev pub by_front : List ℕ → Hearing → Result (Option Front) OrderFault → Hearing × List Order
by_front bytes r (Ok None) = (record r { front = bytes }, [])
by_front bytes r (Ok (Some f)) = (record r { front = []; place = place_after f }, front_order f ∷ [])
by_front bytes r (Err f) = (record r { front = []; fault = Some f }, [])

-- what a byte does where a reader is
abbrev pub by_place : ℕ → Hearing → Place → Hearing × List Order
by_place b r place.Front = by_front (r.front ++ b ∷ []) r (front_of (r.front ++ b ∷ []))
by_place b r (place.Within n left) = (record r { place = within n (left - 1) }, Brings n (b ∷ []) ∷ [])

abbrev pub unless_broken : ℕ → Hearing → Option OrderFault → Hearing × List Order
unless_broken b r None = by_place b r r.place
unless_broken b r (Some f) = (r, [])

-- what a byte does to a reader
unfoldable pub step : ℕ → Hearing → Hearing × List Order
step b r = unless_broken b r r.fault

-- what bytes do to a reader
abbrev pub heard_of : List ℕ → Hearing → Hearing × List Order
heard_of bytes r = hears step bytes r
