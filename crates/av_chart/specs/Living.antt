-- Where lives that have no end are found: by port and id.
use Rattle.std.specs.Prelude.{ℕ, ◌≡◌, ◌&&◌, Bool, Option, None, if◌then◌else◌}
use Rattle.std.specs.BTreeMap.{BTreeMap, btree_map_len, get}
use Rattle.std.specs.Ordering.{nat_cmp, ordering_then}
use Rattle.std.specs.declared.cmp.Ordering.{Ordering}
use Rattle.av_base.specs.MessageId.{same_id}
use Rattle.av_base.specs.Port.{same_port}
use Rattle.av_base.specs.declared.message_id.MessageId.{MessageId}
use Rattle.av_base.specs.declared.port.Port.{Port}
use Rattle.av_base.specs.declared.port.Port.TheVariants.{One, Two}
use Rattle.av_chart.specs.declared.living.Living.{Living}

-- the order of ids: by boot, and then by number
abbrev pub id_cmp : MessageId → MessageId → Ordering
id_cmp i j = ordering_then (nat_cmp i.boot j.boot) (nat_cmp i.seq j.seq)

-- a place for each port and id, or none
abbrev pub Index : Type 0
Index = Port → MessageId → Option ℕ

-- what a map has under an id
abbrev pub place_in : BTreeMap MessageId ℕ → MessageId → Option ℕ
place_in living id = get id_cmp living id

-- what is found at a port under an id
abbrev pub place_at : Living → Index
place_at l One id = place_in l.one id
place_at l Two id = place_in l.two id

-- how many are found at a port
abbrev pub count_at : Living → Port → ℕ
count_at l One = btree_map_len l.one
count_at l Two = btree_map_len l.two

-- two lives are one
abbrev pub same_life : Port → MessageId → Port → MessageId → Bool
same_life port id q j = same_port port q && same_id id j

-- at this port under this id there is this place, or none, and the others stay
abbrev pub Writes : Index → Index → Port → MessageId → Option ℕ → Type 0
Writes old new port id place = (q : Port) (j : MessageId) → new q j ≡ (if same_life port id q j then place else old q j)

-- all stay
abbrev pub Stays : Index → Index → Type 0
Stays old new = (q : Port) (j : MessageId) → new q j ≡ old q j

-- nothing is found at a port
abbrev pub HasNone : Index → Port → Type 0
HasNone at port = (j : MessageId) → at port j ≡ None
