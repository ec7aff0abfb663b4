-- Which numbers the contents of each client have.
use Rattle.std.specs.Prelude.{ℕ, ◌≡◌, ◌≤◌, Bool, true, false, nat_eq, List, [], ◌∷◌, Option, None, Some}
use Rattle.std.specs.List.{list_any}
use Rattle.std.specs.List.Sorted.{IsStrictlySortedBy}
use Rattle.std.specs.Map.{keys_of, lookup}
use Rattle.std.specs.Option.{unwrap_or}
use Rattle.std.specs.Ordering.{nat_cmp}
use Rattle.std.specs.BTreeMap.{is_at}
use Rattle.av_large.specs.declared.content.Content.{Content}
use Rattle.av_parts.specs.Judge.{at}

-- the numbers of a map rise
abbrev pub Ascends : {X : Type 0} → List (ℕ × X) → Type 0
Ascends m = IsStrictlySortedBy nat_cmp (keys_of m)

-- this is one of the numbers
abbrev pub is_one : ℕ → List ℕ → Bool
is_one n numbers = list_any (is_at (nat_cmp n)) numbers

-- the numbers of a client
abbrev pub numbers_at : List (ℕ × List ℕ) → ℕ → List ℕ
numbers_at index client = unwrap_or (lookup (is_at (nat_cmp client)) index) []

-- a client has this number
abbrev pub has : List (ℕ × List ℕ) → ℕ → ℕ → Bool
has index client n = is_one n (numbers_at index client)

-- each content is in the index, under its client
abbrev pub IsIndexed : List (ℕ × Content) → List (ℕ × List ℕ) → Type 0
IsIndexed held index = (n : ℕ) (c : Content) → at held n ≡ Some c → has index c.client n ≡ true

-- all contents of a client have one of these numbers
abbrev pub HasTheirs : ℕ → List (ℕ × Content) → List ℕ → Type 0
HasTheirs client held numbers = (n : ℕ) (c : Content) → at held n ≡ Some c → nat_eq c.client client ≡ true → is_one n numbers ≡ true

-- a content is of this client
abbrev pub is_of : ℕ → Option Content → Bool
is_of client None = false
is_of client (Some c) = nat_eq c.client client

-- the first of the numbers is taken, if there is one
abbrev pub Pops : List ℕ → List ℕ → Option ℕ → Type 0
Pops old new None = (old ≡ []) × (new ≡ [])
Pops old new (Some n) = (old ≡ n ∷ new) × ((m : ℕ) → is_one m old ≡ true → n ≤ m)
