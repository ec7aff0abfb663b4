-- A cache of verdicts as a list of entries, the most recent first.
use Rattle.std.specs.Prelude.{◌≡◌, ℕ, Bool, false, not, ◌&&◌, ◌==◌, List, [], ◌∷◌, take, filter, find, Option, None, Some}
use Rattle.std.specs.List.{AllByRecursion}
use Rattle.av_base.specs.declared.verdict.Verdict.{Verdict}
use Rattle.av_cache.specs.declared.entry.Entry.{Entry}
use Rattle.av_cache.specs.declared.key.Key.{Key}

-- the entries, and how many there may be
pub record Cache : Type 0 where
  pub capacity : ℕ
  pub entries : List Entry

-- a cache that holds nothing
abbrev pub empty_cache : ℕ → Cache
empty_cache capacity = record { capacity = capacity; entries = [] }

-- an entry is of this stream, generation and version
abbrev pub has_key : ℕ → ℕ → ℕ → Entry → Bool
has_key stream generation version e = (stream == e.stream) && ((generation == e.generation) && (version == e.version))

-- the entry of a key, if there is one
abbrev pub look : ℕ → ℕ → ℕ → List Entry → Option Entry
look stream generation version es = find (has_key stream generation version) es

-- the verdict that an entry keeps
abbrev pub verdict_of : Entry → Verdict
verdict_of e = e.verdict

-- two entries are of the same key
abbrev pub same_key : Entry → Entry → Bool
same_key x e = has_key x.stream x.generation x.version e

-- an entry at the front, and behind it the others: those of other keys
abbrev pub in_front : Entry → List Entry → List Entry
in_front x es = x ∷ filter (λ e. not (same_key x e)) es

-- what was found goes to the front, and a miss moves nothing
abbrev pub moved : Option Entry → List Entry → List Entry
moved None es = es
moved (Some x) es = in_front x es

-- the entry goes to the front, in place of that of its key; a new key into a full list drops the last
abbrev pub put : ℕ → Entry → List Entry → List Entry
put capacity x es = take capacity (in_front x es)

-- no two entries are of the same key
abbrev pub HasEachKeyOnce : List Entry → Type 0
HasEachKeyOnce [] = Unit {0}
HasEachKeyOnce (x ∷ es) = AllByRecursion (λ e. same_key x e ≡ false) es × HasEachKeyOnce es

-- the entry that a key and its verdict make
abbrev pub entry_of : Key × Verdict → Entry
entry_of p = record { stream = p.0.stream; generation = p.0.generation; version = p.0.version; verdict = p.1 }
