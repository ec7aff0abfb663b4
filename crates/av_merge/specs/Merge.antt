-- What becomes of signature sets that are merged, one after the other.
use Rattle.std.specs.Prelude.{ℕ, ◌≡◌, ◌+◌, ◌&&◌, ◌==◌, not, Bool, nat_lt, max, List, [], ◌∷◌, ◌++◌, length, Option, None, Some, Result, Ok, Err, position, slice_get, unwrap_or, if◌then◌else◌}
use Rattle.std.proofs.Math.ListN.{replicate}
use Rattle.std.specs.List.{filter, list_any}
use Rattle.std.specs.Str.{bytes_eq}
use Rattle.av_base.specs.Refused.{unless}
use Rattle.av_sigset.specs.Set.{NumberedSet, byte_count, patterns_of}
use Rattle.av_sigset.specs.declared.set.TheConstants.{MAX_BYTES, MAX_SIGNATURES}
use Rattle.av_sigset.specs.declared.signature.Pattern.{Pattern}
use Rattle.av_sigset.specs.declared.signature.Signature.{Signature}
use Rattle.av_merge.specs.declared.fault.MergeFault.{MergeFault}
use Rattle.av_merge.specs.declared.fault.MergeFault.TheVariants.{Clash, ManySignatures, ManyBytes}

-- the signatures in their order, of each the number of the set that it came with, and the greatest version of a set
pub record Merged : Type 0 where
  pub signatures : List Signature
  pub origins : List ℕ
  pub version : ℕ

-- no set yet
abbrev pub no_sets : Merged
no_sets = record { signatures = []; origins = []; version = 0 }

-- two patterns look for the same: equal bytes, at the same places
abbrev pub is_same : Pattern → Pattern → Bool
is_same p q = bytes_eq p.bytes q.bytes && p.span.low == q.span.low && p.span.high == q.span.high

-- two signatures have one name and look for different things
abbrev pub clashes : Signature → Signature → Bool
clashes s t = bytes_eq t.name s.name && not (is_same t.pattern s.pattern)

-- none of these has the signature's name
abbrev pub is_new : List Signature → Signature → Bool
is_new before s = not (list_any (λ t. bytes_eq t.name s.name) before)

-- what a set adds to these: its signatures of new names, in its order (no file has a name twice)
abbrev pub added_by : List Signature → List Signature → List Signature
added_by before given = filter (is_new before) given

-- signature i clashes with the one at this place, or the rest decides
abbrev pub clash_or : Merged → ℕ → Option ℕ → Option MergeFault → Option MergeFault
clash_or m i None rest = rest
clash_or m i (Some place) rest = Some (Clash i (unwrap_or (slice_get m.origins place) 0))

-- the first of these signatures, numbered from i on, that clashes with one that came before
unfoldable pub clash_from : Merged → ℕ → List Signature → Option MergeFault
clash_from m i [] = None
clash_from m i (s ∷ given) = clash_or m i (position (clashes s) m.signatures) (clash_from m (i + 1) given)

-- the limit that is passed when so many signatures with so many bytes in all follow these
abbrev pub limit_of : List Signature → ℕ → ℕ → Option MergeFault
limit_of before count bytes =
    if nat_lt MAX_SIGNATURES (length before + count) then Some ManySignatures
    else if nat_lt MAX_BYTES (byte_count (patterns_of before) + bytes) then Some ManyBytes
    else None

-- the limit that is passed when these are added
abbrev pub limit_with : List Signature → List Signature → Option MergeFault
limit_with before more = limit_of before (length more) (byte_count (patterns_of more))

-- the first fault, if there is one, and else the second
abbrev pub or_fault : Option MergeFault → Option MergeFault → Option MergeFault
or_fault (Some fault) other = Some fault
or_fault None other = other

-- why a set's signatures can't be merged with these: a clash comes before a limit
abbrev pub fault_of : Merged → List Signature → Option MergeFault
fault_of m given = or_fault (clash_from m 0 given) (limit_with m.signatures (added_by m.signatures given))

-- these signatures more, of the set of this number and version
abbrev pub with_more : Merged → ℕ → ℕ → List Signature → Merged
with_more m number version more =
    record { signatures = m.signatures ++ more; origins = m.origins ++ replicate (length more) number; version = max m.version version }

-- merged with the set of this number
abbrev pub merged_with : Merged → ℕ → NumberedSet → Result Merged MergeFault
merged_with m number s =
    unless (fault_of m s.signatures) (with_more m number s.version (added_by m.signatures s.signatures))

-- the next set is merged if this one was
abbrev pub and_then : Result Merged MergeFault → (Merged → Result Merged MergeFault) → Result Merged MergeFault
and_then (Ok m) next = next m
and_then (Err fault) next = Err fault

-- merged with sets, numbered from i on
unfoldable pub merged_from : Merged → ℕ → List NumberedSet → Result Merged MergeFault
merged_from m i [] = Ok m
merged_from m i (s ∷ sets) = and_then (merged_with m i s) (λ n. merged_from n (i + 1) sets)

-- what all these sets give, numbered from 0 on
abbrev pub IsMergeOf : List NumberedSet → Merged → Type 0
IsMergeOf sets m = merged_from no_sets 0 sets ≡ Ok m

-- the merge of any sets became that of these and this one, whose number is how many they are
abbrev pub MergesOn : Merged → Merged → ℕ → NumberedSet → Type 0
MergesOn old new number set = (sets : List NumberedSet) → length sets ≡ number → IsMergeOf sets old → IsMergeOf (sets ++ set ∷ []) new
