-- What streams hold, as one list of files by number, where a file that was removed stays and is marked so.
use Rattle.std.specs.Prelude.{count_by, ◌||◌, ℕ, zero, suc, ◌+◌, Bool, true, false, ◌&&◌, not, nat_le, nat_lt, ◌==◌, List, [], ◌∷◌, ◌++◌, length, take, drop, Option, Some, None, if◌then◌else◌}
use Rattle.std.specs.List.{list_any}
use Rattle.av_base.specs.declared.limits.LimitValues.{LimitValues}
use Rattle.av_store.specs.declared.fault.StoreFault.{StoreFault}
use Rattle.av_store.specs.declared.fault.StoreFault.TheVariants.{BadName, Exists, Full, NoStream, Hole, TooLarge, GenerationSpent}
use Rattle.av_store.specs.Store.{greatest, is_name}

-- two byte strings are the same
unfoldable pub same_bytes : List ℕ → List ℕ → Bool
same_bytes [] [] = true
same_bytes [] (y ∷ ys) = false
same_bytes (x ∷ xs) [] = false
same_bytes (x ∷ xs) (y ∷ ys) = (x == y) && same_bytes xs ys

-- an accepted change of the store
pub data Change : Type 0 where
  Create : (name : List ℕ) → Change
  Write : (stream offset : ℕ) (bytes : List ℕ) → Change
  Cut : (stream length : ℕ) → Change
  Remove : (stream : ℕ) → Change

-- the present state of one stream
pub record File : Type 0 where
  pub name : List ℕ
  pub here : Bool
  pub generation : ℕ
  pub bytes : List ℕ

-- the bytes with b written at place o
abbrev pub written : ℕ → List ℕ → List ℕ → List ℕ
written o b c = take o c ++ b ++ drop (o + length b) c

-- streams are numbered from 1, in the order of their creation
unfoldable pub numbered : {A : Type 0} → List A → ℕ → Option A
numbered [] n = None
numbered (x ∷ xs) zero = None
numbered (x ∷ xs) (suc zero) = Some x
numbered (x ∷ xs) (suc (suc n)) = numbered xs (suc n)

-- the list with its member of that number changed
unfoldable pub changed : {A : Type 0} → (A → A) → ℕ → List A → List A
changed f n [] = []
changed f zero (x ∷ xs) = x ∷ xs
changed f (suc zero) (x ∷ xs) = f x ∷ xs
changed f (suc (suc n)) (x ∷ xs) = x ∷ changed f (suc n) xs

-- a file with other bytes, one generation on
abbrev pub set_bytes : List ℕ → File → File
set_bytes c f = record { name = f.name; here = f.here; generation = suc f.generation; bytes = c }

-- a file that was removed
abbrev pub gone : File → File
gone f = record { name = f.name; here = false; generation = f.generation; bytes = f.bytes }

-- the present files after a change
unfoldable pub files_after : List File → Change → List File
files_after fs (Create name) = fs ++ record { name = name; here = true; generation = 1; bytes = [] } ∷ []
files_after fs (Write s o b) = changed (λ f. set_bytes (written o b f.bytes) f) s fs
files_after fs (Cut s n) = changed (λ f. set_bytes (take n f.bytes) f) s fs
files_after fs (Remove s) = changed gone s fs

-- a file that was not removed
abbrev pub if_here : Option File → Option File
if_here None = None
if_here (Some f) = if f.here then Some f else None

-- the file of a stream that is there
abbrev pub file_of : List File → ℕ → Option File
file_of fs s = if_here (numbered fs s)

-- a file that is there has this name
abbrev pub has_name : List ℕ → File → Bool
has_name name f = f.here && same_bytes f.name name

-- the number of the present file of a name, counting from this one; 0 where there is none
unfoldable pub number_from : ℕ → List ℕ → List File → ℕ
number_from k name [] = 0
number_from k name (f ∷ fs) = if has_name name f then k else number_from (suc k) name fs

-- the number of the stream under a name that is there, else 0
abbrev pub number_of : List ℕ → List File → ℕ
number_of name fs = number_from 1 name fs

-- why a write is refused, the first reason
abbrev pub write_refusal : LimitValues → ℕ → List ℕ → Option File → Option StoreFault
write_refusal limits o b None = Some NoStream
write_refusal limits o b (Some f) =
    if nat_lt (length f.bytes) o then Some Hole
    else if nat_lt limits.length (o + length b) then Some TooLarge
    else if nat_le limits.generation f.generation then Some GenerationSpent
    else None

-- why a cut is refused, the first reason
abbrev pub cut_refusal : LimitValues → ℕ → Option File → Option StoreFault
cut_refusal limits n None = Some NoStream
cut_refusal limits n (Some f) =
    if nat_lt (length f.bytes) n then Some Hole
    else if nat_le limits.generation f.generation then Some GenerationSpent
    else None

-- why a removal is refused
abbrev pub remove_refusal : Option File → Option StoreFault
remove_refusal None = Some NoStream
remove_refusal (Some f) = None

-- why a change is refused, by the first reason that holds
unfoldable pub change_refusal : LimitValues → List File → Change → Option StoreFault
change_refusal limits fs (Create name) =
    if not (is_name name) then Some BadName
    else if list_any (has_name name) fs then Some Exists
    else if nat_le limits.streams (count_by (λ f. f.here) fs) || nat_le greatest (length fs) then Some Full
    else None
change_refusal limits fs (Write s o b) = write_refusal limits o b (file_of fs s)
change_refusal limits fs (Cut s n) = cut_refusal limits n (file_of fs s)
change_refusal limits fs (Remove s) = remove_refusal (file_of fs s)
