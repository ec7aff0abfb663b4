-- How a guard reads what a service says.
use Rattle.std.specs.Prelude.{ℕ, ◌+◌, ◌==◌, ◌&&◌, ◌||◌, Bool, true, false, not, nat_le, nat_lt, List, [], ◌∷◌, ◌++◌, length, drop, Option, None, Some, Result, Ok, Err, slice_index, if◌then◌else◌}
use Rattle.av_base.specs.Refused.{map_ok}
use Rattle.av_parts.specs.declared.sizes.TheConstants.{CLEAN_SIZE, HELLO_SIZE, INFECTED_SIZE, MAX_INDEX, UNJUDGED_SIZE}
use Rattle.av_parts.specs.declared.fault.WordFault.{WordFault}
use Rattle.av_parts.specs.declared.fault.WordFault.TheVariants as fault
use Rattle.av_parts.specs.declared.word.Unjudged.{Unjudged}
use Rattle.av_parts.specs.declared.word.Unjudged.TheVariants.{Full, Newer}
use Rattle.av_parts.specs.declared.word.Word.{Word}
use Rattle.av_parts.specs.declared.word.Word.TheVariants as word
use Rattle.av_parts.specs.declared.word.Said.{Said}
use Rattle.av_parts.specs.declared.word.Said.TheVariants.{Hello, Of}
use Rattle.av_parts.specs.Listening.{hears}
use Rattle.av_parts.specs.Spelling.{number4, number8}

-- a greeting, or its fault: the length first, then the format
unfoldable pub hello_of : List ℕ → Result Said WordFault
hello_of body =
    if not (length body == HELLO_SIZE) then Err fault.Shape else
    (if not (slice_index body 1 == 1) then Err fault.Format else
    (if number8 body 2 == 0 then Err fault.Range else Ok (Hello (number8 body 2))))

-- a verdict that a content is clean
unfoldable pub clean_of : List ℕ → Result Word WordFault
clean_of body =
    if not (length body == CLEAN_SIZE) then Err fault.Shape else
    (if number8 body 1 == 0 || number8 body 10 == 0 then Err fault.Range else
    Ok (word.Clean (number8 body 1) (number8 body 10) (number8 body 18)))

-- a verdict that a signature occurs
unfoldable pub infected_of : List ℕ → Result Word WordFault
infected_of body =
    if not (length body == INFECTED_SIZE) then Err fault.Shape else
    (if number8 body 1 == 0 || number8 body 10 == 0 || nat_lt MAX_INDEX (number4 body 18) || number8 body 22 == 0 then Err fault.Range else
    Ok (word.Infected (number8 body 1) (number8 body 10) (number4 body 18) (number8 body 22)))

-- why there is no verdict
abbrev pub why_of : ℕ → Result Unjudged WordFault
why_of n = if n == 1 then Ok Full else (if n == 2 then Ok Newer else Err fault.Range)

-- a content without a verdict
unfoldable pub lacks_of : List ℕ → Result Word WordFault
lacks_of body =
    if not (length body == UNJUDGED_SIZE) then Err fault.Shape else
    (if number8 body 1 == 0 then Err fault.Range else map_ok (word.None (number8 body 1)) (why_of (slice_index body 10)))

-- a verdict by its status
unfoldable pub verdict_of : List ℕ → Result Word WordFault
verdict_of body =
    if slice_index body 9 == 0 then clean_of body else
    (if slice_index body 9 == 1 then infected_of body else
    (if slice_index body 9 == 2 then lacks_of body else Err fault.Status))

-- what a body says: the greeting comes first, and once
unfoldable pub said_as : Bool → List ℕ → Result Said WordFault
said_as false body = hello_of body
said_as true body = map_ok Of (verdict_of body)

-- what the bytes of a frame that came say: a length that no word has is told first, then a kind, and one at a wrong time
unfoldable pub said_of : Bool → List ℕ → Result (Option Said) WordFault
said_of greeted bytes =
    if nat_lt (length bytes) 4 then Ok None else
    (if not (nat_le HELLO_SIZE (number4 bytes 0) && nat_le (number4 bytes 0) INFECTED_SIZE) then Err fault.Length else
    (if length bytes == 4 then Ok None else
    (if not (slice_index bytes 4 == 20) && not (slice_index bytes 4 == 21) then Err fault.Kind else
    (if not (slice_index bytes 4 == (if greeted then 21 else 20)) then Err fault.Greeting else
    (if nat_lt (length bytes) (4 + number4 bytes 0) then Ok None else map_ok Some (said_as greeted (drop 4 bytes)))))))

-- A reader: the bytes of a frame that came, whether the service has greeted, and the fault that was met. Behind a fault nothing
-- is heard.
pub record Attending : Type 0 where
  pub front : List ℕ
  pub greeted : Bool
  pub fault : Option WordFault

-- nothing came
abbrev pub fresh : Attending
fresh = record { front = []; greeted = false; fault = None }

abbrev pub said_list : Option Said → List Said
said_list None = []
said_list (Some said) = said ∷ []

-- the bytes of a frame that came are these
abbrev pub by_said : List ℕ → Attending → Result (Option Said) WordFault → Attending × List Said
by_said bytes r (Ok None) = (record r { front = bytes }, [])
by_said bytes r (Ok (Some said)) = (record r { front = []; greeted = true }, said ∷ [])
by_said bytes r (Err f) = (record r { front = []; fault = Some f }, [])

abbrev pub unless_broken : ℕ → Attending → Option WordFault → Attending × List Said
unless_broken b r None = by_said (r.front ++ b ∷ []) r (said_of r.greeted (r.front ++ b ∷ []))
unless_broken b r (Some f) = (r, [])

-- what a byte does to a reader
unfoldable pub step : ℕ → Attending → Attending × List Said
step b r = unless_broken b r r.fault

-- what bytes do to a reader
abbrev pub heard_of : List ℕ → Attending → Attending × List Said
heard_of bytes r = hears step bytes r
