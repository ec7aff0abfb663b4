-- The opens of one question are a chain: from its first to its last, each row names the next.
use Rattle.std.specs.Prelude.{◌≡◌, ℕ, ◌+◌, ◌-◌, ◌==◌, ◌&&◌, not, nat_le, find, Bool, List, [], ◌∷◌, Option, None, Some, IfSome, if◌then◌else◌, map, filter}
use Rattle.std.specs.Option.{option_or}
use Rattle.av_base.specs.declared.port.Port.{Port}
use Rattle.av_context.specs.Contexts.{at}
use Rattle.av_filter_table.specs.declared.asked.Asked.{Asked}
use Rattle.av_filter_table.specs.declared.waits.Waits.{Waits}
use Rattle.av_pend.specs.Waiting.{Waiting}

-- the questions by number, each with the key of its stream's context, and the held opens by number
abbrev pub Questions : Type 0
Questions = List (ℕ × (Asked × ℕ))

-- the held opens by number, each with what its row says and what waits
abbrev pub Opens : Type 0
Opens = List (ℕ × (Waits × Waiting))

-- an open waits for the question of this number
abbrev pub waits_for : ℕ → ℕ × (Waits × Waiting) → Bool
waits_for n e = e.1.0.question == n

-- the first open of a question, the last, and how many there are
abbrev pub first_of : ℕ → Opens → Option ℕ
first_of n [] = None
first_of n (e ∷ p) = if waits_for n e then Some e.0 else first_of n p

-- the place of the last open of a question
abbrev pub last_of : ℕ → Opens → Option ℕ
last_of n [] = None
last_of n (e ∷ p) = option_or (last_of n p) (if waits_for n e then Some e.0 else None)

-- how many opens wait for a question
abbrev pub count_of : ℕ → Opens → ℕ
count_of n [] = 0
count_of n (e ∷ p) = if waits_for n e then count_of n p + 1 else count_of n p

-- each row names the next one of its question
abbrev pub AreLinked : Opens → Type 0
AreLinked [] = Unit {0}
AreLinked (e ∷ p) = (e.1.0.next ≡ first_of e.1.0.question p) × AreLinked p

-- a question names the ends of its chain
pub record IsChain (x : Asked) (n : ℕ) (p : Opens) : Type 0 where
  pub first : x.first ≡ first_of n p
  pub last : x.last ≡ last_of n p
  pub opens : x.opens ≡ count_of n p

-- each row names the next, and each question the ends of its chain
pub record AreChained (q : Questions) (p : Opens) : Type 0 where
  pub linked : AreLinked p
  pub ends : (n : ℕ) → IfSome (at q n) (λ x. IsChain x.0 n p)

-- an open with the question that it waits for
abbrev pub plain : ℕ × (Waits × Waiting) → ℕ × Waiting
plain e = (e.1.0.question, e.1.1)

-- the opens in order of submission; those of one question, and the others
abbrev pub plains : Opens → List (ℕ × Waiting)
plains p = map plain p

-- an open waits for the question of this number
abbrev pub is_of : ℕ → ℕ × Waiting → Bool
is_of n x = x.0 == n

-- the waiting opens of a question
abbrev pub of : ℕ → List (ℕ × Waiting) → List (ℕ × Waiting)
of n xs = filter (is_of n) xs

-- the waiting opens of all other questions
abbrev pub others : ℕ → List (ℕ × Waiting) → List (ℕ × Waiting)
others n xs = filter (λ x. not (is_of n x)) xs

-- a question of this content, asked on a port, that no open waits for yet
abbrev pub asked_about : ℕ → ℕ → Port → Asked
asked_about stream generation port =
    record { stream = stream; generation = generation; port = port; first = None; last = None; opens = 0 }

-- a question with an open behind the others, and with its first one gone, which named this one as the next
abbrev pub longer : Asked → ℕ → Asked
longer x number = record x { first = option_or x.first (Some number); last = Some number; opens = x.opens + 1 }

-- the last open of a question whose first one is gone: none where that one named no next
abbrev pub last_after : Option ℕ → Option ℕ → Option ℕ
last_after None last = None
last_after (Some k) last = last

-- a question without the first of its opens
abbrev pub shorter : Asked → Option ℕ → Asked
shorter x next = record x { first = next; last = last_after next x.last; opens = x.opens - 1 }

-- what a question is of, the port that it is asked on, and its context
abbrev pub Essence : Type 0
Essence = ℕ × ((ℕ × Port) × ℕ)

-- what a question is of, whatever its chain
abbrev pub essence : Asked × ℕ → Essence
essence x = (x.0.stream, ((x.0.generation, x.0.port), x.1))

-- the same of each question
abbrev pub essences : Questions → List (ℕ × Essence)
essences q = map (λ e. (e.0, essence e.1)) q

-- the first open of a question, and the opens with that one gone
abbrev pub first_waiting : ℕ → List (ℕ × Waiting) → Option (ℕ × Waiting)
first_waiting n xs = find (is_of n) xs

-- the opens without the first one of this question
abbrev pub without_first : ℕ → List (ℕ × Waiting) → List (ℕ × Waiting)
without_first n [] = []
without_first n (x ∷ xs) = if is_of n x then xs else x ∷ without_first n xs

-- an open that has seen one rescan more
abbrev pub once_more : Waiting → Waiting
once_more w = record { open_id = w.open_id; stream = w.stream; least = w.least; rescans = w.rescans + 1 }

-- the first open of a question waits for another one, and has seen one rescan more
abbrev pub moved_first : ℕ → ℕ → List (ℕ × Waiting) → List (ℕ × Waiting)
moved_first old new [] = []
moved_first old new (x ∷ xs) = if is_of old x then (new, once_more x.1) ∷ xs else x ∷ moved_first old new xs

-- from the first open of one question on, none is of the other
abbrev pub after_first : ℕ → List (ℕ × Waiting) → List (ℕ × Waiting)
after_first n [] = []
after_first n (x ∷ xs) = if is_of n x then xs else after_first n xs

-- behind the first open of the old question, none waits for the new one
abbrev pub IsBehind : ℕ → ℕ → List (ℕ × Waiting) → Type 0
IsBehind old new xs = of new (after_first old xs) ≡ []

-- an open saw as many rescans as it may
abbrev pub is_spent : ℕ × Waiting → Bool
is_spent x = nat_le 8 x.1.rescans

-- it waits for this question, with a rescan left
abbrev pub is_left : ℕ → ℕ × Waiting → Bool
is_left n x = is_of n x && not (is_spent x)
