-- What the front of bytes tells of a frame.
use Rattle.std.proofs.Common.{ℕ, ◌≡◌, ◌+◌, ◌≤◌, ◌<◌, ◌^◌, List, ◌++◌, length, Bool, true, false, cond, not, nat_eq, nat_lt, refl, sym, ◌∙◌, ap, arith, length-append}
use Rattle.std.specs.Prelude.{slice_index}
use Rattle.std.specs.Int.{w32, from_be_bytes}
use Rattle.std.proofs.lemmas.Nat.{from_be_bytes-to_be_bytes_4}
use Rattle.std.proofs.lemmas.List.{take-append-le, get_or_append_left}
use Rattle.std.proofs.lemmas.Bool.{ltb-false, ltb-true, eqb-true, le-ltb}
use Rattle.std.proofs.lemmas.Bool.Decides.{nat_tests}
use Rattle.av_asks.specs.declared.head.Side.{Side}
use Rattle.av_asks.specs.declared.head.Side.TheVariants.{Asks}
use Rattle.av_asks.specs.declared.head.Head.{Head}
use Rattle.av_asks.specs.declared.head.Head.TheVariants as head
use Rattle.av_asks.specs.declared.sizes.TheConstants.{MAX_ASK}
use Rattle.av_asks.specs.Spelling.{field4, framed, number4}
use Rattle.av_asks.specs.Head.{fits_size, fits_kind, head_by, head_of}

-- ---- the tests one after another

abbrev tested : (short fits bare kind part : Bool) → ℕ → Head
tested short fits bare kind part size =
    cond short head.Waits (cond (not fits) head.Length (cond bare head.Waits (cond (not kind) head.Kind (cond part head.Waits (head.Whole size)))))

tested_whole : (short fits bare kind part : Bool) (size n : ℕ) → tested short fits bare kind part size ≡ head.Whole n → (short ≡ false) × (fits ≡ true) × (bare ≡ false) × (kind ≡ true) × (part ≡ false) × (size ≡ n)
tested_whole true fits bare kind part size n e = absurd cc
tested_whole false false bare kind part size n e = absurd cc
tested_whole false true true kind part size n e = absurd cc
tested_whole false true false false part size n e = absurd cc
tested_whole false true false true true size n e = absurd cc
tested_whole false true false true false size n e = (refl, refl, refl, refl, refl, cc)

tested_length : (short fits bare kind part : Bool) (size : ℕ) → tested short fits bare kind part size ≡ head.Length → (short ≡ false) × (fits ≡ false)
tested_length true fits bare kind part size e = absurd cc
tested_length false false bare kind part size e = (refl, refl)
tested_length false true true kind part size e = absurd cc
tested_length false true false false part size e = absurd cc
tested_length false true false true true size e = absurd cc
tested_length false true false true false size e = absurd cc

tested_kind : (short fits bare kind part : Bool) (size : ℕ) → tested short fits bare kind part size ≡ head.Kind → (short ≡ false) × (fits ≡ true) × (bare ≡ false) × (kind ≡ false)
tested_kind true fits bare kind part size e = absurd cc
tested_kind false false bare kind part size e = absurd cc
tested_kind false true true kind part size e = absurd cc
tested_kind false true false false part size e = (refl, refl, refl, refl)
tested_kind false true false true true size e = absurd cc
tested_kind false true false true false size e = absurd cc

at_least_5 : (len : ℕ) → nat_lt len 4 ≡ false → nat_eq len 4 ≡ false → 5 ≤ len
at_least_5 len short bare = grind (arith, nat_tests)

not_bare : (len : ℕ) → 5 ≤ len → nat_eq len 4 ≡ false
not_bare len long = grind (arith, nat_tests)

-- ---- a head by its numbers

whole_by : (side : Side) (len size kind : ℕ) → fits_size side size ≡ true → fits_kind side kind ≡ true → 5 ≤ len → 4 + size ≤ len → head_by side len size kind ≡ head.Whole size
whole_by side len size kind fits known long whole =
    let a : nat_lt len 4 ≡ false = le-ltb _ _ (omega arith) in
    let b = not_bare len long in
    let c : nat_lt len (4 + size) ≡ false = le-ltb _ _ whole in
    rw (a, fits, b, known, c) refl

length_by : (side : Side) (len size kind : ℕ) → 4 ≤ len → fits_size side size ≡ false → head_by side len size kind ≡ head.Length
length_by side len size kind long fits =
    let a : nat_lt len 4 ≡ false = le-ltb _ _ long in
    rw (a, fits) refl

kind_by : (side : Side) (len size kind : ℕ) → 5 ≤ len → fits_size side size ≡ true → fits_kind side kind ≡ false → head_by side len size kind ≡ head.Kind
kind_by side len size kind long fits unknown =
    let a : nat_lt len 4 ≡ false = le-ltb _ _ (omega arith) in
    let b = not_bare len long in
    rw (a, fits, b, unknown) refl

-- ---- what a whole frame says of its bytes

pub whole_is : (side : Side) (rest : List ℕ) (size : ℕ) → head_of side rest ≡ head.Whole size → (fits_size side size ≡ true) × (fits_kind side (slice_index rest 4) ≡ true) × (5 ≤ length rest) × (4 + size ≤ length rest) × (number4 rest ≡ size)
unfolding head_of
whole_is side rest size e =
    let t = tested_whole (nat_lt (length rest) 4) (fits_size side (number4 rest)) (nat_eq (length rest) 4) (fits_kind side (slice_index rest 4)) (nat_lt (length rest) (4 + number4 rest)) (number4 rest) size e in
    let long : 4 + number4 rest ≤ length rest = ltb-false _ _ t.4 in
    (ap (fits_size side) (sym t.5) ∙ t.1, t.3, at_least_5 _ t.0 t.2, omega (arith, long, t.5), t.5)

-- ---- more bytes change nothing once something is told

number4-more : (a b : List ℕ) → 4 ≤ length a → number4 (a ++ b) ≡ number4 a
number4-more a b long = ap (from_be_bytes w32) (take-append-le 4 a b long)

byte4-more : (a b : List ℕ) → 5 ≤ length a → slice_index (a ++ b) 4 ≡ slice_index a 4
byte4-more a b long = get_or_append_left a b 0 4 (omega arith)

pub whole-more : (side : Side) (a b : List ℕ) (size : ℕ) → head_of side a ≡ head.Whole size → head_of side (a ++ b) ≡ head.Whole size
unfolding head_of
whole-more side a b size e =
    let is = whole_is side a size (unfold head_of in e) in
    let len = length-append a b in
    let same : number4 (a ++ b) ≡ size = number4-more a b (omega (arith, is.2)) ∙ is.4 in
    ap (λ n. head_by side (length (a ++ b)) n (slice_index (a ++ b) 4)) same
    ∙ ap (head_by side (length (a ++ b)) size) (byte4-more a b is.2)
    ∙ whole_by side _ size _ is.0 is.1 (omega (arith, len, is.2)) (omega (arith, len, is.3))

pub length-more : (side : Side) (a b : List ℕ) → head_of side a ≡ head.Length → head_of side (a ++ b) ≡ head.Length
unfolding head_of
length-more side a b e =
    let t = tested_length (nat_lt (length a) 4) (fits_size side (number4 a)) (nat_eq (length a) 4) (fits_kind side (slice_index a 4)) (nat_lt (length a) (4 + number4 a)) (number4 a) e in
    let long : 4 ≤ length a = ltb-false _ _ t.0 in
    length_by side _ _ _ (omega (arith, long, length-append a b)) (ap (fits_size side) (number4-more a b long) ∙ t.1)

pub kind-more : (side : Side) (a b : List ℕ) → head_of side a ≡ head.Kind → head_of side (a ++ b) ≡ head.Kind
unfolding head_of
kind-more side a b e =
    let t = tested_kind (nat_lt (length a) 4) (fits_size side (number4 a)) (nat_eq (length a) 4) (fits_kind side (slice_index a 4)) (nat_lt (length a) (4 + number4 a)) (number4 a) e in
    let long = at_least_5 _ t.0 t.2 in
    kind_by side _ _ _ (omega (arith, long, length-append a b)) (ap (fits_size side) (number4-more a b (omega (arith, long))) ∙ t.1) (ap (fits_kind side) (byte4-more a b long) ∙ t.3)

-- ---- the head of a frame that was spelled

pub framed_head : (side : Side) (body more : List ℕ) → 1 ≤ length body → length body < 2 ^ 32 → fits_size side (length body) ≡ true → fits_kind side (slice_index body 0) ≡ true → head_of side (framed body ++ more) ≡ head.Whole (length body)
unfolding head_of field4
framed_head side body more some small fits known =
    let all = framed body ++ more in
    let len : length all ≡ 4 + length body + length more = omega (arith, length-append body more) in
    let same : number4 all ≡ length body = from_be_bytes-to_be_bytes_4 (length body) small in
    let first : slice_index all 4 ≡ slice_index body 0 = get_or_append_left body more 0 0 (omega (arith, some)) in
    ap (λ n. head_by side (length all) n (slice_index all 4)) same
    ∙ ap (head_by side (length all) (length body)) first
    ∙ whole_by side _ _ _ fits known (omega (arith, len, some)) (omega (arith, len))

-- ---- less than a frame of an ask is there

tested_waits : (short fits bare kind part : Bool) (len size most : ℕ) → short ≡ nat_lt len 4 → bare ≡ nat_eq len 4 → part ≡ nat_lt len (4 + size) → (fits ≡ true → size ≤ most) → 1 ≤ most → tested short fits bare kind part size ≡ head.Waits → len < 4 + most
tested_waits true fits bare kind part len size most a b c d m e = omega (arith, ltb-true len 4 (sym a))
tested_waits false false bare kind part len size most a b c d m e = absurd cc
tested_waits false true true kind part len size most a b c d m e = omega (arith, eqb-true len 4 (sym b))
tested_waits false true false false part len size most a b c d m e = absurd cc
tested_waits false true false true true len size most a b c d m e = omega (arith, ltb-true len (4 + size) (sym c), d refl)
tested_waits false true false true false len size most a b c d m e = absurd cc

ask_size : (size : ℕ) → fits_size Asks size ≡ true → size ≤ MAX_ASK
ask_size size e = grind (arith, nat_tests)

pub waits_short : (rest : List ℕ) → head_of Asks rest ≡ head.Waits → length rest < 4 + MAX_ASK
unfolding head_of
waits_short rest e =
    tested_waits (nat_lt (length rest) 4) (fits_size Asks (number4 rest)) (nat_eq (length rest) 4) (fits_kind Asks (slice_index rest 4)) (nat_lt (length rest) (4 + number4 rest)) (length rest) (number4 rest) MAX_ASK refl refl refl (ask_size _) (omega arith) e
