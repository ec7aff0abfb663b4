-- What a service says is read as itself.
use Rattle.std.proofs.Common.{ℕ, suc, ◌≡◌, ◌+◌, ◌<◌, ◌≤◌, ◌^◌, ◌&&◌, List, [], ◌∷◌, ◌++◌, length, take, drop, Bool, true, false, cond, not, inl, inr, nat_eq, nat_le, nat_lt, Result, Ok, Err, refl, sym, ◌∙◌, ap, subst, arith, append_assoc}
use Rattle.std.specs.Prelude.{Option, Some, None, slice_index}
use Rattle.std.specs.Int.{w32, from_be_bytes}
use Rattle.std.proofs.lemmas.Nat.{from_be_bytes-to_be_bytes_4, from_be_bytes-to_be_bytes_8}
use Rattle.std.proofs.lemmas.List.{get_or-take, length-take-le, take-append-drop, take-append-le, take_all}
use Rattle.std.proofs.lemmas.Bool.{and_parts, cases_lt, eqb-true, le-ltb, leb-true, lt-ltb, ltb-true}
use Rattle.std.proofs.lemmas.Bool.Decides.{nat_tests}
use Rattle.av_base.specs.Refused.{map_ok}
use Rattle.av_parts.specs.declared.sizes.TheConstants.{HELLO_SIZE, INFECTED_SIZE, MAX_INDEX, WORD_FRONT}
use Rattle.av_parts.specs.declared.fault.WordFault.{WordFault}
use Rattle.av_parts.specs.declared.fault.WordFault.TheVariants as fault
use Rattle.av_parts.specs.declared.word.Unjudged.{Unjudged}
use Rattle.av_parts.specs.declared.word.Unjudged.TheVariants.{Full, Newer}
use Rattle.av_parts.specs.declared.word.Word.{Word}
use Rattle.av_parts.specs.declared.word.Word.TheVariants as word
use Rattle.av_parts.specs.declared.word.Said.{Said}
use Rattle.av_parts.specs.declared.word.Said.TheVariants.{Hello, Of}
use Rattle.av_parts.specs.Listening.{after}
use Rattle.av_parts.specs.ReadBack.{KeepsFewWords, WordsAreReadBack, greeted}
use Rattle.av_parts.specs.Spelling.{field4, field8, number4, number8, number_of}
use Rattle.av_parts.specs.WordsHeard.{Attending, by_said, clean_of, heard_of, hello_of, infected_of, lacks_of, said_as, said_of, step, unless_broken, verdict_of}

-- ---- what a frame says, by its facts

early : (g : Bool) (bytes : List ℕ) → length bytes < 4 → said_of g bytes ≡ Ok None
unfolding said_of
early g bytes short = let a : nat_lt (length bytes) 4 ≡ true = lt-ltb _ _ short in rw a refl

-- the kind that comes next
abbrev wanted : Bool → ℕ
wanted g = cond g 21 20

some_kind : (g : Bool) → (not (nat_eq (wanted g) 20) && not (nat_eq (wanted g) 21)) ≡ false
some_kind true = refl
some_kind false = refl

own : (n : ℕ) → nat_eq n n ≡ true
own n = grind (arith, nat_tests)

-- the first bytes are a length that a word can have, and then the kind that comes next
record IsFront (bytes : List ℕ) (size : ℕ) (g : Bool) : Type 0 where
  long : 4 ≤ length bytes
  size_is : number4 bytes 0 ≡ size
  fits : (nat_le HELLO_SIZE size && nat_le size INFECTED_SIZE) ≡ true
  byte_is : 5 ≤ length bytes → slice_index bytes 4 ≡ wanted g

by_kind : (g : Bool) (bytes : List ℕ) (size : ℕ) → IsFront bytes size g → 5 ≤ length bytes → said_of g bytes ≡ cond (nat_lt (length bytes) (4 + size)) (Ok None) (map_ok Some (said_as g (drop 4 bytes)))
unfolding said_of
by_kind g bytes size is long =
    let a : nat_lt (length bytes) 4 ≡ false = le-ltb _ _ is.long in
    let b : nat_eq (length bytes) 4 ≡ false = grind (arith, nat_tests, long) in
    rw (a, is.size_is, is.fits, b, is.byte_is long, some_kind g, own (wanted g)) refl

bare : (g : Bool) (bytes : List ℕ) (size : ℕ) → IsFront bytes size g → length bytes ≡ 4 → said_of g bytes ≡ Ok None
unfolding said_of
bare g bytes size is four =
    let a : nat_lt (length bytes) 4 ≡ false = le-ltb _ _ is.long in
    let b : nat_eq (length bytes) 4 ≡ true = grind (arith, nat_tests, four) in
    rw (a, is.size_is, is.fits, b) refl

waits : (g : Bool) (all : List ℕ) (size n : ℕ) → n < length all → length all ≡ 4 + size → (4 ≤ n → IsFront (take n all) size g) → said_of g (take n all) ≡ Ok None
waits g all size n few whole facts =
    let len : length (take n all) ≡ n = length-take-le n all (omega (arith, few)) in
    elim (cases_lt n 4) [
      | inl short ↦ early g (take n all) (omega (arith, len, short))
      | inr four ↦
          elim (cases_lt n 5) [
            | inl only ↦ bare g (take n all) size (facts four) (omega (arith, len, four, only))
            | inr five ↦
                let part : nat_lt (length (take n all)) (4 + size) ≡ true = lt-ltb _ _ (omega (arith, len, few, whole)) in
                by_kind g (take n all) size (facts four) (omega (arith, len, five)) ∙ ap (λ b. cond b (Ok None) (map_ok Some (said_as g (drop 4 (take n all))))) part
          ]
    ]

told : (g : Bool) (all : List ℕ) (size : ℕ) (s : Said) → length all ≡ 4 + size → 5 ≤ length all → IsFront all size g → said_as g (drop 4 all) ≡ Ok s → said_of g all ≡ Ok (Some s)
told g all size s whole five facts is =
    let part : nat_lt (length all) (4 + size) ≡ false = le-ltb _ _ (omega (arith, whole)) in
    by_kind g all size facts five ∙ ap (λ b. cond b (Ok None) (map_ok Some (said_as g (drop 4 all)))) part ∙ ap (map_ok Some) is

-- ---- the bytes of a frame one after another

abbrev at_front : Bool → List ℕ → Attending
at_front g bytes = record { front = bytes; greeted = g; fault = None }

waits_on : (g : Bool) (x : ℕ) (bytes : List ℕ) → said_of g (bytes ++ x ∷ []) ≡ Ok None → step x (at_front g bytes) ≡ (at_front g (bytes ++ x ∷ []), [])
unfolding step
waits_on g x bytes is = ap (by_said (bytes ++ x ∷ []) (at_front g bytes)) is

tells : (g : Bool) (x : ℕ) (bytes : List ℕ) (s : Said) → said_of g (bytes ++ x ∷ []) ≡ Ok (Some s) → step x (at_front g bytes) ≡ (greeted, s ∷ [])
unfolding step
tells g x bytes s is = ap (by_said (bytes ++ x ∷ []) (at_front g bytes)) is

reads : (g : Bool) (xs bytes : List ℕ) (s : Said) → 1 ≤ length xs → ((k : ℕ) → 1 ≤ k → k < length xs → said_of g (bytes ++ take k xs) ≡ Ok None) → said_of g (bytes ++ xs) ≡ Ok (Some s)
    → heard_of xs (at_front g bytes) ≡ (greeted, s ∷ [])
reads g [] bytes s some wait tell = absurd (omega (arith, some))
reads g (x ∷ []) bytes s some wait tell = ap (λ t. after t.1 (heard_of [] t.0)) (tells g x bytes s tell)
reads g (x ∷ y ∷ ys) bytes s some wait tell =
    let next = bytes ++ x ∷ [] in
    let others = y ∷ ys in
    ap (λ t. after t.1 (heard_of others t.0)) (waits_on g x bytes (wait 1 (omega arith) (omega arith)))
    ∙ ap (after []) (reads g (y ∷ ys) next s (omega arith)
    (λ k one few. ap (said_of g) (append_assoc bytes (x ∷ []) (take k others)) ∙ wait (suc k) (omega arith) (omega (arith, few)))
    (ap (said_of g) (append_assoc bytes (x ∷ []) others) ∙ tell))

abbrev frame : ℕ → Bool → List ℕ → List ℕ
frame size g rest = field4 size ++ wanted g ∷ rest

taken_front : (g : Bool) (size : ℕ) (rest : List ℕ) (n : ℕ) → size < 2 ^ 32 → (nat_le HELLO_SIZE size && nat_le size INFECTED_SIZE) ≡ true
    → 4 ≤ n → n ≤ length (frame size g rest) → IsFront (take n (frame size g rest)) size g
unfolding field4
taken_front g size rest n small fits long few =
    let all = frame size g rest in
    let len : length (take n all) ≡ n = length-take-le n all few in
    let first : take 4 (take n all) ≡ take 4 all = sym (take-append-le 4 (take n all) (drop n all) (omega (arith, len, long))) ∙ ap (take 4) (take-append-drop n all) in
    record {
      long = omega (arith, len, long);
      size_is = ap (from_be_bytes w32) first ∙ from_be_bytes-to_be_bytes_4 size small;
      fits = fits;
      byte_is = λ five. get_or-take n all 4 0 (omega (arith, len, five));
    }

frame_read : (g : Bool) (size : ℕ) (rest : List ℕ) (s : Said) → size < 2 ^ 32 → (nat_le HELLO_SIZE size && nat_le size INFECTED_SIZE) ≡ true
    → length (frame size g rest) ≡ 4 + size → 5 ≤ length (frame size g rest) → said_as g (wanted g ∷ rest) ≡ Ok s
    → heard_of (frame size g rest) (at_front g []) ≡ (greeted, s ∷ [])
unfolding field4
frame_read g size rest s small fits len long is =
    let all = frame size g rest in
    let facts : (n : ℕ) → 4 ≤ n → n ≤ length all → IsFront (take n all) size g = λ n four few. taken_front g size rest n small fits four few in
    let whole : IsFront all size g = subst (λ b. IsFront b size g) (take_all (length all) all (omega arith)) (facts (length all) (omega (arith, long)) (omega arith)) in
    reads g all [] s (omega (arith, long))
    (λ n one few. waits g all size n few len (λ four. facts n four (omega (arith, few))))
    (told g all size s len long whole is)

-- ---- each of what a service says

hello_read : (version : ℕ) → 1 ≤ version → version < 2 ^ 64 → hello_of (20 ∷ 1 ∷ field8 version) ≡ Ok (Hello version)
unfolding hello_of field8
hello_read version some fits =
    let v : number8 (20 ∷ 1 ∷ field8 version) 2 ≡ version = from_be_bytes-to_be_bytes_8 version fits in
    let known : nat_eq version 0 ≡ false = grind (arith, nat_tests, some) in
    rw (v, known) refl

clean_read : (n version count : ℕ) → 1 ≤ n → n < 2 ^ 64 → 1 ≤ version → version < 2 ^ 64 → count < 2 ^ 64
    → verdict_of (21 ∷ (field8 n ++ 0 ∷ (field8 version ++ field8 count))) ≡ Ok (word.Clean n version count)
unfolding verdict_of clean_of field8
clean_read n version count some fits v_some v_fits c_fits =
    let body = 21 ∷ (field8 n ++ 0 ∷ (field8 version ++ field8 count)) in
    let a : number8 body 1 ≡ n = from_be_bytes-to_be_bytes_8 n fits in
    let v : number8 body 10 ≡ version = from_be_bytes-to_be_bytes_8 version v_fits in
    let c : number8 body 18 ≡ count = from_be_bytes-to_be_bytes_8 count c_fits in
    let a_known : nat_eq n 0 ≡ false = grind (arith, nat_tests, some) in
    let v_known : nat_eq version 0 ≡ false = grind (arith, nat_tests, v_some) in
    rw (a, v, c, a_known, v_known) refl

infected_read : (n version index end_at : ℕ) → 1 ≤ n → n < 2 ^ 64 → 1 ≤ version → version < 2 ^ 64 → index ≤ MAX_INDEX → 1 ≤ end_at → end_at < 2 ^ 64
    → verdict_of (21 ∷ (field8 n ++ 1 ∷ (field8 version ++ (field4 index ++ field8 end_at)))) ≡ Ok (word.Infected n version index end_at)
unfolding verdict_of infected_of field4 field8
infected_read n version index end_at some fits v_some v_fits i_fits e_some e_fits =
    let body = 21 ∷ (field8 n ++ 1 ∷ (field8 version ++ (field4 index ++ field8 end_at))) in
    let a : number8 body 1 ≡ n = from_be_bytes-to_be_bytes_8 n fits in
    let v : number8 body 10 ≡ version = from_be_bytes-to_be_bytes_8 version v_fits in
    let i : number4 body 18 ≡ index = from_be_bytes-to_be_bytes_4 index (omega (arith, i_fits)) in
    let e : number8 body 22 ≡ end_at = from_be_bytes-to_be_bytes_8 end_at e_fits in
    let a_known : nat_eq n 0 ≡ false = grind (arith, nat_tests, some) in
    let v_known : nat_eq version 0 ≡ false = grind (arith, nat_tests, v_some) in
    let i_known : nat_lt MAX_INDEX index ≡ false = le-ltb _ _ i_fits in
    let e_known : nat_eq end_at 0 ≡ false = grind (arith, nat_tests, e_some) in
    rw (a, v, i, e, a_known, v_known, i_known, e_known) refl

lacks_read : (n : ℕ) (why : Unjudged) → 1 ≤ n → n < 2 ^ 64 → verdict_of (21 ∷ (field8 n ++ 2 ∷ number_of why ∷ [])) ≡ Ok (word.None n why)
unfolding verdict_of lacks_of field8
lacks_read n Full some fits =
    let a : number8 (21 ∷ (field8 n ++ 2 ∷ 1 ∷ [])) 1 ≡ n = from_be_bytes-to_be_bytes_8 n fits in
    let known : nat_eq n 0 ≡ false = grind (arith, nat_tests, some) in
    rw (a, known) refl
lacks_read n Newer some fits =
    let a : number8 (21 ∷ (field8 n ++ 2 ∷ 2 ∷ [])) 1 ≡ n = from_be_bytes-to_be_bytes_8 n fits in
    let known : nat_eq n 0 ≡ false = grind (arith, nat_tests, some) in
    rw (a, known) refl

said_word : (body : List ℕ) (w : Word) → verdict_of body ≡ Ok w → said_as true body ≡ Ok (Of w)
unfolding said_as
said_word body w is = ap (map_ok Of) is

said_hello : (version : ℕ) → hello_of (20 ∷ 1 ∷ field8 version) ≡ Ok (Hello version) → said_as false (20 ∷ 1 ∷ field8 version) ≡ Ok (Hello version)
unfolding said_as
said_hello version is = is

pub words_are_read_back : WordsAreReadBack
unfolding field4 field8
words_are_read_back (Hello version) fits =
    frame_read false 10 (1 ∷ field8 version) (Hello version) (omega arith) refl refl (omega arith) (said_hello version (hello_read version fits.0 fits.1))
words_are_read_back (Of (word.Clean n version count)) fits =
    frame_read true 26 (field8 n ++ 0 ∷ (field8 version ++ field8 count)) (Of (word.Clean n version count)) (omega arith) refl refl (omega arith)
    (said_word _ _ (clean_read n version count fits.0 fits.1 fits.2.0 fits.2.1 fits.3))
words_are_read_back (Of (word.Infected n version index end_at)) fits =
    frame_read true 30 (field8 n ++ 1 ∷ (field8 version ++ (field4 index ++ field8 end_at))) (Of (word.Infected n version index end_at)) (omega arith) refl refl (omega arith)
    (said_word _ _ (infected_read n version index end_at fits.0 fits.1 fits.2.0 fits.2.1 fits.3 fits.4 fits.5))
words_are_read_back (Of (word.None n why)) fits =
    frame_read true 11 (field8 n ++ 2 ∷ number_of why ∷ []) (Of (word.None n why)) (omega arith) refl refl (omega arith)
    (said_word _ _ (lacks_read n why fits.0 fits.1))

-- ---- little is kept

no_fault : (f : WordFault) → ◌≡◌ {A = Result (Option Said) WordFault} (Err f) (Ok None) → ⊥
no_fault f e = absurd cc

told_something : (r : Result Said WordFault) → map_ok Some r ≡ Ok None → ⊥
told_something (Ok s) e = absurd cc
told_something (Err f) e = absurd cc

said_short : (g : Bool) (bytes : List ℕ) → said_of g bytes ≡ Ok None → length bytes < WORD_FRONT
unfolding said_of
said_short g bytes is =
    let size = number4 bytes 0 in
    let byte = slice_index bytes 4 in
    let body : Result (Option Said) WordFault = map_ok Some (said_as g (drop 4 bytes)) in
    let last : Result (Option Said) WordFault = cond (nat_lt (length bytes) (4 + size)) (Ok None) body in
    let timed : Result (Option Said) WordFault = cond (not (nat_eq byte (wanted g))) (Err fault.Greeting) last in
    let kinds : Result (Option Said) WordFault = cond (not (nat_eq byte 20) && not (nat_eq byte 21)) (Err fault.Kind) timed in
    (elim (nat_lt (length bytes) 4) as (λ b. nat_lt (length bytes) 4 ≡ b → cond b (Ok None) (cond (not (nat_le HELLO_SIZE size && nat_le size INFECTED_SIZE)) (Err fault.Length) (cond (nat_eq (length bytes) 4) (Ok None) kinds)) ≡ Ok None → length bytes < WORD_FRONT) [
      | true ↦ λ short e. omega (arith, ltb-true _ _ short)
      | false ↦ λ long.
          (elim (nat_le HELLO_SIZE size && nat_le size INFECTED_SIZE) as (λ b. (nat_le HELLO_SIZE size && nat_le size INFECTED_SIZE) ≡ b → cond (not b) (Err fault.Length) (cond (nat_eq (length bytes) 4) (Ok None) kinds) ≡ Ok None → length bytes < WORD_FRONT) [
            | false ↦ λ f e. absurd (no_fault fault.Length e)
            | true ↦ λ fits.
                (elim (nat_eq (length bytes) 4) as (λ b. nat_eq (length bytes) 4 ≡ b → cond b (Ok None) kinds ≡ Ok None → length bytes < WORD_FRONT) [
                  | true ↦ λ four e. omega (arith, eqb-true _ _ four)
                  | false ↦ λ more.
                      elim (not (nat_eq byte 20) && not (nat_eq byte 21)) as (λ b. cond b (Err fault.Kind) timed ≡ Ok None → length bytes < WORD_FRONT) [
                        | true ↦ λ e. absurd (no_fault fault.Kind e)
                        | false ↦
                            elim (nat_eq byte (wanted g)) as (λ b. cond (not b) (Err fault.Greeting) last ≡ Ok None → length bytes < WORD_FRONT) [
                              | false ↦ λ e. absurd (no_fault fault.Greeting e)
                              | true ↦
                                  (elim (nat_lt (length bytes) (4 + size)) as (λ b. nat_lt (length bytes) (4 + size) ≡ b → cond b (Ok None) body ≡ Ok None → length bytes < WORD_FRONT) [
                                    | true ↦ λ short e. omega (arith, ltb-true _ _ short, leb-true size INFECTED_SIZE (and_parts (nat_le HELLO_SIZE size) (nat_le size INFECTED_SIZE) fits).1)
                                    | false ↦ λ whole e. absurd (told_something (said_as g (drop 4 bytes)) e)
                                  ]) refl
                            ]
                      ]
                ]) refl
          ]) refl
    ]) refl is

abbrev IsShort : Attending × List Said → Type 0
IsShort turn = let r = turn.0 in length r.front < WORD_FRONT

step_short : (b : ℕ) (r : Attending) → length r.front < WORD_FRONT → IsShort (step b r)
unfolding step
step_short b r few =
    let bytes = r.front ++ b ∷ [] in
    elim r.fault as (λ f. IsShort (unless_broken b r f)) [
      | Some f ↦ few
      | None ↦ (elim (said_of r.greeted bytes) as (λ o. said_of r.greeted bytes ≡ o → IsShort (by_said bytes r o)) [
        | Ok None ↦ λ is. said_short r.greeted bytes is
        | Ok (Some s) ↦ λ is. omega arith
        | Err f ↦ λ is. omega arith
      ]) refl
    ]

pub keeps_few_words : KeepsFewWords
keeps_few_words [] r few = few
keeps_few_words (b ∷ bytes) r few = keeps_few_words bytes (step b r).0 (step_short b r few)
