use Rattle.std.proofs.Common.{ℕ, ◌≡◌, ◌≤◌, ◌<◌, ◌+◌, ◌-◌, ◌/◌, ◌⊎◌, inl, inr, zero, suc, Bool, true, false, cond, ◌&&◌, ◌||◌, nat_le, List, [], ◌∷◌, ◌++◌, length, take, drop, map, Option, None, Some, Result, Ok, Err, refl, sym, ap, arith, ◌∙◌, add-one, length-append}
use Rattle.std.proofs.lemmas.List.{map-append}
use Rattle.std.specs.List.{list_any}
use Rattle.std.specs.Str.{bytes_eq}
use Rattle.hex.specs.Hex.{decode_of}
use Rattle.hex.specs.declared.error.FromHexError.{FromHexError}
use Rattle.av_base.specs.Line.{pieces_of}
use Rattle.av_sigset.specs.Judge.{first_of, first_word, is_name, signature_of, signature_bound, signature_in, signature_under, span_in, signatures_from, signatures_with, bad_line}
use Rattle.av_sigset.specs.Line.{AreWordsOf, JoinsAs}
use Rattle.av_sigset.specs.Set.{patterns_of, byte_count, widest}
use Rattle.av_sigset.specs.declared.format.Format.{Format}
use Rattle.av_sigset.specs.declared.format.Format.TheVariants.{One, Two}
use Rattle.av_sigset.specs.declared.signature.Span.{Span}
use Rattle.av_sigset.specs.declared.fault.SetFaultKind.{SetFaultKind}
use Rattle.av_sigset.specs.declared.fault.SetFaultKind.TheVariants.{Duplicate, TooMany, Unended}
use Rattle.av_sigset.specs.declared.signature.Signature.{Signature}
use Rattle.av_sigset.proofs.JoinLemmas.{repeats, full, joins, bytes_push}
use Rattle.av_sigset.proofs.ReadLemmas.{line_refused, line_joined, line_unended, line_none}

-- an element of the images is the image of one
pub list_any-map : {A B : Type 0} (p : B → Bool) (f : A → B) (xs : List A) → list_any p (map f xs) ≡ list_any (λ x. p (f x)) xs
list_any-map p f [] = refl
list_any-map p f (x ∷ xs) = ap (λ b. p (f x) || b) (list_any-map p f xs)

-- where the first is none, one of the later is
pub any_later : {A : Type 0} (p : A → Bool) (n i : ℕ) (xs : List A) (y : A) (ys : List A) → i < n → xs ≡ y ∷ ys → p y ≡ false → list_any p (take (n - (i + 1)) ys) ≡ list_any p (take (n - i) xs)
any_later p n i xs y ys lt e other =
    let left : n - i ≡ suc (n - (i + 1)) = omega arith in
    rw (e, left, other) refl

-- one more of a list
one_more : {A : Type 0} (n : ℕ) (xs : List A) (y : A) (ys : List A) → drop n xs ≡ y ∷ ys → (take (suc n) xs ≡ take n xs ++ y ∷ []) × (drop (suc n) xs ≡ ys)
one_more zero [] y ys e = absurd cc
one_more zero (x ∷ xs) y ys e = (let s : x ≡ y = cc in ap (λ z. z ∷ []) s, cc)
one_more (suc n) [] y ys e = absurd cc
one_more (suc n) (x ∷ xs) y ys e = let rest = one_more n xs y ys e in (ap (λ zs. x ∷ zs) rest.0, rest.1)

-- a signature has the name that begins its line
bound_name : (name bytes : List ℕ) (span : Option Span) (s : Signature) → signature_bound name bytes span ≡ Ok s → name ≡ s.name
bound_name name bytes None s h = absurd cc
bound_name name bytes (Some span) s h = let same : record { name = name; pattern = record { bytes = bytes; span = span } } ≡ s = cc in ap (λ (t : Signature). t.name) same

under_name : (name : List ℕ) (r : Result (List ℕ) FromHexError) (span : Option Span) (s : Signature) → signature_under name r span ≡ Ok s → name ≡ s.name
under_name name (Err e) span s h = absurd cc
under_name name (Ok bytes) span s h =
    (elim (nat_le 1 (length bytes) && nat_le (length bytes) 64) as (λ b. cond b (signature_bound name bytes span) (Err Rattle.av_sigset.specs.declared.fault.SetFaultKind.TheVariants.Length) ≡ Ok s → name ≡ s.name) [
      | true ↦ λ k. bound_name name bytes span s k
      | false ↦ λ k. absurd cc
    ]) h

in_name : (format : Format) (name digits : List ℕ) (words : List (List ℕ)) (s : Signature) → signature_in format name digits words ≡ Ok s → name ≡ s.name
in_name One name digits [] s h = under_name name (decode_of digits) (Some widest) s h
in_name One name digits (word ∷ words) s h = absurd cc
in_name Two name digits words s h = under_name name (decode_of digits) (span_in words) s h

name_first : (format : Format) (ps : List (List ℕ)) (s : Signature) → signature_of format ps ≡ Ok s → first_of ps ≡ s.name
name_first format [] s h = absurd cc
name_first format (name ∷ []) s h = absurd cc
name_first format (name ∷ digits ∷ words) s h =
    (elim (is_name name) as (λ b. cond b (signature_in format name digits words) (Err Rattle.av_sigset.specs.declared.fault.SetFaultKind.TheVariants.Name) ≡ Ok s → name ≡ s.name) [
      | true ↦ λ k. in_name format name digits words s k
      | false ↦ λ k. absurd cc
    ]) h

-- so many lines are judged, whose signatures have so many bytes, and the others are left
pub record IsJudged (format : Format) (lines rest : List ℕ) (count total : ℕ) : Type 0 where
  pub before : List Signature
  pub whole : signatures_from format before (pieces_of 10 rest) ≡ signatures_from format [] (pieces_of 10 lines)
  pub long : length before ≡ count
  pub bytes : byte_count (patterns_of before) ≡ total
  pub names : map (λ (s : Signature). s.name) before ≡ map first_word (take count (pieces_of 10 lines))
  pub left : drop count (pieces_of 10 lines) ≡ pieces_of 10 rest
  pub few : count ≤ 1024
  pub within : total ≤ 16384

-- the names that stood before are the words that begin the lines
names_before : (format : Format) (lines rest name : List ℕ) (count total : ℕ) (j : IsJudged format lines rest count total)
    → list_any (λ line. bytes_eq (first_word line) name) (take count (pieces_of 10 lines)) ≡ list_any (λ s. bytes_eq s.name name) j.before
names_before format lines rest name count total j =
    sym (list_any-map (λ n. bytes_eq n name) first_word (take count (pieces_of 10 lines))) ∙ ap (list_any (λ n. bytes_eq n name)) (sym j.names) ∙ list_any-map (λ n. bytes_eq n name) (λ (s : Signature). s.name) j.before

module _ (format : Format) (lines rest : List ℕ) (count total : ℕ) (j : IsJudged format lines rest count total) where
  -- all lines are judged
  pub all_judged : rest ≡ [] → signatures_from format [] (pieces_of 10 lines) ≡ Ok j.before
  all_judged none = sym j.whole ∙ ap (λ bs. signatures_from format j.before (pieces_of 10 bs)) none ∙ line_none format j.before

  -- the last line is not ended
  pub unended : (line : List ℕ) → 0 < length rest → pieces_of 10 rest ≡ line ∷ [] → signatures_from format [] (pieces_of 10 lines) ≡ bad_line (count + 3) Unended
  unended line some one = sym j.whole ∙ line_unended format j.before rest line some one ∙ ap (λ n. bad_line (n + 3) Unended) j.long

  module _ (line below : List ℕ) (pieces : pieces_of 10 rest ≡ line ∷ pieces_of 10 below) where
    -- the next line is bad
    pub refused : (kind : SetFaultKind) → signatures_with j.before (signature_of format (pieces_of 32 line)) ≡ Err kind → signatures_from format [] (pieces_of 10 lines) ≡ bad_line (count + 3) kind
    refused kind e = sym j.whole ∙ ap (signatures_from format j.before) pieces ∙ line_refused format j.before line below kind e ∙ ap (λ n. bad_line (n + 3) kind) j.long

    pub wordless : (kind : SetFaultKind) → signature_of format (pieces_of 32 line) ≡ Err kind → signatures_from format [] (pieces_of 10 lines) ≡ bad_line (count + 3) kind
    wordless kind e = refused kind (ap (signatures_with j.before) e)

    module _ (name digits : List ℕ) (span : Span) (words : AreWordsOf name digits span (signature_of format (pieces_of 32 line))) where
      pub repeated : list_any (λ l. bytes_eq (first_word l) name) (take count (pieces_of 10 lines)) ≡ true → signatures_from format [] (pieces_of 10 lines) ≡ bad_line (count + 3) Duplicate
      repeated stands = refused Duplicate (repeats j.before name digits span _ words (sym (names_before format lines rest name count total j) ∙ stands))

      module _ (new : list_any (λ l. bytes_eq (first_word l) name) (take count (pieces_of 10 lines)) ≡ false) where
        new_here : list_any (λ s. bytes_eq s.name name) j.before ≡ false
        new_here = sym (names_before format lines rest name count total j) ∙ new

        pub crowded : (1024 ≤ count) ⊎ (16384 < total + length digits / 2) → signatures_from format [] (pieces_of 10 lines) ≡ bad_line (count + 3) TooMany
        crowded (inl many) = refused TooMany (full j.before name digits span _ words new_here (inl (omega (arith, j.long))))
        crowded (inr long) = refused TooMany (full j.before name digits span _ words new_here (inr (omega (arith, j.bytes))))

        -- the next line is good
        pub one_judged : count < 1024 → total + length digits / 2 ≤ 16384 → IsJudged format lines below (count + 1) (total + length digits / 2)
        one_judged few short =
            let joined : JoinsAs j.before name digits span (signature_of format (pieces_of 32 line)) = joins j.before name digits span _ words new_here (omega (arith, j.long)) (omega (arith, j.bytes)) in
            let s : Signature = record { name = name; pattern = record { bytes = joined.spells.bytes; span = span } } in
            let first : first_word line ≡ name = name_first format (pieces_of 32 line) _ words.made in
            let more = one_more count (pieces_of 10 lines) line (pieces_of 10 below) (j.left ∙ pieces) in
            record {
              before = j.before ++ s ∷ [];
              whole = sym (line_joined format j.before name digits span line below joined) ∙ sym (ap (signatures_from format j.before) pieces) ∙ j.whole;
              long = omega (arith, length-append j.before (s ∷ []), j.long);
              bytes = omega (arith, bytes_push j.before name joined.spells.bytes span, joined.spells.twice, j.bytes);
              names = map-append (λ (t : Signature). t.name) j.before (s ∷ []) ∙ ap (λ ns. ns ++ name ∷ []) j.names ∙ ap (λ n. map first_word (take count (pieces_of 10 lines)) ++ n ∷ []) (sym first)
                  ∙ sym (map-append first_word (take count (pieces_of 10 lines)) (line ∷ [])) ∙ ap (map first_word) (sym more.0) ∙ ap (λ n. map first_word (take n (pieces_of 10 lines))) (sym (add-one count));
              left = rw add-one more.1;
              few = omega arith;
              within = short;
            }
