use Rattle.std.proofs.Common.{Bor, not, is_some, eq-eqb, ℕ, zero, suc, ◌≡◌, ◌==◌, Bool, true, false, cond, ◌&&◌, List, [], ◌∷◌, length, take, get_or, Option, None, Some, Ok, Err, nat_eq, nat_le, refl, sym, ap, arith, ◌∙◌}
use Rattle.std.proofs.lemmas.Bool.Decides.{nat_tests}
use Rattle.std.specs.List.{list_all}
use Rattle.std.specs.Option.{option_copied}
use Rattle.av_base.specs.Line.{onto_first, pieces_of, rest_of}
use Rattle.av_base.proofs.LineLemmas.{pieces_some}
use Rattle.av_sigset.specs.Line.{SpellsPattern}
use Rattle.av_sigset.specs.Set.{IsSpan, widest}
use Rattle.av_sigset.specs.declared.signature.Span.{Span}
use Rattle.av_import.specs.Bytes.{bytes_of}
use Rattle.av_import.specs.Clamav.{AreWordsOf, db_of, joined, signature_in, without_returns}
use Rattle.av_import.specs.declared.why.Why.{Why}
use Rattle.av_import.proofs.HexLemmas.{bytes_spelt}

-- pieces with the separator between them are the whole
joined_onto : (s b : ℕ) (p : List ℕ) (ps : List (List ℕ)) → joined s (onto_first b (p ∷ ps)) ≡ b ∷ joined s (p ∷ ps)
joined_onto s b p [] = refl
joined_onto s b p (q ∷ ps) = refl

joined_separator : (s : ℕ) (ps : List (List ℕ)) (q : List ℕ) (qs : List (List ℕ)) → ps ≡ q ∷ qs → joined s ([] ∷ ps) ≡ s ∷ joined s ps
joined_separator s ps q qs is = rw is refl

pub joined_pieces : (s : ℕ) (bs : List ℕ) → joined s (pieces_of s bs) ≡ bs
joined_pieces s [] = refl
joined_pieces s (b ∷ bs) =
    let some = pieces_some s bs in
    let rest = joined_pieces s bs in
    (elim (nat_eq b s) as (λ v. nat_eq b s ≡ v → joined s (cond v ([] ∷ pieces_of s bs) (onto_first b (pieces_of s bs))) ≡ b ∷ bs) [
      | true ↦ λ e. (let same : b ≡ s = grind (arith, e) in joined_separator s (pieces_of s bs) some.0 some.1 some.2 ∙ ap (λ t. s ∷ t) rest ∙ ap (λ h. h ∷ bs) (sym same))
      | false ↦ λ e. (ap (λ ps. joined s (onto_first b ps)) some.2 ∙ joined_onto s b some.0 some.1 ∙ ap (λ ps. b ∷ joined s ps) (sym some.2) ∙ ap (λ t. b ∷ t) rest)
    ]) refl

-- the text of a `.db` line
pub db_text : (name text : List ℕ) → db_of (name ∷ pieces_of 61 text) ≡ signature_in name (bytes_of text) (Ok widest)
db_text name text =
    let some = pieces_some 61 text in
    ap (λ ps. db_of (name ∷ ps)) some.2 ∙ ap (λ ps. signature_in name (bytes_of (joined 61 ps)) (Ok widest)) (sym some.2)
    ∙ ap (λ t. signature_in name (bytes_of t) (Ok widest)) (joined_pieces 61 text)

-- two fields more, and whether a third follows
pub few : (p q : List ℕ) (more : Option (Bor (List ℕ))) (none : Bool) → is_some more ≡ not none → none ≡ nat_le (length (p ∷ q ∷ rest_of 58 (option_copied more))) 2
few p q None true h = refl
few p q None false h = absurd cc
few p q (Some bs) true h = absurd cc
few p q (Some bs) false h =
    let some = pieces_some 58 bs.now in
    let long : length (pieces_of 58 bs.now) ≡ suc (length some.1) = ap length some.2 in
    let over : nat_le (suc (suc (length (pieces_of 58 bs.now)))) 2 ≡ false = grind (arith, nat_tests) in
    sym over

-- the words of a signature
pub words_made : (name text : List ℕ) (span : Span) (s : SpellsPattern text) → IsSpan span → AreWordsOf name text span (signature_in name (bytes_of text) (Ok span))
words_made name text span s bound = record { spells = s; bound = bound; made = ap (λ b. signature_in name b (Ok span)) (bytes_spelt text s) }

pub fault_behind : (name text : List ℕ) (why : Why) → SpellsPattern text → signature_in name (bytes_of text) (Err why) ≡ Err why
fault_behind name text why s = ap (λ b. signature_in name b (Err why)) (bytes_spelt text s)

-- carriage returns at the end
all_front : (p : ℕ → Bool) (w : List ℕ) (n : ℕ) → length w ≡ suc n → p (get_or w n 0) ≡ true → list_all p (take n w) ≡ list_all p w
all_front p [] n long last = absurd (omega (arith, long))
all_front p (b ∷ []) zero long last = rw last refl
all_front p (b ∷ []) (suc n) long last = absurd (omega (arith, long))
all_front p (b ∷ c ∷ bs) zero long last = absurd (omega (arith, long))
all_front p (b ∷ c ∷ bs) (suc n) long last = ap (λ r. p b && r) (all_front p (c ∷ bs) n (omega (arith, long)) last)

pub one_less : (w : List ℕ) (n : ℕ) → length w ≡ suc n → get_or w n 0 ≡ 13 → without_returns (take n w) ≡ without_returns w
unfolding without_returns
one_less [] n long last = absurd (omega (arith, long))
one_less (b ∷ []) zero long last = rw last refl
one_less (b ∷ []) (suc n) long last = absurd (omega (arith, long))
one_less (b ∷ c ∷ bs) zero long last = absurd (omega (arith, long))
one_less (b ∷ c ∷ bs) (suc n) long last =
    let all = all_front (λ d. d == 13) (b ∷ c ∷ bs) (suc n) long (eq-eqb _ _ last) in
    ap (λ q. cond q [] (b ∷ without_returns (take n (c ∷ bs)))) all
    ∙ ap (λ r. cond (list_all (λ d. d == 13) (b ∷ c ∷ bs)) [] (b ∷ r)) (one_less (c ∷ bs) n (omega (arith, long)) last)

none_all : (p : ℕ → Bool) (w : List ℕ) (n : ℕ) → length w ≡ suc n → p (get_or w n 0) ≡ false → list_all p w ≡ false
none_all p [] n long last = absurd (omega (arith, long))
none_all p (b ∷ []) zero long last = rw last refl
none_all p (b ∷ []) (suc n) long last = absurd (omega (arith, long))
none_all p (b ∷ c ∷ bs) zero long last = absurd (omega (arith, long))
none_all p (b ∷ c ∷ bs) (suc n) long last = rw (none_all p (c ∷ bs) n (omega (arith, long)) last) (elim (p b) as (λ v. (v && false) ≡ false) [ true ↦ refl | false ↦ refl ])

pub no_less : (w : List ℕ) (n : ℕ) → length w ≡ suc n → nat_eq (get_or w n 0) 13 ≡ false → without_returns w ≡ w
unfolding without_returns
no_less [] n long last = absurd (omega (arith, long))
no_less (b ∷ []) zero long last = rw last refl
no_less (b ∷ []) (suc n) long last = absurd (omega (arith, long))
no_less (b ∷ c ∷ bs) zero long last = absurd (omega (arith, long))
no_less (b ∷ c ∷ bs) (suc n) long last =
    ap (λ q. cond q [] (b ∷ without_returns (c ∷ bs))) (none_all (λ d. d == 13) (b ∷ c ∷ bs) (suc n) long last) ∙ ap (λ r. b ∷ r) (no_less (c ∷ bs) n (omega (arith, long)) last)

pub none_left : (w : List ℕ) → length w ≡ 0 → without_returns w ≡ w
unfolding without_returns
none_left [] none = refl
none_left (b ∷ bs) none = absurd (omega (arith, none))
