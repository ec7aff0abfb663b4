-- What is said of a verdict.
use Rattle.std.proofs.Common.{ℕ, ◌≡◌, List, [], ◌∷◌, ◌++◌, length, refl, sym, ◌∙◌, ap, arith, append_assoc, length-append}
use Rattle.std.specs.Prelude.{codes, decimal}
use Rattle.std.proofs.lemmas.List.{append_cancel_left, append_cancel_right}
use Rattle.av_clamd.specs.declared.reply.Failing.{Failing}
use Rattle.av_clamd.specs.declared.reply.Failing.TheVariants.{NotBelow, Unreadable, NoAnswer, NoMemory}
use Rattle.av_clamd.specs.declared.reply.Spoken.{Spoken}
use Rattle.av_clamd.specs.declared.reply.Spoken.TheVariants.{Clean, Found, FoundAt, Infected, TooLarge, NoVerdict, Failed}
use Rattle.av_clamd.specs.Text.{failing_text, numbered, verdict_text, why_text}
use Rattle.av_clamd.specs.Laws.{IsOkForCleanAlone, IsPathOkForCleanAlone}

first_same : (x y : ℕ) (xs ys : List ℕ) → x ∷ xs ≡ y ∷ ys → x ≡ y
first_same x y xs ys e = cc

failing_first : (failing : Failing) (any : Spoken) → failing_text failing ≡ codes "OK" → any ≡ Clean
failing_first NotBelow any e = let first : 70 ≡ 79 = first_same 70 79 _ _ e in absurd (omega (arith, first))
failing_first Unreadable any e = let first : 99 ≡ 79 = first_same 99 79 _ _ e in absurd (omega (arith, first))
failing_first NoAnswer any e = let first : 110 ≡ 79 = first_same 110 79 _ _ e in absurd (omega (arith, first))
failing_first NoMemory any e = let first : 110 ≡ 79 = first_same 110 79 _ _ e in absurd (omega (arith, first))

ok_text : (verdict : Spoken) → verdict_text verdict ≡ codes "OK" → verdict ≡ Clean
ok_text Clean e = refl
ok_text (Found name) e = let sizes = ap length e in absurd (omega (arith, sizes, length-append name.now (codes " FOUND")))
ok_text (FoundAt index version) e = let first : 115 ≡ 79 = first_same 115 79 _ _ e in absurd (omega (arith, first))
ok_text Infected e = let first : 105 ≡ 79 = first_same 105 79 _ _ e in absurd (omega (arith, first))
ok_text TooLarge e = let first : 73 ≡ 79 = first_same 73 79 _ _ e in absurd (omega (arith, first))
ok_text (NoVerdict cause) e = let first : 110 ≡ 79 = first_same 110 79 _ _ e in absurd (omega (arith, first))
ok_text (Failed failing) e = failing_first failing (Failed failing) e

pub ok_for_clean_alone : IsOkForCleanAlone
ok_for_clean_alone number end verdict e =
    let lines : numbered number ++ (codes "stream: " ++ verdict_text verdict) ≡ numbered number ++ (codes "stream: " ++ codes "OK") =
    append_cancel_right (numbered number ++ (codes "stream: " ++ verdict_text verdict)) (numbered number ++ (codes "stream: " ++ codes "OK")) (end ∷ []) e in
    ok_text verdict (append_cancel_left (codes "stream: ") (verdict_text verdict) (codes "OK") (append_cancel_left (numbered number) (codes "stream: " ++ verdict_text verdict) (codes "stream: " ++ codes "OK") lines))

-- ---- the last byte of a reply

abbrev last_or : ℕ → List ℕ → ℕ
last_or d [] = d
last_or d (x ∷ xs) = last_or x xs

last_append : (d y : ℕ) (xs ys : List ℕ) → last_or d (xs ++ (y ∷ ys)) ≡ last_or y ys
last_append d y [] ys = refl
last_append d y (x ∷ xs) ys = last_append x y xs ys

line_last : (front path text : List ℕ) → last_or 0 (front ++ ((path ++ codes ": ") ++ text)) ≡ last_or 32 text
line_last front path text =
    ap (λ t. last_or 0 (front ++ t)) (append_assoc path (codes ": ") text)
    ∙ ap (last_or 0) (sym (append_assoc front path (58 ∷ 32 ∷ text)))
    ∙ last_append 0 58 (front ++ path) (32 ∷ text)

place_last : (index version : ℕ) → last_or 32 (verdict_text (FoundAt index version)) ≡ 68
place_last index version = last_append 32 32 (codes "signature-" ++ decimal index ++ codes "-of-version-" ++ decimal version) (codes "FOUND")

cause_last : (cause : ℕ) → last_or 32 (verdict_text (NoVerdict cause)) ≡ 82
unfolding why_text
cause_last cause =
    ap (last_or 32) (sym (append_assoc (codes "no verdict, ") (codes "cause " ++ decimal cause) (codes ". ERROR")))
    ∙ last_append 32 46 (codes "no verdict, " ++ (codes "cause " ++ decimal cause)) (codes " ERROR")

failing_last : (failing : Failing) → last_or 32 (failing_text failing) ≡ 82
failing_last NotBelow = refl
failing_last Unreadable = refl
failing_last NoAnswer = refl
failing_last NoMemory = refl

not_d : ◌≡◌ {A = ℕ} 68 75 → (verdict : Spoken) → verdict ≡ Clean
not_d e verdict = absurd (omega (arith, e))

not_r : ◌≡◌ {A = ℕ} 82 75 → (verdict : Spoken) → verdict ≡ Clean
not_r e verdict = absurd (omega (arith, e))

ok_last : (verdict : Spoken) → last_or 32 (verdict_text verdict) ≡ 75 → verdict ≡ Clean
ok_last Clean e = refl
ok_last (Found name) e = not_d (sym (last_append 32 32 name.now (codes "FOUND")) ∙ e) (Found name)
ok_last (FoundAt index version) e = not_d (sym (place_last index version) ∙ e) (FoundAt index version)
ok_last Infected e = not_d e Infected
ok_last TooLarge e = not_r e TooLarge
ok_last (NoVerdict cause) e = not_r (sym (cause_last cause) ∙ e) (NoVerdict cause)
ok_last (Failed failing) e = not_r (sym (failing_last failing) ∙ e) (Failed failing)

pub path_ok_for_clean_alone : IsPathOkForCleanAlone
path_ok_for_clean_alone number end path other verdict e =
    let front = numbered number in
    let lines : front ++ ((other ++ codes ": ") ++ verdict_text verdict) ≡ front ++ ((path ++ codes ": ") ++ codes "OK") =
    append_cancel_right (front ++ ((other ++ codes ": ") ++ verdict_text verdict)) (front ++ ((path ++ codes ": ") ++ codes "OK")) (end ∷ []) e in
    ok_last verdict (sym (line_last front other (verdict_text verdict)) ∙ ap (last_or 0) lines ∙ line_last front path (codes "OK"))
