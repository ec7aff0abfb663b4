use Rattle.std.proofs.Common.{ℕ, suc, zero, ◌≡◌, ◌<◌, ◌/◌, ◌%◌, ◌==◌, Bool, true, false, List, [], ◌∷◌, ◌++◌, codes, refl, arith, if◌then◌else◌, slice_index}
use Rattle.hex.specs.Hex.{IsBytes, encode_with, lower_digits}
use Rattle.av_base.specs.Part.{digits_of}
use Rattle.av_chart.specs.Escape.{IsXml, ampersand, escaped, greater, is_plain, is_printable, less, nothing, plain, quote}

-- each digit stands for itself
pub plain_digit : (n : ℕ) → n < 16 → is_plain (slice_index lower_digits n) ≡ true
plain_digit zero lt = refl
plain_digit (suc zero) lt = refl
plain_digit (suc (suc zero)) lt = refl
plain_digit (suc (suc (suc zero))) lt = refl
plain_digit (suc (suc (suc (suc zero)))) lt = refl
plain_digit (suc (suc (suc (suc (suc zero))))) lt = refl
plain_digit (suc (suc (suc (suc (suc (suc zero)))))) lt = refl
plain_digit (suc (suc (suc (suc (suc (suc (suc zero))))))) lt = refl
plain_digit (suc (suc (suc (suc (suc (suc (suc (suc zero)))))))) lt = refl
plain_digit (suc (suc (suc (suc (suc (suc (suc (suc (suc zero))))))))) lt = refl
plain_digit (suc (suc (suc (suc (suc (suc (suc (suc (suc (suc zero)))))))))) lt = refl
plain_digit (suc (suc (suc (suc (suc (suc (suc (suc (suc (suc (suc zero))))))))))) lt = refl
plain_digit (suc (suc (suc (suc (suc (suc (suc (suc (suc (suc (suc (suc zero)))))))))))) lt = refl
plain_digit (suc (suc (suc (suc (suc (suc (suc (suc (suc (suc (suc (suc (suc zero))))))))))))) lt = refl
plain_digit (suc (suc (suc (suc (suc (suc (suc (suc (suc (suc (suc (suc (suc (suc zero)))))))))))))) lt = refl
plain_digit (suc (suc (suc (suc (suc (suc (suc (suc (suc (suc (suc (suc (suc (suc (suc zero))))))))))))))) lt = refl
plain_digit (suc (suc (suc (suc (suc (suc (suc (suc (suc (suc (suc (suc (suc (suc (suc (suc n)))))))))))))))) lt = absurd (omega arith)

-- a byte as its digits, before a text
pub coded_xml : (b : ℕ) (t : List ℕ) → b < 256 → IsXml t → IsXml ((codes "\\x" ++ digits_of b) ++ t)
unfolding encode_with
coded_xml b t lt x =
    let high : b / 16 < 16 = omega arith in
    let low : b % 16 < 16 = omega arith in
    plain 92 _ refl (plain 120 _ refl (plain _ _ (plain_digit (b / 16) high) (plain _ _ (plain_digit (b % 16) low) x)))

-- a byte before a text, by the tests that it passes
pub byte_xml : (b : ℕ) (t : List ℕ) (a l g q p : Bool) → b < 256 → IsXml t → (b == 38) ≡ a → (b == 60) ≡ l → (b == 62) ≡ g → (b == 34) ≡ q → is_printable b ≡ p
    → IsXml ((if a then codes "&amp;" else if l then codes "&lt;" else if g then codes "&gt;" else if q then codes "&quot;" else if p then b ∷ [] else codes "\\x" ++ digits_of b) ++ t)
byte_xml b t true l g q p lt x ea el eg eq ep = ampersand t x
byte_xml b t false true g q p lt x ea el eg eq ep = less t x
byte_xml b t false false true q p lt x ea el eg eq ep = greater t x
byte_xml b t false false false true p lt x ea el eg eq ep = quote t x
byte_xml b t false false false false true lt x ea el eg eq ep = plain b t (simp (ep, eq, ea, el, eg)) x
byte_xml b t false false false false false lt x ea el eg eq ep = coded_xml b t lt x

-- bytes that were escaped are the text of an element
pub escaped_xml : (bs : List ℕ) → IsBytes bs → IsXml (escaped bs)
escaped_xml [] h = nothing
escaped_xml (b ∷ bs) h =
    let rest : IsXml (escaped bs) = escaped_xml bs (λ i. h (suc i)) in
    byte_xml b (escaped bs) (b == 38) (b == 60) (b == 62) (b == 34) (is_printable b) (h zero) rest refl refl refl refl refl
