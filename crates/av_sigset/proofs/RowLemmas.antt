-- Worked files of format 2, computed.
use Rattle.std.proofs.Common.{ℕ, ◌≡◌, List, [], ◌∷◌, ◌++◌, Ok, codes, refl}
use Rattle.hex.specs.Hex.{decode_pairs}
use Rattle.av_sigset.specs.Judge.{bad_line, set_of, signatures_below}
use Rattle.av_sigset.specs.declared.fault.SetFaultKind.TheVariants.{Header, Hex, Length, Range}
use Rattle.av_sigset.specs.declared.format.Format.{Format}
use Rattle.av_sigset.specs.declared.format.Format.TheVariants.{One, Two}
use Rattle.av_sigset.specs.Judge.{header_of}

-- a file of version 1 with this third line
abbrev with_line : Format → List ℕ → List ℕ
with_line format line = header_of format ++ 10 ∷ codes "version 1" ++ 10 ∷ line ++ 10 ∷ []

two_signatures : set_of (with_line Two (codes "a 4142 0 3" ++ 10 ∷ codes "b 43"))
    ≡ Ok (record {
      version = 1;
      signatures = record { name = codes "a"; pattern = record { bytes = 0x41 ∷ 0x42 ∷ []; span = record { low = 0; high = 3 } } }
          ∷ record { name = codes "b"; pattern = record { bytes = 0x43 ∷ []; span = record { low = 0; high = 1048575 } } } ∷ [];
    })
unfolding signatures_below decode_pairs
two_signatures = refl

no_order : set_of (with_line Two (codes "a 41 2 1")) ≡ bad_line 3 Range
unfolding signatures_below decode_pairs
no_order = refl

one_number : set_of (with_line Two (codes "a 41 5")) ≡ bad_line 3 Range
unfolding signatures_below decode_pairs
one_number = refl

behind_the_last : set_of (with_line Two (codes "a 41 0 1048576")) ≡ bad_line 3 Range
unfolding signatures_below decode_pairs
behind_the_last = refl

odd_digits : set_of (with_line Two (codes "a 4 2 1")) ≡ bad_line 3 Hex
unfolding signatures_below decode_pairs
odd_digits = refl

no_bytes : set_of (with_line Two (codes "a  0 3")) ≡ bad_line 3 Length
unfolding signatures_below decode_pairs
no_bytes = refl

first_format : set_of (with_line One (codes "a 41 0 3")) ≡ bad_line 3 Hex
unfolding signatures_below decode_pairs
first_format = refl

third_format : set_of (codes "avsig 3" ++ 10 ∷ codes "version 7" ++ 10 ∷ []) ≡ bad_line 1 Header
third_format = refl

before_the_name : set_of (with_line Two (codes "a 41" ++ 10 ∷ codes "a 42 2 1")) ≡ bad_line 4 Range
unfolding signatures_below decode_pairs
before_the_name = refl
