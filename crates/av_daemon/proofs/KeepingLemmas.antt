-- What a line of the file that keeps a version says.
use Rattle.std.proofs.Common.{ℕ, ◌≡◌, ◌++◌, ◌∙◌, List, Some, ap}
use Rattle.std.specs.Prelude.{codes}
use Rattle.av_base.specs.Decimal.{decimal_of}
use Rattle.av_daemon.specs.Keeping.{SaysVersion}

-- a word is taken off in front, and an end of line behind
pub says_version : (line rest digits front back : List ℕ) (version : ℕ) → line ≡ front ++ rest → rest ≡ digits ++ back → front ≡ codes "version " → back ≡ codes "\n"
    → decimal_of digits ≡ Some version → SaysVersion line version
says_version line rest digits front back version begins ends word end number = record {
  digits = digits;
  spelled = begins ∙ ap (λ r. front ++ r) ends ∙ ap (λ f. f ++ (digits ++ back)) word ∙ ap (λ b. codes "version " ++ (digits ++ b)) end;
  number = number;
}
