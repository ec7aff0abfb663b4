-- The set of a signature file that may be signed.
use Rattle.std.specs.Prelude.{ℕ, ◌≡◌, List, Option, None, Some, Ok}
use Rattle.av_sigset.specs.Judge.{set_of}
use Rattle.av_sigset.specs.Set.{NumberedSet}
use Rattle.av_trust.specs.Trust.{text_by}
use Rattle.av_trust.specs.declared.trust.Trust.{Trust}

-- the content was read, is taken, and has this text: all of it, or what was signed
abbrev pub IsTextOf : Trust → Option (List ℕ) → List ℕ → Type 0
IsTextOf trust None text = ⊥
IsTextOf trust (Some content) text = text_by trust content ≡ Ok text

-- the content is taken, and its text spells this set
pub record SpellsBy (trust : Trust) (content : Option (List ℕ)) (set : NumberedSet) : Type 0 where
  pub text : List ℕ
  pub taken : IsTextOf trust content text
  pub spelt_by : set_of text ≡ Ok set

-- a set that a file spells which is taken
pub record IsTrusted (trust : Trust) (set : NumberedSet) : Type 0 where
  pub content : Option (List ℕ)
  pub spelt_by : SpellsBy trust content set
