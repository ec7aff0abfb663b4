use Rattle.std.proofs.Common.{ℕ, ◌≡◌, List, [], ◌∷◌, None, Option, Some, refl, sym, ap, ◌∙◌}
use Rattle.std.specs.Prelude.{codes, option_and_then, if◌then◌else◌}
use Rattle.std.specs.Str.{bytes_eq}
use Rattle.av_base.specs.declared.port.Port.{Port}
use Rattle.av_base.specs.declared.port.Port.TheVariants.{Two}
use Rattle.av_base.specs.Decimal.{decimal_of}
use Rattle.av_base.specs.Line.{pieces_of}
use Rattle.av_base.proofs.LineLemmas.{pieces_some}
use Rattle.av_script.specs.declared.command.Command.{Command}
use Rattle.av_script.specs.Script.Grammar.{bare_line, least_of, port_said}
use Rattle.av_script.specs.Script.Words.{one_word}

-- a word that others follow is not the only one
pub one_only : (first bs : List ℕ) → one_word (first ∷ pieces_of 32 bs) ≡ None
one_only first bs = let some = pieces_some 32 bs in ap (λ ps. one_word (first ∷ ps)) some.2

-- a verb that words follow does not stand alone
pub not_bare : (command : Command) (bs : List ℕ) → bare_line command (pieces_of 32 bs) ≡ None
not_bare command bs = let some = pieces_some 32 bs in ap (bare_line command) some.2

least_word : (first : List ℕ) (rest : List (List ℕ)) → least_of (first ∷ rest) ≡ option_and_then decimal_of (one_word (first ∷ rest))
least_word first [] = refl
least_word first (word ∷ words) = refl

-- a least version that is said is the only word
pub least_said : (bs : List ℕ) → least_of (pieces_of 32 bs) ≡ option_and_then decimal_of (one_word (pieces_of 32 bs))
least_said bs =
    let some = pieces_some 32 bs in
    ap least_of some.2 ∙ least_word some.0 some.1 ∙ ap (λ ps. option_and_then decimal_of (one_word ps)) (sym some.2)

-- what a word that should name a port names, where it is the only one
abbrev pub only_port : Option (List ℕ) → Option Port
only_port None = None
only_port (Some word) = if bytes_eq word (codes "2") then Some Two else None

port_word_of : (first : List ℕ) (rest : List (List ℕ)) → port_said (first ∷ rest) ≡ only_port (one_word (first ∷ rest))
port_word_of first [] = refl
port_word_of first (word ∷ words) = refl

-- a port that is said is the only word
pub port_word : (bs : List ℕ) → port_said (pieces_of 32 bs) ≡ only_port (one_word (pieces_of 32 bs))
port_word bs =
    let some = pieces_some 32 bs in
    ap port_said some.2 ∙ port_word_of some.0 some.1 ∙ ap (λ ps. only_port (one_word ps)) (sym some.2)
