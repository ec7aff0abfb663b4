use Rattle.std.proofs.Common.{ℕ, ◌≡◌, ◌+◌, ◌++◌, true, false, List, [], ◌∷◌, Some, Result, Ok, Err, refl, sym, ap, ◌∙◌, append_assoc, append-nil, length, ◌==◌, eqb-true, arith}
use Rattle.std.specs.Option.{option_to_list}
use Rattle.av_base.specs.Line.{lines_of}
use Rattle.av_script.specs.declared.command.Command.{Command}
use Rattle.av_script.specs.declared.script.ScriptFault.{ScriptFault}
use Rattle.av_script.specs.Script.Grammar.{Line, Silent, Limit, Volume, Says, line_of}
use Rattle.av_script.specs.Script.{command_then, line_then, commands_from, with_front}
use Rattle.av_script.specs.Script.Statement.{command_of, is_setting}

-- one command more stands in front
front_more : (front : List Command) (c : Command) (r : Result (List Command) ScriptFault) → with_front (front ++ c ∷ []) r ≡ with_front front (command_then c r)
front_more front c (Ok cs) = ap Ok (append_assoc front (c ∷ []) cs)
front_more front c (Err f) = refl

passed : (front : List Command) (n : ℕ) (line : Line) (r : Result (List Command) ScriptFault) → is_setting line ≡ false
    → with_front (front ++ option_to_list (command_of line)) r ≡ with_front front (line_then n (Some line) r)
passed front n Silent r no_setting = ap (λ xs. with_front xs r) (append-nil front)
passed front n (Limit which value) r no_setting = absurd cc
passed front n (Volume number mode) r no_setting = absurd cc
passed front n (Says c) r no_setting = front_more front c r

-- a line that sets nothing adds its command, if it says one
pub line_passed : (front : List Command) (n : ℕ) (l : List ℕ) (ls : List (List ℕ)) (line : Line) → line_of l ≡ Some line → is_setting line ≡ false
    → with_front (front ++ option_to_list (command_of line)) (commands_from (n + 1) ls) ≡ with_front front (commands_from n (l ∷ ls))
line_passed front n l ls line is no_setting =
    passed front n line (commands_from (n + 1) ls) no_setting ∙ ap (λ o. with_front front (line_then n o (commands_from (n + 1) ls))) (sym is)

-- where no text is left, the commands so far are all
pub all_read : (front : List Command) (n : ℕ) (rest : List ℕ) (r : Result (List Command) ScriptFault) → (length rest == 0) ≡ true
    → with_front front (commands_from n (lines_of rest)) ≡ r → r ≡ Ok front
all_read front n [] r none h = sym h ∙ ap Ok (append-nil front)
all_read front n (b ∷ bs) r none h = let long : length (b ∷ bs) ≡ 0 = eqb-true _ _ none in absurd (omega (arith, long))
