-- What a delivery hands on is what was sent.
use Rattle.std.proofs.Common.{◌≡◌, ℕ, suc, List, [], ◌++◌, slice_get, Option, None, Some, ap, sym, ◌∙◌}
use Rattle.std.specs.Prelude.{IfSome}
use Rattle.std.proofs.lemmas.List.{append-nil}
use Rattle.av_frame.specs.Laws.{BeginsWithOneFrame}
use Rattle.av_frame.specs.Message.{IsLetter, Letter}
use Rattle.av_frame.specs.Spelling.{frame}
use Rattle.av_history.specs.World.{member}

pub came_out : (one : BeginsWithOneFrame) (m n : Letter) (bytes rest : List ℕ) → IsLetter m → IsLetter n → bytes ≡ [] ++ frame m → bytes ≡ frame n ++ rest → n ≡ m
came_out one m n bytes rest sent came is comes = sym (one m n [] rest sent came (append-nil (frame m) ∙ sym is ∙ comes)).0

pub carried_at : (r : Option Letter) (xs : List Letter) (k i : ℕ) (m : Letter) → k ≡ suc i → slice_get xs i ≡ Some m → IfSome r (λ n. n ≡ m) → IfSome r (λ n. member xs k ≡ Some n)
carried_at None xs k i m place there is = tt
carried_at (Some n) xs k i m place there is = ap (member xs) place ∙ there ∙ ap Some (sym is)
