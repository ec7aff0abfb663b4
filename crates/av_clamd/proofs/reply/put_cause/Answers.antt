use Rattle.std.proofs.Common.{ℕ, ◌≡◌, List, ◌++◌, Result, Ok, Err, ◌∙◌, ap, append_assoc}
use Rattle.std.specs.Prelude.{OnOk, codes}
use Rattle.av_clamd.specs.Text.{why_text}
use Rattle.av_clamd.proofs.reply.put_cause.Goals as goal

behind : {A E : Type 0} (r : Result A E) (old text mid tail new : List ℕ) → mid ≡ old ++ text → OnOk r (new ≡ mid ++ tail) → OnOk r (new ≡ old ++ (text ++ tail))
behind (Ok x) old text mid tail new first second = second ∙ ap (λ b. b ++ tail) first ∙ append_assoc old text tail
behind (Err e) old text mid tail new first second = tt

pub returns : goal.returns
returns c = behind c.put_why.result c.args.line.now.items (codes "no verdict, ") _ (why_text c.args.cause) c.put_why.new.line.items c.in_ok-extend_from_slice.ensures.items c.put_why.ensures
