-- Messages copied event by event.
use Rattle.std.proofs.Common.{◌≡◌, ℕ, ◌+◌, ◌<◌, List, [], ◌∷◌, ◌++◌, get_or, length, take, sym, ap, ◌∙◌}
use Rattle.std.proofs.lemmas.List.{take_more}
use Rattle.std.proofs.lemmas.List.{flat_map_more}
use Rattle.std.specs.List.{AppendsClones, each_same}
use Rattle.av_desk.specs.Book.{messages_of}
use Rattle.av_frame.specs.Message.{Letter}
use Rattle.av_service.specs.Audit.{ServiceEntry}

pub one_more : (xs : List ServiceEntry) (i : ℕ) (x : ServiceEntry) (old new : List Letter) → i < length xs → x ≡ get_or xs i x → old ≡ messages_of (take i xs) → AppendsClones (λ v w. w ≡ v) old new x.messages
    → new ≡ messages_of (take (i + 1) xs)
one_more xs i x old new within is so_far more =
    let copied : new ≡ old ++ x.messages = more.1 ∙ ap (λ ys. old ++ ys) (each_same x.messages more.0 more.2) in
    let longer : take (i + 1) xs ≡ take i xs ++ x ∷ [] = take_more xs i x within ∙ ap (λ (y : ServiceEntry). take i xs ++ y ∷ []) (sym is) in
    copied ∙ ap (λ ys. ys ++ x.messages) so_far ∙ flat_map_more (λ (y : ServiceEntry). y.messages) [] (take i xs) x ∙ ap messages_of (sym longer)
