-- The reply that was heard last.
use Rattle.std.proofs.Common.{◌≡◌, List, [], ◌∷◌, ◌++◌, length, refl, ◌∙◌, ap}
use Rattle.std.specs.Prelude.{Option, Some, slice_get}
use Rattle.av_client.specs.Asking.{AreAtTheirTags, Forgets, Hears, tag_of}
use Rattle.av_client.specs.declared.reply.Reply.{Reply}

get_last : (xs : List (Option Reply)) (y : Option Reply) → slice_get (xs ++ y ∷ []) (length xs) ≡ Some y
get_last [] y = refl
get_last (x ∷ xs) y = get_last xs y

-- it is the reply to what has its tag
pub last_tag : (kept new : List (Option Reply)) (r : Reply) → AreAtTheirTags kept → Forgets kept new (Some r) → tag_of r ≡ length new
last_tag kept new r tags forgot = tags (length new) r (ap (λ l. slice_get l (length new)) forgot ∙ get_last new (Some r))

-- what was heard stands at its tags
pub kept_tags : (old kept : List (Option Reply)) → Hears old kept → AreAtTheirTags old → AreAtTheirTags kept
kept_tags old kept heard tags = heard.tags tags
