-- No ask in line is lost, and none is there twice.
use Rattle.std.proofs.Common.{ap, sym, ◌∙◌, ◌≡◌, List, [], ◌∷◌, ◌++◌, append_assoc, append-nil}
use Rattle.av_turns.specs.Line.{Asked}
use Rattle.av_turns.specs.Once.{Drops, gone, Lead, Leaves, Move, Stands, stood}

pub once : (moves : List Move) (old new : List Asked) → Lead moves old new → old ++ stood moves ≡ gone moves ++ new
once [] old new lead = append-nil old ∙ sym lead
once (Stands a ∷ moves) old new lead = sym (append_assoc old (a ∷ []) (stood moves)) ∙ sym (ap (λ l. l ++ stood moves) lead.1) ∙ once moves lead.0 new lead.2
once (Leaves a ∷ moves) old new lead = ap (λ l. l ++ stood moves) lead.1 ∙ ap (λ l. a ∷ l) (once moves lead.0 new lead.2)
once (Drops asks ∷ moves) old new lead =
    ap (λ l. l ++ stood moves) lead.1.0 ∙ ap (λ l. asks ++ l) (sym (ap (λ l. l ++ stood moves) lead.1.1) ∙ once moves lead.0 new lead.2) ∙ sym (append_assoc asks (gone moves) new)
