-- Which events a guard was given, one call after the other.
use Rattle.std.proofs.Common.{◌≡◌, ◌++◌, inl, inr, List, [], ◌∷◌, refl, sym, subst, ◌∙◌}
use Rattle.av_base.specs.declared.port.Port.{Port}
use Rattle.av_base.specs.declared.port.Port.TheVariants.{One}
use Rattle.av_filter.specs.Conduct.{Disconnects, FilterEvent, Receives}
use Rattle.av_frame.specs.Message.{Letter}
use Rattle.av_guard.specs.State.{State, happens}
use Rattle.av_daemon.specs.Passing.{AreGiven, IsGiven, IsLosing, IsLosingOne, HappensOnce, KeepsFilter}

pub keeps_all : (g h : State) → h ≡ g → KeepsFilter g h
keeps_all g h same = subst (KeepsFilter g) (sym same) (refl, refl, refl)

keeps_on : (g m h : State) → KeepsFilter g m → KeepsFilter m h → KeepsFilter g h
keeps_on g m h first then = (then.0 ∙ first.0, then.1 ∙ first.1, then.2 ∙ first.2)

-- an event was given, and what follows leaves the filter as it is
pub told_once : (g m h : State) (e : FilterEvent) → m ≡ (happens g e).state → KeepsFilter m h → HappensOnce e g h
told_once g m h e told keeps = (g, keeps_all g g refl, subst (λ s. KeepsFilter s h) told keeps)

pub losing_on : (port : Port) (g m h : State) → IsLosing port g m → KeepsFilter m h → IsLosing port g h
losing_on port g m h (inl first) keeps = inl (keeps_on g m h first keeps)
losing_on port g m h (inr lost) keeps = inr (lost.0, lost.1, keeps_on ((happens lost.0 (Disconnects port)).state) m h lost.2 keeps)

-- nothing is told
pub none_lost : (g h : State) → KeepsFilter g h → IsLosingOne g h
none_lost g h keeps = (One, inl keeps)

-- a message was given, and then a service is lost, or none
pub message_given : (g m next after h : State) (message : Letter) → m ≡ (happens g (Receives message)).state → KeepsFilter m next → KeepsFilter next after
    → IsLosingOne after h → IsGiven message g h
message_given g m next after h message given first then lost =
    inr (after, told_once g m after (Receives message) given (keeps_on m next after first then), lost)

-- one more message is given behind others
pub given_then : (ms : List Letter) (g m h : State) (message : Letter) → AreGiven ms g m → IsGiven message m h → AreGiven (ms ++ message ∷ []) g h
given_then [] g m h message before then = (h, subst (λ s. IsGiven message s h) before then, refl)
given_then (first ∷ ms) g m h message before then = (before.0, before.1, given_then ms before.0 m h message before.2 then)
