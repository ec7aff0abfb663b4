-- What came of a service and was not passed on, after a piece that is read up to its greeting.
use Rattle.std.proofs.Common.{ℕ, ◌≡◌, ◌++◌, ◌∙◌, List, Option, None, Some, false, is_some, ap, arith, sym, refl, append_assoc}
use Rattle.av_frame.specs.Feed.{Fed}
use Rattle.av_frame.specs.Message.{Letter}
use Rattle.av_frame.specs.Spelling.{frame}
use Rattle.av_peers.specs.Service.{HearsMore, kept_frame, unheard}
use Rattle.av_peers.specs.declared.service.ServicePeer.{ServicePeer}

pub none_kept : (o : Option Letter) → is_some o ≡ false → o ≡ None
none_kept None none = refl
none_kept (Some m) none = grind (arith, none)

-- its greeting was taken off and is kept
pub greeted : (old : ServicePeer) (m : Letter) (heard rest bytes : List ℕ) → old.greeting ≡ None → heard ≡ old.feed.rest ++ bytes → heard ≡ frame m ++ rest
    → (more : List ℕ) × (frame m ++ rest ≡ unheard old ++ more)
greeted old m heard rest bytes none came first = (bytes, sym first ∙ came ∙ ap (λ g. (kept_frame g ++ old.feed.rest) ++ bytes) (sym none))

-- no whole frame came
pub heard_on : (old heard next : ServicePeer) (bytes : List ℕ) → heard.greeting ≡ old.greeting → heard.feed.rest ≡ old.feed.rest ++ bytes
    → next.greeting ≡ heard.greeting → next.feed ≡ heard.feed → HearsMore old next
heard_on old heard next bytes greeting came same feed = (
  bytes,
  ap (λ g. kept_frame g ++ next.feed.rest) (same ∙ greeting) ∙ ap (λ (f : Fed). kept_frame old.greeting ++ f.rest) feed
      ∙ ap (λ r. kept_frame old.greeting ++ r) came ∙ sym (append_assoc (kept_frame old.greeting) old.feed.rest bytes),
)
