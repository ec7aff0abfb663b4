-- What came over a connection, and which of it is passed on.
use Rattle.std.proofs.Common.{ℕ, ◌≡◌, ◌++◌, ◌∙◌, List, [], ◌∷◌, Some, take, zero, suc, ap, arith, sym, refl, append_assoc}
use Rattle.std.specs.BTreeMap.{is_at}
use Rattle.std.specs.List.{flat_map}
use Rattle.std.specs.Map.{lookup, set_value}
use Rattle.std.specs.Ordering.{nat_cmp}
use Rattle.std.proofs.lemmas.Bool.Decides.{nat_tests}
use Rattle.std.proofs.lemmas.List.{append-nil}
use Rattle.av_frame.specs.Message.{Letter}
use Rattle.av_frame.specs.Spelling.{frame}
use Rattle.av_peers.specs.Service.{HearsMore, SaysFirst, kept_frame}
use Rattle.av_peers.specs.declared.service.ServicePeer.{ServicePeer}
use Rattle.av_daemon.specs.Hearing.{MoreIsHeard, unheard_of}

-- the frames of the first of these messages come first too
pub first_of : (n : ℕ) (ms : List Letter) (bytes : List ℕ) → SaysFirst ms bytes → SaysFirst (take n ms) bytes
first_of zero ms bytes says = (bytes, refl)
first_of (suc n) [] bytes says = says
first_of (suc n) (m ∷ ms) bytes says =
    let rest = first_of n ms (flat_map frame ms ++ says.0) (says.0, refl) in
    (rest.0, says.1 ∙ append_assoc (frame m) (flat_map frame ms) says.0 ∙ ap (λ xs. frame m ++ xs) rest.1 ∙ sym (append_assoc (frame m) (flat_map frame (take n ms)) rest.0))

-- a service in the place of another one
service_set : (n : ℕ) (es : List (ℕ × ServicePeer)) (was s : ServicePeer) → lookup (is_at (nat_cmp n)) es ≡ Some was
    → lookup (is_at (nat_cmp n)) (set_value (is_at (nat_cmp n)) es s) ≡ Some s
service_set n [] was s some = grind (arith, some)
service_set n (e ∷ es) was s some = grind (arith, nat_tests, some, service_set n es was s)

-- the service of a connection heard more
pub heard_more : (n : ℕ) (es new : List (ℕ × ServicePeer)) (was s : ServicePeer) → lookup (is_at (nat_cmp n)) es ≡ Some was
    → new ≡ set_value (is_at (nat_cmp n)) es s → HearsMore was s → MoreIsHeard n es new
heard_more n es new was s there set more =
    let after : lookup (is_at (nat_cmp n)) new ≡ Some s = ap (lookup (is_at (nat_cmp n))) set ∙ service_set n es was s there in
    (more.0, ap unheard_of after ∙ more.1 ∙ ap (λ o. unheard_of o ++ more.0) (sym there))

-- it has the same greeting and more in its feed
pub heard_set : (n : ℕ) (es new : List (ℕ × ServicePeer)) (was s : ServicePeer) (bytes : List ℕ) → lookup (is_at (nat_cmp n)) es ≡ Some was
    → new ≡ set_value (is_at (nat_cmp n)) es s → s.greeting ≡ was.greeting → s.feed.rest ≡ was.feed.rest ++ bytes → MoreIsHeard n es new
heard_set n es new was s bytes there set greeting rest =
    heard_more n es new was s there set
    (bytes, ap (λ g. kept_frame g ++ s.feed.rest) greeting ∙ ap (λ r. kept_frame was.greeting ++ r) rest ∙ sym (append_assoc (kept_frame was.greeting) was.feed.rest bytes))

-- it heard nothing more
pub heard_same : (n : ℕ) (es new : List (ℕ × ServicePeer)) (was : ServicePeer) → lookup (is_at (nat_cmp n)) es ≡ Some was
    → new ≡ set_value (is_at (nat_cmp n)) es was → MoreIsHeard n es new
heard_same n es new was there set = heard_set n es new was was [] there set refl (sym (append-nil was.feed.rest))
