-- A desk that finishes its own works, entry by entry.
use Rattle.std.proofs.Common.{◌≡◌, ℕ, ◌<◌, zero, suc, List, [], ◌∷◌, ◌++◌, Some, take, length, get_or, slice_get, refl, sym, ap, ◌∙◌, subst, arith}
use Rattle.std.proofs.lemmas.Option.{get_or_from_slice_get, slice_get_read, slice_get_within}
use Rattle.av_base.proofs.AmongLemmas.{among_each, among_left, among_right}
use Rattle.av_base.specs.Among.{Among}
use Rattle.av_service.specs.Audit.{Call, ServiceEntry, lent_by, sets_after}
use Rattle.av_service.specs.Work.{WorkState}
use Rattle.av_sigset.specs.Publication.{Publication}
use Rattle.av_base.specs.declared.message_id.MessageId.{MessageId}
use Rattle.av_base.specs.declared.port.Port.{Port}
use Rattle.av_frame.specs.Message.{Letter, via}
use Rattle.av_frame.specs.declared.message.Body.TheVariants.{Chunk}
use Rattle.av_service.proofs.LendLemmas.{IsOfMessage, lends_what_came}
use Rattle.av_service.specs.Audit.{By, IsServiceAudit, Publishes, respond}
use Rattle.av_service.specs.Conduct.{Receives, ServiceEvent}
use Rattle.av_service.specs.Conduct as service
use Rattle.av_service.specs.Desk.{Desk}
use Rattle.av_history.specs.Audits.{FinishesItsWorks, IsOfWorks}
use Rattle.av_desk.specs.Audit.{opened_by}
use Rattle.av_desk.specs.declared.audit.Audit.{Audit as DeskAudit}
use Rattle.av_shared.specs.Works.{HasOwnWorks, IsOwnAt}

-- each entry is own, so the desk finishes its own works
abbrev IsOwn : List Publication → List WorkState → ServiceEntry → Type 0
IsOwn sets works x = IsOfWorks sets works x.call × (sets_after sets x.call ≡ sets)

all_own : (xs : List ServiceEntry) (sets : List Publication) (works : List WorkState)
    → ((i : ℕ) (x : ServiceEntry) → slice_get xs i ≡ Some x → IsOwn sets (lent_by works (take i xs)) x)
    → FinishesItsWorks sets works xs
all_own [] sets works own = tt
all_own (y ∷ ys) sets works own =
    let first : IsOwn sets works y = own 0 y (slice_get_read (y ∷ ys) (length (y ∷ ys)) 0 y refl (omega arith) refl) in
    let rest : (i : ℕ) (x : ServiceEntry) → slice_get ys i ≡ Some x → IsOwn sets (lent_by (works ++ y.works) (take i ys)) x =
    λ i x e. own (suc i) x (slice_get_read (y ∷ ys) (length (y ∷ ys)) (suc i) x refl (omega (arith, slice_get_within ys i x e)) (sym (get_or_from_slice_get ys i x x e))) in
    (first.0, subst (λ (s : List Publication). FinishesItsWorks s (works ++ y.works) ys) (sym first.1) (all_own ys sets (works ++ y.works) rest))

pub own_everywhere : (a : DeskAudit) → ((at : ℕ) → at < length a.events.items → IsOwnAt a at) → HasOwnWorks a
own_everywhere a own =
    all_own a.events.items (opened_by a) [] (λ i x e. let here = own i (slice_get_within a.events.items i x e) in (here.own x e, here.same x e))

lent_still : (xs : List ServiceEntry) (k : WorkState) (works : List WorkState) → Among k works → Among k (lent_by works xs)
lent_still [] k works a = a
lent_still (y ∷ ys) k works a = lent_still ys k (works ++ y.works) (among_left k works y.works a)

pub lent_has : (xs : List ServiceEntry) (i n : ℕ) (x : ServiceEntry) (k : WorkState) (works : List WorkState) → slice_get xs i ≡ Some x → i < n → Among k x.works → Among k (lent_by works (take n xs))
lent_has xs i n x k works h lt a = go xs i n works (slice_get_within xs i x h) (get_or_from_slice_get xs i x x h) lt
  where
    go : (xs : List ServiceEntry) (i n : ℕ) (works : List WorkState) → i < length xs → get_or xs i x ≡ x → i < n → Among k (lent_by works (take n xs))
    go [] i n works short e lt = absurd (omega (arith, short))
    go (y ∷ ys) i zero works short e lt = absurd (omega (arith, lt))
    go (y ∷ ys) zero (suc n) works short e lt = lent_still (take n ys) k (works ++ y.works) (among_right k works y.works (subst (λ (z : ServiceEntry). Among k z.works) (sym e) a))
    go (y ∷ ys) (suc i) (suc n) works short e lt = go ys i n (works ++ y.works) (omega (arith, short)) e (omega (arith, lt))

-- ---- the bytes of a work that a legal audit lent are those of its message

abbrev pub IsLentFor : Call → WorkState → Type 0
IsLentFor c k = (port : Port) × (id : MessageId) × (offset : ℕ) × (c ≡ By (Receives (via port (Chunk id offset k.chunk))))

of_event : (e : ServiceEvent) (k : WorkState) → IsOfMessage e k → IsLentFor (By e) k
of_event e k h = (h.0, h.1, h.2, ap By h.3)

not_published : (v : ℕ) (k : WorkState) → IsOfMessage (service.Publishes v) k → ⊥
not_published v k h = let e : service.Publishes v ≡ Receives (via h.0 (Chunk h.1 h.2 k.chunk)) = h.3 in cc (e)

called : (d : Desk) (c : Call) (k : WorkState) → Among k (respond d c).works → IsLentFor c k
called d (By e) k a = of_event e k (among_each (IsOfMessage e) (respond d (By e)).works k (lends_what_came d e) a)
called d (Publishes v ps) k a = absurd (not_published v k (among_each (IsOfMessage (service.Publishes v)) (respond d (Publishes v ps)).works k (lends_what_came d (service.Publishes v)) a))

pub lent_for : (xs : List ServiceEntry) (i : ℕ) (x : ServiceEntry) (k : WorkState) (sets : List Publication) (d : Desk) → IsServiceAudit sets d xs → slice_get xs i ≡ Some x → Among k x.works → IsLentFor x.call k
lent_for xs i x k sets d legal h a = go xs i sets d legal (slice_get_within xs i x h) (get_or_from_slice_get xs i x x h)
  where
    go : (xs : List ServiceEntry) (i : ℕ) (sets : List Publication) (d : Desk) → IsServiceAudit sets d xs → i < length xs → get_or xs i x ≡ x → IsLentFor x.call k
    go [] i sets d legal short e = absurd (omega (arith, short))
    go (y ∷ ys) zero sets d legal short e =
        let same : Among k y.works = subst (λ (z : ServiceEntry). Among k z.works) (sym e) a in
        subst (λ (z : ServiceEntry). IsLentFor z.call k) e (called d y.call k (subst (Among k) legal.1.works same))
    go (y ∷ ys) (suc i) sets d legal short e = go ys i (sets_after sets y.call) (respond d y.call).desk legal.2 (omega (arith, short)) e

-- so where the message is known, the bytes are
pub bytes_of : (m : Letter) (id : MessageId) (offset : ℕ) (bytes : List ℕ) (k : WorkState) → m.body ≡ Chunk id offset bytes → IsLentFor (By (Receives m)) k → k.chunk ≡ bytes
bytes_of m id offset bytes k is h =
    let e : By (Receives m) ≡ By (Receives (via h.0 (Chunk h.1 h.2 k.chunk))) = h.3 in
    let same : m ≡ via h.0 (Chunk h.1 h.2 k.chunk) = cc (e) in
    let body : Chunk h.1 h.2 k.chunk ≡ Chunk id offset bytes = sym (ap (λ (l : Letter). l.body) same) ∙ is in
    cc (body)
