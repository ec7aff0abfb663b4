-- Each question runs on a port that is connected.
use Rattle.std.proofs.Common.{◌≡◌, ℕ, Bool, true, false, not, ◌&&◌, ◌||◌, if◌then◌else◌, nat_lt, List, [], ◌∷◌, length, Some, None, refl, sym, ◌∙◌, subst}
use Rattle.std.proofs.lemmas.Bool.{true≢false}
use Rattle.std.specs.List.{AllByRecursion as Each, list_any}
use Rattle.av_base.proofs.KeyLemmas.{same_id-refl}
use Rattle.av_base.specs.MessageId.{same_id}
use Rattle.av_base.specs.declared.message_id.MessageId.{MessageId}
use Rattle.av_store.specs.Store.{Store}
use Rattle.av_filter.proofs.EachLemmas.{each-append, each-filter, each_weaker}
use Rattle.av_filter.proofs.RowLemmas.{again_row, row_of}
use Rattle.av_filter.specs.Rows
use Rattle.av_filter.specs.Rows.{AgainRow, OpenRow, Row, without}
use Rattle.av_filter.specs.Again.{again, ends}
use Rattle.av_filter_table.specs.Asking.{asks, ended, next_question}
use Rattle.av_filter.specs.Conduct.{FilterEvent, again_each, filter_step, loses_all, moves, restarts}
use Rattle.av_filter.specs.Fit.{KeepsPorts, RunOnOpen}
use Rattle.av_frame.specs.Message.{Letter}
use Rattle.av_base.specs.declared.port.Port.TheVariants.{One, Two}
use Rattle.av_base.specs.declared.port.Port.{Port}
use Rattle.av_filter_table.specs.declared.ports.Ports.{Ports}
use Rattle.av_filter_table.specs.declared.question.Question.{Question}
use Rattle.av_filter_table.specs.Ports.{is_open, least_port, with_port, without_port}
use Rattle.av_base.specs.Port.{same_port}
use Rattle.av_filter.specs.Reaction.{Reaction}
use Rattle.av_filter_table.specs.Table.{Table, asking, on_port, sequence_left, without_question}

-- a question runs on an open port
abbrev On : Ports → Question → Type 0
On c q = is_open q.port c ≡ true

-- the least connected port is connected
open_least : (c : Ports) (p : Port) → least_port c ≡ Some p → is_open p c ≡ true
open_least c p h = go c.one c.two h
  where
    go : (b d : Bool) → (if b then Some One else (if d then Some Two else None)) ≡ Some p → is_open p (record { one = b; two = d }) ≡ true
    go true d h = let same : One ≡ p = cc (h) in subst (λ (q : Port). is_open q (record { one = true; two = d }) ≡ true) same refl
    go false true h = let same : Two ≡ p = cc (h) in subst (λ (q : Port). is_open q (record { one = false; two = true }) ≡ true) same refl
    go false false h = absurd (cc (h))

asking_open : (t : Table) (p : Port) → asking t ≡ Some p → is_open p t.connected ≡ true
asking_open t p h = go (nat_lt (length t.questions) t.limits.questions && sequence_left t) h
  where
    go : (b : Bool) → (if b then least_port t.connected else None) ≡ Some p → is_open p t.connected ≡ true
    go true h = open_least t.connected p h
    go false h = absurd (cc (h))

still_open : (p q : Port) (c : Ports) → is_open q c ≡ true → is_open q (with_port p c) ≡ true
still_open One One c h = refl
still_open One Two c h = h
still_open Two One c h = h
still_open Two Two c h = refl

left_open : (p q : Port) (c : Ports) → same_port q p ≡ false → is_open q c ≡ true → is_open q (without_port p c) ≡ true
left_open One One c n h = absurd (cc (n))
left_open One Two c n h = h
left_open Two One c n h = h
left_open Two Two c n h = absurd (cc (n))

abbrev Runs : Reaction → Type 0
Runs r = RunOnOpen r.table

asks_runs : (t : Table) (v : Store) (p : Port) (s : ℕ) → is_open p t.connected ≡ true → RunOnOpen t → RunOnOpen (asks t v p s)
unfolding asks
asks_runs t v p s o h = each-append (On t.connected) t.questions (next_question t v p s ∷ []) h (o, tt)

ended_runs : (t : Table) (q : Question) (c : _) → RunOnOpen t → RunOnOpen (ended t q c)
unfolding ended
ended_runs t q c h = each-filter (On t.connected) (λ x. not (same_id x.id q.id)) t.questions h

again_runs : {t : Table} {v : Store} {q : Question} {early : List Letter} {r : Reaction} → AgainRow (least_port t.connected) t v q early r → RunOnOpen t → Runs r
unfolding ends asks
again_runs {t} {v} {q} (Rows.over why) h = ended_runs t q _ h
again_runs {t} {v} {q} (Rows.anew port to left) h =
    each-append (On t.connected) (without_question q.id t.questions) (next_question t v port q.stream ∷ [])
    (each-filter (On t.connected) (λ x. not (same_id x.id q.id)) t.questions h) (open_least t.connected port to, tt)

-- a question is on an open port, or is still to be walked
abbrev OnOr : Ports → List Question → Question → Type 0
OnOr c qs k = (b : Bool) → is_open k.port c ≡ b → b ≡ false → list_any (λ q. same_id k.id q.id) qs ≡ true

stays_or : (c : Ports) (q : Question) (qs ks : List Question) → Each (OnOr c (q ∷ qs)) ks → Each (OnOr c qs) (without_question q.id ks)
stays_or c q qs [] h = tt
stays_or c q qs (k ∷ ks) h =
    let rest = stays_or c q qs ks h.1 in
    elim (same_id k.id q.id) as (λ b. same_id k.id q.id ≡ b → Each (OnOr c qs) (if not b then k ∷ without_question q.id ks else without_question q.id ks)) [
      | true ↦ λ e. rest
      | false ↦ λ e. ((λ b o f. subst (λ (x : Bool). (x || list_any (λ (q : Question). same_id k.id q.id) qs) ≡ true) e (h.0 b o f)), rest)
    ] refl

new_or : (c : Ports) (qs : List Question) (k : Question) → is_open k.port c ≡ true → OnOr c qs k
new_or c qs k o b e f = absurd (true≢false (sym o ∙ (e ∙ f)))

abbrev OrAfter : List Question → Reaction → Type 0
OrAfter qs r = Each (OnOr r.table.connected qs) r.table.questions

again_or : {t : Table} {v : Store} {q : Question} {early : List Letter} {r : Reaction} (qs : List Question) → AgainRow (least_port t.connected) t v q early r
    → Each (OnOr t.connected (q ∷ qs)) t.questions → OrAfter qs r
unfolding ends ended asks
again_or {t} {v} {q} qs (Rows.over why) h = stays_or t.connected q qs t.questions h
again_or {t} {v} {q} qs (Rows.anew port to left) h =
    let new : Question = next_question t v port q.stream in
    each-append (OnOr t.connected qs) (without_question q.id t.questions) (new ∷ []) (stays_or t.connected q qs t.questions h)
    (new_or t.connected qs new (open_least t.connected port to), tt)

each_runs : (v : Store) (qs : List Question) (t : Table) → Each (OnOr t.connected qs) t.questions → RunOnOpen (again_each t v qs).table
unfolding again_each
each_runs v [] t h = each_weaker (OnOr t.connected []) (On t.connected) (λ k o. closed k o) t.questions h
  where
    closed : (k : Question) → OnOr t.connected [] k → On t.connected k
    closed k o = elim (is_open k.port t.connected) as (λ b. is_open k.port t.connected ≡ b → b ≡ true) [ true ↦ λ e. refl | false ↦ λ e. absurd (cc (o false e refl)) ] refl
each_runs v (q ∷ qs) t h = each_runs v qs (again t v q []).table (again_or qs (again_row (least_port t.connected) t v q []) h)

-- a question of the port is to be walked, and any other is on an open port still
walked : (p : Port) (c : Ports) (all ks : List Question) → Each (On c) ks → Each (λ k. same_port k.port p ≡ true → list_any (λ q. same_id k.id q.id) all ≡ true) ks → Each (OnOr (without_port p c) all) ks
walked p c all [] h g = tt
walked p c all (k ∷ ks) h g = (
  elim (same_port k.port p) as (λ b. same_port k.port p ≡ b → OnOr (without_port p c) all k) [
    | true ↦ λ e b o f. g.0 e
    | false ↦ λ e. new_or (without_port p c) all k (left_open p k.port c e h.0)
  ] refl,
  walked p c all ks h.1 g.1,
)

-- a member of a list is found in it by its id
more_any : (i : MessageId) (x : Question) (qs : List Question) → list_any (λ (q : Question). same_id i q.id) qs ≡ true → list_any (λ (q : Question). same_id i q.id) (x ∷ qs) ≡ true
more_any i x qs h = elim (same_id i x.id) as (λ b. (b || list_any (λ (q : Question). same_id i q.id) qs) ≡ true) [ true ↦ refl | false ↦ h ]

own_any : (p : Port) (ks : List Question) → Each (λ k. same_port k.port p ≡ true → list_any (λ q. same_id k.id q.id) (on_port p ks) ≡ true) ks
own_any p [] = tt
own_any p (k ∷ ks) =
    elim (same_port k.port p) as (λ b. same_port k.port p ≡ b → Each (λ x. same_port x.port p ≡ true → list_any (λ q. same_id x.id q.id) (if b then k ∷ on_port p ks else on_port p ks) ≡ true) (k ∷ ks)) [
      | true ↦ λ e. ((λ _. rw (same_id-refl k.id) refl), each_weaker (λ (x : Question). same_port x.port p ≡ true → list_any (λ q. same_id x.id q.id) (on_port p ks) ≡ true) (λ (x : Question). same_port x.port p ≡ true → list_any (λ q. same_id x.id q.id) (k ∷ on_port p ks) ≡ true) (λ x g s. more_any x.id k (on_port p ks) (g s)) ks (own_any p ks))
      | false ↦ λ e. ((λ s. absurd (true≢false (sym s ∙ e))), own_any p ks)
    ] refl

lost_runs : (v : Store) (p : Port) (t : Table) → RunOnOpen t → RunOnOpen (again_each (without t p) v (on_port p t.questions)).table
lost_runs v p t h =
    each_runs v (on_port p t.questions) (without t p) (walked p t.connected (on_port p t.questions) t.questions h (own_any p t.questions))

-- ---- each row

open_runs : {t : Table} {v : Store} {s least : ℕ} {r : Reaction} → OpenRow t v s least r → RunOnOpen t → Runs r
open_runs {t} {v} {s} (Rows.asked x port at none room e) h = asks_runs t v port s (asking_open t port e) h
open_runs _ h = h

row_runs : {t : Table} {v : Store} {e : FilterEvent} {r : Reaction} → Row t v e r → RunOnOpen t → Runs r
unfolding ended loses_all moves restarts
row_runs (Rows.opens s least r row) h = open_runs row h
row_runs {t} (Rows.outdated c s q is at) h = again_runs (again_row _ t _ q _) h
row_runs {t} (Rows.stale port id version r q at old) h = again_runs (again_row _ t _ q _) h
row_runs {t} {v} (Rows.cleaned s x port at is e) h = asks_runs t v port s (asking_open t port e) h
row_runs {t} (Rows.greeted port number version same free up) h =
    each_weaker (On t.connected) (On (with_port port t.connected)) (λ q o. still_open port q.port t.connected o) t.questions h
row_runs {t} (Rows.gone s q at) h = ended_runs t q None h
row_runs {t} (Rows.failed port id why q at) h = ended_runs t q None h
row_runs {t} (Rows.replied port id version r q at up) h = ended_runs t q None h
row_runs {t} (Rows.timed_out seq q at) h = ended_runs t q None h
row_runs {t} {v} (Rows.moved port other left) h = lost_runs v port t h
row_runs (Rows.lost port none) h = tt
row_runs Rows.restarted h = tt
row_runs _ h = h

pub event_runs : (t : Table) (v : Store) (e : FilterEvent) → RunOnOpen t → RunOnOpen (filter_step t v e).table
event_runs t v e h = row_runs (row_of t v e) h

pub keeps_ports : KeepsPorts
keeps_ports t v e h ok = event_runs t v e h
