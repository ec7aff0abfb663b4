-- Each message of a guard is for a service that is there.
use Rattle.std.proofs.Common.{◌≡◌, ℕ, Bool, true, false, ◌&&◌, ◌==◌, nat_lt, List, [], ◌∷◌, length, find, Option, Some, None, if◌then◌else◌, refl, ◌∙◌, sym, subst, inl, inr}
use Rattle.std.specs.List.{AllByRecursion as Each}
use Rattle.std.specs.Prelude.{MatchOption}
use Rattle.av_base.specs.MessageId.{same_id}
use Rattle.av_base.specs.declared.port.Port.{Port}
use Rattle.av_base.specs.declared.port.Port.TheVariants.{One, Two}
use Rattle.av_filter.proofs.EachLemmas.{each-append, find_each}
use Rattle.av_filter.proofs.PortLemmas.{keeps_ports}
use Rattle.av_filter.proofs.RowLemmas.{again_row, row_of}
use Rattle.av_filter.specs.Again.{again, ends}
use Rattle.av_filter.specs.Audit.{FilterEntry, IsFilterAudit}
use Rattle.av_filter.specs.Conduct.{FilterEvent, again_each, disconnects, disconnects_to, filter_step, loses_all, moves, restarts}
use Rattle.av_filter.specs.Fit.{RunOnOpen}
use Rattle.av_filter.specs.Reaction.{Reaction}
use Rattle.av_filter.specs.Rows
use Rattle.av_filter.specs.Rows.{AgainRow, OpenRow, Row, without}
use Rattle.av_filter_table.specs.Asking.{asks, ended}
use Rattle.av_filter_table.specs.Ports.{is_open, least_port, without_port}
use Rattle.av_filter_table.specs.Table.{Table, asking, on_port, sequence_left}
use Rattle.av_filter_table.specs.declared.ports.Ports.{Ports}
use Rattle.av_filter_table.specs.declared.question.Question.{Question}
use Rattle.av_frame.specs.Message.{Letter}
use Rattle.av_guard.specs.Serving.{AreForServices, IsForService}
use Rattle.av_guard.specs.State.{LosesService}
use Rattle.av_store.specs.Store.{Store}

-- where a service is lost, another takes its questions, or all end
pub loses_service : (t : Table) (v : Store) (port : Port) → LosesService t v port
unfolding filter_step disconnects disconnects_to
loses_service t v port = go (least_port (without_port port t.connected))
  where
    go : (o : Option Port) → MatchOption o (disconnects_to o (without t port) v port ≡ loses_all (without t port) v) (λ other. disconnects_to o (without t port) v port ≡ moves (without t port) v (on_port port t.questions))
    go None = refl
    go (Some other) = refl

abbrev HasService : Ports → Port → Type 0
HasService c p = is_open p c ≡ true

least_served : (c : Ports) (p : Port) → least_port c ≡ Some p → HasService c p
least_served c p h = go c.one c.two h
  where
    go : (b d : Bool) → (if b then Some One else (if d then Some Two else None)) ≡ Some p → HasService (record { one = b; two = d }) p
    go true d h = let same : One ≡ p = cc (h) in subst (HasService (record { one = true; two = d })) same refl
    go false true h = let same : Two ≡ p = cc (h) in subst (HasService (record { one = false; two = true })) same refl
    go false false h = absurd (cc (h))

asking_served : (t : Table) (p : Port) → asking t ≡ Some p → HasService t.connected p
asking_served t p h = go (nat_lt (length t.questions) t.limits.questions && sequence_left t) h
  where
    go : (b : Bool) → (if b then least_port t.connected else None) ≡ Some p → HasService t.connected p
    go true h = least_served t.connected p h
    go false h = absurd (cc (h))

-- all that a reaction sends
abbrev Served : FilterEvent → Reaction → Type 0
Served e r = Each (IsForService r.table e) r.messages

again_served : {t : Table} {v : Store} {q : Question} {early : List Letter} {r : Reaction} (e : FilterEvent) → AgainRow (least_port t.connected) t v q early r → Each (IsForService t e) early → Served e r
unfolding ends ended asks
again_served {t} {v} {q} {early} e (Rows.anew port to left) h = each-append (IsForService t e) early _ h (inl (least_served t.connected port to), tt)
again_served e (Rows.over why) h = h

-- a question that is asked again connects nobody
again_same : {o : Option Port} {t : Table} {v : Store} {q : Question} {early : List Letter} {r : Reaction} → AgainRow o t v q early r → r.table.connected ≡ t.connected
unfolding ends ended asks
again_same (Rows.anew port to left) = refl
again_same (Rows.over why) = refl

each_same : (v : Store) (qs : List Question) (t : Table) → (again_each t v qs).table.connected ≡ t.connected
unfolding again_each
each_same v [] t = refl
each_same v (q ∷ qs) t = each_same v qs (again t v q []).table ∙ again_same (again_row (least_port t.connected) t v q [])

each_served : (e : FilterEvent) (v : Store) (qs : List Question) (t : Table) → Served e (again_each t v qs)
unfolding again_each
each_served e v [] t = tt
each_served e v (q ∷ qs) t =
    let r : Reaction = again t v q [] in
    let rest : Reaction = again_each r.table v qs in
    let one : Each (IsForService rest.table e) r.messages =
    subst (λ (c : Ports). Each (IsForService (record rest.table { connected = c }) e) r.messages) (sym (each_same v qs r.table)) (again_served e (again_row (least_port t.connected) t v q []) tt) in
    each-append (IsForService rest.table e) r.messages rest.messages one (each_served e v qs r.table)

-- a question that is found runs where a service is
found_served : (t : Table) → RunOnOpen t → (test : Question → Bool) (q : Question) → find test t.questions ≡ Some q → HasService t.connected q.port
found_served t run test q at = find_each (λ k. is_open k.port t.connected ≡ true) test t.questions q run at

opened_served : {t : Table} {v : Store} {s least : ℕ} {r : Reaction} (e : FilterEvent) → OpenRow t v s least r → Served e r
unfolding asks
opened_served {t} e (Rows.asked x port at none room ask) = (inl (asking_served t port ask), tt)
opened_served e _ = tt

row_served : {t : Table} {v : Store} {e : FilterEvent} {r : Reaction} → Row t v e r → RunOnOpen t → Served e r
unfolding asks ended loses_all moves restarts
row_served {e = e} (Rows.opens s least r row) run = opened_served e row
row_served {t} {e = e} (Rows.outdated c s q of at) run = again_served e (again_row _ t _ q _) (inl (found_served t run (λ k. k.stream == s) q at), tt)
row_served {t} (Rows.gone s q at) run = (inl (found_served t run (λ k. k.stream == s) q at), tt)
row_served {t} {v} {e} (Rows.stale port id version r q at old) run = again_served e (again_row _ t v q []) tt
row_served {t} (Rows.timed_out seq q at) run = (inl (found_served t run (λ k. same_id k.id (record { boot = t.boot; seq = seq })) q at), tt)
row_served (Rows.not_read port id offset count c) run = (inr refl, tt)
row_served (Rows.read port id offset count q at more) run = (inr refl, tt)
row_served {t} {v} {e} (Rows.moved port other left) run = each_served e v (on_port port t.questions) (without t port)
row_served {t} (Rows.cleaned s x port at changed ask) run = (inl (asking_served t port ask), tt)
row_served _ run = tt

-- all of an audit
pub audit_served : (t : Table) (v : Store) (xs : List FilterEntry) → RunOnOpen t → IsFilterAudit t v xs → AreForServices t v xs
audit_served t v [] run legal = tt
audit_served t v (x ∷ xs) run legal =
    let r : Reaction = filter_step t v x.event in (
      subst (Each (IsForService r.table x.event)) (sym legal.1.messages) (row_served (row_of t v x.event) run),
      audit_served r.table r.volume xs (keeps_ports t v x.event run legal.0) legal.2,
    )
