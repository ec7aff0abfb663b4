-- Questions that end: their opens are out, and the others are left.
use Rattle.std.proofs.Common.{◌≡◌, Option, IfSome, sym, ap, ◌∙◌, subst}
use Rattle.av_context.specs.declared.context_state.ContextState.{ContextState}
use Rattle.av_filter.specs.Ready.{IsRunning}
use Rattle.av_filter_table.proofs.TableLemmas.{all-others, none-of_others}
use Rattle.av_filter_table.specs.Asking.{ended}
use Rattle.av_filter_table.specs.FilterTable.{id_of}
use Rattle.av_filter_table.specs.Table.{Table, other_opens, question_at}
use Rattle.av_filter_table.specs.declared.question.Question.{Question}

-- the id of a question that runs, from its number
pub own_id : (t : Table) (q : Question) → IsRunning t q → id_of t.boot q.id.seq ≡ q.id
own_id t q runs = λ i. record { boot = sym runs.boot i; seq = q.id.seq }

-- a question ends whose opens went before
pub ends : (t t1 t2 : Table) (q : Question) (c : Option ContextState) → IsRunning t q → t1 ≡ record t { pended = other_opens (id_of t.boot q.id.seq) t.pended } → IfSome (question_at (id_of t1.boot q.id.seq) t1.questions) (λ k. t2 ≡ ended t1 k c) → t2 ≡ ended t q c
unfolding ended
ends t t1 t2 q c runs left holds =
    let id = own_id t q runs in
    let mid : Table = record t { pended = other_opens (id_of t.boot q.id.seq) t.pended } in
    let at_mid : IfSome (question_at (id_of mid.boot q.id.seq) mid.questions) (λ k. t2 ≡ ended mid k c) = subst (λ (u : Table). IfSome (question_at (id_of u.boot q.id.seq) u.questions) (λ k. t2 ≡ ended u k c)) left holds in
    let here : t2 ≡ ended mid q c = subst (λ o. IfSome o (λ k. t2 ≡ ended mid k c)) (ap (λ i. question_at i t.questions) id ∙ runs.found) at_mid in
    here ∙ ap (λ ps. record (ended t q c) { pended = ps }) (ap (λ i. other_opens q.id (other_opens i t.pended)) id ∙ all-others q.id (other_opens q.id t.pended) (none-of_others q.id t.pended))
