-- How the table follows where a question ends with its verdict.
use Rattle.std.proofs.Common.{◌≡◌, ℕ, ◌≤◌, max, List, [], ◌∷◌, Bool, true, false, Some, IfSome, cond, refl, sym, ap, subst, ◌∙◌, arith}
use Rattle.av_base.specs.declared.message_id.MessageId.{MessageId}
use Rattle.av_base.specs.declared.verdict.Verdict.{Verdict}
use Rattle.av_cache.specs.Cache.{put}
use Rattle.av_cache.specs.declared.entry.Entry.{Entry}
use Rattle.av_context.specs.declared.context_state.ContextState.TheVariants.{Judged}
use Rattle.av_filter_table.specs.Answering.{MayJudge}
use Rattle.av_filter_table.specs.Asking.{ended, settled}
use Rattle.av_filter_table.specs.Table.{Table, question_at, opens_of, other_opens, raised, waits_for}
use Rattle.av_filter_table.specs.declared.pended.Pended.{Pended}
use Rattle.av_filter_table.specs.declared.question.Question.{Question}
use Rattle.av_numbered.proofs.MapLemmas.{if_some_at}
use Rattle.av_filter_table.proofs.TableLemmas.{refused-ended}

-- a version that may judge all opens may judge those of a question
pub judge-some : (version : ℕ) (id : MessageId) (ps : List Pended) → MayJudge version ps → MayJudge version (opens_of id ps)
judge-some version id [] may = tt
judge-some version id (p ∷ ps) may = go (waits_for id p) refl (judge-some version id ps may.1)
  where
    go : (b : Bool) → waits_for id p ≡ b → MayJudge version (opens_of id ps) → MayJudge version (opens_of id (p ∷ ps))
    go true h rest = subst (MayJudge version) (sym (ap (λ b. cond b (p ∷ opens_of id ps) (opens_of id ps)) h)) (may.0, rest)
    go false h rest = subst (MayJudge version) (sym (ap (λ b. cond b (p ∷ opens_of id ps) (opens_of id ps)) h)) rest

abbrev entry : Question → ℕ → Verdict → Entry
entry q version r = record { stream = q.stream; generation = q.generation; version = version; verdict = r }

-- the verdict is kept, the opens go out, the question ends and the floor rises
pub settles : (t t1 t2 t3 t4 : Table) (id : MessageId) (q : Question) (version : ℕ) (r : Verdict) → question_at id t.questions ≡ Some q → t.floor ≤ version
    → t1 ≡ record t { cache = put t.limits.cache (record { stream = q.stream; generation = q.generation; version = version; verdict = r }) t.cache }
    → t2 ≡ record t1 { pended = other_opens id t1.pended } → IfSome (question_at id t2.questions) (λ x. t3 ≡ ended t2 x (Some (Judged version r))) → t4 ≡ raised version t3 → t4 ≡ settled t q version r
unfolding ended
settles t t1 t2 t3 t4 id q version r found low kept out ends rises =
    let asked : question_at id t1.questions ≡ Some q = ap (λ u. question_at id u.questions) kept ∙ found in
    let end : t3 ≡ ended t1 q (Some (Judged version r)) = if_some_at (λ x. t3 ≡ ended t1 x (Some (Judged version r))) (question_at id t1.questions) q (refused-ended t1 t2 t3 id (Some (Judged version r)) out ends) asked in
    let highest : max t.floor version ≡ version = omega arith in
    rises ∙ (ap {B = Table} (raised version) end
    ∙ (ap {B = Table} (λ u. raised version (ended u q (Some (Judged version r)))) kept
    ∙ ap {B = Table} (λ n. record (ended t q (Some (Judged version r))) { floor = n; cache = put t.limits.cache (entry q version r) t.cache }) highest))
