use Rattle.std.proofs.Common.{ℕ, ◌≡◌, ◌⊎◌, inl, inr, Bool, List, arith, subst, sym}
use Rattle.av_base.specs.Recorded.{AreLeft}
use Rattle.av_frame.specs.declared.end.End.{End}
use Rattle.av_frame.specs.declared.end.End.TheVariants.{Done, ReadFault, WriteFault, Frame, Closed, Memory, AuditFull}
use Rattle.av_engines.specs.Cause.{IsOfReader, IsOfReads, IsOfWriter}
use Rattle.av_engines.specs.FilterEnd.{Leaves}
use Rattle.av_filter_table.specs.Table.{Table}
use Rattle.av_pend.specs.declared.answer.Answer.{Answer}
use Rattle.av_store.specs.Store.{Store}

-- all reads are left before the first
pub left_all : (allowed before : ℕ) → AreLeft allowed before before allowed
left_all allowed before = omega (arith)

-- what is left after some reads, and then after more
pub left_then : (allowed before between after some rest : ℕ) → AreLeft allowed before between some → AreLeft some between after rest
    → AreLeft allowed before after rest
left_then allowed before between after some rest p q = omega (arith, p, q)

-- the last reader's failure, or no read left, is that of the whole run
pub of_reads : (e : End) (failed : Bool) (allowed before after left : ℕ) → AreLeft allowed before after left → IsOfReader e failed left
    → IsOfReads e failed allowed before after
of_reads Done failed allowed before after left p q = tt
of_reads ReadFault failed allowed before after left p (inl q) = inl q
of_reads ReadFault failed allowed before after left p (inr q) = inr (subst (λ n. AreLeft allowed before after n) q p)
of_reads WriteFault failed allowed before after left p q = tt
of_reads Frame failed allowed before after left p q = tt
of_reads Closed failed allowed before after left p q = tt
of_reads Memory failed allowed before after left p q = tt
of_reads AuditFull failed allowed before after left p q = tt

-- the end that an engine would have had, or want of memory
pub same_end : (would end : End) (t : Table) (v : Store) (a : List Answer) (t' : Table) (a' : List Answer) → Leaves would end t v a t' a'
    → (end ≡ would) ⊎ (end ≡ Memory)
same_end Done end t v a t' a' p = inl p.0
same_end Memory end t v a t' a' p = inl p.0
same_end AuditFull end t v a t' a' p = inl p.0
same_end ReadFault end t v a t' a' (inl p) = inl p.0
same_end ReadFault end t v a t' a' (inr p) = inr p.0
same_end WriteFault end t v a t' a' (inl p) = inl p.0
same_end WriteFault end t v a t' a' (inr p) = inr p.0
same_end Frame end t v a t' a' (inl p) = inl p.0
same_end Frame end t v a t' a' (inr p) = inr p.0
same_end Closed end t v a t' a' (inl p) = inl p.0
same_end Closed end t v a t' a' (inr p) = inr p.0

-- what was a cause of it is one of the other
pub reads_of : (would end : End) (failed : Bool) (allowed before after : ℕ) → (end ≡ would) ⊎ (end ≡ Memory)
    → IsOfReads would failed allowed before after → IsOfReads end failed allowed before after
reads_of would end failed allowed before after (inl same) p = subst (λ e. IsOfReads e failed allowed before after) (sym same) p
reads_of would end failed allowed before after (inr none) p = subst (λ e. IsOfReads e failed allowed before after) (sym none) tt

pub writer_of : (would end : End) (failed : Bool) → (end ≡ would) ⊎ (end ≡ Memory) → IsOfWriter would failed → IsOfWriter end failed
writer_of would end failed (inl same) p = subst (λ e. IsOfWriter e failed) (sym same) p
writer_of would end failed (inr none) p = subst (λ e. IsOfWriter e failed) (sym none) tt
