use Rattle.std.proofs.Common.{sym, subst}
use Rattle.av_frame.specs.declared.end.End.{End}
use Rattle.av_frame.specs.declared.end.End.TheVariants.{AuditFull, Closed, Done, Frame, Memory, ReadFault, WriteFault}
use Rattle.av_status.specs.Status.{IsFault, graver, status_of_end}
use Rattle.av_host.proofs.crew.fn.meet.scope.Goals as goal

without_memory : (e : End) → IsFault (status_of_end (graver e Memory))
without_memory Done = tt
without_memory Closed = tt
without_memory Frame = tt
without_memory AuditFull = tt
without_memory Memory = tt
without_memory ReadFault = tt
without_memory WriteFault = tt

pub returns-in-Err : goal.returns-in-Err
returns-in-Err g c = record { brought = tt; failed = subst (λ e. IsFault (status_of_end e)) (sym c.gravest.ensures) (without_memory c.with_lack-end.result) }
