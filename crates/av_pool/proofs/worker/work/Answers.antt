use Rattle.std.proofs.Common.{rules, ap, sym, ◌∙◌, [], ◌∷◌}
use Rattle.av_pool.proofs.Sending.{sent_more}
use Rattle.av_pool.specs.Items.{run_in}
use Rattle.av_pool.specs.Run.{done_of}
use Rattle.av_pool.specs.declared.item.DoneItem.TheVariants.{Parcel, Mark, End}
use Rattle.av_service.specs.Work.{DoneState}
use Rattle.av_pool.proofs.worker.work.Goals as goal

pub loop-preserved-in-Parcel : goal.loop-preserved-in-Parcel
loop-preserved-in-Parcel g c =
    (search rules, search rules, sent_more _ _ _ _ c.receive.result (Parcel c.run-ran.result) c.loop.invariant.2 c.receive.ensures.took c.send.ensures.put (ap (λ (d : DoneState). d ∷ []) (c.run-ran.ensures ∙ ap done_of c.unpack-lent.ensures) ∙ sym (ap run_in c.in-Parcel.is)))

pub loop-preserved : goal.loop-preserved
loop-preserved g c = (search rules, search rules, sent_more _ _ _ _ c.receive.result Mark c.loop.invariant.2 c.receive.ensures.took c.send-in-Mark.ensures.put (sym (ap run_in c.in-Mark.is)))

pub returns-in-End-clause-sent : goal.returns-in-End-clause-sent
returns-in-End-clause-sent g c = sent_more _ _ _ _ c.receive.result End c.loop.invariant.2 c.receive.ensures.took c.send-in-End.ensures.put (sym (ap run_in c.in-End.is))
