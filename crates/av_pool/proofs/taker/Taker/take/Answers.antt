use Rattle.std.proofs.Common.{◌≡◌, ◌+◌, [], ◌∷◌, ◌++◌, refl, sym, ap, ◌∙◌}
use Rattle.crossbeam_channel.specs.Claims.{view}
use Rattle.crossbeam_channel.specs.Ends.{receives_on}
use Rattle.av_pool.proofs.Channels.{one_channel}
use Rattle.av_pool.proofs.Sending.{took_done, took_none}
use Rattle.av_pool.specs.Channel.{channel_of}
use Rattle.av_pool.specs.Tally.{tally}
use Rattle.av_pool.specs.declared.item.DoneItem.{DoneItem}
use Rattle.av_pool.specs.declared.item.DoneItem.TheVariants.{Parcel, Mark, End}
use Rattle.av_service.specs.Work.{DoneState}
use Rattle.av_pool.proofs.taker.Taker.take.Goals as goal
use Rattle.av_pool.proofs.taker.Taker.take.Goals.{in-Parcel, in-Mark, in-End}

pub returns-clause-taken : goal.returns-clause-taken
returns-clause-taken g c =
    let p = c.self.inside.pass in
    let q = c.receive.new.pass in
    let same : channel_of q ≡ channel_of p = one_channel (receives_on c.self.inside.dones) p q c.self.invariant.0 c.receive.ensures.channel in
    let with : (x : DoneItem) → c.receive.result ≡ x → view q ≡ tally (view p).parts (view p).put ((view p).taken ++ x ∷ []) =
    λ x e. c.receive.ensures.took ∙ ap (λ (y : DoneItem). tally (view p).parts (view p).put ((view p).taken ++ y ∷ [])) e in
    elim c.match-receive.branch [
      | in-Parcel w ↦
          rw w.result-is (took_done p q w.unpack.result same (with (Parcel w.unpack.result) (w.in-Parcel.is ∙ ap (λ (d : DoneState). Parcel d) (sym w.unpack.ensures.same)))
          ∙ (λ i. record { channel = (c.self.view_is i).channel; taken = (c.self.view_is i).taken ++ w.unpack.result ∷ []; marks = (c.self.view_is i).marks }))
      | in-Mark w ↦
          rw w.result-is (took_none p q Mark same (with Mark w.in-Mark.is) refl refl
          ∙ (λ i. record { channel = (c.self.view_is i).channel; taken = (c.self.view_is i).taken; marks = (c.self.view_is i).marks + 1 }))
      | in-End w ↦
          rw w.result-is (took_none p q End same (with End w.in-End.is) refl refl
          ∙ (λ i. record { channel = (c.self.view_is i).channel; taken = (c.self.view_is i).taken; marks = (c.self.view_is i).marks + 1 }))
    ]
