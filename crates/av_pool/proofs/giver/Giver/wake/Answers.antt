use Rattle.std.proofs.Common.{◌≡◌, ◌+◌, ap, sym, subst, ◌∙◌}
use Rattle.std.specs.List.{AllByRecursion as Each}
use Rattle.std.proofs.lemmas.List.{append-nil}
use Rattle.av_desk.specs.Lent.{FitsItsWork}
use Rattle.crossbeam_channel.specs.Claims.{view}
use Rattle.crossbeam_channel.specs.Ends.{sends_on}
use Rattle.av_pool.proofs.Channels.{one_channel}
use Rattle.av_pool.proofs.Sending.{gave_mark, given_more}
use Rattle.av_pool.specs.Items.{lents_of}
use Rattle.av_pool.specs.declared.item.WorkItem.{WorkItem}
use Rattle.av_pool.specs.declared.item.WorkItem.TheVariants.{Mark}
use Rattle.av_pool.specs.declared.tally.PassTally.{PassTally}
use Rattle.av_pool.specs.Channel.{channel_of}
use Rattle.av_pool.proofs.giver.Giver.wake.Goals as goal

pub returns : goal.returns
returns g c =
    let p = c.self.inside.pass in
    let q = c.send.new.pass in
    let same : channel_of q ≡ channel_of p = one_channel (sends_on c.self.inside.works) p q c.self.invariant.0 c.send.ensures.channel in
    gave_mark p q same c.send.ensures.put ∙ (λ i. record { channel = (c.self.view_is i).channel; given = (c.self.view_is i).given; marks = (c.self.view_is i).marks + 1 })

pub invariant_of-self : goal.invariant_of-self
invariant_of-self g c =
    let p = c.self.inside.pass in
    let q = c.send.new.pass in
    let more : lents_of (view q).put ≡ lents_of (view p).put = given_more (view p) (view q) Mark c.send.ensures.put ∙ append-nil (lents_of (view p).put) in (
      c.send.ensures.channel,
      ap (λ (z : PassTally WorkItem). z.parts) c.send.ensures.put ∙ c.self.invariant.1,
      ap (λ (z : PassTally WorkItem). z.taken) c.send.ensures.put ∙ c.self.invariant.2,
      subst (Each FitsItsWork) (sym more) c.self.invariant.3,
    )
