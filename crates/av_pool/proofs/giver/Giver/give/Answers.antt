use Rattle.std.proofs.Common.{◌≡◌, [], ◌∷◌, ◌++◌, ap, sym, subst, ◌∙◌}
use Rattle.std.specs.List.{AllByRecursion as Each}
use Rattle.av_desk.specs.Lent.{FitsItsWork}
use Rattle.crossbeam_channel.specs.Claims.{view}
use Rattle.crossbeam_channel.specs.Ends.{sends_on}
use Rattle.av_pool.proofs.Channels.{one_channel}
use Rattle.av_pool.proofs.Sending.{fits_more, gave_work, given_more}
use Rattle.av_pool.specs.Items.{lents_of}
use Rattle.av_pool.specs.declared.item.WorkItem.{WorkItem}
use Rattle.av_pool.specs.declared.item.WorkItem.TheVariants.{Parcel}
use Rattle.av_pool.specs.declared.tally.PassTally.{PassTally}
use Rattle.av_pool.specs.Channel.{channel_of}
use Rattle.av_pool.proofs.giver.Giver.give.Goals as goal

pub returns : goal.returns
returns g c =
    let p = c.self.inside.pass in
    let q = c.send.new.pass in
    let same : channel_of q ≡ channel_of p = one_channel (sends_on c.self.inside.works) p q c.self.invariant.0 c.send.ensures.channel in
    gave_work p q c.pack.result same c.send.ensures.put
    ∙ (λ i. record { channel = (c.self.view_is i).channel; given = (c.self.view_is i).given ++ c.pack.ensures.same i ∷ []; marks = (c.self.view_is i).marks })

pub invariant_of-self : goal.invariant_of-self
invariant_of-self g c =
    let p = c.self.inside.pass in
    let q = c.send.new.pass in
    let l = c.pack.result in
    let more : lents_of (view q).put ≡ lents_of (view p).put ++ l ∷ [] = given_more (view p) (view q) (Parcel l) c.send.ensures.put in
    let fits : FitsItsWork l = subst FitsItsWork (sym c.pack.ensures.same) c.pack.ensures.fits in (
      c.send.ensures.channel,
      ap (λ (z : PassTally WorkItem). z.parts) c.send.ensures.put ∙ c.self.invariant.1,
      ap (λ (z : PassTally WorkItem). z.taken) c.send.ensures.put ∙ c.self.invariant.2,
      subst (Each FitsItsWork) (sym more) (fits_more (lents_of (view p).put) l c.self.invariant.3 fits),
    )
