use Rattle.std.proofs.Common.{◌∙◌, Ok, ap, subst, sym}
use Rattle.av_peers.specs.Service.{GivesMessage}
use Rattle.av_peers.specs.declared.service.ServicePeer.{ServicePeer}
use Rattle.av_peers.proofs.ServiceLemmas.{greeted, heard_on, none_kept}
use Rattle.av_peers.proofs.service.ServicePeer.hear_greeting.Goals as goal

pub returns-in-Some-clause-more : goal.returns-in-Some-clause-more
returns-in-Some-clause-more c =
    greeted c.args.self.now c.in-Some.greeting c.hear-heard.new.self.feed.rest c.next.new.self.feed.rest _ (none_kept _ (sym c.is_some.ensures ∙ c.if-is_some.false))
    c.hear-heard.ensures.rest.2 (subst (λ o. GivesMessage c.hear-heard.new.self.feed c.next.new.self.feed (Ok o)) c.in-Some.is c.in_ok-greeting.ensures.message).1

pub returns-in-Ok-clause-more : goal.returns-in-Ok-clause-more
returns-in-Ok-clause-more c =
    heard_on c.args.self.now c.hear-heard.new.self c.next.new.self _ c.hear-heard.ensures.greeting c.hear-heard.ensures.rest.2
    (ap (λ (s : ServicePeer). s.greeting) c.next.ensures.same) (subst (λ o. GivesMessage c.hear-heard.new.self.feed c.next.new.self.feed (Ok o)) c.in-None.is c.in_ok-greeting.ensures.message).1
