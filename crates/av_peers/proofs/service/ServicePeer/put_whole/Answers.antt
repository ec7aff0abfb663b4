use Rattle.std.proofs.Common.{◌≡◌, ◌++◌, ◌∙◌, refl, subst, sym}
use Rattle.std.specs.List.{flat_map}
use Rattle.av_frame.specs.Spelling.{frame}
use Rattle.av_peers.specs.Service.{unheard}
use Rattle.av_peers.proofs.service.ServicePeer.put_whole.Goals as goal

pub returns-in_err-add-clause-messages : goal.returns-in_err-add-clause-messages
returns-in_err-add-clause-messages c none =
    (unheard c.args.self.now, subst (λ xs. unheard c.args.self.now ≡ flat_map frame xs ++ unheard c.args.self.now) (sym (c.in_err-add.ensures.err ∙ none)) refl)
