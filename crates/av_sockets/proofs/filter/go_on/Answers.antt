use Rattle.av_sockets.proofs.GroupLemmas.{failed_full, opened_full}
use Rattle.av_sockets.proofs.filter.go_on.Goals as goal

pub returns-clause-goes_on : goal.returns-clause-goes_on
returns-clause-goes_on g c =
    opened_full c.open_group.result _ _ _ _ _ _ _ _ _ _ _ _ _ c.in_ok-add.ensures.led c.in_ok-add.ensures.names c.open_group.ensures.opened c.open_group.ensures.empty

pub returns-clause-part : goal.returns-clause-part
returns-clause-part g c =
    failed_full c.open_group.result _ _ _ _ _ _ _ _ _ c.in_ok-add.ensures.led c.in_ok-add.ensures.names c.open_group.ensures.part
