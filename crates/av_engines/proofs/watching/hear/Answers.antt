use Rattle.std.proofs.Common.{◌≡◌, true, false, rules}
use Rattle.av_base.specs.Port.{same_port}
use Rattle.av_base.specs.declared.port.Port.TheVariants.{One}
use Rattle.av_engines.specs.Watching.{standing}
use Rattle.av_engines.proofs.WatchingLemmas.{amid_received, amid_joined, err_then, hears_joined, hears_other, ok_then, on_err}
use Rattle.av_engines.proofs.watching.hear.Goals as goal

pub returns-then-ne-clause-ok : goal.returns-then-ne-clause-ok
returns-then-ne-clause-ok c =
    let other : same_port c.args.message.now.port One ≡ false = search rules in
    hears_other c.args.opens.now c.args.message.now _ _ _ _ _ other

pub returns-in_err-receive-clause-amid : goal.returns-in_err-receive-clause-amid
returns-in_err-receive-clause-amid c =
    let s = standing c.args.mounted.now.table c.args.mounted.now.volume c.args.tally.now.answers.items c.args.tally.now.submitted in
    let here : same_port c.args.message.now.port One ≡ true = search rules in
    on_err _ c.from_residual.result (amid_received c.args.opens.now s c.args.message.now _ _ _ here c.receive.ensures.amid)

pub returns-clause-ok : goal.returns-clause-ok
returns-clause-ok c =
    let s = standing c.args.mounted.now.table c.args.mounted.now.volume c.args.tally.now.answers.items c.args.tally.now.submitted in
    let here : same_port c.args.message.now.port One ≡ true = search rules in
    ok_then c.join.result (hears_joined c.args.opens.now s c.args.message.now _ _ _ _ _ _ _ _ _ _ _ here c.in_ok-receive.ensures.ok c.receive.ensures.rest.1) c.join.ensures.ok

pub returns-clause-amid : goal.returns-clause-amid
returns-clause-amid c =
    let s = standing c.args.mounted.now.table c.args.mounted.now.volume c.args.tally.now.answers.items c.args.tally.now.submitted in
    let here : same_port c.args.message.now.port One ≡ true = search rules in
    err_then c.join.result (amid_joined c.args.opens.now s c.args.message.now _ _ _ _ _ _ _ here c.in_ok-receive.ensures.ok.at c.receive.ensures.rest.1) c.join.ensures.amid
