use Rattle.std.proofs.Common.{◌≡◌, None, Some, rules}
use Rattle.av_desk.proofs.CatalogueLemmas.{newest_is, newest_there}
use Rattle.av_sigset.specs.Catalogue.{newest, set_at}
use Rattle.av_desk.proofs.locked.newest_built.Goals as goal

pub unreachable-requires : goal.unreachable-requires
unreachable-requires c =
    let sets = c.args.catalogue.now.sets in
    let is : newest sets ≡ Some c.in-Some.version = search rules in
    let none : set_at sets c.in-Some.version ≡ None = search rules in
    newest_there sets c.in-Some.version is none

pub returns : goal.returns
returns c =
    let sets = c.args.catalogue.now.sets in
    let is : newest sets ≡ Some c.in-Some.version = search rules in
    let at : set_at sets c.in-Some.version ≡ Some c.in-Some-at.set.now = search rules in
    rw c.in_ok-build.ensures (newest_is sets c.in-Some.version is c.in-Some-at.set.now at)
