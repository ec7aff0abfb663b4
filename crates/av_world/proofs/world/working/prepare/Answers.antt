use Rattle.std.proofs.Common.{◌≡◌, ◌∙◌, Some, rules, sym}
use Rattle.av_match.specs.Scanning.{Compiled}
use Rattle.av_sigset.specs.Catalogue.{set_at}
use Rattle.av_sigset.specs.Set.{patterns_of}
use Rattle.av_world.proofs.WorkLemmas.{compiled_as, compiled_for, taken_out}
use Rattle.av_world.proofs.world.working.prepare.Goals as goal

pub returns-in_ok-ok-clause-kept : goal.returns-in_ok-ok-clause-kept
returns-in_ok-ok-clause-kept c =
    let found : set_at c.args.catalogue.now.sets c.args.version ≡ Some c.in_ok-set.set.now = search rules in
    let built : c.in_ok-ok.field-0 ≡ record { version = c.in_ok-set.set.now.version; patterns = patterns_of c.in_ok-set.set.now.signatures } = taken_out (λ (a : Compiled). a ≡ record { version = c.in_ok-set.set.now.version; patterns = patterns_of c.in_ok-set.set.now.signatures }) c.build.result c.in_ok-ok.field-0 (sym c.ok.ensures.value ∙ c.in_ok-ok.was) c.build.ensures in
    compiled_as c.args.catalogue.now.sets c.args.version c.in_ok-set.set.now c.in_ok-ok.field-0 found built

pub returns-in_ok-ok-clause-compiled : goal.returns-in_ok-ok-clause-compiled
returns-in_ok-ok-clause-compiled c =
    let found : set_at c.args.catalogue.now.sets c.args.version ≡ Some c.in_ok-set.set.now = search rules in
    let built : c.in_ok-ok.field-0 ≡ record { version = c.in_ok-set.set.now.version; patterns = patterns_of c.in_ok-set.set.now.signatures } = taken_out (λ (a : Compiled). a ≡ record { version = c.in_ok-set.set.now.version; patterns = patterns_of c.in_ok-set.set.now.signatures }) c.build.result c.in_ok-ok.field-0 (sym c.ok.ensures.value ∙ c.in_ok-ok.was) c.build.ensures in
    compiled_for c.args.catalogue.now.sets c.args.version c.in_ok-set.set.now c.in_ok-ok.field-0 found built
