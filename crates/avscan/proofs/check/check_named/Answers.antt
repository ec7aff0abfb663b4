use Rattle.std.proofs.Common.{map, subst, sym}
use Rattle.av_program.proofs.SetLemmas.{trust_for}
use Rattle.av_program.specs.Sets.{IsTrustFor}
use Rattle.avscan.proofs.CheckLemmas.{not_done}
use Rattle.avscan.specs.Check.{AreGood}
use Rattle.avscan.proofs.check.check_named.Goals as goal

pub returns-in-Err-clause-good : goal.returns-in-Err-clause-good
returns-in-Err-clause-good g c = λ done. not_done _ c.in-Err.ensures.status done

pub returns-clause-good : goal.returns-clause-good
returns-clause-good g c = λ done. record {
  trust = c.by-trust.result;
  trust_for =
      subst (IsTrustFor c.args.asked.now.trust) (sym c.by-trust.ensures)
      (trust_for c.args.asked.now.trust c.in-Ok.key c.as_ref.result c.in-Ok.ensures.none c.in-Ok.ensures.some c.as_ref.ensures.variant);
  good = subst (λ ns. AreGood c.by-trust.result (map (λ n. n.now) ns) (g.W.Write.contents c.args.out.now) (g.W.Write.contents c.check_all.new.out)) c.as_slice.ensures.value (c.check_all.ensures.good done);
}
