use Rattle.std.proofs.Common.{[], ◌∷◌, subst, sym}
use Rattle.av_program.proofs.SetLemmas.{trust_for}
use Rattle.av_program.specs.Sets.{IsTrustFor}
use Rattle.av_program.proofs.scanners.scanners_named.Goals as goal

pub returns-in-Ok-clause-asked : goal.returns-in-Ok-clause-asked
returns-in-Ok-clause-asked g c = record {
  trust = c.by-trust.result;
  trust_for =
      subst (IsTrustFor c.args.sets.trust) (sym c.by-trust.ensures)
      (trust_for c.args.sets.trust c.in_ok-key.key c.as_ref.result c.in_ok-key.ensures.none c.in_ok-key.ensures.some c.as_ref.ensures.variant);
  of_files = c.in-Ok.ensures.added (c.args.sets.first.now ∷ []) c.in_ok-scanners.ensures.first;
}
