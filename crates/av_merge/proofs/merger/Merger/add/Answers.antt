use Rattle.std.proofs.Common.{rules, ◌≡◌, ◌++◌, sym, ap, subst, arith, None, max, length}
use Rattle.std.proofs.Math.ListN.{replicate}
use Rattle.av_sigset.specs.Set.{AreInRange, byte_count, patterns_of}
use Rattle.av_merge.proofs.AddLemmas.{added_bytes, added_ranges, added_set, no_limit}
use Rattle.av_merge.proofs.MergeLemmas.{merges_on}
use Rattle.av_merge.specs.Merge.{Merged, added_by, fault_of}
use Rattle.av_merge.proofs.merger.Merger.add.Goals as goal

pub invariant_of-self-2 : goal.invariant_of-self-2
invariant_of-self-2 c =
    let old = c.self.inside.signatures.items in
    let given = c.args.set.now.signatures in
    let none : fault_of c.args.self.now given ≡ None = search rules in
    let new : c.append.new.self.items ≡ old ++ added_by old given = search rules in
    let bytes : c.amount_added-amount.result.bytes ≡ byte_count (patterns_of (added_by old given)) = search rules in
    let room = subst (λ (m : Merged). fault_of m given ≡ None) (sym c.self.view_is) none in (
      subst (λ xs. AreInRange (patterns_of xs)) (sym new) (added_ranges old given c.self.invariant.0 c.signatures-given.ensures.set.ranges (no_limit _ given room)),
      omega (arith, bytes, c.self.invariant.1, added_bytes old given, ap (λ xs. byte_count (patterns_of xs)) new),
    )

pub returns-clause-steps : goal.returns-clause-steps
returns-clause-steps c =
    let m = c.args.self.now in
    let given = c.args.set.now.signatures in
    let none : fault_of m given ≡ None = search rules in
    let new : c.append.new.self.items ≡ m.signatures ++ added_by m.signatures given = search rules in
    let numbers : c.append-2.new.self.items ≡ m.origins ++ replicate (length (added_by m.signatures given)) c.args.number = search rules in
    let version : c.greater-self-inside.result ≡ max m.version c.args.set.now.version = search rules in
    added_set m c.args.number c.args.set.now _ _ _ none new numbers version

pub returns-clause-merges : goal.returns-clause-merges
returns-clause-merges c = merges_on c.args.self.now _ c.args.number c.args.set.now (returns-clause-steps c)
