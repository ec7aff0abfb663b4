use denote.Param.Send.{sendable}
use Rattle.std.proofs.Common.{rules, ◌≡◌, ◌<◌, ◌/◌, ◌%◌, ℕ, IsTrue, true, arith, length, refl, slice_index_or, subst}
use Rattle.std.proofs.Crossing.{crosses}
use Rattle.av_match.proofs.automaton.Automaton.TheSendSync as automaton
use Rattle.av_shared.specs.Works.{IsOwnAt}
use Rattle.av_shared.proofs.Crossing.{desk_audit_sync}
use Rattle.av_shared.proofs.WorkLemmas.{own_everywhere}
use Rattle.av_shared.proofs.works.finishes_own.Goals as goal

pub map_indices-requires-sync-F : goal.map_indices-requires-sync-F
map_indices-requires-sync-F g c κs within = search (sendable, crosses, desk_audit_sync, automaton.the_sync) depth 60

pub returns : goal.returns
returns g c = λ yes.
    let of = c.max-of.result in
    let some : 0 < of = search rules in
    let own : (at : ℕ) → at < length c.args.audit.now.events.items → IsOwnAt c.args.audit.now at =
    λ at within.
    let number = at / 16 % of in
    let below : number < of = omega (arith, some) in
    let told = (c.in_ok-shares.ensures.each number true below).1.met in
    let one : IsTrue (slice_index_or c.as_slice.result.now number true) = c.are_all.ensures yes number true (omega (arith, below, c.in_ok-shares.ensures.len, c.as_slice.ensures.len)) in
    told (subst (λ bs. IsTrue (slice_index_or bs number true)) c.as_slice.ensures.value one) at within refl
    in
    own_everywhere c.args.audit.now own
