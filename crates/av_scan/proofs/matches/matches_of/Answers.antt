use Rattle.std.proofs.Common.{rules, ◌≡◌, ◌∷◌}
use Rattle.av_scan.proofs.MatchLemmas.{all_found, begun, one_more}
use Rattle.av_scan.proofs.matches.matches_of.Goals as goal

pub firsts-init : goal.firsts-init
firsts-init c = begun _ _ _ _ (search rules) c.requires

pub firsts-preserved : goal.firsts-preserved
firsts-preserved c =
    let is : c.firsts.rest.now ≡ c.in-Some.first.now ∷ c.in-Some.after.now = search rules in
    one_more _ _ _ _ _ _ c.in-Some.first.now is c.firsts.invariant c.in_ok-add_matches.ensures

pub returns : goal.returns
returns c = all_found _ _ _ _ (search rules) c.firsts.invariant
