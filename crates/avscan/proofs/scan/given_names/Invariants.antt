use Rattle.std.proofs.Common.{◌≡◌, map, take}
use Rattle.avscan.proofs.scan.given_names.Given as goal

-- the names so far
abbrev pub invariant-loop-name : goal.invariant-loop-name
invariant-loop-name l = map (λ n. n.now) l.names.items ≡ map (λ n. n.now) (take l.name-index l.given)
