use Rattle.std.proofs.Common.{◌≡◌, ◌++◌, drop, map}
use Rattle.std.specs.List.{filter}
use Rattle.std.specs.Str.{is_utf8}
use Rattle.av_files.specs.Listed.{with_bad_names}
use Rattle.av_files.specs.declared.listed.Failing.TheVariants.{Ends}
use Rattle.av_files.proofs.listed.with_listed.Given as goal

-- the names so far, and what is counted so far, lead with the names that are left to those of all
abbrev pub invariant-loop-before : goal.invariant-loop-before
invariant-loop-before g l =
    let left = map (λ n. n.now) (drop l.before l.bytes-items) in
    (map (λ n. n.now) l.names.items ++ filter is_utf8 left ≡ map (λ n. n.now) l.given ++ filter is_utf8 (map (λ n. n.now) l.bytes-items))
    × (with_bad_names l.tally left ≡ with_bad_names l.initial.tally (map (λ n. n.now) l.bytes-items))
    × (l.failing ≡ Ends → l.tally ≡ l.initial.tally)
