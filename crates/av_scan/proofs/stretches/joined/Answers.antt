use Rattle.std.proofs.Common.{rules, ◌≡◌, ◌+◌, ◌<◌, Some, IfSome, arith, slice_index_or, sym, subst}
use Rattle.av_scan.proofs.StretchLemmas.{ends_at, first_at, next, none_yet, ordered}
use Rattle.av_scan.specs.Stretches.{IsFoundFrom, place_of}
use Rattle.av_scan.proofs.stretches.joined.Goals as goal

pub stretches-init : goal.stretches-init
stretches-init g c =
    let left = g.F.Read.remaining c.args.file.now in
    let none : IsFoundFrom left c.args.scanners.now 0 0 c.in_ok-whole.whole = none_yet left c.args.scanners.now 0 c.in_ok-whole.whole (search rules) in
    subst (λ n. IsFoundFrom left c.args.scanners.now 0 n c.in_ok-whole.whole) (sym (first_at c.args.cut.size c.args.cut.count c.requires.some)) none

pub stretches-preserved : goal.stretches-preserved
stretches-preserved g c =
    let left = g.F.Read.remaining c.args.file.now in
    let size = c.args.cut.size in
    let count = c.args.cut.count in
    let i = c.stretches.i in
    let below : i < count = omega (arith, c.requires.count, c.stretches-test.true) in
    let is : slice_index_or c.args.stretches.now i c.index-stretches-i.result ≡ Some c.in-Some.stretch = search rules in
    let stretch : IsFoundFrom left c.args.scanners.now (place_of size count i) (place_of size count (i + 1)) c.in-Some.stretch =
    subst (λ o. IfSome o (IsFoundFrom left c.args.scanners.now (place_of size count i) (place_of size count (i + 1)))) is (c.requires.each i c.index-stretches-i.result c.stretches-test.true) in
    next left c.args.scanners.now 0 (place_of size count i) (place_of size count (i + 1)) c.stretches.whole c.join.new.self stretch.content (omega arith) (ordered size count i below)
    c.stretches.invariant stretch.bytes (λ k so. c.join.ensures.segment k stretch.content c.requires.cut so stretch.found c.if-not-join.false)

pub returns : goal.returns
returns g c =
    subst (λ n. IsFoundFrom (g.F.Read.remaining c.args.file.now) c.args.scanners.now 0 n c.stretches.whole)
    (ends_at c.args.cut.size c.args.cut.count c.stretches.i (omega (arith, c.requires.count, c.stretches-test.false))) c.stretches.invariant
