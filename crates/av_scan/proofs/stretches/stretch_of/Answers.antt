use Rattle.std.proofs.Common.{rules, ◌+◌, arith, length, subst}
use Rattle.av_scan.proofs.StretchLemmas.{next, none_yet}
use Rattle.av_scan.specs.Stretches.{IsFoundFrom}
use Rattle.av_scan.proofs.stretches.stretch_of.Goals as goal

pub pieces-init : goal.pieces-init
pieces-init g c = (omega arith, c.requires.order, none_yet (g.F.Read.remaining c.args.file.now) c.args.scanners.now c.args.from c.in_ok-segment.segment (search rules))

pub pieces-preserved : goal.pieces-preserved
pieces-preserved g c =
    let so_far = c.pieces.invariant in
    let piece = c.in_ok-piece.piece.now in (
      omega (arith, so_far.0),
      c.in_ok-piece.ensures.within,
      next (g.F.Read.remaining c.args.file.now) c.args.scanners.now c.args.from c.pieces.place (c.pieces.place + length piece) c.pieces.segment c.feed.new.self piece so_far.0
          (omega arith) so_far.2 c.in_ok-piece.ensures.bytes (λ content is. c.feed.ensures.segment content c.requires.cut is c.if-not-feed.false),
    )

pub returns-then-place-to : goal.returns-then-place-to
returns-then-place-to g c =
    subst (λ n. IsFoundFrom (g.F.Read.remaining c.args.file.now) c.args.scanners.now c.args.from n c.pieces.segment) c.if-place-to.true c.pieces.invariant.2
