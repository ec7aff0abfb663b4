use Rattle.std.proofs.Common.{◌+◌, ◌*◌, arith}
use Rattle.av_match.proofs.QuietLemmas.{quiet_on}
use Rattle.av_match.proofs.quiet.quiet_lanes.Goals as goal

pub loop-i-preserved : goal.loop-i-preserved
loop-i-preserved c =
    let ps = c.args.walk.now.patterns.now in
    let cells = c.args.walk.now.cells.now in
    let i = c.loop-i.i in
    let first = c.args.from.place in
    let step = c.args.step in
    record {
      p = c.in_ok-p.ensures.inside;
      q = c.in_ok-q.ensures.inside;
      r = c.in_ok-r.ensures.inside;
      s = c.in_ok-s.ensures.inside;
      t = c.in_ok-t.ensures.inside;
      u = c.in_ok-u.ensures.inside;
      a = quiet_on ps cells c.args.fed c.args.parts.now.a.now _ c.loop-i.p c.in_ok-p.p first i c.loop-i-test.true c.loop-i.invariant.a (λ v. c.in_ok-p.ensures.quiet c.args.fed (first + i) v (omega arith));
      b = quiet_on ps cells c.args.fed c.args.parts.now.b.now _ c.loop-i.q c.in_ok-q.q (first + step) i (omega (arith, c.loop-i-test.true, c.args.parts.now.b_length)) c.loop-i.invariant.b (λ v. c.in_ok-q.ensures.quiet c.args.fed (first + step + i) v (omega arith));
      c = quiet_on ps cells c.args.fed c.args.parts.now.c.now _ c.loop-i.r c.in_ok-r.r (first + 2 * step) i (omega (arith, c.loop-i-test.true, c.args.parts.now.c_length)) c.loop-i.invariant.c (λ v. c.in_ok-r.ensures.quiet c.args.fed (first + 2 * step + i) v (omega arith));
      d = quiet_on ps cells c.args.fed c.args.parts.now.d.now _ c.loop-i.s c.in_ok-s.s (first + 3 * step) i (omega (arith, c.loop-i-test.true, c.args.parts.now.d_length)) c.loop-i.invariant.d (λ v. c.in_ok-s.ensures.quiet c.args.fed (first + 3 * step + i) v (omega arith));
      e = quiet_on ps cells c.args.fed c.args.parts.now.e.now _ c.loop-i.t c.in_ok-t.t (first + 4 * step) i (omega (arith, c.loop-i-test.true, c.args.parts.now.e_length)) c.loop-i.invariant.e (λ v. c.in_ok-t.ensures.quiet c.args.fed (first + 4 * step + i) v (omega arith));
      f = quiet_on ps cells c.args.fed c.args.parts.now.f.now _ c.loop-i.u c.in_ok-u.u (first + 5 * step) i (omega (arith, c.loop-i-test.true, c.args.parts.now.f_length)) c.loop-i.invariant.f (λ v. c.in_ok-u.ensures.quiet c.args.fed (first + 5 * step + i) v (omega arith));
    }
