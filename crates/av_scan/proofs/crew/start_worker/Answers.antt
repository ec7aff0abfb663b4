use denote.Param.Send.{sendable}
use Rattle.std.proofs.Common.{rules, ◌≡◌, subst}
use Rattle.std.proofs.Crossing.{crosses}
use Rattle.std.specs.Arc.{arc_value}
use Rattle.av_scan.specs.Told.{AreFindings}
use Rattle.av_scan.proofs.crew.start_worker.Goals as goal

pub spawn-requires-after_bounds : goal.spawn-requires-after_bounds
spawn-requires-after_bounds g c κs within =
    let same : arc_value c.in_ok-scanners.scanners ≡ arc_value c.args.scanners.now = search rules in (
      c.type_bounds.static-T,
      (
        c.type_bounds.static-F,
        (
          c.type_bounds.static-R,
          (
            c.type_bounds.static-O,
            (
              search rules,
              (
                (λ name fs is. c.requires name fs (subst (λ sets. AreFindings c.args.scanning.now.matches c.args.scanning.now.max_size (g.O.Opening.is_of c.args.scanning.now.files) g.F.Read.remaining sets name fs) same is)),
                search (sendable, crosses),
              ),
            ),
          ),
        ),
      ),
    )
