use Rattle.std.proofs.Common.{rules, arith, length}
use Rattle.av_match.specs.Ranged.{AreStops}
use Rattle.av_match.specs.Scanning.{state_words}
use Rattle.av_match.specs.Search.{bytes_of}
use Rattle.av_match.proofs.GrowLemmas.{has_all}
use Rattle.av_match.proofs.PartLemmas.{fails_earlier, root_word}
use Rattle.av_match.proofs.StopLemmas.{stops_are}
use Rattle.av_match.proofs.ranged.ranged_of.Goals as goal

pub stops_of-requires-clause-earlier : goal.stops_of-requires-clause-earlier
stops_of-requires-clause-earlier c s past l = fails_earlier (state_words c.args.patterns.now) c.args.cells.now c.args.fails.now c.requires.part c.requires.fails s past (omega (arith, c.requires.own.size, l))

pub returns : goal.returns
returns c =
    let ps = c.args.patterns.now in
    let words = state_words ps in
    let stops : AreStops ps c.in_ok-stops.stops.items =
    stops_are ps c.args.own.now c.args.fails.now c.in_ok-stops.stops.items (has_all (bytes_of ps) c.requires.patterns.1) (root_word words c.args.cells.now (length words) c.requires.part) c.requires.part.start c.requires.part.distinct
    c.requires.part.some c.requires.own c.requires.fails (fails_earlier words c.args.cells.now c.args.fails.now c.requires.part c.requires.fails) c.in_ok-stops.ensures in
    (search rules, record { part = search rules; ends = stops; endings = search rules })
