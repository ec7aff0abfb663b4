use Rattle.std.proofs.Common.{arith, sym}
use Rattle.av_match.proofs.DeadLemmas.{skim_is}
use Rattle.av_match.proofs.LaneLemmas.{inside_words}
use Rattle.av_match.proofs.skim.skim.Goals as goal

pub returns-in-Through : goal.returns-in-Through
returns-in-Through c =
    let ps = c.requires.set.0 in
    let of = c.requires.set.1 in
    let t = c.args.tables.now in
    let entry = c.in_ok-entry.ensures in
    let leapt = c.in_ok-leaped.ensures in
    skim_is ps t of c.args.piece.now c.args.from c.in_ok-entry.entry.state c.in_ok-entry.entry.place c.in_ok-leaped.field-0 c.in_ok-place.place c.in-Through.state c.in_ok-entry.ensures.bytes (omega arith)
    (inside_words ps t.cells.now t.outputs.now of.automaton c.args.from c.requires.inside) c.requires.silent entry.within entry.short entry.reach (rw c.after-rest.ensures at leapt.within)
    (rw (c.after-others.ensures, c.after-rest.ensures) at c.in_ok-place.ensures.within) (rw c.after-rest.ensures at c.in_ok-are_absent.ensures) (rw c.after-rest.ensures at leapt.passed) (rw (c.after-others.ensures, c.after-rest.ensures) at c.in_ok-place.ensures.passed)
    (sym (rw (c.after-others.ensures, c.after-rest.ensures) at c.in-Through.ensures.reach))
