use Rattle.std.proofs.Common.{rules, ◌≡◌, ◌++◌, codes, map, append_assoc, ap, ◌∙◌}
use Rattle.av_base.specs.declared.cause.Cause.TheVariants as cause
use Rattle.av_log.specs.Entry.{denial_items, end_items, found_items}
use Rattle.av_log.specs.Words.{item_of}
use Rattle.av_log.proofs.WordsLemmas.{put_then}
use Rattle.av_log.proofs.entry.put_judged.Goals as goal

pub returns-in_ok-put_found-in-Infected : goal.returns-in_ok-put_found-in-Infected
returns-in_ok-put_found-in-Infected c =
    let denied = denial_items (codes "denied") cause.Infected in
    let found = found_items c.in-Infected.signature c.args.name in
    let old = map item_of c.args.fields.now.items in
    let first : map item_of c.put_denial.new.fields.items ≡ old ++ denied = search rules in
    let second : map item_of c.put_found.new.fields.items ≡ map item_of c.put_denial.new.fields.items ++ found = search rules in
    let both : map item_of c.put_found.new.fields.items ≡ old ++ (denied ++ found) =
    second ∙ ap (λ t. t ++ found) first ∙ append_assoc old denied found in
    rw c.in-Infected.is
    (put_then c.put_end.result _ _ old (denied ++ found) (end_items c.in-Infected.end c.in-Infected.version) both c.put_end.ensures)

pub returns-in-Unscanned : goal.returns-in-Unscanned
returns-in-Unscanned c = rw c.in-Unscanned.is c.put_denial-in-Unscanned.ensures

pub returns-in-LargeUnscanned : goal.returns-in-LargeUnscanned
returns-in-LargeUnscanned c = rw c.in-LargeUnscanned.is c.put_large-in-LargeUnscanned.ensures
