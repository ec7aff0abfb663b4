use Rattle.std.proofs.Common.{◌∙◌, inr, map, subst}
use Rattle.avscan.specs.Scanning.{EndsUnder}
use Rattle.avscan.proofs.scan.scan_listed.Goals as goal

pub returns-in-Ok-every_name : goal.returns-in-Ok-every_name
returns-in-Ok-every_name g c = inr (record {
  text = c.as_slice.result.now;
  none = λ no_list. c.as_slice.ensures.value ∙ c.in-Ok.ensures.none no_list;
  names = map (λ n. n.now) c.in-Ok-every_name.names.items;
  every = c.in-Ok-every_name.ensures;
  ends = subst (λ ns. EndsUnder c.args.asked.now c.args.scanners (map (λ n. n.now) ns) (g.W.Write.contents c.args.out.now) (g.W.Write.contents c.scan_each.new.out) c.scan_each.result) c.as_slice-in-Ok-every_name.ensures.value c.scan_each.ensures;
})
