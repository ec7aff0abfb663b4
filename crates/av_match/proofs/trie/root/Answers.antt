use Rattle.std.proofs.Common.{rules, ◌≡◌, [], ◌∷◌}
use Rattle.av_match.proofs.PartLemmas.{first_parents, first_part}
use Rattle.av_match.proofs.trie.root.Goals as goal

pub returns-clause-part : goal.returns-clause-part
returns-clause-part c =
    let words : c.push.new.self.items ≡ [] ∷ [] = search rules in
    first_part c.push.new.self.items c.add_row.new.next.items words (search rules)

pub returns-clause-parents : goal.returns-clause-parents
returns-clause-parents c =
    let words : c.push.new.self.items ≡ [] ∷ [] = search rules in
    first_parents c.push.new.self.items c.push-2.new.self.items words (search rules)
