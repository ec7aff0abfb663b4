use Rattle.std.proofs.Common.{rules, ◌≡◌, true, map, string_bytes, String, Global, Bor}
use Rattle.std.specs.BTreeMap.{keys}
use Rattle.std.specs.Map.Iter.{deref}
use Rattle.std.proofs.lemmas.List.Elements.{All-map, All-push}
use Rattle.std.proofs.lemmas.Map.Iter.{iter_end}
use Rattle.avguard_words.specs.Config.{is_key}
use Rattle.avguard_words.proofs.config.unknown_in.Goals as goal

pub keys-preserved : goal.keys-preserved
keys-preserved c =
    let known : is_key (string_bytes c.in-Some.key.now) ≡ true = search rules in
    All-push (λ (key : Bor (String Global)). is_key (string_bytes key.now) ≡ true) c.keys.yielded c.in-Some.key c.keys.invariant known

pub returns-clause-none : goal.returns-clause-none
returns-clause-none c =
    let all : map deref c.keys.yielded ≡ keys c.args.table.now = search (rules, iter_end) in
    let each = All-map (λ (key : String Global). is_key (string_bytes key) ≡ true) deref c.keys.yielded c.keys.invariant in
    rw all at each
