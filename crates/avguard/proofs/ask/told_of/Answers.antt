use Rattle.std.proofs.Common.{◌≡◌, ◌++◌, ◌∷◌, [], length, refl, rules, None, Some}
use Rattle.std.proofs.lemmas.Option.{slice_get_past, slice_get_read}
use Rattle.std.specs.Prelude.{slice_get, slice_index_or}
use Rattle.avguard.proofs.AskLemmas.{answered_then, unanswered_then, unasked_then}
use Rattle.avguard.proofs.ask.told_of.Goals.{in-Some-Some+else-is_err, in-Some+in-None-1, in-None-1}
use Rattle.avguard.proofs.ask.told_of.Goals as goal

pub names-preserved : goal.names-preserved
names-preserved c = elim c.match-get.branch [
  | in-Some-Some+else-is_err w ↦
      let at : slice_get c.args.answers.now c.names.place ≡ Some (Some w.in-Some-Some.reply) = slice_get_read c.args.answers.now (length c.args.answers.now) c.names.place (Some w.in-Some-Some.reply) refl (search rules) (search rules) in
      let pushed : c.match-get.told.items ≡ c.names.told.items ++ record { name = slice_index_or c.args.names.now c.names.place (record { ref_ptr = (0, 0); now = [] }); reply = w.in-Some-Some.reply } ∷ [] = search rules in
      answered_then c.args.names.now c.args.answers.now c.names.place (record { ref_ptr = (0, 0); now = [] }) w.in-Some-Some.reply c.names.told.items c.match-get.told.items c.names-test.true at c.names.invariant pushed
  | in-Some+in-None-1 w ↦
      let at : slice_get c.args.answers.now c.names.place ≡ Some None = slice_get_read c.args.answers.now (length c.args.answers.now) c.names.place None refl (search rules) (search rules) in
      unanswered_then c.args.names.now c.args.answers.now c.names.place c.match-get.told.items at (search rules)
  | in-None-1 w ↦
      let at : slice_get c.args.answers.now c.names.place ≡ None = slice_get_past c.args.answers.now c.names.place (search rules) in
      unasked_then c.args.names.now c.args.answers.now c.names.place c.match-get.told.items at (search rules)
]
