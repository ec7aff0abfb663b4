use Rattle.std.proofs.Common.{◌∙◌, ◌==◌, ap, length, subst, sym}
use Rattle.av_client.specs.Asking.{AreAtTheirTags}
use Rattle.av_status.proofs.StatusLemmas.{no_good_end}
use Rattle.avguard.proofs.AskLemmas.{no_tags, none_asked, some_found}
use Rattle.avguard.proofs.ask.ask_found.Goals as goal

pub returns-in_default-clause-so_far : goal.returns-in_default-clause-so_far
returns-in_default-clause-so_far g c = none_asked _ _

pub returns-clause-so_far : goal.returns-clause-so_far
returns-clause-so_far g c = none_asked _ _

pub returns-in-Ok-connect-clause-so_far : goal.returns-in-Ok-connect-clause-so_far
returns-in-Ok-connect-clause-so_far g c = record {
  answers = c.ask_all.new.asker.answers.items;
  tags = c.ask_all.ensures.tags (subst AreAtTheirTags (sym c.in-Ok-connect.ensures.none.0) no_tags);
  told = c.ask_all.ensures.so_far;
}

pub returns-then-is_empty-clause-so_far : goal.returns-then-is_empty-clause-so_far
returns-then-is_empty-clause-so_far g c = none_asked _ _

pub returns-then-is_empty-clause-some : goal.returns-then-is_empty-clause-some
returns-then-is_empty-clause-some g c = λ well. no_good_end c.no_file.result c.no_file.ensures well

pub returns-in-Ok-connect-clause-some : goal.returns-in-Ok-connect-clause-some
returns-in-Ok-connect-clause-some g c =
    let none = ap (λ fs. length fs == 0) (sym c.as_slice-files.ensures.value) ∙ sym c.is_empty.ensures ∙ c.if-is_empty.false in
    λ well. some_found c.args.finds.now.files.items none
