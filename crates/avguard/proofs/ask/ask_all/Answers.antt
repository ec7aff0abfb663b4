use Rattle.std.proofs.Common.{ℕ, ◌≡◌, ◌∙◌, List, ap, length, map, subst, sym}
use Rattle.std.proofs.lemmas.List.{length-map}
use Rattle.std.specs.Borrow.{Bor}
use Rattle.std.specs.List.{All}
use Rattle.std.specs.Prelude.{IsSome, Option}
use Rattle.std.specs.String.{string_bytes}
use Rattle.av_base.specs.Device.{AppendsPrefix}
use Rattle.av_client.specs.Asking.{unanswered}
use Rattle.av_client.specs.declared.reply.Reply.{Reply}
use Rattle.avguard.specs.Ask.{answered, names_found}
use Rattle.avguard.specs.Told.{told_lines}
use Rattle.avguard.specs.declared.inquiry.Found.{Found}
use Rattle.avguard.proofs.AskLemmas.{none_told, told_asked}
use Rattle.avguard.proofs.ask.ask_all.Goals as goal

pub returns-clause-so_far : goal.returns-clause-so_far
returns-clause-so_far g c = none_told _ _ _

pub returns-in-Ok-clause-so_far : goal.returns-in-Ok-clause-so_far
returns-in-Ok-clause-so_far g c = record {
  names = c.as_slice-names.result.now;
  front = subst (λ (l : List (Option Reply)). AppendsPrefix (g.W.Write.contents c.args.out.now) (g.W.Write.contents c.print_answers.new.out) (told_lines c.args.asking.now.asked.now.named.wishes (answered c.as_slice-names.result.now l))) c.answers.ensures c.print_answers.ensures.front;
}

pub returns-in-Ok-clause-asked : goal.returns-in-Ok-clause-asked
returns-in-Ok-clause-asked g c = λ well.
    let counted : length c.as_slice.result.now ≡ length (names_found c.args.finds.now.files.items) =
    ap (λ (l : List Found). length l) c.as_slice.ensures.value ∙ sym (length-map c.args.finds.now.files.items (λ (f : Found). string_bytes f.name)) in
    let owed = c.requires.1 ∙ ap (λ (l : List (Option Reply)). unanswered l) (sym c.requires.0) in
    told_asked c.as_slice-names.result.now _ c.answers.result.now c.args.finds.now.missed c.in-Ok.ended c.finished.result c.or_graver.result c.print_answers.result (length c.as_slice.result.now)
    c.args.asking.now.asked.now.named.wishes _ _ c.in-Ok.ensures.since c.or_graver.ensures counted (c.print_answers.ensures.lines well) (c.print_answers.ensures.ended well)
    (λ done. (
      ap (λ (l : List (Bor (List ℕ))). map (λ n. n.now) l) c.as_slice-names.ensures.value ∙ (c.in-Ok.ensures.all done).0,
      ap (λ (l : List (Option Reply)). length l) c.answers.ensures ∙ c.finished.ensures.places ∙ (c.in-Ok.ensures.all done).1 ∙ sym (ap (λ (l : List (Bor (List ℕ))). length l) c.as_slice-names.ensures.value),
    ))
    (λ done. subst (λ (l : List (Option Reply)). All IsSome l) (sym c.answers.ensures) (c.finished.ensures.all (c.in-Ok.ensures.owed owed) done))
