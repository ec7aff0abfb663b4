use Rattle.std.proofs.Common.{◌≡◌, ◌∷◌, [], ap, map, length, sym, ◌∙◌}
use Rattle.std.proofs.lemmas.List.{length-map}
use Rattle.av_sigset.specs.Catalogue.{set_at}
use Rattle.av_sigset.specs.Publication.{Publication, publication_of}
use Rattle.av_shared.proofs.OnlyLemmas.{only_same, only_set, only_there}
use Rattle.av_shared.proofs.still.has_only.Goals as goal

pub returns-then-len-ne1-clause-complete : goal.returns-then-len-ne1-clause-complete
returns-then-len-ne1-clause-complete c = λ only. absurd (c.if-len-ne1.true (c.len.ensures.len ∙ sym (length-map c.args.catalogue.now.sets publication_of) ∙ ap length only))

pub returns-in-None-clause-complete : goal.returns-in-None-clause-complete
returns-in-None-clause-complete c = λ only.
    let sets = c.args.catalogue.now.sets in
    absurd (only_there sets c.args.set.now only (ap (set_at sets) (sym c.version.ensures.version) ∙ sym c.in-None.ensures.set))

pub returns-in-Some : goal.returns-in-Some
returns-in-Some c =
    let sets = c.args.catalogue.now.sets in
    let one : length sets ≡ 1 = sym c.len.ensures.len ∙ c.if-len-ne1.false in
    let at = sym c.in-Some.ensures.set in
    record {
      sound = λ yes. ap (map publication_of) (only_set sets c.version.result c.in-Some.other.now one at) ∙ ap (λ (p : Publication). p ∷ []) (c.same_publication.ensures.sound yes);
      complete = λ only. c.same_publication.ensures.complete (only_same sets c.version.result c.in-Some.other.now c.args.set.now only at);
    }
