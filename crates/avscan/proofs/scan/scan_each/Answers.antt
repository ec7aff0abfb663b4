use Rattle.std.proofs.Common.{rules, ◌≡◌, ◌∙◌, false, true, ap, refl}
use Rattle.av_scan.specs.Feed.{left_of}
use Rattle.avscan.proofs.ScanLemmas.{all_names, coming_names, ends_as_asked}
use Rattle.avscan.proofs.scan.scan_each.Goals as goal

pub returns-then-not-asked : goal.returns-then-not-asked
returns-then-not-asked g c =
    let ends : c.args.asked.now.finding.keeps_going ≡ false = search rules in
    ends_as_asked c.args.asked.now _ _ _ _ _ _ _ _ _ _ _ _ _ (c.in_turn.ensures.matches ∙ c.requires.matches) (c.in_turn.ensures.most ∙ c.requires.most) (c.in_turn.ensures.wishes ∙ c.requires.wishes)
    (c.in_turn.ensures.folder ∙ c.requires.folder) refl (all_names c.args.asked.now.finding _ ends) c.scan_all.ensures

pub returns : goal.returns
returns g c =
    let goes_on : c.args.asked.now.finding.keeps_going ≡ true = search rules in
    let names = c.new-feed.ensures ∙ ap (λ f. left_of f 0 c.args.names.now) c.folders_of-folders.ensures ∙ coming_names c.args.asked.now.finding c.args.names.now goes_on in
    ends_as_asked c.args.asked.now _ _ _ _ _ _ _ _ _ _ _ _ _ (c.in_turn.ensures.matches ∙ c.requires.matches) (c.in_turn.ensures.most ∙ c.requires.most) (c.in_turn.ensures.wishes ∙ c.requires.wishes)
    (c.in_turn.ensures.folder ∙ c.requires.folder) c.new.ensures names c.scan_on.ensures
