use Rattle.std.proofs.Common.{[], ◌∷◌, ◌∙◌, ◌&&◌, ap}
use Rattle.std.proofs.KnownBytes.{Appends-nil, Appends-trans}
use Rattle.av_paths.specs.Course.{is_clean}
use Rattle.av_paths.specs.Verdict.{spoken_of}
use Rattle.av_paths.proofs.ToldLemmas.{folder_ended}
use Rattle.av_paths.proofs.files.tell_folder.Goals as goal

pub entries-init : goal.entries-init
entries-init g c = ([], Appends-nil _, ap (λ r. r.is_clean) c.new-course.ensures)

pub returns-in_default : goal.returns-in_default
returns-in_default g c =
    folder_ended c.tell_end.result c.args.named.number c.args.named.end c.args.named.path.now _ (g.W.Write.contents c.entries.out) _ c.entries.invariant.0 c.entries.course.is_clean
    c.entries.invariant.1 c.entries.invariant.2 c.tell_end.ensures

pub entries-preserved : goal.entries-preserved
entries-preserved g c = (
  (c.path_of.result.now, c.ask_met-asked.result) ∷ c.entries.invariant.0,
  Appends-trans _ (g.W.Write.contents c.entries.out) _ _ _ c.entries.invariant.1 c.in_ok-tell.ensures.line,
  c.tell.ensures.clean ∙ ap (λ b. b && is_clean (spoken_of c.ask_met-asked.result)) c.entries.invariant.2,
)
