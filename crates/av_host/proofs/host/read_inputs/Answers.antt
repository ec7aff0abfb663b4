use Rattle.std.proofs.Common.{arith}
use Rattle.std.proofs.lemmas.Grind.{common_steps}
use Rattle.av_host.proofs.FileLemmas.{holds_next}
use Rattle.av_host.proofs.host.read_inputs.Goals as goal

pub files-preserved : goal.files-preserved
files-preserved g c = record {
  holds = holds_next c.args.files.now c.files.file-index _ _ _ c.files-test.true c.files.invariant.holds c.in_ok-add_file.ensures.added;
  named = grind (arith, common_steps);
}
