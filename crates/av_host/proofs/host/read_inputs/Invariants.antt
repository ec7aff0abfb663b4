use Rattle.std.proofs.Common.{◌≡◌, map, take}
use Rattle.av_host.specs.Files.{HoldsInputs}
use Rattle.av_host.proofs.host.read_inputs.Given as goal

-- the files so far, and their names
abbrev pub invariant-files : goal.invariant-files
invariant-files g l = record {
  holds : HoldsInputs (take l.file-index l.files) l.volume;
  named : l.names.items ≡ map (λ f. f.name) (take l.file-index l.files);
}
