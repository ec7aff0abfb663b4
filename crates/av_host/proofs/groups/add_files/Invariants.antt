use Rattle.std.proofs.Common.{◌≡◌, take}
use Rattle.av_host.specs.Files.{HoldsContents}
use Rattle.av_host.proofs.groups.add_files.Given as goal

-- each file so far counts, and the volume is made of these
abbrev pub invariant-files : goal.invariant-files
invariant-files g l = record {
  count : l.count ≡ l.name-index;
  holds : HoldsContents (g.F.Contents.has_content l.files) (take l.name-index l.rest.names.now) l.volume;
}
