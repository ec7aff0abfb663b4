use Rattle.std.proofs.Common.{ℕ, ◌≡◌, List}
use Rattle.std.specs.Prelude.{Result}
use Rattle.std.specs.Io.KnownBytes.{Appends}
use Rattle.av_client.specs.declared.asking.AskingFault.{AskingFault}
use Rattle.av_client.specs.declared.reply.Reply.{Reply}
use Rattle.av_paths.specs.Told.{all_clean, lines_of}
use Rattle.av_paths.proofs.files.tell_folder.Given as goal

-- each file so far has its line, if it was not granted
abbrev pub invariant-entries : goal.invariant-entries
invariant-entries g l =
    (files : List (List ℕ × Result Reply AskingFault))
    × Appends (g.W.Write.contents l.fn.out) (g.W.Write.contents l.out) (lines_of l.named.number l.named.end files)
    × (l.course.is_clean ≡ all_clean files)
