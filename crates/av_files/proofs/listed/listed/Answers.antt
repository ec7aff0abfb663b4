use Rattle.std.proofs.Common.{◌∙◌, sym}
use Rattle.av_base.specs.Line.{pieces_of}
use Rattle.av_files.proofs.PieceLemmas.{names_end, pieces_apart, pieces_joined}
use Rattle.av_files.proofs.listed.listed.Goals as goal

pub returns : goal.returns
returns c = record {
  pieces = pieces_of c.args.end c.args.text.now;
  joined = pieces_joined c.args.end c.args.text.now;
  apart = pieces_apart c.args.end c.args.text.now;
  named = names_end c.args.end c.names.rest.now _ _ (sym c.is_empty.ensures ∙ c.names-test.false) c.names.invariant;
}
