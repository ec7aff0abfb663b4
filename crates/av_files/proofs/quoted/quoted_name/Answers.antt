use Rattle.std.proofs.Common.{rules, subst, sym, ◌∙◌}
use Rattle.av_files.proofs.QuotedLemmas.{bare_line, quoted_line}
use Rattle.av_files.specs.Quoted.{IsOneLine}
use Rattle.av_files.proofs.quoted.quoted_name.Goals as goal

pub returns-then-not-is_quoted-clause-line : goal.returns-then-not-is_quoted-clause-line
returns-then-not-is_quoted-clause-line c = bare_line c.args.name.now (search rules)

pub returns-clause-line : goal.returns-clause-line
returns-clause-line c = subst IsOneLine (sym (c.as_slice.ensures.value ∙ c.in_ok-put_quoted.ensures)) (quoted_line c.args.name.now)
