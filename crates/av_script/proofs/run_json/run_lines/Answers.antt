use Rattle.std.proofs.Common.{rules, arith, ◌≡◌, ◌+◌, ◌++◌, ap, ◌∙◌, subst, append_assoc}
use Rattle.std.proofs.KnownBytes.{Appends-trans}
use Rattle.av_base.proofs.DeviceLemmas.{prefix_after, prefix_before, writes_failed}
use Rattle.av_base.specs.Device.{AppendsPrefix}
use Rattle.av_base.specs.Line.{lines_of}
use Rattle.av_script.proofs.LineLemmas.{line_told}
use Rattle.av_script.specs.CommandObjects.{lines_json, said_json, said_tokens, said_world}
use Rattle.av_script.specs.Script.Grammar.{line_of}
use Rattle.av_script.proofs.run_json.run_lines.Goals as goal

pub lines-preserved : goal.lines-preserved
lines-preserved g c =
    let done = c.lines.invariant.0 in
    let first = c.first_line.result.0.now in
    let below = c.first_line.result.1.now in
    let told = said_json c.lines.number first (said_tokens c.lines.world (line_of first)) in
    let after = said_world c.lines.world (line_of first) in
    let world : c.run_line.new.world ≡ after = search rules in
    let all = line_told done _ c.lines.world c.lines.number c.lines.rest.now first below c.first_line.ensures.lines c.lines.invariant.2 in (
      done ++ told,
      Appends-trans _ _ _ done told c.lines.invariant.1 (search rules),
      append_assoc done told (lines_json c.run_line.new.world (c.lines.number + 1) (lines_of below))
          ∙ ap (λ w. done ++ (told ++ lines_json w (c.lines.number + 1) (lines_of below))) world ∙ all,
      search rules,
      omega (arith, c.lines.invariant.4, c.first_line.ensures.shorter),
    )

pub returns-in_err-room-clause-writes : goal.returns-in_err-room-clause-writes
returns-in_err-room-clause-writes g c =
    let done = c.lines.invariant.0 in
    let first = c.first_line.result.0.now in
    let below = c.first_line.result.1.now in
    let told = said_json c.lines.number first (said_tokens c.lines.world (line_of first)) in
    let rest = lines_json (said_world c.lines.world (line_of first)) (c.lines.number + 1) (lines_of below) in
    let all = line_told done _ c.lines.world c.lines.number c.lines.rest.now first below c.first_line.ensures.lines c.lines.invariant.2 in
    writes_failed _ _ _ _ c.from_residual.ensures.0
    (subst (AppendsPrefix (g.W.Write.contents c.args.writer.now) (g.W.Write.contents c.run_line.new.writer)) all
    (prefix_after _ _ _ done (told ++ rest) c.lines.invariant.1 (prefix_before _ _ told rest c.in_err-room.ensures.writes)))
