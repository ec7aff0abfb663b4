use Rattle.std.proofs.Common.{◌≡◌, ◌++◌, ◌-◌, ap, ◌∙◌, subst, append_assoc}
use Rattle.std.proofs.KnownBytes.{Appends-trans}
use Rattle.av_base.proofs.DeviceLemmas.{prefix_after, prefix_before, writes_failed}
use Rattle.av_base.specs.Device.{AppendsPrefix}
use Rattle.av_generate.proofs.LineLemmas.{line_passed}
use Rattle.av_generate.specs.Generated.{line_drawn, lines_drawn}
use Rattle.av_generate.proofs.script.write_lines.Goals as goal

pub lines-preserved : goal.lines-preserved
lines-preserved g c =
    let done = c.lines.invariant.0 in
    let t = line_drawn c.lines.generator c.lines.world in (
      done ++ t.0,
      Appends-trans _ _ _ done t.0 c.lines.invariant.1 c.in_ok-write_line.ensures.writes,
      append_assoc done t.0 (lines_drawn (c.lines.left - 1) c.write_line.new.generator c.write_line.new.world)
          ∙ ap (λ p. done ++ (t.0 ++ lines_drawn (c.lines.left - 1) p.0 p.1)) c.in_ok-write_line.ensures.state
          ∙ ap (λ x. done ++ x) (line_passed c.lines.left c.lines.generator c.lines.world c.lines-test.true)
          ∙ c.lines.invariant.2,
    )

pub returns-in_err-write_line : goal.returns-in_err-write_line
returns-in_err-write_line g c =
    let done = c.lines.invariant.0 in
    let t = line_drawn c.lines.generator c.lines.world in
    let rest = lines_drawn (c.lines.left - 1) t.1.0 t.1.1 in
    let whole : done ++ (t.0 ++ rest) ≡ lines_drawn c.args.commands c.args.generator.now c.args.world.now =
    ap (λ x. done ++ x) (line_passed c.lines.left c.lines.generator c.lines.world c.lines-test.true) ∙ c.lines.invariant.2 in
    writes_failed _ _ _ _ c.from_residual.ensures.0
    (subst (AppendsPrefix (g.W.Write.contents c.args.writer.now) (g.W.Write.contents c.write_line.new.writer)) whole
    (prefix_after _ _ _ done (t.0 ++ rest) c.lines.invariant.1 (prefix_before _ _ t.0 rest c.in_err-write_line.ensures.writes)))
