use Rattle.std.proofs.Common.{rules, ◌≡◌, ◌+◌, sym, ap, ◌∙◌, arith, true, false, None, Some, cond, length}
use Rattle.av_match.specs.Match.{begins_in}
use Rattle.av_findings.proofs.AloneLemmas.{end_after, past_end, search_decides}
use Rattle.av_findings.proofs.finding.least_end.Goals as goal

pub returns-then-low-content : goal.returns-then-low-content
returns-then-low-content c = sym (past_end c.args.pattern.now c.args.content.now (omega (arith, c.if-low-content.true)))

pub returns-in_default : goal.returns-in_default
returns-in_default c =
    let p = c.args.pattern.now in
    let none : c.find.result ≡ None = search rules in
    sym (search_decides p c.args.content.now c.as_slice-bytes.result.now c.find.result (omega (arith, c.if-low-content.false)) c.as_slice-bytes.ensures c.find.ensures ∙ ap (end_after p) none)

pub returns-then-begins_in : goal.returns-then-begins_in
returns-then-begins_in c =
    let p = c.args.pattern.now in
    let some : c.find.result ≡ Some c.in-Some.after = search rules in
    let begins : begins_in p.span (p.span.low + c.in-Some.after) ≡ true = search rules in
    sym
    (search_decides p c.args.content.now c.as_slice-bytes.result.now c.find.result (omega (arith, c.if-low-content.false)) c.as_slice-bytes.ensures c.find.ensures ∙ ap (end_after p) some
    ∙ ap (λ b. cond b (Some (p.span.low + c.in-Some.after + length p.bytes)) None) begins
    ∙ ap (λ w. Some (p.span.low + c.in-Some.after + length w)) (sym c.as_slice-bytes.ensures))

pub returns-else-begins_in : goal.returns-else-begins_in
returns-else-begins_in c =
    let p = c.args.pattern.now in
    let some : c.find.result ≡ Some c.in-Some.after = search rules in
    let late : begins_in p.span (p.span.low + c.in-Some.after) ≡ false = search rules in
    sym
    (search_decides p c.args.content.now c.as_slice-bytes.result.now c.find.result (omega (arith, c.if-low-content.false)) c.as_slice-bytes.ensures c.find.ensures ∙ ap (end_after p) some
    ∙ ap (λ b. cond b (Some (p.span.low + c.in-Some.after + length p.bytes)) None) late)
