use Rattle.std.proofs.Common.{◌++◌, ◌-◌, ◌∙◌, ap, append_assoc, drop, length, refl, subst, sym, take}
use Rattle.std.proofs.KnownBytes.{Appends-trans}
use Rattle.std.proofs.lemmas.List.{take_rest}
use Rattle.std.specs.Char.{len_utf8}
use Rattle.av_base.proofs.DeviceLemmas.{prefix_after, prefix_before, writes_failed}
use Rattle.av_base.specs.Device.{AppendsPrefix}
use Rattle.av_json.proofs.ShownLemmas.{shown_split}
use Rattle.av_json.specs.Shown.{shown, unicode_escape}
use Rattle.av_json.proofs.shown.write_shown.Goals as goal

pub hidden-preserved : goal.hidden-preserved
hidden-preserved g c =
    let done = c.hidden.invariant.0 in
    let plain = c.split_at.result.0.now in
    let behind = c.split_at.result.1.now in
    let escaped = c.unicode_escape.result in
    let len = c.char_len.result in
    let whole = shown_split c.args.text.now done c.hidden.rest.now plain behind escaped c.in-Some.hidden.at c.in-Some.hidden.code len c.hidden.invariant.2
    c.in-Some.ensures.found c.split_at.ensures.front c.split_at.ensures.back c.unicode_escape.ensures c.char_len.ensures in
    let rest = shown (take (length behind - len) (drop len behind)) in (
      done ++ (plain ++ escaped),
      Appends-trans _ _ _ done (plain ++ escaped) c.hidden.invariant.1 (Appends-trans _ _ _ plain escaped c.in_ok-write_text.ensures c.in_ok-write_text-2.ensures),
      whole
          ∙ ap (λ t. done ++ (plain ++ (escaped ++ shown t))) (sym (take_rest behind len))
          ∙ sym (append_assoc done (plain ++ escaped) rest ∙ ap (λ t. done ++ t) (append_assoc plain escaped rest)),
    )

pub returns-in_err-write_text : goal.returns-in_err-write_text
returns-in_err-write_text g c =
    let done = c.hidden.invariant.0 in
    let plain = c.split_at.result.0.now in
    let behind = c.split_at.result.1.now in
    let escaped = unicode_escape c.in-Some.hidden.code in
    let len = len_utf8 c.in-Some.hidden.code in
    let whole = shown_split c.args.text.now done c.hidden.rest.now plain behind escaped c.in-Some.hidden.at c.in-Some.hidden.code len c.hidden.invariant.2
    c.in-Some.ensures.found c.split_at.ensures.front c.split_at.ensures.back refl refl in
    writes_failed _ _ _ _ c.from_residual.ensures.0
    (subst (AppendsPrefix (g.W.Write.contents c.args.writer.now) (g.W.Write.contents c.write_text.new.writer)) (sym whole)
    (prefix_after _ _ _ done _ c.hidden.invariant.1 (prefix_before _ _ plain _ c.in_err-write_text.ensures)))

pub returns-in_err-write_text-2 : goal.returns-in_err-write_text-2
returns-in_err-write_text-2 g c =
    let done = c.hidden.invariant.0 in
    let plain = c.split_at.result.0.now in
    let behind = c.split_at.result.1.now in
    let escaped = c.unicode_escape.result in
    let len = len_utf8 c.in-Some.hidden.code in
    let whole = shown_split c.args.text.now done c.hidden.rest.now plain behind escaped c.in-Some.hidden.at c.in-Some.hidden.code len c.hidden.invariant.2
    c.in-Some.ensures.found c.split_at.ensures.front c.split_at.ensures.back c.unicode_escape.ensures refl in
    writes_failed _ _ _ _ c.from_residual-in_err-write_text-2.ensures.0
    (subst (AppendsPrefix (g.W.Write.contents c.args.writer.now) (g.W.Write.contents c.write_text-in-Some.new.writer)) (sym whole)
    (prefix_after _ _ _ done _ c.hidden.invariant.1 (prefix_after _ _ _ plain _ c.in_ok-write_text.ensures (prefix_before _ _ escaped _ c.in_err-write_text-2.ensures))))
