use Rattle.std.proofs.Common.{List, ap, map, subst, ◌∙◌}
use Rattle.std.specs.List.{zip}
use Rattle.av_base.specs.Device.{AppendsPrefix}
use Rattle.av_files.specs.Opened.{opened_lines}
use Rattle.av_files.specs.declared.opened.Opened.{Opened}
use Rattle.av_store.specs.Store.{Store}
use Rattle.av_sockets.specs.Filter.{AreInOrder, begun, opened_as}
use Rattle.av_sockets.specs.Run.{AreOfTheirStreams, IsContentIn}
use Rattle.av_sockets.proofs.filter.print_answers.Goals as goal

pub returns-clause-part : goal.returns-clause-part
returns-clause-part g c =
    let names = c.args.opener.now.group.names.items in
    let opened = c.in-Ok.opened.items in
    let files : AreInOrder names c.args.answers.items opened =
    record {
      ordered = c.in_order-answers.result.items;
      same = c.in_order-answers.ensures.same;
      ascending = c.in_order-answers.ensures.ascending;
      named = c.in-Ok.ensures ∙ ap (λ ns. map opened_as (zip ns c.as_slice.result.now)) c.as_slice-names.ensures.value ∙ ap (λ l. map opened_as (zip names l)) c.as_slice.ensures.value;
    } in
    begun opened files
    (subst (λ (v : Store). AreOfTheirStreams (IsContentIn v.streams) v opened) c.volume.ensures
    (subst (λ (os : List Opened). AreOfTheirStreams (IsContentIn c.volume.result.now.streams) c.volume.result.now os) c.as_slice-2.ensures.value (c.are_of_their_streams.ensures c.if-not-are_of_their_streams.false)))
    (subst (λ (os : List Opened). AppendsPrefix (g.W.Write.contents c.args.out.now) (g.W.Write.contents c.print_opened.new.out) (opened_lines c.args.wishes os)) c.as_slice-3.ensures.value c.print_opened.ensures.front)
