use Rattle.std.proofs.Common.{◌≡◌, ◌+◌, ◌++◌, ◌∷◌, length, arith, sym, ap, ◌∙◌}
use Rattle.av_filter_table.specs.Answering.{by_mode, present_generation}
use Rattle.av_filter_table.specs.Table.{Table}
use Rattle.av_pend.specs.Pend.{refused}
use Rattle.av_filter_table.proofs.PlainLemmas.{push-front}
use Rattle.av_filter_table.proofs.answering.refuse_all.Goals as goal

pub push_reserved-requires : goal.push_reserved-requires
push_reserved-requires c =
    let fewer : length c.opens.table.pended ≡ length c.pop_open.new.self.pended + 1 = ap length c.in-Some.ensures.some.1 ∙ omega arith in
    let room = c.opens.invariant.room in
    omega arith

pub opens-smaller : goal.opens-smaller
opens-smaller c =
    let fewer : length c.opens.table.pended ≡ length c.pop_open.new.self.pended + 1 = ap length c.in-Some.ensures.some.1 ∙ omega arith in
    omega arith

pub opens-preserved : goal.opens-preserved
opens-preserved c =
    let old = c.args.table.now in
    let v = c.args.volume.now in
    let rest = by_mode old v c.args.cause c.pop_open.new.self.pended in
    let answer : c.refuse.result ≡ refused old.mode (present_generation v c.in-Some.held.stream) c.args.cause c.in-Some.held =
    c.refuse.ensures ∙ ((λ i. refused (c.mode-mode.ensures i) ((c.generation_now-generation.ensures ∙ ap (present_generation v) c.stream.ensures) i) c.args.cause c.in-Some.held)) in
    record {
      answers = ap (λ items. items ++ rest) c.push_reserved.ensures.items
          ∙ (push-front c.opens.answers.items c.refuse.result rest
          ∙ (ap (λ a. c.opens.answers.items ++ (a ∷ rest)) answer
          ∙ (ap (λ ps. c.opens.answers.items ++ by_mode old v c.args.cause ps) (sym c.in-Some.ensures.some.1)
          ∙ c.opens.invariant.answers)));
      rest = c.pop_open.ensures.rest ∙ ap {B = Table} (λ t. record t { pended = c.pop_open.new.self.pended }) c.opens.invariant.rest;
      room =
          let fewer : length c.opens.table.pended ≡ length c.pop_open.new.self.pended + 1 = ap length c.in-Some.ensures.some.1 ∙ omega arith in
          let room = c.opens.invariant.room in
          let len = c.push_reserved.ensures.len in
          let capacity = c.push_reserved.ensures.capacity in
          omega arith;
      capacity = c.push_reserved.ensures.capacity ∙ c.opens.invariant.capacity;
    }
