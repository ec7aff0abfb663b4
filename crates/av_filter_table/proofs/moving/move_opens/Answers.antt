use Rattle.std.proofs.Common.{true, ◌≡◌, ◌+◌, ◌++◌, ◌∷◌, length, arith, refl, sym, ap, subst, ◌∙◌, append-nil}
use Rattle.std.specs.Option.{option_map}
use Rattle.av_base.specs.declared.cause.Cause.TheVariants.{Unsettled}
use Rattle.av_filter_table.specs.Chains.{plains, of, first_waiting, is_spent}
use Rattle.av_filter_table.specs.Moving.{overs, refusal, refusals}
use Rattle.av_filter_table.specs.Answering.{present_generation}
use Rattle.av_pend.specs.Pend.{refused}
use Rattle.av_numbered.proofs.MapLemmas.{some_same}
use Rattle.av_filter_table.proofs.PlainLemmas.{there-kept, fresh-behind, first-of, Outs, outs, Ins, ins, all-moved, none-over, told_some, told_none, push-front, some-of}
use Rattle.av_filter_table.proofs.moving.move_opens.Goals as goal

pub opens-init : goal.opens-init
opens-init c = record {
  answers = refl;
  moved = refl;
  behind = fresh-behind c.args.renewal.old c.args.renewal.new (plains c.args.pended.now) c.requires.fresh;
  chained = c.requires.chained;
  numbered = λ n. n;
  same = refl;
  room = c.requires.room;
  capacity = refl;
}

pub first_is_spent-requires-clause-there : goal.first_is_spent-requires-clause-there
first_is_spent-requires-clause-there c = there-kept c.args.questions.now c.opens.questions c.args.renewal.old c.opens.invariant.same c.requires.from

pub take_first-requires-clause-there : goal.take_first-requires-clause-there
take_first-requires-clause-there c = there-kept c.args.questions.now c.opens.questions c.args.renewal.old c.opens.invariant.same c.requires.from

pub unreachable-requires : goal.unreachable-requires
unreachable-requires c =
    let told = told_some is_spent (first_waiting c.args.renewal.old (plains c.opens.pended)) c.in-Some.is_spent c.in-Some.ensures in
    some-of c.args.renewal.old (plains c.opens.pended) told.0 c.in_default-take_first.ensures.none told.1

pub opens-preserved-then-is_spent : goal.opens-preserved-then-is_spent
opens-preserved-then-is_spent c =
    let old = c.args.renewal.old in
    let xs = plains c.opens.pended in
    let held = c.in-Some-take_first.held in
    let first = first-of old xs (of old (plains c.take_first.new.pended)) (old, held) c.in-Some-take_first.ensures.some in
    let spent : is_spent (old, held) ≡ true = sym (some_same c.in-Some.is_spent (is_spent (old, held)) (c.in-Some.ensures ∙ ap (option_map is_spent) first)) ∙ c.if-is_spent.true in
    let o : Outs old c.args.renewal.new (old, held) xs (plains c.take_first.new.pended) = subst (Outs old c.args.renewal.new (old, held) xs) (sym c.in-Some-take_first.ensures.rest) (outs old c.args.renewal.new (old, held) xs first spent c.opens.invariant.behind) in
    let answer : c.refuse.result ≡ refusal c.args.mode c.args.volume.now Unsettled (old, held) =
    c.refuse.ensures ∙ ap (λ g. refused c.args.mode g Unsettled held) (c.generation_now-generation.ensures ∙ ap (present_generation c.args.volume.now) c.stream.ensures) in
    let rest = refusals c.args.mode c.args.volume.now Unsettled (overs old (plains c.take_first.new.pended)) in
    record {
      answers = ap (λ items. items ++ rest) c.push_reserved.ensures.items
          ∙ (push-front c.opens.answers.items c.refuse.result rest
          ∙ (ap (λ a. c.opens.answers.items ++ (a ∷ rest)) answer
          ∙ (ap (λ ys. c.opens.answers.items ++ refusals c.args.mode c.args.volume.now Unsettled ys) (sym o.over)
          ∙ c.opens.invariant.answers)));
      moved = o.all ∙ c.opens.invariant.moved;
      behind = o.behind;
      chained = c.in-Some-take_first.ensures.chained;
      numbered = λ n. c.in-Some-take_first.ensures.numbered (c.opens.invariant.numbered n);
      same = c.in-Some-take_first.ensures.same ∙ c.opens.invariant.same;
      room =
          let fewer : length (of old xs) ≡ length (of old (plains c.take_first.new.pended)) + 1 = ap length c.in-Some-take_first.ensures.some ∙ omega arith in
          let room = c.opens.invariant.room in
          let len = c.push_reserved.ensures.len in
          let capacity = c.push_reserved.ensures.capacity in
          omega arith;
      capacity = c.push_reserved.ensures.capacity ∙ c.opens.invariant.capacity;
    }

pub move_first-requires-clause-from : goal.move_first-requires-clause-from
move_first-requires-clause-from c = there-kept c.args.questions.now c.opens.questions c.args.renewal.old c.opens.invariant.same c.requires.from

pub move_first-requires-clause-to : goal.move_first-requires-clause-to
move_first-requires-clause-to c = there-kept c.args.questions.now c.opens.questions c.args.renewal.new c.opens.invariant.same c.requires.to

pub opens-smaller : goal.opens-smaller
opens-smaller c =
    let told = told_some is_spent (first_waiting c.args.renewal.old (plains c.opens.pended)) c.in-Some.is_spent c.in-Some.ensures in
    let i : Ins c.args.renewal.old c.args.renewal.new (plains c.opens.pended) (plains c.move_first.new.pended) =
    subst (Ins c.args.renewal.old c.args.renewal.new (plains c.opens.pended)) (sym c.move_first.ensures.moved) (ins c.args.renewal.old c.args.renewal.new told.0 (plains c.opens.pended) c.requires.apart told.1 (told.2 ∙ c.if-is_spent.false) c.opens.invariant.behind) in
    let fewer = i.fewer in
    omega arith

pub opens-preserved : goal.opens-preserved
opens-preserved c =
    let told = told_some is_spent (first_waiting c.args.renewal.old (plains c.opens.pended)) c.in-Some.is_spent c.in-Some.ensures in
    let i : Ins c.args.renewal.old c.args.renewal.new (plains c.opens.pended) (plains c.move_first.new.pended) =
    subst (Ins c.args.renewal.old c.args.renewal.new (plains c.opens.pended)) (sym c.move_first.ensures.moved) (ins c.args.renewal.old c.args.renewal.new told.0 (plains c.opens.pended) c.requires.apart told.1 (told.2 ∙ c.if-is_spent.false) c.opens.invariant.behind) in
    record {
      answers = ap (λ ys. c.opens.answers.items ++ refusals c.args.mode c.args.volume.now Unsettled ys) i.over ∙ c.opens.invariant.answers;
      moved = i.all ∙ c.opens.invariant.moved;
      behind = i.behind;
      chained = c.move_first.ensures.chained;
      numbered = λ n. c.move_first.ensures.numbered (c.opens.invariant.numbered n);
      same = c.move_first.ensures.same ∙ c.opens.invariant.same;
      room =
          let fewer = i.fewer in
          let room = c.opens.invariant.room in
          omega arith;
      capacity = c.opens.invariant.capacity;
    }

pub returns-clause-answers : goal.returns-clause-answers
returns-clause-answers c =
    let none = told_none is_spent (first_waiting c.args.renewal.old (plains c.opens.pended)) c.in_default.ensures in
    sym (append-nil c.opens.answers.items) ∙ (ap (λ ys. c.opens.answers.items ++ refusals c.args.mode c.args.volume.now Unsettled ys) (sym (none-over c.args.renewal.old (plains c.opens.pended) none)) ∙ c.opens.invariant.answers)

pub returns-clause-moved : goal.returns-clause-moved
returns-clause-moved c =
    let none = told_none is_spent (first_waiting c.args.renewal.old (plains c.opens.pended)) c.in_default.ensures in
    sym (all-moved c.args.renewal.old c.args.renewal.new (plains c.opens.pended) none) ∙ c.opens.invariant.moved
