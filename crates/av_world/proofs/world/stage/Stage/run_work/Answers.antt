use Rattle.std.proofs.Common.{ap, ℕ, ◌∷◌, Ok, ◌≡◌, ◌++◌, ◌∙◌, suc, rules, map, slice_get, slice_set, None, Some, subst}
use Rattle.std.specs.Option.{option_to_list}
use Rattle.av_base.specs.declared.port.Port.{Port}
use Rattle.av_sigset.specs.Catalogue.{set_at}
use Rattle.av_match.specs.Scanning.{fitting, if_found, run}
use Rattle.av_service.specs.Call.{Responds}
use Rattle.av_service.specs.Conduct.{Finishes, service_step}
use Rattle.av_world.proofs.WorkLemmas.{first_of, put_back_same, told, worked, worked_on}
use Rattle.av_world.specs.Working.{IsOf}
use Rattle.av_history.specs.World.{WorldState, at_port, lent_at, places_of, work_at, work_event}
use Rattle.av_history.specs.declared.report.Line.TheVariants.{Silent}
use Rattle.av_world.specs.Prepared.{Compiles, IsPreparedFor}
use Rattle.av_world.specs.Stage.{at_history}
use Rattle.av_world.proofs.world.stage.Stage.run_work.Goals as goal

pub returns-in-Ok : goal.returns-in-Ok
returns-in-Ok c h e =
    let here = c.self.inside in
    let x = c.in_ok-port-2.work in
    let port = c.in_ok-port-2.port in
    let i = c.in_ok-index.index in
    let out = c.in-Ok.out in
    let place : c.args.place ≡ suc i = search rules in
    let there : slice_get here.works.items i ≡ Some (Some (port, x)) = search rules in
    let seen : IsOf (slice_get here.works.items i) (c.in_ok-port.port, c.in_ok-port.version) = search rules in
    let about : (c.in_ok-port.port, c.in_ok-port.version) ≡ (port, x.version) = subst (λ o. IsOf o (c.in_ok-port.port, c.in_ok-port.version)) there seen in
    let version : c.in_ok-port.version ≡ x.version = ap (λ (p : Port × ℕ). p.1) about in
    let kept : c.prepare.new.kept ≡ Some c.in_ok-automaton.automaton.now = search rules in
    let made : IsPreparedFor (set_at here.catalogue.sets c.in_ok-port.version) c.prepare.new.kept = search rules in
    let for : IsPreparedFor (set_at here.catalogue.sets x.version) (Some c.in_ok-automaton.automaton.now) = subst (λ v. IsPreparedFor (set_at here.catalogue.sets v) (Some c.in_ok-automaton.automaton.now)) version (subst (IsPreparedFor (set_at here.catalogue.sets c.in_ok-port.version)) kept made) in
    let of : Compiles (set_at here.catalogue.sets x.version) c.in_ok-automaton.automaton.now = for in
    let ran : c.run.result.scan ≡ run c.in_ok-automaton.automaton.now.patterns x.scan (fitting x.scan x.chunk) = search rules in
    let is : Responds out (at_port port c.finish.new.one.desk c.finish.new.two.desk) (service_step (at_port port here.one.desk here.two.desk) (Finishes c.run.result.lease c.run.result.scan (if_found c.run.result.scan))) = search rules in
    let ones : c.finish.new.one.desk ≡ at_port port c.finish.new.one.desk here.one.desk = c.finish.ensures.one in
    let twos : c.finish.new.two.desk ≡ at_port port here.two.desk c.finish.new.two.desk = c.finish.ensures.two in
    let ups : c.record-note.new.up.items ≡ here.up.items ++ out.messages.items = search rules in
    let before : WorldState = first_of _ _ c.self.view_is in
    let after : WorldState = worked_on before c.finish.new.one.desk c.finish.new.two.desk c.record-note.new.up.items c.record-note.new.works.items in
    let befores : c.places-before.result ≡ places_of before = search rules in
    let afters : c.places.result ≡ places_of after = search rules in
    let more : c.record-note.new.works.items ≡ slice_set here.works.items i None ++ map (lent_at port) (option_to_list out.work) = search rules in
    let ran_so : work_event (at_history h before) e c.args.place (work_at before.works c.args.place) ≡ Ok (told before after out, at_history (e ∷ h) after) =
    worked (at_history h before) e c.args.place i port x c.in_ok-automaton.automaton.now c.run.result.lease c.run.result.scan out c.finish.new.one.desk c.finish.new.two.desk c.record-note.new.up.items c.record-note.new.works.items place there of c.run.ensures.lease ran is ones twos ups more in
    let told_so : work_event (at_history h before) e c.args.place (work_at before.works c.args.place) ≡ Ok (record { line = Silent; before = c.places-before.result; after = c.places.result; note = c.record-note.result }, at_history (e ∷ h) after) = rw befores (rw afters (rw c.record-note.ensures.note ran_so)) in
    subst (λ (w : WorldState). work_event (at_history h w) e c.args.place (work_at w.works c.args.place) ≡ Ok (record { line = Silent; before = c.places-before.result; after = c.places.result; note = c.record-note.result }, at_history (e ∷ h) after)) c.self.view_is told_so

pub returns-in-Err : goal.returns-in-Err
returns-in-Err c h e =
    let here = c.self.inside in
    let i = c.in_ok-index.index in
    let x = c.in_ok-port-2.work in
    let port = c.in_ok-port-2.port in
    let there : slice_get here.works.items i ≡ Some (Some (port, x)) = search rules in
    let undone : c.put_back.new.works.items ≡ slice_set (slice_set here.works.items i None) i (Some (port, x)) = search rules in
    let works : c.put_back.new.works.items ≡ here.works.items = undone ∙ put_back_same here.works.items i (Some (port, x)) None there in
    let ups : c.reserve.new.self.items ≡ here.up.items = search rules in
    let one : c.finish.new.one.desk ≡ here.one.desk = search rules in
    let two : c.finish.new.two.desk ≡ here.two.desk = search rules in
    let before : WorldState = first_of _ _ c.self.view_is in
    ap (λ d. worked_on before d c.finish.new.two.desk c.reserve.new.self.items c.put_back.new.works.items) one ∙ ap (λ d. worked_on before here.one.desk d c.reserve.new.self.items c.put_back.new.works.items) two
    ∙ ap (λ us. worked_on before here.one.desk here.two.desk us c.put_back.new.works.items) ups ∙ ap (worked_on before here.one.desk here.two.desk here.up.items) works ∙ c.self.view_is
