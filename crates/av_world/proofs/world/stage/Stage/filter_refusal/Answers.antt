use Rattle.std.proofs.Common.{◌≡◌, ◌∙◌, sym, subst}
use Rattle.std.specs.Option.{option_map}
use Rattle.std.specs.Result.{result_err}
use Rattle.av_filter.specs.Conduct.{filter_refusal}
use Rattle.av_store.specs.Files as change
use Rattle.av_store.specs.Store.{Store, create_of, cut_of, remove_of, write_of}
use Rattle.av_world.proofs.RequestLemmas.{refused_change, refused_create, refused_cut, refused_remove, refused_write}
use Rattle.av_filter.specs.Asking.{event_called}
use Rattle.av_history.specs.World.{step_fault}
use Rattle.av_world.proofs.world.stage.Stage.filter_refusal.Goals as goal

pub returns-in-Create : goal.returns-in-Create
returns-in-Create c =
    let v = c.args.self.now.volume in
    let t = c.args.self.now.table in
    let told = c.store_fault.ensures ∙ refused_change t v (change.Create c.in-Create.name.now) c.create_refusal.result (refused_create v c.in-Create.name.now c.create_refusal.result (subst (λ (u : Store). c.create_refusal.result ≡ result_err (create_of u c.in-Create.name.now)) c.volume-volume.ensures c.create_refusal.ensures.fault)) in
    subst (λ k. c.store_fault.result ≡ option_map step_fault (filter_refusal c.args.self.now.table c.args.self.now.volume (event_called k))) (sym c.in-Create.is)
    told

pub returns-in-Write : goal.returns-in-Write
returns-in-Write c =
    let v = c.args.self.now.volume in
    let t = c.args.self.now.table in
    let told = c.store_fault-in-Write.ensures ∙ refused_change t v (change.Write c.in-Write.stream c.in-Write.offset c.in-Write.bytes.now) c.write_refusal.result (refused_write v c.in-Write.stream c.in-Write.offset c.in-Write.bytes.now c.write_refusal.result (subst (λ (u : Store). c.write_refusal.result ≡ result_err (write_of u c.in-Write.stream c.in-Write.offset c.in-Write.bytes.now)) c.volume-volume.ensures c.write_refusal.ensures)) in
    subst (λ k. c.store_fault-in-Write.result ≡ option_map step_fault (filter_refusal c.args.self.now.table c.args.self.now.volume (event_called k))) (sym c.in-Write.is)
    told

pub returns-in-Cut : goal.returns-in-Cut
returns-in-Cut c =
    let v = c.args.self.now.volume in
    let t = c.args.self.now.table in
    let told = c.store_fault-in-Cut.ensures ∙ refused_change t v (change.Cut c.in-Cut.stream c.in-Cut.length) c.cut_refusal.result (refused_cut v c.in-Cut.stream c.in-Cut.length c.cut_refusal.result (subst (λ (u : Store). c.cut_refusal.result ≡ result_err (cut_of u c.in-Cut.stream c.in-Cut.length)) c.volume-volume.ensures c.cut_refusal.ensures)) in
    subst (λ k. c.store_fault-in-Cut.result ≡ option_map step_fault (filter_refusal c.args.self.now.table c.args.self.now.volume (event_called k))) (sym c.in-Cut.is)
    told

pub returns-in-Remove : goal.returns-in-Remove
returns-in-Remove c =
    let v = c.args.self.now.volume in
    let t = c.args.self.now.table in
    let told = c.store_fault-in-Remove.ensures ∙ refused_change t v (change.Remove c.in-Remove.stream) c.remove_refusal.result (refused_remove v c.in-Remove.stream c.remove_refusal.result (subst (λ (u : Store). c.remove_refusal.result ≡ result_err (remove_of u c.in-Remove.stream)) c.volume-volume.ensures c.remove_refusal.ensures)) in
    subst (λ k. c.store_fault-in-Remove.result ≡ option_map step_fault (filter_refusal c.args.self.now.table c.args.self.now.volume (event_called k))) (sym c.in-Remove.is)
    told
