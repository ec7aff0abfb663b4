use Rattle.std.proofs.Common.{rules, ◌≡◌, ◌∷◌, ◌++◌, ◌≤◌, ◌∙◌, length, map, Ok, sym, subst}
use Rattle.av_base.specs.declared.port.Port.TheVariants.{One, Two}
use Rattle.av_service.specs.Conduct.{Publishes, service_step}
use Rattle.av_service.specs.declared.note.ServiceNote.TheVariants.{Quiet}
use Rattle.av_sigset.specs.Catalogue.{latest, may_publish}
use Rattle.av_sigset.specs.Made.{set_made}
use Rattle.av_sigset.specs.declared.signature.Pattern.{Pattern}
use Rattle.av_world.proofs.PublishLemmas.{is_newer, same_patterns, told_of, told_publishes}
use Rattle.av_world.proofs.WorkLemmas.{first_of}
use Rattle.av_world.specs.Stage.{at_history}
use Rattle.av_history.specs.World.{WorldState, places_of, published}
use Rattle.av_history.specs.declared.report.Line.TheVariants.{Published}
use Rattle.av_history.specs.declared.report.EventNote.TheVariants as note
use Rattle.av_world.proofs.world.stage.Stage.publish.Goals as goal

pub tell-requires-clause-newer : goal.tell-requires-clause-newer
tell-requires-clause-newer c =
    let here = c.self.inside in
    let may : may_publish here.catalogue.sets c.args.version ≡ Ok tt = search rules in
    let below : here.one.desk.version ≤ latest here.catalogue.sets = subst (λ (w : WorldState). w.one.version ≤ latest w.sets) (sym c.self.view_is) (c.requires One) in
    is_newer here.catalogue.sets c.args.version here.one.desk c.room-2.new.self.desk may below (search rules)

pub tell-requires-2-clause-newer : goal.tell-requires-2-clause-newer
tell-requires-2-clause-newer c =
    let here = c.self.inside in
    let may : may_publish here.catalogue.sets c.args.version ≡ Ok tt = search rules in
    let below : here.two.desk.version ≤ latest here.catalogue.sets = subst (λ (w : WorldState). w.two.version ≤ latest w.sets) (sym c.self.view_is) (c.requires Two) in
    is_newer here.catalogue.sets c.args.version here.two.desk c.room-3.new.self.desk may below (search rules)

pub returns : goal.returns
returns c h e =
    let here = c.self.inside in
    let s = c.in_ok-set.set in
    let version = c.args.version in
    let reads : set_made version (map (λ (p : Pattern). p) c.as_slice.result.now) ≡ Ok s = search rules in
    let made : set_made version c.args.patterns.now ≡ Ok s = subst (λ ps. set_made version ps ≡ Ok s) (same_patterns c.as_slice.result.now ∙ c.as_slice.ensures) reads in
    let same : version ≡ s.version = search rules in
    let may : may_publish here.catalogue.sets version ≡ Ok tt = search rules in
    let ones : c.tell.new.service.desk ≡ (service_step here.one.desk (Publishes version)).desk = search rules in
    let ups : c.tell.new.up.items ≡ here.up.items ++ (service_step here.one.desk (Publishes version)).messages = search rules in
    let twos : c.tell-2.new.service.desk ≡ (service_step here.two.desk (Publishes version)).desk = search rules in
    let alls : c.tell-2.new.up.items ≡ c.tell.new.up.items ++ (service_step here.two.desk (Publishes version)).messages = search rules in
    let before : WorldState = first_of _ _ c.self.view_is in
    let after : WorldState = told_of (at_history h before) e s c.tell.new.service.desk c.tell-2.new.service.desk c.tell-2.new.up.items in
    let told = told_publishes (at_history h before) e version c.args.patterns.now s c.tell.new.service.desk c.tell-2.new.service.desk c.tell.new.up.items c.tell-2.new.up.items made same may ones ups twos alls in
    let befores : c.places-before.result ≡ places_of before = search rules in
    let afters : c.places.result ≡ places_of after = search rules in
    let versions : c.version.result ≡ s.version = search rules in
    let lengths : c.len.result ≡ length s.signatures = c.len.ensures.len in
    let told_so : published (at_history h before) e (set_made version c.args.patterns.now) ≡ Ok (record { line = Published c.version.result c.len.result; before = c.places-before.result; after = c.places.result; note = note.Service Quiet }, after) = rw befores (rw afters (rw versions (rw lengths told))) in
    let sets : s ∷ here.catalogue.sets ≡ c.publish.new.self.sets = search rules in
    let told_all : published (at_history h before) e (set_made version c.args.patterns.now) ≡ Ok (record { line = Published c.version.result c.len.result; before = c.places-before.result; after = c.places.result; note = note.Service Quiet }, record after { sets = c.publish.new.self.sets }) =
    subst (λ ss. published (at_history h before) e (set_made version c.args.patterns.now) ≡ Ok (record { line = Published c.version.result c.len.result; before = c.places-before.result; after = c.places.result; note = note.Service Quiet }, record after { sets = ss })) sets told_so in
    subst (λ (w : WorldState). published (at_history h w) e (set_made version c.args.patterns.now) ≡ Ok (record { line = Published c.version.result c.len.result; before = c.places-before.result; after = c.places.result; note = note.Service Quiet }, record after { sets = c.publish.new.self.sets })) c.self.view_is told_all
