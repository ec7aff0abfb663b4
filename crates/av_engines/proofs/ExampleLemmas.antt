-- The worked run of both engines, computed.
use Rattle.std.proofs.Common.{refl, Bool, true}
use Rattle.av_filter.specs.Again.{again_at}
use Rattle.av_filter.specs.Conduct.{disconnects, disconnects_to, filter_step, loses_all}
use Rattle.av_filter.specs.Opening.{open_asked, open_cached, open_found, open_judged, open_new, opened}
use Rattle.av_filter.specs.Receiving.{greeted, reads, receives_at, replies}
use Rattle.av_filter_table.specs.Asking.{asks, ended, lost_contexts}
use Rattle.av_match.specs.Scanning.{index_of, is_past, moved, resting, run as scan_run, word_after}
use Rattle.av_service.specs.Conduct.{service_step}
use Rattle.av_service.specs.Lending.{finished}
use Rattle.av_service.specs.Scanning.{chunk_found, dropped, receives as service_receives, scan_cached, scan_found}
use Rattle.av_sigset.specs.Catalogue.{set_at}
use Rattle.av_engines.specs.Examples.{AreWorked}

abbrev computed : Bool
unfolding again_at disconnects disconnects_to loses_all filter_step open_asked open_cached open_found open_judged open_new opened greeted reads receives_at replies asks ended lost_contexts index_of is_past moved resting scan_run word_after service_step finished chunk_found dropped service_receives scan_cached scan_found set_at
computed = true

pub are_worked : AreWorked
unfolding computed
are_worked = record { serves = refl; renews = refl; may = (tt, (refl, (refl, (tt, tt)))); published = refl; watches = refl; grants = refl; is_over = refl; nothing_behind = refl; not_before = refl; behind_a_message = refl; at_once = refl; grants_then = refl; none_at_once = refl; not_at_two = refl; others = refl; none_served_at_two = refl; lost = refl }
