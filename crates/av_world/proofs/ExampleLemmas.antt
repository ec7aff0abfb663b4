-- The worked scripts, computed.
use Rattle.std.proofs.Common.{[], lit≤, refl, Bool, true, inl, inr}
use Rattle.av_base.specs.declared.port.Port.{Port}
use Rattle.av_base.specs.declared.port.Port.TheVariants.{One, Two}
use Rattle.av_filter.specs.Again.{again_at, ends}
use Rattle.av_filter_table.specs.Asking.{asks, ended, lost_contexts}
use Rattle.av_filter.specs.Changing.{changes, cleaned, cleaned_at, removed, rewritten}
use Rattle.av_filter.specs.Conduct.{again_each, disconnects, disconnects_to, filter_refusal, filter_step, loses_all, moves, restarts, times_out}
use Rattle.av_filter.specs.Opening.{open_asked, open_cached, open_found, open_judged, open_new, opened}
use Rattle.av_filter.specs.Receiving.{greeted, reads, receives_at, replies}
use Rattle.av_match.specs.Scanning.{index_of, is_past, moved, resting, run as scan_run, word_after}
use Rattle.av_service.specs.Audit.{IsServiceAudit}
use Rattle.av_service.specs.Conduct.{service_step}
use Rattle.av_service.specs.Lending.{finished}
use Rattle.av_service.specs.Scanning.{chunk_found, dropped, receives as service_receives, scan_cached, scan_found}
use Rattle.av_sigset.specs.Made.{fault_in, serial_signatures}
use Rattle.av_sigset.specs.Publication.{published_as}
use Rattle.av_store.specs.Seen.{change_of, seen_from}
use Rattle.av_history.specs.Audits.{FinishesItsWorks, service_side}
use Rattle.av_history.specs.Held.{asked as asked_in, held, held_contexts}
use Rattle.av_history.specs.Scene.{desk_at_first}
use Rattle.av_history.specs.World.{step_of}
use Rattle.av_world.specs.Examples.{run, says, WholePath, GrantedTwice, WrittenMeanwhile, TimedOutClosed, TimedOutOpen, Restarted, Stale, Orphaned, Overtaken, HeldAfter, MoreScripts, PathBegins, CanBeLegal, ComeTrue, no_sets, some_audits, some_work, told}

-- names every definition that a script computes with
unfoldable pub all_open : Bool
unfolding again_at ends asks ended lost_contexts changes cleaned cleaned_at removed rewritten again_each disconnects disconnects_to filter_refusal filter_step loses_all moves restarts times_out open_asked open_cached open_found open_judged open_new opened greeted reads receives_at replies index_of is_past moved resting scan_run word_after service_step finished chunk_found dropped service_receives scan_cached scan_found fault_in serial_signatures published_as change_of seen_from asked_in held held_contexts step_of run says
all_open = true

pub whole_path : WholePath
unfolding all_open
whole_path = refl

pub granted_twice : GrantedTwice
unfolding all_open
granted_twice = refl

pub written_meanwhile : WrittenMeanwhile
unfolding all_open
written_meanwhile = refl

pub timed_out_closed : TimedOutClosed
unfolding all_open
timed_out_closed = refl

pub timed_out_open : TimedOutOpen
unfolding all_open
timed_out_open = refl

pub restarted : Restarted
unfolding all_open
restarted = refl

pub stale : Stale
unfolding all_open
stale = refl

pub orphaned : Orphaned
unfolding all_open
orphaned = refl

pub overtaken : Overtaken
unfolding all_open
overtaken = refl

pub held_after : HeldAfter
unfolding all_open
held_after = refl

pub more_scripts : MoreScripts
unfolding all_open
more_scripts = record {
  orphaned_later = refl;
  replied_twice = refl;
  byte_by_byte = refl;
  passed_out_of_range = refl;
  found_in_range = refl;
  scanned_afresh = refl;
  spent_by_writes = refl;
  port_lost = refl;
  removed_meanwhile = refl;
  cleaned_up = refl;
  jobs_full = refl;
  spent_by_stale_replies = refl;
  new_content = refl;
  late_hello = refl;
  in_order = refl;
  service_restarted = refl;
}

pub path_begins : PathBegins
unfolding all_open
path_begins = record { runs = refl; connected = refl; no_job = refl; room = lit≤ tt; chunk = lit≤ tt; enough = lit≤ tt; leases = lit≤ tt }

services : (port : Port) → IsServiceAudit (no_sets port) (desk_at_first port (told port) (no_sets port)) (service_side port some_audits)
unfolding all_open
services One = (record { later = lit≤ tt; solid = ((lit≤ tt, lit≤ tt), tt) }, record { messages = refl; works = refl; note = refl }, (refl, record { messages = refl; works = refl; note = refl }, (tt, record { messages = refl; works = refl; note = refl }, (tt, record { messages = refl; works = refl; note = refl }, (tt, record { messages = refl; works = refl; note = refl }, tt)))))
services Two = tt

works : (port : Port) → FinishesItsWorks (no_sets port) [] (service_side port some_audits)
unfolding all_open
works One = (tt, (tt, (tt, (tt, ((some_work, inl refl, refl), tt)))))
works Two = tt

pub can_be_legal : CanBeLegal
unfolding all_open
can_be_legal = record {
  volume = record { streams = refl; last = refl };
  catalogues = λ port. tt;
  filter = (refl, record { answers = refl; messages = refl; note = refl }, (refl, record { answers = refl; messages = refl; note = refl }, (refl, record { answers = refl; messages = refl; note = refl }, (refl, record { answers = refl; messages = refl; note = refl }, tt))));
  services = services;
  works = works;
  one_sets = λ version p q one two. absurd (cc (two));
  delivered = (tt, (tt, (inl refl, (tt, (inl refl, (inr (inl refl), (inr (inl refl), (tt, (inr (inr (inl refl)), tt)))))))));
}

pub come_true : ComeTrue
come_true = record {
  whole_path = whole_path;
  granted_twice = granted_twice;
  written_meanwhile = written_meanwhile;
  timed_out_closed = timed_out_closed;
  timed_out_open = timed_out_open;
  restarted = restarted;
  stale = stale;
  orphaned = orphaned;
  overtaken = overtaken;
  held_after = held_after;
  more_scripts = more_scripts;
  path_begins = path_begins;
  can_be_legal = can_be_legal;
}
