-- The worked run of both engines: one open of a stream `ABC`, under a set of version 1 that looks for `XX`.
use Rattle.std.specs.Prelude.{ℕ, ◌≡◌, true, List, [], ◌∷◌, ◌++◌, map}
use Rattle.av_base.specs.Limits.{greatest_values}
use Rattle.av_base.specs.declared.cause.Cause.TheVariants.{PortDisconnected}
use Rattle.av_base.specs.declared.message_id.MessageId.{MessageId}
use Rattle.av_base.specs.declared.mode.Mode.TheVariants.{FailClosed}
use Rattle.av_base.specs.declared.port.Port.TheVariants.{One, Two}
use Rattle.av_base.specs.declared.refusal.Refusal.TheVariants.{Fault}
use Rattle.av_base.specs.declared.verdict.Verdict.TheVariants.{Clean, Infected}
use Rattle.av_filter.specs.Conduct.{Disconnects, Receives}
use Rattle.av_filter_table.specs.Table.{Table, mounted}
use Rattle.av_frame.specs.Message.{Letter, via}
use Rattle.av_frame.specs.declared.message.Body.TheVariants.{Scan, Chunk, Hello, Read, Reply, Updated}
use Rattle.av_frame.specs.declared.outcome.Outcome.TheVariants.{Judged}
use Rattle.av_pend.specs.declared.answer.Answer.TheVariants.{Denied, Granted}
use Rattle.av_service.specs.Desk.{Desk, just_started}
use Rattle.av_sigset.specs.Set.{NumberedSet, widest}
use Rattle.av_sigset.specs.declared.fault.CatalogueFault.TheVariants.{OldVersion}
use Rattle.av_sigset.specs.declared.signature.Pattern.{Pattern}
use Rattle.av_store.specs.Store.{Store}
use Rattle.av_engines.specs.Fresh.{Happening, Comes, Renews, Refuses, AllMayHappen, all_published, fresh_run}
use Rattle.av_engines.specs.Serving.{service_run}
use Rattle.av_engines.specs.Watching.{filter_run, further_run, happened, is_done, unled}

-- a volume with one stream of three bytes
abbrev pub worked_store : Store
worked_store =
    record {
      number = 1;
      boot = 1;
      opens = 0;
      last = 1;
      limits = greatest_values;
      streams = (1, record { name = 97 ∷ []; generation = 2; bytes = 65 ∷ 66 ∷ 67 ∷ [] }) ∷ [];
    }

-- a filter just mounted on it
abbrev pub worked_table : Table
worked_table = mounted FailClosed greatest_values 1

-- a service just started
abbrev pub worked_desk : Desk
worked_desk = just_started 1 One greatest_values 1

-- one signature of two bytes that the stream lacks
abbrev pub worked_patterns : ℕ → List Pattern
worked_patterns version = record { bytes = 88 ∷ 88 ∷ []; span = widest } ∷ []

-- the first question of the first boot
abbrev pub first_id : MessageId
first_id = record { boot = 1; seq = 1 }

-- what the filter sends, and the service
abbrev pub down : List Letter
down = map (via One) (Scan first_id 1 2 3 ∷ Chunk first_id 0 (65 ∷ 66 ∷ 67 ∷ []) ∷ [])

-- what the service sends in the worked run
abbrev pub up : List Letter
up = map (via One) (Hello 1 1 ∷ Read first_id 0 3 ∷ Reply first_id (Judged 1 Clean) ∷ [])

-- the set of these patterns under its version
abbrev pub first_set : NumberedSet
first_set = record { version = 1; signatures = record { name = 120 ∷ []; pattern = record { bytes = 88 ∷ 88 ∷ []; span = widest } } ∷ [] }

-- and a newer one of one signature that the stream has
abbrev pub second_set : NumberedSet
second_set = record { version = 2; signatures = record { name = 121 ∷ []; pattern = record { bytes = 65 ∷ 66 ∷ []; span = widest } } ∷ [] }

-- a scan comes, the newer set, the one before it again, and then the content
abbrev pub between : List Happening
between =
    Comes (via One (Scan first_id 1 2 3))
    ∷ Renews second_set
    ∷ Refuses first_set (Fault OldVersion)
    ∷ Comes (via One (Chunk first_id 0 (65 ∷ 66 ∷ 67 ∷ [])))
    ∷ []

-- the messages of the other port that come beside them
abbrev pub among_others : List Letter
among_others = via Two (Hello 1 1) ∷ (up ++ via Two (Reply first_id (Judged 1 Clean)) ∷ [])

-- a filter that was greeted before
abbrev pub greeted_table : Table
greeted_table = (happened (unled worked_table worked_store []) (Receives (via One (Hello 1 1)))).table

-- Each side's text of what the other sends is that of the worked run. A message behind the last answer changes nothing; where
-- the service is lost before its reply, the open is denied; and a filter that was greeted before submits further opens at once. A newer set
-- begins the scan anew, and is what its reply names. What comes at the second port changes nothing, also between others.
pub record AreWorked : Type 0 where
  pub serves : (service_run worked_patterns worked_desk down).sent ≡ up
  pub renews : (fresh_run (first_set ∷ []) worked_desk between).sent
      ≡ map (via One)
      (Hello 1 1 ∷ Read first_id 0 3 ∷ Updated 2 ∷ Read first_id 0 3 ∷ Reply first_id (Judged 2 (Infected 0 2)) ∷ [])
  pub may : AllMayHappen (first_set ∷ []) between
  pub published : all_published (first_set ∷ []) between ≡ second_set ∷ first_set ∷ []
  pub watches : (filter_run worked_table worked_store (1 ∷ []) up).led.sent ≡ down
  pub grants : (filter_run worked_table worked_store (1 ∷ []) up).led.answers ≡ Granted 1 0 1 2 1 ∷ []
  pub is_over : is_done 0 1 (filter_run worked_table worked_store (1 ∷ []) up) ≡ true
  pub nothing_behind : filter_run worked_table worked_store (1 ∷ []) (up ++ via One (Read first_id 0 3) ∷ [])
      ≡ filter_run worked_table worked_store (1 ∷ []) up
  pub not_before : (filter_run worked_table worked_store (1 ∷ []) (via One (Hello 2 1) ∷ [])).led.sent ≡ []
  pub behind_a_message : (filter_run greeted_table worked_store (1 ∷ []) []).led.sent ≡ []
  pub at_once : (further_run greeted_table worked_store (1 ∷ []) []).led.sent ≡ via One (Scan first_id 1 2 3) ∷ []
  pub grants_then : (further_run greeted_table worked_store (1 ∷ [])
      (map (via One) (Read first_id 0 3 ∷ Reply first_id (Judged 1 Clean) ∷ []))).led
      ≡ record {
        table = (filter_run worked_table worked_store (1 ∷ []) up).led.table;
        volume = (filter_run worked_table worked_store (1 ∷ []) up).led.volume;
        sent = down;
        answers = Granted 1 0 1 2 1 ∷ [];
      }
  pub none_at_once : (filter_run worked_table worked_store [] up).led.sent ≡ []
  pub not_at_two : (filter_run worked_table worked_store (1 ∷ []) (map (via Two) (Hello 1 1 ∷ []))).led.sent ≡ []
  pub others : filter_run worked_table worked_store (1 ∷ []) among_others ≡ filter_run worked_table worked_store (1 ∷ []) up
  pub none_served_at_two : (service_run worked_patterns worked_desk (map (via Two) (Scan first_id 1 2 3 ∷ []))).sent
      ≡ via One (Hello 1 1) ∷ []
  pub lost : (happened (filter_run worked_table worked_store (1 ∷ []) (via One (Hello 1 1) ∷ [])).led (Disconnects One)).answers
      ≡ Denied 1 PortDisconnected ∷ []
