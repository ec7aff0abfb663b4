-- A world can always finish.
use Rattle.std.proofs.Common.{◌≡◌, ℕ, suc, Bool, true, false, List, [], ◌∷◌, ◌++◌, length, map, reverse, Some, None, is_some, if◌then◌else◌, refl, sym, ap, ◌∙◌, arith, length-append, append_assoc, slice_get}
use Rattle.std.proofs.lemmas.List.{reverse-append}
use Rattle.std.specs.List.{AllByRecursion as Each}
use Rattle.std.specs.Option.{option_or}
use Rattle.av_base.proofs.KeyLemmas.{same_id-true}
use Rattle.av_base.specs.declared.message_id.MessageId.{MessageId}
use Rattle.av_base.specs.declared.mode.Mode.{Mode}
use Rattle.av_base.specs.MessageId.{same_id}
use Rattle.av_base.specs.declared.port.Port.{Port}
use Rattle.av_world.proofs.PlaceLemmas.{AtPorts, at_keeps}
use Rattle.av_filter.specs.Conduct.{filter_refusal, filter_step}
use Rattle.av_frame.specs.Message.{Letter, via}
use Rattle.av_frame.specs.declared.message.Body.TheVariants.{Scan}
use Rattle.av_frame.specs.declared.message.Body.{Body}
use Rattle.av_service.specs.Conduct.{connect_refusal, service_step}
use Rattle.av_service.specs.Work.{WorkState}
use Rattle.av_world.proofs.SoundLemmas.{Sound, sound_filter, sound_service, sound_publish, sound_work, sound_start}
use Rattle.av_history.proofs.StepLemmas.{Preserves, history_keeps, step_keeps}
use Rattle.av_history.specs.declared.event.Event.{Event}
use Rattle.av_history.specs.declared.event.Event.TheVariants.{Down, Up, Run, Connect, DisconnectService}
use Rattle.av_history.specs.Held.{Asked, asked, asked_at}
use Rattle.av_history.specs.Past.{past}
use Rattle.av_world.specs.Progress.{IsCarrying, before_scan, onward}
use Rattle.av_sigset.specs.Publication.{publication_of}
use Rattle.av_history.specs.World.{WorldState, after, back_at, connected, done, down_frame, member, reacted, responded, start, step_of, up_frame, work_at, work_event, world_of, world_or, desk_of}
use Rattle.av_filter.specs.Conduct as filter_events
use Rattle.av_service.specs.Conduct as service_events

-- ---- lists

pub get_last : {A : Type 0} (xs : List A) (x : A) → slice_get (xs ++ x ∷ []) (length xs) ≡ Some x
get_last [] x = refl
get_last (y ∷ xs) x = get_last xs x

pub member_last : {A : Type 0} (xs : List A) (x : A) → member (xs ++ x ∷ []) (length (xs ++ x ∷ [])) ≡ Some x
member_last xs x =
    let size : length (xs ++ x ∷ []) ≡ suc (length xs) = length-append xs (x ∷ []) ∙ omega arith in
    ap (member (xs ++ x ∷ [])) size ∙ get_last xs x

pub back_onto : (xs ys h : List Event) → reverse (xs ++ ys) ++ h ≡ reverse ys ++ (reverse xs ++ h)
back_onto xs ys h = ap (λ zs. zs ++ h) (reverse-append xs ys) ∙ append_assoc (reverse ys) (reverse xs) h

-- ---- events in order

pub onward-append : (xs ys : List Event) (w : WorldState) → onward (xs ++ ys) w ≡ onward ys (onward xs w)
unfolding onward
onward-append [] ys w = refl
onward-append (x ∷ xs) ys w = onward-append xs ys (after w x)

pub down_step : (w : WorldState) (k : ℕ) (m : Letter) → member w.down k ≡ Some m → after w (Down k) ≡ responded w (Down k) m.port (service_step (desk_of w m.port) (service_events.Receives m))
unfolding step_of
down_step w k m at = ap (λ o. world_or w (down_frame w (Down k) o)) at

pub up_step : (w : WorldState) (k : ℕ) (m : Letter) → member w.up k ≡ Some m → after w (Up k) ≡ reacted w (Up k) (filter_step w.table w.volume (filter_events.Receives m))
unfolding step_of filter_refusal
up_step w k m at = ap (λ o. world_or w (up_frame w (Up k) o)) at

pub run_step : (w : WorldState) (k : ℕ) (port : Port) (x : WorkState) → work_at w.works k ≡ Some (port, x) → after w (Run k) ≡ responded (back_at w k) (Run k) port (service_step (desk_of w port) (done (map publication_of w.sets) x))
unfolding step_of
run_step w k port x at = ap (λ o. world_or w (work_event w (Run k) k o)) at

pub connect_step : (w : WorldState) (port : Port) → connect_refusal (desk_of w port) ≡ None → after w (Connect port) ≡ responded w (Connect port) port (service_step (desk_of w port) service_events.Connects)
unfolding step_of
connect_step w port at = ap (λ o. world_or w (connected w (Connect port) port o)) at

pub disconnect_step : (w : WorldState) (port : Port) → after w (DisconnectService port) ≡ responded w (DisconnectService port) port (service_step (desk_of w port) service_events.Disconnects)
unfolding step_of
disconnect_step w port = refl

-- ---- what stays

-- the invariants of a world that are needed here
pub record Steady (mode : Mode) (w : WorldState) : Type 0 where
  pub sound : Sound mode w
  pub placed : AtPorts w

steady_keeps : (mode : Mode) (w : WorldState) → Steady mode w → Preserves (λ e. Steady mode) w
steady_keeps mode w s =
    let at : Preserves (λ e. AtPorts) w = at_keeps w s.placed in
    record {
      filter = λ e f is ok. record { sound = sound_filter mode w s.sound e f is ok; placed = at.filter e f is ok };
      service = λ e port x is. record { sound = sound_service mode w s.sound e port x is; placed = at.service e port x is };
      publish = λ v ps set ok. record { sound = sound_publish mode w s.sound v ps set ok; placed = at.publish v ps set ok };
      work = λ k x found. record { sound = sound_work mode w s.sound k x found; placed = at.work k x found };
    }

pub steady_onward : (mode : Mode) (es : List Event) (w : WorldState) → Steady mode w → Steady mode (onward es w)
unfolding onward
steady_onward mode [] w s = s
steady_onward mode (e ∷ es) w s = steady_onward mode es (after w e) (step_keeps (λ e. Steady mode) w (λ e. s) (steady_keeps mode w s) e)

pub steady : (number : ℕ) (mode : Mode) (limits : _) (es : List Event) → Steady mode (world_of (start number mode limits) es)
steady number mode limits es = history_keeps (Steady mode) (steady_keeps mode) (start number mode limits) (record { sound = sound_start number mode limits; placed = record { one = refl; two = refl } }) es

past_still : (e : Event) (h : List Event) → IsCarrying e → past (e ∷ h) ≡ past h
unfolding past
past_still (Down k) h c = refl
past_still (Up k) h c = refl
past_still (Run k) h c = refl
past_still (Connect port) h c = refl
past_still (DisconnectService port) h c = refl
past_still _ h c = absurd c

pub past_kept : (es h : List Event) → Each IsCarrying es → past (reverse es ++ h) ≡ past h
past_kept [] h all = refl
past_kept (e ∷ es) h all = ap past (back_onto (e ∷ []) es h) ∙ (past_kept es (e ∷ h) all.1 ∙ past_still e h all.0)

-- ---- where the scan of a question stands

abbrev pub the_asked : Port → ℕ → ℕ → ℕ → Asked
the_asked port s g l = record { port = port; stream = s; generation = g; length = l }

pub scan_there : (ms : List Letter) (id : MessageId) (port : Port) (s g l : ℕ) → asked ms id ≡ Some (the_asked port s g l) → slice_get ms (before_scan id ms) ≡ Some (via port (Scan id s g l))
unfolding asked before_scan
scan_there [] id port s g l h = absurd (cc (h))
scan_there (m ∷ ms) id port s g l h = here (scan_there ms id port s g l) m.port m.body h
  where
    here : (asked ms id ≡ Some (the_asked port s g l) → slice_get ms (before_scan id ms) ≡ Some (via port (Scan id s g l))) → (at : Port) (b : Body) → option_or (asked_at id at b) (asked ms id) ≡ Some (the_asked port s g l)
        → slice_get (via at b ∷ ms) (if is_some (asked_at id at b) then 0 else suc (before_scan id ms)) ≡ Some (via port (Scan id s g l))
    here later at (Scan i s' g' l') h =
        let go : (b : Bool) → same_id i id ≡ b → option_or (if b then Some (the_asked at s' g' l') else None) (asked ms id) ≡ Some (the_asked port s g l)
        → slice_get (via at (Scan i s' g' l') ∷ ms) (if is_some (if b then Some (the_asked at s' g' l') else None) then 0 else suc (before_scan id ms)) ≡ Some (via port (Scan id s g l)) = elim [
          | true ↦ λ e k.
              let same : the_asked at s' g' l' ≡ the_asked port s g l = cc (k) in
              let it : i ≡ id = same_id-true i id e in
              λ n. Some (via ((same n).port) (Scan (it n) ((same n).stream) ((same n).generation) ((same n).length)))
          | false ↦ λ e k. later k
        ] in
        go (same_id i id) refl h
    here later at _ h = later h

-- events in order make the history longer by themselves
pub onward_is : (w : WorldState) (es h : List Event) → onward es (world_of w h) ≡ world_of w (reverse es ++ h)
unfolding onward
onward_is w [] h = refl
onward_is w (e ∷ es) h = onward_is w es (e ∷ h) ∙ ap (world_of w) (sym (back_onto (e ∷ []) es h))
