-- What holds of every world that a history leads to.
use Rattle.std.specs.Prelude.{ℕ, ◌≡◌, true, List, [], ◌∷◌, None, Some, Ok, is_some}
use Rattle.std.specs.List.{AllByRecursion}
use Rattle.av_base.specs.Limits.{AreInRange}
use Rattle.av_base.specs.declared.limits.LimitValues.{LimitValues}
use Rattle.av_base.specs.declared.message_id.MessageId.{MessageId}
use Rattle.av_base.specs.declared.mode.Mode.{Mode}
use Rattle.av_frame.specs.declared.message.Body.{Body}
use Rattle.av_frame.specs.declared.message.Body.TheVariants.{Reply}
use Rattle.av_frame.specs.declared.outcome.Outcome.TheVariants.{Judged}
use Rattle.av_filter.specs.Fit.{RunOnOpen, Stands}
use Rattle.av_frame.specs.Message.{Letter}
use Rattle.av_base.specs.declared.port.Port.{Port}
use Rattle.av_sigset.specs.Catalogue.{set_at}
use Rattle.av_sigset.specs.Set.{NumberedSet}
use Rattle.av_store.specs.Bounds.{AreInBounds}
use Rattle.av_history.specs.Held.{Asked, asked, asked_by}
use Rattle.av_history.specs.Safety.{works_out}
use Rattle.av_history.specs.Past.{IsTold}
use Rattle.av_history.specs.World.{WorldState, desk_of, start, step_of}
use Rattle.av_history.specs.declared.event.Event.{Event}
use Rattle.av_history.specs.declared.report.Report.{Report}

-- some set was published as this version
abbrev pub IsPublishedAs : List NumberedSet → ℕ → Type 0
IsPublishedAs sets version = (s : NumberedSet) × (set_at sets version ≡ Some s)

-- Volume and sets are those that the history tells. The filter's table is coherent and fits the volume, whose streams are in
-- their ranges, and its questions run on connected ports. Each service is on its port; its version is published, and it has
-- one where it is connected; and so is the version of each work that is out.
pub record IsWhole (w : WorldState) : Type 0 where
  pub told : IsTold w
  pub stands : Stands w.table w.volume
  pub bounds : AreInBounds w.volume
  pub runs : RunOnOpen w.table
  pub ports : (port : Port) → (desk_of w port).port ≡ port
  pub present : (port : Port) → ((desk_of w port).version ≡ 0 → ⊥) → IsPublishedAs w.sets (desk_of w port).version
  pub connected : (port : Port) → (desk_of w port).connected ≡ true → (desk_of w port).version ≡ 0 → ⊥
  pub works : AllByRecursion (λ k. IsPublishedAs w.sets k.1.version) (works_out w.works)

-- where fields that came up at a port are those of a verdict, that port was asked for it
abbrev pub BodyAskedThere : List Letter → Port → Body → Type 0
BodyAskedThere down port (Reply id (Judged version r)) = (a : Asked) × (asked down id ≡ Some a) × (a.port ≡ port)
BodyAskedThere down port _ = Unit {0}

-- the same of a message
abbrev pub IsAskedThere : List Letter → Letter → Type 0
IsAskedThere down m = BodyAskedThere down m.port m.body

-- no id is asked twice
abbrev pub ScanOnce : List Letter → Type 0
ScanOnce [] = Unit {0}
ScanOnce (m ∷ ms) = ((id : MessageId) → is_some (asked_by id m) ≡ true → asked ms id ≡ None) × ScanOnce ms

-- so it is at the start, and after each step
pub record StaysWhole : Type 0 where
  pub starts : (number : ℕ) (mode : Mode) (limits : LimitValues) → AreInRange limits → IsWhole (start number mode limits)
  pub steps : (w next : WorldState) (event : Event) (report : Report) → IsWhole w → step_of w event ≡ Ok (report, next)
      → IsWhole next
