-- A desk that gets its own works back.
use Rattle.std.specs.Prelude.{◌≡◌, ◌<◌, ◌/◌, ◌%◌, ℕ, List, [], ◌∷◌, Option, None, Some, length, slice_get, take}
use Rattle.av_base.specs.declared.message_id.MessageId.{MessageId}
use Rattle.av_desk.specs.Audit.{opened_by}
use Rattle.av_desk.specs.declared.audit.Audit.{Audit as DeskAudit}
use Rattle.av_frame.specs.Message.{Letter}
use Rattle.av_frame.specs.declared.message.Body.TheVariants.{Chunk}
use Rattle.av_service.specs.Audit.{By, Call, ServiceEntry, lent_by, sets_after}
use Rattle.av_service.specs.Conduct.{Receives}
use Rattle.av_sigset.specs.Publication.{Publication}
use Rattle.av_history.specs.Audits.{FinishesItsWorks, IsOfWorks}

-- a call brings these bytes of a content
pub record BringsBytes (c : Call) (bytes : List ℕ) : Type 0 where
  pub message : Letter
  pub id : MessageId
  pub offset : ℕ
  pub call : c ≡ By (Receives message)
  pub body : message.body ≡ Chunk id offset bytes

-- each work that came back to this desk is one that it lent, run under the set of its version
abbrev pub HasOwnWorks : DeskAudit → Type 0
HasOwnWorks a = FinishesItsWorks (opened_by a) [] a.events.items

abbrev pub SpareHasOwnWorks : Option DeskAudit → Type 0
SpareHasOwnWorks None = Unit {0}
SpareHasOwnWorks (Some a) = HasOwnWorks a

-- each was opened with this publication alone
abbrev pub IsOpenedWith : DeskAudit → Publication → Type 0
IsOpenedWith a p = opened_by a ≡ p ∷ []

abbrev pub SpareIsOpenedWith : Option DeskAudit → Publication → Type 0
SpareIsOpenedWith None p = Unit {0}
SpareIsOpenedWith (Some a) p = IsOpenedWith a p

-- the event at a place brings back no work but one that was lent before, run under its set, and publishes nothing
pub record IsOwnAt (a : DeskAudit) (at : ℕ) : Type 0 where
  pub own : (x : ServiceEntry) → slice_get a.events.items at ≡ Some x → IsOfWorks (opened_by a) (lent_by [] (take at a.events.items)) x.call
  pub same : (x : ServiceEntry) → slice_get a.events.items at ≡ Some x → sets_after (opened_by a) x.call ≡ opened_by a

-- so does each event of a share: blocks of 16 events are dealt to so many shares in turn
abbrev pub IsShareOwn : DeskAudit → ℕ → ℕ → Type 0
IsShareOwn a of number = (at : ℕ) → at < length a.events.items → at / 16 % of ≡ number → IsOwnAt a at
