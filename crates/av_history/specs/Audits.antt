-- The audits of a filter and of the services of its ports, each legal by itself, and the headline of the three put together.
use Rattle.std.specs.Prelude.{◌≡◌, ℕ, List, [], ◌∷◌, ◌++◌, map, Some, All, if◌then◌else◌}
use Rattle.av_base.specs.Among.{Among}
use Rattle.av_base.specs.declared.limits.LimitValues.{LimitValues}
use Rattle.av_base.specs.declared.mode.Mode.{Mode}
use Rattle.av_filter.specs.Audit.{FilterEntry, IsFilterAudit, filter_end, sent_down}
use Rattle.av_filter.specs.Conduct.{FilterEvent}
use Rattle.av_filter.specs.Conduct as filter
use Rattle.av_filter_table.specs.Table.{Table, mounted}
use Rattle.av_frame.specs.Message.{Letter}
use Rattle.av_base.specs.declared.port.Port.TheVariants.{One, Two}
use Rattle.av_base.specs.declared.port.Port.{Port}
use Rattle.av_base.specs.Port.{same_port}
use Rattle.av_service.specs.Audit.{By, Call, IsCatalogue, IsServiceAudit, ServiceEntry, desk_end, lent_by, sent_up, sets_after}
use Rattle.av_service.specs.Conduct.{Receives, Finishes}
use Rattle.av_service.specs.Work.{WorkState}
use Rattle.av_sigset.specs.Publication.{Publication, published_as}
use Rattle.av_sigset.specs.declared.signature.Pattern.{Pattern}
use Rattle.av_store.specs.Files.{File}
use Rattle.av_store.specs.Seen.{Keeps}
use Rattle.av_store.specs.Store.{Store}
use Rattle.av_history.specs.Headline.{IsJustified}
use Rattle.av_history.specs.Held.{held_among}
use Rattle.av_history.specs.Past.{Past, IsRightEntry}
use Rattle.av_history.specs.Safety.{JudgesItsContent}
use Rattle.av_history.specs.Scene.{Answered, Started, desk_at_first, opening_past, past_call, past_filter, told_at}
use Rattle.av_history.specs.World.{done}

-- each work that comes back is one that this audit lent, run under the set of its version
abbrev pub IsOfWorks : List Publication → List WorkState → Call → Type 0
IsOfWorks sets works (By (Finishes lease scan hit)) = (k : WorkState) × Among k works × (Finishes lease scan hit ≡ done sets k)
IsOfWorks sets works _ = Unit {0}

-- each work that comes back had been lent, under a set that was published
abbrev pub FinishesItsWorks : List Publication → List WorkState → List ServiceEntry → Type 0
FinishesItsWorks sets works [] = Unit {0}
FinishesItsWorks sets works (x ∷ xs) =
    IsOfWorks sets works x.call × FinishesItsWorks (sets_after sets x.call) (works ++ x.works) xs

-- the publications of a catalogue after these entries
abbrev pub sets_end : List Publication → List ServiceEntry → List Publication
sets_end sets [] = sets
sets_end sets (x ∷ xs) = sets_end (sets_after sets x.call) xs

-- All three, put together.
pub data SideEntry : Type 0 where
  OfFilter : (entry : FilterEntry) → SideEntry
  OfService : (port : Port) (entry : ServiceEntry) → SideEntry

-- the filter's entries
abbrev pub filter_side : List SideEntry → List FilterEntry
filter_side [] = []
filter_side (OfFilter x ∷ es) = x ∷ filter_side es
filter_side (OfService port x ∷ es) = filter_side es

-- the entries of the service of a port
abbrev pub service_side : Port → List SideEntry → List ServiceEntry
service_side port [] = []
service_side port (OfFilter x ∷ es) = service_side port es
service_side port (OfService at x ∷ es) = if same_port at port then x ∷ service_side port es else service_side port es

-- each message that came had been sent by the other side before
abbrev pub CameUp : List Letter → FilterEvent → Type 0
CameUp up (filter.Receives m) = Among m up
CameUp up _ = Unit {0}

-- a message that comes to the service had been sent by the filter
abbrev pub CameDown : List Letter → Call → Type 0
CameDown down (By (Receives m)) = Among m down
CameDown down _ = Unit {0}

-- each message that comes had been sent by the other side before
abbrev pub IsDelivered : List Letter → List Letter → List SideEntry → Type 0
IsDelivered down up [] = Unit {0}
IsDelivered down up (OfFilter x ∷ es) = CameUp up x.event × IsDelivered (down ++ x.messages) up es
IsDelivered down up (OfService port x ∷ es) = CameDown down x.call × IsDelivered down (up ++ x.messages) es

-- the past after it, and each answer with the past at its event
abbrev pub past_end : Past → List SideEntry → Past
past_end p [] = p
past_end p (OfFilter x ∷ es) = past_end (past_filter p x.event) es
past_end p (OfService port x ∷ es) = past_end (past_call p x.call) es

-- the answers of all entries, each with the past that it was given in
abbrev pub answers_in : Past → List SideEntry → List Answered
answers_in p [] = []
answers_in p (OfFilter x ∷ es) = map (told_at (past_filter p x.event)) x.answers ++ answers_in (past_filter p x.event) es
answers_in p (OfService port x ∷ es) = answers_in (past_call p x.call) es

-- a version names one set in both catalogues
abbrev pub AreOneSets : List Publication → List Publication → Type 0
AreOneSets ones twos =
    (version : ℕ) (p q : List Pattern) → published_as ones version ≡ Some p → published_as twos version ≡ Some q → p ≡ q

-- what the services sent
abbrev pub all_up : List SideEntry → List Letter
all_up es = sent_up (sent_up [] (service_side One es)) (service_side Two es)

-- The headline of it. t, v: where the filter's audit opens; sets: the catalogues, and told: how the services were started.
abbrev pub AuditsHoldOneVerdict : List File → Table → Store → (Port → Started) → (Port → List Publication) → List SideEntry → Type 0
AuditsHoldOneVerdict fs t v told sets es =
    let k = filter_end t v (filter_side es) in
    All (IsRightEntry (past_end (opening_past fs sets) es))
    (held_among k.table k.volume.streams
    (desk_end (desk_at_first One (told One) (sets One)) (service_side One es))
    (desk_end (desk_at_first Two (told Two) (sets Two)) (service_side Two es))
    (sent_down [] (filter_side es)) (all_up es))

-- each job of both has judged the content that it was asked about on its own port, and keeps the scan of what it has judged
abbrev pub AuditsJudgeRightly : List File → (Port → Started) → (Port → List Publication) → List SideEntry → Type 0
AuditsJudgeRightly fs told sets es =
    (port : Port) →
    let end = desk_end (desk_at_first port (told port) (sets port)) (service_side port es) in
    All (JudgesItsContent (past_end (opening_past fs sets) es) (sent_down [] (filter_side es)) port (lent_by [] (service_side port es))
    end.last_lease end.version) end.jobs

-- each answer of the audits is justified by the past at which it was given
abbrev pub AuditsGrantOnlyClean : Mode → List File → (Port → List Publication) → List SideEntry → Type 0
AuditsGrantOnlyClean mode fs sets es = All (λ a. IsJustified mode a.past a.answer) (answers_in (opening_past fs sets) es)

-- all audits are legal from their openings, catalogues that publications made among these, a version names one set, and each
-- message that came had been sent
pub record AreLegal (mode : Mode) (limits : LimitValues) (told : Port → Started) (fs : List File) (v : Store)
    (sets : Port → List Publication) (es : List SideEntry) : Type 0 where
  pub volume : Keeps v fs
  pub catalogues : (port : Port) → IsCatalogue (sets port)
  pub filter : IsFilterAudit (mounted mode limits v.boot) v (filter_side es)
  pub services : (port : Port) → IsServiceAudit (sets port) (desk_at_first port (told port) (sets port)) (service_side port es)
  pub works : (port : Port) → FinishesItsWorks (sets port) [] (service_side port es)
  pub one_sets : AreOneSets (sets_end (sets One) (service_side One es)) (sets_end (sets Two) (service_side Two es))
  pub delivered : IsDelivered [] [] es
