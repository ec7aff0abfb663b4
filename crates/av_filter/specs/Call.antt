-- What the code's calls answer, against the conduct.
use Rattle.std.specs.Prelude.{◌≡◌, Option, Some, None, Result, Ok, Err}
use Rattle.av_base.specs.declared.refusal.Refusal.{Refusal}
use Rattle.av_base.specs.declared.refusal.Refusal.TheVariants.{Fault, NoMemory}
use Rattle.av_filter.specs.Reaction.{Reaction}
use Rattle.av_filter_table.specs.Table.{Table}
use Rattle.av_filter.specs.declared.out.Out.{Out}
use Rattle.av_store.specs.Store.{Store}

-- what was given out, and what is left, is the reaction
pub record Reacts (out : Out) (t : Table) (v : Store) (r : Reaction) : Type 0 where
  pub answers : out.answers.items ≡ r.answers
  pub messages : out.messages.items ≡ r.messages
  pub note : out.note ≡ r.note
  pub table : t ≡ r.table
  pub volume : v ≡ r.volume

-- A call took table and volume to t' and v'. It is refused by its fault, or for want of memory where it has none, and changes
-- nothing then; else it is the reaction.
abbrev pub Meets : {F : Type 0} → Table → Store → Table → Store → Result Out (Refusal F) → Option F → Reaction → Type 0
Meets t v t' v' (Ok out) fault r = (fault ≡ None) × Reacts out t' v' r
Meets t v t' v' (Err (Fault f)) fault r = (fault ≡ Some f) × (t' ≡ t) × (v' ≡ v)
Meets t v t' v' (Err NoMemory) fault r = (fault ≡ None) × (t' ≡ t) × (v' ≡ v)

-- the same of a call that is refused for want of memory alone
abbrev pub MeetsAlways : {E : Type 0} → Table → Store → Table → Store → Result Out E → Reaction → Type 0
MeetsAlways t v t' v' (Ok out) r = Reacts out t' v' r
MeetsAlways t v t' v' (Err e) r = (t' ≡ t) × (v' ≡ v)
