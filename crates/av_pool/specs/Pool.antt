-- A pool with its two ends, and what comes out of it.
use Rattle.std.specs.Prelude.{◌≡◌, ◌<◌, ◌≤◌, ◌⊎◌, ◌==◌, ℕ, cond, List, map}
use Rattle.av_base.specs.declared.refusal.Refusal.{Refusal}
use Rattle.av_base.specs.declared.refusal.Refusal.TheVariants.{Fault, NoMemory}
use Rattle.av_desk.specs.Lent.{LentState}
use Rattle.crossbeam_channel.specs.Claims.{Pass, view}
use Rattle.av_pool.specs.Channel.{Channel, channel_of}
use Rattle.av_pool.specs.Items.{dones_of, idles_of, lents_of, marks_of}
use Rattle.av_pool.specs.Run.{done_of}
use Rattle.av_pool.specs.Weights.{weigh}
use Rattle.av_pool.specs.declared.fault.StartFault.{StartFault}
use Rattle.av_pool.specs.declared.fault.StartFault.TheVariants.{WorkersRange, NoThread}
use Rattle.av_pool.specs.declared.item.DoneItem.{DoneItem}
use Rattle.av_pool.specs.declared.item.WorkItem.{WorkItem}
use Rattle.av_pool.specs.declared.tally.PassTally.{PassTally}
use Rattle.av_service.specs.Work.{DoneState}

-- the channel that a giver gives into, all that it gave, in order, and how many marks it sent
pub record GiverState : Type 0 where
  pub channel : Channel WorkItem
  pub given : List LentState
  pub marks : ℕ

-- the channel that a taker takes from, all that it took, in order, and how often it got a mark in place of a work
pub record TakerState : Type 0 where
  pub channel : Channel DoneItem
  pub taken : List DoneState
  pub marks : ℕ

-- the same read off their passes
abbrev pub giver_state : Pass WorkItem (PassTally WorkItem) → GiverState
giver_state p = record { channel = channel_of p; given = lents_of (view p).put; marks = marks_of (view p).put }

-- what a taker has taken
abbrev pub taker_state : Pass DoneItem (PassTally DoneItem) → TakerState
taker_state p = record { channel = channel_of p; taken = dones_of (view p).taken; marks = idles_of (view p).taken }

-- both channels of a pool, and how many workers it has
pub record PoolState : Type 0 where
  pub works : Channel WorkItem
  pub dones : Channel DoneItem
  pub workers : ℕ

-- the giver and the taker hold the other ends of the pool's channels
pub record AreEndsOf (p : PoolState) (g : GiverState) (t : TakerState) : Type 0 where
  pub giver : g.channel ≡ p.works
  pub taker : t.channel ≡ p.dones

-- a pool has 1 to 16 workers, and starts with no other number
abbrev pub IsCrewSize : ℕ → Type 0
IsCrewSize n = (1 ≤ n) × (n ≤ 16)

-- no pool is started: for its number of workers, or, where that is in range, for want of a thread or of memory
abbrev pub IsStartRefusal : ℕ → Refusal StartFault → Type 0
IsStartRefusal n (Fault WorkersRange) = (n ≡ 0) ⊎ (16 < n)
IsStartRefusal n (Fault NoThread) = IsCrewSize n
IsStartRefusal n NoMemory = IsCrewSize n

-- what came out is what the runs of the given works give, each as often: however it is weighed, it weighs the same
abbrev pub AreRunsOf : List LentState → List DoneState → Type 0
AreRunsOf given out = (h : DoneState → ℕ) → weigh h out ≡ weigh h (map done_of given)

-- how often a lease stands among works that were given, and among those that came out
abbrev pub times_given : ℕ → List LentState → ℕ
times_given lease given = weigh (λ l. cond (l.work.lease == lease) 1 0) given

-- how often a lease is among the results
abbrev pub times_done : ℕ → List DoneState → ℕ
times_done lease out = weigh (λ d. cond (d.lease == lease) 1 0) out
