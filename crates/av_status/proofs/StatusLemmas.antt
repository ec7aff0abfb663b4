-- Which of two statuses is the graver one.
use Rattle.std.proofs.Common.{arith, ◌≡◌, ap, inl, inr, refl, subst}
use Rattle.std.proofs.lemmas.Bool.{cases_Bool, ltb-false, ltb-true}
use Rattle.std.specs.Prelude.{nat_lt}
use Rattle.av_status.specs.Status.{EndsWell, IsAsGrave, IsDoneOrFault, IsFault, graver_status, number_of}
use Rattle.av_status.specs.declared.status.Status.{Status}
use Rattle.av_status.specs.declared.status.Status.TheVariants.{Done, Refused, Usage, Memory, Device, Found, FoundInPart}

-- a fault is no good end
pub no_good_end : {A : Type 0} (s : Status) → IsFault s → EndsWell s → A
no_good_end Done fault well = absurd fault
no_good_end Refused fault well = absurd well
no_good_end Usage fault well = absurd well
no_good_end Memory fault well = absurd well
no_good_end Device fault well = absurd well
no_good_end Found fault well = absurd fault
no_good_end FoundInPart fault well = absurd fault

-- a fault alone
pub alone : (s : Status) → IsFault s → s ≡ graver_status Done s
alone Done f = absurd f
alone Refused f = refl
alone Usage f = refl
alone Memory f = refl
alone Device f = refl
alone Found f = absurd f
alone FoundInPart f = absurd f

-- what went wrong is as grave as itself, and the graver of two as each
pub as_grave : (s : Status) → IsAsGrave s s
as_grave s = omega arith

pub graver_than_one : (one other : Status) → IsAsGrave one (graver_status one other)
graver_than_one one other = elim (cases_Bool (nat_lt (number_of one) (number_of other))) [
  | inl less ↦ rw less (omega (arith, ltb-true _ _ less))
  | inr not ↦ rw not (omega arith)
]

pub graver_than_other : (one other : Status) → IsAsGrave other (graver_status one other)
graver_than_other one other = elim (cases_Bool (nat_lt (number_of one) (number_of other))) [
  | inl less ↦ rw less (omega arith)
  | inr not ↦ rw not (omega (arith, ltb-false _ _ not))
]

pub grave_then : (least one other : Status) → IsAsGrave least one → IsAsGrave least (graver_status one other)
grave_then least one other grave = omega (arith, grave, graver_than_one one other)

pub grave_more : (least one other : Status) → IsAsGrave least one → IsAsGrave one other → IsAsGrave least other
grave_more least one other grave more = omega (arith, grave, more)

-- of two ends that are Done or a fault, the graver is so too
pub graver_ends : (one other : Status) → IsDoneOrFault one → IsDoneOrFault other → IsDoneOrFault (graver_status one other)
graver_ends one other ends other_ends = elim (cases_Bool (nat_lt (number_of one) (number_of other))) [
  | inl less ↦ rw less other_ends
  | inr not ↦ rw not ends
]

-- only where all was done nothing is as grave as that
pub none_as_grave : (least ended : Status) → IsAsGrave least ended → ended ≡ Done → least ≡ Done
none_as_grave Done ended grave e = refl
none_as_grave Refused ended grave e = absurd (omega (arith, grave, ap number_of e))
none_as_grave Usage ended grave e = absurd (omega (arith, grave, ap number_of e))
none_as_grave Memory ended grave e = absurd (omega (arith, grave, ap number_of e))
none_as_grave Device ended grave e = absurd (omega (arith, grave, ap number_of e))
none_as_grave Found ended grave e = absurd (omega (arith, grave, ap number_of e))
none_as_grave FoundInPart ended grave e = absurd (omega (arith, grave, ap number_of e))

-- a fault is never none
pub fault_stays : (one fault : Status) → IsFault fault → graver_status one fault ≡ Done → ⊥
fault_stays one fault is e = no_fault fault (none_as_grave fault _ (graver_than_other one fault) e) is
  where
    no_fault : (s : Status) → s ≡ Done → IsFault s → ⊥
    no_fault s e is = subst IsFault e is
