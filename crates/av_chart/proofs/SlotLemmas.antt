use Rattle.std.proofs.Common.{ℕ, zero, suc, ◌≡◌, ◌+◌, ◌++◌, List, [], ◌∷◌, length, map, take, drop, Some, slice_get, slice_set, sym, ap, ◌∙◌, add-one, length-set}
use Rattle.av_chart.specs.Life.{Life, life_of, lives_of}
use Rattle.av_chart.specs.Slot.{first_free, hold, place_or_shared, slots, until}
use Rattle.av_chart.specs.declared.life.Bar.{Bar}
use Rattle.av_chart.specs.declared.life.Moment.{Moment}

-- a place of a bar does not touch its life
pub lives_stay : (bars : List Bar) (i : ℕ) (b : Bar) (slot : ℕ) → slice_get bars i ≡ Some b → lives_of (slice_set bars i (record b { slot = slot })) ≡ lives_of bars
lives_stay [] i b slot is = absurd (cc)
lives_stay (a ∷ bars) zero b slot is = let same : a ≡ b = cc in ap (λ (x : Bar). life_of x ∷ lives_of bars) (sym same)
lives_stay (a ∷ bars) (suc i) b slot is = ap (λ ls. life_of a ∷ ls) (lives_stay bars i b slot is)

-- the places of one bar more
pub slots_next : (last : Moment) (bars : List Bar) (i : ℕ) (held : List Moment) (b : Bar) (slot : ℕ) → slice_get bars i ≡ Some b → slot ≡ place_or_shared (first_free held b.begin)
    → map (λ b. b.slot) (take (suc i) (slice_set bars i (record b { slot = slot })))
    ++ slots last (hold held (first_free held b.begin) (until last b.end)) (lives_of (drop (suc i) (slice_set bars i (record b { slot = slot }))))
    ≡ map (λ b. b.slot) (take i bars) ++ slots last held (lives_of (drop i bars))
slots_next last [] i held b slot is own = absurd (cc)
slots_next last (a ∷ bars) zero held b slot is own =
    let same : b ≡ a = cc in
    let next = λ (x : Bar). place_or_shared (first_free held x.begin) ∷ slots last (hold held (first_free held x.begin) (until last x.end)) (lives_of bars) in
    ap (λ s. s ∷ slots last (hold held (first_free held b.begin) (until last b.end)) (lives_of bars)) own ∙ ap next same
slots_next last (a ∷ bars) (suc i) held b slot is own = ap (λ ss. a.slot ∷ ss) (slots_next last bars i held b slot is own)

-- a step of the loop
pub slots_kept : (last : Moment) (bars new : List Bar) (i : ℕ) (held next : List Moment) (b : Bar) (slot : ℕ) (lives : List Life) (all : List ℕ) (long : ℕ)
    → slice_get bars i ≡ Some b → slot ≡ place_or_shared (first_free held b.begin) → next ≡ hold held (first_free held b.begin) (until last b.end)
    → new ≡ slice_set bars i (record b { slot = slot })
    → (lives_of bars ≡ lives) × (map (λ b. b.slot) (take i bars) ++ slots last held (lives_of (drop i bars)) ≡ all) × (long ≡ length bars)
    → (lives_of new ≡ lives) × (map (λ b. b.slot) (take (i + 1) new) ++ slots last next (lives_of (drop (i + 1) new)) ≡ all) × (long ≡ length new)
slots_kept last bars new i held next b slot lives all long is own holds set h =
    let step = slots_next last bars i held b slot is own in
    let stay = lives_stay bars i b slot is in
    rw set (rw holds (rw add-one (stay ∙ h.0, step ∙ h.1, h.2 ∙ sym (length-set bars i (record b { slot = slot })))))
