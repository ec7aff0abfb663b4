-- Answers that stay, each at the place of its tag.
use Rattle.std.proofs.Common.{arith, ℕ, zero, suc, ◌≡◌, ◌<◌, ◌+◌, ◌∙◌, length, ◌⊎◌, inl, inr, List, [], ◌∷◌, ◌++◌, refl, ap, sym, subst}
use Rattle.std.proofs.lemmas.List.{length_push}
use Rattle.std.specs.Prelude.{Option, None, Some, slice_get, slice_set}
use Rattle.av_asks.specs.declared.content_answer.ContentAnswer.{ContentAnswer}
use Rattle.av_asks.specs.declared.content_answer.ContentAnswer.TheVariants as content_answer
use Rattle.av_client.specs.declared.reply.Reply.{Reply}
use Rattle.av_client.proofs.OwedLemmas.{kept_length}
use Rattle.av_client.specs.Asking.{AreAtTheirTags, Forgets, HasAnswer, Hears, IsKept, Stays, tag_of, told_of}

-- an answer is put where none stood: the others stay
set_stays : (answers : List (Option Reply)) (place : ℕ) (a : Reply) → slice_get answers place ≡ Some None → Stays answers (slice_set answers place (Some a))
set_stays [] place a e k b at = cc
set_stays (None ∷ answers) zero a e zero b at = cc
set_stays (Some c ∷ answers) zero a e zero b at = cc
set_stays (x ∷ answers) zero a e (suc k) b at = at
set_stays (x ∷ answers) (suc place) a e zero b at = at
set_stays (x ∷ answers) (suc place) a e (suc k) b at = set_stays answers place a e k b at

-- what stands at a place afterwards is what was put there, or stood there
set_gives : (answers : List (Option Reply)) (place : ℕ) (a : Reply) (k : ℕ) (b : Reply) → slice_get (slice_set answers place (Some a)) k ≡ Some (Some b)
    → ((k ≡ place) × (b ≡ a)) ⊎ (slice_get answers k ≡ Some (Some b))
set_gives [] place a k b at = inr at
set_gives (x ∷ answers) zero a zero b at = inl (refl, cc)
set_gives (x ∷ answers) zero a (suc k) b at = inr at
set_gives (x ∷ answers) (suc place) a zero b at = inr at
set_gives (x ∷ answers) (suc place) a (suc k) b at = elim (set_gives answers place a k b at) [
  | inl it ↦ inl (ap suc it.0, it.1)
  | inr it ↦ inr it
]

-- an answer names its tag
told_tag : (answer : ContentAnswer) → tag_of (told_of answer).1 ≡ (told_of answer).0
told_tag (content_answer.Open a) = refl
told_tag (content_answer.Large a) = refl

set_tags : (answers : List (Option Reply)) (place : ℕ) (a : Reply) → tag_of a ≡ place → AreAtTheirTags answers → AreAtTheirTags (slice_set answers place (Some a))
set_tags answers place a tag tags k b at = elim (set_gives answers place a k b at) [
  | inl it ↦ ap tag_of it.1 ∙ tag ∙ sym it.0
  | inr it ↦ tags k b it
]

-- an answer that is kept is heard
pub kept_hears : (old new : List (Option Reply)) (answer : ContentAnswer) → IsKept old new (told_of answer) → Hears old new
kept_hears old new answer kept = record {
  places = kept_length old new (told_of answer) kept;
  stays = subst (λ l. Stays old l) (sym kept.1) (set_stays old (told_of answer).0 (told_of answer).1 kept.0);
  tags = λ tags. subst AreAtTheirTags (sym kept.1) (set_tags old (told_of answer).0 (told_of answer).1 (told_tag answer) tags);
}

pub nothing_heard : (answers : List (Option Reply)) → Hears answers answers
nothing_heard answers = record { places = refl; stays = λ k a at. at; tags = λ tags. tags }

pub both_heard : (a b c : List (Option Reply)) → Hears a b → Hears b c → Hears a c
both_heard a b c one two = record {
  places = two.places ∙ one.places;
  stays = λ k x at. two.stays k x (one.stays k x at);
  tags = λ tags. two.tags (one.tags tags);
}

-- one more content has no answer yet: those before stay
asked_one : (answers : List (Option Reply)) → Stays answers (answers ++ None ∷ [])
asked_one [] k a at = cc
asked_one (x ∷ answers) zero a at = at
asked_one (x ∷ answers) (suc k) a at = asked_one answers k a at

asked_gives : (answers : List (Option Reply)) (k : ℕ) (a : Reply) → slice_get (answers ++ None ∷ []) k ≡ Some (Some a) → slice_get answers k ≡ Some (Some a)
asked_gives [] zero a at = cc
asked_gives [] (suc k) a at = cc
asked_gives (x ∷ answers) zero a at = at
asked_gives (x ∷ answers) (suc k) a at = asked_gives answers k a at

-- a content that was asked about, and what was heard then
pub asked_stays : (answers new : List (Option Reply)) → Hears (answers ++ None ∷ []) new → Stays answers new
asked_stays answers new heard k a at = heard.stays k a (asked_one answers k a at)

pub asked_tags : (answers new : List (Option Reply)) → Hears (answers ++ None ∷ []) new → AreAtTheirTags answers → AreAtTheirTags new
asked_tags answers new heard tags = heard.tags (λ k a at. tags k a (asked_gives answers k a at))

-- what is at a place is there with more behind it
gets_front : (answers : List (Option Reply)) (last : Option Reply) (k : ℕ) (a : Reply) → slice_get answers k ≡ Some (Some a) → slice_get (answers ++ last ∷ []) k ≡ Some (Some a)
gets_front [] last k a at = cc
gets_front (x ∷ answers) last zero a at = at
gets_front (x ∷ answers) last (suc k) a at = gets_front answers last k a at

-- and without what is behind it
front_gets : (answers : List (Option Reply)) (last : Option Reply) (k : ℕ) (a : Reply) → k < length answers → slice_get (answers ++ last ∷ []) k ≡ Some (Some a) → slice_get answers k ≡ Some (Some a)
front_gets [] last k a within at = absurd (omega (arith, within))
front_gets (x ∷ answers) last zero a within at = at
front_gets (x ∷ answers) last (suc k) a within at = front_gets answers last k a (omega (arith, within)) at

gets_below : (answers : List (Option Reply)) (k : ℕ) (a : Reply) → slice_get answers k ≡ Some (Some a) → k < length answers
gets_below [] k a at = cc
gets_below (x ∷ answers) zero a at = omega arith
gets_below (x ∷ answers) (suc k) a at = omega (arith, gets_below answers k a at)

-- the last answer was taken back
pub forgot_tags : (old new : List (Option Reply)) (a : Reply) → old ≡ new ++ Some a ∷ [] → AreAtTheirTags old → AreAtTheirTags new
forgot_tags old new a is tags k b at = tags k b (subst (λ l. slice_get l k ≡ Some (Some b)) (sym is) (gets_front new (Some a) k b at))

-- a content that was asked about, what was heard then, and its answer taken back
pub forgot_stays : (answers mid new : List (Option Reply)) (last : Option Reply) → Hears (answers ++ None ∷ []) mid → Forgets mid new last → Stays answers new
forgot_stays answers mid new None heard is k a at = subst (λ l. slice_get l k ≡ Some (Some a)) (sym is) (asked_stays answers mid heard k a at)
forgot_stays answers mid new (Some b) heard is k a at =
    let long : length mid ≡ length answers + 1 = heard.places ∙ length_push answers None in
    let same : length mid ≡ length new + 1 = ap (λ l. length l) is ∙ length_push new (Some b) in
    front_gets new (Some b) k a (omega (arith, long, same, gets_below answers k a at)) (subst (λ l. slice_get l k ≡ Some (Some a)) is (asked_stays answers mid heard k a at))

-- an answer that came stays
pub heard_answer : (old new : List (Option Reply)) (place : ℕ) → Hears old new → HasAnswer old place → HasAnswer new place
heard_answer old new place heard (a, at) = (a, heard.stays place a at)

-- what was heard first, and then stays
pub stays_on : (a b c : List (Option Reply)) → Hears a b → Stays b c → Stays a c
stays_on a b c heard stays k x at = stays k x (heard.stays k x at)
