-- A status that tells of no fault is of files that were all judged; and what was written by then.
use Rattle.std.proofs.Common.{add-one, arith, ℕ, zero, suc, ◌≡◌, ◌<◌, ◌+◌, ◌++◌, ◌||◌, ◌==◌, true≢false, Bool, false, true, if◌then◌else◌, List, [], ◌∷◌, Option, None, Some, length, map, take, refl, rules, ap, sym, subst, ◌∙◌}
use Rattle.std.proofs.KnownBytes.{Appends-nil}
use Rattle.std.specs.Io.KnownBytes.{Appends}
use Rattle.std.proofs.lemmas.List.{length_push, map-append, take_more}
use Rattle.std.proofs.lemmas.List.Elements.{recursion_from_All}
use Rattle.std.specs.Borrow.{Bor}
use Rattle.std.specs.List.{All, AllByRecursion}
use Rattle.std.specs.Prelude.{IsSome, slice_get, slice_index_or}
use Rattle.std.specs.String.{string_bytes}
use Rattle.av_base.specs.Device.{AppendsPrefix}
use Rattle.av_files.specs.Opened.{is_granted, is_infected_answer, with_opened, worst_of}
use Rattle.av_status.proofs.StatusLemmas.{graver_than_one, graver_than_other, none_as_grave}
use Rattle.av_status.specs.Status.{IsAsGrave, graver_status}
use Rattle.av_status.specs.Tally.{concluded, ending_of, has_found, no_files, with_missed, with_scanned}
use Rattle.av_status.specs.declared.status.Status.{Status}
use Rattle.av_status.specs.declared.status.Status.TheVariants.{Done, Refused, Usage, Memory, Device, Found, FoundInPart}
use Rattle.av_status.specs.declared.tally.Tally.{Tally}
use Rattle.av_status.specs.declared.tally.Wishes.{Wishes}
use Rattle.av_client.specs.declared.reply.Reply.{Reply}
use Rattle.av_client.specs.declared.reply.Reply.TheVariants.{Open, Large}
use Rattle.av_client.specs.Asking.{AreAtTheirTags, Forgets}
use Rattle.avguard.specs.Ask.{AreAsked, AreJudged, AreJudgedIfDone, AreToldSoFar, IsJudged, IsToldSoFar, answered, asked_tally, names_found}
use Rattle.avguard.specs.Told.{is_judged, tally_told, told_lines, with_reply}
use Rattle.avguard.specs.declared.inquiry.Found.{Found as FoundFile}
use Rattle.avguard.specs.declared.told.Told.{Told}

-- of files that are there, one at least has a name
pub some_found : (fs : List FoundFile) → (length fs == 0) ≡ false → 0 < length (names_found fs)
some_found [] is = absurd (true≢false is)
some_found (f ∷ fs) is = omega (arith)

-- a device fault is never none
device_stays : (s : Status) → graver_status s Device ≡ Done → ⊥
device_stays Done e = absurd (search rules)
device_stays Refused e = absurd (search rules)
device_stays Usage e = absurd (search rules)
device_stays Memory e = absurd (search rules)
device_stays Device e = absurd (search rules)
device_stays Found e = absurd (search rules)
device_stays FoundInPart e = absurd (search rules)

-- one file, by what its open was told
one_judged : (granted infected : Bool) (t : Tally) → (if granted then with_scanned t false else if infected then with_scanned t true else with_missed t Device).worst ≡ Done
    → (t.worst ≡ Done) × ((granted || infected) ≡ true)
one_judged true infected t e = (e, refl)
one_judged false true t e = (e, refl)
one_judged false false t e = absurd (device_stays t.worst e)

-- the same by the reply
reply_judged : (t : Tally) (name : Bor (List ℕ)) (r : Reply) → (with_reply t name r).worst ≡ Done → (t.worst ≡ Done) × (is_judged r ≡ true)
reply_judged t name (Open a) e = one_judged (is_granted a) (is_infected_answer a) t e
reply_judged t name (Large a) e = absurd (device_stays t.worst e)

-- where the greatest fault is none there was none before, and each file was judged
counted_judged : (t : Tally) (told : List Told) → (tally_told t told).worst ≡ Done → (t.worst ≡ Done) × AllByRecursion IsJudged told
counted_judged t [] e = (e, tt)
counted_judged t (o ∷ told) e =
    let rest = counted_judged (with_reply t o.name o.reply) told e in
    let first = reply_judged t o.name o.reply rest.0 in
    (first.0, (first.1, rest.1))

-- what decides is none only where what was counted is none
none_counted : (ended counted : Status) → worst_of ended counted ≡ Done → counted ≡ Done
none_counted Done counted e = e
none_counted Refused counted e = absurd (search rules)
none_counted Usage counted e = absurd (search rules)
none_counted Memory counted e = absurd (search rules)
none_counted Device counted e = absurd (search rules)
none_counted Found counted e = absurd (search rules)
none_counted FoundInPart counted e = absurd (search rules)

-- whatever was found, the status of a run is none only where its greatest fault is
none_ended : (w : Wishes) (t : Tally) (worst : Status) → ending_of w t worst ≡ Done → worst ≡ Done
none_ended w t Done e = refl
none_ended w t Refused e = absurd (elim (has_found w t) as (λ b. (if b then FoundInPart else Refused) ≡ Done → ⊥) [ true ↦ search rules | false ↦ search rules ] e)
none_ended w t Usage e = absurd (elim (has_found w t) as (λ b. (if b then FoundInPart else Usage) ≡ Done → ⊥) [ true ↦ search rules | false ↦ search rules ] e)
none_ended w t Memory e = absurd (elim (has_found w t) as (λ b. (if b then FoundInPart else Memory) ≡ Done → ⊥) [ true ↦ search rules | false ↦ search rules ] e)
none_ended w t Device e = absurd (elim (has_found w t) as (λ b. (if b then FoundInPart else Device) ≡ Done → ⊥) [ true ↦ search rules | false ↦ search rules ] e)
none_ended w t Found e = absurd (elim (has_found w t) as (λ b. (if b then FoundInPart else Found) ≡ Done → ⊥) [ true ↦ search rules | false ↦ search rules ] e)
none_ended w t FoundInPart e = absurd (elim (has_found w t) as (λ b. (if b then FoundInPart else FoundInPart) ≡ Done → ⊥) [ true ↦ search rules | false ↦ search rules ] e)

-- the opens ended well, and each was judged, where that is what decides
ended_none : (ended counted : Status) → worst_of (graver_status ended counted) counted ≡ Done → ended ≡ Done
ended_none ended counted e =
    let all = none_counted (graver_status ended counted) counted e in
    none_as_grave ended (graver_status ended counted) (graver_than_one ended counted) (first_none (graver_status ended counted) counted e)
  where
    first_none : (one counted : Status) → worst_of one counted ≡ Done → one ≡ Done
    first_none Done counted e = refl
    first_none Refused counted e = absurd (search rules)
    first_none Usage counted e = absurd (search rules)
    first_none Memory counted e = absurd (search rules)
    first_none Device counted e = absurd (search rules)
    first_none Found counted e = absurd (search rules)
    first_none FoundInPart counted e = absurd (search rules)

-- a run that asked about files, and ends with Done
pub all_judged : (w : Wishes) (told : List Told) (files : ℕ) (ended : Status) → concluded w (asked_tally told files ended) ≡ Done
    → (ended ≡ Done) × AllByRecursion IsJudged told
all_judged w told files ended e =
    let t = tally_told no_files told in
    let worst = none_ended w (asked_tally told files ended) (worst_of (graver_status ended t.worst) t.worst) e in
    (ended_none ended t.worst worst, (counted_judged no_files told (none_counted (graver_status ended t.worst) t.worst worst)).1)

-- where each file has its answer, the files that are answered have the names of all
each_answered : (names : List (Bor (List ℕ))) (answers : List (Option Reply)) → length answers ≡ length names → AllByRecursion IsSome answers
    → map (λ o. o.name.now) (answered names answers) ≡ map (λ n. n.now) names
each_answered [] answers long all = refl
each_answered (n ∷ names) [] long all = absurd (omega (arith, long))
each_answered (n ∷ names) (Some a ∷ answers) long all = ap (λ l. n.now ∷ l) (each_answered names answers (omega (arith, long)) all.1)
each_answered (n ∷ names) (None ∷ answers) long all = let no : false ≡ true = all.0 in absurd (search rules)

pub all_answered : (names : List (Bor (List ℕ))) (answers : List (Option Reply)) → length answers ≡ length names → All IsSome answers
    → map (λ o. o.name.now) (answered names answers) ≡ map (λ n. n.now) names
all_answered names answers long all = each_answered names answers long (recursion_from_All IsSome answers all)

pub judged_if_done : (status : Status) (names : List (List ℕ)) (told : List Told) → (status ≡ Done → AreJudged names told) → AreJudgedIfDone status names told
judged_if_done Done names told are = are refl
judged_if_done Refused names told are = tt
judged_if_done Usage names told are = tt
judged_if_done Memory names told are = tt
judged_if_done Device names told are = tt
judged_if_done Found names told are = tt
judged_if_done FoundInPart names told are = tt

-- nothing was written
pub none_written : (old : Option (List ℕ)) (text : List ℕ) → AppendsPrefix old old text
none_written old text = record { front = []; back = text; parts = refl; appended = Appends-nil old }

pub none_told : (answers : List (Option Reply)) (wishes : Wishes) (old : Option (List ℕ)) → AreToldSoFar answers wishes old old
none_told answers wishes old = record { names = []; front = none_written old (told_lines wishes (answered [] answers)) }

pub no_tags : AreAtTheirTags []
no_tags place a at = cc

pub none_asked : (wishes : Wishes) (old : Option (List ℕ)) → IsToldSoFar wishes old old
none_asked wishes old = record { answers = []; tags = no_tags; told = none_told [] wishes old }

-- A run that asked about these files, of which so many were to be asked about: what was written of those that are answered, and the status,
-- tell what is asked of it.
pub told_asked : (names : List (Bor (List ℕ))) (files : List (List ℕ)) (answers : List (Option Reply)) (before asked finished ended status : Status) (count : ℕ) (wishes : Wishes) (old new : Option (List ℕ))
    → IsAsGrave before asked → ended ≡ graver_status asked finished → count ≡ length files
    → Appends old new (told_lines wishes (answered names answers)) → status ≡ concluded wishes (asked_tally (answered names answers) count ended)
    → (asked ≡ Done → (map (λ n. n.now) names ≡ files) × (length answers ≡ length names)) → (finished ≡ Done → All IsSome answers)
    → AreAsked files before wishes old new status
told_asked names files answers before asked finished ended status count wishes old new since is counted lines ends each all =
    let told = answered names answers in
    let by_count : status ≡ concluded wishes (asked_tally told (length files) ended) = ends ∙ ap (λ n. concluded wishes (asked_tally told n ended)) counted in
    let grave : IsAsGrave asked ended = subst (λ e. IsAsGrave asked e) (sym is) (graver_than_one asked finished) in
    record {
      told = told;
      ended = ended;
      since = omega (arith, since, grave);
      lines = lines;
      concluded = by_count;
      judged = judged_if_done status files told (λ done. judged (all_judged wishes told (length files) ended (sym by_count ∙ done)));
    }
  where
    judged : (ended ≡ Done) × AllByRecursion IsJudged (answered names answers) → AreJudged files (answered names answers)
    judged done =
        let none = sym is ∙ done.0 in
        let both = each (none_as_grave asked (graver_status asked finished) (graver_than_one asked finished) none) in
        record {
          each = all_answered names answers both.1 (all (none_as_grave finished (graver_status asked finished) (graver_than_other asked finished) none)) ∙ both.0;
          judged = done.1;
        }

-- one file more was asked about
pub found_more : (names more : List (Bor (List ℕ))) (name : Bor (List ℕ)) (found : List FoundFile) (i : ℕ) (d : FoundFile) → i < length found → more ≡ names ++ name ∷ [] → name.now ≡ string_bytes (slice_index_or found i d).name
    → map (λ n. n.now) names ≡ names_found (take i found) → map (λ n. n.now) more ≡ names_found (take (i + 1) found)
found_more names more name found i d within pushed same so =
    let file = slice_index_or found i d in
    ap (λ ns. map (λ n. n.now) ns) pushed ∙ map-append (λ n. n.now) names (name ∷ []) ∙ ap (λ l. l ++ name.now ∷ []) so ∙ ap (λ n. names_found (take i found) ++ n ∷ []) same
    ∙ sym (map-append (λ f. string_bytes f.name) (take i found) (file ∷ [])) ∙ ap names_found (sym (take_more found i d within))

-- an answer was taken back
pub forgot_length : (old new : List (Option Reply)) (last : Option Reply) → Forgets old new last → IsSome last → length old ≡ length new + 1
forgot_length old new None forgot some = let no : false ≡ true = some in absurd (search rules)
forgot_length old new (Some a) forgot some = ap (λ l. length l) forgot ∙ length_push new (Some a)

-- one name more, with the answer at its place if it has one
answered_more : (names : List (Bor (List ℕ))) (answers : List (Option Reply)) (i : ℕ) (d : Bor (List ℕ)) (r : Reply) → i < length names → slice_get answers i ≡ Some (Some r)
    → answered (take (suc i) names) answers ≡ answered (take i names) answers ++ record { name = slice_index_or names i d; reply = r } ∷ []
answered_more [] answers i d r within at = absurd (omega (arith, within))
answered_more (n ∷ names) [] zero d r within at = cc
answered_more (n ∷ names) [] (suc i) d r within at = cc
answered_more (n ∷ names) (a ∷ answers) zero d r within at = let is : a ≡ Some r = cc in rw is refl
answered_more (n ∷ names) (None ∷ answers) (suc i) d r within at = answered_more names answers i d r (omega (arith, within)) at
answered_more (n ∷ names) (Some b ∷ answers) (suc i) d r within at = ap (λ l. record { name = n; reply = b } ∷ l) (answered_more names answers i d r (omega (arith, within)) at)

-- or none, where it has none
answered_same : (names : List (Bor (List ℕ))) (answers : List (Option Reply)) (i : ℕ) → ((r : Reply) → slice_get answers i ≡ Some (Some r) → ⊥)
    → answered (take (suc i) names) answers ≡ answered (take i names) answers
answered_same [] answers zero none = refl
answered_same [] answers (suc i) none = refl
answered_same (n ∷ names) [] zero none = refl
answered_same (n ∷ names) [] (suc i) none = refl
answered_same (n ∷ names) (None ∷ answers) zero none = refl
answered_same (n ∷ names) (Some b ∷ answers) zero none = absurd (none b refl)
answered_same (n ∷ names) (None ∷ answers) (suc i) none = answered_same names answers i none
answered_same (n ∷ names) (Some b ∷ answers) (suc i) none = ap (λ l. record { name = n; reply = b } ∷ l) (answered_same names answers i none)

pub answered_then : (names : List (Bor (List ℕ))) (answers : List (Option Reply)) (i : ℕ) (d : Bor (List ℕ)) (r : Reply) (old new : List Told) → i < length names → slice_get answers i ≡ Some (Some r)
    → old ≡ answered (take i names) answers → new ≡ old ++ record { name = slice_index_or names i d; reply = r } ∷ [] → new ≡ answered (take (i + 1) names) answers
answered_then names answers i d r old new within at so pushed =
    rw add-one (pushed ∙ ap (λ l. l ++ record { name = slice_index_or names i d; reply = r } ∷ []) so ∙ sym (answered_more names answers i d r within at))

pub unanswered_then : (names : List (Bor (List ℕ))) (answers : List (Option Reply)) (i : ℕ) (old : List Told) → slice_get answers i ≡ Some None → old ≡ answered (take i names) answers
    → old ≡ answered (take (i + 1) names) answers
unanswered_then names answers i old at so = rw add-one (so ∙ sym (answered_same names answers i (λ r it. no_reply r (sym at ∙ it))))
  where
    no_reply : (r : Reply) → ◌≡◌ {A = Option (Option Reply)} (Some None) (Some (Some r)) → ⊥
    no_reply r e = absurd cc

pub unasked_then : (names : List (Bor (List ℕ))) (answers : List (Option Reply)) (i : ℕ) (old : List Told) → slice_get answers i ≡ None → old ≡ answered (take i names) answers
    → old ≡ answered (take (i + 1) names) answers
unasked_then names answers i old at so = rw add-one (so ∙ sym (answered_same names answers i (λ r it. no_reply r (sym at ∙ it))))
  where
    no_reply : (r : Reply) → ◌≡◌ {A = Option (Option Reply)} None (Some (Some r)) → ⊥
    no_reply r e = absurd cc
