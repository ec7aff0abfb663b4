-- Files that are opened group by group.
use Rattle.std.proofs.Common.{ℕ, ◌≡◌, ◌+◌, false, List, [], ◌∷◌, ◌++◌, Option, Result, Ok, Err, drop, take, refl, sym, ap, ◌∙◌, subst, append_assoc, take-append-drop}
use Rattle.std.specs.Borrow.{Bor}
use Rattle.std.specs.List.{AllByRecursion as Each}
use Rattle.std.specs.Prelude.{IfSome}
use Rattle.std.specs.Result.{OnErr, OnOk, is_err}
use Rattle.std.proofs.lemmas.List.{append-nil}
use Rattle.av_base.proofs.DeviceLemmas.{prefix_whole}
use Rattle.av_base.specs.Among.{Among}
use Rattle.av_base.specs.Device.{AppendsPrefix}
use Rattle.av_files.specs.Opened.{opened_lines}
use Rattle.av_filter.specs.Mount.{Mount}
use Rattle.av_pend.specs.declared.answer.Answer.{Answer}
use Rattle.av_sockets.proofs.ContentLemmas.{contents_left, contents_next, opened_as_read, part_as_read, was_read}
use Rattle.av_sockets.proofs.RunLemmas.{leads_nowhere, leads_then}
use Rattle.av_sockets.specs.Filter.{AreOpened, AreOpenedInPart, AreSoFar, AreTold, AreToldSoFar, GoesOn, GoesOnInPart, IsTold, IsToldInPart, OpensStreams, begun, fails, joins, more, nothing, opens, stops, unwritten}
use Rattle.av_sockets.specs.Run.{AddsRead, AreOfContents, IsContentIn, Leads, LeadsLate}
use Rattle.av_status.specs.declared.status.Status.{Status}
use Rattle.av_status.specs.declared.tally.Tally.{Tally}
use Rattle.av_status.specs.declared.tally.Wishes.{Wishes}
use Rattle.av_store.specs.Store.{Store}

-- what is so, is so of a result
pub on_err : {A B : Type 0} (r : Result A B) {P : Type 0} → P → OnErr r P
on_err (Ok v) p = tt
on_err (Err e) p = p

-- ---- a group

-- what was told whole was told in part
pub whole_part : (has : List ℕ → List ℕ → Type 0) (wishes : Wishes) (names : List (Bor (List ℕ))) (answers : List Answer) (v : Store) (before after : Tally) (old new : Option (List ℕ))
    → IsTold has wishes names answers v before after old new → IsToldInPart has wishes names answers v old new
whole_part has wishes names answers v before after old new t =
    begun t.opened t.files t.named (subst (AppendsPrefix old new) (append-nil (opened_lines wishes t.opened)) (prefix_whole old new (opened_lines wishes t.opened) [] t.lines))

-- what holds of a result that is none of a fault
pub sure : {A B : Type 0} (r : Result A B) {P : Type 0} → is_err r ≡ false → OnOk r P → P
sure (Ok v) well p = p
sure (Err e) well p = absurd cc

-- the streams did not change while they were opened
pub opens_streams : (wishes : Wishes) (names group : List (Bor (List ℕ))) (answers : List Answer) (before after : Tally) (old new : Option (List ℕ)) (m from amid m' : Mount) → from ≡ m → group ≡ names
    → Leads from amid answers → amid.volume.streams ≡ from.volume.streams → IsTold (IsContentIn amid.volume.streams) wishes group answers amid.volume before after old new → LeadsLate amid m'
    → OpensStreams wishes names before after old new m m'
opens_streams wishes names group answers before after old new m from amid m' first all led still told cleared =
    subst (λ k. OpensStreams wishes names before after old new k m') first
    (subst (λ ns. OpensStreams wishes ns before after old new from m') all
    (record {
      opened = record {
        answers = answers;
        amid = amid;
        led = led;
        told = subst (λ ss. IsTold (IsContentIn ss) wishes group answers amid.volume before after old new) still told;
        cleared = cleared;
      };
      fewer = subst (λ ss. Each (λ s. Among s ss) m'.volume.streams) still cleared.fewer;
    }))

pub opens_in_part : (wishes : Wishes) (names group : List (Bor (List ℕ))) (answers : List Answer) (old new : Option (List ℕ)) (m from amid : Mount) → from ≡ m → group ≡ names
    → Leads from amid answers → amid.volume.streams ≡ from.volume.streams → IsToldInPart (IsContentIn amid.volume.streams) wishes group answers amid.volume old new
    → AreOpenedInPart (IsContentIn m.volume.streams) wishes names old new m
opens_in_part wishes names group answers old new m from amid first all led still told =
    subst (λ (k : Mount). AreOpenedInPart (IsContentIn k.volume.streams) wishes names old new k) first
    (subst (λ ns. AreOpenedInPart (IsContentIn from.volume.streams) wishes ns old new from) all
    (record {
      answers = answers;
      amid = amid;
      led = led;
      told = subst (λ ss. IsToldInPart (IsContentIn ss) wishes group answers amid.volume old new) still told;
    }))

-- nothing was written
pub none_opened : (has : List ℕ → List ℕ → Type 0) (wishes : Wishes) (names : List (Bor (List ℕ))) (old new : Option (List ℕ)) (m : Mount) → new ≡ old → AreOpenedInPart has wishes names old new m
none_opened has wishes names old new m same = record { answers = []; amid = m; led = leads_nowhere m; told = unwritten same }

-- streams were added before the group was opened
opened_behind : (has : List ℕ → List ℕ → Type 0) (wishes : Wishes) (names : List (Bor (List ℕ))) (before after : Tally) (old new : Option (List ℕ)) (m full m' : Mount)
    → Leads m full [] → AreOpened has wishes names before after old new full m' → AreOpened has wishes names before after old new m m'
opened_behind has wishes names before after old new m full m' added o = record {
  answers = o.answers;
  amid = o.amid;
  led = leads_then m full o.amid [] o.answers added o.led;
  told = o.told;
  cleared = o.cleared;
}

part_behind : (has : List ℕ → List ℕ → Type 0) (wishes : Wishes) (names : List (Bor (List ℕ))) (old new : Option (List ℕ)) (m full : Mount)
    → Leads m full [] → AreOpenedInPart has wishes names old new full → AreOpenedInPart has wishes names old new m
part_behind has wishes names old new m full added p = record { answers = p.answers; amid = p.amid; led = leads_then m full p.amid [] p.answers added p.led; told = p.told }

-- ---- one file more

-- a file more filled its group, which was opened
pub opened_full : (result : Result Unit Status) (wishes : Wishes) (name : Bor (List ℕ)) (content : Option (List ℕ)) (waited joined waits : List (Bor (List ℕ))) (before after : Tally) (old new : Option (List ℕ)) (m full m' : Mount)
    → AddsRead m full name.now content → joined ≡ waited ++ name ∷ [] → OnOk result (OpensStreams wishes joined before after old new full m') → OnOk result (waits ≡ [])
    → OnOk result (GoesOn wishes name content waited waits before after old new m m')
opened_full (Ok u) wishes name content waited joined waits before after old new m full m' added is opened none =
    opens none full added (subst (λ ns. OpensStreams wishes ns before after old new full m') is opened)
opened_full (Err e) wishes name content waited joined waits before after old new m full m' added is opened none = opened

pub failed_full : (result : Result Unit Status) (wishes : Wishes) (name : Bor (List ℕ)) (content : Option (List ℕ)) (waited joined : List (Bor (List ℕ))) (old new : Option (List ℕ)) (m full : Mount)
    → AddsRead m full name.now content → joined ≡ waited ++ name ∷ [] → OnErr result (AreOpenedInPart (IsContentIn full.volume.streams) wishes joined old new full)
    → OnErr result (GoesOnInPart wishes name content waited old new m)
failed_full (Ok u) wishes name content waited joined old new m full added is part = tt
failed_full (Err e) wishes name content waited joined old new m full added is part =
    fails full added (subst (λ ns. AreOpenedInPart (IsContentIn full.volume.streams) wishes ns old new full) is part)

module _ (has : List ℕ → List ℕ → Type 0) (wishes : Wishes) (before : Tally) (old : Option (List ℕ)) (from : Mount) where
  -- no file was read
  pub at_start : (waits : List (Bor (List ℕ))) → waits ≡ [] → from.volume.streams ≡ [] → AreSoFar has wishes before old from [] waits before old from
  at_start waits none empty =
      record { front = []; all = none; behind = from; told = nothing; added = leads_nowhere from; contents = subst (AreOfContents has) (sym empty) tt }

  -- a group was opened, of streams whose contents were read
  as_read : (names : List (Bor (List ℕ))) (tally after : Tally) (held new : Option (List ℕ)) (m m' : Mount) → AreOfContents has m.volume.streams → OpensStreams wishes names tally after held new m m'
      → AreOpened has wishes names tally after held new m m'
  as_read names tally after held new m m' all o =
      opened_as_read (IsContentIn m.volume.streams) has (was_read has m.volume.streams all) wishes names tally after held new m m' o.opened

  -- the files so far and one more
  joined_all : (front waited read next : List (Bor (List ℕ))) (name : Bor (List ℕ)) → front ++ waited ≡ read → next ≡ read ++ name ∷ [] → front ++ (waited ++ name ∷ []) ≡ next
  joined_all front waited read next name all then = sym (append_assoc front waited (name ∷ [])) ∙ ap (λ ns. ns ++ name ∷ []) all ∙ sym then

  -- one more was read
  pub one_more : (read waited waits next : List (Bor (List ℕ))) (name : Bor (List ℕ)) (content : Option (List ℕ)) (tally after : Tally) (held new : Option (List ℕ)) (m m' : Mount)
      → IfSome content (λ bytes. has name.now bytes) → AreSoFar has wishes before old from read waited tally held m → GoesOn wishes name content waited waits tally after held new m m' → next ≡ read ++ name ∷ []
      → AreSoFar has wishes before old from next waits after new m'
  one_more read waited waits next name content tally after held new m m' was s (joins is same kept added) then =
      let adds = contents_next has m m' name.now content was s.contents added in
      record {
        front = s.front;
        all = ap (λ ns. s.front ++ ns) is ∙ joined_all s.front waited read next name s.all then;
        behind = s.behind;
        told = subst (λ k. AreTold has wishes before old from s.front k new s.behind) (sym same) (subst (λ o. AreTold has wishes before old from s.front tally o s.behind) (sym kept) s.told);
        added = leads_then s.behind m m' [] [] s.added adds.0;
        contents = adds.1;
      }
  one_more read waited waits next name content tally after held new m m' was s (opens none full added o) then =
      let adds = contents_next has m full name.now content was s.contents added in
      record {
        front = s.front ++ (waited ++ name ∷ []);
        all = ap (λ ns. (s.front ++ (waited ++ name ∷ [])) ++ ns) none ∙ append-nil (s.front ++ (waited ++ name ∷ [])) ∙ joined_all s.front waited read next name s.all then;
        behind = m';
        told = more s.front (waited ++ name ∷ []) tally after held new s.behind m' s.told
            (opened_behind has wishes (waited ++ name ∷ []) tally after held new s.behind full m' (leads_then s.behind m full [] [] s.added adds.0)
            (as_read (waited ++ name ∷ []) tally after held new full m' adds.1 o));
        added = leads_nowhere m';
        contents = contents_left has full.volume.streams m'.volume.streams o.fewer adds.1;
      }

  -- all were read, and those that waited were to be opened
  pub at_end : (result : Result Unit Status) (read waited names : List (Bor (List ℕ))) (tally after : Tally) (held new : Option (List ℕ)) (m m' : Mount)
      → AreSoFar has wishes before old from read waited tally held m → OnOk result (OpensStreams wishes waited tally after held new m m') → read ≡ names
      → OnOk result (AreTold has wishes before old from names after new m')
  at_end (Ok u) read waited names tally after held new m m' s opened all =
      subst (λ ns. AreTold has wishes before old from ns after new m') (s.all ∙ all)
      (more s.front waited tally after held new s.behind m' s.told (opened_behind has wishes waited tally after held new s.behind m m' s.added (as_read waited tally after held new m m' s.contents opened)))
  at_end (Err e) read waited names tally after held new m m' s opened all = opened

  -- ---- what was written by then

  -- the lines of the groups that were opened, and no others
  pub groups_told : (names : List (Bor (List ℕ))) (after : Tally) (new : Option (List ℕ)) (m : Mount) → AreTold has wishes before old from names after new m → AreToldSoFar has wishes before old from names new
  groups_told names after new m told = record {
    opened = names;
    group = [];
    left = [];
    all = append-nil names;
    tally = after;
    held = new;
    end = m;
    told = told;
    last = none_opened has wishes [] new new m refl;
  }

  -- none
  pub none_told : (names : List (Bor (List ℕ))) → AreToldSoFar has wishes before old from names old
  none_told names = record {
    opened = [];
    group = [];
    left = names;
    all = refl;
    tally = before;
    held = old;
    end = from;
    told = nothing;
    last = none_opened has wishes [] old old from refl;
  }

  -- a group more was opened in part, of the files behind those that were opened
  part_told : (read group left names : List (Bor (List ℕ))) (waited : List (Bor (List ℕ))) (tally : Tally) (held new : Option (List ℕ)) (m full : Mount) (s : AreSoFar has wishes before old from read waited tally held m)
      → s.front ++ (group ++ left) ≡ names → Leads m full [] → AreOpenedInPart has wishes group held new full → AreToldSoFar has wishes before old from names new
  part_told read group left names waited tally held new m full s all added part = record {
    opened = s.front;
    group = group;
    left = left;
    all = all;
    tally = tally;
    held = held;
    end = s.behind;
    told = s.told;
    last = part_behind has wishes group held new s.behind full (leads_then s.behind m full [] [] s.added added) part;
  }

  -- a file more could not be read, or its group not be opened
  pub fault_at : (names waited : List (Bor (List ℕ))) (i : ℕ) (name : Bor (List ℕ)) (content : Option (List ℕ)) (tally : Tally) (held new : Option (List ℕ)) (m : Mount)
      → take (i + 1) names ≡ take i names ++ name ∷ [] → IfSome content (λ bytes. has name.now bytes) → AreSoFar has wishes before old from (take i names) waited tally held m
      → GoesOnInPart wishes name content waited held new m → AreToldSoFar has wishes before old from names new
  fault_at names waited i name content tally held new m next was s (stops same) =
      part_told (take i names) [] (waited ++ drop i names) names waited tally held new m m s
      (sym (append_assoc s.front waited (drop i names)) ∙ ap (λ ns. ns ++ drop i names) s.all ∙ take-append-drop i names)
      (leads_nowhere m) (none_opened has wishes [] held new m same)
  fault_at names waited i name content tally held new m next was s (fails full added part) =
      let adds = contents_next has m full name.now content was s.contents added in
      let group = waited ++ name ∷ [] in
      part_told (take i names) group (drop (i + 1) names) names waited tally held new m full s
      (sym (append_assoc s.front group (drop (i + 1) names)) ∙ ap (λ ns. ns ++ drop (i + 1) names) (joined_all s.front waited (take i names) (take (i + 1) names) name s.all next) ∙ take-append-drop (i + 1) names)
      adds.0 (part_as_read (IsContentIn full.volume.streams) has (was_read has full.volume.streams adds.1) wishes group held new full part)

  -- all were read, and the last group could not be opened
  pub fault_at_end : (result : Result Unit Status) (read waited names : List (Bor (List ℕ))) (tally : Tally) (held new : Option (List ℕ)) (m : Mount) → AreSoFar has wishes before old from read waited tally held m
      → OnErr result (AreOpenedInPart (IsContentIn m.volume.streams) wishes waited held new m) → read ≡ names → OnErr result (AreToldSoFar has wishes before old from names new)
  fault_at_end (Ok u) read waited names tally held new m s part all = tt
  fault_at_end (Err e) read waited names tally held new m s part all =
      part_told read waited [] names waited tally held new m m s (ap (λ ns. s.front ++ ns) (append-nil waited) ∙ s.all ∙ all) (leads_nowhere m)
      (part_as_read (IsContentIn m.volume.streams) has (was_read has m.volume.streams s.contents) wishes waited held new m part)
