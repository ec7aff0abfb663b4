-- The lines of a filter, against what was published by the end.
use Rattle.std.proofs.Common.{◌≡◌, ℕ, List, [], ◌∷◌, ◌++◌, map, Some, refl, sym, ap, subst, ◌∙◌, inl, inr, append_assoc, append-nil}
use Rattle.std.specs.Borrow.{Bor}
use Rattle.std.specs.Prelude.{Option}
use Rattle.std.specs.List.{AllByRecursion as Each, zip}
use Rattle.std.specs.List.Sorted.{IsPermutation}
use Rattle.std.proofs.lemmas.List.Elements.{All-from_recursion, recursion_from_All}
use Rattle.std.proofs.lemmas.List.Sorted.{All-permutation}
use Rattle.av_base.proofs.AmongLemmas.{among_left, among_right}
use Rattle.av_base.specs.Among.{Among}
use Rattle.av_base.specs.Limits.{greatest_values}
use Rattle.av_base.specs.declared.port.Port.{Port}
use Rattle.av_base.specs.declared.mode.Mode.TheVariants.{FailClosed}
use Rattle.av_base.specs.declared.verdict.Verdict.TheVariants.{Clean}
use Rattle.av_engines.specs.Watching.{Led, all_happened, happened, unled}
use Rattle.av_files.specs.declared.opened.Opened.{Opened}
use Rattle.av_files.specs.declared.streams.TheConstants.{VOLUME}
use Rattle.av_filter.proofs.EachLemmas.{each_both, each_weaker}
use Rattle.av_filter.specs.Audit.{FilterEntry, IsFilterAudit, answers_given}
use Rattle.av_filter.specs.Conduct.{FilterEvent, filter_step}
use Rattle.av_filter.specs.Mount.{Mount}
use Rattle.av_frame.specs.Message.{Letter}
use Rattle.av_guard.proofs.PastLemmas.{Past, held_stays, past_more, present}
use Rattle.av_guard.specs.Run.{all_held, held_after}
use Rattle.av_match.specs.Match.{verdict}
use Rattle.av_pend.specs.declared.answer.Answer.{Answer}
use Rattle.av_pend.specs.declared.answer.Answer.TheVariants.{Denied, Granted, Unscanned}
use Rattle.av_promise.proofs.ServedLemmas.{answer_just, held_by_end, legal}
use Rattle.av_promise.specs.Filtered.{AreRight, AreRightInPart, IsRightOf, entries_of, entry_of, history_of, history_of_group, history_of_part, history_so_far}
use Rattle.av_promise.specs.Promise.{IsServed, published_by}
use Rattle.av_sigset.specs.Publication.{Publication}
use Rattle.av_sockets.specs.Filter.{AreFiltered, AreInOrder, AreOpened, AreTold, AreToldSoFar, IsToldInPart, begun, more, nothing, opened_as, unwritten}
use Rattle.av_sockets.specs.Run.{AreAccepted, AreOfTheirStreams, IsOfItsStream, Leads, first}
use Rattle.av_status.specs.Tally.{no_files}
use Rattle.av_status.specs.declared.status.Status.{Status}
use Rattle.av_status.specs.declared.tally.Tally.{Tally}
use Rattle.av_status.specs.declared.tally.Wishes.{Wishes}
use Rattle.av_store.proofs.SeenLemmas.{follows}
use Rattle.av_store.specs.History.{StreamHistory, content, now}
use Rattle.av_store.specs.Seen.{Keeps}
use Rattle.av_history.proofs.FitLemmas.{right_grows}
use Rattle.av_history.specs.Audits.{AreLegal, AuditsGrantOnlyClean, SideEntry, past_end}
use Rattle.av_history.specs.Past.{IsVerdictOf}
use Rattle.av_history.specs.Scene.{Started, opening_past}

-- ---- what happened, from the mount on

-- no file is kept at first
starts_empty : Keeps first.volume []
starts_empty = record { streams = (follows.starts VOLUME greatest_values).streams; last = (follows.starts VOLUME greatest_values).last }

-- a history led here
record Reaches (m : Mount) (history : List FilterEntry) : Type 0 where
  pub sent : List Letter
  pub past : Past first.table first.volume m.table m.volume sent history

-- and goes on by events
events_reach : (w : Led) (es : List FilterEvent) (sent : List Letter) (history : List FilterEntry) → AreAccepted w.table w.volume es → Past first.table first.volume w.table w.volume sent history
    → Reaches (record { table = (all_happened w es).table; volume = (all_happened w es).volume }) (history ++ entries_of w.table w.volume es)
events_reach w [] sent history accepted past = record { sent = sent; past = subst (Past first.table first.volume w.table w.volume sent) (sym (append-nil history)) past }
events_reach w (e ∷ es) sent history accepted past =
    let x = entry_of w.table w.volume e in
    let rest = entries_of (filter_step w.table w.volume e).table (filter_step w.table w.volume e).volume es in
    let on = events_reach (happened w e) es _ (history ++ x ∷ []) accepted.1 (past_more first.table first.volume w.table w.volume sent history e past accepted.0) in
    subst (Reaches (record { table = (all_happened w (e ∷ es)).table; volume = (all_happened w (e ∷ es)).volume })) (append_assoc history (x ∷ []) rest) on

led_reaches : (m m' : Mount) (answers : List Answer) (l : Leads m m' answers) (history : List FilterEntry) → Reaches m history → Reaches m' (history ++ entries_of m.table m.volume l.events)
led_reaches m m' answers l history reached =
    let xs = history ++ entries_of m.table m.volume l.events in
    let on = events_reach (unled m.table m.volume []) l.events reached.sent history l.accepted reached.past in
    subst (λ v. Reaches (record { table = m'.table; volume = v }) xs) (sym l.at.volume)
    (subst (λ t. Reaches (record { table = t; volume = (all_happened (unled m.table m.volume []) l.events).volume }) xs) (sym l.at.table) on)

group_reaches : (has : List ℕ → List ℕ → Type 0) (wishes : Wishes) (names : List (Bor (List ℕ))) (before after : Tally) (old new : Option (List ℕ)) (m m' : Mount) (o : AreOpened has wishes names before after old new m m') (history : List FilterEntry)
    → Reaches m history → Reaches m' (history ++ history_of_group o)
group_reaches has wishes names before after old new m m' o history reached =
    let here = entries_of m.table m.volume o.led.events in
    let clearing = entries_of o.amid.table o.amid.volume o.cleared.leads.events in
    subst (Reaches m') (append_assoc history here clearing)
    (led_reaches o.amid m' o.cleared.late o.cleared.leads (history ++ here) (led_reaches m o.amid o.answers o.led history reached))

told_reaches : (has : List ℕ → List ℕ → Type 0) (wishes : Wishes) (before : Tally) (old : Option (List ℕ)) (names : List (Bor (List ℕ))) (after : Tally) (new : Option (List ℕ)) (m : Mount) (t : AreTold has wishes before old first names after new m)
    → Reaches m (history_of t)
told_reaches has wishes before old _ after new m nothing =
    record { sent = []; past = record { legal = tt; leads = refl; sends = refl; keeps = starts_empty } }
told_reaches has wishes before old _ after new m (more names group counted _ held _ mid _ told opened) =
    group_reaches has wishes group counted after held new mid m opened (history_of told) (told_reaches has wishes before old names counted held mid told)

-- and before a front of lines was written
so_far_reaches : (has : List ℕ → List ℕ → Type 0) (wishes : Wishes) (before : Tally) (old : Option (List ℕ)) (names : List (Bor (List ℕ))) (new : Option (List ℕ)) (t : AreToldSoFar has wishes before old first names new)
    → Reaches t.last.amid (history_so_far t)
so_far_reaches has wishes before old names new t =
    led_reaches t.end t.last.amid t.last.answers t.last.led (history_of t.told) (told_reaches has wishes before old t.opened t.tally t.held t.end t.told)

-- the answers of events
entries_answers : (w : Led) (es : List FilterEvent) → w.answers ++ answers_given (entries_of w.table w.volume es) ≡ (all_happened w es).answers
entries_answers w [] = append-nil w.answers
entries_answers w (e ∷ es) = sym (append_assoc w.answers (filter_step w.table w.volume e).answers _) ∙ entries_answers (happened w e) es

led_answers : (m m' : Mount) (answers : List Answer) (l : Leads m m' answers) → answers_given (entries_of m.table m.volume l.events) ≡ answers
led_answers m m' answers l = entries_answers (unled m.table m.volume []) l.events ∙ sym l.at.answered

answers_then : (xs ys : List FilterEntry) → answers_given (xs ++ ys) ≡ answers_given xs ++ answers_given ys
answers_then [] ys = refl
answers_then (x ∷ xs) ys = ap (λ l. x.answers ++ l) (answers_then xs ys) ∙ sym (append_assoc x.answers (answers_given xs) (answers_given ys))

-- what streams have held goes on to be held
held_then : (hs : List StreamHistory) (xs ys : List FilterEntry) → all_held hs (xs ++ ys) ≡ all_held (all_held hs xs) ys
held_then hs [] ys = refl
held_then hs (x ∷ xs) ys = held_then (held_after hs x.event) xs ys

held_on : (hs : List StreamHistory) (xs : List FilterEntry) (s g : ℕ) (c : List ℕ) → content hs s g ≡ Some c → content (all_held hs xs) s g ≡ Some c
held_on hs [] s g c h = h
held_on hs (x ∷ xs) s g c h = held_on (held_after hs x.event) xs s g c (held_stays hs x.event s g c h)

-- ---- answers under their names

each_itself : {A : Type 0} (xs : List A) → Each (λ x. Among x xs) xs
each_itself [] = tt
each_itself (x ∷ xs) = (inl refl, each_weaker (λ y. Among y xs) (λ y. Among y (x ∷ xs)) (λ y a. inr a) xs (each_itself xs))

ordered_among : (answers ordered : List Answer) → IsPermutation answers ordered → Each (λ a. Among a answers) ordered
ordered_among answers ordered same =
    recursion_from_All (λ a. Among a answers) ordered (All-permutation (λ a. Among a answers) answers ordered same (All-from_recursion (λ a. Among a answers) answers (each_itself answers)))

zipped : (P : Answer → Type 0) (names : List (Bor (List ℕ))) (answers : List Answer) → Each P answers → Each (λ (o : Opened). P o.answer) (map opened_as (zip names answers))
zipped P [] answers all = tt
zipped P (n ∷ ns) [] all = tt
zipped P (n ∷ ns) (a ∷ rest) all = (all.0, zipped P ns rest all.1)

files_among : (names : List (Bor (List ℕ))) (answers : List Answer) (opened : List Opened) → AreInOrder names answers opened → Each (λ (o : Opened). Among o.answer answers) opened
files_among names answers opened p =
    subst (Each (λ (o : Opened). Among o.answer answers)) (sym p.named) (zipped (λ a. Among a answers) names p.ordered (ordered_among answers p.ordered p.same))

-- ---- a run that was served

module _ (has : List ℕ → List ℕ → Type 0) (history : List FilterEntry) (audit : IsFilterAudit first.table first.volume history) (starts : Port → Started) (sets : Port → List Publication) (es : List SideEntry) (served : IsServed history starts sets es) (clean : AuditsGrantOnlyClean FailClosed [] sets es) where
  -- an answer of the history, told of a stream in the volume that a front of the history led to
  answer_right : (amid : Mount) (front back : List FilterEntry) → history ≡ front ++ back → Reaches amid front → (name : List ℕ) (a : Answer) → Among a (answers_given history)
      → IsOfItsStream has amid.volume name a → IsRightOf has (published_by sets es) amid.volume name a
  answer_right amid front back is led name (Granted n least s g version) there own =
      let then = answer_just FailClosed greatest_values first.volume history starts_empty audit starts sets es served clean (Granted n least s g version) there in
      let right : IsVerdictOf (past_end (opening_past [] sets) es) s g version Clean = right_grows then.past _ s g version Clean then.grown then.just.1 in
      let keeps : Keeps amid.volume (map now (all_held [] front)) = led.past.keeps in
      let held : content (all_held [] front) s own.content.generation ≡ Some own.content.bytes = present amid.volume (all_held [] front) s own.content keeps own.there in
      let still : content (all_held [] history) s own.content.generation ≡ Some own.content.bytes =
      subst (λ xs. content xs s own.content.generation ≡ Some own.content.bytes) (sym (ap (all_held []) is ∙ held_then [] front back)) (held_on (all_held [] front) back s own.content.generation own.content.bytes held) in
      let end : content (past_end (opening_past [] sets) es).streams s g ≡ Some own.content.bytes =
      ap (λ hs. content hs s g) (held_by_end FailClosed greatest_values first.volume history starts_empty audit starts sets es served) ∙ ap (content (all_held [] history) s) own.generation_is ∙ still in
      let same : right.bytes ≡ own.content.bytes = cc (end, right.held) in
      record {
        named = own.named;
        content = own.content;
        there = own.there;
        generation_is = own.generation_is;
        read = own.read;
        patterns = right.patterns;
        published = right.published;
        clean = ap (λ b. verdict right.patterns b) (sym same) ∙ sym right.right;
      }
  answer_right amid front back is led name (Unscanned n s g cause) there own =
      absurd ((answer_just FailClosed greatest_values first.volume history starts_empty audit starts sets es served clean (Unscanned n s g cause) there).just refl)
  answer_right amid front back is led name (Denied n cause) there own = tt

  -- lines of answers of the history, under their names
  lines_right : (m amid : Mount) (answers : List Answer) (l : Leads m amid answers) (front later : List FilterEntry) → history ≡ (front ++ entries_of m.table m.volume l.events) ++ later → Reaches m front
      → (names : List (Bor (List ℕ))) (opened : List Opened) → AreInOrder names answers opened → AreOfTheirStreams has amid.volume opened
      → Each (λ (k : Opened). IsRightOf has (published_by sets es) amid.volume k.name.now k.answer) opened
  lines_right m amid answers l front later parts reached names opened files own =
      let here = entries_of m.table m.volume l.events in
      let led = led_reaches m amid answers l front reached in
      let among : (a : Answer) → Among a answers → Among a (answers_given history) = λ a given.
      subst (λ h. Among a (answers_given h)) (sym parts)
      (subst (Among a) (sym (answers_then (front ++ here) later))
      (among_left a (answers_given (front ++ here)) (answers_given later)
      (subst (Among a) (sym (answers_then front here)) (among_right a (answers_given front) (answers_given here) (subst (Among a) (sym (led_answers m amid answers l)) given))))) in
      each_both (λ (k : Opened). Among k.answer answers) (λ (k : Opened). IsOfItsStream has amid.volume k.name.now k.answer) (λ (k : Opened). IsRightOf has (published_by sets es) amid.volume k.name.now k.answer)
      (λ k given its. answer_right amid (front ++ here) later parts led k.name.now k.answer (among k.answer given) its) opened (files_among names answers opened files) own

  told_right : (wishes : Wishes) (before : Tally) (old : Option (List ℕ)) (names : List (Bor (List ℕ))) (after : Tally) (new : Option (List ℕ)) (m : Mount) (t : AreTold has wishes before old first names after new m) (later : List FilterEntry)
      → history ≡ history_of t ++ later → AreRight (published_by sets es) t
  told_right wishes before old _ after new m nothing later is = tt
  told_right wishes before old _ after new m (more names group counted _ held _ mid _ told o) later is =
      let front = history_of told in
      let here = entries_of mid.table mid.volume o.led.events in
      let clearing = entries_of o.amid.table o.amid.volume o.cleared.leads.events in
      let split : history ≡ front ++ ((here ++ clearing) ++ later) = is ∙ append_assoc front (here ++ clearing) later in
      let parts : history ≡ (front ++ here) ++ (clearing ++ later) =
      split ∙ ap (λ l. front ++ l) (append_assoc here clearing later) ∙ sym (append_assoc front here (clearing ++ later)) in (
        told_right wishes before old names counted held mid told ((here ++ clearing) ++ later) split,
        lines_right mid o.amid o.answers o.led front (clearing ++ later) parts (told_reaches has wishes before old names counted held mid told) group o.told.opened o.told.files o.told.named,
      )

  -- and those of which a front was written
  part_right : (wishes : Wishes) (names : List (Bor (List ℕ))) (old new : Option (List ℕ)) (m amid : Mount) (answers : List Answer) (l : Leads m amid answers) (front : List FilterEntry)
      → history ≡ front ++ entries_of m.table m.volume l.events → Reaches m front → (t : IsToldInPart has wishes names answers amid.volume old new) → AreRightInPart (published_by sets es) t
  part_right wishes names old new m amid answers l front is reached (unwritten same) = tt
  part_right wishes names old new m amid answers l front is reached (begun opened files named lines) =
      lines_right m amid answers l front [] (is ∙ sym (append-nil (front ++ entries_of m.table m.volume l.events))) reached names opened files named

-- a run that was served is legal
module _ (has : List ℕ → List ℕ → Type 0) (names : List (Bor (List ℕ))) (wishes : Wishes) (old new : Option (List ℕ)) (status : Status) (run : AreFiltered has names wishes old new status) (starts : Port → Started) (sets : Port → List Publication) (es : List SideEntry) (served : IsServed (history_of run.told) starts sets es) where
  whole_audited : IsFilterAudit first.table first.volume (history_of run.told)
  whole_audited = (told_reaches has wishes _ _ names _ _ run.end run.told).past.legal

  pub run_legal : AreLegal FailClosed greatest_values starts [] first.volume sets es
  run_legal = legal FailClosed greatest_values first.volume (history_of run.told) starts_empty whole_audited starts sets es served

  pub run_right : AuditsGrantOnlyClean FailClosed [] sets es → AreRight (published_by sets es) run.told
  run_right clean = told_right has (history_of run.told) whole_audited starts sets es served clean wishes _ _ names _ _ run.end run.told [] (sym (append-nil (history_of run.told)))

-- so is one that ended with a fault, as far as its lines go
module _ (has : List ℕ → List ℕ → Type 0) (names : List (Bor (List ℕ))) (wishes : Wishes) (old new : Option (List ℕ)) (run : AreToldSoFar has wishes no_files old first names new) (starts : Port → Started) (sets : Port → List Publication) (es : List SideEntry) (served : IsServed (history_so_far run) starts sets es) where
  front_audited : IsFilterAudit first.table first.volume (history_so_far run)
  front_audited = (so_far_reaches has wishes no_files old names new run).past.legal

  pub front_legal : AreLegal FailClosed greatest_values starts [] first.volume sets es
  front_legal = legal FailClosed greatest_values first.volume (history_so_far run) starts_empty front_audited starts sets es served

  pub front_right : AuditsGrantOnlyClean FailClosed [] sets es → AreRight (published_by sets es) run.told × AreRightInPart (published_by sets es) run.last.told
  front_right clean = (
    told_right has (history_so_far run) front_audited starts sets es served clean wishes no_files old run.opened run.tally run.held run.end run.told (history_of_part run.last) refl,
    part_right has (history_so_far run) front_audited starts sets es served clean wishes run.group run.held new run.end run.last.amid run.last.answers run.last.led (history_of run.told) refl
        (told_reaches has wishes no_files old run.opened run.tally run.held run.end run.told) run.last.told,
  )
