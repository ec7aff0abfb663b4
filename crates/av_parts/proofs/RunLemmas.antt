-- The reads of a service, one after another, and how they end.
use Rattle.std.proofs.Common.{◌≡◌, ◌≢◌, ℕ, ◌+◌, ◌≤◌, List, [], ◌∷◌, ◌++◌, length, length-append, take, Option, Some, None, refl, sym, ◌∙◌, ap, subst, arith, append_assoc}
use Rattle.std.proofs.lemmas.List.{append-nil, map-append}
use Rattle.std.proofs.lemmas.Grind.{flat_map-append}
use Rattle.std.proofs.KnownBytes.{Appends-nil, Appends-trans, Consumes-nil, Consumes-trans}
use Rattle.std.specs.Io.KnownBytes.{Appends, Consumes}
use Rattle.std.specs.List.{flat_map}
use Rattle.av_base.specs.Device.{AppendsPrefix}
use Rattle.av_match.specs.Scanning.{Compiled}
use Rattle.av_parts.specs.declared.ended.Ended.{Ended}
use Rattle.av_parts.specs.declared.ended.Ended.TheVariants as ended
use Rattle.av_parts.specs.declared.word.Said.TheVariants.{Hello}
use Rattle.av_parts.specs.Course.{judged}
use Rattle.av_parts.specs.Heard.{Hearing, fresh, heard_of}
use Rattle.av_parts.specs.Judge.{Judging, begun, ended_by_newer, renewed}
use Rattle.av_parts.specs.Looks.{AreSeen, Looks}
use Rattle.av_parts.specs.Orders.{Order, bytewise}
use Rattle.av_parts.specs.Serving.{AreHeard, EndsAs, IsSent, IsWithin, Read, ServesParts, StopsAt, bytes_of, frames_of, happened, newer_of, renewal, service_text}
use Rattle.av_parts.specs.Spelling.{said_frame}
use Rattle.av_parts.specs.Steps.{ClosesAs, FailsToRenew, Gives, Goes, GoesOn, IsClosed, IsLeft, IsUnread, Leads, LooksUp, Obeys, Stops, StopsAmid}
use Rattle.av_parts.proofs.CourseLemmas.{frames_then, judged_nothing, judged_then, leads_nowhere, leads_renewed, leads_then}

-- ---- reads behind reads

heard_then : (was mid now : Hearing) (rs ss : List Read) (more : List Order) → AreHeard was rs mid [] → AreHeard mid ss now more → AreHeard was (rs ++ ss) now more
heard_then was mid now [] ss more first second = subst (λ h. AreHeard h ss now more) first.0 second
heard_then was mid now (r ∷ []) [] more first second =
    first ∙ ap (λ h. (h, flat_map bytewise r.orders ++ [])) (sym second.0) ∙ ap (λ l. (now, flat_map bytewise r.orders ++ l)) (sym second.1)
heard_then was mid now (r ∷ []) (s ∷ ss) more first second = (
  ap (λ h. h.1) first ∙ append-nil (flat_map bytewise r.orders),
  subst (λ h. AreHeard h (s ∷ ss) now more) (sym (ap (λ h. h.0) first)) second,
)
heard_then was mid now (r ∷ s ∷ rs) ss more first second = (first.0, heard_then (heard_of r.bytes was).0 mid now (s ∷ rs) ss more first.1 second)

seen_then : (a b c : Looks) (xs ys : List (Option Compiled)) → AreSeen a b xs → AreSeen b c ys → AreSeen a c (xs ++ ys)
seen_then a b c [] ys first second = subst (λ l. AreSeen l c ys) first second
seen_then a b c (x ∷ xs) ys first second = (first.0, first.1, seen_then first.0 b c xs ys first.2 second)

pub goes_then : {rs ss : List Read} {more : List Order} {was mid now : Hearing} {old between new : Judging} {waited waiting due : List ℕ} {h0 h1 h2 : Looks} {a b c w v u : Option (List ℕ)}
    → Goes rs [] was mid old between waited waiting h0 h1 a b w v → Goes ss more mid now between new waiting due h1 h2 b c v u
    → Goes (rs ++ ss) more was now old new waited due h0 h2 a c w u
goes_then {rs = rs} {ss = ss} {more = more} {was = was} {mid = mid} {now = now} {old = old} {between = between} {new = new} {waited = waited} {waiting = waiting} {due = due}
    {h0 = h0} {h1 = h1} {h2 = h2} {a = a} {b = b} {c = c} {w = w} {v = v} {u = u} f g =
    record {
      heard = heard_then was mid now rs ss more f.heard g.heard;
      came = subst (Consumes a c) (sym (flat_map-append (λ (r : Read). r.bytes) rs ss)) (Consumes-trans a b c (bytes_of rs) (bytes_of ss) f.came g.came);
      looked = subst (AreSeen h0 h2) (sym (map-append (λ (r : Read). r.newer) rs ss)) (seen_then h0 h1 h2 (newer_of rs) (newer_of ss) f.looked g.looked);
      words = f.words ++ g.words;
      said =
          ap (λ hs. judged hs old []) (flat_map-append happened rs ss)
          ∙ judged_then (flat_map happened rs) (flat_map happened ss) old between new f.words g.words f.said g.said;
      written = f.written ++ g.written;
      went = Appends-trans w v u f.written g.written f.went g.went;
      text =
          ap (λ l. waited ++ l) (frames_then f.words g.words)
          ∙ sym (append_assoc waited (frames_of f.words) (frames_of g.words))
          ∙ ap (λ l. l ++ frames_of g.words) f.text
          ∙ append_assoc f.written waiting (frames_of g.words)
          ∙ ap (λ l. f.written ++ l) g.text
          ∙ sym (append_assoc f.written g.written due);
    }

pub goes_nowhere : (was : Hearing) (j : Judging) (waited : List ℕ) (had : Looks) (a w : Option (List ℕ)) → Goes [] [] was was j j waited waited had had a a w w
goes_nowhere was j waited had a w = record {
  heard = (refl, refl);
  came = Consumes-nil a;
  looked = refl;
  words = [];
  said = judged_nothing j;
  written = [];
  went = Appends-nil w;
  text = append-nil waited;
}

-- some of what waited was written, and a read gave nothing
goes_silently : (was : Hearing) (j : Judging) (front back : List ℕ) (had : Looks) (a b w v : Option (List ℕ)) → Consumes a b [] → Appends w v front
    → Goes [] [] was was j j (front ++ back) back had had a b w v
goes_silently was j front back had a b w v came went = record {
  heard = (refl, refl);
  came = came;
  looked = refl;
  words = [];
  said = judged_nothing j;
  written = front;
  went = went;
  text = append-nil (front ++ back);
}

-- what waited was written, and a read gave bytes
goes_once : (r : Read) (more : List Order) (was : Hearing) (old new : Judging) (waited due : List ℕ) (had has : Looks) (a b w v : Option (List ℕ))
    → (heard_of r.bytes was).1 ≡ flat_map bytewise r.orders ++ more → Consumes a b r.bytes → AreSeen had has (r.newer ∷ []) → Leads (happened r) old new [] due → Appends w v waited
    → Goes (r ∷ []) more was (heard_of r.bytes was).0 old new waited due had has a b w v
goes_once r more was old new waited due had has a b w v told came seen leads went = record {
  heard = ap (λ es. ((heard_of r.bytes was).0, es)) told;
  came = subst (Consumes a b) (sym (append-nil r.bytes)) came;
  looked = seen;
  words = leads.words;
  said = ap (λ hs. judged hs old []) (append-nil (happened r)) ∙ leads.said;
  written = waited;
  went = went;
  text = ap (λ l. waited ++ l) (sym leads.waiting);
}

-- a read gave bytes, a newer set came if there was one, and orders were obeyed
goes_obeying : (piece : List ℕ) (more : List Order) (was : Hearing) (old mid new : Judging) (waited between due : List ℕ) (had has : Looks) (a b w v : Option (List ℕ))
    → Appends w v waited → Consumes a b piece → LooksUp had has old mid [] between → Obeys piece was mid new between due more
    → (r : Read) × Goes (r ∷ []) more was (heard_of piece was).0 old new waited due had has a b w v
goes_obeying piece more was old mid new waited between due had has a b w v went came up obeys =
    let r : Read = record { newer = up.newer; bytes = piece; orders = obeys.orders } in
    (r, goes_once r more was old new waited due had has a b w v obeys.told came (has, up.seen, refl) (leads_then up.leads obeys.leads) went)

pub goes_on : {piece : List ℕ} {was is now : Hearing} {old mid new : Judging} {waited none between due : List ℕ} {had has : Looks} {a b w v : Option (List ℕ)}
    → none ≡ [] → Appends w v waited → Consumes a b piece → is ≡ was → LooksUp had has old mid none between → now ≡ (heard_of piece is).0 → Obeys piece is mid new between due []
    → GoesOn was now old new waited due had has a b w v
goes_on {piece = piece} {was = was} {now = now} {old = old} {mid = mid} {new = new} {waited = waited} {between = between} {due = due} {had = had} {has = has} {a = a} {b = b} {w = w} {v = v}
    empty went came same up leads obeys =
    let one =
    goes_obeying piece [] was old mid new waited between due had has a b w v went came (subst (λ l. LooksUp had has old mid l between) empty up)
    (subst (λ h. Obeys piece h mid new between due []) same obeys) in (
      one.0,
      subst (λ h. Goes (one.0 ∷ []) [] was h old new waited due had has a b w v) (sym (leads ∙ ap (λ h. (heard_of piece h).0) same)) one.1,
    )

-- what a read gave
pub came : (a b : Option (List ℕ)) (buffer bytes : List ℕ) (count : ℕ) (x : Option ℕ) → x ≡ Some count → bytes ≡ buffer → Gives a b buffer x → Consumes a b (take count bytes)
came a b buffer bytes count x is same gives =
    subst (λ l. Consumes a b (take count l)) (sym same) (subst (Gives a b buffer) is gives).1

pub has_closed : (a b : Option (List ℕ)) (buffer : List ℕ) (x : Option ℕ) → x ≡ None → Gives a b buffer x → IsClosed a b
has_closed a b buffer x is gives = subst (Gives a b buffer) is gives

-- ---- how a read ends

unwritten : (was : Hearing) (old : Judging) (waited waits : List ℕ) (had : Looks) (a w v : Option (List ℕ)) → waits ≡ [] → AppendsPrefix w v waited
    → Stops ended.WriteFault 1 was old waited waits had had a a w v
unwritten was old waited waits had a w v empty front = record {
  reads = [];
  more = [];
  now = was;
  judge = old;
  due = front.back;
  goes =
      subst (λ l. Goes [] [] was was old old l front.back had had a a w v) (sym front.parts)
      (goes_silently was old front.front front.back had a a w v (Consumes-nil a) front.appended);
  few = omega arith;
  left = empty;
  ends = tt;
}

pub stops_unwritten : {was : Hearing} {old : Judging} {waited waits : List ℕ} {had : Looks} {a w v : Option (List ℕ)} (e : Ended) → e ≡ ended.WriteFault → waits ≡ []
    → AppendsPrefix w v waited → Stops e 1 was old waited waits had had a a w v
stops_unwritten {was = was} {old = old} {waited = waited} {waits = waits} {had = had} {a = a} {w = w} {v = v} e is empty front =
    subst (λ x. Stops x 1 was old waited waits had had a a w v) (sym is) (unwritten was old waited waits had a w v empty front)

goes_written : (was : Hearing) (old : Judging) (waited : List ℕ) (had : Looks) (a b w v : Option (List ℕ)) → Appends w v waited → Consumes a b []
    → Goes [] [] was was old old waited [] had had a b w v
goes_written was old waited had a b w v went came =
    subst (λ l. Goes [] [] was was old old l [] had had a b w v) (append-nil waited) (goes_silently was old waited [] had a b w v came went)

pub stops_unread : {was : Hearing} {old : Judging} {waited waits : List ℕ} {had : Looks} {a b w v : Option (List ℕ)} (e : Ended) → waits ≡ [] → Appends w v waited → IsUnread e
    → Consumes a b [] → Stops e 1 was old waited waits had had a b w v
stops_unread {was = was} {old = old} {waited = waited} {waits = waits} {had = had} {a = a} {b = b} {w = w} {v = v} ended.ReadFault empty went unread came = record {
  reads = [];
  more = [];
  now = was;
  judge = old;
  due = [];
  goes = goes_written was old waited had a b w v went came;
  few = omega arith;
  left = empty;
  ends = refl;
}
stops_unread {was = was} {old = old} {waited = waited} {waits = waits} {had = had} {a = a} {b = b} {w = w} {v = v} ended.Idle empty went unread came = record {
  reads = [];
  more = [];
  now = was;
  judge = old;
  due = [];
  goes = goes_written was old waited had a b w v went came;
  few = omega arith;
  left = empty;
  ends = refl;
}
stops_unread ended.Done empty went unread came = absurd unread
stops_unread ended.Cut empty went unread came = absurd unread
stops_unread ended.Spent empty went unread came = absurd unread
stops_unread ended.WriteFault empty went unread came = absurd unread
stops_unread (ended.Order f) empty went unread came = absurd unread
stops_unread (ended.Judge f) empty went unread came = absurd unread
stops_unread ended.Memory empty went unread came = absurd unread

pub stops_closed : {was : Hearing} {old : Judging} {waited waits : List ℕ} {had : Looks} {a b w v : Option (List ℕ)} (e : Ended) → waits ≡ [] → Appends w v waited → ClosesAs e was
    → IsClosed a b → Stops e 1 was old waited waits had had a b w v
stops_closed {was = was} {old = old} {waited = waited} {waits = waits} {had = had} {a = a} {b = b} {w = w} {v = v} ended.Done empty went closes closed = record {
  reads = [];
  more = [];
  now = was;
  judge = old;
  due = [];
  goes = goes_written was old waited had a b w v went closed.0;
  few = omega arith;
  left = empty;
  ends = (refl, closes, closed.1);
}
stops_closed {was = was} {old = old} {waited = waited} {waits = waits} {had = had} {a = a} {b = b} {w = w} {v = v} ended.Cut empty went closes closed = record {
  reads = [];
  more = [];
  now = was;
  judge = old;
  due = [];
  goes = goes_written was old waited had a b w v went closed.0;
  few = omega arith;
  left = empty;
  ends = (refl, closes, closed.1);
}
stops_closed ended.ReadFault empty went closes closed = absurd closes
stops_closed ended.Idle empty went closes closed = absurd closes
stops_closed ended.Spent empty went closes closed = absurd closes
stops_closed ended.WriteFault empty went closes closed = absurd closes
stops_closed (ended.Order f) empty went closes closed = absurd closes
stops_closed (ended.Judge f) empty went closes closed = absurd closes
stops_closed ended.Memory empty went closes closed = absurd closes

-- a newer set comes to a judge, if there is one
renewal_leads : (o : Option Compiled) (j : Judging) (waited : List ℕ) → (k : Judging) × (due : List ℕ) × Leads (renewal o) j k waited due
renewal_leads None j waited = (j, waited, leads_nowhere j waited)
renewal_leads (Some set) j waited =
    (renewed j set, waited ++ frames_of (ended_by_newer j.held), leads_renewed j (renewed j set) set waited (waited ++ frames_of (ended_by_newer j.held)) refl refl)

pub stops_unrenewed : (piece : List ℕ) {was : Hearing} {old : Judging} {waited none waits : List ℕ} {had has : Looks} {a b w v : Option (List ℕ)} → none ≡ [] → Appends w v waited
    → Consumes a b piece → FailsToRenew had has none waits → Stops ended.Memory 1 was old waited waits had has a b w v
stops_unrenewed piece {was = was} {old = old} {waited = waited} {waits = waits} {had = had} {has = has} {a = a} {b = b} {w = w} {v = v} empty went came fails =
    let leads = renewal_leads fails.newer old [] in
    let r : Read = record { newer = fails.newer; bytes = piece; orders = [] } in
    record {
      reads = r ∷ [];
      more = (heard_of piece was).1;
      now = (heard_of piece was).0;
      judge = leads.0;
      due = leads.1;
      goes =
          goes_once r (heard_of piece was).1 was old leads.0 waited leads.1 had has a b w v refl came (has, fails.seen, refl)
          (subst (λ hs. Leads hs old leads.0 [] leads.1) (sym (append-nil (renewal fails.newer))) leads.2) went;
      few = omega arith;
      left = (leads.1, ap (λ l. l ++ leads.1) (sym (fails.same ∙ empty)));
      ends = tt;
    }

-- it stopped amid a read
amid_within : (e : Ended) (more : List Order) (now : Hearing) (j : Judging) → StopsAt e more now j → IsWithin e 1 1
amid_within (ended.Order f) more now j stops = omega arith
amid_within (ended.Judge f) more now j stops = omega arith
amid_within ended.Memory more now j stops = omega arith
amid_within ended.Done more now j stops = absurd stops
amid_within ended.Cut more now j stops = absurd stops
amid_within ended.ReadFault more now j stops = absurd stops
amid_within ended.Idle more now j stops = absurd stops
amid_within ended.Spent more now j stops = absurd stops
amid_within ended.WriteFault more now j stops = absurd stops

amid_left : (e : Ended) (more : List Order) (now : Hearing) (j : Judging) (waits : List ℕ) → StopsAt e more now j → IsLeft e waits waits
amid_left (ended.Order f) more now j waits stops = refl
amid_left (ended.Judge f) more now j waits stops = refl
amid_left ended.Memory more now j waits stops = ([], sym (append-nil waits))
amid_left ended.Done more now j waits stops = absurd stops
amid_left ended.Cut more now j waits stops = absurd stops
amid_left ended.ReadFault more now j waits stops = absurd stops
amid_left ended.Idle more now j waits stops = absurd stops
amid_left ended.Spent more now j waits stops = absurd stops
amid_left ended.WriteFault more now j waits stops = absurd stops

amid_ends : (e : Ended) (more : List Order) (now : Hearing) (j : Judging) (rest : Option (List ℕ)) → StopsAt e more now j → EndsAs e more now j rest
amid_ends (ended.Order f) more now j rest stops = stops
amid_ends (ended.Judge f) more now j rest stops = stops
amid_ends ended.Memory more now j rest stops = tt
amid_ends ended.Done more now j rest stops = absurd stops
amid_ends ended.Cut more now j rest stops = absurd stops
amid_ends ended.ReadFault more now j rest stops = absurd stops
amid_ends ended.Idle more now j rest stops = absurd stops
amid_ends ended.Spent more now j rest stops = absurd stops
amid_ends ended.WriteFault more now j rest stops = absurd stops

pub stops_amid : {piece : List ℕ} {was is : Hearing} {old mid : Judging} {waited none between waits : List ℕ} {had has : Looks} {a b w v : Option (List ℕ)} (e : Ended) → none ≡ []
    → Appends w v waited → Consumes a b piece → is ≡ was → LooksUp had has old mid none between → StopsAmid e piece is mid between waits
    → Stops e 1 was old waited waits had has a b w v
stops_amid {piece = piece} {was = was} {old = old} {mid = mid} {waited = waited} {between = between} {waits = waits} {had = had} {has = has} {a = a} {b = b} {w = w} {v = v}
    e empty went came same up stopped =
    let amid = subst (λ h. StopsAmid e piece h mid between waits) same stopped in
    let more = amid.0 in
    let j = amid.1 in
    let now = (heard_of piece was).0 in
    let stops = amid.3 in
    let one = goes_obeying piece more was old mid j waited between waits had has a b w v went came (subst (λ l. LooksUp had has old mid l between) empty up) amid.2 in
    record {
      reads = one.0 ∷ [];
      more = more;
      now = now;
      judge = j;
      due = waits;
      goes = one.1;
      few = amid_within e more now j stops;
      left = amid_left e more now j waits stops;
      ends = amid_ends e more now j b stops;
    }

-- ---- how reads end

-- so many reads were made, and one more at most
within_then : (e : Ended) (k n turns : ℕ) → e ≢ ended.Spent → IsWithin e n 1 → k + 1 ≤ turns → IsWithin e (k + n) turns
within_then ended.Done k n turns unspent few more = omega (arith, few, more)
within_then ended.Cut k n turns unspent few more = omega (arith, few, more)
within_then ended.ReadFault k n turns unspent few more = omega (arith, few, more)
within_then ended.Idle k n turns unspent few more = omega (arith, few, more)
within_then ended.Spent k n turns unspent few more = absurd (unspent refl)
within_then ended.WriteFault k n turns unspent few more = omega (arith, few, more)
within_then (ended.Order f) k n turns unspent few more = omega (arith, few, more)
within_then (ended.Judge f) k n turns unspent few more = omega (arith, few, more)
within_then ended.Memory k n turns unspent few more = omega (arith, few, more)

pub stops_then : {rs : List Read} {was mid : Hearing} {old between : Judging} {waited waiting waits : List ℕ} {h0 h1 h2 : Looks} {a b c w v u : Option (List ℕ)} {turns : ℕ} (e : Ended)
    → Goes rs [] was mid old between waited waiting h0 h1 a b w v → length rs + 1 ≤ turns → e ≢ ended.Spent → Stops e 1 mid between waiting waits h1 h2 b c v u
    → Stops e turns was old waited waits h0 h2 a c w u
stops_then {rs = rs} {turns = turns} e f some unspent g = record {
  reads = rs ++ g.reads;
  more = g.more;
  now = g.now;
  judge = g.judge;
  due = g.due;
  goes = goes_then f g.goes;
  few = subst (λ n. IsWithin e n turns) (sym (length-append rs g.reads)) (within_then e (length rs) (length g.reads) turns unspent g.few some);
  left = g.left;
  ends = g.ends;
}

-- ---- what was written by the end

sent_all : (e : Ended) (w v u : Option (List ℕ)) (written due waits : List ℕ) → IsLeft e due waits → Appends w v written → Appends v u waits → IsSent e w u (written ++ due)
sent_all ended.Done w v u written due waits left first second = subst (λ l. Appends w u (written ++ l)) left (Appends-trans w v u written waits first second)
sent_all ended.Cut w v u written due waits left first second = subst (λ l. Appends w u (written ++ l)) left (Appends-trans w v u written waits first second)
sent_all ended.ReadFault w v u written due waits left first second = subst (λ l. Appends w u (written ++ l)) left (Appends-trans w v u written waits first second)
sent_all ended.Idle w v u written due waits left first second = subst (λ l. Appends w u (written ++ l)) left (Appends-trans w v u written waits first second)
sent_all ended.Spent w v u written due waits left first second = subst (λ l. Appends w u (written ++ l)) left (Appends-trans w v u written waits first second)
sent_all (ended.Order f) w v u written due waits left first second = subst (λ l. Appends w u (written ++ l)) left (Appends-trans w v u written waits first second)
sent_all (ended.Judge f) w v u written due waits left first second = subst (λ l. Appends w u (written ++ l)) left (Appends-trans w v u written waits first second)
sent_all ended.WriteFault w v u written due waits left first second = record {
  front = written ++ waits;
  back = due;
  parts = ap (λ l. l ++ due) (sym (ap (λ l. written ++ l) left ∙ append-nil written));
  appended = Appends-trans w v u written waits first second;
}
sent_all ended.Memory w v u written due waits left first second = record {
  front = written ++ waits;
  back = left.0;
  parts = ap (λ l. written ++ l) left.1 ∙ sym (append_assoc written waits left.0);
  appended = Appends-trans w v u written waits first second;
}

pub serves : {set : Compiled} {was : Hearing} {j : Judging} {waited waits : List ℕ} {had has : Looks} {a b w v u : Option (List ℕ)} {turns : ℕ} (e : Ended) → was ≡ fresh → j ≡ begun set
    → waited ≡ said_frame (Hello set.version) → Stops e turns was j waited waits had has a b w v → Appends v u waits → ServesParts set had has a b w u turns e
serves {set = set} {waits = waits} {had = had} {has = has} {a = a} {b = b} {w = w} {v = v} {u = u} e is_fresh is_begun greets s went = record {
  reads = s.reads;
  came = s.goes.came;
  looked = s.goes.looked;
  few = s.few;
  more = s.more;
  now = s.now;
  heard = subst (λ h. AreHeard h s.reads s.now s.more) is_fresh s.goes.heard;
  judge = s.judge;
  words = s.goes.words;
  said = ap (λ k. judged (flat_map happened s.reads) k []) (sym is_begun) ∙ s.goes.said;
  sent =
      subst (IsSent e w u) (sym (ap (λ l. l ++ frames_of s.goes.words) (sym greets) ∙ s.goes.text))
      (sent_all e w v u s.goes.written s.due waits s.left s.goes.went went);
  ends = s.ends;
}

-- what waits is a front of what is due
left_front : (e : Ended) (due waits : List ℕ) → IsLeft e due waits → (lost : List ℕ) × (due ≡ waits ++ lost)
left_front ended.Done due waits left = ([], sym left ∙ sym (append-nil waits))
left_front ended.Cut due waits left = ([], sym left ∙ sym (append-nil waits))
left_front ended.ReadFault due waits left = ([], sym left ∙ sym (append-nil waits))
left_front ended.Idle due waits left = ([], sym left ∙ sym (append-nil waits))
left_front ended.Spent due waits left = ([], sym left ∙ sym (append-nil waits))
left_front (ended.Order f) due waits left = ([], sym left ∙ sym (append-nil waits))
left_front (ended.Judge f) due waits left = ([], sym left ∙ sym (append-nil waits))
left_front ended.WriteFault due waits left = (due, ap (λ l. l ++ due) (sym left))
left_front ended.Memory due waits left = left

front_sent : (w v u : Option (List ℕ)) (written due waits lost : List ℕ) → due ≡ waits ++ lost → Appends w v written → AppendsPrefix v u waits → AppendsPrefix w u (written ++ due)
front_sent w v u written due waits lost is first second = record {
  front = written ++ second.front;
  back = second.back ++ lost;
  parts =
      ap (λ l. written ++ l) (is ∙ ap (λ l. l ++ lost) second.parts ∙ append_assoc second.front second.back lost)
      ∙ sym (append_assoc written second.front (second.back ++ lost));
  appended = Appends-trans w v u written second.front first second.appended;
}

few_at_most : (e : Ended) (n turns : ℕ) → IsWithin e n turns → n ≤ turns
few_at_most ended.Done n turns few = few
few_at_most ended.Cut n turns few = few
few_at_most ended.ReadFault n turns few = few
few_at_most ended.Idle n turns few = few
few_at_most ended.Spent n turns few = omega (arith, few)
few_at_most (ended.Order f) n turns few = few
few_at_most (ended.Judge f) n turns few = few
few_at_most ended.WriteFault n turns few = few
few_at_most ended.Memory n turns few = few

pub fails_to_serve : {set : Compiled} {was : Hearing} {j : Judging} {waited waits : List ℕ} {had has : Looks} {a b w v u : Option (List ℕ)} {turns : ℕ} (e f : Ended) → was ≡ fresh
    → j ≡ begun set → waited ≡ said_frame (Hello set.version) → Stops e turns was j waited waits had has a b w v → AppendsPrefix v u waits → f ≡ ended.WriteFault
    → ServesParts set had has a b w u turns f
fails_to_serve {set = set} {waits = waits} {had = had} {has = has} {a = a} {b = b} {w = w} {v = v} {u = u} {turns = turns} e f is_fresh is_begun greets s front is =
    let lost = left_front e s.due waits s.left in
    subst (λ x. ServesParts set had has a b w u turns x) (sym is) (record {
      reads = s.reads;
      came = s.goes.came;
      looked = s.goes.looked;
      few = few_at_most e (length s.reads) turns s.few;
      more = s.more;
      now = s.now;
      heard = subst (λ h. AreHeard h s.reads s.now s.more) is_fresh s.goes.heard;
      judge = s.judge;
      words = s.goes.words;
      said = ap (λ k. judged (flat_map happened s.reads) k []) (sym is_begun) ∙ s.goes.said;
      sent =
          subst (AppendsPrefix w u) (sym (ap (λ l. l ++ frames_of s.goes.words) (sym greets) ∙ s.goes.text))
          (front_sent w v u s.goes.written s.due waits lost.0 lost.1 s.goes.went front);
      ends = tt;
    })

pub serves_nothing : (set : Compiled) (had : Looks) (a w : Option (List ℕ)) (turns : ℕ) → ServesParts set had had a a w w turns ended.Memory
serves_nothing set had a w turns = record {
  reads = [];
  came = Consumes-nil a;
  looked = refl;
  few = omega arith;
  more = [];
  now = fresh;
  heard = (refl, refl);
  judge = begun set;
  words = [];
  said = judged_nothing (begun set);
  sent = record { front = []; back = service_text set []; parts = refl; appended = Appends-nil w };
  ends = tt;
}
