-- The engine of a scanning service to which newer sets come, step by step.
use Rattle.std.proofs.Common.{ℕ, ◌≡◌, List, [], ◌∷◌, ◌++◌, arith, inl, inr, refl, sym, ap, subst, ◌∙◌, append_assoc, append-nil}
use Rattle.std.specs.Prelude.{Option, Some, None, IfSome, Result, Ok, ◌⊎◌}
use Rattle.std.specs.Io.KnownBytes.{Appends}
use Rattle.std.specs.List.{flat_map}
use Rattle.std.specs.declared.alloc.AllocError.{AllocError}
use Rattle.std.proofs.KnownBytes.{Appends-nil, Appends-trans}
use Rattle.std.proofs.lemmas.Grind.{flat_map-append}
use Rattle.av_base.proofs.DeviceLemmas.{prefix_whole as front_written}
use Rattle.av_base.specs.Device.{AppendsPrefix}
use Rattle.av_frame.specs.Laws.{FaultStays}
use Rattle.av_frame.specs.Message.{Letter}
use Rattle.av_frame.specs.Spelling.{frame}
use Rattle.av_service.specs.Conduct.{Connects, Publishes, Receives, service_step}
use Rattle.av_service.specs.Desk.{Desk}
use Rattle.av_service.specs.Sound.{LendsUnderItsVersion}
use Rattle.av_sigset.specs.Set.{NumberedSet}
use Rattle.av_sigset.specs.declared.signature.Pattern.{Pattern}
use Rattle.av_frame.specs.declared.end.End.{End}
use Rattle.av_frame.specs.declared.end.End.TheVariants.{Done, ReadFault, WriteFault, Frame, Closed, Memory, AuditFull}
use Rattle.av_engines.specs.declared.exchange.Exchange.{Exchange}
use Rattle.av_engines.specs.Exchange.{Passes, StopsAs}
use Rattle.av_engines.specs.Fresh.{Happening, Comes, Renews, Refuses, Gives, AllMayHappen, all_gone_by, all_published, fresh_run, fresh_text, gone_by, messages_of, published_by, sets_of}
use Rattle.av_engines.specs.FreshEnd.{Freshens, HearsFresh, IsUnserved, RunsFresh, ServesFresh}
use Rattle.av_engines.specs.Incoming.{Received, Takes, listed, unread}
use Rattle.av_engines.specs.Serving.{Served, gone_on, heard, heard_all, patterns_at, unserved}
use Rattle.av_engines.specs.ServiceEnd.{IsAmid, IsLed, IsLeft, IsRefused, IsWithin, Puts, ServesTo, always}
use Rattle.av_engines.specs.Spelled.{CameIn, IsSent, SpellsFirst}
use Rattle.av_engines.proofs.IncomingLemmas.{takes_few, takes_none, takes_then}
use Rattle.av_engines.proofs.ExchangeLemmas.{first_spelled, prefix_whole, stopped_sent, stopped_spelled}
use Rattle.av_engines.proofs.ServingLemmas.{heard_alike, heard_front}

-- ---- lists of what happened

messages_then : (hs ks : List Happening) → messages_of (hs ++ ks) ≡ messages_of hs ++ messages_of ks
messages_then [] ks = refl
messages_then (Comes m ∷ hs) ks = ap (λ l. m ∷ l) (messages_then hs ks)
messages_then (Renews s ∷ hs) ks = messages_then hs ks
messages_then (Refuses s why ∷ hs) ks = messages_then hs ks

sets_then : (hs ks : List Happening) → sets_of (hs ++ ks) ≡ sets_of hs ++ sets_of ks
sets_then [] ks = refl
sets_then (Comes m ∷ hs) ks = sets_then hs ks
sets_then (Renews s ∷ hs) ks = ap (λ l. s ∷ l) (sets_then hs ks)
sets_then (Refuses s why ∷ hs) ks = ap (λ l. s ∷ l) (sets_then hs ks)

published_then : (sets : List NumberedSet) (hs ks : List Happening) → all_published sets (hs ++ ks) ≡ all_published (all_published sets hs) ks
published_then sets [] ks = refl
published_then sets (h ∷ hs) ks = published_then (published_by sets h) hs ks

gone_then : (sets : List NumberedSet) (s : Served) (hs ks : List Happening) → all_gone_by sets s (hs ++ ks) ≡ all_gone_by (all_published sets hs) (all_gone_by sets s hs) ks
gone_then sets s [] ks = refl
gone_then sets s (h ∷ hs) ks = gone_then (published_by sets h) (gone_by sets s h) hs ks

may_then : (sets : List NumberedSet) (hs ks : List Happening) → AllMayHappen sets hs → AllMayHappen (all_published sets hs) ks → AllMayHappen sets (hs ++ ks)
may_then sets [] ks first second = second
may_then sets (h ∷ hs) ks first second = (first.0, may_then (published_by sets h) hs ks first.1 second)

pub gives_none : (a : Option (List NumberedSet)) → Gives a a []
gives_none None = tt
gives_none (Some xs) = refl

gives_then : (a b c : Option (List NumberedSet)) (xs ys : List NumberedSet) → Gives a b xs → Gives b c ys → Gives a c (xs ++ ys)
gives_then None b c xs ys first second = tt
gives_then (Some k) None c xs ys first second = absurd first
gives_then (Some k) (Some l) None xs ys first second = absurd second
gives_then (Some k) (Some l) (Some m) xs ys first second = first ∙ ap (λ z. xs ++ z) second ∙ sym (append_assoc xs ys m)

-- what was sent before stays in front
gone_front : (sets : List NumberedSet) (d : Desk) (front back : List Letter) (h : Happening)
    → gone_by sets (record { desk = d; sent = front ++ back }) h ≡ record { desk = (gone_by sets (record { desk = d; sent = back }) h).desk; sent = front ++ (gone_by sets (record { desk = d; sent = back }) h).sent }
gone_front sets d front back (Comes m) = heard_front (patterns_at sets) d front back m
gone_front sets d front back (Renews s) = let r = service_step d (Publishes s.version) in ap (λ l. record { desk = r.desk; sent = l }) (append_assoc front back r.messages)
gone_front sets d front back (Refuses s why) = refl

all_front : (sets : List NumberedSet) (d : Desk) (front back : List Letter) (hs : List Happening)
    → all_gone_by sets (record { desk = d; sent = front ++ back }) hs ≡ record { desk = (all_gone_by sets (record { desk = d; sent = back }) hs).desk; sent = front ++ (all_gone_by sets (record { desk = d; sent = back }) hs).sent }
all_front sets d front back [] = refl
all_front sets d front back (h ∷ hs) =
    let next = gone_by sets (record { desk = d; sent = back }) h in
    ap (λ s. all_gone_by (published_by sets h) s hs) (gone_front sets d front back h) ∙ all_front (published_by sets h) next.desk front next.sent hs

all_behind : (sets : List NumberedSet) (d : Desk) (front : List Letter) (hs : List Happening)
    → all_gone_by sets (record { desk = d; sent = front }) hs ≡ record { desk = (all_gone_by sets (unserved d) hs).desk; sent = front ++ (all_gone_by sets (unserved d) hs).sent }
all_behind sets d front hs = ap (λ l. all_gone_by sets (record { desk = d; sent = l }) hs) (sym (append-nil front)) ∙ all_front sets d front [] hs

-- ---- steps of the engine

-- Some of it happened. The frames that were written, and those that wait to go out, are the text of it.
pub record Goes (sets sets' : List NumberedSet) (d e : Desk) (had has : Option (List NumberedSet)) (from now : Received) (waited waits : List ℕ) (a b w v : Option (List ℕ)) : Type 0 where
  pub happenings : List Happening
  pub taken : Takes from now a b (messages_of happenings)
  pub given : Gives had has (sets_of happenings)
  pub may : AllMayHappen sets happenings
  pub published : sets' ≡ all_published sets happenings
  pub desk : e ≡ (all_gone_by sets (unserved d) happenings).desk
  pub written : List ℕ
  pub went : Appends w v written
  pub text : waited ++ flat_map frame (all_gone_by sets (unserved d) happenings).sent ≡ written ++ waits

pub goes_nowhere : (sets : List NumberedSet) (d : Desk) (had : Option (List NumberedSet)) (from : Received) (waited : List ℕ) (a w : Option (List ℕ)) → Goes sets sets d d had had from from waited waited a a w w
goes_nowhere sets d had from waited a w = record {
  happenings = [];
  taken = takes_none from a;
  given = gives_none had;
  may = tt;
  published = refl;
  desk = refl;
  written = [];
  went = Appends-nil w;
  text = append-nil waited;
}

-- two steps, the second from where the first led
joined : (sets s2 : List NumberedSet) (d d1 d2 : Desk) (s1 : List NumberedSet) (h0 h1 h2 : Option (List NumberedSet)) (r0 r1 r2 : Received) (q0 q1 q2 : List ℕ) (a b c w v u : Option (List ℕ))
    → (f : Goes sets s1 d d1 h0 h1 r0 r1 q0 q1 a b w v)
    → Goes (all_published sets f.happenings) s2 (all_gone_by sets (unserved d) f.happenings).desk d2 h1 h2 r1 r2 q1 q2 b c v u
    → Goes sets s2 d d2 h0 h2 r0 r2 q0 q2 a c w u
joined sets s2 d d1 d2 s1 h0 h1 h2 r0 r1 r2 q0 q1 q2 a b c w v u f g =
    let mid = all_gone_by sets (unserved d) f.happenings in
    let after = all_gone_by (all_published sets f.happenings) (unserved mid.desk) g.happenings in
    let whole : all_gone_by sets (unserved d) (f.happenings ++ g.happenings) ≡ record { desk = after.desk; sent = mid.sent ++ after.sent } =
    gone_then sets (unserved d) f.happenings g.happenings ∙ all_behind (all_published sets f.happenings) mid.desk mid.sent g.happenings in
    record {
      happenings = f.happenings ++ g.happenings;
      taken = subst (Takes r0 r2 a c) (sym (messages_then f.happenings g.happenings)) (takes_then r0 r1 r2 a b c (messages_of f.happenings) (messages_of g.happenings) f.taken g.taken);
      given = subst (Gives h0 h2) (sym (sets_then f.happenings g.happenings)) (gives_then h0 h1 h2 (sets_of f.happenings) (sets_of g.happenings) f.given g.given);
      may = may_then sets f.happenings g.happenings f.may g.may;
      published = g.published ∙ sym (published_then sets f.happenings g.happenings);
      desk = g.desk ∙ ap (λ (s : Served). s.desk) (sym whole);
      written = f.written ++ g.written;
      went = Appends-trans w v u f.written g.written f.went g.went;
      text =
          ap (λ (s : Served). q0 ++ flat_map frame s.sent) whole
          ∙ ap (λ l. q0 ++ l) (flat_map-append frame mid.sent after.sent)
          ∙ sym (append_assoc q0 (flat_map frame mid.sent) (flat_map frame after.sent))
          ∙ ap (λ l. l ++ flat_map frame after.sent) f.text
          ∙ append_assoc f.written q1 (flat_map frame after.sent)
          ∙ ap (λ l. f.written ++ l) g.text
          ∙ sym (append_assoc f.written g.written q2);
    }

pub goes_then : {sets s1 s2 : List NumberedSet} {d d1 d2 : Desk} {h0 h1 h2 : Option (List NumberedSet)} {r0 r1 r2 : Received} {q0 q1 q2 : List ℕ} {a b c w v u : Option (List ℕ)}
    → Goes sets s1 d d1 h0 h1 r0 r1 q0 q1 a b w v → Goes s1 s2 d1 d2 h1 h2 r1 r2 q1 q2 b c v u → Goes sets s2 d d2 h0 h2 r0 r2 q0 q2 a c w u
goes_then {sets = sets} {s1 = s1} {s2 = s2} {d = d} {d1 = d1} {d2 = d2} {h0 = h0} {h1 = h1} {h2 = h2} {r0 = r0} {r1 = r1} {r2 = r2} {q0 = q0} {q1 = q1} {q2 = q2} {a = a} {b = b} {c = c} {w = w} {v = v} {u = u} f g =
    joined sets s2 d d1 d2 s1 h0 h1 h2 r0 r1 r2 q0 q1 q2 a b c w v u f
    (subst (λ s. Goes s s2 (all_gone_by sets (unserved d) f.happenings).desk d2 h1 h2 r1 r2 q1 q2 b c v u) f.published (subst (λ k. Goes s1 s2 k d2 h1 h2 r1 r2 q1 q2 b c v u) f.desk g))

-- sets came: their frames would wait behind what waited
goes_told : (sets sets' : List NumberedSet) (d e : Desk) (had has : Option (List NumberedSet)) (r : Received) (waited waits : List ℕ) (a w : Option (List ℕ)) (told : Result (Unit {0}) AllocError)
    → (f : Freshens sets sets' d e had has waited waits told)
    → Goes sets sets' d e had has r r waited (waited ++ flat_map frame (all_gone_by sets (unserved d) f.happenings).sent) a a w w
goes_told sets sets' d e had has r waited waits a w told f = record {
  happenings = f.happenings;
  taken = subst (Takes r r a a) (sym f.silent) (takes_none r a);
  given = f.given;
  may = f.may;
  published = f.published;
  desk = f.desk;
  written = [];
  went = Appends-nil w;
  text = refl;
}

pub goes_freshened : (sets sets' : List NumberedSet) (d e : Desk) (had has : Option (List NumberedSet)) (r : Received) (waited waits : List ℕ) (a w : Option (List ℕ))
    → Freshens sets sets' d e had has waited waits (Ok tt) → Goes sets sets' d e had has r r waited waits a a w w
goes_freshened sets sets' d e had has r waited waits a w f =
    subst (λ l. Goes sets sets' d e had has r r waited l a a w w) (sym f.sent) (goes_told sets sets' d e had has r waited waits a w (Ok tt) f)

-- what a look gave, by another name
pub looked : {x y : Exchange} {b c v u : Option (List ℕ)} (o p : Option Letter) → o ≡ p → Passes x y b c v u (listed o) → Passes x y b c v u (listed p)
looked {x = x} {y = y} {b = b} {c = c} {v = v} {u = u} o p same passes = subst (λ k. Passes x y b c v u (listed k)) same passes

-- what waited went out, and no message came
pub goes_passed : (sets : List NumberedSet) (d : Desk) (had : Option (List NumberedSet)) (x y : Exchange) (b c v u : Option (List ℕ)) → Passes x y b c v u [] → Goes sets sets d d had had x.incoming y.incoming x.outgoing y.outgoing b c v u
goes_passed sets d had x y b c v u passes = record {
  happenings = [];
  taken = passes.taken;
  given = gives_none had;
  may = tt;
  published = refl;
  desk = refl;
  written = x.outgoing;
  went = passes.sent;
  text = ap (λ l. x.outgoing ++ l) (sym passes.empty);
}

-- what waited went out, and a message came: what it is answered would wait
goes_answered : LendsUnderItsVersion → (sets : List NumberedSet) (d : Desk) (ps : List Pattern) (had : Option (List NumberedSet)) (x y : Exchange) (b c v u : Option (List ℕ)) (m : Letter)
    → ps ≡ patterns_at sets d.version → Passes x y b c v u (m ∷ [])
    → Goes sets sets d (heard (always ps) (unserved d) m).desk had had x.incoming y.incoming x.outgoing (flat_map frame (heard (always ps) (unserved d) m).sent) b c v u
goes_answered law sets d ps had x y b c v u m same passes =
    let alike = heard_alike law (always ps) (patterns_at sets) d m same in
    record {
      happenings = Comes m ∷ [];
      taken = passes.taken;
      given = gives_none had;
      may = (tt, tt);
      published = refl;
      desk = ap (λ (s : Served). s.desk) alike.0;
      written = x.outgoing;
      went = passes.sent;
      text = ap (λ (s : Served). x.outgoing ++ flat_map frame s.sent) (sym alike.0);
    }

pub goes_heard : LendsUnderItsVersion → (sets : List NumberedSet) (d e : Desk) (ps : List Pattern) (had : Option (List NumberedSet)) (x y : Exchange) (b c v u : Option (List ℕ)) (m : Letter) (waits : List ℕ)
    → ps ≡ patterns_at sets d.version → Passes x y b c v u (m ∷ []) → Puts (heard (always ps) (unserved d) m) e y.outgoing waits
    → Goes sets sets d e had had x.incoming y.incoming x.outgoing waits b c v u
goes_heard law sets d e ps had x y b c v u m waits same passes puts =
    let put : waits ≡ flat_map frame (heard (always ps) (unserved d) m).sent = puts.sent ∙ ap (λ l. l ++ flat_map frame (heard (always ps) (unserved d) m).sent) passes.empty in
    subst (λ l. Goes sets sets d e had had x.incoming y.incoming x.outgoing l b c v u) (sym put)
    (subst (λ k. Goes sets sets d k had had x.incoming y.incoming x.outgoing (flat_map frame (heard (always ps) (unserved d) m).sent) b c v u) (sym puts.desk) (goes_answered law sets d ps had x y b c v u m same passes))

-- the version stays
pub heard_version : LendsUnderItsVersion → (d e : Desk) (ps : List Pattern) (m : Letter) (waited waits : List ℕ) → Puts (heard (always ps) (unserved d) m) e waited waits → e.version ≡ d.version
heard_version law d e ps m waited waits puts = ap (λ (k : Desk). k.version) puts.desk ∙ (heard_alike law (always ps) (always ps) d m refl).1

-- ---- ends of the engine

-- memory was refused where a step led, whatever of its text went out
fails : (sets sets' : List NumberedSet) (d e : Desk) (had has : Option (List NumberedSet)) (from now : Received) (waited waits : List ℕ) (a b w v : Option (List ℕ)) → unread from ≡ []
    → Goes sets sets' d e had has from now waited waits a b w v → HearsFresh sets sets' d e had has waited a w v from.turns Memory
fails sets sets' d e had has from now waited waits a b w v none f = record {
  happenings = f.happenings;
  spelled = first_spelled from now a b (messages_of f.happenings) none f.taken;
  few = takes_few from now a b (messages_of f.happenings) none f.taken;
  given = f.given;
  may = f.may;
  sent = subst (AppendsPrefix w v) (sym f.text) (front_written w v f.written waits f.went);
  published = f.published;
  desk = IsWithin.between f.desk;
}

-- memory was refused to the telling of a set
pub hearing_unsent : (sets s1 s2 : List NumberedSet) (d d1 d2 : Desk) (h0 h1 h2 : Option (List NumberedSet)) (from now : Received) (waited q1 q2 : List ℕ) (a b w v : Option (List ℕ)) (told : Result (Unit {0}) AllocError) → unread from ≡ []
    → Goes sets s1 d d1 h0 h1 from now waited q1 a b w v → Freshens s1 s2 d1 d2 h1 h2 q1 q2 told → HearsFresh sets s2 d d2 h0 h2 waited a w v from.turns Memory
hearing_unsent sets s1 s2 d d1 d2 h0 h1 h2 from now waited q1 q2 a b w v told none f fresh =
    fails sets s2 d d2 h0 h2 from now waited _ a b w v none (goes_then f (goes_told s1 s2 d1 d2 h1 h2 now q1 q2 b v told fresh))

led : (e : End) (x y : Exchange) (b c v u : Option (List ℕ)) (d k : Desk) → StopsAs e x y b c v u → d ≡ k → (within : Type 0) → (d ≡ k → within) → IsLed e within k d
led Done x y b c v u d k stops same within here = absurd stops.1
led ReadFault x y b c v u d k stops same within here = same
led WriteFault x y b c v u d k stops same within here = same
led Frame x y b c v u d k stops same within here = same
led Closed x y b c v u d k stops same within here = same
led Memory x y b c v u d k stops same within here = here same
led AuditFull x y b c v u d k stops same within here = absurd stops.1

pub hearing_stops : FaultStays → (e : End) (sets sets' : List NumberedSet) (old d : Desk) (had has : Option (List NumberedSet)) (from : Received) (waited : List ℕ) (x y : Exchange) (a b c w v u : Option (List ℕ)) → unread from ≡ []
    → Goes sets sets' old d had has from x.incoming waited x.outgoing a b w v → StopsAs e x y b c v u → HearsFresh sets sets' old d had has waited a w u from.turns e
hearing_stops stays e sets sets' old d had has from waited x y a b c w v u none f stops = record {
  happenings = f.happenings;
  spelled = stopped_spelled stays e from x y a b c v u (messages_of f.happenings) none f.taken stops;
  few = takes_few from x.incoming a b (messages_of f.happenings) none f.taken;
  given = f.given;
  may = f.may;
  sent = subst (IsSent e w u) (sym f.text) (stopped_sent e x y b c w v u f.written f.went stops);
  published = f.published;
  desk = led e x y b c v u d _ stops f.desk _ IsWithin.between;
}

-- memory was refused to the message that came last: it is one of those that were handled where all that it lent came back
pub hearing_fails : LendsUnderItsVersion → (sets sets' : List NumberedSet) (old d e : Desk) (ps : List Pattern) (had has : Option (List NumberedSet)) (from : Received) (waited : List ℕ) (x y : Exchange) (a b c w v u : Option (List ℕ)) (m : Letter) → unread from ≡ []
    → ps ≡ patterns_at sets' d.version
    → Goes sets sets' old d had has from x.incoming waited x.outgoing a b w v → Passes x y b c v u (m ∷ []) → IsAmid (always ps) d m e → HearsFresh sets sets' old e had has waited a w u from.turns Memory
hearing_fails law sets sets' old d e ps had has from waited x y a b c w v u m none same f passes amid = go amid
  where
    before : Served
    before = all_gone_by sets (unserved old) f.happenings

    next : Takes from y.incoming a c (messages_of f.happenings ++ m ∷ [])
    next = takes_then from x.incoming y.incoming a b c (messages_of f.happenings) (m ∷ []) f.taken passes.taken

    went : Appends w u (waited ++ flat_map frame before.sent)
    went = subst (Appends w u) (sym f.text) (Appends-trans w v u f.written x.outgoing f.went passes.sent)

    at : IsWithin a (messages_of f.happenings) before.desk e → HearsFresh sets sets' old e had has waited a w u from.turns Memory
    at within = record {
      happenings = f.happenings;
      spelled = first_spelled from x.incoming a b (messages_of f.happenings) none f.taken;
      few = takes_few from x.incoming a b (messages_of f.happenings) none f.taken;
      given = f.given;
      may = f.may;
      sent = prefix_whole w u _ went;
      published = f.published;
      desk = within;
    }

    go : IsAmid (always ps) d m e → HearsFresh sets sets' old e had has waited a w u from.turns Memory
    go (inl here) = at (IsWithin.between (here ∙ f.desk))
    go (inr (inl step)) = at (IsWithin.amid m (first_spelled from y.incoming a c (messages_of f.happenings ++ m ∷ []) none next) (step ∙ ap (λ k. (service_step k (Receives m)).desk) f.desk))
    go (inr (inr full)) =
        subst (λ k. HearsFresh sets sets' old k had has waited a w u from.turns Memory) (sym full)
        (fails sets sets' old _ had has from y.incoming waited _ a c w u none
        (goes_then f (goes_answered law sets' d ps has x y b c v u m same passes)))

led_later : (e : End) (within more : Type 0) (d new : Desk) → (within → more) → IsLed e within d new → IsLed e more d new
led_later Done within more d new f h = h
led_later ReadFault within more d new f h = h
led_later WriteFault within more d new f h = h
led_later Frame within more d new f h = h
led_later Closed within more d new f h = h
led_later Memory within more d new f h = f h
led_later AuditFull within more d new f h = h

-- a service that connected, and to which then messages and sets came, ran
pub served : (sets sets' : List NumberedSet) (old mid new : Desk) (had has : Option (List NumberedSet)) (none waited : List ℕ) (a w u : Option (List ℕ)) (left turns : ℕ) (e : End)
    → left ≡ turns → none ≡ [] → Puts (gone_on (unserved old) (service_step old Connects)) mid none waited
    → HearsFresh sets sets' mid new had has waited a w u left e → RunsFresh sets sets' old new had has a w u turns e
served sets sets' old mid new had has none waited a w u left turns e reads empty puts hears =
    let r = service_step old Connects in
    let hs = hears.happenings in
    let rest = all_gone_by sets (unserved mid) hs in
    let is : fresh_run sets old hs ≡ record { desk = rest.desk; sent = r.messages ++ rest.sent } =
    all_behind sets r.desk r.messages hs ∙ ap (λ d. record { desk = (all_gone_by sets (unserved d) hs).desk; sent = r.messages ++ (all_gone_by sets (unserved d) hs).sent }) (sym puts.desk) in
    let text : waited ++ flat_map frame rest.sent ≡ fresh_text sets old hs =
    ap (λ l. l ++ flat_map frame rest.sent) (puts.sent ∙ ap (λ l. l ++ flat_map frame r.messages) empty)
    ∙ sym (flat_map-append frame r.messages rest.sent)
    ∙ ap (λ (s : Served). flat_map frame s.sent) (sym is) in
    record {
      happenings = hs;
      spelled = hears.spelled;
      few = subst (λ n. CameIn n (messages_of hs)) reads hears.few;
      given = hears.given;
      may = hears.may;
      sent = subst (IsSent e w u) text hears.sent;
      published = hears.published;
      desk = led_later e _ _ _ new inl (subst (λ d. IsLed e (IsWithin a (messages_of hs) d new) d new) (ap (λ (s : Served). s.desk) (sym is)) hears.desk);
    }

nothing_heard : (a : Option (List ℕ)) → IfSome a (SpellsFirst [])
nothing_heard None = tt
nothing_heard (Some xs) = record { more = xs; whole = refl; in_range = tt }

-- memory was refused before the service connected, or to its greeting
pub unserved_yet : (sets : List NumberedSet) (old new : Desk) (had : Option (List NumberedSet)) (a w : Option (List ℕ)) (turns : ℕ) → (new ≡ old) ⊎ (new ≡ (service_step old Connects).desk) → RunsFresh sets sets old new had had a w w turns Memory
unserved_yet sets old new had a w turns refused = record {
  happenings = [];
  spelled = nothing_heard a;
  few = omega arith;
  given = gives_none had;
  may = tt;
  sent = front_written w w [] _ (Appends-nil w);
  published = refl;
  desk = (elim refused as (λ r. IsUnserved a [] old (service_step old Connects).desk new) [ inl same ↦ inr (refl, same) | inr greeted ↦ inl (IsWithin.between greeted) ]);
}

-- ---- where no set comes

no_front : (xs ys : List NumberedSet) → [] ≡ xs ++ ys → xs ≡ []
no_front [] ys none = refl
no_front (x ∷ xs) ys none = cc

no_sets : (has : Option (List NumberedSet)) (xs : List NumberedSet) → Gives (Some []) has xs → xs ≡ []
no_sets None xs given = absurd given
no_sets (Some ys) xs given = no_front xs ys given

all_plain : (sets : List NumberedSet) (s : Served) (hs : List Happening) → sets_of hs ≡ [] → (all_gone_by sets s hs ≡ heard_all (patterns_at sets) s (messages_of hs)) × (all_published sets hs ≡ sets)
all_plain sets s [] none = (refl, refl)
all_plain sets s (Comes m ∷ hs) none = all_plain sets (heard (patterns_at sets) s m) hs none
all_plain sets s (Renews k ∷ hs) none = cc
all_plain sets s (Refuses k why ∷ hs) none = cc

left_plain : (e : End) (within within' : Type 0) (d d' new : Desk) → (within → within') → d ≡ d' → IsLeft e within d new → IsLeft e within' d' new
left_plain Done within within' d d' new f same h = h
left_plain Memory within within' d d' new f same h = f h
left_plain ReadFault within within' d d' new f same h = subst (λ k. IsLeft ReadFault within' k new) same h
left_plain WriteFault within within' d d' new f same h = subst (λ k. IsLeft WriteFault within' k new) same h
left_plain Frame within within' d d' new f same h = subst (λ k. IsLeft Frame within' k new) same h
left_plain Closed within within' d d' new f same h = subst (λ k. IsLeft Closed within' k new) same h
left_plain AuditFull within within' d d' new f same h = subst (λ k. IsLeft AuditFull within' k new) same h

refused_plain : (a : Option (List ℕ)) (hs : List Happening) (old d d' new : Desk) → d ≡ d' → IsUnserved a hs old d new → IsRefused a (messages_of hs) old d' new
refused_plain a hs old d d' new same (inl within) = inl (subst (λ k. IsWithin a (messages_of hs) k new) same within)
refused_plain a hs old d d' new same (inr unserved) = inr (ap messages_of unserved.0, unserved.1)

-- the engine to which no set comes is that of the messages alone, and the sets stay as they are
pub served_alone : (sets sets' : List NumberedSet) (old new : Desk) (has : Option (List NumberedSet)) (a w u : Option (List ℕ)) (turns : ℕ) (e : End)
    → ServesFresh sets sets' old new (Some []) has a w u turns e → ServesTo sets old new a w u turns e × (sets' ≡ sets)
served_alone sets sets' old new has a w u turns e h =
    let none = no_sets has (sets_of h.happenings) h.given in
    let plain = all_plain sets (gone_on (unserved old) (service_step old Connects)) h.happenings none in
    let desk = ap (λ (s : Served). s.desk) plain.0 in (
      record {
        messages = messages_of h.happenings;
        spelled = h.spelled;
        few = h.few;
        sent = subst (IsSent e w u) (ap (λ (s : Served). flat_map frame s.sent) plain.0) h.sent;
        desk = left_plain e _ _ _ _ new (refused_plain a h.happenings old _ _ new desk) desk h.desk;
      },
      h.published ∙ plain.1,
    )
