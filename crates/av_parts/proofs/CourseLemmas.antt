-- Courses of a judge, one behind another, and the frames of what is said meanwhile.
use Rattle.std.proofs.Common.{◌≡◌, ℕ, List, [], ◌∷◌, ◌++◌, Option, Some, None, Result, Ok, Err, IfErr, OnOk, refl, sym, ◌∙◌, ap, append_assoc}
use Rattle.std.proofs.lemmas.List.{append-nil}
use Rattle.std.proofs.lemmas.Grind.{flat_map-append}
use Rattle.av_match.specs.Scanning.{Compiled}
use Rattle.av_parts.specs.declared.word.Said.TheVariants.{Of}
use Rattle.av_parts.specs.declared.word.Word.{Word}
use Rattle.av_parts.specs.Course.{Course, Happening, Comes, Renews, by_turn, gone_by, judged, then_by}
use Rattle.av_parts.specs.Judge.{Judging, Turn, ended_by_newer, obeyed, renewed}
use Rattle.av_parts.specs.Orders.{Order}
use Rattle.av_parts.specs.Serving.{frames_of}
use Rattle.av_parts.specs.Spelling.{said_frame}
use Rattle.av_parts.specs.Steps.{Leads}

-- ---- one course behind another

then-append : (hs ks : List Happening) (c : Course) → ((j : Judging) (said : List Word) → judged (hs ++ ks) j said ≡ then_by (judged ks) (judged hs j said))
    → then_by (judged (hs ++ ks)) c ≡ then_by (judged ks) (then_by (judged hs) c)
then-append hs ks (Ok (j, said)) each = each j said
then-append hs ks (Err f) each = refl

judged-append : (hs ks : List Happening) (j : Judging) (said : List Word) → judged (hs ++ ks) j said ≡ then_by (judged ks) (judged hs j said)
unfolding judged
judged-append [] ks j said = refl
judged-append (h ∷ hs) ks j said = then-append hs ks (gone_by j said h) (judged-append hs ks)

-- the same course behind what was said before
abbrev behind : List Word → Course → Course
behind first (Ok (j, said)) = Ok (j, first ++ said)
behind first (Err f) = Err f

turn_behind : (first said : List Word) (t : Turn) → by_turn (first ++ said) t ≡ behind first (by_turn said t)
turn_behind first said (Ok (None, j)) = refl
turn_behind first said (Ok (Some w, j)) = ap (λ l. Ok (j, l)) (append_assoc first said (w ∷ []))
turn_behind first said (Err f) = refl

gone_behind : (j : Judging) (first said : List Word) (h : Happening) → gone_by j (first ++ said) h ≡ behind first (gone_by j said h)
gone_behind j first said (Comes o) = turn_behind first said (obeyed j o)
gone_behind j first said (Renews set) = ap (λ l. Ok (renewed j set, l)) (append_assoc first said (ended_by_newer j.held))

then_behind : (hs : List Happening) (first : List Word) (c : Course)
    → ((j : Judging) (said : List Word) → judged hs j (first ++ said) ≡ behind first (judged hs j said)) → then_by (judged hs) (behind first c) ≡ behind first (then_by (judged hs) c)
then_behind hs first (Ok (j, said)) each = each j said
then_behind hs first (Err f) each = refl

judged_behind : (hs : List Happening) (first : List Word) (j : Judging) (said : List Word) → judged hs j (first ++ said) ≡ behind first (judged hs j said)
unfolding judged
judged_behind [] first j said = refl
judged_behind (h ∷ hs) first j said =
    ap (then_by (judged hs)) (gone_behind j first said h) ∙ then_behind hs first (gone_by j said h) (judged_behind hs first)

pub judged_then : (hs ks : List Happening) (old mid new : Judging) (ws vs : List Word) → judged hs old [] ≡ Ok (mid, ws) → judged ks mid [] ≡ Ok (new, vs)
    → judged (hs ++ ks) old [] ≡ Ok (new, ws ++ vs)
judged_then hs ks old mid new ws vs first second =
    judged-append hs ks old []
    ∙ ap (then_by (judged ks)) first
    ∙ ap (judged ks mid) (sym (append-nil ws))
    ∙ judged_behind ks ws mid []
    ∙ ap (behind ws) second

pub frames_then : (ws vs : List Word) → frames_of (ws ++ vs) ≡ frames_of ws ++ frames_of vs
frames_then ws vs = flat_map-append (λ w. said_frame (Of w)) ws vs

-- ---- steps

pub judged_nothing : (j : Judging) → judged [] j [] ≡ Ok (j, [])
unfolding judged
judged_nothing j = refl

pub leads_nowhere : (j : Judging) (waited : List ℕ) → Leads [] j j waited waited
leads_nowhere j waited = record { words = []; said = judged_nothing j; waiting = sym (append-nil waited) }

pub leads_then : {hs ks : List Happening} {old mid new : Judging} {waited between waits : List ℕ} → Leads hs old mid waited between → Leads ks mid new between waits
    → Leads (hs ++ ks) old new waited waits
leads_then {hs = hs} {ks = ks} {old = old} {mid = mid} {new = new} {waited = waited} f g = record {
  words = f.words ++ g.words;
  said = judged_then hs ks old mid new f.words g.words f.said g.said;
  waiting =
      g.waiting
      ∙ ap (λ l. l ++ frames_of g.words) f.waiting
      ∙ append_assoc waited (frames_of f.words) (frames_of g.words)
      ∙ ap (λ l. waited ++ l) (sym (frames_then f.words g.words));
}

judged_once : (j : Judging) (o : Order) (t : Turn) → obeyed j o ≡ t → judged (Comes o ∷ []) j [] ≡ by_turn [] t
unfolding judged
judged_once j o (Ok (None, k)) is = ap (λ t. then_by (judged []) (by_turn [] t)) is
judged_once j o (Ok (Some w, k)) is = ap (λ t. then_by (judged []) (by_turn [] t)) is
judged_once j o (Err f) is = ap (λ t. then_by (judged []) (by_turn [] t)) is

pub leads_silently : (j k : Judging) (o : Order) (x : Option Word) (waited : List ℕ) → x ≡ None → obeyed j o ≡ Ok (x, k) → Leads (Comes o ∷ []) j k waited waited
leads_silently j k o x waited none is = record {
  words = [];
  said = judged_once j o (Ok (None, k)) (is ∙ ap (λ w. Ok (w, k)) none);
  waiting = sym (append-nil waited);
}

pub leads_saying : (j k : Judging) (o : Order) (x : Option Word) (w : Word) (waited waits : List ℕ) → x ≡ Some w → obeyed j o ≡ Ok (x, k)
    → waits ≡ waited ++ said_frame (Of w) → Leads (Comes o ∷ []) j k waited waits
leads_saying j k o x w waited waits some is put = record {
  words = w ∷ [];
  said = judged_once j o (Ok (Some w, k)) (is ∙ ap (λ w. Ok (w, k)) some);
  waiting = put ∙ ap (λ l. waited ++ l) (sym (append-nil (said_frame (Of w))));
}

pub judged_renewed : (j : Judging) (set : Compiled) → judged (Renews set ∷ []) j [] ≡ Ok (renewed j set, ended_by_newer j.held)
unfolding judged
judged_renewed j set = refl

pub leads_renewed : (j k : Judging) (set : Compiled) (waited waits : List ℕ) → k ≡ renewed j set → waits ≡ waited ++ frames_of (ended_by_newer j.held)
    → Leads (Renews set ∷ []) j k waited waits
leads_renewed j k set waited waits is put = record {
  words = ended_by_newer j.held;
  said = judged_renewed j set ∙ ap (λ x. Ok (x, ended_by_newer j.held)) (sym is);
  waiting = put;
}

-- what follows if a call succeeds
pub on_ok : {A E P Q : Type 0} (r : Result A E) → (P → Q) → OnOk r P → OnOk r Q
on_ok (Ok a) follows is = follows is
on_ok (Err e) follows is = is

pub both_ok : {A E P Q R : Type 0} (r : Result A E) → (P → Q → R) → OnOk r P → OnOk r Q → OnOk r R
both_ok (Ok a) follows first second = follows first second
both_ok (Err e) follows first second = first

-- what follows if a call fails
pub if_err : {A E : Type 0} {P Q : E → Type 0} (r : Result A E) → ((e : E) → P e → Q e) → IfErr r P → IfErr r Q
if_err (Ok a) follows is = is
if_err (Err e) follows is = follows e is
