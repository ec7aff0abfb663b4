use Rattle.std.proofs.Common.{zero, suc, take, drop, get_or, ◌++◌, length-append, drop-cons, ℕ, ◌≡◌, ◌≤◌, ◌<◌, ◌+◌, ◌/◌, ◌&&◌, Bool, true, false, List, [], ◌∷◌, length, None, Result, Ok, refl, sym, ap, subst, arith, ◌∙◌}
use Rattle.std.proofs.lemmas.List.Sums.{sum_by-cons}
use Rattle.av_base.specs.Line.{lines_of}
use Rattle.av_import.specs.declared.kind.Form.{Form}
use Rattle.av_base.specs.Refused.{map_ok, unless}
use Rattle.av_sigset.specs.Set.{byte_count, patterns_of}
use Rattle.av_sigset.specs.Spelling.{is_widest}
use Rattle.av_sigset.specs.declared.signature.Pattern.{Pattern}
use Rattle.av_sigset.specs.declared.signature.Signature.{Signature}
use Rattle.av_sigset.specs.declared.signature.Span.{Span}
use Rattle.av_sigset.specs.File.{MayStand}
use Rattle.av_import.proofs.NameLemmas.{bytes_named, stand_named}
use Rattle.std.proofs.Math.ListN.{drop_of_length-le}
use Rattle.av_import.specs.Name.{free_name}
use Rattle.av_import.specs.Clamav.{AreWordsOf}
use Rattle.av_import.specs.Import.{AreAdmitted, HasRoom, Taken, admitted, are_widest, limit_of, AreFit, after, after_rules, after_line, after_lines, offered, with_all, with_named}
use Rattle.av_import.specs.declared.import.Rules.{Rules}
use Rattle.av_import.specs.declared.why.Why.{Why}

and_true : (b : Bool) → (b && true) ≡ b
and_true true = refl
and_true false = refl

one_sum : (p : Pattern) → byte_count (p ∷ []) ≡ length p.bytes
one_sum p = omega (arith, sum_by-cons (λ (q : Pattern). length q.bytes) p [])

-- a line's words may be taken where no limit is passed
pub admit : (rules : Rules) (before : List Signature) (name digits : List ℕ) (span : Span) (r : Result Signature Why) (widest : Bool) (half : ℕ) → AreWordsOf name digits span r
    → half ≡ length digits / 2 → is_widest span ≡ widest → limit_of rules before widest 1 half ≡ None → HasRoom before 1 half → AreAdmitted before name digits span (admitted rules before (map_ok (λ s. s ∷ []) r))
admit rules before name digits span r widest half w halved wide none room =
    let long : half ≡ length w.spells.bytes = (let twice = w.spells.twice in omega (arith, twice, halved)) in
    let s : Signature = record { name = name; pattern = record { bytes = w.spells.bytes; span = span } } in
    let free : limit_of rules before (are_widest (s ∷ [])) 1 (byte_count (patterns_of (s ∷ []))) ≡ None =
    ap (λ b. limit_of rules before b 1 (byte_count (patterns_of (s ∷ [])))) (and_true (is_widest span) ∙ wide)
    ∙ ap (limit_of rules before widest 1) (one_sum s.pattern ∙ sym long) ∙ none in
    record {
      spells = w.spells;
      bound = w.bound;
      room = subst (HasRoom before 1) long room;
      made = ap (λ x. admitted rules before (map_ok (λ t. t ∷ []) x)) w.made ∙ ap (λ o. unless o (s ∷ [])) free;
    }

-- what is taken may stand in a file
pub taken_stand : (before new : List Signature) (name digits : List ℕ) (span : Span) (given : Result (List Signature) Why) (bytes : ℕ) (a : AreAdmitted before name digits span given)
    → new ≡ with_named before (record { name = name; pattern = record { bytes = a.spells.bytes; span = span } }) → MayStand before → bytes ≡ byte_count (patterns_of before)
    → MayStand new × (bytes + length digits / 2 ≡ byte_count (patterns_of new))
taken_stand before new name digits span given bytes a is may count =
    let s : Signature = record { name = name; pattern = record { bytes = a.spells.bytes; span = span } } in
    let twice = a.spells.twice in
    let all = ap (λ xs. byte_count (patterns_of xs)) is ∙ bytes_named before s in
    (subst MayStand (sym is) (stand_named before s may (a.spells.low, a.spells.high) a.bound a.room), omega (arith, twice, all, count))

-- a line was taken
pub offered_one : (t : Taken) (new : List Signature) (given : Result (List Signature) Why) (s : Signature) → admitted t.rules t.signatures given ≡ Ok (s ∷ []) → new ≡ with_named t.signatures s
    → record { rules = t.rules; signatures = new; left = t.left } ≡ offered t given
unfolding with_all
offered_one t new given s made is = rw (made, is) refl

-- ---- lines

pub next_line : (form : Form) (t next : Taken) (rest first below : List ℕ) → lines_of rest ≡ first ∷ lines_of below → next ≡ after_line form t first → after_lines form next (lines_of below) ≡ after_lines form t (lines_of rest)
unfolding after_lines
next_line form t next rest first below lines is = rw (lines, is) refl

pub no_line : (form : Form) (t : Taken) (rest : List ℕ) → length rest ≡ 0 → after_lines form t (lines_of rest) ≡ t
unfolding after_lines
no_line form t [] none = refl
no_line form t (b ∷ rest) none = absurd (omega (arith, none))

pub no_rule : (t : Taken) → t ≡ after_rules t []
unfolding after_rules
no_rule t = refl

-- one rule more
pub rule_more : (t now next : Taken) (rs : List (Result (List Signature) Why)) (r : Result (List Signature) Why) → now ≡ after_rules t rs → next ≡ after now r → next ≡ after_rules t (rs ++ r ∷ [])
unfolding after_rules
rule_more t now next [] r is more = more ∙ ap (λ u. after u r) is
rule_more t now next (q ∷ rs) r is more = rule_more (after t q) now next rs r is more

-- ---- a rule's signatures

pub stand_all : (given before : List Signature) → MayStand before → AreFit given → length before + length given ≤ 1024 → byte_count (patterns_of before) + byte_count (patterns_of given) ≤ 16384
    → MayStand (with_all before given) × (byte_count (patterns_of before) + byte_count (patterns_of given) ≡ byte_count (patterns_of (with_all before given)))
unfolding with_all
stand_all [] before may fit few short = (may, omega arith)
stand_all (s ∷ given) before may fit few short =
    let more = sum_by-cons (λ (q : Pattern). length q.bytes) s.pattern (patterns_of given) in
    let bytes = bytes_named before s in
    let long : length (with_named before s) ≡ length before + 1 = length-append before (record { name = free_name before s.name; pattern = s.pattern } ∷ []) in
    let room : HasRoom before 1 (length s.pattern.bytes) = record { few = omega (arith, few); short = omega (arith, short, more) } in
    let rest = stand_all given (with_named before s) (stand_named before s may fit.0.0 fit.0.1 room) fit.1 (omega (arith, few, long)) (omega (arith, short, more, bytes)) in
    (rest.0, omega (arith, rest.1, more, bytes))

pub all_next : (given before : List Signature) (i : ℕ) (d : Signature) → i < length given → with_all before (drop i given) ≡ with_all (with_named before (get_or given i d)) (drop (suc i) given)
unfolding with_all
all_next given before i d lt = ap (with_all before) (drop-cons given i d lt)

pub all_done : (given before : List Signature) (i : ℕ) → length given ≤ i → with_all before (drop i given) ≡ before
unfolding with_all
all_done given before i le = ap (with_all before) (drop_of_length-le given le)

pub next_bytes : (given : List Signature) (i : ℕ) (d : Signature) → i < length given
    → byte_count (patterns_of (take (suc i) given)) ≡ byte_count (patterns_of (take i given)) + (λ (s : Signature). length s.pattern.bytes) (get_or given i d)
next_bytes [] i d lt = absurd (omega arith)
next_bytes (s ∷ given) zero d lt = omega (arith, one_sum s.pattern)
next_bytes (s ∷ given) (suc i) d lt =
    let lower : i < length given = omega arith in
    let more = sum_by-cons (λ (q : Pattern). length q.bytes) s.pattern (patterns_of (take (suc i) given)) in
    let less = sum_by-cons (λ (q : Pattern). length q.bytes) s.pattern (patterns_of (take i given)) in
    omega (arith, more, less, next_bytes given i d lower)

pub take_front : {A : Type 0} (xs ys : List A) → take (length xs) (xs ++ ys) ≡ xs
take_front [] ys = refl
take_front (x ∷ xs) ys = ap (λ zs. x ∷ zs) (take_front xs ys)

pub one_rule : (t next : Taken) (r : Result (List Signature) Why) → next ≡ after t r → next ≡ after_rules t (r ∷ [])
unfolding after_rules
one_rule t next r is = is
