-- What a client says in parts is read as itself.
use Rattle.std.proofs.Common.{ℕ, ◌≡◌, ◌+◌, ◌-◌, ◌<◌, ◌≤◌, ◌^◌, ◌&&◌, List, [], ◌∷◌, ◌++◌, length, true, false, nat_eq, nat_le, nat_lt, Ok, Err, refl, sym, ◌∙◌, ap, arith, append_assoc, length-append}
use Rattle.std.specs.Prelude.{Option, Some, None, slice_index}
use Rattle.std.proofs.lemmas.Nat.{from_be_bytes-to_be_bytes_4, from_be_bytes-to_be_bytes_8}
use Rattle.std.proofs.lemmas.List.{append-nil}
use Rattle.std.proofs.lemmas.Bool.{le-ltb, lt-ltb}
use Rattle.std.proofs.lemmas.Bool.Decides.{nat_tests}
use Rattle.av_asks.specs.declared.client_reader.Content.{Content}
use Rattle.av_asks.specs.declared.contents.How.{How}
use Rattle.av_asks.specs.declared.contents.How.TheVariants.{Whole, GivenUp}
use Rattle.av_asks.specs.declared.large_head.LargeKind.{LargeKind}
use Rattle.av_asks.specs.declared.large_head.LargeKind.TheVariants as kind
use Rattle.av_asks.specs.declared.sizes.TheConstants.{ASK_HEAD, BEGIN_HEAD, MAX_ASK, MAX_BEGIN, MAX_COUNT, MAX_LABEL, MAX_PART, MAX_PART_BODY, PART_HEAD}
use Rattle.av_asks.specs.ContentLaws.{AsksAreReadBack, BeginsAreReadBack, EndsAreReadBack, IsCutAnywhere, PartsAreReadBack, WatchesAreReadBack, begun, within}
use Rattle.av_asks.specs.Contents.{Saying, Asks, Begins, Brings, Ends, Watches, begin_body, bytewise, end_body, how_number, part_body, watch_body}
use Rattle.av_asks.specs.Speaking.{Speaking, Turn, after, asks, begins, by_turn, fits_kind, fresh, front_of, gone_on, heard_of, kind_of, left_of, length_of, parts, said_by, step, wanted_of}
use Rattle.av_asks.specs.Spelling.{Asked, IsAsk, ask_body, field4, field8, number4, number8}
use Rattle.av_asks.proofs.AskLemmas.{body_again, length-ask_body}
use Rattle.av_asks.proofs.ContentLemmas.{Waits, bulk, front_few, front_long, front_tells, part_front, waits_on, wanted_few, wanted_four, wanted_long}
use Rattle.av_asks.proofs.ContentSpelling.{length-begin_body, length-part_body}

-- ---- however it is cut

after_after : (first second : List Saying) (heard : Speaking × List Saying) → after first (after second heard) ≡ after (first ++ second) heard
after_after first second heard = ap (λ es. (heard.0, es)) (sym (append_assoc first second heard.1))

pub cut_anywhere : IsCutAnywhere
cut_anywhere [] second s = refl
cut_anywhere (b ∷ first) second s =
    let turn = step b s in
    ap (after turn.1) (cut_anywhere first second turn.0) ∙ after_after turn.1 (heard_of first turn.0).1 (heard_of second (heard_of first turn.0).0)

-- ---- a frame's front, in three pieces

front_four : (bytes : List ℕ) (size : ℕ) → length bytes ≡ 4 → number4 bytes ≡ size → (nat_le ASK_HEAD size && nat_le size MAX_ASK) ≡ true → front_of bytes ≡ Ok None
unfolding front_of
front_four bytes size four is fits =
    let a : nat_lt (length bytes) 4 ≡ false = le-ltb _ _ (omega (arith, four)) in
    let b : nat_eq (length bytes) 4 ≡ true = grind (arith, nat_tests, four) in
    rw (a, is, fits, b) refl

front_whole : (bytes : List ℕ) (size byte : ℕ) (k : LargeKind) → 5 ≤ length bytes → number4 bytes ≡ size → (nat_le ASK_HEAD size && nat_le size MAX_ASK) ≡ true → slice_index bytes 4 ≡ byte → kind_of byte ≡ Some k → fits_kind k size ≡ true
    → length bytes ≡ length_of k size → front_of bytes ≡ Ok (Some (k, size))
unfolding front_of
front_whole bytes size byte k long is fits byte_is known shaped whole =
    let a : nat_lt (length bytes) 4 ≡ false = le-ltb _ _ (omega (arith, long)) in
    let b : nat_eq (length bytes) 4 ≡ false = grind (arith, nat_tests, long) in
    let c : nat_lt (length bytes) (length_of k size) ≡ false = le-ltb _ _ (omega (arith, whole)) in
    rw (a, is, fits, b, byte_is, known, shaped, c) refl

same_turn : (s : Speaking) (front : List ℕ) (t : Turn) → by_turn (record s { front = front }) t ≡ by_turn (record s { front = [] }) t
same_turn s front (Ok p) = refl
same_turn s front (Err f) = refl

-- a front of a frame comes whole
front_read : (size byte : ℕ) (rest more : List ℕ) (k : LargeKind) (s : Speaking) (t : Turn) → size < 2 ^ 32 → (nat_le ASK_HEAD size && nat_le size MAX_ASK) ≡ true → kind_of byte ≡ Some k → fits_kind k size ≡ true → 5 < length_of k size
    → 5 + length rest ≡ length_of k size → s.fault ≡ None → left_of s.content ≡ 0 → said_by k size (byte ∷ rest) s.content ≡ t
    → heard_of (field4 size ++ (byte ∷ (rest ++ more))) (record s { front = [] }) ≡ after (by_turn (record s { front = [] }) t).1 (heard_of more (by_turn (record s { front = [] }) t).0)
unfolding field4
front_read size byte rest more k s t small fits known shaped long len well none said =
    let r : Speaking = record s { front = [] } in
    let four = field4 size in
    let five = field4 size ++ byte ∷ [] in
    let all = five ++ rest in
    let number : number4 four ≡ size = from_be_bytes-to_be_bytes_4 size small in
    let number5 : number4 five ≡ size = from_be_bytes-to_be_bytes_4 size small in
    let number_all : number4 all ≡ size = from_be_bytes-to_be_bytes_4 size small in
    let waits4 : front_of four ≡ Ok None = front_four four size refl number fits in
    let few5 : length five < length_of k (number4 five) = omega (arith, long, ap (length_of k) number5) in
    let facts5 : Waits five k = record { known = known; shaped = ap (fits_kind k) number5 ∙ shaped; few = few5 } in
    let waits5 : front_of five ≡ Ok None = front_long five k (omega arith) (ap (λ n. nat_le ASK_HEAD n && nat_le n MAX_ASK) number5 ∙ fits) facts5 in
    let want5 : wanted_of five ≡ length_of k size = wanted_long five k (omega arith) known ∙ ap (length_of k) number5 in
    let whole : front_of all ≡ Ok (Some (k, size)) = front_whole all size byte k (omega arith) number_all fits refl known shaped (omega (arith, len)) in
    let none_yet : front_of [] ≡ Ok None = front_few [] (omega arith) in
    let at4 : Speaking = record s { front = four } in
    let at5 : Speaking = record s { front = five } in
    bulk four (byte ∷ (rest ++ more)) r well none none_yet (omega arith) (omega (arith, wanted_few [] (omega arith)))
    ∙ ap (λ u. after u.1 (heard_of (byte ∷ (rest ++ more)) u.0)) (waits_on four r waits4)
    ∙ ap (after []) (
    bulk (byte ∷ []) (rest ++ more) at4 well none waits4 (omega arith) (omega (arith, wanted_four four refl))
    ∙ ap (λ u. after u.1 (heard_of (rest ++ more) u.0)) (waits_on five at4 waits5)
    ∙ ap (after []) (
    bulk rest more at5 well none waits5 (omega (arith, len, long)) (omega (arith, want5, len))
    ∙ ap (λ u. after u.1 (heard_of more u.0)) (front_tells all at5 k size t (sym whole) said ∙ same_turn s five t)))

-- ---- each of what a client says

begin_said : (tag : ℕ) (label : List ℕ) → tag < 2 ^ 64 → begins (begin_body tag label) None ≡ Ok (Begins tag label, Some (begun tag))
unfolding field8
begin_said tag label fits =
    let body = begin_body tag label in
    let number : number8 body 1 ≡ tag = from_be_bytes-to_be_bytes_8 tag fits in
    let fills : nat_eq (length body) (BEGIN_HEAD + length label) ≡ true = grind (arith, nat_tests) in
    rw (fills, number) refl

part_said : (tag count size : ℕ) → tag < 2 ^ 64 → count + size ≤ MAX_COUNT
    → parts (number8 (6 ∷ field8 tag) 1) size (Some (record { tag = tag; count = count; left = 0 })) ≡ Ok (Brings tag [], Some (record { tag = tag; count = count; left = size }))
unfolding field8
part_said tag count size fits counted =
    let number : number8 (6 ∷ field8 tag) 1 ≡ tag = from_be_bytes-to_be_bytes_8 tag fits in
    let same : nat_eq tag tag ≡ true = grind (arith, nat_tests) in
    let room : nat_lt MAX_COUNT (count + size) ≡ false = le-ltb _ _ counted in
    rw (number, same, room) refl

end_said : (tag count : ℕ) (how : How) → tag < 2 ^ 64 → count < 2 ^ 64
    → said_by kind.End 18 (end_body tag how count) (Some (record { tag = tag; count = count; left = 0 })) ≡ Ok (Ends tag how, None)
unfolding field8
end_said tag count Whole fits counted =
    let body = end_body tag Whole count in
    let number : number8 body 1 ≡ tag = from_be_bytes-to_be_bytes_8 tag fits in
    let total : number8 body 10 ≡ count = from_be_bytes-to_be_bytes_8 count counted in
    let same : nat_eq tag tag ≡ true = grind (arith, nat_tests) in
    let equal : nat_eq count count ≡ true = grind (arith, nat_tests) in
    rw (number, total, same, equal) refl
end_said tag count GivenUp fits counted =
    let body = end_body tag GivenUp count in
    let number : number8 body 1 ≡ tag = from_be_bytes-to_be_bytes_8 tag fits in
    let total : number8 body 10 ≡ count = from_be_bytes-to_be_bytes_8 count counted in
    let same : nat_eq tag tag ≡ true = grind (arith, nat_tests) in
    let equal : nat_eq count count ≡ true = grind (arith, nat_tests) in
    rw (number, total, same, equal) refl

pub ends_read : EndsAreReadBack
unfolding field4 field8
ends_read tag count how fits counted =
    front_read 18 7 (field8 tag ++ how_number how ∷ field8 count) [] kind.End (within (Some (record { tag = tag; count = count; left = 0 }))) _ (omega arith) refl refl refl (omega arith) refl refl refl (end_said tag count how fits counted)

watch_said : (tag version : ℕ) (content : Option Content) → tag < 2 ^ 64 → version < 2 ^ 64
    → said_by kind.Watch 17 (watch_body tag version) content ≡ Ok (Watches tag version, content)
unfolding field8
watch_said tag version content fits low =
    let body = watch_body tag version in
    let number : number8 body 1 ≡ tag = from_be_bytes-to_be_bytes_8 tag fits in
    let named : number8 body 9 ≡ version = from_be_bytes-to_be_bytes_8 version low in
    rw (number, named) refl

pub watches_read : WatchesAreReadBack
unfolding field4 field8
watches_read tag version content fits low none =
    front_read 17 8 (field8 tag ++ field8 version) [] kind.Watch (within content) _ (omega arith) refl refl refl (omega arith) refl refl none (watch_said tag version content fits low)

begin_frame_read : (tag : ℕ) (label : List ℕ) → tag < 2 ^ 64 → length label ≤ MAX_LABEL → heard_of (field4 (10 + length label) ++ begin_body tag label) fresh ≡ (within (Some (begun tag)), Begins tag label ∷ [])
unfolding field4 field8
begin_frame_read tag label fits short =
    let size = 10 + length label in
    let low : nat_le ASK_HEAD size ≡ true = grind (arith, nat_tests) in
    let high : nat_le size MAX_ASK ≡ true = grind (arith, nat_tests, short) in
    let most : nat_le size MAX_BEGIN ≡ true = grind (arith, nat_tests, short) in
    let rest = field8 tag ++ length label ∷ label in
    ap (λ bs. heard_of (field4 size ++ (5 ∷ bs)) fresh) (sym (append-nil rest))
    ∙ front_read size 5 rest [] kind.Begin fresh _ (omega (arith, short)) (ap (λ b. b && nat_le size MAX_ASK) low ∙ high) refl (ap (λ b. b && nat_le size MAX_BEGIN) low ∙ most) (omega arith) (omega arith) refl refl (begin_said tag label fits)

pub begins_read : BeginsAreReadBack
begins_read tag label fits short =
    ap (λ k. heard_of (field4 k ++ begin_body tag label) fresh) (length-begin_body tag label) ∙ begin_frame_read tag label fits short

part_frame_read : (tag count : ℕ) (some : List ℕ) → tag < 2 ^ 64 → 1 ≤ length some → length some ≤ MAX_PART → count + length some ≤ MAX_COUNT
    → heard_of (field4 (9 + length some) ++ part_body tag some) (within (Some (record { tag = tag; count = count; left = 0 })))
    ≡ (within (Some (record { tag = tag; count = count + length some; left = 0 })), Brings tag [] ∷ bytewise (Brings tag some))
unfolding field4 field8
part_frame_read tag count some fits one few counted =
    let n = length some in
    let size = 9 + n in
    let s : Speaking = within (Some (record { tag = tag; count = count; left = 0 })) in
    let c : Content = record { tag = tag; count = count; left = n } in
    let r : Speaking = within (Some c) in
    let low : nat_le ASK_HEAD size ≡ true = grind (arith, nat_tests, one) in
    let high : nat_le size MAX_ASK ≡ true = grind (arith, nat_tests, few) in
    let above : nat_lt PART_HEAD size ≡ true = lt-ltb _ _ (omega (arith, one)) in
    let most : nat_le size MAX_PART_BODY ≡ true = grind (arith, nat_tests, few) in
    let left : size - PART_HEAD ≡ n = omega arith in
    let said = ap (λ m. parts (number8 (6 ∷ field8 tag) 1) m s.content) left ∙ part_said tag count n fits counted in
    let done : within (Some (gone_on n c)) ≡ within (Some (record { tag = tag; count = count + n; left = 0 })) = ap (λ k. within (Some (record { tag = tag; count = count + n; left = k }))) (let e : n - n ≡ 0 = omega arith in e) in
    front_read size 6 (field8 tag) some kind.Part s _ (omega (arith, few)) (ap (λ b. b && nat_le size MAX_ASK) low ∙ high) refl (ap (λ b. b && nat_le size MAX_PART_BODY) above ∙ most) (omega arith) refl refl refl said
    ∙ ap (after (Brings tag [] ∷ [])) (
    ap (λ bs. heard_of bs r) (sym (append-nil some))
    ∙ sym (part_front some [] c r refl refl one (omega arith))
    ∙ ap (λ u. (u, bytewise (Brings tag some) ++ [])) done
    ∙ ap (λ os. (within (Some (record { tag = tag; count = count + n; left = 0 })), os)) (append-nil (bytewise (Brings tag some))))

pub parts_read : PartsAreReadBack
parts_read tag count some fits one few counted =
    ap (λ k. heard_of (field4 k ++ part_body tag some) (within (Some (record { tag = tag; count = count; left = 0 })))) (length-part_body tag some)
    ∙ part_frame_read tag count some fits one few counted

ask_frame_read : (a : Asked) (content : Option Content) (size : ℕ) → IsAsk a → left_of content ≡ 0 → length (ask_body a) ≡ size → heard_of (field4 size ++ ask_body a) (within content) ≡ (within content, Asks a ∷ [])
unfolding field4 field8
ask_frame_read a content size fits none len =
    let counts = len in
    let whole : size ≡ 10 + length a.label + length a.content = sym len ∙ length-ask_body a in
    let low : nat_le ASK_HEAD size ≡ true = grind (arith, nat_tests, whole) in
    let high : nat_le size MAX_ASK ≡ true = grind (arith, nat_tests, whole, fits.1, fits.2) in
    let both : (nat_le ASK_HEAD size && nat_le size MAX_ASK) ≡ true = ap (λ b. b && nat_le size MAX_ASK) low ∙ high in
    let rest = field8 a.tag ++ length a.label ∷ (a.label ++ a.content) in
    ap (λ bs. heard_of (field4 size ++ (1 ∷ bs)) (within content)) (sym (append-nil rest))
    ∙ front_read size 1 rest [] kind.Ask (within content) _ (omega (arith, whole, fits.1, fits.2)) both refl both (omega (arith, whole)) (omega (arith, whole, length-append a.label a.content)) refl none (ap (asks content) (body_again a fits))

pub asks_read : AsksAreReadBack
asks_read a content fits none = ask_frame_read a content (length (ask_body a)) fits none refl
