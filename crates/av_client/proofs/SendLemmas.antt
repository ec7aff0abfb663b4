-- What was sent of a content in parts.
use Rattle.std.proofs.Common.{ℕ, ◌≡◌, ◌≤◌, ◌+◌, ◌∙◌, List, [], ◌∷◌, ◌++◌, Option, length, refl, ap, sym, subst, append_assoc, append-nil, arith}
use Rattle.std.proofs.KnownBytes.{Appends-nil, Appends-trans, Consumes-kept, Consumes-nil, Consumes-trans}
use Rattle.std.specs.Io.KnownBytes.{Appends, Consumes, IsAtEnd, Keeps}
use Rattle.std.specs.List.{AllByRecursion, concat, flat_map}
use Rattle.std.proofs.lemmas.List.{length-append}
use Rattle.av_asks.specs.Contents.{end_frame}
use Rattle.av_asks.specs.declared.contents.How.{How}
use Rattle.av_asks.specs.declared.contents.How.TheVariants.{Whole}
use Rattle.av_client.specs.Sending.{IsBrought, IsPart, IsSent, begin_frame, part_frame}

concat_more : (parts : List (List ℕ)) (p : List ℕ) → concat (parts ++ p ∷ []) ≡ concat parts ++ p
concat_more [] p = append-nil p
concat_more (q ∷ parts) p = ap (λ l. q ++ l) (concat_more parts p) ∙ sym (append_assoc q (concat parts) p)

frames_more : (tag : ℕ) (parts : List (List ℕ)) (p : List ℕ) → flat_map (part_frame tag) (parts ++ p ∷ []) ≡ flat_map (part_frame tag) parts ++ part_frame tag p
frames_more tag [] p = append-nil (part_frame tag p)
frames_more tag (q ∷ parts) p = ap (λ l. part_frame tag q ++ l) (frames_more tag parts p) ∙ sym (append_assoc (part_frame tag q) (flat_map (part_frame tag) parts) (part_frame tag p))

all_more : (parts : List (List ℕ)) (p : List ℕ) → IsPart p → AllByRecursion IsPart parts → AllByRecursion IsPart (parts ++ p ∷ [])
all_more [] p is all = (is, tt)
all_more (q ∷ parts) p is all = (all.0, all_more parts p is all.1)

-- nothing was read
pub none_brought : (tag : ℕ) (unread old : Option (List ℕ)) → IsBrought tag 0 unread unread old old
none_brought tag unread old = record { parts = []; fit = tt; read = Consumes-nil unread; written = Appends-nil old; counted = refl }

-- one part more
pub more_brought : (tag count more : ℕ) (a b c x y z : Option (List ℕ)) (p : List ℕ) → IsBrought tag count a b x y → Consumes b c p → Appends y z (part_frame tag p)
    → 1 ≤ length p → length p ≤ 131_072 → more ≡ count + length p → IsBrought tag more a c x z
more_brought tag count more a b c x y z p before read written some few counted = record {
  parts = before.parts ++ p ∷ [];
  fit = all_more before.parts p (some, omega (arith, few)) before.fit;
  read = subst (Consumes a c) (sym (concat_more before.parts p)) (Consumes-trans a b c (concat before.parts) p before.read read);
  written = subst (Appends x z) (sym (frames_more tag before.parts p)) (Appends-trans x y z (flat_map (part_frame tag) before.parts) (part_frame tag p) before.written written);
  counted = counted ∙ ap (λ n. n + length p) before.counted ∙ sym (ap (λ l. length l) (concat_more before.parts p) ∙ length-append (concat before.parts) p);
}

-- a read that gave nothing
pub kept_brought : (tag count : ℕ) (a b c x y : Option (List ℕ)) → IsBrought tag count a b x y → Keeps b c → IsBrought tag count a c x y
kept_brought tag count a b c x y before same = record {
  parts = before.parts;
  fit = before.fit;
  read = Consumes-kept a b c (concat before.parts) before.read same;
  written = before.written;
  counted = before.counted;
}

pub end_brought : (tag count : ℕ) (a b c x y : Option (List ℕ)) → IsBrought tag count a b x y → Consumes b c [] → IsBrought tag count a c x y
end_brought tag count a b c x y before none = record {
  parts = before.parts;
  fit = before.fit;
  read = subst (Consumes a c) (append-nil (concat before.parts)) (Consumes-trans a b c (concat before.parts) [] before.read none);
  written = before.written;
  counted = before.counted;
}

-- the beginning, the parts, and the end
pub all_sent : (tag : ℕ) (label : List ℕ) (how : How) (count : ℕ) (a b w x y z : Option (List ℕ)) → Appends w x (begin_frame tag label) → IsBrought tag count a b x y
    → Appends y z (end_frame tag how count) → (how ≡ Whole → IsAtEnd b) → IsSent tag label how a b w z
all_sent tag label how count a b w x y z begun brought ended all = record {
  parts = brought.parts;
  fit = brought.fit;
  read = brought.read;
  written = subst (λ n. Appends w z (begin_frame tag label ++ flat_map (part_frame tag) brought.parts ++ end_frame tag how n)) brought.counted
      (Appends-trans w y z (begin_frame tag label ++ flat_map (part_frame tag) brought.parts) (end_frame tag how count)
      (Appends-trans w x y (begin_frame tag label) (flat_map (part_frame tag) brought.parts) begun brought.written) ended);
  all = all;
}
