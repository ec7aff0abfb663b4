-- Each signature that occurs in a content, set after set.
use Rattle.std.proofs.Common.{ℕ, zero, suc, ◌≡◌, ◌∙◌, ◌+◌, ◌++◌, List, [], ◌∷◌, Some, ap, append-nil, append_assoc, arith, drop, drop-drop, length, refl, slice_get, subst, sym}
use Rattle.av_base.specs.declared.verdict.Verdict.TheVariants.{Clean}
use Rattle.av_files.specs.Findings.{AreFoundIn, NamedSet, findings_from, findings_of}
use Rattle.av_files.specs.declared.finding.Finding.{Finding}
use Rattle.av_findings.proofs.HitsLemmas.{clean_alone}
use Rattle.av_findings.specs.Findings.{all_verdicts}
use Rattle.av_match.specs.Match.{verdict}
use Rattle.av_scan.specs.Matches.{at_place, matches_from}
use Rattle.av_sigset.specs.Set.{patterns_of}
use Rattle.av_sigset.specs.declared.signature.Pattern.{Pattern}

-- the matches under some sets were found, and the verdicts that are left are those of the other sets
pub record IsPartway (sets : List NamedSet) (content : List ℕ) (rest found : List Finding) : Type 0 where
  pub place : ℕ
  pub left : List NamedSet
  pub sets_left : left ≡ drop place sets
  pub firsts_left : rest ≡ findings_from place left content
  pub so_far : found ++ matches_from place left content ≡ matches_from 0 sets content

-- what is found in a content that is known
pub of_known : (content : List ℕ) (sets : List NamedSet) (most : ℕ) (fs : List Finding) → AreFoundIn (Some content) sets most fs → fs ≡ findings_of sets content
of_known content sets most fs are = are.found ∙ ap (findings_of sets) are.whole

-- nothing was found yet
pub begun : (sets : List NamedSet) (content : List ℕ) (rest found : List Finding) → found ≡ [] → rest ≡ findings_of sets content → IsPartway sets content rest found
begun sets content rest found none firsts = record { place = 0; left = sets; sets_left = refl; firsts_left = firsts; so_far = ap (λ fs. fs ++ matches_from 0 sets content) none }

-- the first of the sets behind so many
first_of_rest : (n : ℕ) (sets : List NamedSet) (s : NamedSet) (left : List NamedSet) → s ∷ left ≡ drop n sets → slice_get sets n ≡ Some s
first_of_rest zero sets s left is = sym (ap (λ xs. slice_get xs 0) is)
first_of_rest (suc n) [] s left is = absurd (cc is)
first_of_rest (suc n) (x ∷ sets) s left is = first_of_rest n sets s left is

-- the matches under one set more
pub one_more : (sets : List NamedSet) (content : List ℕ) (rest after found new : List Finding) (f : Finding) → rest ≡ f ∷ after → IsPartway sets content rest found
    → ((s : NamedSet) → slice_get sets f.set ≡ Some s → f.verdict ≡ verdict (patterns_of s.set.signatures) content → new ≡ found ++ at_place f.set (all_verdicts (patterns_of s.set.signatures) content))
    → IsPartway sets content after new
one_more sets content rest after found new f is way adds = next way.left way.sets_left (sym is ∙ way.firsts_left) way.so_far
  where
    next : (left : List NamedSet) → left ≡ drop way.place sets → f ∷ after ≡ findings_from way.place left content → found ++ matches_from way.place left content ≡ matches_from 0 sets content
        → IsPartway sets content after new
    next [] here firsts so = absurd (cc firsts)
    next (s ∷ left) here firsts so =
        let ps = patterns_of s.set.signatures in
        let place_is : f.set ≡ way.place = cc firsts in
        let verdict_is : f.verdict ≡ verdict ps content = cc firsts in
        let others : after ≡ findings_from (way.place + 1) left content = cc firsts in
        let at : slice_get sets f.set ≡ Some s = subst (λ n. slice_get sets n ≡ Some s) (sym place_is) (first_of_rest way.place sets s left here) in
        let added : new ≡ found ++ at_place way.place (all_verdicts ps content) = adds s at verdict_is ∙ ap (λ n. found ++ at_place n (all_verdicts ps content)) place_is in
        let more = matches_from (way.place + 1) left content in
        record {
          place = way.place + 1;
          left = left;
          sets_left = ap (drop 1) here ∙ drop-drop 1 way.place sets ∙ ap (λ n. drop n sets) (omega arith);
          firsts_left = others;
          so_far = ap (λ n. n ++ more) added ∙ append_assoc found (at_place way.place (all_verdicts ps content)) more ∙ so;
        }

-- no verdict is left
pub all_found : (sets : List NamedSet) (content : List ℕ) (rest found : List Finding) → length rest ≡ 0 → IsPartway sets content rest found → found ≡ matches_from 0 sets content
all_found sets content [] found none way = last way.left way.firsts_left way.so_far
  where
    last : (left : List NamedSet) → [] ≡ findings_from way.place left content → found ++ matches_from way.place left content ≡ matches_from 0 sets content → found ≡ matches_from 0 sets content
    last [] firsts so = sym (append-nil found) ∙ so
    last (s ∷ left) firsts so = absurd (cc firsts)
all_found sets content (f ∷ rest) found none way = absurd (omega (arith, none))

-- under a set whose verdict is clean there is this finding alone
pub clean_added : (f : Finding) (ps : List Pattern) (content : List ℕ) → f.verdict ≡ Clean → f.verdict ≡ verdict ps content → f ∷ [] ≡ at_place f.set (all_verdicts ps content)
clean_added f ps content clean is =
    let one : all_verdicts ps content ≡ Clean ∷ [] = (clean_alone ps content).1 (sym is ∙ clean) in
    ap (λ v. record { set = f.set; verdict = v } ∷ []) clean ∙ sym (ap (at_place f.set) one)
