-- The questions of a port, as far as a walk over all of them came.
use Rattle.std.proofs.Common.{◌≡◌, ℕ, zero, suc, ◌+◌, Bool, true, false, List, [], ◌∷◌, ◌++◌, take, slice_get, cond, Some, refl, sym, ap, ◌∙◌, arith}
use Rattle.std.specs.Option.{option_map}
use Rattle.std.proofs.lemmas.List.Elements.{filter-append}
use denote.Enum.Bare.{sameb}
use Rattle.av_base.specs.contracts.port.Port.{the_type}
use Rattle.av_base.specs.Port.{same_port}
use Rattle.av_base.specs.declared.port.Port.{Port}
use Rattle.av_base.specs.declared.port.Port.TheVariants.{One, Two}
use Rattle.av_filter_table.specs.Chains.{Questions}
use Rattle.av_filter_table.specs.FilterTable.{question_in, questions_of}
use Rattle.av_filter_table.specs.Table.{on_port}
use Rattle.av_filter_table.specs.declared.asked.Asked.{Asked}
use Rattle.av_filter_table.specs.declared.question.Question.{Question}
use Rattle.av_numbered.proofs.BoundedLemmas.{pair}
use Rattle.av_numbered.proofs.MapLemmas.{none_some, some_same}

-- the test of two ports by their derived `==`
pub port-test : (a b : Port) → sameb the_type a b ≡ same_port a b
port-test One One = refl
port-test One Two = refl
port-test Two One = refl
port-test Two Two = refl

-- one element more is taken
take-next : {A : Type 0} (xs : List A) (i : ℕ) (x : A) → slice_get xs i ≡ Some x → take (suc i) xs ≡ take i xs ++ x ∷ []
take-next [] i x is = none_some is
take-next (y ∷ xs) zero x is = ap (λ z. z ∷ []) (some_same y x is)
take-next (y ∷ xs) (suc i) x is = ap (λ l. y ∷ l) (take-next xs i x is)

on-next : (port : Port) (qs : List Question) (i : ℕ) (q : Question) (b : Bool) → slice_get qs i ≡ Some q → same_port q.port port ≡ b → on_port port (take (i + 1) qs) ≡ on_port port (take i qs) ++ cond b (q ∷ []) []
on-next port qs i q b is test =
    let next : i + 1 ≡ suc i = omega arith in
    ap (λ n. on_port port (take n qs)) next
    ∙ (ap (on_port port) (take-next qs i q is)
    ∙ (filter-append (λ x. same_port x.port port) (take i qs) (q ∷ []) ∙ ap (λ t. on_port port (take i qs) ++ cond t (q ∷ []) []) test))

pub on-it : (port : Port) (qs : List Question) (i : ℕ) (q : Question) → slice_get qs i ≡ Some q → same_port q.port port ≡ true → on_port port (take (i + 1) qs) ≡ on_port port (take i qs) ++ q ∷ []
on-it port qs i q is same = on-next port qs i q true is same

pub on-another : (port : Port) (qs : List Question) (i : ℕ) (q : Question) → slice_get qs i ≡ Some q → same_port q.port port ≡ false → on_port port (take (i + 1) qs) ≡ on_port port (take i qs)
on-another port qs i q is apart = on-next port qs i q false is apart ∙ no_more (on_port port (take i qs))
  where
    no_more : (xs : List Question) → xs ++ [] ≡ xs
    no_more [] = refl
    no_more (x ∷ xs) = ap (λ l. x ∷ l) (no_more xs)

-- a row as the question of the table
pub question-place : (boot : ℕ) (q : Questions) (i n : ℕ) (x : Asked) → Some (n, x) ≡ option_map (λ p. pair p.0 p.1.0) (slice_get q i) → slice_get (questions_of boot q) i ≡ Some (question_in boot n x)
question-place boot [] i n x is = none_some (sym is)
question-place boot (e ∷ q) zero n x is = ap (λ p. Some (question_in boot p.0 p.1)) (sym (some_same (pair n x) (pair e.0 e.1.0) is))
question-place boot (e ∷ q) (suc i) n x is = question-place boot q i n x is
