-- Where what came out is what the runs of the given works give, each as often, each of it is what the run of one of them gives.
use Rattle.std.proofs.Common.{◌≡◌, ◌==◌, ℕ, ◌+◌, ◌≤◌, Bool, true, false, if◌then◌else◌, cond, List, [], ◌∷◌, ◌++◌, Option, None, Some, slice_index, drop, map, inl, inr, refl, sym, ap, subst, length, ◌∙◌, arith}
use Rattle.std.specs.List.{AllByRecursion as Each}
use Rattle.std.specs.Str.{bytes_eq}
use Rattle.std.proofs.lemmas.Slice.Eq.{bytes_eq-Decides}
use Rattle.av_base.proofs.AmongLemmas.{among_each, each_self}
use Rattle.av_base.specs.Among.{Among}
use Rattle.av_base.specs.declared.verdict.Verdict.{Verdict}
use Rattle.av_base.specs.declared.verdict.Verdict.TheVariants.{Clean, Infected}
use Rattle.av_desk.specs.Lent.{FitsItsWork, LentState}
use Rattle.av_match.specs.Scanning.{IsScan, ScanGoesOn, ScanState, if_found}
use Rattle.av_pool.specs.Pool.{AreRunsOf}
use Rattle.av_pool.specs.Run.{IsRunOf, IsRunOfOne, done_of}
use Rattle.av_pool.specs.Weights.{weigh}
use Rattle.av_service.specs.Work.{DoneState}

-- ---- a done work as a list of numbers, which tells it apart

tag : Option Verdict → ℕ
tag None = 0
tag (Some Clean) = 1
tag (Some (Infected i e)) = 2

index_in : Option Verdict → ℕ
index_in None = 0
index_in (Some Clean) = 0
index_in (Some (Infected i e)) = i

end_in : Option Verdict → ℕ
end_in None = 0
end_in (Some Clean) = 0
end_in (Some (Infected i e)) = e

hit_of : ℕ → ℕ → ℕ → Option Verdict
hit_of t i e = if t == 0 then None else if t == 1 then Some Clean else Some (Infected i e)

hit_back : (h : Option Verdict) → hit_of (tag h) (index_in h) (end_in h) ≡ h
unfolding tag index_in end_in hit_of
hit_back None = refl
hit_back (Some Clean) = refl
hit_back (Some (Infected i e)) = refl

abbrev scan_with : ScanState → List ℕ → List ℕ
scan_with s rest = s.version ∷ s.length ∷ s.fed ∷ s.node ∷ tag s.hit ∷ index_in s.hit ∷ end_in s.hit ∷ rest

abbrev numbers_of : DoneState → List ℕ
numbers_of d =
    d.lease ∷ d.work.lease ∷ d.work.id.boot ∷ d.work.id.seq ∷ d.work.version ∷ scan_with d.scan (scan_with d.work.scan d.work.chunk)

abbrev scan_at : List ℕ → ScanState
scan_at ns =
    record {
      version = slice_index ns 0;
      length = slice_index ns 1;
      fed = slice_index ns 2;
      node = slice_index ns 3;
      hit = hit_of (slice_index ns 4) (slice_index ns 5) (slice_index ns 6);
    }

abbrev done_at : List ℕ → DoneState
done_at ns =
    record {
      work = record {
        lease = slice_index ns 1;
        id = record { boot = slice_index ns 2; seq = slice_index ns 3 };
        version = slice_index ns 4;
        scan = scan_at (drop 12 ns);
        chunk = drop 19 ns;
      };
      lease = slice_index ns 0;
      scan = scan_at (drop 5 ns);
    }

back : (d : DoneState) → done_at (numbers_of d) ≡ d
back d = λ i. record {
  work = record {
    lease = d.work.lease;
    id = d.work.id;
    version = d.work.version;
    scan = record {
      version = d.work.scan.version;
      length = d.work.scan.length;
      fed = d.work.scan.fed;
      node = d.work.scan.node;
      hit = hit_back d.work.scan.hit i;
    };
    chunk = d.work.chunk;
  };
  lease = d.lease;
  scan = record { version = d.scan.version; length = d.scan.length; fed = d.scan.fed; node = d.scan.node; hit = hit_back d.scan.hit i };
}

-- whether they are the same
same_done : DoneState → DoneState → Bool
same_done d e = bytes_eq (numbers_of d) (numbers_of e)

same_is : (d e : DoneState) → same_done d e ≡ true → d ≡ e
unfolding same_done
same_is d e same = sym (back d) ∙ ap done_at ((bytes_eq-Decides (numbers_of d) (numbers_of e)).0 same) ∙ back e

is_same : (d : DoneState) → same_done d d ≡ true
unfolding same_done
is_same d = (bytes_eq-Decides (numbers_of d) (numbers_of d)).1 refl

-- ---- one among many, by its weight

abbrev weight_of : DoneState → DoneState → ℕ
weight_of d e = cond (same_done d e) 1 0

weighs : (d : DoneState) (out : List DoneState) → Among d out → 1 ≤ weigh (weight_of d) out
weighs d [] among = absurd among
weighs d (e ∷ out) (inl is) =
    let one : weight_of d e ≡ 1 = ap (λ (x : DoneState). weight_of d x) (sym is) ∙ ap (λ (b : Bool). cond b 1 0) (is_same d) in
    omega arith
weighs d (e ∷ out) (inr more) = omega (arith, weighs d out more)

found : (d : DoneState) (given : List LentState) → 1 ≤ weigh (weight_of d) (map done_of given) → (l : LentState) × Among l given × (d ≡ done_of l)
found d [] some = absurd (omega (arith, some))
found d (l ∷ given) some =
    (elim (same_done d (done_of l)) as (λ b. same_done d (done_of l) ≡ b → (k : LentState) × Among k (l ∷ given) × (d ≡ done_of k)) [
      | true ↦ λ e. (l, inl refl, same_is d (done_of l) e)
      | false ↦ λ e.
          let none : weight_of d (done_of l) ≡ 0 = ap (λ (b : Bool). cond b 1 0) e in
          let rest = found d given (omega (arith, some, none)) in
          (rest.0, inr rest.1, rest.2)
    ]) refl

-- what the law of a scan that goes on makes of it
is_run : ScanGoesOn → (l : LentState) (d : DoneState) → FitsItsWork l → d ≡ done_of l → IsRunOf l d
is_run goes l d fits is = record {
  done = is;
  fits = fits;
  judged = λ bytes c was room. subst (λ (x : DoneState). IsScan l.automaton bytes (c ++ l.work.chunk) x.scan) (sym is) (goes l.automaton bytes c l.work.chunk l.work.scan fits.solid was room).0;
  hits = λ bytes c was room. ap (λ (x : DoneState). if_found x.scan) is ∙ (goes l.automaton bytes c l.work.chunk l.work.scan fits.solid was room).1;
}

pub each_run : ScanGoesOn → (given : List LentState) (out : List DoneState) → Each FitsItsWork given → AreRunsOf given out → Each (IsRunOfOne given) out
each_run goes given out fits runs = all out (each_self out)
  where
    one : (d : DoneState) → Among d out → IsRunOfOne given d
    one d among =
        let from = found d given (omega (arith, weighs d out among, runs (weight_of d))) in
        (from.0, from.1, is_run goes from.0 d (among_each FitsItsWork given from.0 fits from.1) from.2)

    all : (xs : List DoneState) → Each (λ x. Among x out) xs → Each (IsRunOfOne given) xs
    all [] h = tt
    all (x ∷ xs) h = (one x h.0, all xs h.1)
