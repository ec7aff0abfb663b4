-- A run that ends as one that found something found it.
use Rattle.std.proofs.Common.{rules, ◌≡◌, ◌||◌, ◌&&◌, Bool, false, true, if◌then◌else◌, List, [], ◌∷◌, nat_lt, refl, subst, ap, true≢false}
use Rattle.std.specs.List.{list_any}
use Rattle.av_status.specs.Status.{number_of}
use Rattle.av_status.specs.Tally.{concluded, ending_of, no_files, with_scanned}
use Rattle.av_status.specs.declared.status.Status.TheVariants.{Done, Found}
use Rattle.av_status.specs.declared.tally.Tally.{Tally}
use Rattle.av_status.specs.declared.tally.Wishes.{Wishes}
use Rattle.av_files.specs.Scan as scan
use Rattle.av_files.specs.declared.scan.Scanned.{Scanned}

done_not_found : Done ≡ Found → ⊥
done_not_found e = let numbers : number_of Done ≡ number_of Found = ap number_of e in absurd (search rules)

none_found : (b : Bool) → (if b && false then Found else Done) ≡ Found → ⊥
none_found true e = done_not_found e
none_found false e = done_not_found e

-- nothing was found where nothing is infected
not_found : (w : Wishes) (t : Tally) → t.infected ≡ 0 → t.worst ≡ Done → concluded w t ≡ Found → ⊥
not_found w t none done e =
    let ended : ending_of w t Done ≡ Found = subst (λ s. ending_of w t s ≡ Found) done e in
    let counted : (if w.has_found_status && nat_lt 0 0 then Found else Done) ≡ Found =
    subst (λ n. (if w.has_found_status && nat_lt 0 n then Found else Done) ≡ Found) none ended in
    none_found w.has_found_status counted

abbrev infected_file : Scanned → Bool
infected_file s = scan.is_infected s.verdict

-- these leave the infected and the worst as they are
abbrev Keeps : List Scanned → Tally → Type 0
Keeps ss t = ((scan.tally_from t ss).infected ≡ t.infected) × ((scan.tally_from t ss).worst ≡ t.worst)

step_scanned : (b : Bool) (t : Tally) (ss : List Scanned) → (b || list_any infected_file ss) ≡ false → ((u : Tally) → list_any infected_file ss ≡ false → Keeps ss u)
    → ((scan.tally_from (with_scanned t b) ss).infected ≡ t.infected) × ((scan.tally_from (with_scanned t b) ss).worst ≡ t.worst)
step_scanned true t ss none rest = absurd (true≢false none)
step_scanned false t ss none rest = rest (with_scanned t false) none

clean_kept : (ss : List Scanned) (t : Tally) → list_any infected_file ss ≡ false → Keeps ss t
clean_kept [] t none = (refl, refl)
clean_kept (s ∷ ss) t none = step_scanned (infected_file s) t ss none (λ u e. clean_kept ss u e)

-- of files that were scanned one is infected
pub found_scanned : (w : Wishes) (ss : List Scanned) → concluded w (scan.tally_of ss) ≡ Found → list_any (λ s. scan.is_infected s.verdict) ss ≡ true
found_scanned w ss e = by (list_any infected_file ss) refl
  where
    by : (b : Bool) → list_any infected_file ss ≡ b → list_any infected_file ss ≡ true
    by true is = is
    by false is = let kept = clean_kept ss no_files is in absurd (not_found w (scan.tally_of ss) kept.0 kept.1 e)
