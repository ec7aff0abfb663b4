-- A work that comes back leaves each job with the scan of its judged bytes.
use Rattle.std.proofs.Common.{◌≡◌, ℕ, ◌+◌, false, not, ◌==◌, List, [], ◌∷◌, ◌++◌, Option, Some, None, if◌then◌else◌, sym, ap, ◌∙◌, subst, arith, length-append}
use Rattle.std.proofs.lemmas.Bool.{cond_both, not-true}
use Rattle.av_base.proofs.KeyLemmas.{same_id-refl}
use Rattle.av_base.specs.MessageId.{same_id}
use Rattle.av_base.specs.declared.message_id.MessageId.{MessageId}
use Rattle.av_base.specs.declared.verdict.Verdict.{Verdict}
use Rattle.av_match.proofs.ScanLemmas.{scan_fed}
use Rattle.av_match.specs.Scanning.{Compiled, IsScan, ScanState, fitting, run}
use Rattle.av_service.proofs.SoundLemmas.{each_found}
use Rattle.av_service.specs.Desk.{Desk, advanced, has_lease, lent_under, loan_count, with_job, without_job}
use Rattle.av_service.specs.Judged.{HasJudged, HaveJudged, IsOfJob, KeepsScans, judged_more}
use Rattle.av_service.specs.Lending.{finished}
use Rattle.av_service.specs.Response.{Response}
use Rattle.av_service.specs.Work.{WorkState}
use Rattle.av_service.specs.declared.job.Job.{Job}

module _ (set : Compiled) (judged : MessageId → List ℕ) (j : Job) (k : WorkState) where
  more : MessageId → List ℕ
  more = judged_more judged j k

  -- another job stays as it is
  other : (x : Job) → same_id x.id j.id ≡ false → HasJudged set (judged x.id) x → HasJudged set (judged_more judged j k x.id) x
  other x e h = subst (λ b. HasJudged set (if b then judged x.id ++ k.chunk else judged x.id) x) (sym e) h

  others : (js : List Job) → HaveJudged set judged js → HaveJudged set (judged_more judged j k) (without_job j.id js)
  others [] all = tt
  others (x ∷ js) all =
      cond_both (not (same_id x.id j.id)) (x ∷ without_job j.id js) (without_job j.id js) (HaveJudged set (judged_more judged j k)) (λ e. (other x (not-true (same_id x.id j.id) e) all.0, others js all.1)) (λ e. others js all.1)

  placed : (scan : ScanState) → HasJudged set (judged_more judged j k j.id) (advanced scan j) → (js : List Job) → HaveJudged set judged js → HaveJudged set (judged_more judged j k) (with_job (advanced scan j) js)
  placed scan h [] all = tt
  placed scan h (x ∷ js) all =
      (cond_both (same_id x.id j.id) (advanced scan j) x (λ (y : Job). HasJudged set (judged_more judged j k y.id) y) (λ e. h) (λ e. other x e all.0), placed scan h js all.1)

  -- the job whose work it is has judged its bytes
  gone_on : IsOfJob k j → HasJudged set (judged j.id) j → (scan : ScanState) → scan ≡ run set.patterns k.scan (fitting k.scan k.chunk) → HasJudged set (judged_more judged j k j.id) (advanced scan j)
  gone_on of has scan is =
      let ran : scan ≡ run set.patterns j.scan (fitting j.scan k.chunk) = is ∙ ap (λ s. run set.patterns s (fitting s k.chunk)) of.scan in
      let fed : IsScan set j.length (judged j.id ++ k.chunk) scan = scan_fed set j.length (judged j.id) k.chunk j.scan scan has.scanned (omega (arith, has.count, of.room)) ran in
      subst (λ b. HasJudged set (if b then judged j.id ++ k.chunk else judged j.id) (advanced scan j)) (sym (same_id-refl j.id))
      (record { scanned = fed; count = length-append (judged j.id) k.chunk ∙ omega (arith, has.count, of.count) })

finished_keeps : (d : Desk) (k : WorkState) (scan : ScanState) (hit : Option Verdict) (set : Compiled) (judged : MessageId → List ℕ) (j : Job) → HasJudged set (judged j.id) j → IsOfJob k j → scan ≡ run set.patterns k.scan (fitting k.scan k.chunk) → HaveJudged set judged d.jobs
    → HaveJudged set (judged_more judged j k) (finished d scan hit (Some j)).desk.jobs
unfolding finished
finished_keeps d k scan (Some r) set judged j has of is all = others set judged j k d.jobs all
finished_keeps d k scan None set judged j has of is all =
    cond_both (j.offset + loan_count j.loan == j.length) _ _ (λ (r : Response). HaveJudged set (judged_more judged j k) r.desk.jobs) (λ e. others set judged j k d.jobs all)
    (λ e. placed set judged j k scan (gone_on set judged j k of has scan is) d.jobs all)

pub keeps_scans : (d : Desk) (lease : ℕ) (k : WorkState) (scan : ScanState) (hit : Option Verdict) (new : Desk) → new ≡ (finished d scan hit (lent_under lease d.jobs)).desk → KeepsScans d lease k scan new
keeps_scans d lease k scan hit new is set judged j at of ran all =
    let has : HasJudged set (judged j.id) j = each_found (λ (x : Job). HasJudged set (judged x.id) x) (λ (x : Job). has_lease lease x.loan) d.jobs j all at in
    subst (λ (e : Desk). HaveJudged set (judged_more judged j k) e.jobs) (sym is)
    (subst (λ o. HaveJudged set (judged_more judged j k) (finished d scan hit o).desk.jobs) (sym at) (finished_keeps d k scan hit set judged j has of ran all))
