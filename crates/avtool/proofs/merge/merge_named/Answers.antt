use Rattle.std.proofs.Common.{rules, ◌≡◌, ℕ, unwrap_or, None, Some, subst}
use Rattle.av_base.specs.Device.{AppendsPrefix}
use Rattle.av_merge.specs.Merge.{Merged}
use Rattle.av_sigset.specs.Set.{NumberedSet}
use Rattle.av_sigset.specs.Spelling.{ReadsBack, spelling}
use Rattle.avtool.proofs.MergeLemmas.{file_of, goes_file, goes_out, leaves_front}
use Rattle.avtool.specs.Merge.{IsMergeAsked, set_for}
use Rattle.avtool.proofs.merge.merge_named.Goals as goal

pub returns-in-Some-clause-done : goal.returns-in-Some-clause-done
returns-in-Some-clause-done g c = λ done.
    let asked = c.args.asked.now in
    let m : Merged = c.in-Ok.merger in
    let of : IsMergeAsked asked m = c.in-Ok.ensures.merge in
    let same : c.version_for-version.result ≡ unwrap_or asked.version m.version = search rules in
    let back = subst (λ (v : ℕ). ReadsBack (record { version = v; signatures = m.signatures })) same (c.write_file.ensures.reads_back done) in
    let named : asked.output ≡ Some c.in-Some.path = search rules in
    (spelling (set_for asked m), file_of asked m of back, goes_file asked.output c.in-Some.path _ _ named)

pub returns-clause-done : goal.returns-clause-done
returns-clause-done g c = λ done.
    let asked = c.args.asked.now in
    let m : Merged = c.in-Ok.merger in
    let of : IsMergeAsked asked m = c.in-Ok.ensures.merge in
    let same : c.version_for-version.result ≡ unwrap_or asked.version m.version = search rules in
    let back = subst (λ (v : ℕ). ReadsBack (record { version = v; signatures = m.signatures })) same (c.print.ensures.reads_back done) in
    let none : asked.output ≡ None = search rules in
    let made : ℕ → NumberedSet = λ v. record { version = v; signatures = m.signatures } in
    let all = subst (λ (v : ℕ). Rattle.std.specs.Io.KnownBytes.Appends (g.W.Write.contents c.args.out.now) (g.W.Write.contents c.print.new.out) (spelling (made v))) same (c.print.ensures.done done) in
    (spelling (set_for asked m), file_of asked m of back, goes_out asked.output _ _ _ none all)

pub returns-clause-failed : goal.returns-clause-failed
returns-clause-failed g c = λ failed.
    let asked = c.args.asked.now in
    let m : Merged = c.in-Ok.merger in
    let of : IsMergeAsked asked m = c.in-Ok.ensures.merge in
    let same : c.version_for-version.result ≡ unwrap_or asked.version m.version = search rules in
    let parts = c.print.ensures.failed failed in
    let made : ℕ → NumberedSet = λ v. record { version = v; signatures = m.signatures } in
    let front = subst (λ (v : ℕ). AppendsPrefix (g.W.Write.contents c.args.out.now) (g.W.Write.contents c.print.new.out) (spelling (made v))) same parts.1 in
    leaves_front asked m c.print.result _ _ of parts.0 front
