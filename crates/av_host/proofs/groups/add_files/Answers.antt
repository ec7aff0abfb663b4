use Rattle.std.proofs.Common.{ℕ, ◌≡◌, ◌∙◌, ◌+◌, List, ap, arith, subst, sym, take}
use Rattle.std.specs.Borrow.{Bor}
use Rattle.av_store.specs.Store.{Store}
use Rattle.av_host.proofs.FileLemmas.{contents_next}
use Rattle.av_host.specs.Files.{HoldsContents}
use Rattle.av_host.proofs.groups.add_files.Goals as goal
use Rattle.av_host.proofs.groups.add_files.Goals.{else-files-test, then-files-test+in_ok-add_file+then-bytes-ge-GROUP_BYTES}

-- so many are as many as were counted
so_many : (has_content : List ℕ → List ℕ → Type 0) (names : List (Bor (List ℕ))) (index count : ℕ) (old new : Store) → count ≡ index → new ≡ old → HoldsContents has_content (take index names) old → HoldsContents has_content (take count names) new
so_many has_content names index count old new counted same holds =
    subst (λ (n : ℕ). HoldsContents has_content (take n names) new) (sym counted) (subst (λ (v : Store). HoldsContents has_content (take index names) v) (sym same) holds)

pub files-preserved : goal.files-preserved
files-preserved g c = record {
  count = omega arith;
  holds = contents_next _ c.args.rest.names.now c.files.name-index _ _ _ _ _ c.files-test.true c.file_of-file.ensures.name c.file_of-file.ensures.content c.files.invariant.holds c.in_ok-add_file.ensures.added;
}

pub returns-clause-files : goal.returns-clause-files
returns-clause-files g c =
    elim c.files-test.branch [
      | else-files-test w ↦ so_many _ _ _ _ _ _ (w.count-is ∙ c.files.invariant.count) w.volume-is c.files.invariant.holds
      | then-files-test+in_ok-add_file+then-bytes-ge-GROUP_BYTES w ↦
          so_many _ _ _ _ _ _ (w.count-is ∙ ap (λ n. n + 1) c.files.invariant.count) w.volume-is
          (contents_next _ c.args.rest.names.now c.files.name-index _ _ _ _ _ w.files-test.true w.file_of-file.ensures.name w.file_of-file.ensures.content c.files.invariant.holds w.in_ok-add_file.ensures.added)
    ]
