-- Which files are named, and what becomes of a run where one fails.
use Rattle.std.specs.Prelude.{ℕ, ◌≡◌, if◌then◌else◌, List, [], map, None}
use Rattle.av_files.specs.Listed.{AreGivenAndListed}
use Rattle.av_files.specs.declared.listed.Failing.{Failing}
use Rattle.av_files.specs.declared.listed.Failing.TheVariants.{Ends, Passes}
use Rattle.av_status.specs.declared.tally.Tally.{Tally}
use Rattle.av_words.specs.declared.request.Finding.{Finding}
use Rattle.av_words.specs.declared.request.Named.{Named}

-- it goes on, or the first that fails ends it
abbrev pub failing_of : Finding → Failing
failing_of finding = if finding.keeps_going then Passes else Ends

-- the names are those of the words, and behind them those of a list that are text, where there is a list; the others are counted
pub record AreNamed (named : Named) (names : List (List ℕ)) (old new : Tally) : Type 0 where
  pub end : ℕ
  pub text : List ℕ
  pub none : named.list ≡ None → text ≡ []
  pub all : AreGivenAndListed end text (map (λ n. n.now) named.files.items) names old new
