-- How often an audit answers each open.
use Rattle.std.specs.Prelude.{◌≡◌, ℕ, ◌+◌, ◌&&◌, ◌==◌, nat_lt, nat_le, List, [], ◌∷◌, map, if◌then◌else◌}
use Rattle.av_base.specs.declared.limits.LimitValues.{LimitValues}
use Rattle.av_base.specs.declared.mode.Mode.{Mode}
use Rattle.av_filter.specs.Audit.{FilterEntry, IsFilterAudit, answers_given, filter_end, opens_taken}
use Rattle.av_filter_table.specs.Table.{Table, mounted}
use Rattle.av_pend.specs.Pend.{open_of}
use Rattle.av_store.specs.Store.{Store}

-- how often a number stands in a list
abbrev pub times : ℕ → List ℕ → ℕ
times n [] = 0
times n (m ∷ ms) = (if m == n then 1 else 0) + times n ms

-- once from 1 up to a last number, and once above one number up to another
abbrev pub once_up_to : ℕ → ℕ → ℕ
once_up_to last n = if nat_le 1 n && nat_le n last then 1 else 0

-- one where a number is above the first and not above the second, else none
abbrev pub once_between : ℕ → ℕ → ℕ → ℕ
once_between low high n = if nat_lt low n && nat_le n high then 1 else 0

-- each open that it took is pended or answered, once; open numbers are counted from the opening volume's last
abbrev pub AuditAnswersOnce : Table → Store → List FilterEntry → Type 0
AuditAnswersOnce t v xs =
    (n : ℕ) → times n (map (λ p. p.held.open_id) (filter_end t v xs).table.pended) + times n (map open_of (answers_given xs))
    ≡ once_between v.opens (v.opens + opens_taken xs) n

-- so does every legal audit of a filter just mounted
abbrev pub AuditsAnswerOnce : Type 0
AuditsAnswerOnce =
    (v : Store) (mode : Mode) (limits : LimitValues) (xs : List FilterEntry) → IsFilterAudit (mounted mode limits v.boot) v xs
    → AuditAnswersOnce (mounted mode limits v.boot) v xs
