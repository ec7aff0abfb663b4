-- Asks that are put and taken.
use Rattle.std.proofs.Common.{ℕ, ◌≡◌, ◌≤◌, ◌<◌, length, Bool, nat_lt, true, false, cond, List, ◌++◌, Result, Ok, Err, refl}
use Rattle.std.proofs.lemmas.Bool.{le-ltb, ltb-true}
use Rattle.av_asks.specs.Spelling.{Asked, ask_frame, written}
use Rattle.av_asks.specs.declared.fault.TooLong.{TooLong}
use Rattle.av_asks.specs.declared.fault.TooLong.TheVariants as long
use Rattle.av_asks.specs.declared.sizes.TheConstants.{MAX_CONTENT, MAX_LABEL}

too_much : (name more : Bool) (x : List ℕ) (f : TooLong) → name ≡ false → cond name (Err long.Label) (cond more (Err long.Content) (Ok x)) ≡ Err f → more ≡ true
too_much false true x f fits e = refl
too_much false false x f fits e = let clash : ◌≡◌ {A = Result (List ℕ) TooLong} (Ok x) (Err f) = e in absurd cc
too_much true more x f fits e = absurd cc

-- where a label fits, it is the content that is too long
pub too_large : (out : List ℕ) (a : Asked) (f : TooLong) → length a.label ≤ 255 → written out a ≡ Err f → 1_048_576 < length a.content
too_large out a f fits e = ltb-true _ _ (too_much (nat_lt MAX_LABEL (length a.label)) (nat_lt MAX_CONTENT (length a.content)) (out ++ ask_frame a) f (le-ltb _ _ fits) e)
