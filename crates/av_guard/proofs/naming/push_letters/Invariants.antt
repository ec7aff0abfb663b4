use Rattle.std.proofs.Common.{◌≡◌, ◌+◌, ◌-◌, ◌++◌}
use Rattle.arrayvec.specs.ArrayVec.{array_vec_len}
use Rattle.av_guard.specs.Naming.{letters}
use Rattle.av_guard.proofs.naming.push_letters.Given as goal

-- the letters so far and those to come are all
abbrev pub invariant-letters : goal.invariant-letters
invariant-letters l = record {
  items : l.name.items ++ letters (16 - l._letter) l.rest ≡ l.initial.name.items ++ letters 16 l.fn.number;
  len : array_vec_len l.name ≡ array_vec_len l.initial.name + l._letter;
}
