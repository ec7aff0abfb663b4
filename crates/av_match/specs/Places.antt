-- Six places in a piece, one for each of six parts.
use Rattle.std.specs.Prelude.{ℕ, ◌+◌, ◌*◌, ◌≤◌, List}
use Rattle.av_match.specs.Passed.{AreOver, ArePassed}
use Rattle.av_match.specs.declared.parts.Places.{Places}
use Rattle.av_match.specs.declared.tables.Tables.{Tables}

-- each place has room for so many bytes in n
pub record HaveRoom (n count : ℕ) (p : Places) : Type 0 where
  pub a : p.a + count ≤ n
  pub b : p.b + count ≤ n
  pub c : p.c + count ≤ n
  pub d : p.d + count ≤ n
  pub e : p.e + count ≤ n
  pub f : p.f + count ≤ n

-- each place has room for so many bytes in its own part, where each part is a step
pub record HaveOwnRoom (step count : ℕ) (p : Places) : Type 0 where
  pub a : p.a + count ≤ step
  pub b : p.b + count ≤ 2 * step
  pub c : p.c + count ≤ 3 * step
  pub d : p.d + count ≤ 4 * step
  pub e : p.e + count ≤ 5 * step
  pub f : p.f + count ≤ 6 * step

-- each part begins where the one before it ends
abbrev pub starts_of : ℕ → Places
starts_of step = record { a = 0; b = step; c = 2 * step; d = 3 * step; e = 4 * step; f = 5 * step }

-- windows are moved from each place to the other
pub record AreAllOver (t : Tables) (w : List ℕ) (lo hi : Places) : Type 0 where
  pub a : AreOver t w lo.a hi.a
  pub b : AreOver t w lo.b hi.b
  pub c : AreOver t w lo.c hi.c
  pub d : AreOver t w lo.d hi.d
  pub e : AreOver t w lo.e hi.e
  pub f : AreOver t w lo.f hi.f

-- all is passed from each place to the other
pub record AreAllPassed (t : Tables) (w : List ℕ) (lo hi : Places) : Type 0 where
  pub a : ArePassed t w lo.a hi.a
  pub b : ArePassed t w lo.b hi.b
  pub c : ArePassed t w lo.c hi.c
  pub d : ArePassed t w lo.d hi.d
  pub e : ArePassed t w lo.e hi.e
  pub f : ArePassed t w lo.f hi.f
