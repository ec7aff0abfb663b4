use Rattle.std.specs.Prelude.{ℕ, List}
use Rattle.av_match.specs.Part.{IsAutomaton}
use Rattle.av_match.specs.Shifts.{IsSkimmer}
use Rattle.av_match.specs.declared.tables.Tables.{Tables}

-- the tables of the automaton of these patterns
pub record AreTablesOf (ps : List (List ℕ)) (t : Tables) : Type 0 where
  pub automaton : IsAutomaton ps t.cells.now t.outputs.now
  pub skimmer : IsSkimmer ps t.depths.now t.window t.shifts.now t.shorts.now t.rare

-- the tables of some set's automaton
abbrev pub AreTables : Tables → Type 0
AreTables t = (ps : List (List ℕ)) × AreTablesOf ps t
