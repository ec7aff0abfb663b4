-- How contents are kept.
use Rattle.std.specs.Prelude.{◌≡◌, ℕ, ◌<◌}
use Rattle.std.specs.List.{AllByRecursion}
use Rattle.std.specs.declared.random_state.RandomState.{RandomState}
use Rattle.av_guard.specs.Naming.{name_of}
use Rattle.av_store.specs.Rows.{Streams}
use Rattle.av_store.specs.declared.stream.Stream.{Stream}

-- a stream was created, and written once, with the bytes that its name is of
pub record IsWritten (key : RandomState) (x : Stream) : Type 0 where
  pub once : x.generation ≡ 2
  pub number : ℕ
  pub below : number < 16
  pub name : x.name ≡ name_of key x.bytes number

-- so was each
abbrev pub AreWritten : RandomState → Streams → Type 0
AreWritten key ss = AllByRecursion (λ s. IsWritten key s.1) ss
