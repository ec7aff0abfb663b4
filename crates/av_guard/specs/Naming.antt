-- The name of the stream that a content is kept in: its length, a keyed hash of it, and a number, each in sixteen letters.
use Rattle.std.specs.Prelude.{ℕ, suc, zero, ◌+◌, ◌%◌, ◌/◌, List, [], ◌∷◌, ◌++◌, length}
use Rattle.std.specs.Hash.DefaultHasher.{finish, write}
use Rattle.std.specs.RandomState.{initial_hasher}
use Rattle.std.specs.declared.random_state.RandomState.{RandomState}

-- so many letters, from a to p, that stand for a number, the least digit first
unfoldable pub letters : ℕ → ℕ → List ℕ
letters zero n = []
letters (suc k) n = (97 + n % 16) ∷ letters k (n / 16)

-- the hash of a content under a key
unfoldable pub hash_of : RandomState → List ℕ → ℕ
hash_of key c = finish (write (initial_hasher key) c)

-- what all names of a content begin with, and its name of this number
unfoldable pub stem_of : RandomState → List ℕ → List ℕ
stem_of key c = letters 16 (length c) ++ letters 16 (hash_of key c)

-- the name of a content, of this number
unfoldable pub name_of : RandomState → List ℕ → ℕ → List ℕ
name_of key c n = stem_of key c ++ letters 16 n
