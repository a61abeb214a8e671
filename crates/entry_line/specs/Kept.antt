-- What is kept of a list that comes character by character.
use Rattle.std.specs.Prelude.{ℕ, ◌+◌, if◌then◌else◌, nat_lt, List, [], ◌∷◌, ◌++◌, length}

-- one character more, but at most n
abbrev pub push_within : ℕ → List ℕ → ℕ → List ℕ
push_within n x c = if nat_lt (length x) n then x ++ c ∷ [] else x

-- one more, but at most n
abbrev pub count_within : ℕ → ℕ → ℕ
count_within n size = if nat_lt size n then size + 1 else size
