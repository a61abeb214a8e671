-- Lists that begin with another.
use Rattle.std.specs.Prelude.{◌≡◌, List, ◌++◌}

-- a list begins with another
pub record IsFront {A : Type 0} (front whole : List A) : Type 0 where
  pub rest : List A
  pub is : whole ≡ front ++ rest

-- what a list gives begins with what each front of it gives
abbrev pub Grows : {A B : Type 0} → (List A → List B) → Type 0
Grows {A} f = (xs ys : List A) → IsFront (f xs) (f (xs ++ ys))
