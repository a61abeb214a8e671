-- A listener leaves a piece right behind the bit that completes something.
use Rattle.std.specs.Prelude.{◌≡◌, List, ◌∷◌, ◌++◌}

-- a list begins with another, and goes on behind it
pub record IsShorterFront {A : Type 0} (front whole : List A) : Type 0 where
  pub next : A
  pub rest : List A
  pub is : whole ≡ front ++ next ∷ rest
