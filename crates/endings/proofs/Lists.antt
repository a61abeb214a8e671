-- Facts of each element of a list, and lists that were appended.
use Rattle.std.proofs.Common.{◌≡◌, List, [], ◌∷◌, ◌++◌, append_assoc, ◌∙◌, ap}
use Rattle.std.specs.List.{AllByRecursion}

-- a fact of the elements of two lists
pub all-append : {A : Type 0} (P : A → Type 0) (a b : List A) → AllByRecursion P a → AllByRecursion P b → AllByRecursion P (a ++ b)
all-append P [] b h k = k
all-append P (x ∷ a) b h k = (h.0, all-append P a b h.1 k)

-- a fact that follows of each element
pub all-map : {A : Type 0} (P Q : A → Type 0) → ((x : A) → P x → Q x) → (a : List A) → AllByRecursion P a → AllByRecursion Q a
all-map P Q f [] h = tt
all-map P Q f (x ∷ a) h = (f x h.0, all-map P Q f a h.1)

-- two lists appended one after the other
pub appended_then : {A : Type 0} (a b c p q : List A) → b ≡ a ++ p → c ≡ b ++ q → c ≡ a ++ (p ++ q)
appended_then a b c p q h k = k ∙ (ap (λ (z : List _). z ++ q) h ∙ append_assoc a p q)
