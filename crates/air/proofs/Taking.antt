-- Slots taken one at a time from those that are left.
use Rattle.std.proofs.Common.{◌≡◌, ◌≢◌, ℕ, zero, suc, ◌+◌, ◌≤◌, ◌<◌, List, [], ◌∷◌, ◌++◌, length, map, take, drop, sym, ◌∙◌, ap, arith, add-one, append_assoc, length-drop}
use Rattle.std.proofs.lemmas.List.{map-append}
use Rattle.codeword.specs.declared.words.TheConstants.{SYNC}
use Rattle.page_pool.specs.Pool.{Pool}
use Rattle.scheduler.specs.Said.{word_in, heads_in}
use Rattle.scheduler.specs.Sendings.{KeepsPool}
use Rattle.scheduler.specs.declared.slots.Slot.{Slot}
use Rattle.scheduler.specs.declared.slots.Slot.TheVariants.{Idle, Address, Message}
use Rattle.scheduler.proofs.Left.{keeps-same, keeps-then}

-- one is taken
record OneMore {A : Type 0} (xs new : List A) (i : ℕ) (x : A) : Type 0 where
  pub taken : take (suc i) xs ≡ take i xs ++ x ∷ []
  pub left : new ≡ drop (suc i) xs

one_more' : {A : Type 0} (xs new : List A) (i : ℕ) (x : A) → drop i xs ≡ x ∷ new → OneMore xs new i x
one_more' [] new zero x h = cc
one_more' [] new (suc i) x h = cc
one_more' (y ∷ xs) new zero x h = record { taken = (let e : y ≡ x = cc in ap (λ z. z ∷ []) e); left = cc }
one_more' (y ∷ xs) new (suc i) x h = let r = one_more' xs new i x h in record { taken = ap (λ l. y ∷ l) r.taken; left = r.left }

pub take-more : {A : Type 0} (xs left new : List A) (i : ℕ) (x : A) → left ≡ drop i xs → left ≡ x ∷ new → take (i + 1) xs ≡ take i xs ++ x ∷ []
take-more xs left new i x e h = ap (λ n. take n xs) (add-one i) ∙ (one_more' xs new i x (sym e ∙ h)).taken

pub drop-more : {A : Type 0} (xs left new : List A) (i : ℕ) (x : A) → left ≡ drop i xs → left ≡ x ∷ new → new ≡ drop (i + 1) xs
drop-more xs left new i x e h = (one_more' xs new i x (sym e ∙ h)).left ∙ ap (λ n. drop n xs) (sym (add-one i))

-- where enough are there, one is left
pub some-left : {A : Type 0} (xs left : List A) (i : ℕ) → left ≡ drop i xs → i < length xs → left ≢ []
some-left xs left i e l h = absurd (omega (arith, l, length-drop i xs, ap length (sym e ∙ h)))

-- the words grow by the slot's word
pub words-more : (items new : List ℕ) (xs left rest : List Slot) (i word : ℕ) (x : Slot) → left ≡ drop i xs → left ≡ x ∷ rest
    → items ≡ SYNC ∷ map word_in (take i xs) → word ≡ word_in x → new ≡ items ++ word ∷ [] → new ≡ SYNC ∷ map word_in (take (i + 1) xs)
words-more items new xs left rest i word x e h is w n =
    n ∙ ap (λ l. l ++ word ∷ []) is ∙ ap (λ v. SYNC ∷ (map word_in (take i xs) ++ v ∷ [])) w
    ∙ ap (λ l. SYNC ∷ l) (sym (map-append word_in (take i xs) (x ∷ [])) ∙ ap (map word_in) (sym (take-more xs left rest i x e h)))

-- what was given grows by the slot
pub given-more : (given xs left rest : List Slot) (i : ℕ) (x : Slot) → left ≡ drop i xs → left ≡ x ∷ rest
    → (given ++ take i xs) ++ x ∷ [] ≡ given ++ take (i + 1) xs
given-more given xs left rest i x e h = append_assoc given (take i xs) (x ∷ []) ∙ ap (λ l. given ++ l) (sym (take-more xs left rest i x e h))

-- at most one head is looked at for a slot
pub one_head : (slot : Slot) → heads_in slot ≤ 1
one_head Idle = omega arith
one_head (Address capcode function) = omega arith
one_head (Message group) = omega arith

-- what stays, stays
pub Keeps-then : (a b c : Pool) → KeepsPool a b → KeepsPool b c → KeepsPool a c
Keeps-then a b c h k = keeps-then a b c h k

pub Keeps-same : (a : Pool) → KeepsPool a a
Keeps-same a = keeps-same a
