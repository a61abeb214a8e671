-- What is kept of a list: its front, its length up to a limit, its sum.
use Rattle.std.proofs.Common.{◌≡◌, ℕ, ◌+◌, ◌%◌, ◌<◌, ◌≤◌, true, false, List, [], ◌∷◌, ◌++◌, length, take, refl, ap, sym, ◌∙◌, arith, Option, Some, None, inl, inr, min, sum, length-append, nat_lt}
use Rattle.std.proofs.lemmas.Bool.Decides.{nat_tests}
use Rattle.std.proofs.lemmas.List.{take-append-le, take_all, length-take-le}
use Rattle.std.proofs.lemmas.List.Sums.{sum_by-append}
use Rattle.std.proofs.lemmas.Bool.{cases_lt}
use Rattle.tap_block.specs.Chars.{sum_of}
use Rattle.tap_block.specs.Reading.{is_password_word, line_item}
use Rattle.tap_block.specs.Brief.{IsKept}
use Rattle.entry_line.specs.Kept.{push_within, count_within}
use Rattle.tap_block.proofs.First.{not_equal}
use Rattle.entry_line.proofs.Bounds.{take_push, count_push}

-- the sum of one character more
pub sum_push : (x : List ℕ) (c : ℕ) → (sum_of x + c) % 4096 ≡ sum_of (x ++ c ∷ [])
sum_push x c = let e : sum (x ++ c ∷ []) ≡ sum x + c = omega (arith, sum_by-append (λ x. x) x (c ∷ [])) in
    rw e (mod_sum (sum x) c)
  where
    mod_sum : (a c : ℕ) → (a % 4096 + c) % 4096 ≡ (a + c) % 4096
    mod_sum a c = omega arith

-- what is kept of a body with one character more
pub kept_push : (kept : List ℕ) (size : ℕ) (b : List ℕ) (c : ℕ) → IsKept kept size b → IsKept (push_within 250 kept c) (count_within 251 size) (b ++ c ∷ [])
kept_push kept size b c h =
    (rw h.0 (take_push 250 b c), rw h.1 (count_push 251 (length b) ∙ ap (λ k. min k 251) (sym (length-append b (c ∷ [])))))

-- more than six characters are no password
pub word_long : (password : Option (List ℕ)) (word : List ℕ) → 7 ≤ length word → is_password_word password word ≡ false
word_long None word h = rw (not_equal (length word) 0 (omega arith), not_equal (length word) 6 (omega arith)) refl
word_long (Some p) word h = rw (not_equal (length word) 6 (omega arith)) refl

-- a word is the password where its first seven characters are
pub word_short : (password : Option (List ℕ)) (word : List ℕ) → is_password_word password word ≡ is_password_word password (take 7 word)
word_short password word = elim (cases_lt (length word) 7) [
  | inl h ↦ (let e : take 7 word ≡ word = take_all 7 word (omega arith) in rw e refl)
  | inr h ↦ (let k : 7 ≤ length (take 7 word) = omega (arith, length-take-le 7 word h) in word_long password word h ∙ sym (word_long password (take 7 word) k))
]

-- a line's item goes by its first eleven characters
pub line_short : (password : Option (List ℕ)) (l : List ℕ) → line_item password l ≡ line_item password (take 11 l)
line_short password [] = refl
line_short password (a ∷ []) = refl
line_short password (a ∷ b ∷ []) = refl
line_short password (a ∷ b ∷ c ∷ []) = refl
line_short password (a ∷ b ∷ c ∷ d ∷ word) = rw (word_short password word) refl
