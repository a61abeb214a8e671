-- Blocks that stand alone.
use Rattle.std.proofs.Common.{◌≡◌, ℕ, ◌%◌, ◌<◌, true, List, [], ◌∷◌, ◌++◌, Option, IsTrue, nat_eq, refl, sym, ◌∙◌, ap, subst, arith, append-nil, append_assoc}
use Rattle.std.specs.List.{AllByRecursion}
use Rattle.std.proofs.lemmas.Slice.Eq.{bytes_eq-Decides}
use Rattle.tap_block.specs.declared.ends.End.{End}
use Rattle.tap_block.specs.declared.ends.End.TheVariants.{Etx, Etb, Us}
use Rattle.entry_line.specs.Chars.{cr}
use Rattle.tap_block.specs.Chars.{IsChar, characters, end_char, stx, sum_of, written}
use Rattle.tap_block.specs.Fields.{block_of}
use Rattle.tap_block.specs.Reading.{AfterLogon, block, IsBody, IsTrailer, is_right, Reads, items_of, a_block}
use Rattle.tap_block.proofs.First.{no_piece, equal, all_push}
use lib.Pointwise.{pointwise}

-- characters below 128 stand for themselves
pub characters_small : (x : List ℕ) → AllByRecursion (λ c. c < 128) x → characters x ≡ x
characters_small [] h = refl
characters_small (c ∷ x) h = let e : c % 128 ≡ c = (let k = h.0 in omega arith) in rw (e, characters_small x h.1) refl

-- a right trailer, by the sum of the block from its STX through its end
abbrev pub right_trailer : List ℕ → End → List ℕ
right_trailer body end = written (sum_of ((stx ∷ body) ++ end_char end ∷ [])) ++ cr ∷ []

-- a written sum and CR are a trailer
written_trailer : (n : ℕ) → IsTrailer (written n ++ cr ∷ [])
written_trailer n = ((λ h. omega (arith, h)), (λ h. omega (arith, h)), (λ h. omega (arith, h)))

-- a whole block with a right trailer is read as this one block
pub block_reads : (password : Option (List ℕ)) (body : List ℕ) (end : End) → IsBody body
    → Reads password AfterLogon (block body end (right_trailer body end) ∷ []) [] ((stx ∷ body) ++ end_char end ∷ right_trailer body end)
block_reads password body end h = ([], sym (append-nil _), (h, written_trailer _), (refl, no_piece AfterLogon [] refl))

-- what is read as one block is its characters
pub block_text : (password : Option (List ℕ)) (body trailer x : List ℕ) (end : End) → Reads password AfterLogon (block body end trailer ∷ []) [] x
    → (x ≡ (stx ∷ body) ++ end_char end ∷ trailer) × IsBody body
block_text password body trailer x end h =
    (h.1 ∙ ap (λ (next : List ℕ). ((stx ∷ body) ++ end_char end ∷ trailer) ++ next) h.3.0 ∙ append-nil ((stx ∷ body) ++ end_char end ∷ trailer), h.2.0)

-- the right trailer is right, and no other
pub right_is : (body trailer : List ℕ) (end : End) → IsTrue (is_right body end trailer) → trailer ≡ right_trailer body end
right_is body trailer end h = (bytes_eq-Decides trailer (right_trailer body end)).0 h

-- the right trailer is right
pub is_right_of : (body : List ℕ) (end : End) → IsTrue (is_right body end (right_trailer body end))
is_right_of body end = (bytes_eq-Decides (right_trailer body end) (right_trailer body end)).1 refl

-- a list passes the test of being itself
same_text : (x : List ℕ) → pointwise nat_eq x x ≡ true
same_text [] = refl
same_text (c ∷ x) = rw (equal c c refl, same_text x) refl

-- its item is the block with a right trailer
pub block_item : (password : Option (List ℕ)) (body : List ℕ) (end : End)
    → items_of password (block body end (right_trailer body end) ∷ []) ≡ a_block body end true ∷ []
block_item password body end = ap (λ b. a_block body end b ∷ []) (same_text (right_trailer body end))

-- a body and its end are their own characters
pub front_small : (body : List ℕ) (end : End) → AllByRecursion IsChar body → AllByRecursion IsChar ((stx ∷ body) ++ end_char end ∷ [])
front_small body end h = all_push IsChar (stx ∷ body) (end_char end) (omega arith, h) (end_small end)
  where
    end_small : (e : End) → end_char e < 128
    end_small Etx = omega arith
    end_small Etb = omega arith
    end_small Us = omega arith

-- what is appended piece by piece is the block
pub block_built : (body : List ℕ) (end : End) (k : ℕ) (v0 v1 v2 v3 v4 v5 s : List ℕ) → AllByRecursion IsChar body
    → v0 ≡ [] → v1 ≡ v0 ++ stx ∷ [] → v2 ≡ v1 ++ body → k ≡ end_char end → v3 ≡ v2 ++ k ∷ []
    → s ≡ written (sum_of (characters v3)) → v4 ≡ v3 ++ s → v5 ≡ v4 ++ cr ∷ [] → v5 ≡ block_of body end
block_built body end k v0 v1 v2 v3 v4 v5 s small h0 h1 h2 hk h3 hs h4 h5 =
    let front = (stx ∷ body) ++ end_char end ∷ [] in
    let a : v3 ≡ front = rw (h3, h2, h1, h0, hk) refl in
    let b : s ≡ written (sum_of front) = hs ∙ ap (λ z. written (sum_of (characters z))) a ∙ ap (λ z. written (sum_of z)) (characters_small front (front_small body end small)) in
    h5 ∙ ap (λ z. z ++ cr ∷ []) (h4 ∙ ap (λ z. z ++ s) a ∙ ap (λ z. front ++ z) b)
    ∙ append_assoc front (written (sum_of front)) (cr ∷ [])
    ∙ append_assoc (stx ∷ body) (end_char end ∷ []) (written (sum_of front) ++ cr ∷ [])

-- where both lists are their own characters, what is joined of them is too
all_append : (x y : List ℕ) → AllByRecursion IsChar x → AllByRecursion IsChar y → AllByRecursion IsChar (x ++ y)
all_append [] y h k = k
all_append (c ∷ x) y h k = (h.0, all_append x y h.1 k)

-- a written sum and its CR are their own characters
trailer_small : (n : ℕ) → n < 4096 → AllByRecursion IsChar (written n ++ cr ∷ [])
trailer_small n h = (omega (arith, h), (omega (arith, h), (omega (arith, h), (omega arith, tt))))

-- a block is its own characters
pub block_characters : (body : List ℕ) (end : End) → AllByRecursion IsChar body → characters (block_of body end) ≡ block_of body end
block_characters body end h = characters_small (block_of body end) (subst (AllByRecursion IsChar) (append_assoc (stx ∷ body) (end_char end ∷ []) (right_trailer body end)) (all_append ((stx ∷ body) ++ end_char end ∷ []) (right_trailer body end) (front_small body end h) (trailer_small _ (omega arith))))

-- the characters of a block that was written are read as this one block
pub written_reads : (password : Option (List ℕ)) (body : List ℕ) (end : End) → AllByRecursion IsChar body → IsBody body
    → Reads password AfterLogon (block body end (right_trailer body end) ∷ []) [] (characters (block_of body end))
written_reads password body end h k = subst (λ x. Reads password AfterLogon (block body end (right_trailer body end) ∷ []) [] x) (sym (block_characters body end h)) (block_reads password body end k)
