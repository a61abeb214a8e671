-- Lines and their pieces, and the cut of a list.
use Rattle.std.proofs.Common.{◌≡◌, ℕ, ◌+◌, ◌<◌, ◌≤◌, ◌==◌, cond, Bool, true, false, List, [], ◌∷◌, ◌++◌, length, take, min, refl, ap, sym, ◌∙◌, append_assoc, append-nil, arith, length-append, nat_lt, ◌⊎◌, inl, inr}
use Rattle.std.proofs.lemmas.Bool.{cases_lt}
use Rattle.std.proofs.lemmas.Bool.Decides.{nat_tests}
use Rattle.std.proofs.lemmas.List.{take_all, take-append-le, length-take}
use Rattle.entry_line.specs.Chars.{lf, cr}
use Rattle.snpp_entry.specs.Lines.{Cut, cut, cut_on, with_char, uncut, without_cr}
use Rattle.entry_line.specs.Kept.{push_within, count_within}
use Rattle.snpp_entry.specs.State.{AreKept}

-- one more before a choice
cons_cond : (b : Bool) (a : ℕ) (x y : List ℕ) → a ∷ cond b x y ≡ cond b (a ∷ x) (a ∷ y)
cons_cond true a x y = refl
cons_cond false a x y = refl

-- the line of a piece by its last character
pub line_of-push : (front : List ℕ) (c : ℕ) → without_cr (front ++ c ∷ []) ≡ cond (c == 13) front (front ++ c ∷ [])
line_of-push [] c = refl
line_of-push (a ∷ []) c = cons_cond (c == 13) a [] (c ∷ [])
line_of-push (a ∷ d ∷ x) c = ap (λ z. a ∷ z) (line_of-push (d ∷ x) c) ∙ cons_cond (c == 13) a (d ∷ x) ((d ∷ x) ++ c ∷ [])

-- a line is at most one character shorter than its piece
pub line_near : (x : List ℕ) → length x ≤ length (without_cr x) + 1
line_near [] = omega arith
line_near (c ∷ []) = by_last (c == cr)
  where
    by_last : (b : Bool) → 1 ≤ length (cond b [] (c ∷ [])) + 1
    by_last true = omega arith
    by_last false = omega arith
line_near (c ∷ d ∷ x) = let h = line_near (d ∷ x) in omega (arith, h)

-- what is kept of a piece that isn't too long is the piece
pub kept_whole : (piece kept : List ℕ) (count : ℕ) → AreKept piece kept count → count ≤ 1101 → kept ≡ piece
kept_whole piece kept count h few = let e = h.count_is in h.kept_are ∙ take_all 1101 piece (omega (arith, e, few))

-- the line of one that is
pub long_line : (piece kept : List ℕ) (count : ℕ) → AreKept piece kept count → 1101 < count → 1100 < length (without_cr piece)
long_line piece kept count h many = let e = h.count_is in let f = line_near piece in omega (arith, e, f, many)

-- no character
pub kept_none : AreKept [] [] 0
kept_none = record { kept_are = refl; count_is = refl }

-- one character more
pub kept_more : (rest kept : List ℕ) (count c : ℕ) → AreKept rest kept count → AreKept (rest ++ c ∷ []) (push_within 1101 kept c) (count_within 1102 count)
kept_more rest kept count c h = record {
  kept_are = ap (λ k. push_within 1101 k c) h.kept_are ∙ pushed (cases_lt (length rest) 1101);
  count_is = ap (count_within 1102) h.count_is ∙ counted (cases_lt (length rest) 1102);
} where
  pushed : (length rest < 1101) ⊎ (1101 ≤ length rest) → push_within 1101 (take 1101 rest) c ≡ take 1101 (rest ++ c ∷ [])
  pushed (inl few) =
      let whole : take 1101 rest ≡ rest = take_all 1101 rest (omega (arith, few)) in
      let t : nat_lt (length rest) 1101 ≡ true = grind (arith, nat_tests) in
      ap (λ k. push_within 1101 k c) whole ∙ ap (λ b. cond b (rest ++ c ∷ []) rest) t ∙ sym (take_all 1101 (rest ++ c ∷ []) (simp length-append (omega (arith, few))))
  pushed (inr many) =
      let n : length (take 1101 rest) ≡ 1101 = length-take 1101 rest ∙ (omega (arith, many)) in
      ap (λ m. cond (nat_lt m 1101) (take 1101 rest ++ c ∷ []) (take 1101 rest)) n ∙ sym (take-append-le 1101 rest (c ∷ []) many)

  counted : (length rest < 1102) ⊎ (1102 ≤ length rest) → count_within 1102 (min (length rest) 1102) ≡ min (length (rest ++ c ∷ [])) 1102
  counted (inl few) =
      let whole : min (length rest) 1102 ≡ length rest = omega (arith, few) in
      let t : nat_lt (length rest) 1102 ≡ true = grind (arith, nat_tests) in
      ap (count_within 1102) whole ∙ ap (λ b. cond b (length rest + 1) (length rest)) t ∙ simp length-append (omega (arith, few))
  counted (inr many) =
      let whole : min (length rest) 1102 ≡ 1102 = omega (arith, many) in
      ap (count_within 1102) whole ∙ simp length-append (omega (arith, many))

-- a list is cut front by front
pub cut_on-append : (k : Cut) (x y : List ℕ) → cut_on k (x ++ y) ≡ cut_on (cut_on k x) y
cut_on-append k [] y = refl
cut_on-append k (c ∷ x) y = cut_on-append (with_char k c) x y

-- one character more
pub cut-push : (x : List ℕ) (c : ℕ) → cut (x ++ c ∷ []) ≡ with_char (cut x) c
cut-push x c = cut_on-append uncut x (c ∷ [])

-- an LF more
pub cut-lf : (x : List ℕ) (c : ℕ) → (c == 10) ≡ true → cut (x ++ c ∷ []) ≡ record { pieces = (cut x).pieces ++ (cut x).rest ∷ []; rest = [] }
cut-lf x c h = cut-push x c ∙ ap (λ b. cond b (let k : Cut = record { pieces = (cut x).pieces ++ (cut x).rest ∷ []; rest = [] } in k) (record { pieces = (cut x).pieces; rest = (cut x).rest ++ c ∷ [] })) h

-- another character more
pub cut-other : (x : List ℕ) (c : ℕ) → (c == 10) ≡ false → cut (x ++ c ∷ []) ≡ record { pieces = (cut x).pieces; rest = (cut x).rest ++ c ∷ [] }
cut-other x c h = cut-push x c ∙ ap (λ b. cond b (let k : Cut = record { pieces = (cut x).pieces ++ (cut x).rest ∷ []; rest = [] } in k) (record { pieces = (cut x).pieces; rest = (cut x).rest ++ c ∷ [] })) h

-- pieces are only added
pub grown : (k : Cut) (y : List ℕ) → (more : List (List ℕ)) × ((cut_on k y).pieces ≡ k.pieces ++ more)
grown k [] = ([], sym (append-nil k.pieces))
grown k (c ∷ y) = by_char (c == lf) (λ n. grown n y)
  where
    by_char : (b : Bool) → ((n : Cut) → (more : List (List ℕ)) × ((cut_on n y).pieces ≡ n.pieces ++ more))
        → (more : List (List ℕ)) × ((cut_on (cond b (let n : Cut = record { pieces = k.pieces ++ k.rest ∷ []; rest = [] } in n) (record { pieces = k.pieces; rest = k.rest ++ c ∷ [] })) y).pieces ≡ k.pieces ++ more)
    by_char true again = let g = again (record { pieces = k.pieces ++ k.rest ∷ []; rest = [] }) in (k.rest ∷ g.0, g.1 ∙ append_assoc k.pieces (k.rest ∷ []) g.0)
    by_char false again = again (record { pieces = k.pieces; rest = k.rest ++ c ∷ [] })
