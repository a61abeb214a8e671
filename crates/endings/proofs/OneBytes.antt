-- Bytes from their bits.
use Rattle.std.proofs.Common.{◌≡◌, ℕ, ◌<◌, Bool, true, false, nat_lt, List, [], ◌∷◌, ◌++◌, length, length-append, take, drop, IsTrue, refl, sym, ◌∙◌, ap, ap₂, subst, arith}
use Rattle.std.proofs.lemmas.Bool.{ltb-true}
use Rattle.std.proofs.lemmas.List.{take-append-drop}
use Rattle.std.proofs.lemmas.List.Folds.{list_all-append}
use Rattle.std.proofs.Math.Seq.{take-append_seam, drop-append_seam}
use Rattle.std.specs.Prelude.{if◌then◌else◌}
use Rattle.bits.specs.Bits.{bits_of, bytes_bits, number}
use Rattle.bits.proofs.Bytes.{take-bytes_bits}
use Rattle.bits.proofs.Lengths.{length-bits_of, length-bytes_bits}
use Rattle.bits.proofs.Numbers.{number_from-bits_of}
use Rattle.wires.proofs.Written.{and_both, still}
use Rattle.wires.specs.Held.{Bytes, Held}
use Rattle.wires.specs.Stacked.{are_bytes}
use Rattle.wires.specs.Written.{Written}
use Rattle.endings.specs.Wrote.{as_bits, AppendsBytes, Wrote, WroteFront}

head_and_tail : (x : ℕ) (xs : List ℕ) → IsTrue (are_bytes (x ∷ xs)) → (x < 256) × IsTrue (are_bytes xs)
head_and_tail x xs h =
    let both = and_both (are_bytes (x ∷ [])) (are_bytes xs) (subst IsTrue (list_all-append (λ b. nat_lt b 256) (x ∷ []) xs) h) in
    (ltb-true x 256 (and_both (nat_lt x 256) true both.0).0, both.1)

one_byte : (x y : ℕ) → x < 256 → y < 256 → bits_of 8 x ≡ bits_of 8 y → x ≡ y
one_byte x y lt lt2 e =
    let a = number_from-bits_of 8 0 x (omega (arith, lt)) in
    let b = number_from-bits_of 8 0 y (omega (arith, lt2)) in
    omega (arith, a, b, ap number e)

-- bits of bytes are those of one list of bytes
pub one_bytes : (xs ys : List ℕ) → IsTrue (are_bytes xs) → IsTrue (are_bytes ys) → bytes_bits xs ≡ bytes_bits ys → xs ≡ ys
one_bytes [] [] h k e = refl
one_bytes [] (y ∷ ys) h k e = absurd (omega (arith, ap length e, length-append (bits_of 8 y) (bytes_bits ys), length-bits_of 8 y))
one_bytes (x ∷ xs) [] h k e = absurd (omega (arith, ap length e, length-append (bits_of 8 x) (bytes_bits xs), length-bits_of 8 x))
one_bytes (x ∷ xs) (y ∷ ys) h k e =
    let p = head_and_tail x xs h in
    let q = head_and_tail y ys k in
    let first : (z : ℕ) (zs : List ℕ) → take 8 (bytes_bits (z ∷ zs)) ≡ bits_of 8 z =
    λ z zs. subst (λ (n : ℕ). take n (bits_of 8 z ++ bytes_bits zs) ≡ bits_of 8 z) (length-bits_of 8 z) (take-append_seam (bits_of 8 z) (bytes_bits zs)) in
    let later : (z : ℕ) (zs : List ℕ) → drop 8 (bytes_bits (z ∷ zs)) ≡ bytes_bits zs =
    λ z zs. subst (λ (n : ℕ). drop n (bits_of 8 z ++ bytes_bits zs) ≡ bytes_bits zs) (length-bits_of 8 z) (drop-append_seam (bits_of 8 z) (bytes_bits zs)) in
    ap₂ (λ (z : ℕ) (zs : List ℕ). z ∷ zs) (one_byte x y p.0 q.0 (sym (first x xs) ∙ (ap (λ (b : List Bool). take 8 b) e ∙ first y ys)))
    (one_bytes xs ys p.1 q.1 (sym (later x xs) ∙ (ap (λ (b : List Bool). drop 8 b) e ∙ later y ys)))

-- ---- bytes that were appended to a sink

-- what is told only where something else is, is told on
pub told_back : (b c x y : Bool) → c ≡ b → IsTrue b → (if c then y else true) ≡ (if b then x else true) → y ≡ x
told_back true true x y e t h = h
told_back true false x y e t h = absurd cc
told_back false c x y e t h = absurd cc

abbrev bytes_of : List Held → Bool
bytes_of (Bytes b ∷ ls) = b
bytes_of _ = true

pub still_bytes : (old new : Written ℕ) → IsTrue old.tells → new.tells ≡ old.tells → (as_bits new).lent ≡ (as_bits old).lent → IsTrue (are_bytes old.held) → IsTrue (are_bytes new.held)
still_bytes old new t same lent b = still (told_back old.tells new.tells (are_bytes old.held) (are_bytes new.held) same t (ap bytes_of lent)) b

-- what was appended to bytes, by its bits, are bytes
appended_bytes : (xs ys : List ℕ) (more : List Bool) → IsTrue (are_bytes xs) → IsTrue (are_bytes ys) → bytes_bits ys ≡ bytes_bits xs ++ more
    → (piece : List ℕ) × IsTrue (are_bytes piece) × (ys ≡ xs ++ piece)
appended_bytes xs ys more h k e =
    let n = length xs in
    let split = and_both (are_bytes (take n ys)) (are_bytes (drop n ys))
    (subst IsTrue (ap are_bytes (sym (take-append-drop n ys)) ∙ list_all-append (λ b. nat_lt b 256) (take n ys) (drop n ys)) k) in
    let front : take (length (bytes_bits xs)) (bytes_bits ys) ≡ bytes_bits xs = ap (take (length (bytes_bits xs))) e ∙ take-append_seam (bytes_bits xs) more in
    let same : bytes_bits (take n ys) ≡ bytes_bits xs = sym (take-bytes_bits n ys) ∙ (ap (λ (m : ℕ). take m (bytes_bits ys)) (sym (length-bytes_bits xs)) ∙ front) in
    (drop n ys, split.1, sym (take-append-drop n ys) ∙ ap (λ (l : List ℕ). l ++ drop n ys) (one_bytes (take n ys) xs split.0 h same))

bytes_appended : (old new : Written ℕ) → new.tells ≡ old.tells → (as_bits new).lent ≡ (as_bits old).lent
    → (IsTrue old.tells → (more : List Bool) × (bytes_bits new.held ≡ bytes_bits old.held ++ more)) → AppendsBytes old new
bytes_appended old new same lent more = λ t b. appended_bytes old.held new.held (more t).0 b (still_bytes old new t same lent b) (more t).1

-- bits that were written are bytes
pub bytes_wrote : (old new : Written ℕ) (bits : List Bool) → Wrote (as_bits old) (as_bits new) bits → AppendsBytes old new
bytes_wrote old new bits h = bytes_appended old new h.tells h.lent (λ t. (bits, h.held t))

-- and so is a front of them
pub bytes_front : (old new : Written ℕ) (bits : List Bool) → WroteFront (as_bits old) (as_bits new) bits → AppendsBytes old new
bytes_front old new bits h = bytes_appended old new h.tells h.lent (λ t. (take (h.held t).0 bits, (h.held t).2))
