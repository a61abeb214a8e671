-- The two parts of a content, as a function.
use Rattle.std.proofs.Common.{◌≡◌, ℕ, List, [], ◌∷◌, ◌++◌, Option, Some, None, refl, ap, subst, ◌∙◌}
use Rattle.entry_line.specs.Chars.{cr}
use Rattle.tap_block.specs.Fields.{AreParts, line_cut, content_parts, first_part, second_part}
use Rattle.tap_block.proofs.First.{line_found}
use Rattle.tap_block.proofs.Exists.{line_is}

-- the parts of a content are cut out of it
pub parts_some : (x a b : List ℕ) → AreParts x a b → content_parts x ≡ Some (a, b)
parts_some x a b p =
    let e : line_cut x ≡ Some (a, b ++ cr ∷ []) = ap line_cut p.form ∙ line_found a (b ++ cr ∷ []) p.no_cr_first in
    rw (e, line_found b [] p.no_cr_second) refl

-- by what is cut off first
cut_parts : (x : List ℕ) (o : Option (List ℕ × List ℕ)) → line_cut x ≡ o → ((a b : List ℕ) → AreParts x a b → ⊥) → first_part o ≡ None
cut_parts x None e h = refl
cut_parts x (Some (first, rest)) e h = second (line_cut rest) refl
  where
    second : (o : Option (List ℕ × List ℕ)) → line_cut rest ≡ o → second_part first o ≡ None
    second None f = refl
    second (Some (b, [])) f =
        let s = line_is x first rest e in
        let t = line_is rest b [] f in
        absurd (h first b (record { form = s.0 ∙ ap (λ z. first ++ cr ∷ z) t.0; no_cr_first = s.1; no_cr_second = t.1 }))
    second (Some (b, d ∷ more)) f = refl

-- nothing is cut out of a content without parts
pub parts_none : (x : List ℕ) → ((a b : List ℕ) → AreParts x a b → ⊥) → content_parts x ≡ None
parts_none x h = cut_parts x (line_cut x) refl h

-- by what is cut off first and second
parts_cut_off : (x a b : List ℕ) (o : Option (List ℕ × List ℕ)) → line_cut x ≡ o → first_part o ≡ Some (a, b) → AreParts x a b
parts_cut_off x a b None e h = absurd cc
parts_cut_off x a b (Some (first, rest)) e h = second (line_cut rest) refl h
  where
    second : (o : Option (List ℕ × List ℕ)) → line_cut rest ≡ o → second_part first o ≡ Some (a, b) → AreParts x a b
    second None f h = absurd cc
    second (Some (last, [])) f h =
        let s = line_is x first rest e in
        let t = line_is rest last [] f in
        let g : ◌≡◌ {A = List ℕ × List ℕ} (first, last) (a, b) = cc in
        let one : first ≡ a = ap (λ (z : List ℕ × List ℕ). z.0) g in
        let two : last ≡ b = ap (λ (z : List ℕ × List ℕ). z.1) g in
        subst (λ l. AreParts x l b) one (subst (AreParts x first) two
        (record { form = s.0 ∙ ap (λ z. first ++ cr ∷ z) t.0; no_cr_first = s.1; no_cr_second = t.1 }))
    second (Some (last, d ∷ more)) f h = absurd cc

-- the parts that are cut out of a content are its parts
pub parts_are : (x a b : List ℕ) → content_parts x ≡ Some (a, b) → AreParts x a b
parts_are x a b h = parts_cut_off x a b (line_cut x) refl h
