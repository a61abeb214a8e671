-- The map of numbers, one number after another.
use Rattle.std.proofs.Common.{◌≡◌, ◌==◌, ℕ, zero, suc, ◌+◌, ◌<◌, ◌^◌, Bool, true, false, cond, List, [], ◌∷◌, ◌++◌, map, length, get_or, take, Some, None, add-one, subst, arith, refl, sym, ap, ◌∙◌}
use Rattle.std.proofs.Math.Seq.{take-suc}
use Rattle.std.proofs.lemmas.Bool.{eqb-false}
use Rattle.std.proofs.lemmas.Fmt.{decimal_injective}
use Rattle.std.proofs.lemmas.List.{map-append}
use Rattle.std.proofs.lemmas.Map.Keys.{IsDistinct-head, IsDistinct-tail}
use Rattle.std.proofs.lemmas.Map.Text.{is_eq-slice_cmp}
use Rattle.std.proofs.lemmas.Slice.Eq.{bytes_eq-Decides}
use Rattle.std.specs.Bool.{Decides}
use Rattle.std.specs.Cmp.Lexicographic.{nat_list_cmp_total}
use Rattle.std.specs.FinMap.{insert, from_entries, from_entries_push, slice_cmp-IsAntisymmetric, nat_cmp-IsAntisymmetric}
use Rattle.std.specs.FinMap.Entries.{find}
use Rattle.std.specs.Fmt.{decimal}
use Rattle.std.specs.List.{AllByRecursion, IsDistinct}
use Rattle.std.specs.Ordering.{eq_by_cmp}
use Rattle.std.specs.Str.{bytes_eq}
use Rattle.codeword.specs.declared.functions.Function.{Function}
use Rattle.subscribers.specs.Made.{numbered, numbers_of}
use Rattle.subscribers.specs.Parts.{Ids}
use Rattle.subscribers.proofs.Directories.{id_cmp}

-- A number with its capcode and function.
abbrev pub Numbered : Type 0
Numbered = ℕ × ℕ × Function

-- The numbers are of 32 bits.
abbrev pub AreSmall : List Numbered → Type 0
AreSmall numbers = AllByRecursion (λ e. e.0 < 2 ^ 32) numbers

-- No number is this one.
abbrev AreOthers : ℕ → List Numbered → Type 0
AreOthers n numbers = AllByRecursion (λ e. (e.0 == n) ≡ false) numbers

refuted : {P : Type 0} (b : Bool) → Decides b P → (P → ⊥) → b ≡ false
refuted true decides wrong = absurd (wrong (decides.0 refl))
refuted false decides wrong = refl

digits_differ : (n m : ℕ) → n < 2 ^ 32 → m < 2 ^ 32 → (m == n) ≡ false → eq_by_cmp id_cmp (decimal n) (decimal m) ≡ false
digits_differ n m small fits differ =
    is_eq-slice_cmp (decimal n) (decimal m)
    ∙ refuted (bytes_eq (decimal n) (decimal m)) (bytes_eq-Decides (decimal n) (decimal m))
    (λ same. eqb-false m n differ (sym (decimal_injective n m (omega arith) (omega arith) same)))

-- The digits of a further number are no id so far.
is_new : (n : ℕ) (numbers : List Numbered) → n < 2 ^ 32 → AreSmall numbers → AreOthers n numbers → find id_cmp (decimal n) (map numbered numbers) ≡ None
is_new n [] small fit differ = refl
is_new n (e ∷ numbers) small fit differ =
    ap (λ b. cond b (Some (numbered e).1) (find id_cmp (decimal n) (map numbered numbers))) (digits_differ n e.0 small fit.0 differ.0)
    ∙ is_new n numbers small fit.1 differ.1

-- An entry that all others differ from.
differs_at : (x : ℕ) (numbers : List Numbered) (k : ℕ) (d : Numbered) → AllByRecursion (λ y. (x == y) ≡ false) (numbers_of numbers) → k < length numbers → (x == (get_or numbers k d).0) ≡ false
differs_at x [] k d h l = absurd (omega arith)
differs_at x (e ∷ numbers) zero d h l = h.0
differs_at x (e ∷ numbers) (suc k) d h l = differs_at x numbers k d h.1 (omega arith)

others_before : (numbers : List Numbered) (k : ℕ) (d : Numbered) → IsDistinct ◌==◌ (numbers_of numbers) → k < length numbers → AreOthers (get_or numbers k d).0 (take k numbers)
others_before [] k d h l = absurd (omega arith)
others_before (e ∷ numbers) zero d h l = tt
others_before (e ∷ numbers) (suc k) d h l = (differs_at e.0 numbers k d (IsDistinct-head ◌==◌ e.0 (numbers_of numbers) h) (omega arith), others_before numbers k d (IsDistinct-tail ◌==◌ e.0 (numbers_of numbers) h) (omega arith))

all_more : (numbers : List Numbered) (e : Numbered) → AreSmall numbers → e.0 < 2 ^ 32 → AreSmall (numbers ++ e ∷ [])
all_more [] e h small = (small, tt)
all_more (x ∷ numbers) e h small = (h.0, all_more numbers e h.1 small)

module _ (numbers : List Numbered) (k : ℕ) (e : Numbered) (within : k < length numbers) (is : e ≡ get_or numbers k e) where
  one_more : take (k + 1) numbers ≡ take k numbers ++ e ∷ []
  one_more = ap (λ n. take n numbers) (add-one k) ∙ take-suc numbers k e within ∙ ap (λ x. take k numbers ++ x ∷ []) (sym is)

  -- the map with the next number
  pub mapped-more : (d : Ids) → IsDistinct ◌==◌ (numbers_of numbers) → AreSmall (take k numbers) → e.0 < 2 ^ 32 → d ≡ from_entries (map numbered (take k numbers))
      → insert d (decimal e.0) (numbered e).1 ≡ (let m : Ids = from_entries (map numbered (take (k + 1) numbers)) in m)
  mapped-more d distinct small fits same =
      let apart : AreOthers e.0 (take k numbers) = subst (λ (x : Numbered). AreOthers x.0 (take k numbers)) (sym is) (others_before numbers k e distinct within) in
      ap (λ m. insert m (decimal e.0) (numbered e).1) same
      ∙ sym (from_entries_push nat_list_cmp_total (slice_cmp-IsAntisymmetric nat_cmp-IsAntisymmetric) (map numbered (take k numbers)) (decimal e.0) (numbered e).1 (is_new e.0 (take k numbers) fits small apart))
      ∙ ap (λ l. let m : Ids = from_entries l in m) (sym (map-append numbered (take k numbers) (e ∷ [])))
      ∙ ap (λ l. let m : Ids = from_entries (map numbered l) in m) (sym one_more)

  pub small-more : AreSmall (take k numbers) → e.0 < 2 ^ 32 → AreSmall (take (k + 1) numbers)
  small-more small fits = subst AreSmall (sym one_more) (all_more (take k numbers) e small fits)
