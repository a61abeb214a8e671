-- Bits that are near transmissions.
use Rattle.std.proofs.Common.{◌≡◌, ℕ, ◌+◌, Bool, List, [], ◌∷◌, ◌++◌, length, length-append, arith, refl, sym, ◌∙◌, ap, ap₂}
use Rattle.bits.proofs.Metric.{dist-self}
use Rattle.page_text.specs.Page.{Page}
use Rattle.air.specs.Near.{IsAirs, IsNearAir, Near, word_behind}

-- a transmission is near itself
near_itself : (air : List Bool) → IsNearAir air air
near_itself air = record {
  whole = refl;
  preamble = refl;
  words = λ k. let e = dist-self (word_behind k air) in omega (arith, e);
}

-- transmissions are near themselves
pub near-airs : (lists : List (List Page)) (bits : List Bool) → IsAirs lists bits → Near lists bits
unfolding IsAirs Near
near-airs [] bits h = h
near-airs (accepted ∷ lists) bits h = (h.0, h.0, h.1, h.2, near_itself h.0, near-airs lists h.1 h.3, h.4)

-- transmissions, and bits that are as many
pub record HasLength (lists : List (List Page)) (heard : List Bool) : Type 0 where
  pub airs : List Bool
  pub are : IsAirs lists airs
  pub whole : length heard ≡ length airs

-- what is heard has the length of the transmissions
pub length-near : (lists : List (List Page)) (heard : List Bool) → Near lists heard → HasLength lists heard
unfolding IsAirs Near
length-near [] heard h = record { airs = []; are = refl; whole = ap length h }
length-near (accepted ∷ lists) heard h =
    let ih = length-near lists h.2 h.5 in
    record {
      airs = h.0 ++ ih.airs;
      are = (h.0, ih.airs, h.3, ih.are, refl);
      whole = ap length h.6 ∙ length-append h.1 h.2 ∙ ap₂ (λ (m n : ℕ). m + n) h.4.whole ih.whole ∙ sym (length-append h.0 ih.airs);
    }
