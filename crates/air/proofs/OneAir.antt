-- Accepted pages have one transmission.
use Rattle.std.proofs.Common.{◌≡◌, Bool, List, [], ◌∷◌, ℕ, sym, ◌∙◌, ap}
use Rattle.air.specs.Air.{IsAir, transmission}
use Rattle.bits.specs.Bits.{words_bits}
use Rattle.page_text.specs.Page.{Page}
use Rattle.scheduler.proofs.Unique.{at_most_one}

pub one_air : (pages : List Page) (bits others : List Bool) → IsAir pages bits → IsAir pages others → others ≡ bits
one_air [] bits others h k = k ∙ sym h
one_air (page ∷ pages) bits others h k = k.2 ∙ (ap (λ (slots : List ℕ). words_bits (transmission slots)) (at_most_one (page ∷ pages) k.0 h.0 k.1 h.1) ∙ sym h.2)
