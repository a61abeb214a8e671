-- An input is at most one block, and a content has at most one text.
use Rattle.std.proofs.Common.{◌≡◌, ℕ, Bool, List, [], ◌∷◌, None, sym, ◌∙◌, ap, subst}
use Rattle.tap_block.specs.declared.ends.End.TheVariants.{Etx}
use Rattle.tap_block.specs.Fields.{HasValue}
use Rattle.tap_block.specs.Reading.{AfterLogon, block, is_right}
use Rattle.tap_block.proofs.OneReading.{at_most_one}
use Rattle.tap_block.proofs.Parts.{same_parts}
use Rattle.tap_block.proofs.Values.{one_value}
use Rattle.one_block.specs.LoneBlock.{HasText, IsMarkedBlock}

-- the body and the trailer of a block alone in a list
block_parts : (a b t u : List ℕ) → block a Etx t ∷ [] ≡ block b Etx u ∷ [] → (a ≡ b) × (t ≡ u)
block_parts a b t u e = (cc, cc)

-- an input is at most one block, and its trailer is right or wrong
pub one_block : (x body other : List ℕ) (right marked : Bool) → IsMarkedBlock x body right → IsMarkedBlock x other marked → (other ≡ body) × (marked ≡ right)
one_block x body other right marked h k =
    let same = block_parts other body k.trailer h.trailer (at_most_one None AfterLogon (block other Etx k.trailer ∷ []) (block body Etx h.trailer ∷ []) [] [] x k.lone.reads h.lone.reads).0 in
    (same.0, k.mark ∙ ap (λ b. is_right b Etx k.trailer) same.0 ∙ ap (is_right body Etx) same.1 ∙ sym h.mark)

-- a content has at most one text
pub one_text : (content text other : List ℕ) → HasText content text → HasText content other → other ≡ text
one_text content text other h k =
    let same = same_parts content k.fields.first k.fields.second h.fields.first h.fields.second k.fields.parts h.fields.parts in
    one_value h.fields.second other text (subst (λ f. HasValue f other) same.1 k.fields.text_is) h.fields.text_is
