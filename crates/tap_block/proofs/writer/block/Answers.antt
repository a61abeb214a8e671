use Rattle.std.proofs.Common.{◌∙◌, ap}
use Rattle.tap_block.specs.Chars.{written, sum_of, characters}
use Rattle.tap_block.proofs.WholeBlocks.{block_built}
use Rattle.tap_block.proofs.writer.block.Goals as goal

pub returns : goal.returns
returns c = block_built c.args.body.now c.args.end _ _ _ _ _ _ _ _ c.requires.characters
    c.new-block.ensures c.append.ensures c.append-2.ensures c.character.ensures c.append-3.ensures
    (c.as_slice-2.ensures ∙ c.sum-total.ensures ∙ ap (λ z. written (sum_of (characters z))) c.as_slice.ensures.value) c.append-4.ensures c.append-5.ensures
