use Rattle.std.proofs.Common.{◌≡◌, arith, ap, sym, ◌∙◌}
use Rattle.std.proofs.lemmas.Grind.{common_steps}
use Rattle.std.proofs.lemmas.List.{get_or_default}
use Rattle.std.proofs.lemmas.List.Edits.{map_over_more}
use Rattle.entry_line.specs.Chars.{char_of}
use Rattle.tap_block.specs.Chars.{characters}
use Rattle.one_block.proofs.OnePages.{characters-characters}
use Rattle.one_block.proofs.one_page.to_characters.Goals as goal

pub loop-byte-preserved : goal.loop-byte-preserved
loop-byte-preserved c =
    map_over_more char_of c.args.bytes.now c.loop-byte.bytes c.loop-byte.byte-index _ c.loop-byte-test.true c.loop-byte.invariant
    (get_or_default c.loop-byte.bytes c.loop-byte.byte-index _ _ (omega (arith, c.loop-byte.auto.bytes)))

pub returns-clause-same : goal.returns-clause-same
returns-clause-same c =
    let whole : c.loop-byte.bytes ≡ characters c.args.bytes.now = grind (arith, common_steps, c.loop-byte.invariant) in
    ap characters whole ∙ characters-characters c.args.bytes.now ∙ sym whole
