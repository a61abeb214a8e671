use Rattle.std.proofs.Common.{◌++◌, ap, append_assoc, sym, ◌∙◌, List, ℕ}
use Rattle.wires.proofs.Written.{Puts_words-fails, Puts_words-then}
use Rattle.wires.proofs.sink.WordBytesBitSink.words.Goals as goal

pub returns-in_err-piece : goal.returns-in_err-piece
returns-in_err-piece g c =
    let i = c.loop-rest.invariant in
    let split = c.split_at.result in
    let whole = ap (λ (xs : List ℕ). i.0 ++ xs) (sym c.split_at.ensures.by_index.0) ∙ i.1 in
    Puts_words-fails _ _ _ i.0 split.0.now split.1.now c.args.words.now _ _ _ whole c.from_residual.ensures.0 i.2 c.in_err-piece.ensures

pub loop-rest-preserved : goal.loop-rest-preserved
loop-rest-preserved g c =
    let i = c.loop-rest.invariant in
    let split = c.split_at.result in
    let whole = ap (λ (xs : List ℕ). i.0 ++ xs) (sym c.split_at.ensures.by_index.0) ∙ i.1 in
    (i.0 ++ split.0.now, append_assoc i.0 split.0.now split.1.now ∙ whole, Puts_words-then _ _ _ i.0 split.0.now _ _ i.2 c.in_ok-piece.ensures)
