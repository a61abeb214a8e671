use Rattle.std.proofs.Common.{ℕ, List, ◌∷◌, [], ◌∙◌, subst, arith}
use Rattle.receiver.specs.Slots.{Batch, Slot}
use Rattle.wires.specs.Pieces.{taken_of}
use Rattle.wires.specs.Written.{Puts}
use Rattle.listening.specs.Table.{table_of}
use Rattle.listening.proofs.HeardFronts.{table_of-grow}
use Rattle.listening.proofs.Listens.{prints_whole, taken_some}
use Rattle.listening.proofs.Tables.{prints_batch, prints_nothing, prints_slot, stands_on}
use Rattle.listening.proofs.table.TableListener.hear.Goals as goal

pub returns-in-Still-clause-prints : goal.returns-in-Still-clause-prints
returns-in-Still-clause-prints g c = λ bits lt h.
    prints_nothing _ _ bits (taken_of c.args.piece.now c.feed_piece.new.piece) (g.O.Sink.state c.args.out.now) h (c.in-Still.ensures.shows bits h.front_is).table

pub returns-in-Lost-clause-prints : goal.returns-in-Lost-clause-prints
returns-in-Lost-clause-prints g c = λ bits lt h.
    prints_nothing _ _ bits (taken_of c.args.piece.now c.feed_piece.new.piece) (g.O.Sink.state c.args.out.now) h (c.in-Lost.ensures.shows bits h.front_is).table

pub returns-in-Batch-clause-fed : goal.returns-in-Batch-clause-fed
returns-in-Batch-clause-fed g c = λ bits lt h.
    let s = c.in-Batch.ensures.shows bits h.front_is in
    let some = taken_some c.args.piece.now c.feed_piece.new.piece c.in-Batch.ensures.whole (c.in-Batch.ensures.some c.requires) in
    stands_on _ _ _ bits (taken_of c.args.piece.now c.feed_piece.new.piece) (Batch ∷ []) _ h s.stands s.table (omega (arith, c.saturating_add-self.ensures, h.few, lt)) (omega (arith, some))

pub returns-in-Batch-clause-prints : goal.returns-in-Batch-clause-prints
returns-in-Batch-clause-prints g c = λ bits lt h.
    let s = c.in-Batch.ensures.shows bits h.front_is in
    prints_whole table_of bits c.args.piece.now c.feed_piece.new.piece (g.O.Sink.state c.args.out.now) (g.O.Sink.state c.put.new.self) c.put.result table_of-grow c.in-Batch.ensures.whole
    (prints_batch _ _ bits (taken_of c.args.piece.now c.feed_piece.new.piece) c.saturating_add-self.result (g.O.Sink.state c.args.out.now) (g.O.Sink.state c.put.new.self) c.put.result h
    (omega (arith, c.saturating_add-self.ensures, h.few, lt)) s.table
    (subst (λ (piece : List ℕ). Puts (g.O.Sink.state c.args.out.now) (g.O.Sink.state c.put.new.self) piece c.put.result) (c.deref.ensures.0 ∙ c.batch_line.ensures) c.put.ensures))

pub returns-in-Slot-clause-fed : goal.returns-in-Slot-clause-fed
returns-in-Slot-clause-fed g c = λ bits lt h.
    let s = c.in-Slot.ensures.shows bits h.front_is in
    stands_on _ _ _ bits (taken_of c.args.piece.now c.feed_piece.new.piece) (Slot c.in-Slot.place c.in-Slot.word ∷ []) _ h s.stands s.table (omega arith) (omega arith)

pub returns-in-Slot-clause-prints : goal.returns-in-Slot-clause-prints
returns-in-Slot-clause-prints g c = λ bits lt h.
    let s = c.in-Slot.ensures.shows bits h.front_is in
    prints_whole table_of bits c.args.piece.now c.feed_piece.new.piece (g.O.Sink.state c.args.out.now) (g.O.Sink.state c.put-in-Slot.new.self) c.put-in-Slot.result table_of-grow c.in-Slot.ensures.whole
    (prints_slot _ _ bits (taken_of c.args.piece.now c.feed_piece.new.piece) c.in-Slot.place c.in-Slot.word (g.O.Sink.state c.args.out.now) (g.O.Sink.state c.put-in-Slot.new.self) c.put-in-Slot.result h s.table
    (subst (λ (piece : List ℕ). Puts (g.O.Sink.state c.args.out.now) (g.O.Sink.state c.put-in-Slot.new.self) piece c.put-in-Slot.result) (c.deref-in-Slot.ensures.0 ∙ c.slot_line.ensures) c.put-in-Slot.ensures))
