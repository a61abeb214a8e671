use Rattle.std.proofs.Common.{refl, sym, ◌∙◌, ap, subst, ℕ, List}
use Rattle.snpp_entry.specs.declared.answers.SnppAnswer.TheVariants.{Command}
use Rattle.snpp_entry.specs.Lines.{without_cr}
use Rattle.subscribers.specs.Directory.{directory_of}
use Rattle.snpp_entry.specs.Rows.{outcome, Outcome}
use Rattle.snpp_entry.specs.Seen.{pending_of}
use Rattle.snpp_entry.specs.State.{IsOutcomeDone}
use Rattle.snpp_entry.proofs.Pieces.{kept_whole, long_line}
use Rattle.snpp_entry.proofs.Outcomes.{long_outcome}
use Rattle.snpp_entry.proofs.pending.answer_piece.Goals as goal

pub returns-then-count-clause-done : goal.returns-then-count-clause-done
returns-then-count-clause-done c piece h =
    subst (λ (o : Outcome). IsOutcomeDone o Command 0 (pending_of c.args.pending.now) c.args.pool.now c.args.pool.now)
    (sym (long_outcome (directory_of c.args.settings.now) c.args.pool.now.spare (pending_of c.args.pending.now) (without_cr piece) (long_line piece c.args.kept.now c.args.count h c.if-count.true)))
    (record { answer_is = refl; count_is = refl; pending_is = refl; pool = refl })

pub returns-clause-done : goal.returns-clause-done
returns-clause-done c piece h =
    subst (λ (line : List ℕ). IsOutcomeDone (outcome (directory_of c.args.settings.now) c.args.pool.now.spare (pending_of c.args.pending.now) line) c.answer.result.0 c.answer.result.1 (pending_of c.answer.new.pending) c.args.pool.now c.answer.new.pool)
    (c.line_of.ensures.line ∙ ap without_cr (kept_whole piece c.args.kept.now c.args.count h c.if-count.false)) c.answer.ensures.done
