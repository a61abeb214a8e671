-- A session that is read from an input, and whose answers are printed.
use Rattle.std.specs.Prelude.{◌≡◌, ℕ, false, List, ◌++◌, IsTrue, Result, Ok, Err}
use Rattle.page_pool.specs.Pool.{Pool, cells, pages}
use Rattle.subscribers.specs.Parts.{Parts}
use Rattle.tap_terminal.specs.State.{TerminalState}
use Rattle.tap_terminal.specs.Session.{Session}
use Rattle.wires.specs.Causes.{Rose}
use Rattle.wires.specs.Left.{Left, Took}
use Rattle.wires.specs.Written.{Written}
use Rattle.serving.specs.declared.answering.Course.{Course}
use Rattle.serving.specs.declared.answering.Course.TheVariants.{GoesOn, Ended}
use Rattle.serving.specs.declared.answering.InputEnd.{InputEnd}
use Rattle.serving.specs.declared.answering.InputEnd.TheVariants.{Answered, Broken, Unprinted}
use Rattle.serving.specs.Answers.{answer_lines}
use Rattle.serving.specs.TapSessions.{SessionOf, TerminalStandsFor, has_end_answer}
use Rattle.wires.specs.Fronts.{IsFront}
use Rattle.endings.specs.Wrote.{Wrote, WroteFront}

-- The pool gained the pages of a session.
pub record GainedPages (session : Session) (before after : Pool) : Type 0 where
  pub pages_are : pages after ≡ pages before ++ session.pages
  pub cells_stay : cells after ≡ cells before

-- A session is under way: of the bytes that were taken, these are still to be fed, and the others are answered. No End came.
pub record Answering (settings : Parts) (spare : ℕ) (old now : Left ℕ) (before pool : Pool) (desk : TerminalState) (out0 out : Written ℕ) (taken ahead : List ℕ) : Type 0 where
  pub fed : List ℕ
  pub session : Session
  pub taken_is : taken ≡ fed ++ ahead
  pub took : Took old now taken
  pub stands : TerminalStandsFor settings spare desk fed session pool.spare
  pub no_end : has_end_answer session.answers ≡ false
  pub gained : GainedPages session before pool
  pub wrote : Wrote out0 out (answer_lines session.answers)

-- What a session leaves: the terminal stands for the bytes that were fed, so that its report is the session's, and the pool gained the
-- session's pages.
pub record LeavesSession (settings : Parts) (spare : ℕ) (session : Session) (before pool : Pool) (desk : TerminalState) : Type 0 where
  pub fed : List ℕ
  pub stands : TerminalStandsFor settings spare desk fed session pool.spare
  pub gained : GainedPages session before pool

-- An End was answered: this is the session of the bytes that were taken, whatever follows them.
pub record AnsweredToEnd (settings : Parts) (spare : ℕ) (old now : Left ℕ) (before pool : Pool) (desk : TerminalState) (out0 out : Written ℕ) (taken : List ℕ) : Type 0 where
  pub session : Session
  pub session_is : (more : List ℕ) → SessionOf settings spare (taken ++ more) session
  pub took : Took old now taken
  pub leaves : LeavesSession settings spare session before pool desk
  pub wrote : Wrote out0 out (answer_lines session.answers)

-- An answer couldn't be printed: a front of the lines was written of the answers to a front of what was taken.
pub record AnsweredUnprinted (settings : Parts) (spare : ℕ) (old now : Left ℕ) (out0 out : Written ℕ) (taken : List ℕ) : Type 0 where
  pub fed : List ℕ
  pub fed_is : IsFront fed taken
  pub session : Session
  pub session_is : SessionOf settings spare fed session
  pub took : Took old now taken
  pub wrote : WroteFront out0 out (answer_lines session.answers)

-- An answer couldn't be printed, and this is left of the session that it ended.
pub record StoppedUnprinted (settings : Parts) (spare : ℕ) (old now : Left ℕ) (before pool : Pool) (desk : TerminalState) (out0 out : Written ℕ) (taken : List ℕ) : Type 0 where
  pub unprinted : AnsweredUnprinted settings spare old now out0 out taken
  pub leaves : LeavesSession settings spare unprinted.session before pool desk

-- It goes on, it ended, or an answer couldn't be printed.
abbrev pub AnswersOn : {E : Type 0} → Parts → ℕ → Left ℕ → Left ℕ → Pool → Pool → TerminalState → Written ℕ → Written ℕ → List ℕ → List ℕ → Result Course E → Type 0
AnswersOn settings spare old now before pool desk out0 out taken ahead (Ok GoesOn) = Answering settings spare old now before pool desk out0 out taken ahead
AnswersOn settings spare old now before pool desk out0 out taken ahead (Ok Ended) = AnsweredToEnd settings spare old now before pool desk out0 out taken
AnswersOn settings spare old now before pool desk out0 out taken ahead (Err _) = StoppedUnprinted settings spare old now before pool desk out0 out taken

-- The session of the input was answered: this is the session of all that was left, of which enough was taken. No call failed.
pub record AnsweredInput (settings : Parts) (spare : ℕ) (old new : Left ℕ) (before after : Pool) (desk : TerminalState) (out0 out : Written ℕ) : Type 0 where
  pub taken : List ℕ
  pub took : Took old new taken
  pub session : Session
  pub session_is : SessionOf settings spare taken session
  pub of_all : IsTrue old.tells → SessionOf settings spare old.left session
  pub leaves : LeavesSession settings spare session before after desk
  pub wrote : Wrote out0 out (answer_lines session.answers)

-- A read failed after these bytes, which no steady input has. The answers to them were printed.
pub record AnsweredBroken (settings : Parts) (spare : ℕ) (old new : Left ℕ) (out0 out : Written ℕ) : Type 0 where
  pub taken : List ℕ
  pub tells : new.tells ≡ old.tells
  pub left : IsTrue old.tells → old.left ≡ taken ++ new.left
  pub unsteady : IsTrue old.tells → IsTrue old.steady → ⊥
  pub faults : Rose old.faults new.faults
  pub lent : new.lent ≡ old.lent
  pub session : Session
  pub session_is : SessionOf settings spare taken session
  pub wrote : Wrote out0 out (answer_lines session.answers)

-- A read failed, and this is left of the session that it ended.
pub record StoppedBroken (settings : Parts) (spare : ℕ) (old new : Left ℕ) (before after : Pool) (desk : TerminalState) (out0 out : Written ℕ) : Type 0 where
  pub broken : AnsweredBroken settings spare old new out0 out
  pub leaves : LeavesSession settings spare broken.session before after desk

-- how the answers to an input ended
abbrev pub AnswersInput : Parts → ℕ → Left ℕ → Left ℕ → Pool → Pool → TerminalState → Written ℕ → Written ℕ → InputEnd → Type 0
AnswersInput settings spare old new before after desk out0 out Answered = AnsweredInput settings spare old new before after desk out0 out
AnswersInput settings spare old new before after desk out0 out Broken = StoppedBroken settings spare old new before after desk out0 out
AnswersInput settings spare old new before after desk out0 out Unprinted = (taken : List ℕ) × StoppedUnprinted settings spare old new before after desk out0 out taken
