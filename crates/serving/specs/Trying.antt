-- A trial: the session of an input, and what receivers hear of its pages through a noise.
use Rattle.std.specs.Prelude.{◌≡◌, ◌≢◌, ◌⊎◌, ℕ, ◌≤◌, ◌<◌, Bool, List, [], ◌++◌, codes, length, IsTrue}
use Rattle.page_text.specs.Page.{Page}
use Rattle.wires.specs.Fronts.{IsFront}
use Rattle.subscribers.specs.Parts.{Parts}
use Rattle.tap_terminal.specs.Session.{Session}
use Rattle.wires.specs.Left.{Left, Took}
use Rattle.wires.specs.Stacked.{noisy_bits}
use Rattle.wires.specs.Written.{Written}
use Rattle.endings.specs.declared.statuses.Status.{Status}
use Rattle.endings.specs.declared.statuses.Status.TheVariants.{Done, FileFault, InputFault, OutFault}
use Rattle.serving.specs.Answering.{AnsweredBroken, AnsweredUnprinted}
use Rattle.serving.specs.Answers.{answer_lines}
use Rattle.listening.specs.Listening.{FailedAfter}
use Rattle.listening.specs.Noise.{ListensThrough}
use Rattle.serving.specs.Sent.{IsSent, Times}
use Rattle.serving.specs.TapSessions.{SessionOf}
use Rattle.endings.specs.Wrote.{FitFor, StaysWell, Wrote, WroteFront}

-- The session of an input, which was read up to its End or to its end, and what is sent of the pages that it accepted: their transmission,
-- once or twice.
pub record TriedSession (times : Times) (settings : Parts) (spare : ℕ) (old new : Left ℕ) : Type 0 where
  pub taken : List ℕ
  pub took : Took old new taken
  pub session : Session
  pub session_is : SessionOf settings spare taken session
  pub of_all : IsTrue old.tells → SessionOf settings spare old.left session
  pub air : List Bool
  pub is_sent : IsSent times session.pages air

-- what a trial prints: the lines of the answers, a line of three hyphens, and what is printed of these bits
abbrev pub trial_lines : (List Bool → List ℕ) → Session → List Bool → List ℕ
trial_lines printed session bits = answer_lines session.answers ++ codes "---\n" ++ printed bits

-- All was printed: what is heard of the transmission, each bit xor the noise's bit, and 0 behind the noise's end. Where
-- anything is transmitted, the noise was there. As many bits of the noise were read, or all that it had, and where nothing is transmitted it is
-- as before.
pub record TriedAll (times : Times) (settings : Parts) (spare : ℕ) (printed : List Bool → List ℕ) (old new : Left ℕ) (noise0 noise : Left Bool) (out0 out : Written ℕ) : Type 0 where
  pub tried : TriedSession times settings spare old new
  pub flips : List Bool
  pub took_flips : Took noise0 noise flips
  pub of_noise : IsTrue noise0.tells → noisy_bits tried.air flips ≡ noisy_bits tried.air noise0.left
  pub there : IsTrue noise0.tells → tried.air ≢ [] → IsTrue noise0.there
  pub wrote : Wrote out0 out (trial_lines printed tried.session (noisy_bits tried.air flips))
  pub few : length flips ≤ length tried.air
  pub fewer : IsTrue noise0.tells → length flips < length tried.air → noise.left ≡ []
  pub untouched : tried.air ≡ [] → noise ≡ noise0

-- The noise failed for a bit of the transmission. What is heard of the bits before was printed, and all that was printed is a front of the
-- lines of the whole trial. As many bits of the noise were read. Where there are any, the noise was there.
pub record TriedNoise (times : Times) (settings : Parts) (spare : ℕ) (printed : List Bool → List ℕ) (old new : Left ℕ) (noise0 noise : Left Bool) (out0 out : Written ℕ) : Type 0 where
  pub tried : TriedSession times settings spare old new
  pub heard : List Bool
  pub rest : List Bool
  pub air_is : tried.air ≡ heard ++ rest
  pub flips : List Bool
  pub failed : FailedAfter noise0 noise flips
  pub of_noise : IsTrue noise0.tells → noisy_bits heard flips ≡ noisy_bits heard noise0.left
  pub there : IsTrue noise0.tells → heard ≢ [] → IsTrue noise0.there
  pub wrote : Wrote out0 out (trial_lines printed tried.session (noisy_bits heard flips))
  pub as_many : length flips ≡ length heard
  pub more : 0 < length rest
  pub of_all : IsTrue noise0.tells → IsFront (trial_lines printed tried.session (noisy_bits heard flips)) (trial_lines printed tried.session (noisy_bits tried.air noise0.left))

-- A write failed behind the answers: a front of the lines was written of what is heard of a front of the transmission, and so a front of
-- the lines of the whole trial. Where bits were heard, the noise was there. As many bits of the noise were read, or all that it had, and where
-- no bit was heard it is as before.
pub record TriedFront (times : Times) (settings : Parts) (spare : ℕ) (printed : List Bool → List ℕ) (old new : Left ℕ) (noise0 noise : Left Bool) (out0 out : Written ℕ) : Type 0 where
  pub tried : TriedSession times settings spare old new
  pub heard : List Bool
  pub rest : List Bool
  pub air_is : tried.air ≡ heard ++ rest
  pub flips : List Bool
  pub took_flips : Took noise0 noise flips
  pub of_noise : IsTrue noise0.tells → noisy_bits heard flips ≡ noisy_bits heard noise0.left
  pub there : IsTrue noise0.tells → heard ≢ [] → IsTrue noise0.there
  pub wrote : WroteFront out0 out (trial_lines printed tried.session (noisy_bits heard flips))
  pub few : length flips ≤ length heard
  pub fewer : IsTrue noise0.tells → length flips < length heard → noise.left ≡ []
  pub untouched : heard ≡ [] → noise ≡ noise0
  pub of_all : IsTrue noise0.tells → WroteFront out0 out (trial_lines printed tried.session (noisy_bits tried.air noise0.left))

-- A write failed among the answers: a front of the answer lines of the whole input was written. The noise is as before.
pub record TriedAnswers (settings : Parts) (spare : ℕ) (old new : Left ℕ) (noise0 noise : Left Bool) (out0 out : Written ℕ) : Type 0 where
  pub taken : List ℕ
  pub unprinted : AnsweredUnprinted settings spare old new out0 out taken
  pub noise_is : noise ≡ noise0
  pub of_all : IsTrue old.tells → (session : Session) → SessionOf settings spare old.left session → WroteFront out0 out (answer_lines session.answers)

-- A read of the input failed: the answer lines that were printed are a front of those of the whole input. The noise is as before.
pub record TriedInput (settings : Parts) (spare : ℕ) (old new : Left ℕ) (noise0 noise : Left Bool) (out0 out : Written ℕ) : Type 0 where
  pub broken : AnsweredBroken settings spare old new out0 out
  pub noise_is : noise ≡ noise0
  pub of_all : IsTrue old.tells → (session : Session) → SessionOf settings spare old.left session → IsFront (answer_lines broken.session.answers) (answer_lines session.answers)

-- a trial, by status
abbrev pub Tries : Times → Parts → ℕ → (List Bool → List ℕ) → Left ℕ → Left ℕ → Left Bool → Left Bool → Written ℕ → Written ℕ → Status → Type 0
Tries times settings spare printed old new noise0 noise out0 out Done = TriedAll times settings spare printed old new noise0 noise out0 out
Tries times settings spare printed old new noise0 noise out0 out FileFault = TriedNoise times settings spare printed old new noise0 noise out0 out
Tries times settings spare printed old new noise0 noise out0 out InputFault = TriedInput settings spare old new noise0 noise out0 out
Tries times settings spare printed old new noise0 noise out0 out OutFault =
    TriedAnswers settings spare old new noise0 noise out0 out ⊎ TriedFront times settings spare printed old new noise0 noise out0 out
Tries times settings spare printed old new noise0 noise out0 out other = ⊥

-- What receivers heard of what was sent of pages, through a noise.
pub record HearsPages (times : Times) (pages : List Page) (printed : List Bool → List ℕ) (noise0 noise : Left Bool) (out0 out : Written ℕ) (status : Status) : Type 0 where
  pub air : List Bool
  pub is_sent : IsSent times pages air
  pub heard : ListensThrough printed air noise0 noise out0 out status

-- Over a steady output with room for all lines of the trial, no write failed, and the output is steady.
abbrev pub TrialOutWell : Times → Parts → ℕ → (List Bool → List ℕ) → Left ℕ → Left Bool → Written ℕ → Written ℕ → Status → Type 0
TrialOutWell times settings spare printed input noise out0 out status = IsTrue input.tells → IsTrue noise.tells
    → (session : Session) (air : List Bool) → SessionOf settings spare input.left session → IsSent times session.pages air
    → FitFor out0 (trial_lines printed session (noisy_bits air noise.left)) → (status ≢ OutFault) × StaysWell out0 out
