-- Over an output with room for all lines of a trial, no write of it fails.
use Rattle.std.proofs.Common.{◌≡◌, ℕ, ◌≤◌, inl, inr, Bool, List, ◌++◌, length, length-append, IsTrue, sym, ◌∙◌, ap, ap₂, subst, arith}
use Rattle.std.specs.Prelude.{codes}
use Rattle.page_text.specs.Page.{Page}
use Rattle.subscribers.specs.Directory.{directory_of}
use Rattle.subscribers.specs.Parts.{Parts}
use Rattle.tap_block.specs.Chars.{characters}
use Rattle.tap_terminal.specs.Session.{Session}
use Rattle.tap_terminal.proofs.Sessions.{one_session}
use Rattle.wires.specs.Left.{Left}
use Rattle.wires.specs.Stacked.{noisy_bits}
use Rattle.wires.specs.Written.{Written}
use Rattle.endings.specs.declared.statuses.Status.{Status}
use Rattle.endings.specs.declared.statuses.Status.TheVariants.{Done, FileFault, InputFault, OutFault}
use Rattle.serving.specs.Answers.{answer_lines}
use Rattle.serving.specs.Sent.{IsSent, Times, once, twice}
use Rattle.serving.specs.TapSessions.{SessionOf}
use Rattle.serving.specs.Trying.{TrialOutWell, TriedSession, Tries, trial_lines}
use Rattle.listening.proofs.Listens.{length-front}
use Rattle.air.proofs.OneAir.{one_air}
use Rattle.listening.proofs.WellListened.{wrote_well}

-- the answers are no longer than all lines
short_answers : (printed : List Bool → List ℕ) (session : Session) (bits : List Bool) → length (answer_lines session.answers) ≤ length (trial_lines printed session bits)
short_answers printed session bits =
    omega (arith, length-append (answer_lines session.answers ++ codes "---\n") (printed bits), length-append (answer_lines session.answers) (codes "---\n"))

-- what is sent of accepted pages is nothing else
pub one_sent : (times : Times) (accepted : List Page) (sent other : List Bool) → IsSent times accepted sent → IsSent times accepted other → other ≡ sent
one_sent once accepted sent other h k = one_air accepted sent other h k
one_sent twice accepted sent other h k =
    k.2 ∙ ap (λ (air : List Bool). air ++ air) (one_air accepted h.0 k.0 h.1 k.1) ∙ sym h.2

-- the session of an input, and what is sent, are no others
lines_are : (times : Times) (settings : Parts) (spare : ℕ) (printed : List Bool → List ℕ) (input0 input : Left ℕ) (tried : TriedSession times settings spare input0 input) (session : Session) (air noise : List Bool)
    → IsTrue input0.tells → SessionOf settings spare input0.left session → IsSent times session.pages air
    → trial_lines printed session (noisy_bits air noise) ≡ trial_lines printed tried.session (noisy_bits tried.air noise)
lines_are times settings spare printed input0 input tried session air noise it is is_air =
    let same : session ≡ tried.session =
    one_session settings.password (directory_of settings) spare (characters input0.left) session tried.session is (tried.of_all it) in
    let airs : air ≡ tried.air = one_sent times tried.session.pages tried.air air tried.is_sent (subst (λ (s : Session). IsSent times s.pages air) same is_air) in
    ap₂ (λ (s : Session) (z : List Bool). trial_lines printed s (noisy_bits z noise)) same airs

pub tried_well : (times : Times) (settings : Parts) (spare : ℕ) (printed : List Bool → List ℕ) (input0 input : Left ℕ) (noise0 noise : Left Bool) (out0 out : Written ℕ) (status : Status)
    → Tries times settings spare printed input0 input noise0 noise out0 out status → TrialOutWell times settings spare printed input0 noise0 out0 out status
tried_well times settings spare printed input0 input noise0 noise out0 out Done h = λ it nt session air is is_air fit.
    let t = h.tried in
    let same = lines_are times settings spare printed input0 input t session air noise0.left it is is_air in
    let heard = ap (trial_lines printed t.session) (h.of_noise nt) in
    (λ e. cc, wrote_well out0 out (trial_lines printed t.session (noisy_bits t.air h.flips)) (trial_lines printed session (noisy_bits air noise0.left)) h.wrote fit (omega (arith, ap length same, ap length heard)))
tried_well times settings spare printed input0 input noise0 noise out0 out FileFault h = λ it nt session air is is_air fit.
    let t = h.tried in
    let same = lines_are times settings spare printed input0 input t session air noise0.left it is is_air in
    let short = length-front (trial_lines printed t.session (noisy_bits h.heard h.flips)) (trial_lines printed t.session (noisy_bits t.air noise0.left)) (h.of_all nt) in
    (λ e. cc, wrote_well out0 out (trial_lines printed t.session (noisy_bits h.heard h.flips)) (trial_lines printed session (noisy_bits air noise0.left)) h.wrote fit (omega (arith, ap length same, short)))
tried_well times settings spare printed input0 input noise0 noise out0 out InputFault h = λ it nt session air is is_air fit.
    let b = h.broken in
    let short = length-front (answer_lines b.session.answers) (answer_lines session.answers) (h.of_all it session is) in
    (λ e. cc, wrote_well out0 out (answer_lines b.session.answers) (trial_lines printed session (noisy_bits air noise0.left)) b.wrote fit (omega (arith, short, short_answers printed session (noisy_bits air noise0.left))))
tried_well times settings spare printed input0 input noise0 noise out0 out OutFault (inl h) = λ it nt session air is is_air fit.
    absurd ((h.of_all it session is).unfit fit.tells fit.steady (omega (arith, fit.room, short_answers printed session (noisy_bits air noise0.left))))
tried_well times settings spare printed input0 input noise0 noise out0 out OutFault (inr h) = λ it nt session air is is_air fit.
    let same = lines_are times settings spare printed input0 input h.tried session air noise0.left it is is_air in
    absurd ((h.of_all nt).unfit fit.tells fit.steady (omega (arith, fit.room, ap length same)))
tried_well times settings spare printed input0 input noise0 noise out0 out other h = elim h [ ]
