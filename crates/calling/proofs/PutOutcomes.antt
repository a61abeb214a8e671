-- Lines about outcomes, one after another.
use Rattle.std.proofs.Common.{◌≡◌, ℕ, ◌+◌, ◌*◌, ◌≤◌, ◌<◌, List, [], ◌∷◌, ◌++◌, append_assoc, codes, decimal, drop, drop-cons, get_or, length, length-append, suc, Result, Ok, Err, IsErr, sym, ◌∙◌, ap, subst, arith}
use Rattle.std.proofs.lemmas.Fmt.{length-decimal-le}
use Rattle.tap_entry.specs.declared.outcomes.Outcome.{Outcome}
use Rattle.tap_entry.specs.declared.outcomes.Outcome.TheVariants.{Sent, Abandoned, TriesSpent, Disconnected, NoLogon}
use Rattle.wires.specs.Written.{Puts, Written}
use Rattle.wires.proofs.Written.{Puts-cut, Puts-then}
use Rattle.calling.specs.OutcomeLines.{lines_from, outcome_line, outcome_lines, outcome_word}

-- the lines from a place on
pub lines_at : (outcomes : List Outcome) (k n : ℕ) → k < length outcomes → lines_from n (drop k outcomes) ≡ outcome_line n (get_or outcomes k Sent) ++ lines_from (n + 1) (drop (k + 1) outcomes)
lines_at outcomes k n lt = ap (lines_from n) (drop-cons outcomes k Sent lt) ∙ ap (λ j. outcome_line n (get_or outcomes k Sent) ++ lines_from (n + 1) (drop j outcomes)) (let e : suc k ≡ k + 1 = omega arith in e)

-- the lines that are put, one more, and the lines that are left
pub line_more : (outcomes : List Outcome) (k : ℕ) (lines : List ℕ) → k < length outcomes → outcome_lines outcomes ≡ lines ++ lines_from (k + 1) (drop k outcomes)
    → outcome_lines outcomes ≡ (lines ++ outcome_line (k + 1) (get_or outcomes k Sent)) ++ lines_from (k + 1 + 1) (drop (k + 1) outcomes)
line_more outcomes k lines lt h =
    h ∙ (ap (λ z. lines ++ z) (lines_at outcomes k (k + 1) lt) ∙ sym (append_assoc lines (outcome_line (k + 1) (get_or outcomes k Sent)) (lines_from (k + 1 + 1) (drop (k + 1) outcomes))))

-- a put that failed
pub line_fails : {T U E F G : Type 0} (outcomes : List Outcome) (k : ℕ) (lines : List ℕ) (a b c : Written ℕ) (x : T) (e : F) (r : Result U G) → k < length outcomes → outcome_lines outcomes ≡ lines ++ lines_from (k + 1) (drop k outcomes) → IsErr r
    → Puts {E = E} a b lines (Ok x) → Puts {T = U} b c (outcome_line (k + 1) (get_or outcomes k Sent)) (Err e) → Puts a c (outcome_lines outcomes) r
line_fails {T} {U} {E} {F} {G} outcomes k lines a b c x e r lt h bad p q =
    let line = outcome_line (k + 1) (get_or outcomes k Sent) in
    let rest = lines_from (k + 1 + 1) (drop (k + 1) outcomes) in
    let w : Puts {T = U} {E = F} a c (lines ++ line) (Err e) = Puts-then a b c lines line x (Err e) p q in
    subst (λ z. Puts a c z r) (sym (line_more outcomes k lines lt h)) (Puts-cut {T = U} a c (lines ++ line) rest e r bad w)

word_few : (outcome : Outcome) → length (outcome_word outcome) ≤ 12
word_few Sent = omega arith
word_few Abandoned = omega arith
word_few TriesSpent = omega arith
word_few Disconnected = omega arith
word_few NoLogon = omega arith

line_few : (n : ℕ) (outcome : Outcome) → n < 10000 → length (outcome_line n outcome) ≤ 20
line_few n outcome lt =
    let d : length (decimal n) ≤ 4 = length-decimal-le 4 n (omega arith) (omega (arith, lt)) (omega (arith, lt)) in
    let w = word_few outcome in
    let a = length-append (decimal n) (codes " " ++ (outcome_word outcome ++ 10 ∷ [])) in
    let b = length-append (outcome_word outcome) (10 ∷ []) in
    omega (arith, d, w, a, b)

-- a line has at most 20 bytes
pub lines_few : (outcomes : List Outcome) (n : ℕ) → n + length outcomes < 10000 → length (lines_from n outcomes) ≤ 20 * length outcomes
lines_few [] n lt = omega arith
lines_few (o ∷ outcomes) n lt =
    let a = length-append (outcome_line n o) (lines_from (n + 1) outcomes) in
    let b = line_few n o (omega (arith, lt)) in
    let c = lines_few outcomes (n + 1) (omega (arith, lt)) in
    omega (arith, a, b, c)
