-- What happened on an open connection, and a piece said there in one call or in several.
use Rattle.std.proofs.Common.{◌≡◌, ◌≢◌, ℕ, ◌-◌, ◌≤◌, List, ◌++◌, length, length-append, take, Ok, Err, IsTrue, sym, ◌∙◌, ap, subst, arith}
use Rattle.wires.specs.Below.{KeepsAround, Speaks}
use Rattle.wires.specs.Line.{Line, last}
use Rattle.wires.proofs.Written.{still, no_ok}
use Rattle.endings.specs.Talk.{here, Grew, Talked, Calm}
use Rattle.endings.proofs.Talks.{grew_says, back, cut_at, room_here}

others_still : (a b c : Line) → b.opened ≡ a.opened → b.is_open ≡ a.is_open → ((k : ℕ) → (IsTrue a.is_open → k ≢ last a) → b.connection k ≡ a.connection k) → KeepsAround b c → (k : ℕ) → (IsTrue a.is_open → k ≢ last a) → c.connection k ≡ a.connection k
others_still a b c e o h u k ne = u.others k (λ p q. ne (back o p) (q ∙ ap (λ (m : ℕ). m - 1) e)) ∙ h k ne

talked_around : (a b c : Line) (took gave gave2 : List ℕ) (turns : List (ℕ × ℕ)) → Talked a b took gave turns → b.is_open ≡ a.is_open → c.tells ≡ b.tells → KeepsAround b c
    → (IsTrue b.tells → IsTrue b.is_open → Grew (here a) (here b) took gave turns → Grew (here a) (c.connection (last b)) took gave2 turns)
    → Talked a c took gave2 turns
talked_around a b c took gave gave2 turns t o s u f = record {
  tells = s ∙ t.tells;
  count = u.count ∙ t.count;
  lent = u.lent ∙ t.lent;
  opened = u.opened ∙ t.opened;
  asked = u.asked ∙ t.asked;
  grew = λ k p. subst (λ (m : ℕ). Grew (here a) (c.connection (m - 1)) took gave2 turns) t.opened
      (f (still t.tells k) (still o p) (subst (λ (m : ℕ). Grew (here a) (b.connection (m - 1)) took gave turns) (sym t.opened) (t.grew k p)));
  others = others_still a b c t.opened o t.others u;
  gate = u.gate ∙ t.gate;
}

pub talked_speaks : {T E : Type 0} (a b c : Line) (took gave : List ℕ) (turns : List (ℕ × ℕ)) (piece : List ℕ) (x : T) → Talked a b took gave turns → b.is_open ≡ a.is_open → Speaks {E = E} b c piece (Ok x) → Talked a c took (gave ++ piece) turns
talked_speaks a b c took gave turns piece x t o h = talked_around a b c took gave (gave ++ piece) turns t o h.tells h.around
    (λ k p g. let q = h.around.heard p in grew_says (here a) (here b) (c.connection (last b)) took gave piece turns g q.rest q.heard (h.said k) (h.room k) q.turns)

pub talked_speaks_cut : {T E : Type 0} (a b c : Line) (took gave : List ℕ) (turns : List (ℕ × ℕ)) (piece : List ℕ) (e : E) → Talked a b took gave turns → b.is_open ≡ a.is_open → Speaks {T = T} b c piece (Err e)
    → (n : ℕ) × (n ≤ length piece) × Talked a c took (gave ++ take n piece) turns
talked_speaks_cut a b c took gave turns piece e t o h =
    let k = cut_at b.tells (here b).said (c.connection (last b)).said piece h.said in (
      k.0,
      k.1,
      talked_around a b c took gave (gave ++ take k.0 piece) turns t o h.tells h.around
          (λ p q g. let w = h.around.heard q in grew_says (here a) (here b) (c.connection (last b)) took gave (take k.0 piece) turns g w.rest w.heard (k.2 p) (h.room p) w.turns),
    )

pub calm_speaks : {T E : Type 0} (a b c : Line) (took gave : List ℕ) (turns : List (ℕ × ℕ)) (piece : List ℕ) (x : T) → Talked a b took gave turns → Calm a b gave → b.is_open ≡ a.is_open → Speaks {E = E} b c piece (Ok x) → Calm a c (gave ++ piece)
calm_speaks a b c took gave turns piece x t m o h = record {
  hear = h.around.hear ∙ m.hear;
  say = h.cause.kept ∙ m.say;
  steady = λ k p s f. (h.steady (still t.tells k) (m.steady k p s (omega (arith, f, length-append gave piece))) (still o p) (room_here a b took gave turns piece t k p f)).1;
}

-- over a steady wire with room for it nothing that is said fails
pub no_cut_speaks : {T E : Type 0} {B : Type 0} (a b c : Line) (took gave : List ℕ) (turns : List (ℕ × ℕ)) (piece : List ℕ) (e : E) → Talked a b took gave turns → Calm a b gave → b.is_open ≡ a.is_open → Speaks {T = T} b c piece (Err e)
    → IsTrue a.tells → IsTrue a.is_open → IsTrue a.steady → length (gave ++ piece) ≤ (here a).room → B
no_cut_speaks {T} {E} a b c took gave turns piece e t m o h k p s f =
    no_ok T E e (h.steady (still t.tells k) (m.steady k p s (omega (arith, f, length-append gave piece))) (still o p) (room_here a b took gave turns piece t k p f)).0
