-- What happened on an open connection, and one call more.
use Rattle.std.proofs.Common.{◌≡◌, ◌≢◌, ℕ, ◌+◌, ◌-◌, ◌≤◌, ◌<◌, Bool, true, false, List, [], ◌∷◌, ◌++◌, append-nil, append_assoc, length, length-append, take, Ok, Err, IsTrue, refl, sym, ◌∙◌, ap, subst, arith}
use Rattle.std.proofs.lemmas.List.{length-take-le}
use Rattle.wires.specs.Held.{Connection}
use Rattle.wires.specs.Left.{Consumes}
use Rattle.wires.specs.Line.{Line, Hears, KeepsSaid, Says, TurnsAfter, Uses, last}
use Rattle.wires.specs.Written.{AppendsFront}
use Rattle.wires.proofs.Written.{still, no_ok}
use Rattle.endings.specs.Talk.{here, Grew, Talked, Calm}

pub grew_nothing : (c : Connection) → Grew c c [] [] []
grew_nothing c = record { rest = refl; heard_is = omega arith; said_is = sym (append-nil c.said); room = omega arith; turns_are = sym (append-nil c.turns) }

pub grew_hears : (E : Type 0) (c d e : Connection) (took gave : List ℕ) (turns : List (ℕ × ℕ)) (buffer : List ℕ) (n : ℕ)
    → Grew c d took gave turns → 0 < n → n ≤ length buffer → Consumes {E = E} d.rest e.rest buffer (Ok n) → TurnsAfter {E = E} d e (Ok n) → KeepsSaid d e
    → Grew c e (took ++ take n buffer) gave (turns ++ (c.heard + length took, length c.said + length gave) ∷ [])
grew_hears E c d e took gave turns buffer n g lt le r t s =
    let at : (d.heard, length d.said) ≡ (c.heard + length took, length c.said + length gave) = λ i. (g.heard_is i, (ap length g.said_is ∙ length-append c.said gave) i) in
    record {
      rest = g.rest ∙ (ap (λ (z : List ℕ). took ++ z) r.0 ∙ sym (append_assoc took (take n buffer) e.rest));
      heard_is = omega (arith, t.2, g.heard_is, length-append took (take n buffer), length-take-le n buffer le);
      said_is = s.said ∙ g.said_is;
      room = omega (arith, s.room, g.room);
      turns_are = t.1 lt ∙ (ap (λ (z : List (ℕ × ℕ)). z ++ (d.heard, length d.said) ∷ []) g.turns_are ∙ (append_assoc c.turns turns ((d.heard, length d.said) ∷ []) ∙ ap (λ (z : ℕ × ℕ). c.turns ++ (turns ++ z ∷ [])) at));
    }

pub grew_same : (c d e : Connection) (took gave : List ℕ) (turns : List (ℕ × ℕ)) → Grew c d took gave turns → e.rest ≡ d.rest → e.heard ≡ d.heard → e.said ≡ d.said → e.room ≡ d.room → e.turns ≡ d.turns → Grew c e took gave turns
grew_same c d e took gave turns g r h s q t = record {
  rest = g.rest ∙ ap (λ (z : List ℕ). took ++ z) (sym r);
  heard_is = h ∙ g.heard_is;
  said_is = s ∙ g.said_is;
  room = omega (arith, q, g.room);
  turns_are = t ∙ g.turns_are;
}

pub grew_says : (c d e : Connection) (took gave piece : List ℕ) (turns : List (ℕ × ℕ)) → Grew c d took gave turns → e.rest ≡ d.rest → e.heard ≡ d.heard → e.said ≡ d.said ++ piece → e.room + length e.said ≡ d.room + length d.said → e.turns ≡ d.turns
    → Grew c e took (gave ++ piece) turns
grew_says c d e took gave piece turns g r h s q t = record {
  rest = g.rest ∙ ap (λ (z : List ℕ). took ++ z) (sym r);
  heard_is = h ∙ g.heard_is;
  said_is = s ∙ (ap (λ (z : List ℕ). z ++ piece) g.said_is ∙ append_assoc c.said gave piece);
  room = omega (arith, q, g.room, ap length s, length-append d.said piece, length-append gave piece);
  turns_are = t ∙ g.turns_are;
}

pub talked_nothing : (a : Line) → Talked a a [] [] []
talked_nothing a = record { tells = refl; count = refl; lent = refl; opened = refl; asked = refl; grew = λ _ _. grew_nothing (here a); others = λ _ _. refl; gate = refl }

pub back : {a b : Bool} → b ≡ a → IsTrue b → IsTrue a
back e o = subst IsTrue e o

-- the others stay
others_then : (a b c : Line) → b.opened ≡ a.opened → b.is_open ≡ a.is_open → ((k : ℕ) → (IsTrue a.is_open → k ≢ last a) → b.connection k ≡ a.connection k) → Uses b c → (k : ℕ) → (IsTrue a.is_open → k ≢ last a) → c.connection k ≡ a.connection k
others_then a b c e o h u k ne = u.others k (λ p q. ne (back o p) (q ∙ ap (λ (m : ℕ). m - 1) e)) ∙ h k ne

-- one call more, which left the connection as Grew says
pub talked_on : (a b c : Line) (took gave : List ℕ) (turns : List (ℕ × ℕ)) (took2 gave2 : List ℕ) (turns2 : List (ℕ × ℕ)) → Talked a b took gave turns → b.is_open ≡ a.is_open → Uses b c → c.gate ≡ b.gate
    → (IsTrue b.tells → IsTrue b.is_open → Grew (here a) (here b) took gave turns → Grew (here a) (c.connection (last b)) took2 gave2 turns2)
    → Talked a c took2 gave2 turns2
talked_on a b c took gave turns took2 gave2 turns2 t o u g f = record {
  tells = u.keeps.tells ∙ t.tells;
  count = u.keeps.count ∙ t.count;
  lent = u.keeps.lent ∙ t.lent;
  opened = u.opened ∙ t.opened;
  asked = u.asked ∙ t.asked;
  grew = λ k p. subst (λ (m : ℕ). Grew (here a) (c.connection (m - 1)) took2 gave2 turns2) t.opened
      (f (still t.tells k) (still o p) (subst (λ (m : ℕ). Grew (here a) (b.connection (m - 1)) took gave turns) (sym t.opened) (t.grew k p)));
  others = others_then a b c t.opened o t.others u;
  gate = g ∙ t.gate;
}

pub talked_hears : {E : Type 0} (a b c : Line) (took gave : List ℕ) (turns : List (ℕ × ℕ)) (buffer : List ℕ) (n : ℕ) → Talked a b took gave turns → b.is_open ≡ a.is_open → 0 < n → Hears {E = E} b c buffer (Ok n)
    → Talked a c (took ++ take n buffer) gave (turns ++ ((here a).heard + length took, length (here a).said + length gave) ∷ [])
talked_hears {E} a b c took gave turns buffer n t o lt h = talked_on a b c took gave turns _ _ _ t o h.uses h.gate
    (λ k p g. grew_hears E (here a) (here b) (c.connection (last b)) took gave turns buffer n g lt h.within (h.rest k p) (h.turns k p) h.said)

-- a hear that gave nothing
pub talked_silent : {E : Type 0} (a b c : Line) (took gave : List ℕ) (turns : List (ℕ × ℕ)) (buffer : List ℕ) → Talked a b took gave turns → b.is_open ≡ a.is_open → Hears {E = E} b c buffer (Ok 0) → Talked a c took gave turns
talked_silent a b c took gave turns buffer t o h = talked_on a b c took gave turns _ _ _ t o h.uses h.gate
    (λ k p g. grew_same (here a) (here b) (c.connection (last b)) took gave turns g (sym (h.rest k p).0) (omega (arith, (h.turns k p).2)) h.said.said h.said.room ((h.turns k p).0 refl))

pub talked_deaf : {E : Type 0} (a b c : Line) (took gave : List ℕ) (turns : List (ℕ × ℕ)) (buffer : List ℕ) (e : E) → Talked a b took gave turns → b.is_open ≡ a.is_open → Hears b c buffer (Err e) → Talked a c took gave turns
talked_deaf a b c took gave turns buffer e t o h = talked_on a b c took gave turns _ _ _ t o h.uses h.gate
    (λ k p g. grew_same (here a) (here b) (c.connection (last b)) took gave turns g (h.rest k p) ((h.turns k p).1) h.said.said h.said.room ((h.turns k p).0))

pub talked_says : {T E : Type 0} (a b c : Line) (took gave : List ℕ) (turns : List (ℕ × ℕ)) (piece : List ℕ) (x : T) → Talked a b took gave turns → b.is_open ≡ a.is_open → Says {E = E} b c piece (Ok x) → Talked a c took (gave ++ piece) turns
talked_says a b c took gave turns piece x t o h = talked_on a b c took gave turns _ _ _ t o h.uses h.gate
    (λ k p g. grew_says (here a) (here b) (c.connection (last b)) took gave piece turns g h.heard.rest h.heard.heard (h.said k) (h.room k) h.heard.turns)

-- how much was said where saying failed
pub cut_at : (b : Bool) (old new piece : List ℕ) → (IsTrue b → AppendsFront old new piece) → (n : ℕ) × (n ≤ length piece) × (IsTrue b → new ≡ old ++ take n piece)
cut_at true old new piece h = let k = h refl in (k.0, k.1, λ _. k.2)
cut_at false old new piece h = (0, omega arith, λ f. cc)

pub talked_cut : {T E : Type 0} (a b c : Line) (took gave : List ℕ) (turns : List (ℕ × ℕ)) (piece : List ℕ) (e : E) → Talked a b took gave turns → b.is_open ≡ a.is_open → Says {T = T} b c piece (Err e)
    → (n : ℕ) × (n ≤ length piece) × Talked a c took (gave ++ take n piece) turns
talked_cut a b c took gave turns piece e t o h =
    let k = cut_at b.tells (here b).said (c.connection (last b)).said piece h.said in (
      k.0,
      k.1,
      talked_on a b c took gave turns _ _ _ t o h.uses h.gate
          (λ p q g. grew_says (here a) (here b) (c.connection (last b)) took gave (take k.0 piece) turns g h.heard.rest h.heard.heard (k.2 p) (h.room p) h.heard.turns),
    )

pub calm_nothing : (a : Line) → Calm a a []
calm_nothing a = record { hear = refl; say = refl; steady = λ _ _ s _. s }

-- a hear that didn't fail
pub calm_hears : {E : Type 0} (a b c : Line) (took gave : List ℕ) (turns : List (ℕ × ℕ)) (buffer : List ℕ) (n : ℕ) → Talked a b took gave turns → Calm a b gave → b.is_open ≡ a.is_open → Hears {E = E} b c buffer (Ok n) → Calm a c gave
calm_hears a b c took gave turns buffer n t m o h = record {
  hear = h.cause.kept ∙ m.hear;
  say = h.say ∙ m.say;
  steady = λ k p s f. (h.steady (still t.tells k) (m.steady k p s f) (still o p)).1;
}

-- what is still to be said fits
pub room_here : (a b : Line) (took gave : List ℕ) (turns : List (ℕ × ℕ)) (piece : List ℕ) → Talked a b took gave turns → IsTrue a.tells → IsTrue a.is_open → length (gave ++ piece) ≤ (here a).room → length piece ≤ (here b).room
room_here a b took gave turns piece t k p f =
    let q : (b.connection (b.opened - 1)).room + length gave ≡ (here a).room = subst (λ (m : ℕ). (b.connection (m - 1)).room + length gave ≡ (here a).room) (sym t.opened) (t.grew k p).room in
    omega (arith, q, f, length-append gave piece)

pub calm_says : {T E : Type 0} (a b c : Line) (took gave : List ℕ) (turns : List (ℕ × ℕ)) (piece : List ℕ) (x : T) → Talked a b took gave turns → Calm a b gave → b.is_open ≡ a.is_open → Says {E = E} b c piece (Ok x) → Calm a c (gave ++ piece)
calm_says a b c took gave turns piece x t m o h = record {
  hear = h.hear ∙ m.hear;
  say = h.cause.kept ∙ m.say;
  steady = λ k p s f. (h.steady (still t.tells k) (m.steady k p s (omega (arith, f, length-append gave piece))) (still o p) (room_here a b took gave turns piece t k p f)).1;
}

-- over a steady wire with room for it nothing that is said fails
pub no_cut : {T E : Type 0} {B : Type 0} (a b c : Line) (took gave : List ℕ) (turns : List (ℕ × ℕ)) (piece : List ℕ) (e : E) → Talked a b took gave turns → Calm a b gave → b.is_open ≡ a.is_open → Says {T = T} b c piece (Err e)
    → IsTrue a.tells → IsTrue a.is_open → IsTrue a.steady → length (gave ++ piece) ≤ (here a).room → B
no_cut {T} {E} a b c took gave turns piece e t m o h k p s f =
    no_ok T E e (h.steady (still t.tells k) (m.steady k p s (omega (arith, f, length-append gave piece))) (still o p) (room_here a b took gave turns piece t k p f)).0

pub no_deaf : {E : Type 0} {B : Type 0} (a b c : Line) (took gave : List ℕ) (turns : List (ℕ × ℕ)) (buffer : List ℕ) (e : E) → Talked a b took gave turns → Calm a b gave → b.is_open ≡ a.is_open → Hears b c buffer (Err e)
    → IsTrue a.tells → IsTrue a.is_open → IsTrue a.steady → length gave ≤ (here a).room → B
no_deaf {E} a b c took gave turns buffer e t m o h k p s f =
    no_ok ℕ E e (h.steady (still t.tells k) (m.steady k p s f) (still o p)).0
