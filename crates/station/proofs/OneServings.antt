-- What serving comes to where no call fails.
use Rattle.std.proofs.Common.{◌≡◌, ℕ, ◌+◌, ◌-◌, ◌<◌, ◌≤◌, ◌⊎◌, inl, inr, suc, Bool, List, [], ◌∷◌, ◌++◌, length, IsTrue, refl, sym, ◌∙◌, ap, ap₂, subst, arith}
use Rattle.std.proofs.lemmas.Bool.{cases_lt}
use Rattle.air.specs.Air.{IsAir}
use Rattle.subscribers.specs.Parts.{Parts}
use Rattle.wires.specs.Files.{Files}
use Rattle.wires.specs.Held.{Connection}
use Rattle.wires.specs.Line.{Line}
use Rattle.wires.specs.Written.{Written}
use Rattle.serving.specs.Protocols.{Protocol, SessionIn, ends_as, line_in, queued_in, spoken}
use Rattle.serving.specs.declared.session.SessionEnd.{SessionEnd}
use Rattle.serving.specs.InTurn.{SessionIsAt}
use Rattle.serving.specs.Served.{AllFrom, FitWire, IsWhole, Served, airs, line_for, lines}
use Rattle.serving.specs.Serving.{Around, AtDone}
use Rattle.serving.proofs.InTurn.{wire_after}
use Rattle.air.proofs.OneAir.{one_air}
use Rattle.endings.proofs.OneBytes.{one_bytes}
use Rattle.serving.proofs.WholeSessions.{turn-well}
use Rattle.station.proofs.ProtocolSessions.{one_in}

-- The session was served whole on this connection, which is one of the wire's.
pub record IsGood {p : Protocol} {settings : Parts} {spare : ℕ} (first now : Line) (k : ℕ) (s : Served p settings spare) : Type 0 where
  pub within : k < first.count
  pub whole : IsWhole first now k s

goods : {p : Protocol} {settings : Parts} {spare : ℕ} (first now : Line) (k : ℕ) (ss : List (Served p settings spare)) → AllFrom (SessionIsAt first now) k ss → AllFrom (IsWhole first now) k ss → AllFrom (IsGood first now) k ss
goods first now k [] at whole = tt
goods first now k (s ∷ ss) at whole = (record { within = (at.0).within; whole = whole.0 }, goods first now (k + 1) ss at.1 whole.1)

-- Two lists of sessions on the same connections come to the same.
pub record Alike {p : Protocol} {settings : Parts} {spare : ℕ} (now other : Line) (k number : ℕ) (ss ts : List (Served p settings spare)) : Type 0 where
  pub many : length ts ≡ length ss
  pub sent : airs ts ≡ airs ss
  pub told_so : lines number ts ≡ lines number ss
  pub said : (j : ℕ) → k ≤ j → j < k + length ss → (other.connection j).said ≡ (now.connection j).said

-- these are as many as are wanted, or as many as there are
abbrev pub IsAll : ℕ → ℕ → ℕ → ℕ → Type 0
IsAll count k most n = (n ≡ most) ⊎ (count ≤ k + n)

none_more : {B : Type 0} (count k most n : ℕ) → IsAll count k most 0 → suc n ≤ most → k < count → B
none_more count k most n all few within = elim all [ inl e ↦ absurd (omega (arith, e, few)) | inr e ↦ absurd (omega (arith, e, within)) ]

all_next : (count k most n : ℕ) → IsAll count k most (suc n) → IsAll count (k + 1) (most - 1) n
all_next count k most n all = elim all [ inl e ↦ inl (omega (arith, e)) | inr e ↦ inr (omega (arith, e)) ]

alike : (p : Protocol) (settings : Parts) (spare : ℕ) (first now other : Line) (k number most : ℕ) (ss ts : List (Served p settings spare)) → AllFrom (IsGood first now) k ss → AllFrom (IsGood first other) k ts
    → length ss ≤ most → length ts ≤ most → IsAll first.count k most (length ss) → IsAll first.count k most (length ts) → Alike now other k number ss ts
alike p settings spare first now other k number most [] [] g h few few2 all all2 = record { many = refl; sent = refl; told_so = refl; said = λ j le lt. absurd (omega (arith, le, lt)) }
alike p settings spare first now other k number most [] (t ∷ ts) g h few few2 all all2 = none_more first.count k most (length ts) all few2 (h.0).within
alike p settings spare first now other k number most (s ∷ ss) [] g h few few2 all all2 = none_more first.count k most (length ss) all2 few (g.0).within
alike p settings spare first now other k number most (s ∷ ss) (t ∷ ts) g h few few2 all all2 =
    let a = (g.0).whole in
    let b = (h.0).whole in
    let same : t.ran.session ≡ s.ran.session = one_in p settings spare (first.connection k).rest t.ran.session s.ran.session b.session_is a.session_is in
    let on = alike p settings spare first now other (k + 1) (number + 1) (most - 1) ss ts g.1 h.1 (omega (arith, few)) (omega (arith, few2)) (all_next first.count k most (length ss) all) (all_next first.count k most (length ts) all2) in
    let bits : t.bits ≡ s.bits = one_air (queued_in p s.ran.session) s.bits t.bits s.is_air (subst (λ (z : SessionIn p). IsAir (queued_in p z) t.bits) same t.is_air) in
    let line : line_for number t ≡ line_for number s = ap₂ (λ (e : SessionEnd) (z : SessionIn p). line_in p number e z) (b.end_is ∙ (ap (λ (z : SessionIn p). ends_as p z) same ∙ sym a.end_is)) same in
    let here_said : (other.connection k).said ≡ (now.connection k).said = b.said ∙ (ap (λ (z : SessionIn p). (first.connection k).said ++ spoken p z) same ∙ sym a.said) in
    record {
      many = ap suc on.many;
      sent = ap₂ (λ (x y : List Bool). x ++ y) bits on.sent;
      told_so = ap₂ (λ (x y : List ℕ). x ++ y) line on.told_so;
      said = λ j le lt. elim (cases_lt k j) [
        | inl later ↦ on.said j (omega (arith, later)) (omega (arith, lt))
        | inr not_later ↦ (let e : k ≡ j = omega (arith, le, not_later) in subst (λ (n : ℕ). (other.connection n).said ≡ (now.connection n).said) e here_said)
      ];
    }

-- all that were wanted, or all that were left, were served
is_all : (p : Protocol) (settings : Parts) (spare most : ℕ) (old new : Around) (address name : List ℕ) → IsTrue old.wire.tells → (h : AtDone p settings spare old new address name most)
    → IsAll old.wire.count old.wire.opened most (length h.sessions)
is_all p settings spare most old new address name t h = elim h.all [ inl e ↦ inl e | inr f ↦ inr (let after = wire_after old.wire new.wire h.sessions h.wire in omega (arith, f t, after.keeps.count, after.opened t)) ]

-- What was said on each connection, the file of the air, and what the output holds are the same.
pub record ServedAlike (air : List ℕ) (new other : Around) : Type 0 where
  pub said : (k : ℕ) → (other.wire.connection k).said ≡ (new.wire.connection k).said
  pub sent : other.shelf.file air ≡ new.shelf.file air
  pub held : other.out.held ≡ new.out.held

-- two servings over fit objects
pub done_alike : (p : Protocol) (settings : Parts) (spare most : ℕ) (w : Line) (f f2 : Files) (o : Written ℕ) (new other : Around) (address name : List ℕ) → FitWire p settings spare w most
    → IsTrue f.tells → IsTrue f2.tells → IsTrue o.tells
    → AtDone p settings spare (record { wire = w; shelf = f; out = o }) new address name most → AtDone p settings spare (record { wire = w; shelf = f2; out = o }) other address name most → ServedAlike name new other
done_alike p settings spare most w f f2 o new other address name fit tf tf2 to h k =
    let after = wire_after w new.wire h.sessions h.wire in
    let after2 = wire_after w other.wire k.sessions k.wire in
    let g = goods w new.wire w.opened h.sessions (after.served fit.tells) (turn-well w new.wire most h.sessions h.few h.wire fit).whole in
    let g2 = goods w other.wire w.opened k.sessions (after2.served fit.tells) (turn-well w other.wire most k.sessions k.few k.wire fit).whole in
    let a = alike p settings spare w new.wire other.wire w.opened 1 most h.sessions k.sessions g g2 h.few k.few
    (is_all p settings spare most (record { wire = w; shelf = f; out = o }) new address name fit.tells h) (is_all p settings spare most (record { wire = w; shelf = f2; out = o }) other address name fit.tells k) in
    record {
      said = λ j. elim (cases_lt j w.opened) [
        | inl before ↦ ap (λ (c : Connection). c.said) (after2.others fit.tells j (inl before) ∙ sym (after.others fit.tells j (inl before)))
        | inr from ↦ elim (cases_lt j (w.opened + length h.sessions)) [
          | inl within ↦ a.said j from within
          | inr behind ↦ ap (λ (c : Connection). c.said) (after2.others fit.tells j (inr (omega (arith, behind, a.many))) ∙ sym (after.others fit.tells j (inr behind)))
        ]
      ];
      sent = one_bytes (other.shelf.file name) (new.shelf.file name) (k.file.of_bytes tf2) (h.file.of_bytes tf) (k.file.bits_are tf2 ∙ (a.sent ∙ sym (h.file.bits_are tf)));
      held = k.out.held to ∙ (ap (λ (z : List ℕ). o.held ++ z) a.told_so ∙ sym (h.out.held to));
    }
