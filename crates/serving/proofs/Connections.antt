-- One connection more is served, or none.
use Rattle.std.proofs.Common.{◌≡◌, ℕ, ◌+◌, ◌≤◌, ◌<◌, suc, add-zero, Bool, true, false, List, [], ◌∷◌, ◌++◌, append-nil, append_assoc, length, Result, Ok, Err, IsFalse, refl, sym, ◌∙◌, ap, subst, arith}
use Rattle.subscribers.specs.Parts.{Parts}
use Rattle.wires.proofs.Opened.{Opens-blank}
use Rattle.wires.proofs.Written.{still}
use Rattle.wires.specs.Line.{IsBlank, Line, Listens, Opens}
use Rattle.serving.specs.Protocols.{Protocol}
use Rattle.serving.specs.Served.{AllFrom, OpenedNext, OpenedNone, Served, ServedInTurn, Waited, airs, line_for, lines}

-- a fact that follows of each of a list
pub from-map : {A : Type 0} (P Q : ℕ → A → Type 0) (b : ℕ) (l : List A) → ((k : ℕ) (x : A) → b ≤ k → k < b + length l → P k x → Q k x) → AllFrom P b l → AllFrom Q b l
from-map P Q b [] f h = tt
from-map P Q b (x ∷ l) f h = (f b x (omega arith) (omega arith) h.0, from-map P Q (b + 1) l (λ k y le lt. f k y (omega arith) (omega arith)) h.1)

-- one line more
pub lines-append : {p : Protocol} {settings : Parts} {spare : ℕ} (k : ℕ) (l : List (Served p settings spare)) (s : Served p settings spare) → lines k (l ++ s ∷ []) ≡ lines k l ++ line_for (k + length l) s
lines-append k [] s = append-nil (line_for k s) ∙ ap (λ (n : ℕ). line_for n s) (sym (add-zero k))
lines-append k (x ∷ l) s =
    ap (λ (z : List ℕ). line_for k x ++ z) (lines-append (k + 1) l s ∙ (let e : k + 1 + length l ≡ k + suc (length l) = omega arith in ap (λ (n : ℕ). lines (k + 1) l ++ line_for n s) e))
    ∙ sym (append_assoc (line_for k x) (lines (k + 1) l) (line_for (k + suc (length l)) s))

-- one transmission more
pub airs-append : {p : Protocol} {settings : Parts} {spare : ℕ} (l : List (Served p settings spare)) (s : Served p settings spare) → airs (l ++ s ∷ []) ≡ airs l ++ s.bits
airs-append [] s = append-nil s.bits
airs-append (x ∷ l) s = ap (λ (z : List Bool). x.bits ++ z) (airs-append l s) ∙ sym (append_assoc x.bits (airs l) s.bits)

-- `listen` opens no connection
pub listened : {T E : Type 0} (old new : Line) (address : List ℕ) (r : Result T E) → Listens old new address r → OpenedNone old new
listened old new address r h = record {
  waited = record { keeps = h.keeps; connections = h.connections; counts = h.others; steady = λ t s. (h.steady t s).1 };
  opened = λ _. h.opened;
  shut = λ _ f. subst IsFalse (sym h.is_open) f;
}

-- `next` is a wait
waited : {E : Type 0} (old new : Line) (r : Result Bool E) → Opens old new r → Waited old new
waited old new r h = record { keeps = h.keeps; connections = h.connections; counts = h.others; steady = λ t s. (h.steady t s).1 }

-- in which one came,
pub came : {E : Type 0} (old new : Line) → Opens {E = E} old new (Ok true) → OpenedNext old new
came old new h = record {
  waited = waited old new (Ok true) h;
  within = λ t. (h.opened t refl).0;
  opened = λ t. (h.opened t refl).1;
  is_open = λ t. (h.opened t refl).2;
  blank = λ t. Opens-blank old new t h;
}

-- in which none came,
pub none_came : {E : Type 0} (old new : Line) → Opens {E = E} old new (Ok false) → OpenedNone old new
none_came old new h = record { waited = waited old new (Ok false) h; opened = λ t. (h.not_opened t refl).0; shut = λ t _. (h.not_opened t refl).1 }

-- or which failed
pub next_failed : {E : Type 0} (old new : Line) (e : E) → Opens old new (Err e) → OpenedNone old new
next_failed old new e h = record { waited = waited old new (Err e) h; opened = λ t. (h.failed t).0; shut = λ t _. (h.failed t).1 }

-- one wait and one more
waited_then : (a b c : Line) → Waited a b → Waited b c → Waited a c
waited_then a b c h k = record {
  keeps = record { tells = k.keeps.tells ∙ h.keeps.tells; count = k.keeps.count ∙ h.keeps.count; lent = k.keeps.lent ∙ h.keeps.lent };
  connections = λ j. k.connections j ∙ h.connections j;
  counts = record { hear = k.counts.hear ∙ h.counts.hear; say = k.counts.say ∙ h.counts.say; hang = k.counts.hang ∙ h.counts.hang };
  steady = λ t s. k.steady (still h.keeps.tells t) (h.steady t s);
}

none_then : (a b c : Line) → OpenedNone a b → OpenedNone b c → OpenedNone a c
none_then a b c h k = record {
  waited = waited_then a b c h.waited k.waited;
  opened = λ t. k.opened (still h.waited.keeps.tells t) ∙ h.opened t;
  shut = λ t f. k.shut (still h.waited.keeps.tells t) (h.shut t f);
}

next_then : (a b c : Line) → OpenedNone a b → OpenedNext b c → OpenedNext a c
next_then a b c h k = record {
  waited = waited_then a b c h.waited k.waited;
  within = λ t. omega (arith, k.within (still h.waited.keeps.tells t), h.opened t, h.waited.keeps.count);
  opened = λ t. k.opened (still h.waited.keeps.tells t) ∙ ap (λ (n : ℕ). n + 1) (h.opened t);
  is_open = λ t. k.is_open (still h.waited.keeps.tells t);
  blank = λ t. subst (λ (n : ℕ). IsBlank (c.connection n)) (h.opened t) (k.blank (still h.waited.keeps.tells t));
}

-- no wait
no_wait : (a : Line) → OpenedNone a a
no_wait a = record {
  waited = record { keeps = record { tells = refl; count = refl; lent = refl }; connections = λ j. refl; counts = record { hear = refl; say = refl; hang = refl }; steady = λ t s. s };
  opened = λ t. refl;
  shut = λ t f. f;
}

-- a wait after the last session
pub turn-wait : {p : Protocol} {settings : Parts} {spare : ℕ} (first was now : Line) (ss : List (Served p settings spare)) → ServedInTurn first was ss → OpenedNone was now → ServedInTurn first now ss
turn-wait first was now [] h w = none_then first was now h w
turn-wait first was now (s ∷ ss) h w = (h.0, turn-wait s.after was now ss h.1 w)

-- one session more
pub turn-append : {p : Protocol} {settings : Parts} {spare : ℕ} (first was : Line) (ss : List (Served p settings spare)) (s : Served p settings spare) → ServedInTurn first was ss → OpenedNext was s.before → ServedInTurn first s.after (ss ++ s ∷ [])
turn-append first was [] s h w = (next_then first was s.before h w, no_wait s.after)
turn-append first was (x ∷ ss) s h w = (h.0, turn-append x.after was ss s h.1 w)
