-- A session goes on by one byte, or by what was heard.
use Rattle.std.proofs.Common.{◌≡◌, ℕ, ◌+◌, ◌≤◌, ◌<◌, Bool, true, false, List, [], ◌∷◌, ◌++◌, append-nil, append_assoc, length, take, Ok, IsTrue, Option, Some, None, refl, sym, ◌∙◌, ap, subst}
use Rattle.std.specs.List.{AllByRecursion}
use Rattle.std.specs.Prelude.{if◌then◌else◌}
use Rattle.page_pool.specs.Pool.{Pool}
use Rattle.subscribers.specs.Parts.{Parts}
use Rattle.wires.specs.Held.{Connection}
use Rattle.wires.specs.Line.{Hears, Line, Says, last}
use Rattle.serving.specs.declared.session.SessionEnd.{SessionEnd}
use Rattle.serving.specs.Protocols.{IsSessionIn, Protocol, SessionIn, StateIn, end_in, is_last, spoken}
use Rattle.serving.specs.Sessions.{Fed, HasRoomForReplies, IsTurn, SessionUnderWay}
use Rattle.wires.specs.Fronts.{IsFront}
use Rattle.endings.specs.Talk.{Calm, Talked, here}
use Rattle.tap_terminal.proofs.Cells.{cells_gain}
use Rattle.serving.proofs.Protocols.{fits_front, open_on, pages_on, session_in, silent_goes, spoken_on}
use Rattle.wires.proofs.Fronts.{front_append, front_same, front_then, splice}
use Rattle.endings.proofs.Lists.{all-append, all-map}
use Rattle.endings.proofs.Talks.{calm_hears, calm_says, talked_hears, talked_says}

-- turns stay turns when more is heard and said
pub turns_on : (p : Protocol) (settings : Parts) (spare : ℕ) (c : Connection) (heard said heard2 said2 : List ℕ) (turns : List (ℕ × ℕ)) → IsFront heard heard2 → IsFront said said2
    → AllByRecursion (IsTurn p settings spare c heard said) turns → AllByRecursion (IsTurn p settings spare c heard2 said2) turns
turns_on p settings spare c heard said heard2 said2 turns f g h = all-map (IsTurn p settings spare c heard said) (IsTurn p settings spare c heard2 said2) (λ turn t. record {
  before = t.before;
  session = t.session;
  session_is = t.session_is;
  no_end = t.no_end;
  heard_before = front_then t.before heard heard2 t.heard_before f;
  said_before = front_then (spoken p t.session) said said2 t.said_before g;
  turn_is = t.turn_is;
}) turns h

-- what is said in all, with the reply to one byte more
pub says_on : (p : Protocol) (settings : Parts) (spare : ℕ) (pool pool2 : Pool) (state : StateIn p) (bytes : List ℕ) (byte : ℕ) (session : SessionIn p) (reply : List ℕ) (end : Option SessionEnd)
    → (h : Fed p settings spare state bytes byte session reply end pool pool2) → spoken p h.longer ≡ spoken p session ++ reply
says_on p settings spare pool pool2 state bytes byte session reply end h = spoken_on p session h.longer h.answer h.answers_are ∙ ap (λ (z : List ℕ). spoken p session ++ z) (sym h.reply_is)

-- a byte was answered, and the session goes on
answered : (p : Protocol) (settings : Parts) (spare : ℕ) (old mid now : Line) (before pool pool2 : Pool) (state state2 : StateIn p) (byte : ℕ) (heard ahead reply : List ℕ) (end : Option SessionEnd)
    (u : SessionUnderWay p settings spare old mid before pool state heard (byte ∷ ahead)) (h : Fed p settings spare state2 u.fed byte u.session reply end pool pool2)
    → is_last p h.answer ≡ false → Talked old now heard (spoken p u.session ++ reply) u.turns → Calm old now (spoken p u.session ++ reply) → now.is_open ≡ mid.is_open → now.hang ≡ mid.hang
    → SessionUnderWay p settings spare old now before pool2 state2 heard ahead
answered p settings spare old mid now before pool pool2 state state2 byte heard ahead reply end u h e t m o g =
    let says = says_on p settings spare pool pool2 state2 u.fed byte u.session reply end h in
    record {
      fed = u.fed ++ byte ∷ [];
      session = h.longer;
      turns = u.turns;
      heard_is = u.heard_is ∙ sym (splice u.fed byte ahead);
      stands = h.stands;
      no_end = open_on p u.session h.longer h.answer h.answers_are u.no_end e;
      pages_are = pages_on p settings spare before pool pool2 state2 u.fed byte u.session reply end u.pages_are h;
      cells_stay = cells_gain pool pool2 h.gained h.pool ∙ u.cells_stay;
      line = subst (λ (z : List ℕ). Talked old now heard z u.turns) (sym says) t;
      calm = subst (λ (z : List ℕ). Calm old now z) (sym says) m;
      turns_are = turns_on p settings spare (here old) heard (spoken p u.session) heard (spoken p h.longer) u.turns
          (front_same heard) (record { rest = reply; is = says }) u.turns_are;
      open_stays = o ∙ u.open_stays;
      hang = g ∙ u.hang;
    }

-- a byte to which nothing is said
pub quiet : (p : Protocol) (settings : Parts) (spare : ℕ) (old mid : Line) (before pool pool2 : Pool) (state state2 : StateIn p) (byte : ℕ) (heard ahead reply : List ℕ) (end : Option SessionEnd)
    (u : SessionUnderWay p settings spare old mid before pool state heard (byte ∷ ahead)) → Fed p settings spare state2 u.fed byte u.session reply end pool pool2 → reply ≡ []
    → SessionUnderWay p settings spare old mid before pool2 state2 heard ahead
quiet p settings spare old mid before pool pool2 state state2 byte heard ahead reply end u h none =
    let same : spoken p u.session ≡ spoken p u.session ++ reply = sym (append-nil (spoken p u.session)) ∙ ap (λ (z : List ℕ). spoken p u.session ++ z) (sym none) in
    answered p settings spare old mid mid before pool pool2 state state2 byte heard ahead reply end u h (silent_goes p h.answer (sym h.reply_is ∙ none))
    (subst (λ (z : List ℕ). Talked old mid heard z u.turns) same u.line) (subst (λ (z : List ℕ). Calm old mid z) same u.calm) refl refl

-- where no end came, the answer ended nothing
pub none_goes : {A : Type 0} (b : Bool) (x : A) → None ≡ (if b then Some x else None) → b ≡ false
none_goes true x h = absurd cc
none_goes false x h = refl

-- a reply that was said
pub goes : {T E : Type 0} (p : Protocol) (settings : Parts) (spare : ℕ) (old mid now : Line) (before pool pool2 : Pool) (state state2 : StateIn p) (byte : ℕ) (heard ahead reply : List ℕ) (end : Option SessionEnd) (x : T)
    → (u : SessionUnderWay p settings spare old mid before pool state heard (byte ∷ ahead)) → Fed p settings spare state2 u.fed byte u.session reply end pool pool2 → end ≡ None → Says {E = E} mid now reply (Ok x)
    → SessionUnderWay p settings spare old now before pool2 state2 heard ahead
goes {T} {E} p settings spare old mid now before pool pool2 state state2 byte heard ahead reply end x u h none k =
    answered p settings spare old mid now before pool pool2 state state2 byte heard ahead reply end u h (none_goes (is_last p h.answer) (end_in p h.longer) (sym none ∙ h.end_is))
    (talked_says old mid now heard (spoken p u.session) u.turns reply x u.line u.open_stays k)
    (calm_says old mid now heard (spoken p u.session) u.turns reply x u.line u.calm u.open_stays k)
    k.uses.is_open k.hang

-- all that was heard was fed
pub all_fed : (p : Protocol) (settings : Parts) (spare : ℕ) (old mid : Line) (before pool : Pool) (state : StateIn p) (heard : List ℕ) (u : SessionUnderWay p settings spare old mid before pool state heard []) → u.fed ≡ heard
all_fed p settings spare old mid before pool state heard u = sym (u.heard_is ∙ append-nil u.fed)

-- bytes were heard
pub hears_more : {E : Type 0} (p : Protocol) (settings : Parts) (spare : ℕ) (old mid now : Line) (before pool : Pool) (state : StateIn p) (heard buffer : List ℕ) (n : ℕ) → SessionUnderWay p settings spare old mid before pool state heard [] → 0 < n → Hears {E = E} mid now buffer (Ok n)
    → SessionUnderWay p settings spare old now before pool state (heard ++ take n buffer) (take n buffer)
hears_more p settings spare old mid now before pool state heard buffer n u lt h =
    let f = all_fed p settings spare old mid before pool state heard u in
    let stood = session_in p settings spare state u.fed u.session pool.spare u.stands in
    record {
      fed = u.fed;
      session = u.session;
      turns = u.turns ++ ((here old).heard + length heard, length (here old).said + length (spoken p u.session)) ∷ [];
      heard_is = ap (λ (z : List ℕ). z ++ take n buffer) (sym f);
      stands = u.stands;
      no_end = u.no_end;
      pages_are = u.pages_are;
      cells_stay = u.cells_stay;
      line = talked_hears old mid now heard (spoken p u.session) u.turns buffer n u.line u.open_stays lt h;
      calm = calm_hears old mid now heard (spoken p u.session) u.turns buffer n u.line u.calm u.open_stays h;
      turns_are = all-append (IsTurn p settings spare (here old) (heard ++ take n buffer) (spoken p u.session)) u.turns _
          (turns_on p settings spare (here old) heard (spoken p u.session) (heard ++ take n buffer) (spoken p u.session) u.turns (front_append heard (take n buffer)) (front_same (spoken p u.session)) u.turns_are) (
            record {
              before = heard;
              session = u.session;
              session_is = subst (λ (z : List ℕ). IsSessionIn p settings spare z u.session) f stood;
              no_end = u.no_end;
              heard_before = front_append heard (take n buffer);
              said_before = front_same (spoken p u.session);
              turn_is = refl;
            },
            tt,
          );
      open_stays = h.uses.is_open ∙ u.open_stays;
      hang = h.hang ∙ u.hang;
    }

-- what was said fits
pub fits_now : (p : Protocol) (settings : Parts) (spare : ℕ) (old mid : Line) (before pool : Pool) (state : StateIn p) (heard : List ℕ) (u : SessionUnderWay p settings spare old mid before pool state heard [])
    → IsTrue old.tells → IsTrue old.is_open → HasRoomForReplies p settings spare (here old) → length (spoken p u.session) ≤ (here old).room
fits_now p settings spare old mid before pool state heard u k o f =
    fits_front p settings spare (here old) heard (mid.connection (last old)).rest u.session f (u.line.grew k o).rest
    (subst (λ (z : List ℕ). IsSessionIn p settings spare z u.session) (all_fed p settings spare old mid before pool state heard u) (session_in p settings spare state u.fed u.session pool.spare u.stands))

-- what was heard is a front of what was to be heard
pub heard_rest : (p : Protocol) (settings : Parts) (spare : ℕ) (old mid : Line) (before pool : Pool) (state : StateIn p) (byte : ℕ) (heard ahead : List ℕ) (u : SessionUnderWay p settings spare old mid before pool state heard (byte ∷ ahead)) → IsTrue old.tells → IsTrue old.is_open
    → (here old).rest ≡ (u.fed ++ byte ∷ []) ++ (ahead ++ (mid.connection (last old)).rest)
heard_rest p settings spare old mid before pool state byte heard ahead u k o =
    (u.line.grew k o).rest ∙ (ap (λ (z : List ℕ). z ++ (mid.connection (last old)).rest) (u.heard_is ∙ sym (splice u.fed byte ahead)) ∙ append_assoc (u.fed ++ byte ∷ []) ahead (mid.connection (last old)).rest)
