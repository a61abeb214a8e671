-- A session begins and stops.
use Rattle.std.proofs.Common.{◌≡◌, ◌≢◌, ℕ, ◌≤◌, ◌<◌, ◌==◌, Bool, true, false, List, [], ◌∷◌, ◌++◌, append-nil, append_assoc, ◌-◌, length, take, Result, Ok, Err, IsTrue, refl, sym, ◌∙◌, ap, subst, arith, cond, Option, Some, None}
use Rattle.std.proofs.lemmas.Bool.Decides.{nat_tests}
use Rattle.std.specs.Prelude.{if◌then◌else◌}
use Rattle.page_pool.specs.Pool.{Pool, pages}
use Rattle.subscribers.specs.Parts.{Parts}
use Rattle.wires.proofs.Written.{no_ok, still}
use Rattle.wires.specs.Causes.{Rose}
use Rattle.wires.specs.Held.{Connection}
use Rattle.wires.specs.Line.{HangsUp, Hears, Line, Says, last}
use Rattle.serving.specs.declared.session.SessionEnd.{SessionEnd}
use Rattle.serving.specs.declared.session.SessionEnd.TheVariants.{HungUp, LineLost}
use Rattle.serving.specs.Protocols.{AnswerIn, Protocol, SessionIn, StandsIn, StateIn, answers_in, end_in, greeting_in, has_last, is_last, queued_in, said_in, snpp, spoken, tap, unheard_in}
use Rattle.serving.specs.Sessions.{Fed, HasRoomForReplies, GoesOn, IsAnsweredLast, Ran, SessionStop, SessionStops, SessionUnderWay, hear_failed as is_deaf, say_failed as is_mute, silent as is_silent, told as is_told, ungreeted as is_ungreeted}
use Rattle.endings.specs.Talk.{Calm, Grew, Talked, here}
use Rattle.tap_terminal.proofs.Cells.{cells_gain}
use Rattle.serving.proofs.Protocols.{few_bytes, fits_front, not_lost, one_said, pages_on, session_in}
use Rattle.wires.proofs.Fronts.{front_append, front_same}
use Rattle.serving.proofs.Steps.{all_fed, fits_now, heard_rest, none_goes, says_on, turns_on}
use Rattle.endings.proofs.Talks.{calm_hears, calm_nothing, calm_says, no_cut, no_deaf, talked_cut, talked_deaf, talked_nothing, talked_says, talked_silent}

-- an empty list, and one that isn't
pub is_none : {A : Type 0} (l : List A) (b : Bool) → b ≡ true → b ≡ (length l == 0) → l ≡ []
is_none [] b h k = refl
is_none (x ∷ l) b h k = let e : length (x ∷ l) ≡ 0 = grind (arith, nat_tests) in absurd (omega (arith, e))

pub is_some : {A : Type 0} (l : List A) (b : Bool) → b ≡ false → b ≡ (length l == 0) → l ≡ [] → ⊥
is_some [] b h k e = let bad : false ≡ true = sym h ∙ k in cc
is_some (x ∷ l) b h k e = cc

-- a session of no byte is open
no_last : (p : Protocol) → has_last p (unheard_in p) ≡ false
no_last tap = refl
no_last snpp = refl

-- and has no pages
no_pages : (p : Protocol) (pool : Pool) → pages pool ≡ pages pool ++ queued_in p (unheard_in p)
no_pages tap pool = sym (append-nil (pages pool))
no_pages snpp pool = sym (append-nil (pages pool))

-- a session begins, behind what was said
pub begins : (p : Protocol) (settings : Parts) (old now : Line) (pool : Pool) (state : StateIn p) → StandsIn p settings pool.spare state [] (unheard_in p) pool.spare
    → Talked old now [] (spoken p (unheard_in p)) [] → Calm old now (spoken p (unheard_in p)) → now.is_open ≡ old.is_open → now.hang ≡ old.hang
    → SessionUnderWay p settings pool.spare old now pool pool state [] []
begins p settings old now pool state s t m o g = record {
  fed = [];
  session = unheard_in p;
  turns = [];
  heard_is = refl;
  stands = s;
  no_end = no_last p;
  pages_are = no_pages p pool;
  cells_stay = refl;
  line = t;
  calm = m;
  turns_are = tt;
  open_stays = o;
  hang = g;
}

-- all that is said in a session of no byte
spoken_none : (p : Protocol) → spoken p (unheard_in p) ≡ greeting_in p
spoken_none tap = refl
spoken_none snpp = append-nil _

-- a session begins without a greeting
pub begins_silently : (p : Protocol) (settings : Parts) (old : Line) (pool : Pool) (state : StateIn p) (greeting : List ℕ) → greeting ≡ greeting_in p → greeting ≡ [] → StandsIn p settings pool.spare state [] (unheard_in p) pool.spare
    → SessionUnderWay p settings pool.spare old old pool pool state [] []
begins_silently p settings old pool state greeting is none s =
    let same : [] ≡ spoken p (unheard_in p) = sym none ∙ (is ∙ sym (spoken_none p)) in
    begins p settings old old pool state s (subst (λ (z : List ℕ). Talked old old [] z []) same (talked_nothing old)) (subst (λ (z : List ℕ). Calm old old z) same (calm_nothing old)) refl refl

-- the greeting was said
pub greeted : {T E : Type 0} (p : Protocol) (settings : Parts) (old now : Line) (pool : Pool) (state : StateIn p) (greeting : List ℕ) (x : T) → greeting ≡ greeting_in p → StandsIn p settings pool.spare state [] (unheard_in p) pool.spare
    → Says {E = E} old now greeting (Ok x) → SessionUnderWay p settings pool.spare old now pool pool state [] []
greeted {T} {E} p settings old now pool state greeting x is s k =
    let same : greeting ≡ spoken p (unheard_in p) = is ∙ sym (spoken_none p) in
    begins p settings old now pool state s
    (subst (λ (z : List ℕ). Talked old now [] z []) same (talked_says {T = T} {E = E} old old now [] [] [] greeting x (talked_nothing old) refl k))
    (subst (λ (z : List ℕ). Calm old now z) same (calm_says {T = T} {E = E} old old now [] [] [] greeting x (talked_nothing old) (calm_nothing old) refl k))
    k.uses.is_open k.hang

-- the greeting fits
greeting_fits : (p : Protocol) (settings : Parts) (spare left : ℕ) (old : Line) (state : StateIn p) → StandsIn p settings spare state [] (unheard_in p) left → HasRoomForReplies p settings spare (here old) → length (greeting_in p) ≤ (here old).room
greeting_fits p settings spare left old state s f =
    subst (λ (z : List ℕ). length z ≤ (here old).room) (spoken_none p)
    (fits_front p settings spare (here old) [] (here old).rest (unheard_in p) f refl (session_in p settings spare state [] (unheard_in p) left s))

-- a list that isn't empty
some_length : {A : Type 0} (l : List A) → (l ≡ [] → ⊥) → 0 < length l
some_length [] h = absurd (h refl)
some_length (x ∷ l) h = omega arith

-- saying the greeting failed
pub greeting_failed : {T E : Type 0} (p : Protocol) (settings : Parts) (old now : Line) (pool : Pool) (state : StateIn p) (greeting : List ℕ) (x : E) → greeting ≡ greeting_in p → (greeting ≡ [] → ⊥)
    → StandsIn p settings pool.spare state [] (unheard_in p) pool.spare → Says {T = T} old now greeting (Err x) → GoesOn p settings pool.spare old now pool pool state [] [] (Some LineLost)
greeting_failed {T} {E} p settings old now pool state greeting x is some s g =
    let h : Says {T = T} old now (greeting_in p) (Err x) = subst (λ (z : List ℕ). Says {T = T} old now z (Err x)) is g in
    let k = talked_cut {T = T} {E = E} old old now [] [] [] (greeting_in p) x (talked_nothing old) refl h in (
      record {
        heard = [];
        fed = [];
        session = unheard_in p;
        said = take k.0 (greeting_in p);
        turns = [];
        stop = is_ungreeted k.0;
        fed_is = record { rest = []; is = refl };
        session_is = session_in p settings pool.spare state [] (unheard_in p) pool.spare s;
        stands = s;
        pages_are = no_pages p pool;
        cells_stay = refl;
        line = k.2;
        turns_are = tt;
        stops = record {
          none = refl;
          none_fed = refl;
          greets = some_length (greeting_in p) (λ e. some (is ∙ e));
          within = k.1;
          said_is = refl;
          hear = h.hear;
          say = h.cause.failed;
          end_is = refl;
        };
        well = λ t o st f. no_cut {T = T} {E = E} old old now [] [] [] (greeting_in p) x (talked_nothing old) (calm_nothing old) refl h t o st (greeting_fits p settings pool.spare pool.spare old state s f);
        whole = λ t o st f. no_cut {T = T} {E = E} old old now [] [] [] (greeting_in p) x (talked_nothing old) (calm_nothing old) refl h t o st (greeting_fits p settings pool.spare pool.spare old state s f);
      },
      h.uses.is_open,
      h.hang,
    )

-- the last byte that was fed
abbrev last_fed : (p : Protocol) (settings : Parts) (spare : ℕ) (old mid : Line) (before pool pool2 : Pool) (state state2 : StateIn p) (byte : ℕ) (heard ahead reply : List ℕ) (end : Option SessionEnd)
    (u : SessionUnderWay p settings spare old mid before pool state heard (byte ∷ ahead)) (h : Fed p settings spare state2 u.fed byte u.session reply end pool pool2)
    → said_in p h.answer ≡ h.answer ∷ [] → IsAnsweredLast p settings spare (u.fed ++ byte ∷ []) h.longer h.answer
last_fed p settings spare old mid before pool pool2 state state2 byte heard ahead reply end u h one = record {
  before = u.fed;
  byte = byte;
  earlier = u.session;
  cut = refl;
  earlier_is = session_in p settings spare state u.fed u.session pool.spare u.stands;
  no_end = u.no_end;
  answers = h.answers_are ∙ ap (λ (z : List (AnswerIn p)). answers_in p u.session ++ z) one;
}

-- what is said up to this byte fits
fits_fed : (p : Protocol) (settings : Parts) (spare : ℕ) (old mid : Line) (before pool pool2 : Pool) (state state2 : StateIn p) (byte : ℕ) (heard ahead reply : List ℕ) (end : Option SessionEnd)
    (u : SessionUnderWay p settings spare old mid before pool state heard (byte ∷ ahead)) → Fed p settings spare state2 u.fed byte u.session reply end pool pool2
    → IsTrue old.tells → IsTrue old.is_open → HasRoomForReplies p settings spare (here old) → length (spoken p u.session ++ reply) ≤ (here old).room
fits_fed p settings spare old mid before pool pool2 state state2 byte heard ahead reply end u h k o f =
    subst (λ (z : List ℕ). length z ≤ (here old).room) (says_on p settings spare pool pool2 state2 u.fed byte u.session reply end h)
    (fits_front p settings spare (here old) (u.fed ++ byte ∷ []) (ahead ++ (mid.connection (last old)).rest) h.longer f
    (heard_rest p settings spare old mid before pool state byte heard ahead u k o)
    (session_in p settings spare state2 (u.fed ++ byte ∷ []) h.longer pool2.spare h.stands))

-- the last reply was said
told : {T E : Type 0} (p : Protocol) (settings : Parts) (spare : ℕ) (old mid now : Line) (before pool pool2 : Pool) (state state2 : StateIn p) (byte : ℕ) (heard ahead reply : List ℕ) (end : Option SessionEnd) (x : T) (by : SessionEnd)
    (u : SessionUnderWay p settings spare old mid before pool state heard (byte ∷ ahead)) (h : Fed p settings spare state2 u.fed byte u.session reply end pool pool2)
    → IsTrue (is_last p h.answer) → said_in p h.answer ≡ h.answer ∷ [] → Says {E = E} mid now reply (Ok x) → by ≡ end_in p h.longer → Ran p settings spare old now before pool2 state2 by
told {T} {E} p settings spare old mid now before pool pool2 state state2 byte heard ahead reply end x by u h e one s d =
    let m = calm_says {T = T} {E = E} old mid now heard (spoken p u.session) u.turns reply x u.line u.calm u.open_stays s in
    let says = says_on p settings spare pool pool2 state2 u.fed byte u.session reply end h in
    record {
      heard = heard;
      fed = u.fed ++ byte ∷ [];
      session = h.longer;
      said = spoken p u.session ++ reply;
      turns = u.turns;
      stop = is_told h.answer;
      fed_is = record { rest = ahead; is = u.heard_is ∙ sym (append_assoc u.fed (byte ∷ []) ahead) };
      session_is = session_in p settings spare state2 (u.fed ++ byte ∷ []) h.longer pool2.spare h.stands;
      stands = h.stands;
      pages_are = pages_on p settings spare before pool pool2 state2 u.fed byte u.session reply end u.pages_are h;
      cells_stay = cells_gain pool pool2 h.gained h.pool ∙ u.cells_stay;
      line = talked_says {T = T} {E = E} old mid now heard (spoken p u.session) u.turns reply x u.line u.open_stays s;
      turns_are = turns_on p settings spare (here old) heard (spoken p u.session) heard (spoken p u.session ++ reply) u.turns
          (front_same heard) (front_append (spoken p u.session) reply) u.turns_are;
      stops = record {
        last_answer = last_fed p settings spare old mid before pool pool2 state state2 byte heard ahead reply end u h one;
        is_the_end = e;
        said_is = sym says;
        hear = m.hear;
        say = m.say;
        end_is = d;
      };
      well = λ k o q f. record {
        hear = m.hear;
        say = m.say;
        not_lost = subst (λ (v : SessionEnd). v ≢ LineLost) (sym d) (not_lost p h.longer);
        steady = m.steady k o q (fits_fed p settings spare old mid before pool pool2 state state2 byte heard ahead reply end u h k o f);
      };
      whole = λ k o q f. sym says;
    }

-- saying the reply failed
say_failed : {T E : Type 0} (p : Protocol) (settings : Parts) (spare : ℕ) (old mid now : Line) (before pool pool2 : Pool) (state state2 : StateIn p) (byte : ℕ) (heard ahead reply : List ℕ) (end : Option SessionEnd) (x : E) (by : SessionEnd)
    (u : SessionUnderWay p settings spare old mid before pool state heard (byte ∷ ahead)) (h : Fed p settings spare state2 u.fed byte u.session reply end pool pool2)
    → said_in p h.answer ≡ h.answer ∷ [] → Says {T = T} mid now reply (Err x) → by ≡ cond (is_last p h.answer) (end_in p h.longer) LineLost → Ran p settings spare old now before pool2 state2 by
say_failed {T} {E} p settings spare old mid now before pool pool2 state state2 byte heard ahead reply end x by u h one s d =
    let k = talked_cut {T = T} {E = E} old mid now heard (spoken p u.session) u.turns reply x u.line u.open_stays s in
    record {
      heard = heard;
      fed = u.fed ++ byte ∷ [];
      session = h.longer;
      said = spoken p u.session ++ take k.0 reply;
      turns = u.turns;
      stop = is_mute h.answer k.0;
      fed_is = record { rest = ahead; is = u.heard_is ∙ sym (append_assoc u.fed (byte ∷ []) ahead) };
      session_is = session_in p settings spare state2 (u.fed ++ byte ∷ []) h.longer pool2.spare h.stands;
      stands = h.stands;
      pages_are = pages_on p settings spare before pool pool2 state2 u.fed byte u.session reply end u.pages_are h;
      cells_stay = cells_gain pool pool2 h.gained h.pool ∙ u.cells_stay;
      line = k.2;
      turns_are = turns_on p settings spare (here old) heard (spoken p u.session) heard (spoken p u.session ++ take k.0 reply) u.turns
          (front_same heard) (front_append (spoken p u.session) (take k.0 reply)) u.turns_are;
      stops = record {
        last_answer = last_fed p settings spare old mid before pool pool2 state state2 byte heard ahead reply end u h one;
        within = subst (λ (z : List ℕ). k.0 ≤ length z) h.reply_is k.1;
        said_is = ap (λ (z : List ℕ). spoken p u.session ++ take k.0 z) h.reply_is;
        hear = s.hear ∙ u.calm.hear;
        say = subst (λ (n : ℕ). Rose n now.say) u.calm.say s.cause.failed;
        end_is = d;
      };
      well = λ q o r f. no_cut {T = T} {E = E} old mid now heard (spoken p u.session) u.turns reply x u.line u.calm u.open_stays s q o r
          (fits_fed p settings spare old mid before pool pool2 state state2 byte heard ahead reply end u h q o f);
      whole = λ q o r f. no_cut {T = T} {E = E} old mid now heard (spoken p u.session) u.turns reply x u.line u.calm u.open_stays s q o r
          (fits_fed p settings spare old mid before pool pool2 state state2 byte heard ahead reply end u h q o f);
    }

-- an answer with a reply is said
is_spoken : (p : Protocol) (settings : Parts) (spare : ℕ) (pool pool2 : Pool) (state : StateIn p) (bytes : List ℕ) (byte : ℕ) (session : SessionIn p) (reply : List ℕ) (end : Option SessionEnd)
    → (h : Fed p settings spare state bytes byte session reply end pool pool2) → (reply ≡ [] → ⊥) → said_in p h.answer ≡ h.answer ∷ []
is_spoken p settings spare pool pool2 state bytes byte session reply end h some = one_said p h.answer (λ e. some (h.reply_is ∙ e))

-- the line was lost at a reply that isn't the last
pub lost : {T E : Type 0} (p : Protocol) (settings : Parts) (spare : ℕ) (old mid now : Line) (before pool pool2 : Pool) (state state2 : StateIn p) (byte : ℕ) (heard ahead reply : List ℕ) (end : Option SessionEnd) (x : E)
    → (u : SessionUnderWay p settings spare old mid before pool state heard (byte ∷ ahead)) → Fed p settings spare state2 u.fed byte u.session reply end pool pool2 → (reply ≡ [] → ⊥) → end ≡ None → Says {T = T} mid now reply (Err x)
    → GoesOn p settings spare old now before pool2 state2 heard ahead (Some LineLost)
lost {T} {E} p settings spare old mid now before pool pool2 state state2 byte heard ahead reply end x u h some none s =
    let goes = none_goes (is_last p h.answer) (end_in p h.longer) (sym none ∙ h.end_is) in
    (say_failed {T = T} {E = E} p settings spare old mid now before pool pool2 state state2 byte heard ahead reply end x LineLost u h (is_spoken p settings spare pool pool2 state2 u.fed byte u.session reply end h some) s (rw goes refl), s.uses.is_open ∙ u.open_stays, s.hang ∙ u.hang)

-- the end that an answer decided
some_ends : (b : Bool) (e x : SessionEnd) → Some e ≡ (if b then Some x else None) → IsTrue b × (e ≡ x)
some_ends true e x h = (refl, ap (λ (o : Option SessionEnd). elim o [ None ↦ e | Some v ↦ v ]) h)
some_ends false e x h = absurd cc

-- the last reply was said, or saying it failed
pub ended : {T E : Type 0} (p : Protocol) (settings : Parts) (spare : ℕ) (old mid now : Line) (before pool pool2 : Pool) (state state2 : StateIn p) (byte : ℕ) (heard ahead reply : List ℕ) (end : Option SessionEnd) (r : Result T E) (by : SessionEnd)
    → (u : SessionUnderWay p settings spare old mid before pool state heard (byte ∷ ahead)) → Fed p settings spare state2 u.fed byte u.session reply end pool pool2 → (reply ≡ [] → ⊥) → end ≡ Some by → Says mid now reply r
    → GoesOn p settings spare old now before pool2 state2 heard ahead (Some by)
ended {T} {E} p settings spare old mid now before pool pool2 state state2 byte heard ahead reply end (Ok x) by u h some is s =
    let two = some_ends (is_last p h.answer) by (end_in p h.longer) (sym is ∙ h.end_is) in
    (told {T = T} {E = E} p settings spare old mid now before pool pool2 state state2 byte heard ahead reply end x by u h two.0 (is_spoken p settings spare pool pool2 state2 u.fed byte u.session reply end h some) s two.1, s.uses.is_open ∙ u.open_stays, s.hang ∙ u.hang)
ended {T} {E} p settings spare old mid now before pool pool2 state state2 byte heard ahead reply end (Err x) by u h some is s =
    let two = some_ends (is_last p h.answer) by (end_in p h.longer) (sym is ∙ h.end_is) in (
      say_failed {T = T} {E = E} p settings spare old mid now before pool pool2 state state2 byte heard ahead reply end x by u h (is_spoken p settings spare pool pool2 state2 u.fed byte u.session reply end h some) s
          (two.1 ∙ sym (ap (λ (b : Bool). cond b (end_in p h.longer) LineLost) two.0)),
      s.uses.is_open ∙ u.open_stays,
      s.hang ∙ u.hang,
    )

-- nothing was left to be heard
pub silent : {E : Type 0} (p : Protocol) (settings : Parts) (spare : ℕ) (old mid now : Line) (before pool : Pool) (state : StateIn p) (heard buffer : List ℕ) (n : ℕ) → SessionUnderWay p settings spare old mid before pool state heard [] → n ≡ 0 → Hears {E = E} mid now buffer (Ok n)
    → GoesOn p settings spare old now before pool state [] [] (Some HungUp)
silent {E} p settings spare old mid now before pool state heard buffer n u z j =
    let h : Hears {E = E} mid now buffer (Ok 0) = subst (λ (k : ℕ). Hears {E = E} mid now buffer (Ok k)) z j in
    let m = calm_hears old mid now heard (spoken p u.session) u.turns buffer 0 u.line u.calm u.open_stays h in (
      record {
        heard = heard;
        fed = u.fed;
        session = u.session;
        said = spoken p u.session;
        turns = u.turns;
        stop = is_silent;
        fed_is = record { rest = []; is = u.heard_is };
        session_is = session_in p settings spare state u.fed u.session pool.spare u.stands;
        stands = u.stands;
        pages_are = u.pages_are;
        cells_stay = u.cells_stay;
        line = talked_silent old mid now heard (spoken p u.session) u.turns buffer u.line u.open_stays h;
        turns_are = u.turns_are;
        stops = record {
          all = all_fed p settings spare old mid before pool state heard u;
          nothing_left = λ k o. (u.line.grew k o).rest ∙ (ap (λ (z : List ℕ). heard ++ z) (subst (λ (m : ℕ). (mid.connection (m - 1)).rest ≡ []) u.line.opened ((h.rest (still u.line.tells k) (still u.open_stays o)).1.0 refl)) ∙ append-nil heard);
          no_end = u.no_end;
          said_is = refl;
          hear = m.hear;
          say = m.say;
          end_is = refl;
        };
        well = λ k o s q. record { hear = m.hear; say = m.say; steady = m.steady k o s (fits_now p settings spare old mid before pool state heard u k o q); not_lost = λ e. absurd cc };
        whole = λ k o s q. refl;
      },
      h.uses.is_open ∙ u.open_stays,
      h.hang ∙ u.hang,
    )

-- a hear failed
pub hear_failed : {E : Type 0} (p : Protocol) (settings : Parts) (spare : ℕ) (old mid now : Line) (before pool : Pool) (state : StateIn p) (heard buffer : List ℕ) (e : E) → SessionUnderWay p settings spare old mid before pool state heard [] → Hears mid now buffer (Err e)
    → GoesOn p settings spare old now before pool state [] [] (Some LineLost)
hear_failed {E} p settings spare old mid now before pool state heard buffer e u h = (
  record {
    heard = heard;
    fed = u.fed;
    session = u.session;
    said = spoken p u.session;
    turns = u.turns;
    stop = is_deaf;
    fed_is = record { rest = []; is = u.heard_is };
    session_is = session_in p settings spare state u.fed u.session pool.spare u.stands;
    stands = u.stands;
    pages_are = u.pages_are;
    cells_stay = u.cells_stay;
    line = talked_deaf old mid now heard (spoken p u.session) u.turns buffer e u.line u.open_stays h;
    turns_are = u.turns_are;
    stops = record {
      all = all_fed p settings spare old mid before pool state heard u;
      no_end = u.no_end;
      said_is = refl;
      hear = subst (λ (n : ℕ). Rose n now.hear) u.calm.hear h.cause.failed;
      say = h.say ∙ u.calm.say;
      end_is = refl;
    };
    well = λ k o s q. no_deaf old mid now heard (spoken p u.session) u.turns buffer e u.line u.calm u.open_stays h k o s (fits_now p settings spare old mid before pool state heard u k o q);
    whole = λ k o s q. refl;
  },
  h.uses.is_open ∙ u.open_stays,
  h.hang ∙ u.hang,
)

-- a session isn't under way after a million bytes
pub too_long : {B : Type 0} (p : Protocol) (settings : Parts) (spare : ℕ) (old mid : Line) (before pool : Pool) (state : StateIn p) (heard : List ℕ) → SessionUnderWay p settings spare old mid before pool state heard [] → 1000000 ≤ length heard → B
too_long p settings spare old mid before pool state heard u h =
    let few = few_bytes p settings spare u.fed u.session (session_in p settings spare state u.fed u.session pool.spare u.stands) u.no_end in
    absurd (omega (arith, h, few, ap length (all_fed p settings spare old mid before pool state heard u)))

-- the stop of a session that was hung up
stops_on : (p : Protocol) (settings : Parts) (spare : ℕ) (old mid now : Line) (heard fed said : List ℕ) (session : SessionIn p) (end : SessionEnd) (stop : SessionStop p) → now.hear ≡ mid.hear → now.say ≡ mid.say
    → SessionStops p settings spare old mid heard fed said session end stop → SessionStops p settings spare old now heard fed said session end stop
stops_on p settings spare old mid now heard fed said session end (is_ungreeted n) h s k = record {
  none = k.none;
  none_fed = k.none_fed;
  greets = k.greets;
  within = k.within;
  said_is = k.said_is;
  hear = h ∙ k.hear;
  say = subst (λ (n : ℕ). Rose old.say n) (sym s) k.say;
  end_is = k.end_is;
}
stops_on p settings spare old mid now heard fed said session end is_silent h s k = record { all = k.all; nothing_left = k.nothing_left; no_end = k.no_end; said_is = k.said_is; hear = h ∙ k.hear; say = s ∙ k.say; end_is = k.end_is }
stops_on p settings spare old mid now heard fed said session end is_deaf h s k = record { all = k.all; no_end = k.no_end; said_is = k.said_is; hear = subst (λ (n : ℕ). Rose old.hear n) (sym h) k.hear; say = s ∙ k.say; end_is = k.end_is }
stops_on p settings spare old mid now heard fed said session end (is_told a) h s k = record { last_answer = k.last_answer; is_the_end = k.is_the_end; said_is = k.said_is; hear = h ∙ k.hear; say = s ∙ k.say; end_is = k.end_is }
stops_on p settings spare old mid now heard fed said session end (is_mute a n) h s k = record { last_answer = k.last_answer; within = k.within; said_is = k.said_is; hear = h ∙ k.hear; say = subst (λ (n : ℕ). Rose old.say n) (sym s) k.say; end_is = k.end_is }

-- a hang-up after the session
pub hung_up : {T E : Type 0} (p : Protocol) (settings : Parts) (spare : ℕ) (old mid now : Line) (before pool : Pool) (state : StateIn p) (end : SessionEnd) (r : Result T E) → Ran p settings spare old mid before pool state end → mid.is_open ≡ old.is_open → HangsUp mid now r
    → Ran p settings spare old now before pool state end
hung_up p settings spare old mid now before pool state end r u o h = record {
  heard = u.heard;
  fed = u.fed;
  session = u.session;
  said = u.said;
  turns = u.turns;
  stop = u.stop;
  fed_is = u.fed_is;
  session_is = u.session_is;
  stands = u.stands;
  pages_are = u.pages_are;
  cells_stay = u.cells_stay;
  line = record {
    tells = h.keeps.tells ∙ u.line.tells;
    count = h.keeps.count ∙ u.line.count;
    lent = h.keeps.lent ∙ u.line.lent;
    opened = h.opened ∙ u.line.opened;
    asked = h.asked ∙ u.line.asked;
    grew = λ k o. subst (λ (c : Connection). Grew (here old) c u.heard u.said u.turns) (sym (h.connections (last old))) (u.line.grew k o);
    others = λ k ne. h.connections k ∙ u.line.others k ne;
    gate = h.gate ∙ u.line.gate;
  };
  turns_are = u.turns_are;
  stops = stops_on p settings spare old mid now u.heard u.fed u.said u.session end u.stop h.hear h.say u.stops;
  well = λ k w s f. let q = u.well k w s f in record { hear = h.hear ∙ q.hear; say = h.say ∙ q.say; steady = (h.steady (still u.line.tells k) q.steady (still o w)).1; not_lost = q.not_lost };
  whole = u.whole;
}

-- and over a steady wire it doesn't fail
pub hung_up_well : {T E : Type 0} (p : Protocol) (settings : Parts) (spare : ℕ) (old mid now : Line) (before pool : Pool) (state : StateIn p) (end : SessionEnd) (r : Result T E) → Ran p settings spare old mid before pool state end → mid.is_open ≡ old.is_open → mid.hang ≡ old.hang → HangsUp mid now r
    → IsTrue old.tells → IsTrue old.is_open → IsTrue old.steady → HasRoomForReplies p settings spare (here old) → now.hang ≡ old.hang
hung_up_well {T} {E} p settings spare old mid now before pool state end (Ok x) u o g h k w s f = h.cause.kept ∙ g
hung_up_well {T} {E} p settings spare old mid now before pool state end (Err e) u o g h k w s f = no_ok T E e (h.steady (still u.line.tells k) (u.well k w s f).steady (still o w)).0
