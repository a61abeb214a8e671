-- A client's call goes on by one byte, or by what was heard, and comes to its end.
use Rattle.std.proofs.Common.{◌≡◌, ◌⊎◌, inl, inr, ℕ, ◌≤◌, ◌<◌, List, [], ◌∷◌, ◌++◌, append-nil, length, length-append, take, Ok, IsTrue, refl, sym, ◌∙◌, ap, subst, arith}
use Rattle.std.specs.List.{AllByRecursion}
use Rattle.std.proofs.lemmas.List.{length-map, take_all, take-append-le}
use Rattle.entry_line.specs.Chars.{cr, char_of}
use Rattle.tap_block.specs.Chars.{characters}
use Rattle.tap_entry.specs.declared.hearing.Mark.{Mark}
use Rattle.tap_entry.specs.declared.outcomes.Outcome.{Outcome}
use Rattle.tap_entry.specs.Client.{Client}
use Rattle.tap_entry.specs.Held.{Caller}
use Rattle.tap_entry.specs.Marks.{AreHeard, AreMarks}
use Rattle.tap_entry.specs.PagesFile.{FileContent}
use Rattle.tap_entry.specs.States.{CallingFor}
use Rattle.tap_entry.proofs.OneCut.{one_marks}
use Rattle.wires.specs.Below.{Speaks}
use Rattle.wires.specs.Held.{Connection}
use Rattle.wires.specs.Line.{Line, last}
use Rattle.wires.specs.declared.Failed.{Failed}
use Rattle.calling.specs.declared.stages.Stage.{Stage}
use Rattle.calling.specs.declared.stages.Stage.TheVariants.{Calling}
use Rattle.calling.specs.Conversations.{HasRoom, IsSaidFor, IsTurnOf, IsWithinDue, CallUnderWay}
use Rattle.calling.specs.Progress.{At, EndsCall}
use Rattle.wires.specs.Fronts.{IsFront}
use Rattle.endings.specs.Talk.{here}
use Rattle.tap_block.proofs.Characters.{characters_on}
use Rattle.wires.proofs.Fronts.{front_then}
use Rattle.endings.proofs.Lists.{all-map}
use Rattle.calling.proofs.Moving.{at_client, at_goes_on, at_marks}
use Rattle.calling.proofs.SpokenTalks.{calm_speaks, talked_speaks}
use Rattle.endings.proofs.Talks.{calm_nothing, talked_nothing}

-- up to 999,999 characters all count
all_count : (bytes : List ℕ) → length bytes ≤ 999999 → take 999999 (characters bytes) ≡ characters bytes
all_count bytes h = take_all 999999 (characters bytes) (omega (arith, h, length-map bytes char_of))

pub heard_so : (bytes : List ℕ) (marks : List Mark) → length bytes ≤ 999999 → AreMarks (characters bytes) marks → AreHeard bytes marks
heard_so bytes marks h m = subst (λ z. AreMarks z marks) (sym (all_count bytes h)) m

marks_so : (bytes : List ℕ) (marks : List Mark) → length bytes ≤ 999999 → AreHeard bytes marks → AreMarks (characters bytes) marks
marks_so bytes marks h m = subst (λ z. AreMarks z marks) (all_count bytes h) m

-- the 1,000,000th character completes nothing
pub last_drops : (fed : List ℕ) (byte : ℕ) (marks : List Mark) → length fed ≡ 999999 → AreMarks (characters fed) marks → AreHeard (fed ++ byte ∷ []) marks
last_drops fed byte marks e m =
    let l = length-map fed char_of in
    subst (λ z. AreMarks z marks) (sym (ap (take 999999) (characters_on fed byte) ∙ (take-append-le 999999 (characters fed) (char_of byte ∷ []) (omega (arith, e, l)) ∙ all_count fed (omega (arith, e))))) m

-- a shorter front of one byte more
shorter : (front fed : List ℕ) (byte : ℕ) (rest : List ℕ) → fed ++ byte ∷ [] ≡ front ++ rest → length front < length (fed ++ byte ∷ []) → IsFront front fed
shorter [] fed byte rest e lt = record { rest = fed; is = refl }
shorter (f ∷ front) [] byte rest e lt = absurd (omega (arith, lt))
shorter (f ∷ front) (x ∷ fed) byte rest e lt =
    let h : x ≡ f = cc in
    let t : fed ++ byte ∷ [] ≡ front ++ rest = cc in
    let k = shorter front fed byte rest t (omega (arith, lt)) in
    record { rest = k.rest; is = ap (λ q. x ∷ q) k.is ∙ ap (λ q. q ∷ (front ++ k.rest)) h }

-- a front is shorter, or it is all
front_cases : (front whole rest : List ℕ) → whole ≡ front ++ rest → (length front < length whole) ⊎ (front ≡ whole)
front_cases front whole [] e = inr (sym (e ∙ append-nil front))
front_cases front whole (r ∷ rest) e = inl (let a = ap length e in let b = length-append front (r ∷ rest) in omega (arith, a, b))

front_short : (front whole : List ℕ) → IsFront front whole → length front ≤ length whole
front_short front whole h = let a = ap length h.is in let b = length-append front h.rest in omega (arith, a, b)

-- the fronts of what was fed don't end the call
pub early_on : (told : FileContent) (fed : List ℕ) (byte : ℕ) → ((front : List ℕ) (marks : List Mark) → IsFront front fed → AreHeard front marks → EndsCall told marks → ⊥)
    → (front : List ℕ) (marks : List Mark) → IsFront front (fed ++ byte ∷ []) → length front < length (fed ++ byte ∷ []) → AreHeard front marks → EndsCall told marks → ⊥
early_on told fed byte h front marks f lt m e = h front marks (shorter front fed byte f.rest f.is lt) m e

pub early_still : (told : FileContent) (stage : Stage) (done : List Outcome) (fed : List ℕ) (marks : List Mark) (said : List ℕ) → length fed ≤ 999999 → At told stage done (characters fed) marks said
    → ((front : List ℕ) (m : List Mark) → IsFront front fed → length front < length fed → AreHeard front m → EndsCall told m → ⊥)
    → (front : List ℕ) (m : List Mark) → IsFront front fed → AreHeard front m → EndsCall told m → ⊥
early_still told stage done fed marks said few a h front m f k e = by_cases (front_cases front fed f.rest f.is)
  where
    by_cases : (length front < length fed) ⊎ (front ≡ fed) → ⊥
    by_cases (inl lt) = h front m f lt k e
    by_cases (inr q) =
        let same = one_marks (characters fed) m marks (marks_so fed m few (subst (λ z. AreHeard z m) q k)) (at_marks told stage done (characters fed) marks said a) in
        at_goes_on told stage done (characters fed) marks said a (subst (EndsCall told) same e)

pub within_still : (told : FileContent) (fed : List ℕ) → length fed ≤ 999999 → ((front : List ℕ) (marks : List Mark) → IsFront front fed → AreHeard front marks → EndsCall told marks → ⊥) → IsWithinDue told fed
within_still told fed few h = record { most = omega (arith, few); early = λ front marks f lt m e. h front marks f m e }

-- turns stay turns when more is heard and said
pub turns_on : (told : FileContent) (c : Connection) (heard said heard2 said2 : List ℕ) (turns : List (ℕ × ℕ)) → IsFront heard heard2 → IsFront said said2
    → AllByRecursion (IsTurnOf told c heard said) turns → AllByRecursion (IsTurnOf told c heard2 said2) turns
turns_on told c heard said heard2 said2 turns f g h = all-map (IsTurnOf told c heard said) (IsTurnOf told c heard2 said2) (λ turn t. record {
  before = t.before;
  spoken = t.spoken;
  due = t.due;
  goes_on = t.goes_on;
  short = t.short;
  heard_before = front_then t.before heard heard2 t.heard_before f;
  said_before = front_then t.spoken said said2 t.said_before g;
  turn_is = t.turn_is;
}) turns h

-- what is to be heard begins with what was
pub heard_first : (told : FileContent) (old now : Line) (stage : Stage) (left : ℕ) (done : List Outcome) (heard ahead : List ℕ) (u : CallUnderWay told old now stage left done heard ahead) → IsTrue old.tells → IsTrue old.is_open → IsFront heard (here old).rest
heard_first told old now stage left done heard ahead u k p = record { rest = (now.connection (last old)).rest; is = (u.line.grew k p).rest }

abbrev pub said_here : (told : FileContent) (bytes said : List ℕ) (marks : List Mark) (outcomes : List Outcome) → AreHeard bytes marks → Client told.password told.pages marks outcomes said → IsSaidFor told bytes said
said_here told bytes said marks outcomes m c = record { marks = marks; outcomes = outcomes; marks_are = m; client = c }

-- what was said fits
pub fits_now : (told : FileContent) (old now : Line) (stage : Stage) (left : ℕ) (done : List Outcome) (heard ahead : List ℕ) (u : CallUnderWay told old now stage left done heard ahead) → IsTrue old.tells → IsTrue old.is_open → HasRoom told (here old) → length u.said ≤ (here old).room
fits_now told old now stage left done heard ahead u k p r =
    let few : length u.fed ≤ 999999 = let e = u.left_is in omega (arith, e) in
    r u.fed u.said (front_then u.fed heard (here old).rest (record { rest = ahead; is = u.heard_is }) (heard_first told old now stage left done heard ahead u k p))
    (within_still told u.fed few u.early)
    (said_here told u.fed u.said u.marks _ (heard_so u.fed u.marks few (at_marks told stage done (characters u.fed) u.marks u.said u.stands)) (at_client told stage done (characters u.fed) u.marks u.said u.stands))

-- the call begins
pub begun : (told : FileContent) (c : Caller) (old now : Line) (done : List Outcome) (left : ℕ) → length told.pages ≤ 1000 → c.password ≡ told.password → CallingFor c [] [] [] → done ≡ [] → left ≡ 999999 → Speaks {E = Failed} old now (cr ∷ []) (Ok (tt {0}))
    → CallUnderWay told old now (Calling c) left done [] []
begun told c old now done left few e k n l s =
    let a : At told (Calling c) done [] [] (cr ∷ []) = record { few = few; password = e; none = n; spoken = []; stands = k; said_is = refl } in
    record {
      fed = [];
      marks = [];
      said = cr ∷ [];
      turns = [];
      heard_is = refl;
      stands = a;
      left_is = omega (arith, l);
      early = early_still told (Calling c) done [] [] (cr ∷ []) (omega arith) a (λ front m f lt. absurd (omega (arith, lt)));
      line = talked_speaks old old now [] [] [] (cr ∷ []) _ (talked_nothing old) refl s;
      calm = calm_speaks old old now [] [] [] (cr ∷ []) _ (talked_nothing old) (calm_nothing old) refl s;
      turns_are = tt;
      open_stays = s.around.is_open;
      hang = s.around.hang;
    }
