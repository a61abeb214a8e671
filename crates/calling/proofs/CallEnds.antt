-- A byte of a call is fed, and a call comes to its end.
use Rattle.std.proofs.Common.{◌≡◌, inl, inr, ℕ, ◌+◌, ◌-◌, ◌≤◌, ◌<◌, List, [], ◌∷◌, ◌++◌, append-nil, length, length-append, take, Ok, Err, IsTrue, refl, sym, ◌∙◌, ap, subst, arith}
use Rattle.entry_line.specs.Chars.{cr, char_of}
use Rattle.tap_block.specs.Chars.{characters}
use Rattle.tap_entry.specs.declared.hearing.Mark.{Mark}
use Rattle.tap_entry.specs.declared.outcomes.Outcome.{Outcome}
use Rattle.tap_entry.specs.Client.{Client}
use Rattle.tap_entry.specs.Held.{Caller}
use Rattle.tap_entry.specs.Marks.{AreMarks}
use Rattle.tap_entry.specs.PagesFile.{FileContent}
use Rattle.tap_entry.specs.States.{CallingFor}
use Rattle.wires.specs.Below.{Speaks}
use Rattle.wires.specs.Causes.{Rose}
use Rattle.wires.specs.Line.{Hears, Line}
use Rattle.wires.specs.declared.Failed.{Failed}
use Rattle.wires.proofs.Written.{still}
use Rattle.calling.specs.declared.stages.Ending.TheVariants.{Over, Lost}
use Rattle.calling.specs.declared.stages.Logon.{Logon}
use Rattle.calling.specs.declared.stages.Logon.TheVariants.{Pending}
use Rattle.calling.specs.declared.stages.Stage.{Stage}
use Rattle.calling.specs.declared.stages.Stage.TheVariants.{Calling}
use Rattle.calling.specs.declared.stages.Step.{Step}
use Rattle.calling.specs.declared.stages.Step.TheVariants.{On, Ends}
use Rattle.calling.specs.Conversations.{GoesOnSo, HasRoom, CallStaysOpen, IsTurnOf, IsWithinDue, CallUnderWay, hear_failed as is_deaf, long as is_long, say_failed as is_mute, silent as is_silent, through as is_through}
use Rattle.calling.specs.Progress.{At, Moves, logon_of_stage, outcomes_of}
use Rattle.endings.specs.Talk.{here}
use Rattle.calling.proofs.Calling.{early_on, early_still, fits_now, heard_first, heard_so, last_drops, said_here, turns_on, within_still}
use Rattle.tap_block.proofs.Characters.{characters_on}
use Rattle.wires.proofs.Fronts.{front_append, front_same, front_then, splice}
use Rattle.endings.proofs.Lists.{all-append}
use Rattle.calling.proofs.Moving.{at_client, at_goes_on, at_logon, at_marks}
use Rattle.calling.proofs.SpokenTalks.{calm_speaks, no_cut_speaks, talked_speaks, talked_speaks_cut}
use Rattle.endings.proofs.Talks.{calm_hears, calm_nothing, no_deaf, talked_deaf, talked_hears, talked_nothing, talked_silent}

-- what was fed has fewer than 1,000,000 characters
few_fed : (left n : ℕ) → left + n ≡ 999999 → n ≤ 999999
few_fed left n e = omega (arith, e)

module _ (told : FileContent) (old mid now : Line) (stage : Stage) (left : ℕ) (done : List Outcome) (byte : ℕ) (heard ahead : List ℕ) (u : CallUnderWay told old mid stage left done heard (byte ∷ ahead)) where
  abbrev fed2 : List ℕ
  fed2 = u.fed ++ byte ∷ []

  heard2 : heard ≡ fed2 ++ ahead
  heard2 = u.heard_is ∙ sym (splice u.fed byte ahead)

  few2 : (left2 : ℕ) → left2 + 1 ≡ left → length fed2 ≤ 999999
  few2 left2 e = let a = u.left_is in let b = length-append u.fed (byte ∷ []) in omega (arith, a, b, e)

  -- what is said for one byte more fits
  fits2 : (left2 : ℕ) → left2 + 1 ≡ left → (said : List ℕ) (marks : List Mark) (outcomes : List Outcome) → AreMarks (characters u.fed ++ char_of byte ∷ []) marks → Client told.password told.pages marks outcomes said
      → IsTrue old.tells → IsTrue old.is_open → HasRoom told (here old) → length said ≤ (here old).room
  fits2 left2 e said marks outcomes m c k p r =
      let few = few2 left2 e in
      r fed2 said (front_then fed2 heard (here old).rest (record { rest = ahead; is = heard2 }) (heard_first told old mid stage left done heard (byte ∷ ahead) u k p))
      (record { most = omega (arith, few); early = early_on told u.fed byte u.early })
      (said_here told fed2 said marks outcomes (heard_so fed2 marks few (subst (λ z. AreMarks z marks) (sym (characters_on u.fed byte)) m)) c)

  goes_further : (stage2 : Stage) (left2 : ℕ) (done2 : List Outcome) → left2 + 1 ≡ left → Moves told (characters u.fed ++ char_of byte ∷ []) u.said mid now done2 (On stage2)
      → CallUnderWay told old now stage2 left2 done2 heard ahead
  goes_further stage2 left2 done2 e m =
      let few = few2 left2 e in
      let a : At told stage2 done2 (characters fed2) m.marks (u.said ++ m.piece) = subst (λ z. At told stage2 done2 z m.marks (u.said ++ m.piece)) (sym (characters_on u.fed byte)) m.stands in
      record {
        fed = fed2;
        marks = m.marks;
        said = u.said ++ m.piece;
        turns = u.turns;
        heard_is = heard2;
        stands = a;
        left_is = (let a = u.left_is in let b = length-append u.fed (byte ∷ []) in omega (arith, a, b, e));
        early = early_still told stage2 done2 fed2 m.marks (u.said ++ m.piece) few a (early_on told u.fed byte u.early);
        line = talked_speaks old mid now heard u.said u.turns m.piece _ u.line u.open_stays m.spoke;
        calm = calm_speaks old mid now heard u.said u.turns m.piece _ u.line u.calm u.open_stays m.spoke;
        turns_are = turns_on told (here old) heard u.said heard (u.said ++ m.piece) u.turns (front_same heard) (front_append u.said m.piece) u.turns_are;
        open_stays = m.spoke.around.is_open ∙ u.open_stays;
        hang = m.spoke.around.hang ∙ u.hang;
      }

  through : (logon : Logon) (left2 : ℕ) (done2 : List Outcome) → left2 + 1 ≡ left → Moves told (characters u.fed ++ char_of byte ∷ []) u.said mid now done2 (Ends (Over logon))
      → CallStaysOpen told old now (outcomes_of told logon done2) (Over logon)
  through logon left2 done2 e m =
      let few = few2 left2 e in
      let q = calm_speaks old mid now heard u.said u.turns m.piece _ u.line u.calm u.open_stays m.spoke in
      record {
        came = record {
          heard = heard;
          fed = fed2;
          marks = m.marks;
          due = u.said ++ m.piece;
          said = u.said ++ m.piece;
          turns = u.turns;
          stop = is_through;
          fed_is = record { rest = ahead; is = heard2 };
          marks_are = heard_so fed2 m.marks few (subst (λ z. AreMarks z m.marks) (sym (characters_on u.fed byte)) m.marks_are);
          client = m.client;
          logon = m.logon;
          within = record { most = omega (arith, few); early = early_on told u.fed byte u.early };
          line = talked_speaks old mid now heard u.said u.turns m.piece _ u.line u.open_stays m.spoke;
          turns_are = turns_on told (here old) heard u.said heard (u.said ++ m.piece) u.turns (front_same heard) (front_append u.said m.piece) u.turns_are;
          stops = record { reason = m.stands; said_is = refl; hear = q.hear; say = q.say; ending_is = refl };
          well = λ k p s r. record { hear = q.hear; say = q.say; steady = q.steady k p s (fits2 left2 e (u.said ++ m.piece) m.marks _ m.marks_are m.client k p r); over = refl };
        };
        open_stays = m.spoke.around.is_open ∙ u.open_stays;
        hang = m.spoke.around.hang ∙ u.hang;
      }

  say_failed : (logon : Logon) (left2 : ℕ) (done2 : List Outcome) → left2 + 1 ≡ left → Moves told (characters u.fed ++ char_of byte ∷ []) u.said mid now done2 (Ends (Lost logon))
      → CallStaysOpen told old now (outcomes_of told logon done2) (Lost logon)
  say_failed logon left2 done2 e m =
      let few = few2 left2 e in
      let few1 : length u.fed ≤ 999999 = few_fed left (length u.fed) u.left_is in
      let k = talked_speaks_cut {T = Unit {0}} old mid now heard u.said u.turns m.piece m.spoke.0 u.line u.open_stays m.spoke.1 in
      record {
        came = record {
          heard = heard;
          fed = fed2;
          marks = m.marks;
          due = u.said ++ m.piece;
          said = u.said ++ take k.0 m.piece;
          turns = u.turns;
          stop = is_mute;
          fed_is = record { rest = ahead; is = heard2 };
          marks_are = heard_so fed2 m.marks few (subst (λ z. AreMarks z m.marks) (sym (characters_on u.fed byte)) m.marks_are);
          client = m.client;
          logon = m.logon;
          within = record { most = omega (arith, few); early = early_on told u.fed byte u.early };
          line = k.2;
          turns_are = turns_on told (here old) heard u.said heard (u.said ++ take k.0 m.piece) u.turns (front_same heard) (front_append u.said (take k.0 m.piece)) u.turns_are;
          stops = record {
            before = u.said;
            piece = m.piece;
            n = k.0;
            due_is = refl;
            within = k.1;
            said_is = refl;
            earlier = inr (u.fed, (byte, (refl, said_here told u.fed u.said u.marks _ (heard_so u.fed u.marks few1 (at_marks told stage done (characters u.fed) u.marks u.said u.stands)) (at_client told stage done (characters u.fed) u.marks u.said u.stands))));
            hear = m.spoke.1.around.hear ∙ u.calm.hear;
            say = subst (λ (n : ℕ). Rose n now.say) u.calm.say m.spoke.1.cause.failed;
            ending_is = refl;
          };
          well = λ q p s r. no_cut_speaks {T = Unit {0}} old mid now heard u.said u.turns m.piece m.spoke.0 u.line u.calm u.open_stays m.spoke.1 q p s (fits2 left2 e (u.said ++ m.piece) m.marks _ m.marks_are m.client q p r);
        };
        open_stays = m.spoke.1.around.is_open ∙ u.open_stays;
        hang = m.spoke.1.around.hang ∙ u.hang;
      }

  pub fed_on : (step : Step) (left2 : ℕ) (done2 : List Outcome) → left2 + 1 ≡ left → Moves told (characters u.fed ++ char_of byte ∷ []) u.said mid now done2 step → GoesOnSo told old now left2 done2 heard ahead step
  fed_on (On stage2) left2 done2 e m = goes_further stage2 left2 done2 e m
  fed_on (Ends (Over logon)) left2 done2 e m = through logon left2 done2 e m
  fed_on (Ends (Lost logon)) left2 done2 e m = say_failed logon left2 done2 e m

-- the 1,000,000th character
pub too_many : (told : FileContent) (old now : Line) (stage : Stage) (left : ℕ) (done : List Outcome) (byte : ℕ) (heard ahead : List ℕ) (logon : Logon) → CallUnderWay told old now stage left done heard (byte ∷ ahead) → left ≡ 0 → logon ≡ logon_of_stage stage
    → CallStaysOpen told old now (outcomes_of told logon done) (Over logon)
too_many told old now stage left done byte heard ahead logon u z e = subst (λ l. CallStaysOpen told old now (outcomes_of told l done) (Over l)) (sym e) (by_stage)
  where
    many : length u.fed ≡ 999999
    many = let a = u.left_is in omega (arith, a, z)

    all : length (u.fed ++ byte ∷ []) ≡ 1000000
    all = let b = length-append u.fed (byte ∷ []) in omega (arith, many, b)

    by_stage : CallStaysOpen told old now (outcomes_of told (logon_of_stage stage) done) (Over (logon_of_stage stage))
    by_stage = record {
      came = record {
        heard = heard;
        fed = u.fed ++ byte ∷ [];
        marks = u.marks;
        due = u.said;
        said = u.said;
        turns = u.turns;
        stop = is_long;
        fed_is = record { rest = ahead; is = u.heard_is ∙ sym (splice u.fed byte ahead) };
        marks_are = last_drops u.fed byte u.marks many (at_marks told stage done (characters u.fed) u.marks u.said u.stands);
        client = at_client told stage done (characters u.fed) u.marks u.said u.stands;
        logon = at_logon told stage done (characters u.fed) u.marks u.said u.stands;
        within = record { most = omega (arith, all); early = early_on told u.fed byte u.early };
        line = u.line;
        turns_are = u.turns_are;
        stops = record { reason = all; said_is = refl; hear = u.calm.hear; say = u.calm.say; ending_is = refl };
        well = λ k p s r. record { hear = u.calm.hear; say = u.calm.say; steady = u.calm.steady k p s (fits_now told old now stage left done heard (byte ∷ ahead) u k p r); over = refl };
      };
      open_stays = u.open_stays;
      hang = u.hang;
    }

-- more was heard
pub hears_more : {E : Type 0} (told : FileContent) (old mid now : Line) (stage : Stage) (left : ℕ) (done : List Outcome) (heard buffer : List ℕ) (n : ℕ) → CallUnderWay told old mid stage left done heard [] → 0 < n → Hears {E = E} mid now buffer (Ok n)
    → CallUnderWay told old now stage left done (heard ++ take n buffer) (take n buffer)
hears_more {E} told old mid now stage left done heard buffer n u lt h =
    let bytes = take n buffer in
    let all : u.fed ≡ heard = sym (u.heard_is ∙ append-nil u.fed) in
    let few : length u.fed ≤ 999999 = few_fed left (length u.fed) u.left_is in
    let front = front_append heard bytes in
    let turn : IsTurnOf told (here old) (heard ++ bytes) u.said ((here old).heard + length heard, length (here old).said + length u.said) = record {
      before = u.fed;
      spoken = u.said;
      due = said_here told u.fed u.said u.marks _ (heard_so u.fed u.marks few (at_marks told stage done (characters u.fed) u.marks u.said u.stands)) (at_client told stage done (characters u.fed) u.marks u.said u.stands);
      goes_on = at_goes_on told stage done (characters u.fed) u.marks u.said u.stands;
      short = omega (arith, few);
      heard_before = front_then u.fed heard (heard ++ bytes) (record { rest = []; is = u.heard_is }) front;
      said_before = front_same u.said;
      turn_is = ap (λ z. ((here old).heard + length z, length (here old).said + length u.said)) (sym all);
    } in
    record {
      fed = u.fed;
      marks = u.marks;
      said = u.said;
      turns = u.turns ++ ((here old).heard + length heard, length (here old).said + length u.said) ∷ [];
      heard_is = ap (λ z. z ++ bytes) (sym all);
      stands = u.stands;
      left_is = u.left_is;
      early = u.early;
      line = talked_hears old mid now heard u.said u.turns buffer n u.line u.open_stays lt h;
      calm = calm_hears old mid now heard u.said u.turns buffer n u.line u.calm u.open_stays h;
      turns_are = all-append (IsTurnOf told (here old) (heard ++ bytes) u.said) u.turns (((here old).heard + length heard, length (here old).said + length u.said) ∷ [])
          (turns_on told (here old) heard u.said (heard ++ bytes) u.said u.turns front (front_same u.said) u.turns_are) (turn, tt);
      open_stays = h.uses.is_open ∙ u.open_stays;
      hang = h.hang ∙ u.hang;
    }

-- nothing was left to be heard
pub silent : {E : Type 0} (told : FileContent) (old mid now : Line) (stage : Stage) (left : ℕ) (done : List Outcome) (heard buffer : List ℕ) (n : ℕ) (logon : Logon) → CallUnderWay told old mid stage left done heard [] → n ≡ 0 → Hears {E = E} mid now buffer (Ok n)
    → logon ≡ logon_of_stage stage → CallStaysOpen told old now (outcomes_of told logon done) (Over logon)
silent {E} told old mid now stage left done heard buffer n logon u z j e =
    let h : Hears {E = E} mid now buffer (Ok 0) = subst (λ (k : ℕ). Hears {E = E} mid now buffer (Ok k)) z j in
    let m = calm_hears old mid now heard u.said u.turns buffer 0 u.line u.calm u.open_stays h in
    let few : length u.fed ≤ 999999 = few_fed left (length u.fed) u.left_is in
    subst (λ l. CallStaysOpen told old now (outcomes_of told l done) (Over l)) (sym e) (record {
      came = record {
        heard = heard;
        fed = u.fed;
        marks = u.marks;
        due = u.said;
        said = u.said;
        turns = u.turns;
        stop = is_silent;
        fed_is = record { rest = []; is = u.heard_is };
        marks_are = heard_so u.fed u.marks few (at_marks told stage done (characters u.fed) u.marks u.said u.stands);
        client = at_client told stage done (characters u.fed) u.marks u.said u.stands;
        logon = at_logon told stage done (characters u.fed) u.marks u.said u.stands;
        within = within_still told u.fed few u.early;
        line = talked_silent old mid now heard u.said u.turns buffer u.line u.open_stays h;
        turns_are = u.turns_are;
        stops = record {
          all = sym (u.heard_is ∙ append-nil u.fed);
          nothing_left = λ k p. (u.line.grew k p).rest ∙ (ap (λ (z : List ℕ). heard ++ z) (subst (λ (m : ℕ). (mid.connection (m - 1)).rest ≡ []) u.line.opened ((h.rest (still u.line.tells k) (still u.open_stays p)).1.0 refl)) ∙ append-nil heard);
          said_is = refl;
          hear = m.hear;
          say = m.say;
          ending_is = refl;
        };
        well = λ k p s r. record { hear = m.hear; say = m.say; steady = m.steady k p s (fits_now told old mid stage left done heard [] u k p r); over = refl };
      };
      open_stays = h.uses.is_open ∙ u.open_stays;
      hang = h.hang ∙ u.hang;
    })

-- a hear failed
pub hear_failed : {E : Type 0} (told : FileContent) (old mid now : Line) (stage : Stage) (left : ℕ) (done : List Outcome) (heard buffer : List ℕ) (x : E) (logon : Logon) → CallUnderWay told old mid stage left done heard [] → Hears mid now buffer (Err x)
    → logon ≡ logon_of_stage stage → CallStaysOpen told old now (outcomes_of told logon done) (Lost logon)
hear_failed {E} told old mid now stage left done heard buffer x logon u h e =
    let few : length u.fed ≤ 999999 = few_fed left (length u.fed) u.left_is in
    subst (λ l. CallStaysOpen told old now (outcomes_of told l done) (Lost l)) (sym e) (record {
      came = record {
        heard = heard;
        fed = u.fed;
        marks = u.marks;
        due = u.said;
        said = u.said;
        turns = u.turns;
        stop = is_deaf;
        fed_is = record { rest = []; is = u.heard_is };
        marks_are = heard_so u.fed u.marks few (at_marks told stage done (characters u.fed) u.marks u.said u.stands);
        client = at_client told stage done (characters u.fed) u.marks u.said u.stands;
        logon = at_logon told stage done (characters u.fed) u.marks u.said u.stands;
        within = within_still told u.fed few u.early;
        line = talked_deaf old mid now heard u.said u.turns buffer x u.line u.open_stays h;
        turns_are = u.turns_are;
        stops = record {
          all = sym (u.heard_is ∙ append-nil u.fed);
          said_is = refl;
          hear = subst (λ (n : ℕ). Rose n now.hear) u.calm.hear h.cause.failed;
          say = h.say ∙ u.calm.say;
          ending_is = refl;
        };
        well = λ k p s r. no_deaf old mid now heard u.said u.turns buffer x u.line u.calm u.open_stays h k p s (fits_now told old mid stage left done heard [] u k p r);
      };
      open_stays = h.uses.is_open ∙ u.open_stays;
      hang = h.hang ∙ u.hang;
    })

-- a call isn't under way after a million bytes
pub too_long : {B : Type 0} (told : FileContent) (old mid : Line) (stage : Stage) (left : ℕ) (done : List Outcome) (heard : List ℕ) → CallUnderWay told old mid stage left done heard [] → 1000000 ≤ length heard → B
too_long told old mid stage left done heard u h =
    let a = u.left_is in
    let b = ap length (u.heard_is ∙ append-nil u.fed) in
    absurd (omega (arith, h, a, b))

-- the first CR couldn't be said
pub no_first : (told : FileContent) (c : Caller) (old now : Line) (done : List Outcome) (x : Failed) → length told.pages ≤ 1000 → c.password ≡ told.password → CallingFor c [] [] [] → done ≡ [] → Speaks {T = Unit {0}} old now (cr ∷ []) (Err x)
    → CallStaysOpen told old now (outcomes_of told Pending done) (Lost Pending)
no_first told c old now done x few e k n s =
    let a : At told (Calling c) done [] [] (cr ∷ []) = record { few = few; password = e; none = n; spoken = []; stands = k; said_is = refl } in
    let q = talked_speaks_cut {T = Unit {0}} old old now [] [] [] (cr ∷ []) x (talked_nothing old) refl s in
    let w : IsWithinDue told [] = record { most = omega arith; early = λ front m f lt. absurd (omega (arith, lt)) } in
    record {
      came = record {
        heard = [];
        fed = [];
        marks = [];
        due = cr ∷ [];
        said = take q.0 (cr ∷ []);
        turns = [];
        stop = is_mute;
        fed_is = record { rest = []; is = refl };
        marks_are = heard_so [] [] (omega arith) (at_marks told (Calling c) done [] [] (cr ∷ []) a);
        client = at_client told (Calling c) done [] [] (cr ∷ []) a;
        logon = at_logon told (Calling c) done [] [] (cr ∷ []) a;
        within = w;
        line = q.2;
        turns_are = tt;
        stops = record { before = []; piece = cr ∷ []; n = q.0; due_is = refl; within = q.1; said_is = refl; earlier = inl (refl, refl); hear = s.around.hear; say = s.cause.failed; ending_is = refl };
        well = λ t p y r. no_cut_speaks {T = Unit {0}} old old now [] [] [] (cr ∷ []) x (talked_nothing old) (calm_nothing old) refl s t p y
            (r [] (cr ∷ []) (record { rest = (here old).rest; is = refl }) w (said_here told [] (cr ∷ []) [] _ (heard_so [] [] (omega arith) (at_marks told (Calling c) done [] [] (cr ∷ []) a)) (at_client told (Calling c) done [] [] (cr ∷ []) a)));
      };
      open_stays = s.around.is_open;
      hang = s.around.hang;
    }
