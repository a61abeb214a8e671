-- A client's call over the open connection.
use Rattle.std.specs.Prelude.{◌≡◌, ◌⊎◌, ℕ, ◌+◌, ◌≤◌, ◌<◌, List, [], ◌∷◌, ◌++◌, length, take, IsTrue}
use Rattle.std.specs.List.{AllByRecursion}
use Rattle.tap_block.specs.Chars.{characters}
use Rattle.tap_entry.specs.declared.hearing.Mark.{Mark}
use Rattle.tap_entry.specs.declared.outcomes.Outcome.{Outcome}
use Rattle.tap_entry.specs.Client.{Client}
use Rattle.tap_entry.specs.Marks.{AreHeard}
use Rattle.tap_entry.specs.PagesFile.{FileContent}
use Rattle.wires.specs.Causes.{Rose}
use Rattle.wires.specs.Held.{Connection}
use Rattle.wires.specs.Line.{Line}
use Rattle.calling.specs.declared.stages.Ending.{Ending}
use Rattle.calling.specs.declared.stages.Ending.TheVariants.{Over, Lost}
use Rattle.calling.specs.declared.stages.Stage.{Stage}
use Rattle.calling.specs.declared.stages.Step.{Step}
use Rattle.calling.specs.declared.stages.Step.TheVariants.{On, Ends}
use Rattle.calling.specs.Progress.{At, EndsCall, IsLogon, logon_of, outcomes_of}
use Rattle.wires.specs.Fronts.{IsFront}
use Rattle.endings.specs.Talk.{Calm, Talked, here}

-- The bytes are within those that are due: they have at most 1,000,000 characters, and the marks of no shorter front end the call.
pub record IsWithinDue (told : FileContent) (bytes : List ℕ) : Type 0 where
  pub most : length bytes ≤ 1000000
  pub early : (front : List ℕ) (marks : List Mark) → IsFront front bytes → length front < length bytes → AreHeard front marks → EndsCall told marks → ⊥

-- For these bytes the definition of the client says this.
pub record IsSaidFor (told : FileContent) (bytes said : List ℕ) : Type 0 where
  pub marks : List Mark
  pub outcomes : List Outcome
  pub marks_are : AreHeard bytes marks
  pub client : Client told.password told.pages marks outcomes said

-- At a turn all that was due had been said for all that was heard before it, and that didn't end the call.
pub record IsTurnOf (told : FileContent) (c : Connection) (heard said : List ℕ) (turn : ℕ × ℕ) : Type 0 where
  pub before : List ℕ
  pub spoken : List ℕ
  pub due : IsSaidFor told before spoken
  pub goes_on : EndsCall told due.marks → ⊥
  pub short : length before < 1000000
  pub heard_before : IsFront before heard
  pub said_before : IsFront spoken said
  pub turn_is : turn ≡ (c.heard + length before, length c.said + length spoken)

-- why a call stopped
pub data CallStop : Type 0 where
  -- nothing was left to be heard
  silent : CallStop
  -- a hear failed
  hear_failed : CallStop
  -- the marks ended the call
  through : CallStop
  -- the 1,000,000th character was heard
  long : CallStop
  -- saying a piece failed
  say_failed : CallStop

-- All that was heard was fed, and nothing was left.
pub record CallInputEnded (old new : Line) (heard fed due said : List ℕ) (ending : Ending) : Type 0 where
  pub all : fed ≡ heard
  pub nothing_left : IsTrue old.tells → IsTrue old.is_open → (here old).rest ≡ heard
  pub said_is : said ≡ due
  pub hear : new.hear ≡ old.hear
  pub say : new.say ≡ old.say
  pub ending_is : ending ≡ Over (logon_of ending)

-- A hear failed. All that was heard was fed.
pub record CallHearFailed (old new : Line) (heard fed due said : List ℕ) (ending : Ending) : Type 0 where
  pub all : fed ≡ heard
  pub said_is : said ≡ due
  pub hear : Rose old.hear new.hear
  pub say : new.say ≡ old.say
  pub ending_is : ending ≡ Lost (logon_of ending)

-- The marks of what was fed ended the call, or it has 1,000,000 characters.
pub record IsThrough (old new : Line) (due said : List ℕ) (ending : Ending) (why : Type 0) : Type 0 where
  pub reason : why
  pub said_is : said ≡ due
  pub hear : new.hear ≡ old.hear
  pub say : new.say ≡ old.say
  pub ending_is : ending ≡ Over (logon_of ending)

-- Saying the last piece failed: the first CR, or what the last byte that was fed brought.
pub record CallSayFailed (told : FileContent) (old new : Line) (fed due said : List ℕ) (ending : Ending) : Type 0 where
  pub before : List ℕ
  pub piece : List ℕ
  pub n : ℕ
  pub due_is : due ≡ before ++ piece
  pub within : n ≤ length piece
  pub said_is : said ≡ before ++ take n piece
  pub earlier : ((fed ≡ []) × (before ≡ [])) ⊎ ((front : List ℕ) × ((byte : ℕ) × ((fed ≡ front ++ byte ∷ []) × IsSaidFor told front before)))
  pub hear : new.hear ≡ old.hear
  pub say : Rose old.say new.say
  pub ending_is : ending ≡ Lost (logon_of ending)

-- what holds by why the call stopped
abbrev pub CallStops : FileContent → Line → Line → List ℕ → List ℕ → List Mark → List ℕ → List ℕ → Ending → CallStop → Type 0
CallStops told old new heard fed marks due said ending silent = CallInputEnded old new heard fed due said ending
CallStops told old new heard fed marks due said ending hear_failed = CallHearFailed old new heard fed due said ending
CallStops told old new heard fed marks due said ending through = IsThrough old new due said ending (EndsCall told marks)
CallStops told old new heard fed marks due said ending long = IsThrough old new due said ending (length fed ≡ 1000000)
CallStops told old new heard fed marks due said ending say_failed = CallSayFailed told old new fed due said ending

-- The connection has room for what is said for each front of what is due.
abbrev pub HasRoom : FileContent → Connection → Type 0
HasRoom told c = (front said : List ℕ) → IsFront front c.rest → IsWithinDue told front → IsSaidFor told front said → length said ≤ c.room

-- No hear and no say failed, the wire is steady, and the call wasn't lost.
pub record CallIsWell (old new : Line) (ending : Ending) : Type 0 where
  pub hear : new.hear ≡ old.hear
  pub say : new.say ≡ old.say
  pub steady : IsTrue new.steady
  pub over : ending ≡ Over (logon_of ending)

-- A call came to its end: what was heard, the front of it that was due and its marks, what the definition of the client says for these,
-- what was said, the turns, and why it stopped. The outcomes are those of the marks.
pub record Came (told : FileContent) (old new : Line) (outcomes : List Outcome) (ending : Ending) : Type 0 where
  pub heard : List ℕ
  pub fed : List ℕ
  pub marks : List Mark
  pub due : List ℕ
  pub said : List ℕ
  pub turns : List (ℕ × ℕ)
  pub stop : CallStop
  pub fed_is : IsFront fed heard
  pub marks_are : AreHeard fed marks
  pub client : Client told.password told.pages marks outcomes due
  pub logon : IsLogon (logon_of ending) marks
  pub within : IsWithinDue told fed
  pub line : Talked old new heard said turns
  pub turns_are : AllByRecursion (IsTurnOf told (here old) heard said) turns
  pub stops : CallStops told old new heard fed marks due said ending stop
  pub well : IsTrue old.tells → IsTrue old.is_open → IsTrue old.steady → HasRoom told (here old) → CallIsWell old new ending

-- A call came to its end, and the connection is still open.
pub record CallStaysOpen (told : FileContent) (old new : Line) (outcomes : List Outcome) (ending : Ending) : Type 0 where
  pub came : Came told old new outcomes ending
  pub open_stays : new.is_open ≡ old.is_open
  pub hang : new.hang ≡ old.hang

-- A call is under way: of what was heard, these bytes are still to be fed, and for the others all that is due was said.
pub record CallUnderWay (told : FileContent) (old now : Line) (stage : Stage) (left : ℕ) (done : List Outcome) (heard ahead : List ℕ) : Type 0 where
  pub fed : List ℕ
  pub marks : List Mark
  pub said : List ℕ
  pub turns : List (ℕ × ℕ)
  pub heard_is : heard ≡ fed ++ ahead
  pub stands : At told stage done (characters fed) marks said
  pub left_is : left + length fed ≡ 999999
  pub early : (front : List ℕ) (marks : List Mark) → IsFront front fed → AreHeard front marks → EndsCall told marks → ⊥
  pub line : Talked old now heard said turns
  pub calm : Calm old now said
  pub turns_are : AllByRecursion (IsTurnOf told (here old) heard said) turns
  pub open_stays : now.is_open ≡ old.is_open
  pub hang : now.hang ≡ old.hang

-- it goes on, or it came to its end
abbrev pub GoesOnSo : FileContent → Line → Line → ℕ → List Outcome → List ℕ → List ℕ → Step → Type 0
GoesOnSo told old now left done heard ahead (On stage) = CallUnderWay told old now stage left done heard ahead
GoesOnSo told old now left done heard ahead (Ends ending) = CallStaysOpen told old now (outcomes_of told (logon_of ending) done) ending
