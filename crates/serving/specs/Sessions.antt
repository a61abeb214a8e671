-- A session on the open connection, in any protocol.
use Rattle.std.specs.Prelude.{◌≡◌, ◌≢◌, ℕ, ◌+◌, ◌≤◌, ◌<◌, false, List, [], ◌∷◌, ◌++◌, length, take, IsFalse, IsTrue, if◌then◌else◌, Option, Some, None}
use Rattle.std.specs.List.{AllByRecursion}
use Rattle.page_pool.specs.Gains.{Gains}
use Rattle.page_pool.specs.Pool.{Pool, cells, pages}
use Rattle.page_text.specs.Page.{Page}
use Rattle.subscribers.specs.Parts.{Parts}
use Rattle.wires.specs.Causes.{Rose}
use Rattle.wires.specs.Held.{Connection}
use Rattle.wires.specs.Line.{Line}
use Rattle.serving.specs.declared.session.SessionEnd.{SessionEnd}
use Rattle.serving.specs.declared.session.SessionEnd.TheVariants.{HungUp, LineLost}
use Rattle.serving.specs.Protocols.{AnswerIn, IsSessionIn, Protocol, SessionIn, StandsIn, StateIn, answers_in, end_in, greeting_in, has_last, is_last, queued_in, reply_in, said_in, spoken}
use Rattle.wires.specs.Fronts.{IsFront}
use Rattle.endings.specs.Talk.{Calm, Talked, here}

-- One byte more was fed: the entry line stands for the longer session, which has this answer more, if one was given, and the pages that the
-- pool gained. These bytes are the reply, and the session ends so where the answer ends it.
pub record Fed (p : Protocol) (settings : Parts) (spare : ℕ) (state : StateIn p) (bytes : List ℕ) (byte : ℕ) (session : SessionIn p) (reply : List ℕ) (end : Option SessionEnd) (before after : Pool) : Type 0 where
  pub longer : SessionIn p
  pub gained : List Page
  pub answer : AnswerIn p
  pub stands : StandsIn p settings spare state (bytes ++ byte ∷ []) longer after.spare
  pub answers_are : answers_in p longer ≡ answers_in p session ++ said_in p answer
  pub pages_are : queued_in p longer ≡ queued_in p session ++ gained
  pub pool : Gains before after gained
  pub reply_is : reply ≡ reply_in p answer
  pub end_is : end ≡ (if is_last p answer then Some (end_in p longer) else None)

-- At a turn all that was heard before it had been answered, and no answer ended the session.
pub record IsTurn (p : Protocol) (settings : Parts) (spare : ℕ) (c : Connection) (heard said : List ℕ) (turn : ℕ × ℕ) : Type 0 where
  pub before : List ℕ
  pub session : SessionIn p
  pub session_is : IsSessionIn p settings spare before session
  pub no_end : has_last p session ≡ false
  pub heard_before : IsFront before heard
  pub said_before : IsFront (spoken p session) said
  pub turn_is : turn ≡ (c.heard + length before, length c.said + length (spoken p session))

-- The last of these bytes was answered so, and no answer before it ended the session.
pub record IsAnsweredLast (p : Protocol) (settings : Parts) (spare : ℕ) (bytes : List ℕ) (session : SessionIn p) (answer : AnswerIn p) : Type 0 where
  pub before : List ℕ
  pub byte : ℕ
  pub earlier : SessionIn p
  pub cut : bytes ≡ before ++ byte ∷ []
  pub earlier_is : IsSessionIn p settings spare before earlier
  pub no_end : has_last p earlier ≡ false
  pub answers : answers_in p session ≡ answers_in p earlier ++ answer ∷ []

-- why a session stopped
pub data SessionStop (p : Protocol) : Type 0 where
  -- saying the greeting failed after so many of its bytes
  ungreeted : ℕ → SessionStop p
  -- nothing was left to be heard
  silent : SessionStop p
  -- a hear failed
  hear_failed : SessionStop p
  -- this answer, which ends the session, was said
  told : AnswerIn p → SessionStop p
  -- saying the reply to this answer failed after so many of its bytes
  say_failed : AnswerIn p → ℕ → SessionStop p

-- Saying the greeting failed: there is one, and nothing was heard.
pub record SessionUngreeted (p : Protocol) (old new : Line) (heard fed said : List ℕ) (end : SessionEnd) (n : ℕ) : Type 0 where
  pub none : heard ≡ []
  pub none_fed : fed ≡ []
  pub greets : 0 < length (greeting_in p)
  pub within : n ≤ length (greeting_in p)
  pub said_is : said ≡ take n (greeting_in p)
  pub hear : new.hear ≡ old.hear
  pub say : Rose old.say new.say
  pub end_is : end ≡ LineLost

-- All that was heard was fed and answered, and nothing was left.
pub record SessionInputEnded (p : Protocol) (old new : Line) (heard fed said : List ℕ) (session : SessionIn p) (end : SessionEnd) : Type 0 where
  pub all : fed ≡ heard
  pub nothing_left : IsTrue old.tells → IsTrue old.is_open → (here old).rest ≡ heard
  pub no_end : has_last p session ≡ false
  pub said_is : said ≡ spoken p session
  pub hear : new.hear ≡ old.hear
  pub say : new.say ≡ old.say
  pub end_is : end ≡ HungUp

-- A hear failed. All that was heard was fed and answered.
pub record SessionHearFailed (p : Protocol) (old new : Line) (heard fed said : List ℕ) (session : SessionIn p) (end : SessionEnd) : Type 0 where
  pub all : fed ≡ heard
  pub no_end : has_last p session ≡ false
  pub said_is : said ≡ spoken p session
  pub hear : Rose old.hear new.hear
  pub say : new.say ≡ old.say
  pub end_is : end ≡ LineLost

-- The answer to the last byte that was fed ended the session, and all was said.
pub record SessionToldEnd (p : Protocol) (settings : Parts) (spare : ℕ) (old new : Line) (fed said : List ℕ) (session : SessionIn p) (end : SessionEnd) (answer : AnswerIn p) : Type 0 where
  pub last_answer : IsAnsweredLast p settings spare fed session answer
  pub is_the_end : IsTrue (is_last p answer)
  pub said_is : said ≡ spoken p session
  pub hear : new.hear ≡ old.hear
  pub say : new.say ≡ old.say
  pub end_is : end ≡ end_in p session

-- Saying the reply to the last byte that was fed failed.
pub record SessionSayFailed (p : Protocol) (settings : Parts) (spare : ℕ) (old new : Line) (fed said : List ℕ) (session : SessionIn p) (end : SessionEnd) (answer : AnswerIn p) (n : ℕ) : Type 0 where
  pub last_answer : IsAnsweredLast p settings spare fed session answer
  pub within : n ≤ length (reply_in p answer)
  pub said_is : said ≡ spoken p last_answer.earlier ++ take n (reply_in p answer)
  pub hear : new.hear ≡ old.hear
  pub say : Rose old.say new.say
  pub end_is : end ≡ (if is_last p answer then end_in p session else LineLost)

-- what holds by why the session stopped
abbrev pub SessionStops : (p : Protocol) → Parts → ℕ → Line → Line → List ℕ → List ℕ → List ℕ → SessionIn p → SessionEnd → SessionStop p → Type 0
SessionStops p settings spare old new heard fed said session end (ungreeted n) = SessionUngreeted p old new heard fed said end n
SessionStops p settings spare old new heard fed said session end silent = SessionInputEnded p old new heard fed said session end
SessionStops p settings spare old new heard fed said session end hear_failed = SessionHearFailed p old new heard fed said session end
SessionStops p settings spare old new heard fed said session end (told answer) = SessionToldEnd p settings spare old new fed said session end answer
SessionStops p settings spare old new heard fed said session end (say_failed answer n) = SessionSayFailed p settings spare old new fed said session end answer n

-- The connection has room for the greeting and for the replies to all that is to be heard on it.
abbrev pub HasRoomForReplies : Protocol → Parts → ℕ → Connection → Type 0
HasRoomForReplies p settings spare c = (session : SessionIn p) → IsSessionIn p settings spare c.rest session → length (spoken p session) ≤ c.room

-- No hear and no say failed, and the session wasn't lost.
pub record SessionIsWell (old new : Line) (end : SessionEnd) : Type 0 where
  pub hear : new.hear ≡ old.hear
  pub say : new.say ≡ old.say
  pub steady : IsTrue new.steady
  pub not_lost : end ≢ LineLost

-- A session ran on the open connection, over a wire and a pool: what was heard, the front of it that was fed, the session of what
-- was fed, what was said, the turns, and why it stopped. The pool gained the pages of the session, and the entry line stands for it.
pub record Ran (p : Protocol) (settings : Parts) (spare : ℕ) (old new : Line) (before after : Pool) (state : StateIn p) (end : SessionEnd) : Type 0 where
  pub heard : List ℕ
  pub fed : List ℕ
  pub session : SessionIn p
  pub said : List ℕ
  pub turns : List (ℕ × ℕ)
  pub stop : SessionStop p
  pub fed_is : IsFront fed heard
  pub session_is : IsSessionIn p settings spare fed session
  pub stands : StandsIn p settings spare state fed session after.spare
  pub pages_are : pages after ≡ pages before ++ queued_in p session
  pub cells_stay : cells after ≡ cells before
  pub line : Talked old new heard said turns
  pub turns_are : AllByRecursion (IsTurn p settings spare (here old) heard said) turns
  pub stops : SessionStops p settings spare old new heard fed said session end stop
  pub well : IsTrue old.tells → IsTrue old.is_open → IsTrue old.steady → HasRoomForReplies p settings spare (here old) → SessionIsWell old new end
  pub whole : IsTrue old.tells → IsTrue old.is_open → IsTrue old.steady → HasRoomForReplies p settings spare (here old) → said ≡ spoken p session

-- The connection was hung up: no connection is open. Over a steady and fit wire that didn't fail.
pub record Closes (p : Protocol) (settings : Parts) (spare : ℕ) (old new : Line) : Type 0 where
  pub shut : IsTrue old.tells → IsFalse new.is_open
  pub later : old.hang ≤ new.hang
  pub well : IsTrue old.tells → IsTrue old.is_open → IsTrue old.steady → HasRoomForReplies p settings spare (here old) → new.hang ≡ old.hang

-- A session is under way: of what was heard, these bytes are still to be fed, and the others are answered.
pub record SessionUnderWay (p : Protocol) (settings : Parts) (spare : ℕ) (old now : Line) (before pool : Pool) (state : StateIn p) (heard ahead : List ℕ) : Type 0 where
  pub fed : List ℕ
  pub session : SessionIn p
  pub turns : List (ℕ × ℕ)
  pub heard_is : heard ≡ fed ++ ahead
  pub stands : StandsIn p settings spare state fed session pool.spare
  pub no_end : has_last p session ≡ false
  pub pages_are : pages pool ≡ pages before ++ queued_in p session
  pub cells_stay : cells pool ≡ cells before
  pub line : Talked old now heard (spoken p session) turns
  pub calm : Calm old now (spoken p session)
  pub turns_are : AllByRecursion (IsTurn p settings spare (here old) heard (spoken p session)) turns
  pub open_stays : now.is_open ≡ old.is_open
  pub hang : now.hang ≡ old.hang

-- It goes on, or it ran. No connection was closed.
abbrev pub GoesOn : (p : Protocol) → Parts → ℕ → Line → Line → Pool → Pool → StateIn p → List ℕ → List ℕ → Option SessionEnd → Type 0
GoesOn p settings spare old now before pool state heard ahead None = SessionUnderWay p settings spare old now before pool state heard ahead
GoesOn p settings spare old now before pool state heard ahead (Some end) = Ran p settings spare old now before pool state end × (now.is_open ≡ old.is_open) × (now.hang ≡ old.hang)
