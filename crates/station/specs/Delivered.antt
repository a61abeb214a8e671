-- What clients hand over, and what receivers hear of it.
use Rattle.std.specs.Prelude.{◌≡◌, ℕ, Bool, true, List, [], ◌∷◌, map, flat_map, Option, Some, None, Ok}
use Rattle.std.specs.List.{AllByRecursion}
use Rattle.page_text.specs.Page.{Page as Accepted}
use Rattle.air.specs.Near.{Near}
use Rattle.receiver.specs.Heard.{with_text, heard}
use Rattle.receiver.specs.Shown.{pages_in, pages_of_frame}
use Rattle.page_pool.specs.Gains.{pages_to}
use Rattle.subscribers.specs.Parts.{Parts, Target}
use Rattle.subscribers.specs.Settings.{settings_of}
use Rattle.tap_terminal.specs.Replies.{replies}
use Rattle.tap_terminal.specs.Session.{Session}
use Rattle.subscribers.specs.Directory.{Directory, directory_of}
use Rattle.tap_entry.specs.Client.{Client, IsPage, PageToSend}
use Rattle.tap_entry.specs.Marks.{AreHeard}
use Rattle.tap_entry.specs.PagesFile.{IsPassword}
use Rattle.tap_entry.specs.declared.hearing.Mark.{Mark}
use Rattle.tap_entry.specs.declared.outcomes.Outcome.{Outcome}
use Rattle.both_ends.specs.Joined.{sent_of}
use Rattle.near.specs.NearAir.{AreUsable}
use Rattle.serving.specs.TapSessions.{SessionOf}

-- A client calls the terminal of these settings, and each hears what the other says: the client has these marks of the replies, and
-- says for them what the terminal has this session of.
pub record Call (settings : Parts) (spare : ℕ) : Type 0 where
  pub password : Option (List ℕ)
  pub pages : List PageToSend
  pub replied : List ℕ
  pub said : List ℕ
  pub marks : List Mark
  pub outcomes : List Outcome
  pub session : Session
  pub is_password : IsPassword password
  pub are_pages : AllByRecursion IsPage pages
  pub marks_are : AreHeard replied marks
  pub client : Client password pages marks outcomes said
  pub session_is : SessionOf settings spare said session
  pub replies_are : replied ≡ replies session.answers

-- a page for each capcode of what an id stands for, and none where it stands for nothing
abbrev pub pages_of_target : Option Target → List ℕ → List Accepted
pages_of_target None text = []
pages_of_target (Some t) text = pages_to t.capcodes t.function text

-- the pages of a client, each as one page for each capcode of its id
abbrev pub pages_for : Directory → List PageToSend → List Accepted
pages_for directory pages = flat_map (λ page. pages_of_target (directory page.id) page.text) pages

-- the pages that the sessions of calls accepted, session by session
abbrev pub accepted_by : {settings : Parts} {spare : ℕ} → List (Call settings spare) → List (List Accepted)
accepted_by calls = map (λ call. call.session.pages) calls

-- the pages that the clients of calls mark Sent, call by call
abbrev pub sent_by : {settings : Parts} {spare : ℕ} → List (Call settings spare) → List Accepted
sent_by {settings = settings} calls = flat_map (λ call. pages_for (directory_of settings) (sent_of call.pages call.outcomes)) calls

-- Where the transmissions of what calls accepted are heard with every preamble as it was sent, and with at most two wrong bits in every
-- other word, the pages heard of each usable capcode that is listened to are exactly those that clients mark Sent to it, in order, whole.
abbrev pub Delivered : Type 0
Delivered =
    (bytes : List ℕ) (settings : Parts) (spare : ℕ) (calls : List (Call settings spare)) (listens : ℕ → Bool) (bits : List Bool)
    → settings_of bytes ≡ Ok settings → AreUsable listens → Near (accepted_by calls) bits
    → (set : ℕ → Bool) (f : ℕ) → ((capcode : ℕ) → set capcode ≡ true → listens capcode ≡ true)
    → pages_of_frame f (pages_in set (map with_text (heard listens bits))) ≡ pages_of_frame f (pages_in set (sent_by calls))
