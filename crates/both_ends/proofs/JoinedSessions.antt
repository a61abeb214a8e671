-- A session by its parts.
use Rattle.std.proofs.Common.{◌≡◌, ℕ, List, ◌++◌, length, take, ap, Option}
use Rattle.tap_block.specs.Reading.{InputPiece, BeforeLogon, Reads, items_of}
use Rattle.page_text.specs.Page.{Page}
use Rattle.tap_terminal.specs.declared.answers.Answer.{Answer}
use Rattle.subscribers.specs.Directory.{Directory}
use Rattle.tap_terminal.specs.Session.{Session, IsSession, start, tell, answers_of, pages_of, closing}

-- the answers and the pages of a session
pub record IsPlayed (password : Option (List ℕ)) (table : Directory) (spare : ℕ) (x : List ℕ) (answers : List Answer) (pages : List Page) : Type 0 where
  pub pieces : List InputPiece
  pub rest : List ℕ
  pub reads : Reads password BeforeLogon pieces rest (take 999999 x)
  pub answers_are : answers ≡ answers_of (tell table (start spare) (items_of password pieces)) ++ closing (tell table (start spare) (items_of password pieces)) (length x)
  pub pages_are : pages ≡ pages_of (tell table (start spare) (items_of password pieces))

pub played : (password : Option (List ℕ)) (table : Directory) (spare : ℕ) (x : List ℕ) (session : Session) → IsSession password table spare x session → IsPlayed password table spare x session.answers session.pages
played password table spare x session h = record {
  pieces = h.pieces;
  rest = h.rest;
  reads = h.reads;
  answers_are = ap (λ s. s.answers) h.session_is;
  pages_are = ap (λ s. s.pages) h.session_is;
}
