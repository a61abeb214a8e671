-- What the client's states hold.
use Rattle.std.specs.Prelude.{ℕ, List, Option}
use Rattle.tap_entry.specs.MarkReaders.{MarkReader}

-- the reader of marks, the password, and how often the logon line was refused, once it was said
pub record Caller : Type 0 where
  pub ear : MarkReader
  pub password : Option (List ℕ)
  pub refusals : Option ℕ

-- the reader of marks, the page's content, how many of its blocks were acknowledged, and how often this one was refused
pub record Sender : Type 0 where
  pub ear : MarkReader
  pub content : List ℕ
  pub acks : ℕ
  pub naks : ℕ
