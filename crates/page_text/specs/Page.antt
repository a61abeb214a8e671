-- Pages.
use Rattle.std.specs.Prelude.{ℕ, List}
use Rattle.codeword.specs.declared.functions.Function.{Function}
use Rattle.codeword.specs.Capcodes.{IsUsable}
use Rattle.page_text.specs.Fits.{Fits}

-- a page: to which capcode, with which function, and its text
pub record Page : Type 0 where
  pub capcode : ℕ
  pub function : Function
  pub text : List ℕ

-- a page that can be accepted: its capcode is usable, and its text fits its function
pub record IsAcceptable (page : Page) : Type 0 where
  pub usable : IsUsable page.capcode
  pub fits : Fits page.function page.text
