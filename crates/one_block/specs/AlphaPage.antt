-- The page of `one`.
use Rattle.std.specs.Prelude.{ℕ, List}
use Rattle.codeword.specs.declared.functions.Function.TheVariants.{Alpha}
use Rattle.page_text.specs.Page.{Page}

-- an alphanumeric page
abbrev pub alpha_page : ℕ → List ℕ → Page
alpha_page capcode text = record { capcode = capcode; function = Alpha; text = text }
