-- The pages of a TAP session are acceptable.
use Rattle.std.proofs.Common.{◌≡◌, ℕ, List, Some}
use Rattle.std.specs.Prelude.{All}
use Rattle.std.specs.FinMap.{get}
use Rattle.std.proofs.lemmas.List.Elements.{All-map, All-weaker}
use Rattle.codeword.specs.Capcodes.{IsUsable}
use Rattle.load.proofs.Accepted.{All-session}
use Rattle.page_pool.specs.Gains.{pages_to}
use Rattle.page_pool.specs.Pool.{page}
use Rattle.page_text.specs.Fits.{Fits}
use Rattle.page_text.specs.Page.{IsAcceptable}
use Rattle.subscribers.specs.Directory.{directory_of}
use Rattle.subscribers.specs.Parts.{Parts, Target}
use Rattle.tap_block.specs.Chars.{characters}
use Rattle.tap_terminal.specs.Session.{Session}
use Rattle.serving.specs.TapSessions.{SessionOf}

-- where all capcodes of an id are usable, each page of a text to them that fits is acceptable
are_acceptable_to : (t : Target) (text : List ℕ) → All IsUsable t.capcodes → Fits t.function text → All (λ c. IsAcceptable (page c t.function text)) t.capcodes
are_acceptable_to t text usable fits = All-weaker IsUsable (λ c. IsAcceptable (page c t.function text)) (λ c u. record { usable = u; fits = fits }) t.capcodes usable

pub All-pages_to : (t : Target) (text : List ℕ) → All IsUsable t.capcodes → Fits t.function text → All IsAcceptable (pages_to t.capcodes t.function text)
All-pages_to t text usable fits = All-map IsAcceptable (λ c. page c t.function text) t.capcodes (are_acceptable_to t text usable fits)

-- where all capcodes of every id of the settings are usable, each page of a session is acceptable
pub All-pages : (settings : Parts) (spare : ℕ) (bytes : List ℕ) (session : Session) → ((id : List ℕ) (t : Target) → get settings.ids id ≡ Some t → All IsUsable t.capcodes)
    → SessionOf settings spare bytes session → All IsAcceptable session.pages
All-pages settings spare bytes session usable h =
    All-session IsAcceptable (directory_of settings) (λ id t text known fits. are_acceptable_to t text (usable id t known) fits) settings.password spare (characters bytes) session h
