-- The pages that are heard, as they are printed. docs/profile.md, "printed line".
use Rattle.std.specs.Prelude.{◌≡◌, ℕ, Bool, List, [], ◌∷◌, ◌++◌, map, flat_map, Option, Result, IfSome}
use Rattle.std.specs.List.{concat}
use Rattle.codeword.specs.declared.functions.Function.{Function}
use Rattle.page_text.specs.Line.{decimal_digits, line_of}
use Rattle.page_text.specs.Page.{Page}
use Rattle.page_text.specs.Texts.{text_of}
use Rattle.receiver.specs.Heard.{HeardPage, heard, with_text}
use Rattle.receiver.specs.Listeners.{Listener, is_one_of}
use Rattle.receiver.specs.Receivers.{has_in, numbers_with}
use Rattle.receiver.specs.declared.ready.Ready.{Ready}
use Rattle.receiver.specs.Shown.{has_of, shown}
use Rattle.wires.specs.Written.{Puts, Written}

-- the printed line of a page
abbrev pub page_line : Page → List ℕ
page_line page = line_of page.capcode page.function page.text

-- the printed lines of pages, one after another
abbrev pub page_lines : List Page → List ℕ
page_lines pages = flat_map page_line pages

-- the pages to these capcodes that are heard in the bits, with their texts
abbrev pub pages_heard : List ℕ → List Bool → List Page
pages_heard capcodes bits = map with_text (heard (is_one_of capcodes) bits)

-- a receiver's number in two digits, and a space
abbrev pub number_text : ℕ → List ℕ
number_text number = decimal_digits 2 number ++ 32 ∷ []

-- the printed line of a page that a receiver shows: the receiver's number, and the line of the page
abbrev pub shown_line : ℕ × Page → List ℕ
shown_line pair = number_text pair.0 ++ page_line pair.1

-- the printed lines of pages that receivers show, one after another
abbrev pub shown_lines : List (ℕ × Page) → List ℕ
shown_lines pairs = flat_map shown_line pairs

-- the printed lines of a page with this text, of receivers with these numbers
abbrev pub lines_for : ℕ → Function → List ℕ → List ℕ → List ℕ
lines_for capcode function text numbers = flat_map (λ number. number_text number ++ line_of capcode function text) numbers

-- what receivers print of pages that were heard: `has` says which receiver, by its number, has which capcode
abbrev pub lines_of_heard : (ℕ → ℕ → Bool) → List HeardPage → List ℕ
lines_of_heard has pages = shown_lines (shown has (map with_text pages))

-- what receivers print of the bits: `listens` says which capcodes any of them has, and `has` which receiver, by its number, has which
abbrev pub lines_heard : (ℕ → Bool) → (ℕ → ℕ → Bool) → List Bool → List ℕ
lines_heard listens has bits = lines_of_heard has (heard listens bits)

-- what the receivers of a group print of the bits
abbrev pub group_lines : Listener → List Bool → List ℕ
group_lines group = lines_heard (is_one_of group.capcodes) (has_in group.holders)

-- the pages that receivers hear in the bits, each with the numbers of its receivers. The receivers are a list of sets of capcodes, and
-- numbered from 1
abbrev pub pairs_heard : List (List ℕ) → List Bool → List (ℕ × Page)
pairs_heard receivers bits = shown (has_of receivers) (pages_heard (concat receivers) bits)

-- what these receivers print of the bits
abbrev pub play_lines : List (List ℕ) → List Bool → List ℕ
play_lines receivers = lines_heard (is_one_of (concat receivers)) (has_of receivers)

-- The lines of the page that is complete were put, with this text of it, by receivers with these sets of numbers.
pub record ShowsReady {T E : Type 0} (ready : Option HeardPage) (holders : List (ℕ × ℕ)) (page : Ready) (old new : Written ℕ) (result : Result T E) : Type 0 where
  pub text : List ℕ
  pub text_is : IfSome ready (λ p. text ≡ text_of p.function p.groups)
  pub put : Puts old new (lines_for page.capcode page.function text (numbers_with (has_in holders) page.capcode)) result
