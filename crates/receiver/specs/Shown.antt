-- Pages as they are shown: each with the numbers of the receivers that have its capcode.
use Rattle.std.specs.Prelude.{ℕ, zero, suc, ◌==◌, Bool, false, List, [], filter, flat_map, map}
use Rattle.std.proofs.Common.{get_or}
use Rattle.codeword.specs.Capcodes.{frame_of}
use Rattle.page_text.specs.Page.{Page}
use Rattle.receiver.specs.Listeners.{is_one_of}
use Rattle.receiver.specs.Receivers.{numbers_with}

-- a page, with each number of a receiver that has its capcode, in ascending order
abbrev pub shown_page : (ℕ → ℕ → Bool) → Page → List (ℕ × Page)
shown_page has page = map (λ number. (number, page)) (numbers_with has page.capcode)

-- pages, in order, each with the numbers of the receivers that have its capcode
abbrev pub shown : (ℕ → ℕ → Bool) → List Page → List (ℕ × Page)
shown has pages = flat_map (shown_page has) pages

-- the pages that are shown with a number
abbrev pub shown_by : ℕ → List (ℕ × Page) → List Page
shown_by number pairs = map (λ pair. pair.1) (filter (λ pair. pair.0 == number) pairs)

-- the pages with a capcode in a set
abbrev pub pages_in : (ℕ → Bool) → List Page → List Page
pages_in set pages = filter (λ page. set page.capcode) pages

-- the pages of a frame
abbrev pub pages_of_frame : ℕ → List Page → List Page
pages_of_frame f pages = filter (λ page. frame_of page.capcode == f) pages

-- the receiver of this number has this capcode, where the receivers are a list of sets of capcodes, numbered from 1
abbrev pub has_of : List (List ℕ) → ℕ → ℕ → Bool
has_of receivers zero capcode = false
has_of receivers (suc k) capcode = is_one_of (get_or receivers k []) capcode
