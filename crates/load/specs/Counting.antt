-- What is counted of the pages that are heard.
use Rattle.std.specs.Prelude.{◌≡◌, ℕ, Bool, List, length, map, sum, Option}
use Rattle.bits.specs.Bits.{words_bits}
use Rattle.air.specs.Left.{AreWords}
use Rattle.listening.specs.PageLines.{page_lines}
use Rattle.page_text.specs.Page.{Page}
use Rattle.receiver.specs.Heard.{HeardPage, heard, with_text}
use Rattle.receiver.specs.Listeners.{Listener, StandsFor, is_one_of, ready_pages}
use Rattle.wires.specs.Stacked.{noisy_bits}
use Rattle.load.specs.WordNoises.{first_noise_front, second_noise_front}

-- the pages that a group hears in bits
abbrev pub pages_of_group : Listener → List Bool → List HeardPage
pages_of_group group bits = heard (is_one_of group.capcodes) bits

-- The group was fed these bits, and so many pages were counted in them.
pub record HasCounted (group : Listener) (count : ℕ) (bits : List Bool) : Type 0 where
  pub stands : StandsFor group bits
  pub count_is : count ≡ length (pages_of_group group bits)

-- the lines of pages that were heard
abbrev pub lines_of_pages : List HeardPage → List ℕ
lines_of_pages pages = page_lines (map with_text pages)

-- the line of the page that the last bit completed, or none
abbrev pub ready_line : Option HeardPage → List ℕ
ready_line page = lines_of_pages (ready_pages page)

-- The group was fed these bits, and so many pages were counted in them, so many bytes of their lines, and this sum of these bytes.
pub record HasLines (group : Listener) (count bytes total : ℕ) (bits : List Bool) : Type 0 where
  pub stands : StandsFor group bits
  pub count_is : count ≡ length (pages_of_group group bits)
  pub bytes_is : bytes ≡ length (lines_of_pages (pages_of_group group bits))
  pub sum_is : total ≡ sum (lines_of_pages (pages_of_group group bits))

-- Two groups were fed a transmission of accepted pages, the first with the first noise, and the second with the second: so many words, and
-- what was counted of them. The draws of the noises begin with this one.
pub record HasHeardAll (draws : ℕ → ℕ) (k : ℕ) (accepted : List Page) (first second : Listener) (words count bytes total kept : ℕ) : Type 0 where
  pub all : List ℕ
  pub all_are : AreWords accepted all
  pub words_are : words ≡ length all
  pub lines : HasLines first count bytes total (noisy_bits (words_bits all) (first_noise_front draws k words))
  pub counted : HasCounted second kept (noisy_bits (words_bits all) (second_noise_front draws k words))
