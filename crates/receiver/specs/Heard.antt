-- The pages that are heard in a list of bits. docs/profile.md, "page heard".
use Rattle.codeword.specs.Capcodes.{capcode_at}
use Rattle.std.specs.Prelude.{ℕ, suc, Bool, true, false, ◌&&◌, nat_le, List, [], ◌∷◌, ◌++◌, length, map, Option, Some, None, option_map, flat_map}
use Rattle.codeword.specs.declared.functions.Function.{Function}
use Rattle.codeword.specs.declared.kinds.WordKind.{WordKind}
use Rattle.codeword.specs.declared.kinds.WordKind.TheVariants.{Address, Message}
use Rattle.codeword.specs.Kinds.{kind_of}
use Rattle.page_text.specs.declared.limits.TheConstants.{MOST_GROUPS}
use Rattle.page_text.specs.Page.{Page}
use Rattle.page_text.specs.Texts.{text_of}
use Rattle.receiver.specs.Stretches.{stretches}
use Rattle.receiver.specs.Slots.{stretch_slots}

-- a page heard: to which capcode, with which function, and the groups of its message words
pub record HeardPage : Type 0 where
  pub capcode : ℕ
  pub function : Function
  pub groups : List ℕ

-- the page with its text
abbrev pub with_text : HeardPage → Page
with_text page = record { capcode = page.capcode; function = page.function; text = text_of page.function page.groups }

-- what the first word says, and the groups before an address word that the words behind it give
abbrev pub groups_with : Option WordKind → Option (List ℕ) → Option (List ℕ)
groups_with None later = None
groups_with (Some (Address high function)) later = Some []
groups_with (Some (Message group)) later = option_map (λ gs. group ∷ gs) later

-- of what words say, the groups of the messages before the first other word, if this is an address word
unfoldable pub groups_to_address : List (Option WordKind) → Option (List ℕ)
groups_to_address [] = None
groups_to_address (kind ∷ kinds) = groups_with kind (groups_to_address kinds)

-- a page, if the test holds
abbrev pub page_if : Bool → ℕ → Function → List ℕ → List HeardPage
page_if true capcode function groups = record { capcode = capcode; function = function; groups = groups } ∷ []
page_if false capcode function groups = []

-- the page that begins with a word, where these groups come before an address word: to a capcode that is listened to, with no
-- more groups than a text has at most
abbrev pub page_with : (ℕ → Bool) → ℕ → Option WordKind → Option (List ℕ) → List HeardPage
page_with listens place None groups = []
page_with listens place (Some (Message group)) groups = []
page_with listens place (Some (Address high function)) None = []
page_with listens place (Some (Address high function)) (Some groups) =
    page_if (listens (capcode_at place high) && nat_le (length groups) MOST_GROUPS) (capcode_at place high) function groups

-- The pages of what the slots say from a place on, in order of place: one for each address word of a capcode that is listened to,
-- in a slot of its frame, which message words and then an address word follow.
unfoldable pub pages_from : (ℕ → Bool) → ℕ → List (Option WordKind) → List HeardPage
pages_from listens place [] = []
pages_from listens place (kind ∷ kinds) = page_with listens place kind (groups_to_address kinds) ++ pages_from listens (suc place) kinds

-- what the slots of a stretch say
abbrev pub kinds_in : List ℕ → List (Option WordKind)
kinds_in words = map kind_of (stretch_slots words)

-- the pages of a stretch
abbrev pub stretch_pages : (ℕ → Bool) → List ℕ → List HeardPage
stretch_pages listens words = pages_from listens 0 (kinds_in words)

-- the pages of all stretches to the capcodes that are listened to
abbrev pub heard : (ℕ → Bool) → List Bool → List HeardPage
heard listens bits = flat_map (stretch_pages listens) (stretches bits)
