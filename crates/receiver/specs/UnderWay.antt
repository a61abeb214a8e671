-- The page under way at the end of some slots, and what one more slot does to it.
use Rattle.std.specs.Prelude.{ℕ, suc, Bool, true, false, ◌&&◌, nat_le, nat_lt, List, [], ◌∷◌, ◌++◌, length, Option, Some, None, option_map}
use Rattle.codeword.specs.declared.functions.Function.{Function}
use Rattle.codeword.specs.declared.kinds.WordKind.{WordKind}
use Rattle.codeword.specs.declared.kinds.WordKind.TheVariants.{Address, Message}
use Rattle.page_text.specs.declared.limits.TheConstants.{MOST_GROUPS}
use Rattle.codeword.specs.Capcodes.{capcode_at}
use Rattle.receiver.specs.Heard.{HeardPage}

-- ---- the page under way at the end of some slots

-- what the first word says, and the groups of the words behind it
abbrev pub messages_with : Option WordKind → Option (List ℕ) → Option (List ℕ)
messages_with None later = None
messages_with (Some (Address high function)) later = None
messages_with (Some (Message group)) later = option_map (λ gs. group ∷ gs) later

-- the groups of what words say, if all are message words
unfoldable pub all_groups : List (Option WordKind) → Option (List ℕ)
all_groups [] = Some []
all_groups (kind ∷ kinds) = messages_with kind (all_groups kinds)

-- a page, if the test holds
abbrev pub open_if : Bool → ℕ → Function → List ℕ → Option HeardPage
open_if true capcode function groups = Some record { capcode = capcode; function = function; groups = groups }
open_if false capcode function groups = None

-- the page that begins with a word, where these groups follow and nothing else
abbrev pub open_with : (ℕ → Bool) → ℕ → Option WordKind → Option (List ℕ) → Option HeardPage
open_with listens place None groups = None
open_with listens place (Some (Message group)) groups = None
open_with listens place (Some (Address high function)) None = None
open_with listens place (Some (Address high function)) (Some groups) =
    open_if (listens (capcode_at place high) && nat_le (length groups) MOST_GROUPS) (capcode_at place high) function groups

-- the first of two pages that is there
abbrev pub first_some : Option HeardPage → Option HeardPage → Option HeardPage
first_some None later = later
first_some (Some page) later = Some page

-- the page that has begun in these slots, and that only message words follow so far
unfoldable pub open_from : (ℕ → Bool) → ℕ → List (Option WordKind) → Option HeardPage
open_from listens place [] = None
open_from listens place (kind ∷ kinds) = first_some (open_with listens place kind (all_groups kinds)) (open_from listens (suc place) kinds)

-- ---- what one more slot does to it

-- the page that this word completes
abbrev pub completed : Option HeardPage → Option WordKind → List HeardPage
completed None kind = []
completed (Some page) None = []
completed (Some page) (Some (Message group)) = []
completed (Some page) (Some (Address high function)) = page ∷ []

-- the page with one group more, where it has room
abbrev pub with_group : HeardPage → ℕ → Option HeardPage
with_group page group = open_if (nat_lt (length page.groups) MOST_GROUPS) page.capcode page.function (page.groups ++ group ∷ [])

-- the page under way after this word
abbrev pub open_after : (ℕ → Bool) → ℕ → Option HeardPage → Option WordKind → Option HeardPage
open_after listens place page None = None
open_after listens place page (Some (Address high function)) = open_if (listens (capcode_at place high)) (capcode_at place high) function []
open_after listens place None (Some (Message group)) = None
open_after listens place (Some page) (Some (Message group)) = with_group page group
