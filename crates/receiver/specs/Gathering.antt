-- What an address word begins.
use Rattle.std.specs.Prelude.{◌≡◌, ℕ, true, false, List, [], Option, Some, None, option_map}
use Rattle.codeword.specs.declared.functions.Function.{Function}
use Rattle.receiver.specs.Listeners.{is_one_of}
use Rattle.receiver.specs.Heard.{HeardPage}

-- the page that begins with an address word of a capcode that is listened to
abbrev pub page_begun : Function → Option ℕ → Option HeardPage
page_begun function ours = option_map (λ c. record { capcode = c; function = function; groups = [] }) ours

-- the capcode of this number, where it is one of these
abbrev pub IsFound : List ℕ → ℕ → Option ℕ → Type 0
IsFound capcodes number (Some capcode) = (capcode ≡ number) × (is_one_of capcodes number ≡ true)
IsFound capcodes number None = is_one_of capcodes number ≡ false
