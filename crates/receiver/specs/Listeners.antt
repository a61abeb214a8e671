-- What a receiver and a group of receivers stand for.
use Rattle.std.specs.Prelude.{ℕ, ◌==◌, Bool, List, [], ◌∷◌, Option, Some, None, option_map}
use Rattle.std.specs.List.{list_any}
use Rattle.receiver.specs.Heard.{HeardPage}
use Rattle.receiver.specs.Fronts.{FrontEnd, HasUnderWay}
use Rattle.receiver.specs.declared.ready.Ready.{Ready}

-- the page under way, and the page that the last bit completed
pub record Gathered : Type 0 where
  pub under_way : Option HeardPage
  pub ready : Option HeardPage

-- a page with these groups
abbrev pub page_with_groups : List ℕ → Ready → HeardPage
page_with_groups groups page = record { capcode = page.capcode; function = page.function; groups = groups }

-- the groups of the page under way: those that are held, unless these are of a page that is complete
abbrev pub groups_under_way : Option Ready → List ℕ → List ℕ
groups_under_way None groups = groups
groups_under_way (Some page) groups = []

-- what is gathered, where these groups are held
abbrev pub gathered_of : Option Ready → Option Ready → List ℕ → Gathered
gathered_of page ready groups = record {
  under_way = option_map (page_with_groups (groups_under_way ready groups)) page;
  ready = option_map (page_with_groups groups) ready;
}

-- A front end, the capcodes that are listened to, each capcode with the set of its receivers' numbers, the page under way, and the page
-- that the last bit completed. A receiver alone has no number.
pub record Listener : Type 0 where
  pub front : FrontEnd
  pub capcodes : List ℕ
  pub holders : List (ℕ × ℕ)
  pub under_way : Option HeardPage
  pub ready : Option HeardPage

-- a listener, of its parts
abbrev pub listener_of : FrontEnd → List ℕ → List (ℕ × ℕ) → Gathered → Listener
listener_of front capcodes holders gathered = record { front = front; capcodes = capcodes; holders = holders; under_way = gathered.under_way; ready = gathered.ready }

-- the capcode is one of these
abbrev pub is_one_of : List ℕ → ℕ → Bool
is_one_of capcodes capcode = list_any (λ c. c == capcode) capcodes

-- the listener was fed these bits
abbrev pub StandsFor : Listener → List Bool → Type 0
StandsFor listener bits = HasUnderWay (is_one_of listener.capcodes) listener.front listener.under_way bits

-- the page that the last bit completed, or none
abbrev pub ready_pages : Option HeardPage → List HeardPage
ready_pages None = []
ready_pages (Some page) = page ∷ []

-- the answer that names it
abbrev pub ready_answer : Option HeardPage → Option Ready
ready_answer page = option_map (λ p. record { capcode = p.capcode; function = p.function }) page
