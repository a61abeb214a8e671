-- What is heard depends on which capcodes are listened to, and not on how that is said.
use mathlib.Core.Path.{fun_ext}
use Rattle.std.proofs.Common.{◌≡◌, ℕ, Bool, List, ap}
use Rattle.receiver.specs.Heard.{heard}

-- the same capcodes hear the same pages
pub heard-same : (f g : ℕ → Bool) (bits : List Bool) → ((c : ℕ) → f c ≡ g c) → heard f bits ≡ heard g bits
heard-same f g bits same = ap (λ (listens : ℕ → Bool). heard listens bits) (fun_ext same)
