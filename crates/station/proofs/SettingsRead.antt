-- The settings of a file, from its bytes in memory.
use Rattle.std.proofs.Common.{◌≡◌, inl, inr, ℕ, ◌<◌, true, List, length, take, nat_lt, Result, Ok, Err, refl, sym, ◌∙◌, ap, arith}
use Rattle.std.proofs.lemmas.Bool.{cases_lt}
use Rattle.std.proofs.lemmas.List.{length-take-le, take_all}
use Rattle.subscribers.specs.Parts.{Parts}
use Rattle.subscribers.specs.Settings.{IsOrMemory, most_settings_bytes, settings_of}
use Rattle.subscribers.specs.declared.faults.SettingsFault.{SettingsFault}
use Rattle.subscribers.specs.declared.faults.SettingsFault.TheVariants.{Long, Memory}
use Rattle.wires.specs.Files.{Files}
use Rattle.station.specs.ReadFile.{HasNoSettings, ReadInto, ReadSettings, RefusedSettings, most_of_file, settings_outcome}

lt_true : (a b : ℕ) → a < b → nat_lt a b ≡ true
lt_true a b h = grind arith

-- more bytes than settings may have
settings_of-long : (bytes : List ℕ) → most_settings_bytes < length bytes → settings_of bytes ≡ Err Long
unfolding settings_of
settings_of-long bytes h = let yes : nat_lt most_settings_bytes (length bytes) ≡ true = lt_true most_settings_bytes (length bytes) h in rw yes refl

-- one byte more than they may have is enough to refuse them
settings_of-take : (bytes : List ℕ) → settings_of (take most_of_file bytes) ≡ settings_of bytes
settings_of-take bytes = elim (cases_lt most_settings_bytes (length bytes)) [
  | inl long ↦ settings_of-long (take most_of_file bytes) (let n = length-take-le most_of_file bytes (omega (arith, long)) in omega (arith, n)) ∙ sym (settings_of-long bytes long)
  | inr few ↦ ap settings_of (take_all most_of_file bytes (omega (arith, few)))
]

ok_err : {A E : Type 0} (x : A) (e : E) {B : Type 0} → Ok x ≡ Err e → B
ok_err x e h = cc

pub read_settings : (name : List ℕ) (a b : Files) (bytes seen : List ℕ) (settings : Parts) → seen ≡ bytes → ReadInto name a b bytes → IsOrMemory (Ok settings) (settings_of seen)
    → ReadSettings name a b settings
read_settings name a b bytes seen settings same read answer = record {
  unharmed = read.unharmed;
  there = read.there;
  settings_are = λ t. sym (settings_of-take (a.file name)) ∙ (ap settings_of (sym (same ∙ read.bytes_are t)) ∙ given answer);
  seen = seen;
  of_seen = given answer;
}
  where
    given : IsOrMemory (Ok settings) (settings_of seen) → settings_of seen ≡ Ok settings
    given (inl memory) = ok_err settings Memory memory
    given (inr is) = sym is

abbrev fault_of : Result Parts SettingsFault → SettingsFault
fault_of (Ok settings) = Memory
fault_of (Err fault) = fault

refused : (fault : SettingsFault) (seen : List ℕ) (r : Result Parts SettingsFault) → r ≡ Err fault → (fault ≡ Memory → ⊥) → IsOrMemory r (settings_of seen) → settings_of seen ≡ Err fault
refused fault seen r e other (inl memory) = absurd (other (ap fault_of (sym e ∙ memory)))
refused fault seen r e other (inr is) = sym is ∙ e

refused_settings : (name : List ℕ) (a b : Files) (bytes seen : List ℕ) (fault : SettingsFault) (r : Result Parts SettingsFault) → seen ≡ bytes → ReadInto name a b bytes
    → r ≡ Err fault → (fault ≡ Memory → ⊥) → IsOrMemory r (settings_of seen) → RefusedSettings name a b fault
refused_settings name a b bytes seen fault r same read e other answer =
    let of_seen : settings_of seen ≡ Err fault = refused fault seen r e other answer in
    record {
      unharmed = read.unharmed;
      there = read.there;
      refused = λ t. sym (settings_of-take (a.file name)) ∙ (ap settings_of (sym (same ∙ read.bytes_are t)) ∙ of_seen);
      seen = seen;
      of_seen = of_seen;
      not_memory = other;
    }

-- what a command comes to without settings
pub no_settings : (name : List ℕ) (a b : Files) (bytes seen : List ℕ) (fault : SettingsFault) (r : Result Parts SettingsFault) → seen ≡ bytes → ReadInto name a b bytes
    → r ≡ Err fault → IsOrMemory r (settings_of seen) → HasNoSettings name a b (settings_outcome fault)
no_settings name a b bytes seen Memory r same read e answer = inr (refl, read.unharmed)
no_settings name a b bytes seen fault r same read e answer = refused_settings name a b bytes seen fault r same read e (λ m. cc) answer
