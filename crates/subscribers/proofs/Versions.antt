-- The version of a file, by what stands at its key.
use Rattle.std.proofs.Common.{◌≡◌, ℤ, codes, Some, None, Ok, Err}
use Rattle.toml.specs.Data.{Members, as_integer}
use Rattle.subscribers.specs.declared.document.Version.{Version}
use Rattle.subscribers.specs.declared.document.Version.TheVariants.{One}
use Rattle.subscribers.specs.declared.faults.SettingsFault.TheVariants.{Version as VersionFault, Form as FormFault}
use Rattle.subscribers.specs.Form.{optional, version_with, version_of}

module _ (ms : Members) where
  pub version_of-other : None ≡ optional as_integer (codes "version") ms → Err FormFault ≡ version_of ms
  unfolding version_of
  version_of-other h = rw (← h)

  pub version_of-none : Some None ≡ optional as_integer (codes "version") ms → Ok One ≡ version_of ms
  unfolding version_of
  version_of-none h = rw (← h)

  pub version_of-named : (n : ℤ) (version : Version) → Some (Some n) ≡ optional as_integer (codes "version") ms → Some version ≡ version_with n → Ok version ≡ version_of ms
  unfolding version_of
  version_of-named n version h w = rw (← h, ← w)

  pub version_of-unnamed : (n : ℤ) → Some (Some n) ≡ optional as_integer (codes "version") ms → None ≡ version_with n → Err VersionFault ≡ version_of ms
  unfolding version_of
  version_of-unnamed n h w = rw (← h, ← w)
