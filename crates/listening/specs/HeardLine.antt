-- What is heard of the bits of the samples in a file. docs/profile.md, "The sampled line".
use Rattle.std.specs.Prelude.{◌≡◌, ℕ, ◌<◌, ◌≤◌, ◌&&◌, Bool, List, length, take, IsTrue}
use Rattle.bits.specs.Bits.{bytes_bits}
use Rattle.sampler.specs.Runs.{sampled_bits}
use Rattle.wires.specs.Files.{Files, all_files}
use Rattle.wires.specs.Left.{Left}
use Rattle.wires.specs.Written.{Written}
use Rattle.endings.specs.declared.statuses.Status.{Status}
use Rattle.endings.specs.declared.statuses.Status.TheVariants.{Done, FileFault, Memory, OutFault, TooLong}
use Rattle.listening.specs.Listening.{ListenedToAll, ListenedToFault, ListenedUnheard, OutWell, most_bits}

-- the bits of the samples in a file, of which so many are read as 67,108,864 bytes have. Reading fails not where the shelf is steady and
-- the name is there
abbrev pub sampled_file_bits : List ℕ → Files → Left Bool
sampled_file_bits name shelf = record {
  tells = shelf.tells;
  left = sampled_bits (take most_bits (bytes_bits (shelf.file name)));
  there = shelf.there name;
  steady = shelf.steady && shelf.there name;
  faults = shelf.faults;
  lent = shelf.lent;
}

-- What was listened to and printed of the bits of so many samples, by status. At Done and TooLong all bits were read of as many samples as
-- are read at most, and after these there is no further one, or there is one.
abbrev pub HasListenedToSamples : (List Bool → List ℕ) → ℕ → Left Bool → Left Bool → Written ℕ → Written ℕ → Status → Type 0
HasListenedToSamples printed count old new out0 out Done = ListenedToAll printed old new out0 out × (IsTrue old.tells → count ≤ most_bits)
HasListenedToSamples printed count old new out0 out TooLong = ListenedToAll printed old new out0 out × (IsTrue old.tells → most_bits < count)
HasListenedToSamples printed count old new out0 out FileFault = ListenedToFault printed old new out0 out
HasListenedToSamples printed count old new out0 out OutFault = ListenedUnheard printed old new out0 out
HasListenedToSamples printed count old new out0 out other = ⊥

-- the bits of samples, of which so many are read as 67,108,864 bytes have
abbrev pub most_sampled_bits : Left Bool → Left Bool
most_sampled_bits samples = record {
  tells = samples.tells;
  left = sampled_bits (take most_bits samples.left);
  there = samples.there;
  steady = samples.steady;
  faults = samples.faults;
  lent = samples.lent;
}

-- What the bits of samples give was printed, by status: `rest` is what is left of them. Faults of the samples are those of reading them, and
-- they are steady where their bits are.
pub record HearsSampled (printed : List Bool → List ℕ) (old new : Left Bool) (out0 out : Written ℕ) (status : Status) : Type 0 where
  pub rest : Left Bool
  pub listens : HasListenedToSamples printed (length old.left) (most_sampled_bits old) rest out0 out status
  pub faults : new.faults ≡ rest.faults
  pub steady : IsTrue rest.steady → IsTrue new.steady
  pub tells : new.tells ≡ old.tells
  pub lent : new.lent ≡ old.lent
  pub out_well : OutWell printed (most_sampled_bits old) out0 out status

-- What the bits of the samples in a file give was printed, by status: `rest` is what is left of them. No file changed, faults of the shelf
-- are those of reading the samples, and it is steady where they are. So is an output that was steady and had room for the lines of all
-- bits.
pub record HearsSamples (printed : List Bool → List ℕ) (name : List ℕ) (old new : Files) (out0 out : Written ℕ) (status : Status) : Type 0 where
  pub rest : Left Bool
  pub listens : HasListenedToSamples printed (length (bytes_bits (old.file name))) (sampled_file_bits name old) rest out0 out status
  pub faults : new.faults ≡ rest.faults
  pub steady : IsTrue rest.steady → IsTrue new.steady
  pub tells : new.tells ≡ old.tells
  pub files : all_files new ≡ all_files old
  pub lent : new.lent ≡ old.lent
  pub out_well : OutWell printed (sampled_file_bits name old) out0 out status

-- What the bits of the samples in a file give was printed, or there was no memory for the receivers and nothing was touched.
abbrev pub PlaysSamples : (List Bool → List ℕ) → List ℕ → Files → Files → Written ℕ → Written ℕ → Status → Type 0
PlaysSamples printed name old new out0 out Memory = (new ≡ old) × (out ≡ out0)
PlaysSamples printed name old new out0 out status = HearsSamples printed name old new out0 out status
