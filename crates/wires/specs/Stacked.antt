-- What types tell that work on an object below them.
use Rattle.std.specs.Prelude.{ℕ, ◌+◌, ◌*◌, ◌&&◌, nat_lt, if◌then◌else◌, Bool, true, List, [], ◌∷◌, ◌++◌, length, drop, flat_map, Option, option_to_list}
use Rattle.std.specs.List.{list_all}
use Rattle.std.specs.Borrow.{GName}
use Rattle.std.specs.Int.{to_be_bytes, w32}
use Rattle.bits.specs.Bits.{bytes_bits, xor}
use Rattle.wires.specs.Below.{other_files, other_line}
use Rattle.wires.specs.Files.{Files, all_files}
use Rattle.wires.specs.Held.{Bytes, Lent, OfShelf, OfWire, Parts, Text}
use Rattle.wires.specs.Left.{Left}
use Rattle.wires.specs.Line.{Line, last}
use Rattle.wires.specs.Written.{Written}

-- each of these is below 256
abbrev pub are_bytes : List ℕ → Bool
are_bytes xs = list_all (λ b. nat_lt b 256) xs

-- whether all that a sink holds is bytes, where it tells
abbrev pub holds_bytes : Written ℕ → Bool
holds_bytes below = if below.tells then are_bytes below.held else true

-- bits over a sink of bytes that was lent under this name: the bits of its bytes, and room for eight times as many bits. Only bytes are
-- written to it
abbrev pub bits_over : GName → Written ℕ → Written Bool
bits_over name below = record {
  tells = below.tells;
  held = bytes_bits below.held;
  room = 8 * below.room;
  steady = below.steady;
  faults = below.faults;
  lent = Lent name ∷ Bytes (holds_bytes below) ∷ below.lent;
}

-- the bytes of words, each word's most significant byte first
abbrev pub words_bytes : List ℕ → List ℕ
words_bytes words = flat_map (to_be_bytes w32) words

-- there is something to read from where some were read ahead, or where there is something below
abbrev pub some_or : {A : Type 0} → List A → Bool → Bool
some_or [] there = there
some_or (x ∷ xs) there = true

-- the bits of a source's bytes: those that are ready, and then those of the bytes left below
abbrev pub bits_left : List Bool → Left ℕ → Left Bool
bits_left ready below = record {
  tells = below.tells;
  left = ready ++ bytes_bits below.left;
  there = some_or ready below.there;
  steady = below.steady;
  faults = below.faults;
  lent = below.lent;
}

-- the bits of one file of a shelf that was lent under this name: those that are ready, and then those of its bytes from a place on
abbrev pub shelf_bits : GName → List ℕ → List Bool → ℕ → Files → Left Bool
shelf_bits name file ready from below = record {
  tells = below.tells;
  left = ready ++ bytes_bits (drop from (below.file file));
  there = some_or ready (below.there file);
  steady = below.steady && below.there file;
  faults = below.faults;
  lent = Lent name ∷ Text file ∷ OfShelf (all_files below) ∷ below.lent;
}

-- one file of a shelf that was lent under this name, as a sink
abbrev pub file_over : GName → List ℕ → Files → Written ℕ
file_over name file below = record {
  tells = below.tells;
  held = below.file file;
  room = below.room file;
  steady = below.steady && below.fresh file;
  faults = below.faults;
  lent = Lent name ∷ Text file ∷ OfShelf (other_files file below) ∷ below.lent;
}

-- what is said on the open connection of a wire that was lent under this name, as a sink. Its faults are the say faults
abbrev pub saying_over : GName → Line → Written ℕ
saying_over name below = record {
  tells = below.tells;
  held = (below.connection (last below)).said;
  room = (below.connection (last below)).room;
  steady = below.steady && below.is_open;
  faults = below.say;
  lent = Lent name ∷ OfWire (other_line below) ∷ below.lent;
}

-- each bit xor the noise's bit, which is 0 after the noise's end
abbrev pub noisy_bits : List Bool → List Bool → List Bool
noisy_bits [] noise = []
noisy_bits (b ∷ bs) [] = b ∷ bs
noisy_bits (b ∷ bs) (n ∷ ns) = xor b n ∷ noisy_bits bs ns

-- bits with a noise that was lent under this name. A bit that was taken and not yet given out comes first. They are there where the bits are
abbrev pub noisy_over : GName → Option Bool → Left Bool → Left Bool → Left Bool
noisy_over name held bits noise = record {
  tells = bits.tells && noise.tells;
  left = noisy_bits (option_to_list held ++ bits.left) noise.left;
  there = some_or (option_to_list held) bits.there;
  steady = bits.steady && noise.steady;
  faults = bits.faults + noise.faults;
  lent = Lent name ∷ Parts (length noise.lent) ∷ (noise.lent ++ bits.lent);
}
