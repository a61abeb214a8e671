-- Worked groups, texts and lines, by computation.
use Rattle.std.proofs.Common.{◌≡◌, ◌++◌, [], ◌∷◌, refl}
use Rattle.std.specs.Prelude.{codes}
use Rattle.codeword.specs.declared.functions.Function.TheVariants.{Numeric, Tone1, Alpha}
use Rattle.bits.specs.Bits.{bits_of, rising_bits_of}
use Rattle.page_text.specs.Groups.{groups, groups_of}
use Rattle.page_text.specs.Line.{line_of}
use Rattle.page_text.specs.Texts.{codes_of, text_of}

-- the characters 1000001, 0100001 and 1100001 run together are 1000 0010 1000 0111 0000 and 1
abc : groups Alpha (codes "ABC") ≡ 0x82870 ∷ 0x80000 ∷ []
unfolding groups_of rising_bits_of
abc = refl

hello : groups Alpha (codes "HELLO") ≡ 0x1344C ∷ 0x99F20 ∷ []
unfolding groups_of rising_bits_of
hello = refl

one_letter : groups Alpha (codes "A") ≡ 0x82000 ∷ []
unfolding groups_of rising_bits_of
one_letter = refl

letter_and_return : groups Alpha (65 ∷ 13 ∷ []) ≡ 0x83600 ∷ []
unfolding groups_of rising_bits_of
letter_and_return = refl

-- 1 is 1000, 2 is 0100, a space is 0011
twelve : groups Numeric (codes "12") ≡ 0x84333 ∷ []
unfolding groups_of rising_bits_of
twelve = refl

empty_texts : groups Alpha [] ++ (groups Numeric [] ++ groups Tone1 []) ≡ []
unfolding groups_of rising_bits_of
empty_texts = refl

-- the bits 1000001 0100001 1100001 and 19 zeros, of which 14 are two characters and five are none
abc_read : text_of Alpha (0x82870 ∷ 0x80000 ∷ []) ≡ codes "ABC"
unfolding codes_of bits_of
abc_read = refl

letter_and_return_read : text_of Alpha (0x83600 ∷ []) ≡ 65 ∷ 13 ∷ []
unfolding codes_of bits_of
letter_and_return_read = refl

-- 1000 0100 and three spaces
twelve_read : text_of Numeric (0x84333 ∷ []) ≡ codes "12"
unfolding codes_of bits_of
twelve_read = refl

-- spaces stay in front and go at the end
spaces_read : text_of Numeric (0x33338 ∷ 0x33333 ∷ []) ≡ codes "    1"
unfolding codes_of bits_of
spaces_read = refl

zeros_read : text_of Alpha (0 ∷ 0 ∷ []) ≡ []
unfolding codes_of bits_of
zeros_read = refl

tone_read : text_of Tone1 (0x82870 ∷ []) ≡ []
tone_read = refl

line_abc : line_of 8 Alpha (codes "ABC") ≡ codes "0000008 A ABC\n"
unfolding line_of
line_abc = refl

line_twelve : line_of 9 Numeric (codes "12") ≡ codes "0000009 N 12\n"
unfolding line_of
line_twelve = refl

-- the second space stands also before an empty text
line_empty : line_of 15 Tone1 [] ≡ codes "0000015 1 \n"
unfolding line_of
line_empty = refl

line_return : line_of 8 Alpha (65 ∷ 13 ∷ 66 ∷ []) ≡ codes "0000008 A A\\rB\n"
unfolding line_of
line_return = refl

-- a backslash, LF, 0x00, 0x7F, 0xFF
line_bytes : line_of 2097151 Alpha (92 ∷ 10 ∷ 0 ∷ 0x7F ∷ 0xFF ∷ []) ≡ codes "2097151 A \\\\\\n\\x00\\x7F\\xFF\n"
unfolding line_of
line_bytes = refl
