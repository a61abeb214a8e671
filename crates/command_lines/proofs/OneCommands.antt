-- Words are one command's at most.
use Rattle.std.proofs.Common.{◌≡◌, ℕ, ◌+◌, List, [], ◌∷◌, Option, Some, None, get_or, length, refl, sym, ◌∙◌, ap, ap₂, arith}
use Rattle.command_lines.specs.Commands.{AreCommand, AreLine, AreLoad, AreOne, ArePlay, AreSend, AreShow, AreStation, AreTrial, Command, IsCommand, IsReceiverWord, Load, One, Play, PlayLine, Say, Send, Show, Snpp, Station, Trial, Twice, WriteLine}
use Rattle.command_lines.proofs.ListedCapcodes.{one_receiver}
use Rattle.command_lines.proofs.Saying.{Say-one}

-- the second letter of a command's name, and its length, added
mark : Command → ℕ
mark (One capcode) = 113
mark (Load seed count) = 115
mark (Play air receivers) = 112
mark (PlayLine line receivers) = 117
mark (WriteLine air line seed) = 109
mark (Show air) = 108
mark (Station address settings air count) = 123
mark (Snpp address settings air count) = 114
mark (Trial settings noise receivers) = 119
mark (Twice settings noise receivers) = 124
mark (Send address pages) = 105

mark_is : (name : List ℕ) (words : List (List ℕ)) (command : Command) → IsCommand (name ∷ words) command → get_or name 1 0 + length name ≡ mark command
unfolding mark
mark_is name words (One capcode) h = ap (λ (l : List ℕ). get_or l 1 0 + length l) h.0
mark_is name words (Load seed count) h = ap (λ (l : List ℕ). get_or l 1 0 + length l) h.0
mark_is name words (Play air receivers) h = ap (λ (l : List ℕ). get_or l 1 0 + length l) h.0
mark_is name words (PlayLine line receivers) h = ap (λ (l : List ℕ). get_or l 1 0 + length l) h.0
mark_is name words (WriteLine air line seed) h = ap (λ (l : List ℕ). get_or l 1 0 + length l) h.0
mark_is name words (Show air) h = ap (λ (l : List ℕ). get_or l 1 0 + length l) h.0
mark_is name words (Station address settings air count) h = ap (λ (l : List ℕ). get_or l 1 0 + length l) h.0
mark_is name words (Snpp address settings air count) h = ap (λ (l : List ℕ). get_or l 1 0 + length l) h.0
mark_is name words (Trial settings noise receivers) h = ap (λ (l : List ℕ). get_or l 1 0 + length l) h.0
mark_is name words (Twice settings noise receivers) h = ap (λ (l : List ℕ). get_or l 1 0 + length l) h.0
mark_is name words (Send address pages) h = ap (λ (l : List ℕ). get_or l 1 0 + length l) h.0

one_receivers : (words a b : List (List ℕ)) → Say IsReceiverWord words a → Say IsReceiverWord words b → b ≡ a
one_receivers words a b h k = Say-one IsReceiverWord one_receiver words a b h k

one_one : (words : List (List ℕ)) (a b : ℕ) → AreOne words a → AreOne words b → One b ≡ One a
one_one [] a b h k = elim h [ ]
one_one (word ∷ []) a b h k = ap One (k.value ∙ sym h.value)
one_one (word ∷ other ∷ words) a b h k = elim h [ ]

one_load : (words : List (List ℕ)) (a b m n : ℕ) → AreLoad words a m → AreLoad words b n → Load b n ≡ Load a m
one_load [] a b m n h k = elim h [ ]
one_load (word ∷ []) a b m n h k = elim h [ ]
one_load (word ∷ other ∷ []) a b m n h k = ap₂ Load (k.0.value ∙ sym h.0.value) (k.1.value ∙ sym h.1.value)
one_load (word ∷ other ∷ third ∷ words) a b m n h k = elim h [ ]

one_play : (words : List (List ℕ)) (air air2 : List ℕ) (rs rs2 : List (List ℕ)) → ArePlay words air rs → ArePlay words air2 rs2 → Play air2 rs2 ≡ Play air rs
one_play [] air air2 rs rs2 h k = elim h [ ]
one_play (word ∷ words) air air2 rs rs2 h k = ap₂ Play (sym k.0 ∙ h.0) (one_receivers words rs rs2 h.2.say k.2.say)

one_play_line : (words : List (List ℕ)) (line line2 : List ℕ) (rs rs2 : List (List ℕ)) → ArePlay words line rs → ArePlay words line2 rs2 → PlayLine line2 rs2 ≡ PlayLine line rs
one_play_line [] line line2 rs rs2 h k = elim h [ ]
one_play_line (word ∷ words) line line2 rs rs2 h k = ap₂ PlayLine (sym k.0 ∙ h.0) (one_receivers words rs rs2 h.2.say k.2.say)

one_line : (words : List (List ℕ)) (a a2 l l2 : List ℕ) (s s2 : ℕ) → AreLine words a l s → AreLine words a2 l2 s2 → WriteLine a2 l2 s2 ≡ WriteLine a l s
one_line [] a a2 l l2 s s2 h k = elim h [ ]
one_line (w ∷ []) a a2 l l2 s s2 h k = elim h [ ]
one_line (w ∷ v ∷ []) a a2 l l2 s s2 h k = elim h [ ]
one_line (w ∷ v ∷ u ∷ []) a a2 l l2 s s2 h k =
    ap₂ (λ (x y : List ℕ). WriteLine x y s2) (sym k.0 ∙ h.0) (sym k.1 ∙ h.1) ∙ ap (WriteLine a l) (k.5.value ∙ sym h.5.value)
one_line (w ∷ v ∷ u ∷ t ∷ words) a a2 l l2 s s2 h k = elim h [ ]

one_show : (words : List (List ℕ)) (air air2 : List ℕ) → AreShow words air → AreShow words air2 → Show air2 ≡ Show air
one_show [] air air2 h k = elim h [ ]
one_show (word ∷ []) air air2 h k = ap Show (sym k.0 ∙ h.0)
one_show (word ∷ other ∷ words) air air2 h k = elim h [ ]

one_send : (words : List (List ℕ)) (a a2 p p2 : List ℕ) → AreSend words a p → AreSend words a2 p2 → Send a2 p2 ≡ Send a p
one_send [] a a2 p p2 h k = elim h [ ]
one_send (w ∷ []) a a2 p p2 h k = elim h [ ]
one_send (w ∷ v ∷ []) a a2 p p2 h k = ap₂ Send (sym k.0 ∙ h.0) (sym k.1 ∙ h.1)
one_send (w ∷ v ∷ u ∷ words) a a2 p p2 h k = elim h [ ]

one_trial : (words : List (List ℕ)) (s s2 n n2 : List ℕ) (rs rs2 : List (List ℕ)) → AreTrial words s n rs → AreTrial words s2 n2 rs2 → Trial s2 n2 rs2 ≡ Trial s n rs
one_trial [] s s2 n n2 rs rs2 h k = elim h [ ]
one_trial (w ∷ []) s s2 n n2 rs rs2 h k = elim h [ ]
one_trial (w ∷ v ∷ words) s s2 n n2 rs rs2 h k =
    ap₂ (λ (a b : List ℕ). Trial a b rs2) (sym k.0 ∙ h.0) (sym k.1 ∙ h.1) ∙ ap (Trial s n) (one_receivers words rs rs2 h.4.say k.4.say)

one_twice : (words : List (List ℕ)) (s s2 n n2 : List ℕ) (rs rs2 : List (List ℕ)) → AreTrial words s n rs → AreTrial words s2 n2 rs2 → Twice s2 n2 rs2 ≡ Twice s n rs
one_twice [] s s2 n n2 rs rs2 h k = elim h [ ]
one_twice (w ∷ []) s s2 n n2 rs rs2 h k = elim h [ ]
one_twice (w ∷ v ∷ words) s s2 n n2 rs rs2 h k =
    ap₂ (λ (a b : List ℕ). Twice a b rs2) (sym k.0 ∙ h.0) (sym k.1 ∙ h.1) ∙ ap (Twice s n) (one_receivers words rs rs2 h.4.say k.4.say)

one_station : (made : List ℕ → List ℕ → List ℕ → ℕ → Command) (words : List (List ℕ)) (a a2 s s2 f f2 : List ℕ) (n n2 : ℕ) → AreStation words a s f n → AreStation words a2 s2 f2 n2 → made a2 s2 f2 n2 ≡ made a s f n
one_station made [] a a2 s s2 f f2 n n2 h k = elim h [ ]
one_station made (w ∷ []) a a2 s s2 f f2 n n2 h k = elim h [ ]
one_station made (w ∷ v ∷ []) a a2 s s2 f f2 n n2 h k = elim h [ ]
one_station made (w ∷ v ∷ u ∷ []) a a2 s s2 f f2 n n2 h k = elim h [ ]
one_station made (w ∷ v ∷ u ∷ t ∷ []) a a2 s s2 f f2 n n2 h k =
    ap₂ (λ (x y : List ℕ). made x y f2 n2) (sym k.0 ∙ h.0) (sym k.1 ∙ h.1) ∙ ap₂ (λ (x : List ℕ) (m : ℕ). made a s x m) (sym k.2 ∙ h.2) (k.6.value ∙ sym h.6.value)
one_station made (w ∷ v ∷ u ∷ t ∷ r ∷ words) a a2 s s2 f f2 n n2 h k = elim h [ ]

one_some : (words : List (List ℕ)) (a b : Command) → IsCommand words a → IsCommand words b → b ≡ a
unfolding mark
one_some [] a b h k = elim h [ ]
one_some (name ∷ words) (One a) (One b) h k = one_one words a b h.1 k.1
one_some (name ∷ words) (Load a m) (Load b n) h k = one_load words a b m n h.1 k.1
one_some (name ∷ words) (Play a c) (Play b d) h k = one_play words a b c d h.1 k.1
one_some (name ∷ words) (PlayLine a c) (PlayLine b d) h k = one_play_line words a b c d h.1 k.1
one_some (name ∷ words) (WriteLine a l s) (WriteLine a2 l2 s2) h k = one_line words a a2 l l2 s s2 h.1 k.1
one_some (name ∷ words) (Show a) (Show b) h k = one_show words a b h.1 k.1
one_some (name ∷ words) (Station a s f n) (Station a2 s2 f2 n2) h k = one_station Station words a a2 s s2 f f2 n n2 h.1 k.1
one_some (name ∷ words) (Snpp a s f n) (Snpp a2 s2 f2 n2) h k = one_station Snpp words a a2 s s2 f f2 n n2 h.1 k.1
one_some (name ∷ words) (Trial s n c) (Trial s2 n2 c2) h k = one_trial words s s2 n n2 c c2 h.1 k.1
one_some (name ∷ words) (Twice s n c) (Twice s2 n2 c2) h k = one_twice words s s2 n n2 c c2 h.1 k.1
one_some (name ∷ words) (Send a p) (Send b q) h k = one_send words a b p q h.1 k.1
one_some (name ∷ words) a b h k = let e = mark_is name words a h in let f = mark_is name words b k in absurd (omega (arith, e, f))

-- the words are one command's or none's
pub one_command : (words : List (List ℕ)) (a b : Option Command) → AreCommand words a → AreCommand words b → b ≡ a
one_command words None None h k = refl
one_command words None (Some b) h k = absurd (h b k)
one_command words (Some a) None h k = absurd (k a h)
one_command words (Some a) (Some b) h k = ap (λ (c : Command). Some c) (one_some words a b h k)
