-- What `one` comes to where no call fails.
use Rattle.std.proofs.Common.{◌≡◌, ◌≢◌, ℕ, Bool, true, false, List, [], ◌∷◌, ◌++◌, IsTrue, refl, sym, ◌∙◌, ap, subst}
use Rattle.air.specs.Air.{IsAir}
use Rattle.bits.specs.Bits.{bytes_bits}
use Rattle.tap_block.specs.Chars.{characters}
use Rattle.wires.proofs.Written.{still}
use Rattle.wires.specs.Stacked.{are_bytes}
use Rattle.wires.specs.Files.{all_files}
use Rattle.wires.specs.Left.{Left}
use Rattle.wires.specs.Written.{Written}
use Rattle.endings.specs.declared.statuses.Status.{Status}
use Rattle.endings.specs.declared.statuses.Status.TheVariants.{BadSum, BadText, Done, InputFault, Memory, NotBlock, OutFault}
use Rattle.one_block.specs.AlphaPage.{alpha_page}
use Rattle.one_block.specs.LoneBlock.{HasText}
use Rattle.station.specs.OneOutcome.{FitOne, OneOne}
use Rattle.one_block.specs.OneRow.{OneRow, PageSent, ReadBadText, ReadBlock, ReadNoBlock, Streams}
use Rattle.station.proofs.LeftAlike.{kept_alike, same_said}
use Rattle.air.proofs.OneAir.{one_air}
use Rattle.endings.proofs.OneBytes.{one_bytes, still_bytes}
use Rattle.one_block.proofs.OneAnswer.{one_block, one_text}

-- two readings of a block
same_block : (old new other : Left ℕ) (body body2 : List ℕ) (right marked : Bool) → IsTrue old.tells → ReadBlock old new body right → ReadBlock old other body2 marked → (body2 ≡ body) × (marked ≡ right)
same_block old new other body body2 right marked t h k = one_block (characters old.left) body body2 right marked (h.block t) (k.block t)

-- no block, and one
no_and_one : {B : Type 0} (old new other : Left ℕ) (body : List ℕ) (right : Bool) → IsTrue old.tells → ReadNoBlock old new → ReadBlock old other body right → B
no_and_one old new other body right t h k = let b = k.block t in absurd (h.no_block t body b.trailer b.lone)

-- a trailer that is right and wrong
right_and_wrong : {B : Type 0} (old new other : Left ℕ) (body body2 : List ℕ) → IsTrue old.tells → ReadBlock old new body true → ReadBlock old other body2 false → B
right_and_wrong old new other body body2 t h k = let e = (same_block old new other body body2 true false t h k).1 in cc

-- a content with a text and none
text_and_none : {B : Type 0} (capcode : ℕ) (old new other : Left ℕ) → IsTrue old.tells → PageSent capcode old new → ReadBadText old other → B
text_and_none capcode old new other t h k =
    absurd (k.no_text h.text (subst (λ (b : List ℕ). HasText b h.text) (sym (same_block old new other h.body k.body true true t h.read k.read).0) h.has_text))

-- two pages that were sent have the same bits
same_bits : (capcode : ℕ) (old new other : Left ℕ) → IsTrue old.tells → (h : PageSent capcode old new) (k : PageSent capcode old other) → k.bits ≡ h.bits
same_bits capcode old new other t h k =
    let b : k.body ≡ h.body = (same_block old new other h.body k.body true true t h.read k.read).0 in
    let x : k.text ≡ h.text = one_text h.body h.text k.text h.has_text (subst (λ (z : List ℕ). HasText z k.text) b k.has_text) in
    one_air (alpha_page capcode h.text ∷ []) h.bits k.bits h.air (subst (λ (z : List ℕ). IsAir (alpha_page capcode z ∷ []) k.bits) x k.air)

-- the output is as it was
same_out : (status : Status) (old new other : Written ℕ) → new ≡ old → other ≡ old → (status ≡ status) × (bytes_bits other.held ≡ bytes_bits new.held)
same_out status old new other h k = (refl, ap (λ (o : Written ℕ). bytes_bits o.held) (k ∙ sym h))

-- the output had room
no_fault : {B : Type 0} (capcode : ℕ) (old new : Streams) → FitOne capcode old → OneRow capcode old new OutFault → B
no_fault capcode old new fit h = absurd (h.1.unfit fit.tells fit.steady (fit.room h.0.body h.0.text h.0.bits (h.0.read.block fit.input_tells) h.0.has_text h.0.air))

pair : (capcode : ℕ) (old new other : Streams) (status another : Status) → FitOne capcode old → OneRow capcode old new status → OneRow capcode old other another → status ≢ Memory → another ≢ Memory
    → (another ≡ status) × (bytes_bits other.out.held ≡ bytes_bits new.out.held)
pair c old new other Done Done fit h k some some2 =
    (refl, k.1.held fit.tells ∙ (ap (λ (bits : List Bool). bytes_bits old.out.held ++ bits) (same_bits c old.input new.input other.input fit.input_tells h.0 k.0) ∙ sym (h.1.held fit.tells)))
pair c old new other Done NotBlock fit h k some some2 = no_and_one old.input other.input new.input h.0.body true fit.input_tells k.0 h.0.read
pair c old new other Done BadSum fit h k some some2 = right_and_wrong old.input new.input other.input h.0.body k.0.body fit.input_tells h.0.read k.0.read
pair c old new other Done BadText fit h k some some2 = text_and_none c old.input new.input other.input fit.input_tells h.0 k.0
pair c old new other NotBlock Done fit h k some some2 = no_and_one old.input new.input other.input k.0.body true fit.input_tells h.0 k.0.read
pair c old new other NotBlock NotBlock fit h k some some2 = same_out NotBlock old.out new.out other.out h.1 k.1
pair c old new other NotBlock BadSum fit h k some some2 = no_and_one old.input new.input other.input k.0.body false fit.input_tells h.0 k.0.read
pair c old new other NotBlock BadText fit h k some some2 = no_and_one old.input new.input other.input k.0.body true fit.input_tells h.0 k.0.read
pair c old new other BadSum Done fit h k some some2 = right_and_wrong old.input other.input new.input k.0.body h.0.body fit.input_tells k.0.read h.0.read
pair c old new other BadSum NotBlock fit h k some some2 = no_and_one old.input other.input new.input h.0.body false fit.input_tells k.0 h.0.read
pair c old new other BadSum BadSum fit h k some some2 = same_out BadSum old.out new.out other.out h.1 k.1
pair c old new other BadSum BadText fit h k some some2 = right_and_wrong old.input other.input new.input k.0.body h.0.body fit.input_tells k.0.read h.0.read
pair c old new other BadText Done fit h k some some2 = text_and_none c old.input other.input new.input fit.input_tells k.0 h.0
pair c old new other BadText NotBlock fit h k some some2 = no_and_one old.input other.input new.input h.0.body true fit.input_tells k.0 h.0.read
pair c old new other BadText BadSum fit h k some some2 = right_and_wrong old.input new.input other.input h.0.body k.0.body fit.input_tells h.0.read k.0.read
pair c old new other BadText BadText fit h k some some2 = same_out BadText old.out new.out other.out h.1 k.1
pair c old new other InputFault another fit h k some some2 = absurd (h.0.unsteady fit.input_tells fit.input_steady)
pair c old new other OutFault another fit h k some some2 = no_fault c old new fit h
pair c old new other Memory another fit h k some some2 = absurd (some refl)
pair c old new other status InputFault fit h k some some2 = absurd (k.0.unsteady fit.input_tells fit.input_steady)
pair c old new other status OutFault fit h k some some2 = no_fault c old other fit k
pair c old new other status Memory fit h k some some2 = absurd (some2 refl)
pair c old new other Done another fit h k some some2 = elim k [ ]
pair c old new other NotBlock another fit h k some some2 = elim k [ ]
pair c old new other BadSum another fit h k some some2 = elim k [ ]
pair c old new other BadText another fit h k some some2 = elim k [ ]
pair c old new other status another fit h k some some2 = elim h [ ]

-- ---- bytes

unchanged_bytes : (old new : Written ℕ) → new ≡ old → IsTrue (are_bytes old.held) → IsTrue (are_bytes new.held)
unchanged_bytes old new e b = still (ap (λ (o : Written ℕ). are_bytes o.held) e) b

-- whatever it comes to, `one` leaves bytes where there were bytes
leaves_bytes : (capcode : ℕ) (old new : Streams) (status : Status) → OneRow capcode old new status → IsTrue old.out.tells → IsTrue (are_bytes old.out.held) → IsTrue (are_bytes new.out.held)
leaves_bytes capcode old new Done h t b = still_bytes old.out new.out t h.1.tells h.1.lent b
leaves_bytes capcode old new OutFault h t b = still_bytes old.out new.out t h.1.tells h.1.lent b
leaves_bytes capcode old new NotBlock h t b = unchanged_bytes old.out new.out h.1 b
leaves_bytes capcode old new BadSum h t b = unchanged_bytes old.out new.out h.1 b
leaves_bytes capcode old new BadText h t b = unchanged_bytes old.out new.out h.1 b
leaves_bytes capcode old new InputFault h t b = unchanged_bytes old.out new.out h.1 b
leaves_bytes capcode old new Memory h t b = unchanged_bytes old.out new.out (ap (λ (s : Streams). s.out) h) b
leaves_bytes capcode old new other h t b = elim h [ ]

pub one_one : OneOne
one_one capcode old new other status another fit h k some some2 =
    let r = pair capcode old.streams new.streams other.streams status another fit h.row k.row some some2 in
    let held : other.streams.out.held ≡ new.streams.out.held =
    one_bytes other.streams.out.held new.streams.out.held (leaves_bytes capcode old.streams other.streams another k.row fit.tells fit.of_bytes)
    (leaves_bytes capcode old.streams new.streams status h.row fit.tells fit.of_bytes) r.1 in
    (r.0, kept_alike old new other (ap all_files h.shelf) (ap all_files k.shelf) (same_said old.wire new.wire other.wire h.wire k.wire) held)
