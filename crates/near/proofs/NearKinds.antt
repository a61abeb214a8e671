-- What the words of a schedule say, and words heard of them.
use Rattle.std.proofs.Common.{◌≡◌, ℕ, zero, suc, ◌^◌, ◌<◌, Bool, true, false, cond, List, [], ◌∷◌, ◌++◌, take, drop, map, Option, Some, None, option_map, arith, refl, sym, ◌∙◌, ap, ap₂, inl, inr, lit<}
use Rattle.std.specs.List.{All}
use Rattle.std.proofs.lemmas.Bool.{cases_Bool, leb-true}
use Rattle.std.proofs.lemmas.List.{map-append}
use Rattle.std.proofs.lemmas.List.Elements.{All-nil, All-cons, All-head, All-tail, All-append}
use Rattle.bits.specs.Bits.{word_bits, number, dist}
use Rattle.bits.proofs.Metric.{dist-self}
use Rattle.bch31.specs.Codeword.{IsCodeword, front_of}
use Rattle.bch31.specs.Fix.{IsFix, HasNoFix, fix_of}
use Rattle.bch31.proofs.Apart.{codeword-lt}
use Rattle.bch31.proofs.Fixes.{fix_of-some, fix_of-is}
use Rattle.codeword.specs.declared.functions.Function.{Function}
use Rattle.codeword.specs.declared.functions.Function.TheVariants.{Numeric, Tone1, Tone2, Alpha}
use Rattle.codeword.specs.declared.kinds.WordKind.{WordKind}
use Rattle.codeword.specs.declared.kinds.WordKind.TheVariants.{Address, Message}
use Rattle.codeword.specs.declared.words.TheConstants.{IDLE}
use Rattle.codeword.specs.Capcodes.{high_of, idle_high}
use Rattle.codeword.specs.Kinds.{kind_from, kind_of}
use Rattle.codeword.specs.Words.{address_of, message_of}
use Rattle.codeword.proofs.Carried.{address_of-codeword, address_of-lt, message_of-codeword, message_of-lt}
use Rattle.codeword.proofs.Known.{idle_is}
use Rattle.codeword.proofs.Runs.{idle_codeword}
use Rattle.codeword.proofs.Said.{addresses_are_read, messages_are_read}
use Rattle.page_text.specs.Groups.{pieces as bit_pieces, groups_of, groups}
use Rattle.page_text.specs.Page.{IsAcceptable}
use Rattle.page_text.proofs.Groups.{number-take-lt}
use Rattle.scheduler.specs.Slots.{PlanPiece, Idle, Run, run, words, pages_in_order}
use Rattle.near.proofs.NearWords.{HeardAt, AreHeard}

-- ---- what the words of pieces say

abbrev pub said : List ℕ → List (Option WordKind)
said groups = map (λ group. Some (Message group)) groups

-- what the words of pieces say
abbrev pub kinds_of : List PlanPiece → List (Option WordKind)
kinds_of [] = []
kinds_of (Idle ∷ rest) = Some (Address idle_high Numeric) ∷ kinds_of rest
kinds_of (Run page ∷ rest) = Some (Address (high_of page.capcode) page.function) ∷ (said (groups page.function page.text) ++ kinds_of rest)

pub own_fix : {w : ℕ} → IsCodeword w → IsFix w w
own_fix {w} c = record { codeword = c; near = let z = dist-self (word_bits w) in omega arith }

kind_of-address : (c : ℕ) (f : Function) → c < 2 ^ 21 → kind_of (address_of c f) ≡ Some (Address (high_of c) f)
kind_of-address c f h =
    let l = address_of-lt c f h in
    addresses_are_read (address_of c f) c f (omega arith) h (own_fix (address_of-codeword c f h))

kind_of-message : (group : ℕ) → group < 2 ^ 20 → kind_of (message_of group) ≡ Some (Message group)
kind_of-message group h = messages_are_read (message_of group) group (message_of-lt group h) h (own_fix (message_of-codeword group h))

kind_of-idle : kind_of IDLE ≡ Some (Address idle_high Numeric)
kind_of-idle = ap kind_of idle_is ∙ kind_of-address 2007664 Numeric (lit< tt)

numbers-lt : (n : ℕ) (bits : List Bool) → All (λ group. group < 2 ^ 20) (map number (bit_pieces 20 n bits))
numbers-lt zero bits = All-nil (λ group. group < 2 ^ 20)
numbers-lt (suc n) bits =
    All-cons (λ group. group < 2 ^ 20) (number (take 20 bits)) (map number (bit_pieces 20 n (drop 20 bits)))
    (number-take-lt (number (take 20 bits)) 20 20 bits refl (omega arith))
    (numbers-lt n (drop 20 bits))

groups-lt : (f : Function) (text : List ℕ) → All (λ group. group < 2 ^ 20) (groups f text)
unfolding groups_of
groups-lt Numeric text = numbers-lt _ _
groups-lt Tone1 text = All-nil (λ group. group < 2 ^ 20)
groups-lt Tone2 text = All-nil (λ group. group < 2 ^ 20)
groups-lt Alpha text = numbers-lt _ _

kinds_of-messages : (gs : List ℕ) → All (λ group. group < 2 ^ 20) gs → map kind_of (map message_of gs) ≡ said gs
kinds_of-messages [] h = refl
kinds_of-messages (g ∷ gs) h =
    ap₂ (λ (x : Option WordKind) (xs : List (Option WordKind)). x ∷ xs)
    (kind_of-message g (All-head (λ group. group < 2 ^ 20) g gs h)) (kinds_of-messages gs (All-tail (λ group. group < 2 ^ 20) g gs h))

codewords-messages : (gs : List ℕ) → All (λ group. group < 2 ^ 20) gs → All IsCodeword (map message_of gs)
codewords-messages [] h = All-nil IsCodeword
codewords-messages (g ∷ gs) h =
    All-cons IsCodeword (message_of g) (map message_of gs)
    (message_of-codeword g (All-head (λ group. group < 2 ^ 20) g gs h)) (codewords-messages gs (All-tail (λ group. group < 2 ^ 20) g gs h))

pub kinds-words : (ps : List PlanPiece) → All IsAcceptable (pages_in_order ps) → map kind_of (words ps) ≡ kinds_of ps
unfolding run
kinds-words [] h = refl
kinds-words (Idle ∷ rest) h = ap₂ (λ (x : Option WordKind) (xs : List (Option WordKind)). x ∷ xs) kind_of-idle (kinds-words rest h)
kinds-words (Run page ∷ rest) h =
    let a = All-head IsAcceptable page (pages_in_order rest) h in
    let ih = kinds-words rest (All-tail IsAcceptable page (pages_in_order rest) h) in
    ap₂ (λ (x : Option WordKind) (xs : List (Option WordKind)). x ∷ xs) (kind_of-address page.capcode page.function a.usable.small)
    (map-append kind_of (map message_of (groups page.function page.text)) (words rest)
    ∙ ap₂ (λ (x y : List (Option WordKind)). x ++ y) (kinds_of-messages (groups page.function page.text) (groups-lt page.function page.text)) ih)

pub codewords-words : (ps : List PlanPiece) → All IsAcceptable (pages_in_order ps) → All IsCodeword (words ps)
unfolding run
codewords-words [] h = All-nil IsCodeword
codewords-words (Idle ∷ rest) h = All-cons IsCodeword IDLE (words rest) idle_codeword (codewords-words rest h)
codewords-words (Run page ∷ rest) h =
    let a = All-head IsAcceptable page (pages_in_order rest) h in
    All-cons IsCodeword (address_of page.capcode page.function) (map message_of (groups page.function page.text) ++ words rest)
    (address_of-codeword page.capcode page.function a.usable.small)
    (All-append IsCodeword (map message_of (groups page.function page.text)) (words rest)
    (codewords-messages (groups page.function page.text) (groups-lt page.function page.text))
    (codewords-words rest (All-tail IsAcceptable page (pages_in_order rest) h)))

-- ---- what words say that are heard of codewords

-- what is said at the places that hold a test, and none elsewhere
unfoldable pub said_where : (ℕ → Bool) → ℕ → List (Option WordKind) → List (Option WordKind)
said_where test place [] = []
said_where test place (kind ∷ kinds) = cond (test place) kind None ∷ said_where test (suc place) kinds

-- a word with no fix
pub no_fix : (w : ℕ) → w < 2 ^ 32 → HasNoFix w → fix_of w ≡ None
no_fix w h none = from (fix_of w) refl
  where
    from : (o : Option ℕ) → fix_of w ≡ o → o ≡ None
    from None e = refl
    from (Some v) e = absurd (none v (fix_of-is w v h e))

-- a word as heard has the fix that was sent, where it is near, and else none
pub heard_fix : (near : ℕ → Bool) (p u w : ℕ) → HeardAt near p u w → IsCodeword u → fix_of w ≡ cond (near p) (Some u) None
heard_fix near p u w h c = elim (cases_Bool (near p)) [
  | inl close ↦
      fix_of-some w u h.small (record { codeword = c; near = leb-true (dist (word_bits w) (word_bits u)) 2 (sym h.is ∙ close) })
      ∙ sym (ap (λ (t : Bool). cond t (Some u) None) close)
  | inr far ↦ no_fix w h.small (h.none far) ∙ sym (ap (λ (t : Bool). cond t (Some u) None) far)
]

pub says_codeword : (u : ℕ) → IsCodeword u → option_map (λ v. kind_from (front_of v)) (Some u) ≡ kind_of u
unfolding kind_of
says_codeword u c = ap (option_map (λ v. kind_from (front_of v))) (sym (fix_of-some u u (codeword-lt c) (own_fix c)))

-- a word as heard says what was sent, where it is near, and else nothing
heard_kind : (near : ℕ → Bool) (p u w : ℕ) → HeardAt near p u w → IsCodeword u → kind_of w ≡ cond (near p) (kind_of u) None
unfolding kind_of
heard_kind near p u w h c = ap (option_map (λ v. kind_from (front_of v))) (heard_fix near p u w h c) ∙ read (near p)
  where
    read : (b : Bool) → option_map (λ v. kind_from (front_of v)) (cond b (Some u) None) ≡ cond b (kind_of u) None
    read true = says_codeword u c
    read false = refl

pub heard_kinds : (near : ℕ → Bool) (p : ℕ) (us ws : List ℕ) → AreHeard near p us ws → All IsCodeword us → map kind_of ws ≡ said_where near p (map kind_of us)
unfolding AreHeard said_where
heard_kinds near p [] ws h c = ap (map kind_of) h
heard_kinds near p (u ∷ us) [] h c = absurd h
heard_kinds near p (u ∷ us) (w ∷ ws) h c =
    ap₂ (λ (x : Option WordKind) (xs : List (Option WordKind)). x ∷ xs)
    (heard_kind near p u w h.0 (All-head IsCodeword u us c)) (heard_kinds near (suc p) us ws h.1 (All-tail IsCodeword u us c))
