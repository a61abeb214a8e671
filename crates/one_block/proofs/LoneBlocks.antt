-- The block that `one` reads, from what a scanner answers.
use Rattle.std.proofs.Common.{◌≡◌, ◌≢◌, ℕ, zero, suc, ◌<◌, ◌≤◌, min, Bool, true, false, List, [], ◌∷◌, ◌++◌, length, length-append, take, drop, get_or, Option, Some, None, is_some, refl, sym, ◌∙◌, ap, subst, append_assoc, arith}
use Rattle.std.specs.Option.{option_map, option_to_list}
use Rattle.std.proofs.lemmas.List.{map-append, take_all}
use Rattle.std.proofs.Math.Seq.{take-append_seam}
use Rattle.tap_block.specs.declared.ends.End.TheVariants.{Etx}
use Rattle.tap_block.specs.declared.items.Item.{Item}
use Rattle.tap_block.specs.declared.items.Item.TheVariants.{Block}
use Rattle.tap_block.specs.Brief.{answer_of, BodyIs, ScannerState, ReadsOn, ScannerStandsFor}
use Rattle.entry_line.specs.Chars.{char_of}
use Rattle.tap_block.specs.Chars.{characters, etx, stx}
use Rattle.tap_block.specs.Reading.{a_block, a_bye, AfterLogon, block, bye, dropped, empty_line, Entry, IsBody, IsTrailer, is_right, items_of, line, logon, lone_eot, InputPiece, Reads, skipped, wrong_line}
use Rattle.tap_block.proofs.LoneBlocks.{front_of_block, lone_reads, lone_trailer, no_pieces}
use Rattle.tap_block.proofs.OneReading.{at_most_one}
use Rattle.tap_block.proofs.WholeBlocks.{block_text}
use Rattle.one_block.specs.LoneBlock.{IsLoneBlock, IsMarkedBlock}
use Rattle.one_block.specs.Silent.{BreaksSilence}

-- characters up to one of them, this one, and those behind it
pub characters-at : (bytes : List ℕ) (i : ℕ) → i < length bytes → characters bytes ≡ (characters (take i bytes) ++ char_of (get_or bytes i 0) ∷ []) ++ characters (drop (suc i) bytes)
characters-at [] i h = absurd (omega (arith, h))
characters-at (b ∷ bytes) zero h = refl
characters-at (b ∷ bytes) (suc i) h = ap (λ (l : List ℕ). char_of b ∷ l) (characters-at bytes i (omega (arith, h)))

answered : (further : Option Entry) (answer : Option Item) → answer ≡ option_map answer_of further → is_some answer ≡ true → [] ++ option_to_list further ≢ []
answered None answer e s = λ _. absurd (let f : is_some answer ≡ false = ap is_some e in cc)
answered (Some entry) answer e s = λ k. cc

-- a character that completes an item breaks the silence
pub breaks : (new : ScannerState) (x all behind : List ℕ) (password : Option (List ℕ)) (c : ℕ) (answer : Option Item) → ReadsOn AfterLogon new x [] c answer → is_some answer ≡ true
    → all ≡ (x ++ c ∷ []) ++ behind → new.password ≡ password → BreaksSilence password all
breaks new x all behind password c answer h s e p = record {
  front = x ++ c ∷ [];
  behind = behind;
  parts = e;
  scanner = new;
  same = p;
  items = [] ++ option_to_list h.further;
  stands = h.stands;
  some = answered h.further answer h.answer_is s;
}

-- the parts of a lone block
pub lone_form : (x body trailer : List ℕ) → IsLoneBlock x body trailer → (x ≡ (stx ∷ body) ++ etx ∷ trailer) × IsBody body × IsTrailer trailer
lone_form x body trailer h = let t = block_text None body trailer x Etx h.reads in (t.0, t.1, h.reads.2.1)

-- the one item of a lone block
pub one_item : (s : ScannerState) (x body trailer : List ℕ) (items : List Entry) → s.password ≡ None → ScannerStandsFor AfterLogon s x items → IsLoneBlock x body trailer
    → items ≡ a_block body Etx (is_right body Etx trailer) ∷ []
one_item s x body trailer items p h l =
    let reads : Reads None AfterLogon h.pieces h.rest x = subst (λ (w : Option (List ℕ)). Reads w AfterLogon h.pieces h.rest x) p h.reads in
    let same = at_most_one None AfterLogon h.pieces (block body Etx trailer ∷ []) h.rest [] x reads l.reads in
    h.items_are ∙ ap (λ (w : Option (List ℕ)). items_of w h.pieces) p ∙ ap (items_of None) same.0

-- no front of a lone block has an item
pub stays_silent : (fed x body trailer : List ℕ) (c : ℕ) → fed ++ c ∷ [] ≡ x → BreaksSilence None fed → IsLoneBlock x body trailer → ⊥
stays_silent fed x body trailer c e b l =
    let form = lone_form x body trailer l in
    let all : b.front ++ (b.behind ++ c ∷ []) ≡ (stx ∷ body) ++ etx ∷ trailer =
    sym (append_assoc b.front b.behind (c ∷ [])) ∙ ap (λ (z : List ℕ). z ++ c ∷ []) (sym b.parts) ∙ e ∙ form.0 in
    let more : b.behind ++ c ∷ [] ≢ [] = λ k. omega (arith, ap length k, length-append b.behind (c ∷ [])) in
    let none = front_of_block body trailer b.front (b.behind ++ c ∷ []) Etx form.1 form.2 all more in
    let empty = no_pieces b.scanner.password AfterLogon b.stands.pieces b.stands.rest b.front none b.stands.reads in
    b.some (b.stands.items_are ∙ ap (items_of b.scanner.password) empty)

no_further : (further : Option Entry) → ◌≡◌ {A = Option Item} None (option_map answer_of further) → further ≡ None
no_further None e = refl
no_further (Some entry) e = cc

-- the last character of a lone block completes an item
pub last_answers : (new : ScannerState) (fed x body trailer : List ℕ) (c : ℕ) → new.password ≡ None → fed ++ c ∷ [] ≡ x → ReadsOn AfterLogon new fed [] c None → IsLoneBlock x body trailer → ⊥
last_answers new fed x body trailer c p e h l =
    let none = no_further h.further h.answer_is in
    let stands : ScannerStandsFor AfterLogon new x [] = subst (λ (z : List ℕ). ScannerStandsFor AfterLogon new z []) e (subst (λ (f : Option Entry). ScannerStandsFor AfterLogon new (fed ++ c ∷ []) ([] ++ option_to_list f)) none h.stands) in
    let one = one_item new x body trailer [] p stands l in
    cc

-- the item of a lone block
one_answer : (further : Option Entry) (item : Item) (entry : Entry) → Some item ≡ option_map answer_of further → [] ++ option_to_list further ≡ entry ∷ [] → item ≡ answer_of entry
one_answer None item entry e k = cc
one_answer (Some f) item entry e k =
    let same : f ≡ entry = (let l : f ∷ [] ≡ entry ∷ [] = k in cc) in
    let i : item ≡ answer_of f = cc in
    i ∙ ap answer_of same

pub block_answer : (new : ScannerState) (fed x body trailer : List ℕ) (c : ℕ) (item : Item) → new.password ≡ None → fed ++ c ∷ [] ≡ x → ReadsOn AfterLogon new fed [] c (Some item) → IsLoneBlock x body trailer
    → item ≡ Block Etx (is_right body Etx trailer) (length body)
block_answer new fed x body trailer c item p e h l =
    let stands : ScannerStandsFor AfterLogon new x ([] ++ option_to_list h.further) = subst (λ (z : List ℕ). ScannerStandsFor AfterLogon new z ([] ++ option_to_list h.further)) e h.stands in
    let one = one_item new x body trailer ([] ++ option_to_list h.further) p stands l in
    let size : min (length body) 251 ≡ length body = omega (arith, l.short) in
    one_answer h.further item (a_block body Etx (is_right body Etx trailer)) h.answer_is one ∙ ap (λ (n : ℕ). Block Etx (is_right body Etx trailer) n) size

-- the parts of an item
pub size_is : (r s : Bool) (m n : ℕ) → Block Etx r m ≡ Block Etx s n → (r ≡ s) × (m ≡ n)
size_is r s m n e = (cc, cc)

-- two bodies of one length between STX and ETX are one
pub same_between : (a b t u : List ℕ) → ◌≡◌ {A = List ℕ} ((stx ∷ a) ++ etx ∷ t) ((stx ∷ b) ++ etx ∷ u) → length a ≡ length b → a ≡ b
same_between a b t u e l =
    let k : a ++ etx ∷ t ≡ b ++ etx ∷ u = ap (drop 1) e in
    sym (take-append_seam a (etx ∷ t)) ∙ ap (take (length a)) k ∙ ap (λ (n : ℕ). take n (b ++ etx ∷ u)) l ∙ take-append_seam b (etx ∷ u)

-- a block's item is read from a body
block_body : (password : Option (List ℕ)) (pieces : List InputPiece) (rest x b : List ℕ) (right : Bool) → Reads password AfterLogon pieces rest x → items_of password pieces ≡ a_block b Etx right ∷ [] → IsBody b
block_body password [] rest x b right h e = cc
block_body password (line l ∷ pieces) rest x b right h e = elim h.2 [ ]
block_body password (skipped c ∷ pieces) rest x b right h e = block_body password pieces rest h.0 b right h.3 e
block_body password (lone_eot ∷ pieces) rest x b right h e = block_body password pieces rest h.0 b right h.3 e
block_body password (bye ∷ pieces) rest x b right h e = cc
block_body password (dropped d ∷ pieces) rest x b right h e = block_body password pieces rest h.0 b right h.3 e
block_body password (block d end t ∷ pieces) rest x b right h e =
    let same : d ≡ b = cc in
    subst IsBody same h.2.0

pub record Found (further : Option Entry) (kept : List ℕ) (right : Bool) (size : ℕ) : Type 0 where
  pub body : List ℕ
  pub entry : further ≡ Some (a_block body Etx right)
  pub short : length body ≤ 250
  pub kept_is : kept ≡ body

whole : (b : List ℕ) → length b ≤ 250 → take 250 b ≡ b
whole b h = take_all 250 b h

-- the entry of a short block's item
found_block : (further : Option Entry) (kept : List ℕ) (right : Bool) (size : ℕ) → Some (Block Etx right size) ≡ option_map answer_of further → BodyIs further kept → size ≤ 250 → Found further kept right size
found_block None kept right size e b h = absurd (let k = e in cc)
found_block (Some empty_line) kept right size e b h = absurd (let k = e in cc)
found_block (Some logon) kept right size e b h = absurd (let k = e in cc)
found_block (Some wrong_line) kept right size e b h = absurd (let k = e in cc)
found_block (Some a_bye) kept right size e b h = absurd (let k = e in cc)
found_block (Some (a_block d end r)) kept right size e b h =
    let ends : end ≡ Etx = cc in
    let marks : r ≡ right = cc in
    let sizes : min (length d) 251 ≡ size = cc in
    let short : length d ≤ 250 = omega (arith, sizes, h) in
    record {
      body = d;
      entry = rw (ends, marks) refl;
      short = short;
      kept_is = b ∙ whole d short;
    }

-- What a scanner answers at the last character, and what stands between STX and ETX, make a lone block.
pub makes_block : (old new : ScannerState) (fed x body rest : List ℕ) (c : ℕ) (right : Bool) (size : ℕ) → old.password ≡ None → new.password ≡ None → fed ++ c ∷ [] ≡ x
    → ScannerStandsFor AfterLogon old fed [] → ReadsOn AfterLogon new fed [] c (Some (Block Etx right size)) → size ≤ 250 → x ≡ (stx ∷ body) ++ etx ∷ rest → body ≡ new.kept
    → IsMarkedBlock x body right
makes_block old new fed x body rest c right size po pn e before h small form k =
    let f = found_block h.further new.kept right size h.answer_is h.body_is small in
    let same : body ≡ f.body = k ∙ f.kept_is in
    let stands : ScannerStandsFor AfterLogon new x ([] ++ option_to_list h.further) = subst (λ (z : List ℕ). ScannerStandsFor AfterLogon new z ([] ++ option_to_list h.further)) e h.stands in
    let items : [] ++ option_to_list h.further ≡ a_block body Etx right ∷ [] = ap (λ (o : Option Entry). [] ++ option_to_list o) f.entry ∙ ap (λ (z : List ℕ). a_block z Etx right ∷ []) (sym same) in
    let is : items_of new.password stands.pieces ≡ a_block body Etx right ∷ [] = sym stands.items_are ∙ items in
    let is_body : IsBody body = block_body new.password stands.pieces stands.rest x body right stands.reads is in
    let after : Reads None AfterLogon stands.pieces stands.rest ((stx ∷ body) ++ etx ∷ rest) =
    subst (λ (z : List ℕ). Reads None AfterLogon stands.pieces stands.rest z) form (subst (λ (w : Option (List ℕ)). Reads w AfterLogon stands.pieces stands.rest x) pn stands.reads) in
    let earlier : Reads None AfterLogon before.pieces before.rest fed = subst (λ (w : Option (List ℕ)). Reads w AfterLogon before.pieces before.rest fed) po before.reads in
    let none : items_of None before.pieces ≡ [] = ap (λ (w : Option (List ℕ)). items_of w before.pieces) (sym po) ∙ sym before.items_are in
    let some : items_of None stands.pieces ≢ [] = λ z. (let y = ap (λ (w : Option (List ℕ)). items_of w stands.pieces) (sym pn) ∙ is in cc) in
    let trailer : IsTrailer rest = lone_trailer None body rest fed c before.pieces stands.pieces before.rest stands.rest is_body (e ∙ form) earlier none after some in
    let lone : IsLoneBlock x body rest = record { reads = subst (λ (z : List ℕ). Reads None AfterLogon (block body Etx rest ∷ []) [] z) (sym form) (lone_reads None body rest is_body trailer); short = subst (λ (z : List ℕ). length z ≤ 250) (sym same) f.short } in
    let one = one_item new x body rest ([] ++ option_to_list h.further) pn stands lone in
    record {
      trailer = rest;
      lone = lone;
      mark = (let both : a_block body Etx right ∷ [] ≡ a_block body Etx (is_right body Etx rest) ∷ [] = sym items ∙ one in cc);
    }

-- the characters that were fed before the last
pub fed_before : (chars before : List ℕ) (last : ℕ) → characters chars ≡ chars → chars ≡ before ++ last ∷ [] → characters before ++ char_of last ∷ [] ≡ chars
fed_before chars before last c e = sym (map-append char_of before (last ∷ [])) ∙ ap characters (sym e) ∙ c

some_entry : (further : Option Entry) (entry : Entry) → [] ++ option_to_list further ≡ entry ∷ [] → further ≡ Some entry
some_entry None entry e = cc
some_entry (Some f) entry e = (let l : f ∷ [] ≡ entry ∷ [] = e in cc)

-- what a scanner lends after a lone block is its body
pub kept_body : (new : ScannerState) (fed x body trailer : List ℕ) (c : ℕ) (item : Item) → new.password ≡ None → fed ++ c ∷ [] ≡ x → ReadsOn AfterLogon new fed [] c (Some item) → IsLoneBlock x body trailer
    → new.kept ≡ body
kept_body new fed x body trailer c item p e h l =
    let stands : ScannerStandsFor AfterLogon new x ([] ++ option_to_list h.further) = subst (λ (z : List ℕ). ScannerStandsFor AfterLogon new z ([] ++ option_to_list h.further)) e h.stands in
    let entry = some_entry h.further (a_block body Etx (is_right body Etx trailer)) (one_item new x body trailer ([] ++ option_to_list h.further) p stands l) in
    let kept : BodyIs (Some (a_block body Etx (is_right body Etx trailer))) new.kept = subst (λ (o : Option Entry). BodyIs o new.kept) entry h.body_is in
    kept ∙ whole body l.short
