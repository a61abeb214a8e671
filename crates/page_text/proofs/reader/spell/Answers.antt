use Rattle.std.proofs.Common.{◌≡◌, ◌*◌, ◌/◌, ◌<◌, ℕ, List, get_or, length, take, sym, ap, ◌∙◌, arith}
use Rattle.std.proofs.lemmas.List.{length-take, take-take}
use Rattle.page_text.specs.Coding.{character_of, characters_of, width_of}
use Rattle.page_text.specs.Texts.{codes_of, stripped}
use Rattle.page_text.proofs.Codings.{get_or-characters_of, length-characters_of}
use Rattle.page_text.proofs.Texts.{count-few, length-codes_of, take-more-set, take-whole}
use Rattle.page_text.proofs.reader.spell.Goals as goal

pub loop-k-preserved : goal.loop-k-preserved
loop-k-preserved c =
    let w : c.width-width.result ≡ width_of c.args.coding = c.width-width.ensures.value in
    let few = count-few (length c.args.groups.now) c.width-width.result c.width-width.ensures.few.0 c.requires.few in
    let codes : List ℕ = codes_of (width_of c.args.coding) c.args.groups.now in
    let chars : List ℕ = characters_of c.args.coding codes in
    let held : length codes ≡ 20 * length c.args.groups.now / c.width-width.result = rw w (length-codes_of (width_of c.args.coding) c.args.groups.now) in
    let within : c.loop-k.k < length codes = rw held c.loop-k-test.true in
    let code : c.code.result ≡ get_or codes c.loop-k.k 0 = c.code.ensures.value ∙ ap (λ n. get_or (codes_of n c.args.groups.now) c.loop-k.k 0) w in
    let new : c.character.result ≡ get_or chars c.loop-k.k 0 =
    c.character.ensures ∙ ap (character_of c.args.coding) code ∙ sym (get_or-characters_of c.args.coding codes c.loop-k.k within) in
    take-more-set c.loop-k.into chars c.loop-k.k c.character.result (omega (arith, c.loop-k.auto.into, c.requires.room, few, c.loop-k-test.true)) (omega (arith, within, length-characters_of c.args.coding codes)) new c.loop-k.invariant

pub returns-clause-text : goal.returns-clause-text
returns-clause-text c =
    let w : c.width-width.result ≡ width_of c.args.coding = c.width-width.ensures.value in
    let count : ℕ = 20 * length c.args.groups.now / c.width-width.result in
    let codes : List ℕ = codes_of (width_of c.args.coding) c.args.groups.now in
    let chars : List ℕ = characters_of c.args.coding codes in
    let held : length chars ≡ count = length-characters_of c.args.coding codes ∙ rw w (length-codes_of (width_of c.args.coding) c.args.groups.now) in
    let all : c.loop-k.k ≡ count = omega (arith, c.loop-k-test.false) in
    let front : take count c.loop-k.into ≡ chars =
    ap (λ n. take n c.loop-k.into) (sym all) ∙ c.loop-k.invariant ∙ take-whole chars c.loop-k.k (held ∙ sym all) in
    sym (take-take c.without_blanks.result count c.loop-k.into (omega (arith, c.without_blanks.ensures.within, length-take count c.loop-k.into)))
    ∙ c.without_blanks.ensures.text ∙ ap (stripped c.blank.result) front ∙ ap (λ b. stripped b chars) c.blank.ensures
