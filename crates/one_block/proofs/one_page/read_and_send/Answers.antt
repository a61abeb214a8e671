use Rattle.std.proofs.Common.{Bool, false, refl, subst, true}
use Rattle.one_block.specs.LoneBlock.{IsMarkedBlock}
use Rattle.endings.proofs.OneBytes.{bytes_front, bytes_wrote}
use Rattle.one_block.proofs.OnePages.{read_block, read_no_block}
use Rattle.one_block.proofs.one_page.read_and_send.Goals as goal

pub returns-in_default : goal.returns-in_default
returns-in_default g c = (
  read_no_block (g.I.Source.state c.args.input.now) (g.I.Source.state c.read_front.new.input) c.read_front.new.into c.to_characters.new.bytes c.in-Ok.size c.read_front.auto.into
      c.in-Ok.ensures c.to_characters.ensures.characters c.in_default.ensures,
  refl,
)

pub returns-then-not-right : goal.returns-then-not-right
returns-then-not-right g c = (
  record {
    body = c.in-Some.body.now;
    read = read_block (g.I.Source.state c.args.input.now) (g.I.Source.state c.read_front.new.input) c.read_front.new.into c.to_characters.new.bytes c.in-Some.body.now false c.in-Ok.size
        c.read_front.auto.into c.in-Ok.ensures c.to_characters.ensures.characters
        (subst (λ (r : Bool). IsMarkedBlock c.to_characters.new.bytes c.in-Some.body.now r) c.if-not-right.true c.in-Some.ensures);
  },
  refl,
)

pub returns-in_default-read_text : goal.returns-in_default-read_text
returns-in_default-read_text g c = (
  record {
    body = c.in-Some.body.now;
    read = read_block (g.I.Source.state c.args.input.now) (g.I.Source.state c.read_front.new.input) c.read_front.new.into c.to_characters.new.bytes c.in-Some.body.now true c.in-Ok.size
        c.read_front.auto.into c.in-Ok.ensures c.to_characters.ensures.characters
        (subst (λ (r : Bool). IsMarkedBlock c.to_characters.new.bytes c.in-Some.body.now r) c.if-not-right.false c.in-Some.ensures);
    no_text = c.in_default-read_text.ensures;
  },
  refl,
)

pub returns-in-Ok-send : goal.returns-in-Ok-send
returns-in-Ok-send g c = (
  record {
    body = c.in-Some.body.now;
    read = read_block (g.I.Source.state c.args.input.now) (g.I.Source.state c.read_front.new.input) c.read_front.new.into c.to_characters.new.bytes c.in-Some.body.now true c.in-Ok.size
        c.read_front.auto.into c.in-Ok.ensures c.to_characters.ensures.characters
        (subst (λ (r : Bool). IsMarkedBlock c.to_characters.new.bytes c.in-Some.body.now r) c.if-not-right.false c.in-Some.ensures);
    text = _;
    has_text = c.in-Some-read_text.ensures.0;
    bits = (c.in-Ok-send.ensures _ c.put.ensures).bits;
    air = (c.in-Ok-send.ensures _ c.put.ensures).air;
  },
  (c.in-Ok-send.ensures _ c.put.ensures).sends,
  bytes_wrote _ _ _ (c.in-Ok-send.ensures _ c.put.ensures).sends,
)

pub returns-in-Err-send : goal.returns-in-Err-send
returns-in-Err-send g c = (
  record {
    body = c.in-Some.body.now;
    read = read_block (g.I.Source.state c.args.input.now) (g.I.Source.state c.read_front.new.input) c.read_front.new.into c.to_characters.new.bytes c.in-Some.body.now true c.in-Ok.size
        c.read_front.auto.into c.in-Ok.ensures c.to_characters.ensures.characters
        (subst (λ (r : Bool). IsMarkedBlock c.to_characters.new.bytes c.in-Some.body.now r) c.if-not-right.false c.in-Some.ensures);
    text = _;
    has_text = c.in-Some-read_text.ensures.0;
    bits = (c.in-Err-send.ensures _ c.put.ensures).bits;
    air = (c.in-Err-send.ensures _ c.put.ensures).air;
  },
  (c.in-Err-send.ensures _ c.put.ensures).sends,
  bytes_front _ _ _ (c.in-Err-send.ensures _ c.put.ensures).sends,
)
