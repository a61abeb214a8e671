use Rattle.std.proofs.Common.{sym, ◌∙◌, ap, arith, length, length-append, ◌∷◌, ◌++◌, [], take}
use Rattle.entry_line.specs.Chars.{cr}
use Rattle.tap_block.specs.Fields.{HasFault, HasValue}
use Rattle.one_block.proofs.ReadTexts.{failed_with, held_with, no_first, no_fit, no_second_value, not_ok, ok_of}
use Rattle.one_block.proofs.one_page.read_text.Goals as goal

pub returns-then-is_err : goal.returns-then-is_err
returns-then-is_err c text h =
    let f = failed_with c.unescape.result _ (λ fault. HasFault c.in-Some.id.now fault) (sym c.is_err.ensures.value ∙ c.if-is_err.true) c.unescape.ensures.value in
    no_first c.args.content.now c.in-Some.id.now c.in-Some.text.now text f.0 c.in-Some.ensures f.1 h

pub returns-in_default-unescape : goal.returns-in_default-unescape
returns-in_default-unescape c text h =
    no_second_value c.args.content.now c.in-Some.id.now c.in-Some.text.now text _ c.in-Some.ensures c.in_default-unescape.ensures.value h

pub returns-then-is_err-2 : goal.returns-then-is_err-2
returns-then-is_err-2 c text h =
    no_fit c.args.content.now c.in-Some.id.now c.in-Some.text.now (take c.in-Ok.size c.unescape-2.new.into) text c.in-Some.ensures c.in-Ok.ensures.value
    (λ fits. not_ok c.fits.result (sym c.is_err-2.ensures.value ∙ c.if-is_err-2.true) (c.fits.ensures.fits.1 fits)) h

pub returns : goal.returns
returns c =
    let id = held_with c.unescape.result (λ n. HasValue c.in-Some.id.now (take n c.unescape.new.into)) _ (sym c.is_err.ensures.value ∙ c.if-is_err.false) c.unescape.ensures.value in (
      record {
        id = take id.0 c.unescape.new.into;
        fields = record { first = c.in-Some.id.now; second = c.in-Some.text.now; parts = c.in-Some.ensures; id_is = id.1; text_is = c.in-Ok.ensures.value };
        fits = c.fits.ensures.fits.0 (ok_of c.fits.result (sym c.is_err-2.ensures.value ∙ c.if-is_err-2.false));
      },
      omega (arith, c.in-Ok.ensures.fits, ap length c.in-Some.ensures.form, length-append c.in-Some.id.now (cr ∷ (c.in-Some.text.now ++ cr ∷ [])), length-append c.in-Some.text.now (cr ∷ [])),
    )
