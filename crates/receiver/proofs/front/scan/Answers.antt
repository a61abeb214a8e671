use Rattle.std.proofs.Common.{◌≡◌, ◌-◌, ◌+◌, ◌<◌, ℕ, length, drop, arith, sym, ◌∙◌, ap, subst}
use Rattle.bits.specs.Bits.{bits_of}
use Rattle.receiver.specs.Places.{NoSyncBefore}
use Rattle.receiver.specs.Stretches.{is_sync}
use Rattle.receiver.proofs.Feeding.{scan_low, scan_end, scan_window, scan_found, scan_past, scan_all}
use Rattle.receiver.proofs.front.scan.Goals as goal

pub returns-in-Some : goal.returns-in-Some
returns-in-Some c =
    let w = scan_window c.args.register.now c.args.piece.now c.from.result c.len-count.result c.number.result (c.from.ensures ∙ c.word.ensures) c.len-count.ensures.length c.requires c.number.ensures.small c.len-count.ensures.few in
    let lt : c.in-Some.k < length c.args.piece.now = omega (arith, c.in-Some.ensures.0, c.len-count.ensures.length) in
    let at : c.len-count.result - 1 - c.in-Some.k ≡ length c.args.piece.now - (c.in-Some.k + 1) = omega (arith, c.len-count.ensures.length) in
    let low = scan_low c.args.register.now c.args.piece.now _ c.number.result c.in-Some.k _ c.requires c.number.ensures.bits c.number.ensures.small w lt at in
    scan_found c.args.register.now _ c.args.piece.now _ c.in-Some.k c.requires lt
    (scan_past c.args.register.now c.args.piece.now _ c.number.result c.len-count.result c.requires c.number.ensures.bits c.number.ensures.small w c.len-count.ensures.length c.in-Some.k (omega arith) c.in-Some.ensures.2)
    (sym (ap is_sync low) ∙ c.in-Some.ensures.1) c.skip.ensures

pub returns-in-None : goal.returns-in-None
returns-in-None c =
    let w = scan_window c.args.register.now c.args.piece.now c.from.result c.len-count.result c.number.result (c.from.ensures ∙ c.word.ensures) c.len-count.ensures.length c.requires c.number.ensures.small c.len-count.ensures.few in
    let n : c.len-count.result ≡ length c.args.piece.now = c.len-count.ensures.length in
    let past = scan_past c.args.register.now c.args.piece.now _ c.number.result c.len-count.result c.requires c.number.ensures.bits c.number.ensures.small w n (length c.args.piece.now) (omega arith)
    (subst (NoSyncBefore _ c.len-count.result) n c.in-None.ensures) in
    scan_all c.args.register.now _ c.args.piece.now _
    (c.hold.ensures ∙ ap (bits_of 32) c.low_word.ensures ∙ scan_end c.args.register.now c.args.piece.now _ c.number.result c.requires c.number.ensures.bits c.number.ensures.small w)
    past (c.skip-in-None.ensures ∙ ap (λ (k : ℕ). drop k c.args.piece.now) n)
