use Rattle.std.proofs.Common.{◌≡◌, ◌≤◌, ◌<◌, ◌+◌, ◌++◌, [], length, refl, ap, sym, ◌∙◌, subst, arith}
use Rattle.tap_terminal.specs.declared.answers.Answer.TheVariants.{Ack}
use Rattle.tap_terminal.specs.declared.answers.Reason.TheVariants.{Content}
use Rattle.tap_terminal.specs.declared.terminal.TheConstants.{LONGEST_CONTENT}
use Rattle.tap_terminal.specs.Verdict.{Verdict, refused, by_end, judge_content}
use Rattle.subscribers.specs.Directory.{directory_of}
use Rattle.tap_terminal.specs.State.{TerminalState, IsItemJudged}
use Rattle.tap_terminal.specs.StateView.{terminal_state_of}
use Rattle.tap_block.specs.Reading.{a_block}
use Rattle.tap_terminal.proofs.Verdicts.{judged_by, verdict_content, verdict_rest, goes_on_by, content_joined, content_no_end, small_body, kept_whole, refusal_done}
use Rattle.tap_terminal.proofs.Cells.{cells_gain}
use Rattle.tap_terminal.proofs.terminal.Terminal.judge_block.Goals as goal

pub returns-then-len-body-gt-LONGEST_CONTENT-clause-judged : goal.returns-then-len-body-gt-LONGEST_CONTENT-clause-judged
returns-then-len-body-gt-LONGEST_CONTENT-clause-judged c b h k =
    let f = directory_of c.args.settings.now in
    let t = terminal_state_of c.self.inside in
    let pool = c.args.pool.now in
    let size_is = c.if-length-gt-LONGEST_BODY.false in
    let body_is : c.body-body.result.now ≡ b = c.body-body.ensures.value ∙ kept_whole b t.scanner.kept c.args.length h (ap (λ (d : TerminalState). d.scanner.kept) c.self.view_is ∙ k) size_is in
    let lengths = ap length body_is in
    let big : LONGEST_CONTENT < length t.joined + length b = omega (arith, lengths, c.if-len-body-gt-LONGEST_CONTENT.true, c.len.ensures.value) in
    let told = c.refused-then-len-body-gt-LONGEST_CONTENT in
    subst (λ (d : TerminalState). IsItemJudged f d (record t { joined = c.clear-then-len-body-gt-LONGEST_CONTENT.new.self.items }) (a_block b c.args.end c.args.sum_ok) told.result pool pool) c.self.view_is
    (judged_by f t c.clear-then-len-body-gt-LONGEST_CONTENT.new.self.items b c.args.end c.args.sum_ok told.result pool pool (refused Content)
    (verdict_content f pool.spare t.joined b c.args.end c.args.sum_ok c.if-not-sum_ok.false (small_body b c.args.length h size_is) big)
    (refusal_done (refused Content) told.result pool refl told.ensures.answer told.ensures.pages) c.clear-then-len-body-gt-LONGEST_CONTENT.ensures (ap (λ (d : TerminalState). d.stage) c.self.view_is ∙ c.requires) refl)

pub returns-in-Etb-clause-judged : goal.returns-in-Etb-clause-judged
returns-in-Etb-clause-judged c b h k =
    let f = directory_of c.args.settings.now in
    let t = terminal_state_of c.self.inside in
    let pool = c.args.pool.now in
    let size_is = c.if-length-gt-LONGEST_BODY.false in
    let body_is : c.body-body.result.now ≡ b = c.body-body.ensures.value ∙ kept_whole b t.scanner.kept c.args.length h (ap (λ (d : TerminalState). d.scanner.kept) c.self.view_is ∙ k) size_is in
    let lengths = ap length body_is in
    let small : length t.joined + length b ≤ LONGEST_CONTENT = omega (arith, lengths, c.if-len-body-gt-LONGEST_CONTENT.false, c.len.ensures.value) in
    let joined_is : c.append.new.joined.items ≡ t.joined ++ b = c.append.ensures ∙ ap (λ z. t.joined ++ z) body_is in
    let v : Verdict = record { answer = Ack; joined = t.joined ++ b; pages = [] } in
    let told = c.without_pages-in-Etb in
    subst (λ (d : TerminalState). IsItemJudged f d (record t { joined = c.append.new.joined.items }) (a_block b c.args.end c.args.sum_ok) told.result pool pool) c.self.view_is
    (judged_by f t c.append.new.joined.items b c.args.end c.args.sum_ok told.result pool pool v
    (verdict_rest f pool.spare t.joined b c.args.end c.args.sum_ok c.if-not-sum_ok.false (small_body b c.args.length h size_is) small ∙ goes_on_by f pool.spare c.args.end (t.joined ++ b) c.in-Etb.is)
    (refusal_done v told.result pool refl told.ensures.answer told.ensures.pages) joined_is (ap (λ (d : TerminalState). d.stage) c.self.view_is ∙ c.requires) refl)

pub returns-in-Etx-clause-judged : goal.returns-in-Etx-clause-judged
returns-in-Etx-clause-judged c b h k =
    let f = directory_of c.args.settings.now in
    let t = terminal_state_of c.self.inside in
    let pool = c.args.pool.now in
    let after = c.judge_content-judged.new.pool in
    let size_is = c.if-length-gt-LONGEST_BODY.false in
    let body_is : c.body-body.result.now ≡ b = c.body-body.ensures.value ∙ kept_whole b t.scanner.kept c.args.length h (ap (λ (d : TerminalState). d.scanner.kept) c.self.view_is ∙ k) size_is in
    let lengths = ap length body_is in
    let small : length t.joined + length b ≤ LONGEST_CONTENT = omega (arith, lengths, c.if-len-body-gt-LONGEST_CONTENT.false, c.len.ensures.value) in
    let joined_is : c.append.new.joined.items ≡ t.joined ++ b = c.append.ensures ∙ ap (λ z. t.joined ++ z) body_is in
    let whole = c.as_slice.result.now in
    let whole_is : whole ≡ t.joined ++ b = c.as_slice.ensures.value ∙ joined_is in
    let at_end : by_end f pool.spare c.args.end (t.joined ++ b) ≡ judge_content f pool.spare whole =
    ap (λ e. by_end f pool.spare e (t.joined ++ b)) c.in-Etx.is ∙ ap (judge_content f pool.spare) (sym whole_is) in
    subst (λ (d : TerminalState). IsItemJudged f d (record t { joined = c.clear-in-Etx.new.self.items }) (a_block b c.args.end c.args.sum_ok) c.judge_content-judged.result pool after) c.self.view_is
    (judged_by f t c.clear-in-Etx.new.self.items b c.args.end c.args.sum_ok c.judge_content-judged.result pool after (judge_content f pool.spare whole)
    (verdict_rest f pool.spare t.joined b c.args.end c.args.sum_ok c.if-not-sum_ok.false (small_body b c.args.length h size_is) small ∙ at_end)
    c.judge_content-judged.ensures.done (c.clear-in-Etx.ensures ∙ sym (content_joined f pool.spare whole)) (ap (λ (d : TerminalState). d.stage) c.self.view_is ∙ c.requires) (content_no_end f pool.spare whole))

pub returns-in-Etx-clause-cells_stay : goal.returns-in-Etx-clause-cells_stay
returns-in-Etx-clause-cells_stay c = cells_gain _ _ _ c.judge_content-judged.ensures.done.pool
