use Rattle.std.proofs.Common.{sym, ◌∙◌, ap, rules}
use Rattle.receiver.specs.Stretches.{is_sync}
use Rattle.receiver.proofs.Feeding.{shows_fed, hears_fed, goes_fed, short, still_short, still_hunting, hunts_full, found, finds_full, joined_one, slot, batch, lost}
use Rattle.receiver.proofs.front.Front.feed.Goals as goal

pub returns-then-not-is_full-clause-shows : goal.returns-then-not-is_full-clause-shows
returns-then-not-is_full-clause-shows c = shows_fed _ _ _ _ (still_short _ _ _ _ _ c.push.ensures c.self.invariant.1 (short _ c.is_full.result (search rules) c.is_full.ensures.1)) _ c.self.view_is

pub returns-then-not-is_full-clause-hears : goal.returns-then-not-is_full-clause-hears
returns-then-not-is_full-clause-hears c = hears_fed _ _ _ _ (still_short _ _ _ _ _ c.push.ensures c.self.invariant.1 (short _ c.is_full.result (search rules) c.is_full.ensures.1)) _ c.self.view_is

pub returns-then-not-is_sync-clause-shows : goal.returns-then-not-is_sync-clause-shows
returns-then-not-is_sync-clause-shows c = shows_fed _ _ _ _ (still_hunting _ _ _ _ _ (search rules) (hunts_full _ _ _ c.push.ensures (c.is_full.ensures.0 (search rules)) (sym (c.is_sync.ensures ∙ ap is_sync c.word-word.ensures) ∙ (search rules)))) _ c.self.view_is

pub returns-then-not-is_sync-clause-hears : goal.returns-then-not-is_sync-clause-hears
returns-then-not-is_sync-clause-hears c = hears_fed _ _ _ _ (still_hunting _ _ _ _ _ (search rules) (hunts_full _ _ _ c.push.ensures (c.is_full.ensures.0 (search rules)) (sym (c.is_sync.ensures ∙ ap is_sync c.word-word.ensures) ∙ (search rules)))) _ c.self.view_is

pub returns-then-not-self-clause-shows : goal.returns-then-not-self-clause-shows
returns-then-not-self-clause-shows c = shows_fed _ _ _ _ (found _ _ _ _ _ (search rules) c.clear.ensures (finds_full _ _ _ c.push.ensures (c.is_full.ensures.0 (search rules)) (sym (c.is_sync.ensures ∙ ap is_sync c.word-word.ensures) ∙ (search rules)))) _ c.self.view_is

pub returns-then-not-self-clause-hears : goal.returns-then-not-self-clause-hears
returns-then-not-self-clause-hears c = hears_fed _ _ _ _ (found _ _ _ _ _ (search rules) c.clear.ensures (finds_full _ _ _ c.push.ensures (c.is_full.ensures.0 (search rules)) (sym (c.is_sync.ensures ∙ ap is_sync c.word-word.ensures) ∙ (search rules)))) _ c.self.view_is

pub returns-then-place-lt-SLOTS-clause-shows : goal.returns-then-place-lt-SLOTS-clause-shows
returns-then-place-lt-SLOTS-clause-shows c = shows_fed _ _ _ _ (slot _ _ _ _ _ _ _ (search rules) (joined_one _ _ _ (c.self.invariant.1 (search rules)) c.push.ensures) (c.is_full.ensures.0 (search rules)) c.clear-2.ensures c.word-word.ensures c.if-place-lt-SLOTS.true) _ c.self.view_is

pub returns-then-place-lt-SLOTS-clause-hears : goal.returns-then-place-lt-SLOTS-clause-hears
returns-then-place-lt-SLOTS-clause-hears c = hears_fed _ _ _ _ (slot _ _ _ _ _ _ _ (search rules) (joined_one _ _ _ (c.self.invariant.1 (search rules)) c.push.ensures) (c.is_full.ensures.0 (search rules)) c.clear-2.ensures c.word-word.ensures c.if-place-lt-SLOTS.true) _ c.self.view_is

pub returns-then-is_sync-clause-shows : goal.returns-then-is_sync-clause-shows
returns-then-is_sync-clause-shows c = shows_fed _ _ _ _ (batch _ _ _ _ _ _ (search rules) (joined_one _ _ _ (c.self.invariant.1 (search rules)) c.push.ensures) (c.is_full.ensures.0 (search rules)) c.clear-2.ensures c.if-place-lt-SLOTS.false (sym (c.is_sync-else-place-lt-SLOTS.ensures ∙ ap is_sync c.word-word.ensures) ∙ c.if-is_sync.true)) _ c.self.view_is

pub returns-then-is_sync-clause-hears : goal.returns-then-is_sync-clause-hears
returns-then-is_sync-clause-hears c = hears_fed _ _ _ _ (batch _ _ _ _ _ _ (search rules) (joined_one _ _ _ (c.self.invariant.1 (search rules)) c.push.ensures) (c.is_full.ensures.0 (search rules)) c.clear-2.ensures c.if-place-lt-SLOTS.false (sym (c.is_sync-else-place-lt-SLOTS.ensures ∙ ap is_sync c.word-word.ensures) ∙ c.if-is_sync.true)) _ c.self.view_is

pub returns-else-is_sync-clause-shows : goal.returns-else-is_sync-clause-shows
returns-else-is_sync-clause-shows c = shows_fed _ _ _ _ (lost _ _ _ _ _ _ (search rules) (joined_one _ _ _ (c.self.invariant.1 (search rules)) c.push.ensures) (c.is_full.ensures.0 (search rules)) c.clear-2.ensures c.if-place-lt-SLOTS.false (sym (c.is_sync-else-place-lt-SLOTS.ensures ∙ ap is_sync c.word-word.ensures) ∙ c.if-is_sync.false)) _ c.self.view_is

pub returns-else-is_sync-clause-hears : goal.returns-else-is_sync-clause-hears
returns-else-is_sync-clause-hears c = hears_fed _ _ _ _ (lost _ _ _ _ _ _ (search rules) (joined_one _ _ _ (c.self.invariant.1 (search rules)) c.push.ensures) (c.is_full.ensures.0 (search rules)) c.clear-2.ensures c.if-place-lt-SLOTS.false (sym (c.is_sync-else-place-lt-SLOTS.ensures ∙ ap is_sync c.word-word.ensures) ∙ c.if-is_sync.false)) _ c.self.view_is

pub returns-then-not-is_full-clause-goes : goal.returns-then-not-is_full-clause-goes
returns-then-not-is_full-clause-goes c = goes_fed _ _ _ _ (still_short _ _ _ _ _ c.push.ensures c.self.invariant.1 (short _ c.is_full.result (search rules) c.is_full.ensures.1)) _ c.self.view_is

pub returns-then-not-is_sync-clause-goes : goal.returns-then-not-is_sync-clause-goes
returns-then-not-is_sync-clause-goes c = goes_fed _ _ _ _ (still_hunting _ _ _ _ _ (search rules) (hunts_full _ _ _ c.push.ensures (c.is_full.ensures.0 (search rules)) (sym (c.is_sync.ensures ∙ ap is_sync c.word-word.ensures) ∙ (search rules)))) _ c.self.view_is

pub returns-then-not-self-clause-goes : goal.returns-then-not-self-clause-goes
returns-then-not-self-clause-goes c = goes_fed _ _ _ _ (found _ _ _ _ _ (search rules) c.clear.ensures (finds_full _ _ _ c.push.ensures (c.is_full.ensures.0 (search rules)) (sym (c.is_sync.ensures ∙ ap is_sync c.word-word.ensures) ∙ (search rules)))) _ c.self.view_is

pub returns-then-place-lt-SLOTS-clause-goes : goal.returns-then-place-lt-SLOTS-clause-goes
returns-then-place-lt-SLOTS-clause-goes c = goes_fed _ _ _ _ (slot _ _ _ _ _ _ _ (search rules) (joined_one _ _ _ (c.self.invariant.1 (search rules)) c.push.ensures) (c.is_full.ensures.0 (search rules)) c.clear-2.ensures c.word-word.ensures c.if-place-lt-SLOTS.true) _ c.self.view_is

pub returns-then-is_sync-clause-goes : goal.returns-then-is_sync-clause-goes
returns-then-is_sync-clause-goes c = goes_fed _ _ _ _ (batch _ _ _ _ _ _ (search rules) (joined_one _ _ _ (c.self.invariant.1 (search rules)) c.push.ensures) (c.is_full.ensures.0 (search rules)) c.clear-2.ensures c.if-place-lt-SLOTS.false (sym (c.is_sync-else-place-lt-SLOTS.ensures ∙ ap is_sync c.word-word.ensures) ∙ c.if-is_sync.true)) _ c.self.view_is

pub returns-else-is_sync-clause-goes : goal.returns-else-is_sync-clause-goes
returns-else-is_sync-clause-goes c = goes_fed _ _ _ _ (lost _ _ _ _ _ _ (search rules) (joined_one _ _ _ (c.self.invariant.1 (search rules)) c.push.ensures) (c.is_full.ensures.0 (search rules)) c.clear-2.ensures c.if-place-lt-SLOTS.false (sym (c.is_sync-else-place-lt-SLOTS.ensures ∙ ap is_sync c.word-word.ensures) ∙ c.if-is_sync.false)) _ c.self.view_is
