use Rattle.std.proofs.Common.{sym, ◌∙◌, ap, rules}
use Rattle.receiver.specs.Stretches.{is_sync}
use Rattle.receiver.proofs.Feeding.{shows_fed, hears_fed, goes_fed, short, still_hunting, found, still_locked, joined_piece, slot, batch, lost}
use Rattle.receiver.proofs.Last.{hunting_waits, locked_waits, no_entry, no_page, still_there}
use Rattle.receiver.proofs.front.Front.feed_piece.Goals as goal

pub returns-then-not-find_sync-clause-shows : goal.returns-then-not-find_sync-clause-shows
returns-then-not-find_sync-clause-shows c = shows_fed _ _ _ _ (still_hunting _ _ _ _ _ (search rules) (c.find_sync.ensures.on (search rules)).0) _ c.self.view_is

pub returns-then-not-find_sync-clause-hears : goal.returns-then-not-find_sync-clause-hears
returns-then-not-find_sync-clause-hears c = hears_fed _ _ _ _ (still_hunting _ _ _ _ _ (search rules) (c.find_sync.ensures.on (search rules)).0) _ c.self.view_is

pub returns-then-not-self-clause-shows : goal.returns-then-not-self-clause-shows
returns-then-not-self-clause-shows c = shows_fed _ _ _ _ (found _ _ _ _ _ (search rules) c.clear.ensures (c.find_sync.ensures.finds (search rules)).0) _ c.self.view_is

pub returns-then-not-self-clause-hears : goal.returns-then-not-self-clause-hears
returns-then-not-self-clause-hears c = hears_fed _ _ _ _ (found _ _ _ _ _ (search rules) c.clear.ensures (c.find_sync.ensures.finds (search rules)).0) _ c.self.view_is

pub returns-then-not-is_full-clause-shows : goal.returns-then-not-is_full-clause-shows
returns-then-not-is_full-clause-shows c = shows_fed _ _ _ _ (still_locked _ _ _ _ _ (search rules) (joined_piece _ _ _ _ c.fill.ensures.joined c.fill.ensures.few) (short _ c.is_full.result (search rules) c.is_full.ensures.1)) _ c.self.view_is

pub returns-then-not-is_full-clause-hears : goal.returns-then-not-is_full-clause-hears
returns-then-not-is_full-clause-hears c = hears_fed _ _ _ _ (still_locked _ _ _ _ _ (search rules) (joined_piece _ _ _ _ c.fill.ensures.joined c.fill.ensures.few) (short _ c.is_full.result (search rules) c.is_full.ensures.1)) _ c.self.view_is

pub returns-then-place-lt-SLOTS-clause-shows : goal.returns-then-place-lt-SLOTS-clause-shows
returns-then-place-lt-SLOTS-clause-shows c = shows_fed _ _ _ _ (slot _ _ _ _ _ _ _ (search rules) (joined_piece _ _ _ _ c.fill.ensures.joined c.fill.ensures.few) (c.is_full.ensures.0 (search rules)) c.clear-2.ensures c.word-word.ensures c.if-place-lt-SLOTS.true) _ c.self.view_is

pub returns-then-place-lt-SLOTS-clause-hears : goal.returns-then-place-lt-SLOTS-clause-hears
returns-then-place-lt-SLOTS-clause-hears c = hears_fed _ _ _ _ (slot _ _ _ _ _ _ _ (search rules) (joined_piece _ _ _ _ c.fill.ensures.joined c.fill.ensures.few) (c.is_full.ensures.0 (search rules)) c.clear-2.ensures c.word-word.ensures c.if-place-lt-SLOTS.true) _ c.self.view_is

pub returns-then-is_sync-clause-shows : goal.returns-then-is_sync-clause-shows
returns-then-is_sync-clause-shows c = shows_fed _ _ _ _ (batch _ _ _ _ _ _ (search rules) (joined_piece _ _ _ _ c.fill.ensures.joined c.fill.ensures.few) (c.is_full.ensures.0 (search rules)) c.clear-2.ensures c.if-place-lt-SLOTS.false (sym (c.is_sync.ensures ∙ ap is_sync c.word-word.ensures) ∙ c.if-is_sync.true)) _ c.self.view_is

pub returns-then-is_sync-clause-hears : goal.returns-then-is_sync-clause-hears
returns-then-is_sync-clause-hears c = hears_fed _ _ _ _ (batch _ _ _ _ _ _ (search rules) (joined_piece _ _ _ _ c.fill.ensures.joined c.fill.ensures.few) (c.is_full.ensures.0 (search rules)) c.clear-2.ensures c.if-place-lt-SLOTS.false (sym (c.is_sync.ensures ∙ ap is_sync c.word-word.ensures) ∙ c.if-is_sync.true)) _ c.self.view_is

pub returns-else-is_sync-clause-shows : goal.returns-else-is_sync-clause-shows
returns-else-is_sync-clause-shows c = shows_fed _ _ _ _ (lost _ _ _ _ _ _ (search rules) (joined_piece _ _ _ _ c.fill.ensures.joined c.fill.ensures.few) (c.is_full.ensures.0 (search rules)) c.clear-2.ensures c.if-place-lt-SLOTS.false (sym (c.is_sync.ensures ∙ ap is_sync c.word-word.ensures) ∙ c.if-is_sync.false)) _ c.self.view_is

pub returns-else-is_sync-clause-hears : goal.returns-else-is_sync-clause-hears
returns-else-is_sync-clause-hears c = hears_fed _ _ _ _ (lost _ _ _ _ _ _ (search rules) (joined_piece _ _ _ _ c.fill.ensures.joined c.fill.ensures.few) (c.is_full.ensures.0 (search rules)) c.clear-2.ensures c.if-place-lt-SLOTS.false (sym (c.is_sync.ensures ∙ ap is_sync c.word-word.ensures) ∙ c.if-is_sync.false)) _ c.self.view_is

pub returns-then-not-find_sync-clause-last_entry : goal.returns-then-not-find_sync-clause-last_entry
returns-then-not-find_sync-clause-last_entry c = no_entry _ _ (hunting_waits _ _ _ _ _ _ _ (search rules) c.find_sync.ensures) _ c.self.view_is

pub returns-then-not-find_sync-clause-last_page : goal.returns-then-not-find_sync-clause-last_page
returns-then-not-find_sync-clause-last_page c = no_page _ _ (hunting_waits _ _ _ _ _ _ _ (search rules) c.find_sync.ensures) _ c.self.view_is

pub returns-then-not-self-clause-last_entry : goal.returns-then-not-self-clause-last_entry
returns-then-not-self-clause-last_entry c = no_entry _ _ (hunting_waits _ _ _ _ _ _ _ (search rules) c.find_sync.ensures) _ c.self.view_is

pub returns-then-not-self-clause-last_page : goal.returns-then-not-self-clause-last_page
returns-then-not-self-clause-last_page c = no_page _ _ (hunting_waits _ _ _ _ _ _ _ (search rules) c.find_sync.ensures) _ c.self.view_is

pub returns-then-not-is_full-clause-last_entry : goal.returns-then-not-is_full-clause-last_entry
returns-then-not-is_full-clause-last_entry c = no_entry _ _ (locked_waits _ _ _ _ _ (search rules) (joined_piece _ _ _ _ c.fill.ensures.joined c.fill.ensures.few)) _ c.self.view_is

pub returns-then-not-is_full-clause-last_page : goal.returns-then-not-is_full-clause-last_page
returns-then-not-is_full-clause-last_page c = no_page _ _ (locked_waits _ _ _ _ _ (search rules) (joined_piece _ _ _ _ c.fill.ensures.joined c.fill.ensures.few)) _ c.self.view_is

pub returns-then-place-lt-SLOTS-clause-last_entry : goal.returns-then-place-lt-SLOTS-clause-last_entry
returns-then-place-lt-SLOTS-clause-last_entry c = no_entry _ _ (locked_waits _ _ _ _ _ (search rules) (joined_piece _ _ _ _ c.fill.ensures.joined c.fill.ensures.few)) _ c.self.view_is

pub returns-then-place-lt-SLOTS-clause-last_page : goal.returns-then-place-lt-SLOTS-clause-last_page
returns-then-place-lt-SLOTS-clause-last_page c = no_page _ _ (locked_waits _ _ _ _ _ (search rules) (joined_piece _ _ _ _ c.fill.ensures.joined c.fill.ensures.few)) _ c.self.view_is

pub returns-then-is_sync-clause-last_entry : goal.returns-then-is_sync-clause-last_entry
returns-then-is_sync-clause-last_entry c = no_entry _ _ (locked_waits _ _ _ _ _ (search rules) (joined_piece _ _ _ _ c.fill.ensures.joined c.fill.ensures.few)) _ c.self.view_is

pub returns-then-is_sync-clause-last_page : goal.returns-then-is_sync-clause-last_page
returns-then-is_sync-clause-last_page c = no_page _ _ (locked_waits _ _ _ _ _ (search rules) (joined_piece _ _ _ _ c.fill.ensures.joined c.fill.ensures.few)) _ c.self.view_is

pub returns-else-is_sync-clause-last_entry : goal.returns-else-is_sync-clause-last_entry
returns-else-is_sync-clause-last_entry c = no_entry _ _ (locked_waits _ _ _ _ _ (search rules) (joined_piece _ _ _ _ c.fill.ensures.joined c.fill.ensures.few)) _ c.self.view_is

pub returns-else-is_sync-clause-last_page : goal.returns-else-is_sync-clause-last_page
returns-else-is_sync-clause-last_page c = no_page _ _ (locked_waits _ _ _ _ _ (search rules) (joined_piece _ _ _ _ c.fill.ensures.joined c.fill.ensures.few)) _ c.self.view_is

pub returns-then-not-find_sync-clause-goes : goal.returns-then-not-find_sync-clause-goes
returns-then-not-find_sync-clause-goes c = goes_fed _ _ _ _ (still_hunting _ _ _ _ _ (search rules) (c.find_sync.ensures.on (search rules)).0) _ c.self.view_is

pub returns-then-not-self-clause-goes : goal.returns-then-not-self-clause-goes
returns-then-not-self-clause-goes c = goes_fed _ _ _ _ (found _ _ _ _ _ (search rules) c.clear.ensures (c.find_sync.ensures.finds (search rules)).0) _ c.self.view_is

pub returns-then-not-is_full-clause-goes : goal.returns-then-not-is_full-clause-goes
returns-then-not-is_full-clause-goes c = goes_fed _ _ _ _ (still_locked _ _ _ _ _ (search rules) (joined_piece _ _ _ _ c.fill.ensures.joined c.fill.ensures.few) (short _ c.is_full.result (search rules) c.is_full.ensures.1)) _ c.self.view_is

pub returns-then-place-lt-SLOTS-clause-goes : goal.returns-then-place-lt-SLOTS-clause-goes
returns-then-place-lt-SLOTS-clause-goes c = goes_fed _ _ _ _ (slot _ _ _ _ _ _ _ (search rules) (joined_piece _ _ _ _ c.fill.ensures.joined c.fill.ensures.few) (c.is_full.ensures.0 (search rules)) c.clear-2.ensures c.word-word.ensures c.if-place-lt-SLOTS.true) _ c.self.view_is

pub returns-then-is_sync-clause-goes : goal.returns-then-is_sync-clause-goes
returns-then-is_sync-clause-goes c = goes_fed _ _ _ _ (batch _ _ _ _ _ _ (search rules) (joined_piece _ _ _ _ c.fill.ensures.joined c.fill.ensures.few) (c.is_full.ensures.0 (search rules)) c.clear-2.ensures c.if-place-lt-SLOTS.false (sym (c.is_sync.ensures ∙ ap is_sync c.word-word.ensures) ∙ c.if-is_sync.true)) _ c.self.view_is

pub returns-else-is_sync-clause-goes : goal.returns-else-is_sync-clause-goes
returns-else-is_sync-clause-goes c = goes_fed _ _ _ _ (lost _ _ _ _ _ _ (search rules) (joined_piece _ _ _ _ c.fill.ensures.joined c.fill.ensures.few) (c.is_full.ensures.0 (search rules)) c.clear-2.ensures c.if-place-lt-SLOTS.false (sym (c.is_sync.ensures ∙ ap is_sync c.word-word.ensures) ∙ c.if-is_sync.false)) _ c.self.view_is

pub returns-then-not-find_sync-clause-last_goes : goal.returns-then-not-find_sync-clause-last_goes
returns-then-not-find_sync-clause-last_goes c = still_there _ _ (hunting_waits _ _ _ _ _ _ _ (search rules) c.find_sync.ensures) _ c.self.view_is

pub returns-then-not-self-clause-last_goes : goal.returns-then-not-self-clause-last_goes
returns-then-not-self-clause-last_goes c = still_there _ _ (hunting_waits _ _ _ _ _ _ _ (search rules) c.find_sync.ensures) _ c.self.view_is

pub returns-then-not-is_full-clause-last_goes : goal.returns-then-not-is_full-clause-last_goes
returns-then-not-is_full-clause-last_goes c = still_there _ _ (locked_waits _ _ _ _ _ (search rules) (joined_piece _ _ _ _ c.fill.ensures.joined c.fill.ensures.few)) _ c.self.view_is

pub returns-then-place-lt-SLOTS-clause-last_goes : goal.returns-then-place-lt-SLOTS-clause-last_goes
returns-then-place-lt-SLOTS-clause-last_goes c = still_there _ _ (locked_waits _ _ _ _ _ (search rules) (joined_piece _ _ _ _ c.fill.ensures.joined c.fill.ensures.few)) _ c.self.view_is

pub returns-then-is_sync-clause-last_goes : goal.returns-then-is_sync-clause-last_goes
returns-then-is_sync-clause-last_goes c = still_there _ _ (locked_waits _ _ _ _ _ (search rules) (joined_piece _ _ _ _ c.fill.ensures.joined c.fill.ensures.few)) _ c.self.view_is

pub returns-else-is_sync-clause-last_goes : goal.returns-else-is_sync-clause-last_goes
returns-else-is_sync-clause-last_goes c = still_there _ _ (locked_waits _ _ _ _ _ (search rules) (joined_piece _ _ _ _ c.fill.ensures.joined c.fill.ensures.few)) _ c.self.view_is
