-- What clients mark Sent is what receivers hear.
use Rattle.std.proofs.Common.{◌≡◌, ℕ, List, [], ◌∷◌, ◌++◌, Option, Ok, refl, sym, ◌∙◌, ap, ap₂}
use Rattle.std.proofs.lemmas.List.Elements.{All-nil, All-cons}
use Rattle.std.specs.Prelude.{All}
use Rattle.page_text.specs.Page.{Page as Accepted, IsAcceptable}
use Rattle.subscribers.specs.Parts.{Parts, Target}
use Rattle.subscribers.specs.Settings.{settings_of}
use Rattle.subscribers.specs.Directory.{Directory, directory_of}
use Rattle.tap_entry.specs.Client.{PageToSend}
use Rattle.serving.specs.Protocols.{tap}
use Rattle.station.proofs.ProtocolSessions.{are_acceptable}
use Rattle.both_ends.proofs.BothEnds.{both_ends}
use Rattle.near.proofs.NearAir.{near_air}
use Rattle.station.specs.Delivered.{Call, Delivered, accepted_by, pages_for, pages_of_target, sent_by}
use Rattle.both_ends.specs.Joined.{AreForAll, sent_of}
use Rattle.near.specs.NearAir.{joined}
use Rattle.receiver.specs.Shown.{pages_in, pages_of_frame}

-- pages that are those of a client's are the client's, as pages to the capcodes of their ids
AreForAll-pages_for : (directory : Directory) (pages : List PageToSend) (accepted : List Accepted) → AreForAll directory pages accepted → accepted ≡ pages_for directory pages
AreForAll-pages_for directory [] accepted h = h
AreForAll-pages_for directory (p ∷ pages) accepted (own, others, cut, are, rest) =
    cut
    ∙ ap₂ (λ (x y : List Accepted). x ++ y) are.pages_are (AreForAll-pages_for directory pages others rest)
    ∙ sym (ap (λ (o : Option Target). pages_of_target o p.text ++ pages_for directory pages) are.known)

-- what a call accepted is what its client marks Sent
accepted-sent : {settings : Parts} {spare : ℕ} (call : Call settings spare) → call.session.pages ≡ pages_for (directory_of settings) (sent_of call.pages call.outcomes)
accepted-sent {settings = settings} {spare = spare} call =
    AreForAll-pages_for (directory_of settings) (sent_of call.pages call.outcomes) call.session.pages
    (both_ends call.password settings.password (directory_of settings) spare call.pages call.replied call.said call.marks call.outcomes call.session
    call.are_pages call.is_password call.marks_are call.client call.session_is call.replies_are)

joined-sent : {settings : Parts} {spare : ℕ} (calls : List (Call settings spare)) → joined (accepted_by calls) ≡ sent_by calls
joined-sent [] = refl
joined-sent (call ∷ calls) = ap₂ (λ (x y : List Accepted). x ++ y) (accepted-sent call) (joined-sent calls)

acceptable_by : (bytes : List ℕ) {settings : Parts} {spare : ℕ} (calls : List (Call settings spare)) → settings_of bytes ≡ Ok settings → All (All IsAcceptable) (accepted_by calls)
acceptable_by bytes [] h = All-nil (All IsAcceptable)
acceptable_by bytes {settings = settings} {spare = spare} (call ∷ calls) h =
    All-cons (All IsAcceptable) call.session.pages (accepted_by calls) (are_acceptable tap bytes settings spare call.said call.session h call.session_is) (acceptable_by bytes calls h)

pub delivered : Delivered
delivered bytes settings spare calls listens bits h usable near set f within =
    near_air listens (accepted_by calls) bits usable (acceptable_by bytes calls h) near set f within
    ∙ ap (λ (pages : List Accepted). pages_of_frame f (pages_in set pages)) (joined-sent calls)
