-- The text of a content: where there is none.
use Rattle.std.proofs.Common.{◌≡◌, ℕ, true, false, List, Result, Ok, Err, refl, sym, ◌∙◌, subst}
use Rattle.std.specs.Prelude.{IsOk, MatchResult}
use Rattle.std.specs.Result.{is_err}
use Rattle.codeword.specs.declared.functions.Function.TheVariants.{Alpha}
use Rattle.page_text.specs.Fits.{Fits}
use Rattle.tap_block.specs.declared.faults.FieldFault.{FieldFault}
use Rattle.tap_block.specs.Fields.{AreParts, HasFault, HasValue}
use Rattle.tap_block.proofs.Parts.{same_parts}
use Rattle.tap_block.proofs.Values.{fault_read, one_value, value_read}
use Rattle.one_block.specs.LoneBlock.{HasText}

-- a field with a fault has no value
no_value : (field value : List ℕ) (fault : FieldFault) → HasFault field fault → HasValue field value → ⊥
no_value field value fault h k = (let e = sym (fault_read field fault h) ∙ value_read field value k in cc)

-- the first field has no value
pub no_first : (content first second text : List ℕ) (fault : FieldFault) → AreParts content first second → HasFault first fault → HasText content text → ⊥
no_first content first second text fault p h t =
    let same = same_parts content t.fields.first t.fields.second first second t.fields.parts p in
    no_value first t.id fault h (subst (λ (f : List ℕ). HasValue f t.id) same.0 t.fields.id_is)

-- the second field has no value
pub no_second_value : (content first second text : List ℕ) (fault : FieldFault) → AreParts content first second → HasFault second fault → HasText content text → ⊥
no_second_value content first second text fault p h t =
    let same = same_parts content t.fields.first t.fields.second first second t.fields.parts p in
    no_value second text fault h (subst (λ (f : List ℕ). HasValue f text) same.1 t.fields.text_is)

-- the value of the second field doesn't fit
pub no_fit : (content first second value text : List ℕ) → AreParts content first second → HasValue second value → (Fits Alpha value → ⊥) → HasText content text → ⊥
no_fit content first second value text p v n t =
    let same = same_parts content t.fields.first t.fields.second first second t.fields.parts p in
    let one = one_value second text value (subst (λ (f : List ℕ). HasValue f text) same.1 t.fields.text_is) v in
    n (subst (λ (z : List ℕ). Fits Alpha z) one t.fits)

-- an answer that failed
pub failed_with : {T E : Type 0} (r : Result T E) (P : T → Type 0) (Q : E → Type 0) → is_err r ≡ true → MatchResult r P Q → (e : E) × Q e
failed_with (Ok x) P Q f h = cc
failed_with (Err e) P Q f h = (e, h)

pub held_with : {T E : Type 0} (r : Result T E) (P : T → Type 0) (Q : E → Type 0) → is_err r ≡ false → MatchResult r P Q → (x : T) × P x
held_with (Ok x) P Q f h = (x, h)
held_with (Err e) P Q f h = cc

pub not_ok : {T E : Type 0} (r : Result T E) → is_err r ≡ true → IsOk r → ⊥
not_ok (Ok x) f h = cc
not_ok (Err e) f h = cc

pub ok_of : {T E : Type 0} (r : Result T E) → is_err r ≡ false → IsOk r
ok_of (Ok x) f = refl
ok_of (Err e) f = cc
