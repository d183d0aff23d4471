-- Questions that were all answered yes.
use Rattle.std.proofs.Common.{◌≡◌, Bool, true, false, is_some, Some, None, Option, refl}
use Rattle.std.proofs.lemmas.Bool.{true≢false}
use Rattle.records.specs.Refusals.{Refusal}
use Rattle.records.specs.Questions.{ask, first_no}

pub answered : (b : Bool) (rest : Option Refusal) (e : Refusal) → is_some (ask b e rest) ≡ false → (b ≡ true) × (is_some rest ≡ false)
answered true rest e h = (refl, h)
answered false rest e h = absurd (true≢false h)

pub both_answered : (a b : Option Refusal) → is_some (first_no a b) ≡ false → (is_some a ≡ false) × (is_some b ≡ false)
both_answered None b h = (refl, h)
both_answered (Some e) b h = absurd (true≢false h)
