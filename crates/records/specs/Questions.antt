use Rattle.std.specs.Prelude.{◌≡◌, Bool, cond, Some, None, Ok, Err, Option, Result, MatchResult}
use Rattle.records.specs.Refusals.{Refusal}

-- A question asked before the rest: where its test fails it answers with its refusal, else the rest is asked.
abbrev pub ask : Bool → Refusal → Option Refusal → Option Refusal
ask test refusal rest = cond test rest (Some refusal)

-- The first of two refusals.
abbrev pub first_no : Option Refusal → Option Refusal → Option Refusal
first_no None later = later
first_no (Some refusal) later = Some refusal

-- The answer of a call that refuses by its first no, and that does its work where there is none.
abbrev pub answer_by : Option Refusal → Result Unit Refusal
answer_by None = Ok tt
answer_by (Some refusal) = Err refusal

-- What a check answers: nothing where no question refused, else the fault of the first that did.
abbrev pub Checked : {E : Type 0} → (E → Refusal) → Option Refusal → Result Unit E → Type 0
Checked refusal first r = MatchResult r (λ _. first ≡ None) (λ e. first ≡ Some (refusal e))
