use Rattle.std.specs.Prelude.{ℕ, Bool, cond, List, Ok, Err, Result}
use Rattle.records.specs.Reading.{lies_in}
use Rattle.records.specs.Refusals.{Refusal}

-- What writing a body as record i and reading record i gives: the body itself, or the refusal of the writing.
abbrev pub read_back_answer : {B : Type 0} → (B → Bool) → ℕ → ℕ → B → List ℕ → Result B Refusal
read_back_answer allowed size i b xs =
    cond (lies_in size i xs) (cond (allowed b) (Ok b) (Err (30, 0))) (Err (24, 0))

-- What writing what was read as record i gives: the refusal of the reading, or 24 where record i does not lie in the bytes to write to.
abbrev pub write_back_answer : {B : Type 0} → Result B Refusal → ℕ → ℕ → List ℕ → Result Unit Refusal
write_back_answer (Ok b) size i xs = cond (lies_in size i xs) (Ok tt) (Err (24, 0))
write_back_answer (Err e) size i xs = Err e
