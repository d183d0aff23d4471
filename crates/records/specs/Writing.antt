use Rattle.std.specs.Prelude.{ℕ, ◌+◌, Bool, cond, List, ◌++◌, length, take, drop, Ok, Err, Result, nat_le}
use Rattle.records.specs.Refusals.{Refusal}

-- Whether size bytes lie from the offset on.
abbrev pub has_space : ℕ → ℕ → List ℕ → Bool
has_space size at xs = nat_le (at + size) (length xs)

-- The bytes xs with bs in the place of those from the offset on.
abbrev pub put_at : ℕ → List ℕ → List ℕ → List ℕ
put_at at bs xs = take at xs ++ (bs ++ drop (at + length bs) xs)

-- What writing a record gives, asked in this order: 24 where its size does not lie from the offset on, 30 where its kind does not allow its body.
abbrev pub write_answer : Bool → ℕ → ℕ → List ℕ → Result Unit Refusal
write_answer allowed size at xs =
    cond (has_space size at xs) (cond allowed (Ok tt) (Err (30, 0))) (Err (24, 0))
