use Rattle.std.specs.Prelude.{ℕ, ◌+◌, ◌*◌, ◌/◌, Bool, cond, List, map, length, take, drop, Ok, Err, Result, nat_le}
use Rattle.std.specs.List.{range_with_len}
use Rattle.records.specs.Fields.{fields_in}
use Rattle.records.specs.Refusals.{Refusal}

-- Whether the whole of record i lies in the bytes, where a record takes size bytes.
abbrev pub lies_in : ℕ → ℕ → List ℕ → Bool
lies_in size i xs = nat_le (i * size + size) (length xs)

-- The bytes of record i.
abbrev pub record_at : ℕ → ℕ → List ℕ → List ℕ
record_at size i xs = take size (drop (i * size) xs)

-- The bodies of all whole records, in their order.
abbrev pub bodies : {B : Type 0} → (List ℕ → B) → ℕ → List ℕ → List B
bodies made size xs = map (λ i. made (fields_in (record_at size i xs))) (range_with_len 0 (length xs / size))

-- What reading record i gives: 29 where it does not lie in the bytes, else the body that its fields make, or 30 where its kind does not allow that body.
abbrev pub read_answer : {B : Type 0} → (List ℕ → B) → (B → Bool) → ℕ → List ℕ → ℕ → Result B Refusal
read_answer made allowed size xs i =
    let b = made (fields_in (record_at size i xs)) in
    cond (lies_in size i xs) (cond (allowed b) (Ok b) (Err (30, i))) (Err (29, i))
