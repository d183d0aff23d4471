-- The records of some bytes, as chunks.
use Rattle.std.proofs.Common.{◌≡◌, ℕ, zero, suc, ◌+◌, ◌*◌, ◌<◌, List, take, drop, slice_index_or, refl, ap, ◌∙◌, arith, add-mul, one-mul, zero-mul}
use Rattle.std.specs.Simd.{first_chunks}
use Rattle.std.proofs.lemmas.List.{drop-drop}
use Rattle.records.specs.Reading.{record_at}
use Rattle.tables.specs.RegisterSearch.{triple_at, key_in, key_at}

pub chunk_at : {X : Type 0} (n c : ℕ) (xs : List X) (k : ℕ) (d : List X) → k < c → slice_index_or (first_chunks n c xs) k d ≡ take n (drop (k * n) xs)
chunk_at n zero xs k d l = absurd (omega arith)
chunk_at n (suc c) xs zero d l = let q : 0 ≡ 0 * n = omega (arith, zero-mul n) in ap (λ (j : ℕ). take n (drop j xs)) q
chunk_at n (suc c) xs (suc k) d l =
    let q : n + k * n ≡ suc k * n = omega (arith, add-mul 1 k n, one-mul n) in
    chunk_at n c (drop n xs) k d (omega arith) ∙ ap (take n) (drop-drop (k * n) n xs) ∙ ap (λ (j : ℕ). take n (drop j xs)) q

-- the key of a triple is that of its record
pub key_in_order : (xs : List ℕ) (k : ℕ) → key_in (record_at 12 k xs) ≡ key_at xs k
unfolding triple_at
key_in_order xs k = refl
