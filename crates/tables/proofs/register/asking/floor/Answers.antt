use Rattle.std.proofs.Common.{◌≡◌, ℕ, ◌/◌, ◌<◌, List, [], length, nat_lt, slice_index_or, ap, ◌∙◌, arith, rules}
use Rattle.std.proofs.lemmas.Fn.{always_returns_same}
use Rattle.std.proofs.lemmas.Bool.{lt-ltb, ltb-true, ltb-false}
use Rattle.tables.specs.RegisterSearch.{key_in, key_at}
use Rattle.tables.proofs.Chunks.{chunk_at, key_in_order}
use Rattle.tables.proofs.register.asking.floor.Goals as goal

pub returns : goal.returns
returns c =
    let xs : List ℕ = c.args.bytes.now in
    let key = c.args.key in
    let zs : List (List ℕ) = c.as_chunks.result.0.now in
    let n = length xs / 12 in
    let key_of : (k : ℕ) (d : List ℕ) → k < n → key_in (slice_index_or zs k d) ≡ key_at xs k = λ k d l. ap key_in (ap (λ (ys : List (List ℕ)). slice_index_or ys k d) c.as_chunks.ensures.front ∙ chunk_at 12 n xs k d l) ∙ key_in_order xs k in
    let sides = c.partition_point.ensures.partitioned (λ r. nat_lt (key_in r) key) (always_returns_same _ _ _ (λ a r g called. (search rules, search rules)))
    (λ i j d l m h.
    let inside : j < n = omega (arith, c.as_chunks.ensures.front_len) in
    lt-ltb _ _ (omega (arith, ltb-true _ _ h, key_of i d (omega arith), key_of j d inside, c.requires i j l inside)))
    in
    record {
      within = omega (arith, c.partition_point.ensures.bound, c.as_chunks.ensures.front_len);
      below = λ k l. omega (arith, ltb-true _ _ (sides.0 k [] (omega arith) l), key_of k [] (omega (arith, c.partition_point.ensures.bound, c.as_chunks.ensures.front_len)));
      from = λ k l m. omega (arith, ltb-false _ _ (sides.1 k [] l (omega (arith, c.as_chunks.ensures.front_len))), key_of k [] m);
    }
