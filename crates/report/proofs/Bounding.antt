-- The greatest of a number of triples, one triple after another.
use Rattle.std.proofs.Common.{◌≡◌, ℕ, ◌+◌, ◌<◌, ◌≤◌, max, List, length, get_or, drop, sym, ap, ◌∙◌, arith}
use Rattle.std.proofs.lemmas.List.{at_drop_more, at_drop_all}
use Rattle.records.specs.declared.kinds.triple.Triple.{Triple}
use Rattle.report.specs.Registers.{past_greatest}

max_of_three : (a b c : ℕ) → max (max a b) c ≡ max a (max b c)
max_of_three a b c = omega arith

pub bound_more : (number : Triple → ℕ) (ts : List Triple) (i b n : ℕ) (d : Triple) → i < length ts → n ≡ max b (number (get_or ts i d) + 1) → max b (past_greatest number (drop i ts)) ≡ past_greatest number ts → max n (past_greatest number (drop (i + 1) ts)) ≡ past_greatest number ts
bound_more number ts i b n d h e inv =
    let rest = past_greatest number (drop (i + 1) ts) in
    ap (λ (k : ℕ). max k rest) e
    ∙ max_of_three b (number (get_or ts i d) + 1) rest
    ∙ ap (λ (k : ℕ). max b k) (sym (at_drop_more (past_greatest number) ts i d h))
    ∙ inv

pub bound_all : (number : Triple → ℕ) (ts : List Triple) (i b : ℕ) → length ts ≤ i → max b (past_greatest number (drop i ts)) ≡ past_greatest number ts → b ≡ past_greatest number ts
bound_all number ts i b h inv =
    let none : past_greatest number (drop i ts) ≡ 0 = at_drop_all (past_greatest number) ts i h in
    omega (arith, none, inv)
