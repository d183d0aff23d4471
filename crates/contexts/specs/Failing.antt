-- Where no word fails its test, each passes. It stands here and not in proofs/, as Books cites it: specs/ can cite nothing of its own crate's proofs/.
use Rattle.std.specs.Prelude.{◌≡◌, ℕ, zero, suc, ◌+◌, ◌<◌, ◌≤◌, Bool, true, false, is_some}
use Rattle.std.proofs.Common.{ap, arith}
use Rattle.std.proofs.lemmas.Bool.Decides.{nat_tests}
use Rattle.contexts.specs.BookOpening.{first_failing}

pub all_pass : (number : ℕ) (test : ℕ → Bool) (a n : ℕ) → is_some (first_failing number test a n) ≡ false → (i : ℕ) → a ≤ i → i < a + n → test i ≡ true
all_pass number test a zero h i l u = absurd (omega arith)
all_pass number test a (suc n) h i l u =
    grind (arith, nat_tests, λ (same : i ≡ a). ap test same, λ (p : is_some (first_failing number test (a + 1) n) ≡ false) (more : a < i). all_pass number test (a + 1) n p i (omega arith) (omega arith))
