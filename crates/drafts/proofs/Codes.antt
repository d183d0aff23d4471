-- Conditions at their places, and the code that grows with each of them.
use Rattle.std.specs.Prelude.{◌≡◌, ℕ, zero, suc, ◌+◌, ◌*◌, ◌^◌, ◌<◌, ◌≤◌, Bool, true, false, cond, List, [], ◌∷◌, ◌++◌, length, slice_index_or, refl}
use Rattle.std.specs.Iterator.{Yields}
use Rattle.std.proofs.Common.{Some, Iter, Bor, sym, ap, ◌∙◌, arith, add-one, pow_mono}
use Rattle.std.proofs.lemmas.Fn.{fronts}
use Rattle.std.proofs.lemmas.List.{length_push}
use mir.Val.{bool_byte}
use Rattle.lattice.specs.Sets.{code_of}
use Rattle.lattice.proofs.Conditions.{code_of_below, code_of_more}
use Rattle.tables.specs.Meaning.{Meaning}
use Rattle.drafts.specs.Comparisons.{comparison_holds}
use Rattle.drafts.specs.Live.{holds_at, live_code}
use Rattle.drafts.specs.declared.comparison.Comparison.{Comparison}

pub holds_at_read : (l r : Meaning) (cs : List Comparison) (s t i : ℕ) (d : Comparison) → i < length cs → holds_at l r cs s t i ≡ comparison_holds l r (slice_index_or cs i d) s t
holds_at_read l r [] s t i d h = absurd (omega arith)
holds_at_read l r (c ∷ cs) s t zero d h = refl
holds_at_read l r (c ∷ cs) s t (suc i) d h = holds_at_read l r cs s t i d (omega arith)

-- A test as a number.
pub byte_is : (b : Bool) → bool_byte b ≡ cond b 1 0
byte_is true = refl
byte_is false = refl

pub byte_small : (b : Bool) → bool_byte b ≤ 1
byte_small true = omega arith
byte_small false = omega arith

-- One more condition.
pub code_more : (test : ℕ → Bool) (i code n : ℕ) (b : Bool) → code ≡ code_of i test → b ≡ test i → n ≡ cond b 1 0 → code * 2 + n ≡ code_of (i + 1) test
code_more test i code n b e f k =
    let same : ◌≡◌ {A = ℕ} (cond b 1 0) (cond (test i) 1 0) = ap (λ (v : Bool). cond v 1 0) f in
    omega (arith, e, k, same, code_of_more i test)

pub code_next : (l r : Meaning) (cs : List Comparison) (s t i : ℕ) (d : Comparison) (code : ℕ) (b : Bool) (n : ℕ) → i < length cs → code ≡ code_of i (holds_at l r cs s t) → b ≡ comparison_holds l r (slice_index_or cs i d) s t → n ≡ bool_byte b → code * 2 + n ≡ code_of (i + 1) (holds_at l r cs s t)
code_next l r cs s t i d code b n h e f k =
    code_more (holds_at l r cs s t) i code n b e (f ∙ sym (holds_at_read l r cs s t i d h)) (k ∙ byte_is b)

-- A code of fewer than 64 conditions can be doubled, and one added.
pub code_small : (i : ℕ) (test : ℕ → Bool) (code : ℕ) → i < 64 → code ≡ code_of i test → code * 2 + 1 < 2 ^ 64
code_small i test code h e = omega (arith, code_of_below i test, pow_mono {i = i} {j = 63} (omega arith))

-- Only the tests of the conditions count.
code_same : (k : ℕ) (p q : ℕ → Bool) → ((i : ℕ) → i < k → p i ≡ q i) → code_of k p ≡ code_of k q
unfolding code_of
code_same zero p q h = refl
code_same (suc k) p q h =
    let one : ◌≡◌ {A = ℕ} (cond (p k) 1 0) (cond (q k) 1 0) = ap (λ (b : Bool). cond b 1 0) (h k (omega arith)) in
    let before = code_same k p q (λ i e. h i (omega (arith, e))) in
    ap (λ (n : ℕ). code_of n p) (sym (add-one k)) ∙ omega (arith, code_of_more k p, code_of_more k q, before, one) ∙ ap (λ (n : ℕ). code_of n q) (add-one k)

holds_before : (l r : Meaning) (cs : List Comparison) (d : Comparison) (s t i : ℕ) → i < length cs → holds_at l r (cs ++ d ∷ []) s t i ≡ holds_at l r cs s t i
holds_before l r [] d s t i h = absurd (omega arith)
holds_before l r (c ∷ cs) d s t zero h = refl
holds_before l r (c ∷ cs) d s t (suc i) h = holds_before l r cs d s t i (omega arith)

holds_last : (l r : Meaning) (cs : List Comparison) (d : Comparison) (s t : ℕ) → holds_at l r (cs ++ d ∷ []) s t (length cs) ≡ comparison_holds l r d s t
holds_last l r [] d s t = refl
holds_last l r (c ∷ cs) d s t = holds_last l r cs d s t

-- One more comparison.
pub code_push : (l r : Meaning) (cs : List Comparison) (d : Comparison) (s t code : ℕ) → code ≡ live_code l r cs s t → code * 2 + bool_byte (comparison_holds l r d s t) ≡ live_code l r (cs ++ d ∷ []) s t
code_push l r cs d s t code e =
    let all = holds_at l r (cs ++ d ∷ []) s t in
    let before = code_same (length cs) all (holds_at l r cs s t) (λ i h. holds_before l r cs d s t i h) in
    code_more all (length cs) code _ (comparison_holds l r d s t) (e ∙ sym before) (sym (holds_last l r cs d s t)) (byte_is _)
    ∙ ap (λ (n : ℕ). code_of n all) (sym (length_push cs d))

-- Where a slice gives an item, it gave fewer before than it has.
pub fewer_before : {A : Type 0} (xs : List (Bor A)) (s t : Iter A) (x : Bor A) (u : Iter A) → Yields fronts s xs t → fronts t (Some x) u → length xs < length s.rest.now
fewer_before [] s t x u y e = omega (arith, ap length e, ap (λ k. length k.rest.now) y)
fewer_before (z ∷ xs) s t x u y e = omega (arith, fewer_before xs y.0 t x u y.2 e, ap length y.1)
