-- The values that a word ticks, looked for from 0 to 63.
use Rattle.std.proofs.Common.{◌≡◌, ℕ, suc, ◌+◌, ◌-◌, ◌/◌, ◌%◌, ◌^◌, ◌<◌, ◌≤◌, cond, List, [], ◌∷◌, filter, ◌≢◌, refl, ap, ◌∙◌, arith}
use Rattle.std.specs.List.{range_with_len}
use Rattle.std.proofs.lemmas.Bool.{cond-true, cond-false, eq-eqb, ne_eqb}
use Rattle.tables.specs.TickSheet.{is_ticked, ticked}

-- the ticked values from v on
abbrev pub ticked_from : ℕ → ℕ → List ℕ
ticked_from w v = filter (is_ticked w) (range_with_len v (64 - v))

pub ticked_begin : (w : ℕ) → ticked_from w 0 ≡ ticked w
unfolding ticked
ticked_begin w = refl

ticked_step : (w v : ℕ) → v < 64 → ticked_from w v ≡ cond (is_ticked w v) (v ∷ ticked_from w (v + 1)) (ticked_from w (v + 1))
ticked_step w v l =
    let q : 64 - v ≡ suc (64 - (v + 1)) = omega arith in
    ap (λ (k : ℕ). filter (is_ticked w) (range_with_len v k)) q

pub ticked_here : (w v : ℕ) → v < 64 → w / 2 ^ v % 2 ≡ 1 → ticked_from w v ≡ v ∷ ticked_from w (v + 1)
ticked_here w v l e = ticked_step w v l ∙ cond-true _ _ _ (eq-eqb _ _ e)

pub ticked_next : (w v : ℕ) → v < 64 → (w / 2 ^ v % 2 ≢ 1) → ticked_from w v ≡ ticked_from w (v + 1)
ticked_next w v l e = ticked_step w v l ∙ cond-false _ _ _ (ne_eqb _ _ e)

pub ticked_end : (w v : ℕ) → 64 ≤ v → ticked_from w v ≡ []
ticked_end w v l =
    let q : 64 - v ≡ 0 = omega arith in
    ap (λ (k : ℕ). filter (is_ticked w) (range_with_len v k)) q
