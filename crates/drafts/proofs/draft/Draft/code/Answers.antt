use Rattle.std.proofs.Common.{◌≡◌, map, length, refl, ap, ◌∙◌, rules, arith}
use Rattle.std.proofs.lemmas.Fn.{serves_by, fold_over, fronts, slice_gives}
use Rattle.std.proofs.lemmas.List.{length-map, map_push}
use Rattle.lattice.specs.Sets.{code_of}
use Rattle.drafts.specs.Live.{live_code, holds_at}
use Rattle.drafts.proofs.Codes.{code_small, code_push, fewer_before}
use Rattle.drafts.proofs.draft.Draft.code.Goals as goal

-- fewer than 64 conditions are in the code so far
pub fold-requires-clause-callable : goal.fold-requires-clause-callable
unfolding code_of
fold-requires-clause-callable g c =
    let v = c.args.self.now in
    let l = g.L.Table.meaning v.left in
    let r = g.R.Table.meaning v.right in
    let s = c.args.s in
    let t = c.args.t in
    serves_by _ (λ xs p. (p.0.0 ≡ c.args.self) × (p.0.1.now ≡ s) × (p.0.2.now ≡ t) × (p.1 ≡ live_code l r (map (λ x. x.now) xs) s t))
    (λ xs p x q j e.
    let pushed = map_push (λ x. x.now) xs x in
    let more = code_push l r (map (λ x. x.now) xs) x.now s t p.1 j.3 in
    search rules)
    fronts _ _ _
    (refl, refl, refl, refl)
    (λ xs i p x k y e j.
    let test = holds_at l r (map (λ x. x.now) xs) s t in
    let small = code_small (length xs) test p.1 (omega (arith, fewer_before xs c.iter.result i x k y e, v.few, v.comparisons.ok.0, c.iter.ensures.len, c.deref.ensures.len)) (j.3 ∙ ap (λ n. code_of n test) (length-map xs (λ x. x.now))) in
    search rules)

pub returns : goal.returns
unfolding code_of
returns g c =
    let v = c.args.self.now in
    let l = g.L.Table.meaning v.left in
    let r = g.R.Table.meaning v.right in
    fold_over fronts (λ y. y.now) _ (λ xs n. n ≡ live_code l r xs c.args.s c.args.t) _
    (λ xs n x m f j e. let more = code_push l r xs x.now c.args.s c.args.t n j in search rules)
    _ _ _ _ (slice_gives c.iter.result) refl c.fold.ensures.ran
    ∙ ap (λ xs. live_code l r xs c.args.s c.args.t) (c.iter.ensures.rest ∙ c.deref.ensures.value)
