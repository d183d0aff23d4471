-- Folding twice is folding once.
use Rattle.std.proofs.Common.{◌≡◌, ℕ, Bool, true, false, not, ◌⊎◌, List, [], ◌∷◌, map, refl, ap, arith, inl}
use Rattle.std.specs.List.{list_all}
use Rattle.std.proofs.lemmas.Bool.Decides.{nat_tests}
use Rattle.layers.specs.declared.folding_list.Folding.{Folding}
use Rattle.layers.specs.Foldings.{froms, tos, becomes, chain_free}
use Rattle.layers.specs.Laws.{FoldingSettles}
use Rattle.tables.specs.Meaning.{contains}

-- a value that is not folded stays
pub becomes_itself : (es : List Folding) (v : ℕ) → contains (froms es) v ≡ false → becomes es v ≡ v
becomes_itself [] v h = refl
becomes_itself (e ∷ es) v h = grind (arith, nat_tests, becomes_itself es v)

-- a value stays, or becomes one of the values that the entries give
pub becomes_cases : (P : ℕ → Bool) (es : List Folding) (v : ℕ) → list_all P (tos es) ≡ true → (becomes es v ≡ v) ⊎ (P (becomes es v) ≡ true)
becomes_cases P [] v h = inl refl
becomes_cases P (e ∷ es) v h = grind (arith, nat_tests, becomes_cases P es v)

pub becomes_twice : (es : List Folding) (v : ℕ) → chain_free es ≡ true → becomes es (becomes es v) ≡ becomes es v
becomes_twice es v h = grind (arith, becomes_cases (λ u. not (contains (froms es) u)) es v h, becomes_itself es (becomes es v), ap (becomes es))

pub map_twice : {X : Type 0} (f : X → X) → ((x : X) → f (f x) ≡ f x) → (xs : List X) → map f (map f xs) ≡ map f xs
map_twice f h [] = refl
map_twice f h (x ∷ xs) = grind (arith, h x, map_twice f h xs)

-- pointwise equal lists make equal meanings
pub folding_settles : (es : List Folding) → chain_free es ≡ true → FoldingSettles es
folding_settles es h t =
    let same : (s p : ℕ) → map (becomes es) (map (becomes es) (t.values s p)) ≡ map (becomes es) (t.values s p) = λ s p. map_twice (becomes es) (λ v. becomes_twice es v h) (t.values s p) in
    λ i. record { subjects = t.subjects; properties = t.properties; present = t.present; values = λ s p. same s p i }
