-- One more folding at the end of a list keeps what a folding list keeps.
use Rattle.std.proofs.Common.{◌≡◌, ℕ, ◌^◌, ◌<◌, Bool, true, false, not, ◌||◌, eqb, ltb, List, [], ◌∷◌, ◌++◌, length, get_or, None, refl, arith}
use Rattle.std.specs.List.{list_all}
use Rattle.std.specs.List.Sorted.{IsStrictlyIncreasing}
use Rattle.std.proofs.lemmas.Bool.Decides.{nat_tests}
use Rattle.std.proofs.lemmas.Grind.{common_steps}
use Rattle.std.proofs.lemmas.List.{map_push}
use Rattle.std.proofs.lemmas.List.Sums.{AllPass-from_list_all}
use Rattle.layers.specs.declared.folding_list.Folding.{Folding}
use Rattle.layers.specs.Foldings.{froms, tos, above_all, folding, folding_fault, chain_free, four_byte_tos}
use Rattle.tables.specs.Meaning.{contains}

-- where each passes, the one at a place does
pub all_pass_get_or : {X : Type 0} (p : X → Bool) (xs : List X) (i : ℕ) (d : X) → list_all p xs ≡ true → i < length xs → p (get_or xs i d) ≡ true
all_pass_get_or p xs i d h l = AllPass-from_list_all p xs h i d l

contains_push : (xs : List ℕ) (n v : ℕ) → contains (xs ++ n ∷ []) v ≡ (contains xs v || eqb n v)
contains_push [] n v = grind (arith, nat_tests)
contains_push (x ∷ xs) n v = grind (arith, nat_tests, contains_push xs n v)

-- values that are not in a list are not in it with one more, unless they are that one
pub apart_push : (xs ts : List ℕ) (n : ℕ) → list_all (λ t. not (contains xs t)) ts ≡ true → contains ts n ≡ false → list_all (λ t. not (contains (xs ++ n ∷ []) t)) ts ≡ true
apart_push xs [] n h e = refl
apart_push xs (t ∷ ts) n h e = grind (arith, common_steps, nat_tests, contains_push, apart_push xs ts n)

pub climbs_push : (xs : List ℕ) (n : ℕ) → IsStrictlyIncreasing xs → above_all xs n ≡ true → IsStrictlyIncreasing (xs ++ n ∷ [])
climbs_push xs n h above k l = grind (arith, common_steps, nat_tests, h k, AllPass-from_list_all (λ x. ltb x n) xs above)

module _ (es : List Folding) (a b : ℕ) where
  -- what is known of a folding to which there is no no
  pub no_fault : folding_fault es a b ≡ None → (length es < 64) × (above_all (froms es) a ≡ true) × (a ≡ b → ⊥) × (contains (froms es) b ≡ false) × (contains (tos es) a ≡ false)
  no_fault h = grind (arith, nat_tests)

  -- what is kept by a list of foldings is kept with the folding of a into b behind it
  pub ascending_push : IsStrictlyIncreasing (froms es) → folding_fault es a b ≡ None → IsStrictlyIncreasing (froms (es ++ folding a b ∷ []))
  ascending_push h none = grind (arith, common_steps, climbs_push (froms es) a h (no_fault none).1)

  pub unchained_push : chain_free es ≡ true → folding_fault es a b ≡ None → chain_free (es ++ folding a b ∷ []) ≡ true
  unchained_push h none =
      let known = no_fault none in
      let apart = apart_push (froms es) (tos es) a h known.4 in
      rw (map_push (λ (f : Folding). f.from) es (folding a b), map_push (λ (f : Folding). f.to) es (folding a b)) (grind (arith, common_steps, nat_tests, contains_push (froms es) a b))

  pub narrow_push : four_byte_tos es ≡ true → b < 2 ^ 32 → four_byte_tos (es ++ folding a b ∷ []) ≡ true
  narrow_push h l = grind (arith, common_steps, nat_tests)
