-- What a copy of a context holds.
use Rattle.std.proofs.Common.{◌≡◌, ℕ, suc, Bool, true, false, cond, eqb, List, [], ◌∷◌, map, length, filter, sym, refl, ap, ◌∙◌, subst, ap₂, arith}
use Rattle.std.specs.List.Sorted.{IsPermutation}
use Rattle.std.specs.List.{Contains, dedup}
use Rattle.std.proofs.lemmas.List.FromFn.{length-map-range_with_len}
use Rattle.std.proofs.lemmas.List.Kept.{Contains-dedup_nat, Contains-from_dedup}
use Rattle.std.proofs.lemmas.List.Sorted.{IsPermutation-sym, Contains-permutation}
use Rattle.std.proofs.lemmas.Bool.{and_from, eq-eqb}
use Rattle.std.proofs.lemmas.List.Elements.{at_from_Contains}
use Rattle.contexts.specs.Pairs.{coded_pairs}
use Rattle.contexts.specs.Relation.{Relation, Sound}
use Rattle.contexts.specs.declared.coded_pair.CodedPair.{CodedPair}
use Rattle.lattice.specs.Sets.{range, every}
use Rattle.listings.specs.Copied.{copied, Few, all_below, is_among, same_members}
use Rattle.listings.proofs.Coded.{copied_is, coded_below, has_some}
use Rattle.listings.proofs.Linking.{has_kept}

every_member : (test : ℕ → Bool) (xs : List ℕ) → ((x : ℕ) → Contains xs x → test x ≡ true) → every test xs ≡ true
every_member test [] f = refl
every_member test (x ∷ xs) f =
    and_from (test x) (every test xs) (f x (0, omega arith, refl)) (every_member test xs (λ y m. f y (suc m.0, omega (arith, m.1), m.2)))

has_among : (xs : List ℕ) (x : ℕ) → Contains xs x → is_among xs x ≡ true
has_among xs x m = ap (λ (b : Bool). cond b false true) (has_some (filter (eqb x) xs) x (has_kept (eqb x) xs x (at_from_Contains xs x m) (eq-eqb x x refl)))

-- Codes that are sorted and told once are the same codes.
pub members_sorted : (xs ys zs : List ℕ) → IsPermutation xs ys → zs ≡ dedup eqb ys → same_members xs zs ≡ true
members_sorted xs ys zs moved once =
    and_from (every (is_among zs) xs) (every (is_among xs) zs)
    (every_member (is_among zs) xs (λ x m. has_among zs x (subst (λ (us : List ℕ). Contains us x) (sym once) (Contains-dedup_nat ys x (Contains-permutation xs ys x moved m)))))
    (every_member (is_among xs) zs (λ x m. has_among xs x (Contains-permutation ys xs x (IsPermutation-sym xs ys moved) (Contains-from_dedup eqb ys x (subst (λ (us : List ℕ). Contains us x) once m)))))

-- A copy of what a context says.
module _ (c : Relation) (sound : Sound c) {ls rs : List Bool} {k : ℕ} {ps : List CodedPair} (lefts : ls ≡ map c.left_present (range c.lefts)) (rights : rs ≡ map c.right_present (range c.rights)) (conditions : k ≡ c.conditions) (pairs : ps ≡ coded_pairs c) where
  pub copy_means : copied ls rs k ps ≡ c
  copy_means =
      ap (λ (us : List Bool). copied us rs k ps) lefts
      ∙ ap (λ (us : List Bool). copied (map c.left_present (range c.lefts)) us k ps) rights
      ∙ ap₂ (λ (n : ℕ) (qs : List CodedPair). copied (map c.left_present (range c.lefts)) (map c.right_present (range c.rights)) n qs) conditions pairs
      ∙ copied_is c sound

  pub copy_is_small : Few ls rs
  copy_is_small = (
    omega (arith, ap length lefts, length-map-range_with_len c.left_present 0 c.lefts, sound.few_lefts),
    omega (arith, ap length rights, length-map-range_with_len c.right_present 0 c.rights, sound.few_rights),
  )

  pub copy_is_coded : ps ≡ coded_pairs (copied ls rs k ps)
  copy_is_coded = pairs ∙ ap coded_pairs (sym copy_means)

  pub copy_is_below : all_below k ps ≡ true
  copy_is_below = ap₂ (λ (n : ℕ) (qs : List CodedPair). all_below n qs) conditions pairs ∙ coded_below c sound
