-- Entries of a list, asked one by one until there is none.
use Rattle.std.proofs.Common.{◌≡◌, ℕ, zero, suc, ◌+◌, ◌-◌, ◌<◌, ◌≤◌, true, false, List, [], ◌∷◌, map, length, get_or, drop, Some, None, ◌≢◌, sym, refl, ap, ◌∙◌, ⊎_elim, arith}
use Rattle.std.specs.Option.{option_map}
use Rattle.std.specs.List.{slice_get}
use Rattle.std.proofs.lemmas.List.{at_drop_more, at_drop_all}
use Rattle.std.proofs.lemmas.Option.{slice_get-get_or, slice_get_past}
use Rattle.std.proofs.lemmas.Bool.{cond-true, cond-false, eq-eqb, ne_eqb, cases_lt}
use Rattle.tables.specs.Meaning.{contains}

-- an entry stands within the list
pub some_within : {X : Type 0} (xs : List X) (i : ℕ) (x : X) → Some x ≡ slice_get xs i → i < length xs
some_within xs i x e =
    ⊎_elim
    (λ (l : i < length xs). l)
    (λ (l : length xs ≤ i). let n = slice_get_past xs i l in let z : ◌≡◌ {A = ℕ} 0 1 = cc in absurd (omega arith))
    (cases_lt i (length xs))

-- and is what is read there
pub some_read : {X : Type 0} (xs : List X) (i : ℕ) (x d : X) → Some x ≡ slice_get xs i → get_or xs i d ≡ x
some_read xs i x d e = let n = slice_get-get_or xs i d (some_within xs i x e) in cc

-- no entry stands past the list alone
pub none_past : {X : Type 0} (xs : List X) (i : ℕ) → None ≡ slice_get xs i → length xs ≤ i
none_past [] i e = omega arith
none_past (x ∷ xs) i e =
    ⊎_elim
    (λ (l : i < length (x ∷ xs)). let n = slice_get-get_or (x ∷ xs) i x l in let z : ◌≡◌ {A = ℕ} 0 1 = cc in absurd (omega arith))
    (λ (l : length (x ∷ xs) ≤ i). l)
    (cases_lt i (length (x ∷ xs)))

pub contains_some : (xs : List ℕ) (i x v : ℕ) → Some x ≡ slice_get xs i → x ≡ v → contains (drop i xs) v ≡ true
contains_some xs i x v e h =
    at_drop_more (λ ys. contains ys v) xs i 0 (some_within xs i x e) ∙ cond-true _ _ _ (eq-eqb _ _ (some_read xs i x 0 e ∙ h))

pub contains_other : (xs : List ℕ) (i x v : ℕ) → Some x ≡ slice_get xs i → (x ≡ v → ⊥) → contains (drop i xs) v ≡ contains (drop (i + 1) xs) v
contains_other xs i x v e h =
    at_drop_more (λ ys. contains ys v) xs i 0 (some_within xs i x e) ∙ cond-false _ _ _ (ne_eqb _ _ (λ q. h (sym (some_read xs i x 0 e) ∙ q)))

pub contains_none : (xs : List ℕ) (i v : ℕ) → None ≡ slice_get xs i → contains (drop i xs) v ≡ false
contains_none xs i v e = at_drop_all (λ ys. contains ys v) xs i (none_past xs i e)

pub nth_map : {X Y : Type 0} (f : X → Y) (xs : List X) (i : ℕ) → slice_get (map f xs) i ≡ option_map f (slice_get xs i)
nth_map f [] i = refl
nth_map f (x ∷ xs) zero = refl
nth_map f (x ∷ xs) (suc i) = nth_map f xs i

pub some_map : {X Y : Type 0} (f : X → Y) (xs : List X) (i : ℕ) (x : X) {y : Y} → Some x ≡ slice_get xs i → y ≡ f x → Some y ≡ slice_get (map f xs) i
some_map {X} {Y} f xs i x e h = ap (λ (z : Y). Some z) h ∙ ap (option_map f) e ∙ sym (nth_map f xs i)

pub none_map : {X Y : Type 0} (f : X → Y) (xs : List X) (i : ℕ) → None ≡ slice_get xs i → None ≡ slice_get (map f xs) i
none_map f xs i e = ap (option_map f) e ∙ sym (nth_map f xs i)

-- an entry of a list behind its first
pub nth_behind : (x : ℕ) (xs : List ℕ) (i : ℕ) → (i ≢ 0) → slice_get (x ∷ xs) i ≡ slice_get xs (i - 1)
nth_behind x xs zero h = absurd (h refl)
nth_behind x xs (suc i) h = let e : i ≡ suc i - 1 = omega arith in ap (slice_get xs) e

pub nth_first : (x : ℕ) (xs : List ℕ) (i : ℕ) → i ≡ 0 → slice_get (x ∷ xs) i ≡ Some x
nth_first x xs i e = ap (slice_get (x ∷ xs)) e
