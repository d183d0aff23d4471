-- Lists of values as sets: what depends on their values alone.
use Rattle.std.proofs.Common.{◌≡◌, ℕ, Bool, true, false, cond, not, ◌&&◌, eqb, List, [], ◌∷◌, sym, refl, ap, ◌∙◌, ⊎_elim}
use Rattle.std.proofs.lemmas.Bool.{false≢true, cond-true, cond-false, eq-eqb, ne_eqb, cases_eq, and_parts, and_from, or_cases, or_left, or_right}
use Rattle.std.specs.List.{list_any, list_all}
use Rattle.lattice.specs.Sets.{empty}
use Rattle.lattice.proofs.Filters.{same_tests}
use Rattle.tables.specs.Meaning.{contains}
use Rattle.drafts.specs.Conditions.{shares, within, equals}
use Rattle.drafts.specs.Laws.{SameValues}

pub contains_first : (x : ℕ) (xs : List ℕ) → contains (x ∷ xs) x ≡ true
contains_first x xs = cond-true _ _ _ (eq-eqb x x refl)

pub contains_rest : (x v : ℕ) (xs : List ℕ) → contains xs v ≡ true → contains (x ∷ xs) v ≡ true
contains_rest x v xs h = go (eqb x v)
  where
    go : (b : Bool) → cond b true (contains xs v) ≡ true
    go true = refl
    go false = h

some_of : (f : ℕ → Bool) (xs : List ℕ) (v : ℕ) → contains xs v ≡ true → f v ≡ true → list_any f xs ≡ true
some_of f [] v h e = absurd (false≢true h)
some_of f (x ∷ xs) v h e =
    ⊎_elim
    (λ (q : x ≡ v). or_left (f x) (list_any f xs) (ap f q ∙ e))
    (λ (q : x ≡ v → ⊥). or_right (f x) (list_any f xs) (some_of f xs v (sym (cond-false _ _ _ (ne_eqb x v q)) ∙ h) e))
    (cases_eq x v)

some_which : (f : ℕ → Bool) (xs : List ℕ) → list_any f xs ≡ true → (v : ℕ) × (contains xs v ≡ true) × (f v ≡ true)
some_which f [] h = absurd (false≢true h)
some_which f (x ∷ xs) h =
    ⊎_elim
    (λ (y : f x ≡ true). (x, contains_first x xs, y))
    (λ (y : list_any f xs ≡ true). let r = some_which f xs y in (r.0, contains_rest x r.0 xs r.1, r.2))
    (or_cases (f x) (list_any f xs) h)

every_of : (f : ℕ → Bool) (xs : List ℕ) → ((v : ℕ) → contains xs v ≡ true → f v ≡ true) → list_all f xs ≡ true
every_of f [] h = refl
every_of f (x ∷ xs) h = and_from (f x) (list_all f xs) (h x (contains_first x xs)) (every_of f xs (λ v k. h v (contains_rest x v xs k)))

every_each : (f : ℕ → Bool) (xs : List ℕ) (v : ℕ) → list_all f xs ≡ true → contains xs v ≡ true → f v ≡ true
every_each f [] v h k = absurd (false≢true k)
every_each f (x ∷ xs) v h k =
    let both = and_parts (f x) (list_all f xs) h in
    ⊎_elim
    (λ (q : x ≡ v). ap f (sym q) ∙ both.0)
    (λ (q : x ≡ v → ⊥). every_each f xs v both.1 (sym (cond-false _ _ _ (ne_eqb x v q)) ∙ k))
    (cases_eq x v)

first_value : (xs : List ℕ) → not (empty xs) ≡ true → (v : ℕ) × (contains xs v ≡ true)
first_value [] h = absurd (false≢true h)
first_value (x ∷ xs) h = (x, contains_first x xs)

not_empty : (xs : List ℕ) (v : ℕ) → contains xs v ≡ true → not (empty xs) ≡ true
not_empty [] v h = absurd (false≢true h)
not_empty (x ∷ xs) v h = refl

-- Equal lists are lists with the same values, and a value.
equals_parts : (xs ys : List ℕ) → equals xs ys ≡ true → (not (empty xs) ≡ true) × (within xs ys ≡ true) × (within ys xs ≡ true)
equals_parts xs ys e =
    let one = and_parts (not (empty xs)) (within xs ys && within ys xs) e in
    let two = and_parts (within xs ys) (within ys xs) one.1 in
    (one.0, two.0, two.1)

equals_value : (xs ys : List ℕ) → equals xs ys ≡ true → (v : ℕ) × (contains xs v ≡ true)
equals_value xs ys e = first_value xs (equals_parts xs ys e).0

pub equals_same : (xs ys : List ℕ) → equals xs ys ≡ true → SameValues xs ys
equals_same xs ys e v =
    let parts = equals_parts xs ys e in
    same_tests (contains xs v) (contains ys v) (every_each (contains ys) xs v parts.1) (every_each (contains xs) ys v parts.2)

equals_of : (xs ys : List ℕ) (v : ℕ) → contains xs v ≡ true → SameValues xs ys → equals xs ys ≡ true
equals_of xs ys v h same =
    and_from (not (empty xs)) (within xs ys && within ys xs) (not_empty xs v h)
    (and_from (within xs ys) (within ys xs) (every_of (contains ys) xs (λ u k. sym (same u) ∙ k)) (every_of (contains xs) ys (λ u k. same u ∙ k)))

equals_kept : (xs us ys vs : List ℕ) → SameValues xs us → SameValues ys vs → equals xs ys ≡ true → equals us vs ≡ true
equals_kept xs us ys vs h k e =
    let value = equals_value xs ys e in
    equals_of us vs value.0 (sym (h value.0) ∙ value.1) (λ v. sym (h v) ∙ equals_same xs ys e v ∙ k v)

pub equals_alike : (xs us ys vs : List ℕ) → SameValues xs us → SameValues ys vs → equals xs ys ≡ equals us vs
equals_alike xs us ys vs h k =
    same_tests (equals xs ys) (equals us vs) (equals_kept xs us ys vs h k) (equals_kept us xs vs ys (λ v. sym (h v)) (λ v. sym (k v)))

equals_turned : (xs ys : List ℕ) → equals xs ys ≡ true → equals ys xs ≡ true
equals_turned xs ys e =
    let value = equals_value xs ys e in
    let same = equals_same xs ys e in
    equals_of ys xs value.0 (sym (same value.0) ∙ value.1) (λ v. sym (same v))

pub equals_mutual : (xs ys : List ℕ) → equals xs ys ≡ equals ys xs
equals_mutual xs ys = same_tests (equals xs ys) (equals ys xs) (equals_turned xs ys) (equals_turned ys xs)

pub equals_shares : (xs ys : List ℕ) → equals xs ys ≡ true → shares xs ys ≡ true
equals_shares xs ys e =
    let value = equals_value xs ys e in
    some_of (contains ys) xs value.0 value.1 (sym (equals_same xs ys e value.0) ∙ value.1)

shares_kept : (xs us ys vs : List ℕ) → SameValues xs us → SameValues ys vs → shares xs ys ≡ true → shares us vs ≡ true
shares_kept xs us ys vs h k e =
    let r = some_which (contains ys) xs e in
    some_of (contains vs) us r.0 (sym (h r.0) ∙ r.1) (sym (k r.0) ∙ r.2)

pub shares_alike : (xs us ys vs : List ℕ) → SameValues xs us → SameValues ys vs → shares xs ys ≡ shares us vs
shares_alike xs us ys vs h k =
    same_tests (shares xs ys) (shares us vs) (shares_kept xs us ys vs h k) (shares_kept us xs vs ys (λ v. sym (h v)) (λ v. sym (k v)))

shares_turned : (xs ys : List ℕ) → shares xs ys ≡ true → shares ys xs ≡ true
shares_turned xs ys e = let r = some_which (contains ys) xs e in some_of (contains xs) ys r.0 r.2 r.1

pub shares_mutual : (xs ys : List ℕ) → shares xs ys ≡ shares ys xs
shares_mutual xs ys = same_tests (shares xs ys) (shares ys xs) (shares_turned xs ys) (shares_turned ys xs)
