-- Tests of every element of a list, and of the elements that a filter keeps.
use Rattle.std.proofs.Common.{◌≡◌, ℕ, zero, suc, ◌+◌, ◌<◌, ◌≤◌, Bool, true, false, cond, ◌&&◌, List, [], ◌∷◌, map, filter, sym, refl, ap, ◌∙◌, ap₂, ⊎_elim, arith}
use Rattle.std.specs.List.{range_with_len, ContainsAt as Has, AllByRecursion}
use Rattle.std.proofs.ByRecursion.{all-has}
use Rattle.std.proofs.lemmas.Bool.{false≢true, cases_eq, and_parts, and_from}
use Rattle.lattice.specs.Sets.{every, empty}

-- Two tests that imply one another are the same.
pub same_tests : (a b : Bool) → (a ≡ true → b ≡ true) → (b ≡ true → a ≡ true) → a ≡ b
same_tests true b f g = sym (f refl)
same_tests false true f g = g refl
same_tests false false f g = refl

pub if_then : (a b : Bool) → cond a b true ≡ true → a ≡ true → b ≡ true
if_then true b e h = e
if_then false b e h = absurd (false≢true h)

pub then_if : (a b : Bool) → (a ≡ true → b ≡ true) → cond a b true ≡ true
then_if true b f = f refl
then_if false b f = refl

-- A test of every number from a on, at one of them.
pub every_at : (test : ℕ → Bool) (a n i : ℕ) → every test (range_with_len a n) ≡ true → a ≤ i → i < a + n → test i ≡ true
every_at test a zero i e l h = absurd (omega arith)
every_at test a (suc n) i e l h =
    let both = and_parts (test a) (every test (range_with_len (a + 1) n)) e in
    ⊎_elim (λ q. ap test (sym q) ∙ both.0) (λ q. every_at test (a + 1) n i both.1 (omega arith) (omega arith)) (cases_eq a i)

pub every_counted : (test : ℕ → Bool) (a n : ℕ) → ((i : ℕ) → a ≤ i → i < a + n → test i ≡ true) → every test (range_with_len a n) ≡ true
every_counted test a zero f = refl
every_counted test a (suc n) f =
    and_from (test a) (every test (range_with_len (a + 1) n)) (f a (omega arith) (omega arith)) (every_counted test (a + 1) n (λ i l h. f i (omega arith) (omega arith)))

has_here : {X : Type 0} (x : X) (xs : List X) → Has (x ∷ xs) x
has_here x xs = (0, omega arith, λ d. refl)

pub has_later : {X : Type 0} (x y : X) (xs : List X) → Has xs y → Has (x ∷ xs) y
has_later x y xs h = (suc h.0, omega (arith, h.1), h.2)

-- Where the filter's test implies another at each element, that one holds of all that is kept.
pub every_kept : {X : Type 0} (p test : X → Bool) (xs : List X) → ((x : X) → Has xs x → p x ≡ true → test x ≡ true) → every test (filter p xs) ≡ true
every_kept p test [] f = refl
every_kept {X} p test (x ∷ xs) f = go (p x) (f x (has_here x xs)) (every_kept p test xs (λ y h. f y (has_later x y xs h)))
  where
    go : (b : Bool) → (b ≡ true → test x ≡ true) → every test (filter p xs) ≡ true → every test (cond b (x ∷ filter p xs) (filter p xs)) ≡ true
    go true here rest = and_from (test x) (every test (filter p xs)) (here refl) rest
    go false here rest = rest

-- And what holds of all that is kept holds of each element that the filter passes.
kept_each : {X : Type 0} (p test : X → Bool) (xs : List X) → every test (filter p xs) ≡ true → AllByRecursion (λ x. p x ≡ true → test x ≡ true) xs
kept_each p test [] e = tt
kept_each p test (x ∷ xs) e = go (p x) e (kept_each p test xs)
  where
    go : (b : Bool) → every test (cond b (x ∷ filter p xs) (filter p xs)) ≡ true → (every test (filter p xs) ≡ true → AllByRecursion (λ y. p y ≡ true → test y ≡ true) xs) → (b ≡ true → test x ≡ true) × AllByRecursion (λ y. p y ≡ true → test y ≡ true) xs
    go true e more = let both = and_parts (test x) (every test (filter p xs)) e in ((λ h. both.0), more both.1)
    go false e more = ((λ h. absurd (false≢true h)), more e)

pub kept_at : {X : Type 0} (p test : X → Bool) (xs : List X) (x : X) → every test (filter p xs) ≡ true → Has xs x → p x ≡ true → test x ≡ true
kept_at p test xs x e h = all-has (λ y. p y ≡ true → test y ≡ true) xs x (kept_each p test xs e) h

-- Two filters that agree on the list keep the same.
pub kept_alike : {X : Type 0} (p q : X → Bool) (xs : List X) → ((x : X) → Has xs x → p x ≡ q x) → filter p xs ≡ filter q xs
kept_alike p q [] f = refl
kept_alike {X} p q (x ∷ xs) f =
    ap₂ (λ (b : Bool) (ys : List X). cond b (x ∷ ys) ys) (f x (has_here x xs)) (kept_alike p q xs (λ y h. f y (has_later x y xs h)))

-- A filter of what is read off the elements that pass is one of the elements.
pub kept_map_kept : {X Y : Type 0} (q : Y → Bool) (f : X → Y) (p : X → Bool) (xs : List X) → filter q (map f (filter p xs)) ≡ map f (filter (λ x. p x && q (f x)) xs)
kept_map_kept q f p [] = refl
kept_map_kept {X} {Y} q f p (x ∷ xs) = go (p x) (kept_map_kept q f p xs)
  where
    both : X → Bool
    both y = p y && q (f y)

    moved : (b : Bool) → filter q (map f (filter p xs)) ≡ map f (filter both xs) → cond b (f x ∷ filter q (map f (filter p xs))) (filter q (map f (filter p xs))) ≡ map f (cond b (x ∷ filter both xs) (filter both xs))
    moved true more = ap {B = List Y} (λ (ys : List Y). f x ∷ ys) more
    moved false more = more

    go : (a : Bool) → filter q (map f (filter p xs)) ≡ map f (filter both xs) → filter q (map f (cond a (x ∷ filter p xs) (filter p xs))) ≡ map f (cond (a && q (f x)) (x ∷ filter both xs) (filter both xs))
    go true more = moved (q (f x)) more
    go false more = more

pub every_map : {X Y : Type 0} (test : Y → Bool) (f : X → Y) (xs : List X) → every test (map f xs) ≡ every (λ x. test (f x)) xs
every_map test f [] = refl
every_map test f (x ∷ xs) = ap (λ (b : Bool). test (f x) && b) (every_map test f xs)

pub empty_map : {X Y : Type 0} (f : X → Y) (xs : List X) → empty (map f xs) ≡ empty xs
empty_map f [] = refl
empty_map f (x ∷ xs) = refl

pub empty_none : {X : Type 0} (xs : List X) → empty xs ≡ true → xs ≡ []
empty_none [] e = refl
empty_none (x ∷ xs) e = absurd (false≢true e)

-- A list is empty where nothing passes in every place.
pub empty_every : {X : Type 0} (xs : List X) → empty xs ≡ every (λ _. false) xs
empty_every [] = refl
empty_every (x ∷ xs) = refl
