use Rattle.std.specs.Prelude.{◌≡◌, ℕ, true, false, List, []}
use Rattle.tables.specs.Meaning.{contains}
use Rattle.drafts.specs.Conditions.{shares, equals}

-- The same values, in whatever order and however often.
abbrev pub SameValues : List ℕ → List ℕ → Type 0
SameValues xs ys = (v : ℕ) → contains xs v ≡ contains ys v

-- Equal lists share a value.
abbrev pub EqualListsShare : Type 0
EqualListsShare = (xs ys : List ℕ) → equals xs ys ≡ true → shares xs ys ≡ true

-- Which list is the left one does not matter.
abbrev pub SharingIsMutual : Type 0
SharingIsMutual = (xs ys : List ℕ) → shares xs ys ≡ shares ys xs

abbrev pub EqualityIsMutual : Type 0
EqualityIsMutual = (xs ys : List ℕ) → equals xs ys ≡ equals ys xs

-- Neither order nor repetition matters, on either side.
abbrev pub SharingIsOfSets : Type 0
SharingIsOfSets = (xs us ys vs : List ℕ) → SameValues xs us → SameValues ys vs → shares xs ys ≡ shares us vs

abbrev pub EqualityIsOfSets : Type 0
EqualityIsOfSets = (xs us ys vs : List ℕ) → SameValues xs us → SameValues ys vs → equals xs ys ≡ equals us vs

-- Equal lists have the same values.
abbrev pub EqualListsHaveTheSameValues : Type 0
EqualListsHaveTheSameValues = (xs ys : List ℕ) → equals xs ys ≡ true → SameValues xs ys

-- Two empty lists are not equal.
abbrev pub EmptyListsAreNotEqual : Type 0
EmptyListsAreNotEqual = equals [] [] ≡ false
