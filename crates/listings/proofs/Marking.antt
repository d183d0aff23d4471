-- One pass over coded pairs: the links of a code, and marks for their subjects.
use Rattle.std.proofs.Common.{◌≡◌, ℕ, zero, suc, ◌<◌, ◌≤◌, Bool, true, false, cond, eqb, List, [], ◌∷◌, map, length, get_or, take, replicate, filter, refl, ap, ◌∙◌, subst, arith}
use lib.Bits.{bit_and}
use Rattle.std.proofs.lemmas.List.FromFn.{fill_by_all}
use Rattle.std.proofs.lemmas.List.{take_all}
use Rattle.std.proofs.lemmas.List.Sums.{length-filter, count_by-le-length}
use Rattle.contexts.specs.declared.coded_pair.CodedPair.{CodedPair}
use Rattle.lattice.specs.Sets.{range}
use Rattle.listings.specs.Copied.{linking, is_marked, marked_count, marks_set, left_of, right_of}

-- what stands past the end of coded pairs
abbrev pub no_pair : CodedPair
no_pair = record { left = 0; right = 0; code = 0 }

-- marks that tell which subjects some pairs have
abbrev pub Marks : (CodedPair → ℕ) → List CodedPair → List Bool → Type 0
Marks side ps marks = (k : ℕ) → k < 2048 → get_or marks k false ≡ is_marked side ps k

pub marks_none : (side : CodedPair → ℕ) (marks : List Bool) → marks ≡ replicate 2048 false → Marks side [] marks
marks_none side marks e k h = ap (λ (ms : List Bool). get_or ms k false) e ∙ get_or_replicate 2048 k
  where
    get_or_replicate : (n k : ℕ) → get_or (replicate n false) k false ≡ false
    get_or_replicate zero k = refl
    get_or_replicate (suc n) zero = refl
    get_or_replicate (suc n) (suc k) = get_or_replicate n k

set_counted : (f : ℕ → Bool) (xs : List ℕ) → marks_set (map f xs) ≡ length (filter f xs)
set_counted f [] = refl
set_counted f (x ∷ xs) = go (f x) (set_counted f xs)
  where
    go : (b : Bool) → marks_set (map f xs) ≡ length (filter f xs) → length (cond b (b ∷ filter (λ b. b) (map f xs)) (filter (λ b. b) (map f xs))) ≡ length (cond b (x ∷ filter f xs) (filter f xs))
    go true e = ap suc e
    go false e = e

-- as many marks are set as subjects are marked
pub marks_all : (side : CodedPair → ℕ) (ps : List CodedPair) (marks : List Bool) → length marks ≡ 2048 → Marks side ps marks → marks_set marks ≡ marked_count side ps
unfolding marked_count
marks_all side ps marks long told =
    ap marks_set (fill_by_all (is_marked side ps) marks 2048 false long told) ∙ set_counted (is_marked side ps) (range 2048)

pub linking_fewer : (x : ℕ) (ps : List CodedPair) → length (linking x ps) ≤ length ps
linking_fewer x ps =
    let test : CodedPair → Bool = λ p. eqb (bit_and p.code x) x in
    omega (arith, length-filter test ps, count_by-le-length test ps)

-- how far a pass has come: the links of x among the first i pairs, counted and marked on both sides
abbrev pub Counted : ℕ → List CodedPair → ℕ → ℕ → List Bool → List Bool → Type 0
Counted x ps i links lefts rights =
    (links ≡ length (linking x (take i ps))) × (length lefts ≡ 2048) × (length rights ≡ 2048) × Marks left_of (linking x (take i ps)) lefts × Marks right_of (linking x (take i ps)) rights

pub counted_none : (x : ℕ) (ps : List CodedPair) (lefts rights : List Bool) → lefts ≡ replicate 2048 false → rights ≡ replicate 2048 false → length lefts ≡ 2048 → length rights ≡ 2048 → Counted x ps 0 0 lefts rights
counted_none x ps lefts rights el er nl nr = (refl, nl, nr, marks_none left_of lefts el, marks_none right_of rights er)

-- all pairs
pub counted_all : (x : ℕ) (ps : List CodedPair) (i links : ℕ) (lefts rights : List Bool) → length ps ≤ i → Counted x ps i links lefts rights → (links ≡ length (linking x ps)) × (marks_set lefts ≡ marked_count left_of (linking x ps)) × (marks_set rights ≡ marked_count right_of (linking x ps))
counted_all x ps i links lefts rights h before =
    let all : take i ps ≡ ps = take_all i ps h in
    let end = subst (λ (qs : List CodedPair). (links ≡ length (linking x qs)) × (length lefts ≡ 2048) × (length rights ≡ 2048) × Marks left_of (linking x qs) lefts × Marks right_of (linking x qs) rights) all before in
    (end.0, marks_all left_of (linking x ps) lefts end.1 end.3, marks_all right_of (linking x ps) rights end.2 end.4)
