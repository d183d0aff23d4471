-- The candidates of a sound relation are those of the codes of its coded pairs.
use Rattle.std.proofs.Common.{◌≡◌, ℕ, zero, suc, ◌^◌, ◌<◌, Bool, true, false, cond, not, ◌&&◌, eqb, List, [], ◌∷◌, map, filter, sym, refl, ap, ◌∙◌, subst, ap₂, arith}
use mathlib.Core.List.{map-map}
use Rattle.std.specs.List.{ContainsAt as Has, AllByRecursion}
use Rattle.std.proofs.ByRecursion.{all-has}
use Rattle.std.proofs.lemmas.Bool.{and_parts, eqb-true, false≢true}
use Rattle.contexts.specs.Pairs.{pairs, pair_code, has_code, coded, coded_pairs}
use Rattle.contexts.specs.Relation.{Relation, Sound}
use Rattle.contexts.specs.declared.coded_pair.CodedPair.{CodedPair}
use Rattle.lattice.specs.Candidates as of_codes
use Rattle.lattice.specs.Closed.{is_closed}
use Rattle.lattice.specs.Sets.{range, every, empty, has, code_of}
use Rattle.lattice.specs.Widening as over_codes
use Rattle.lattice.specs.Widening.{including, SameMembers}
use Rattle.lattice.proofs.Closures.{widening_links, including_links, including_members}
use Rattle.lattice.proofs.Filters.{kept_alike}
use Rattle.lattice.proofs.Steps.{candidates_members}
use Rattle.listings.specs.Candidates.{widening, is_candidate, candidates}
use Rattle.listings.specs.Copied.{is_among, same_members, codes_of}
use Rattle.listings.specs.Links.{links}
use Rattle.listings.proofs.Coded.{some_has, links_kept}
use Rattle.listings.proofs.Linking.{kept_has}
use Rattle.listings.proofs.Marks.{range_below}

-- Where every element passes, each does.
every_all : {X : Type 0} (test : X → Bool) (xs : List X) → every test xs ≡ true → AllByRecursion (λ x. test x ≡ true) xs
every_all test [] e = tt
every_all test (x ∷ xs) e = let both = and_parts (test x) (every test xs) e in (both.0, every_all test xs both.1)

among_has : (xs : List ℕ) (x : ℕ) → is_among xs x ≡ true → Has xs x
among_has xs x e =
    let found = some_has (filter (eqb x) xs) (go (empty (filter (eqb x) xs)) e) in
    let y = kept_has (eqb x) xs found.0 found.1 in
    subst (Has xs) (sym (eqb-true x found.0 y.1)) y.0
  where
    go : (b : Bool) → cond b false true ≡ true → b ≡ false
    go true e = absurd (false≢true e)
    go false e = refl

members_same : (xs ys : List ℕ) → same_members xs ys ≡ true → SameMembers xs ys
members_same xs ys e c =
    let both = and_parts (every (is_among ys) xs) (every (is_among xs) ys) e in (
      (λ m. among_has ys c (all-has (λ x. is_among ys x ≡ true) xs c (every_all (is_among ys) xs both.0) m)),
      (λ m. among_has xs c (all-has (λ x. is_among xs x ≡ true) ys c (every_all (is_among xs) ys both.1) m)),
    )

codes_read : (c : Relation) → codes_of (coded_pairs c) ≡ map (pair_code c) (filter (has_code c) (pairs c))
unfolding coded_pairs
codes_read c = map-map (λ (p : CodedPair). p.code) (coded c) (filter (has_code c) (pairs c))

including_own : (c : Relation) → Sound c → (x : ℕ) → 0 < x → x < 2 ^ c.conditions → empty (including c.conditions x (codes_of (coded_pairs c))) ≡ empty (links c x)
including_own c sound x low high =
    ap (λ (ds : List ℕ). empty (including c.conditions x ds)) (codes_read c)
    ∙ including_links c.conditions (pairs c) (has_code c) (pair_code c) x
    ∙ ap (λ (ps : List (ℕ × ℕ)). empty ps) (sym (links_kept c sound x low high))

widening_own : (c : Relation) → Sound c → (x : ℕ) → 0 < x → x < 2 ^ c.conditions → over_codes.widening c.conditions (codes_of (coded_pairs c)) x ≡ widening c x
unfolding widening
widening_own c sound x low high =
    let k = c.conditions in
    ap (λ (ds : List ℕ). over_codes.widening k ds x) (codes_read c)
    ∙ widening_links k (pairs c) (has_code c) (pair_code c) x
    ∙ ap (λ (ps : List (ℕ × ℕ)). code_of k (λ i. every (λ p. has k (pair_code c p) i) ps)) (sym (links_kept c sound x low high))

pub including_coded : (c : Relation) → Sound c → (codes : List ℕ) → same_members (codes_of (coded_pairs c)) codes ≡ true → (x : ℕ) → 0 < x → x < 2 ^ c.conditions → empty (including c.conditions x codes) ≡ empty (links c x)
including_coded c sound codes same x low high =
    sym (including_members c.conditions (codes_of (coded_pairs c)) codes (members_same (codes_of (coded_pairs c)) codes same) x)
    ∙ including_own c sound x low high

candidate_own : (c : Relation) → Sound c → (x : ℕ) → x < 2 ^ c.conditions → is_candidate c x ≡ of_codes.is_candidate c.conditions (codes_of (coded_pairs c)) x
unfolding is_candidate of_codes.is_candidate is_closed
candidate_own c sound zero high = refl
candidate_own c sound (suc n) high =
    let x = suc n in
    ap₂ (λ (w : ℕ) (none : Bool). not (eqb x 0) && eqb w x && not none) (sym (widening_own c sound x (omega arith) high))
    (sym (including_own c sound x (omega arith) high))

pub candidates_coded : (c : Relation) → Sound c → (codes : List ℕ) → same_members (codes_of (coded_pairs c)) codes ≡ true → candidates c ≡ of_codes.candidates c.conditions codes
unfolding candidates of_codes.candidates
candidates_coded c sound codes same =
    let k = c.conditions in
    let own = codes_of (coded_pairs c) in
    kept_alike (is_candidate c) (of_codes.is_candidate k own) (range (2 ^ k))
    (λ x m. candidate_own c sound x (range_below (2 ^ k) x m))
    ∙ candidates_members k own codes (members_same own codes same)
