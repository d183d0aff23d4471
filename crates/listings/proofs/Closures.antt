-- Widening over a relation is a closure, and its candidates ascend.
use Rattle.std.proofs.Common.{◌≡◌, ℕ, ◌<◌, Bool, true, List, [], length, get_or, sym, ap, ◌∙◌, subst}
use lib.Bits.{bit_and}
use Rattle.std.specs.List.{ContainsAt as Has}
use Rattle.std.proofs.lemmas.Bool.{and_parts, and_from}
use Rattle.contexts.specs.Pairs.{pairs, pair_code}
use Rattle.contexts.specs.Relation.{Relation}
use Rattle.lattice.specs.Sets.{every, has, code_of, whole, includes}
use Rattle.lattice.proofs.Closures as of-closures
use Rattle.lattice.proofs.Conditions.{has_code_of, code_of_below, same_conditions, whole_below, has_whole, includes_of, includes_trans}
use Rattle.lattice.proofs.Filters.{same_tests, kept_at, kept_alike}
use Rattle.lattice.proofs.Steps as steps
use Rattle.listings.specs.Links.{both_present, is_link, links, present_codes}
use Rattle.listings.specs.Candidates.{widening, is_candidate, candidates}
use Rattle.listings.proofs.Codes.{widening_codes, candidate_codes, candidates_codes}

pub widening_extends : (c : Relation) (x : ℕ) → includes c.conditions x (widening c x) ≡ true
widening_extends c x =
    ap (includes c.conditions x) (sym (widening_codes c x)) ∙ of-closures.widening_extends c.conditions (present_codes c) x

pub widening_grows : (c : Relation) (x y : ℕ) → includes c.conditions x y ≡ true → includes c.conditions (widening c x) (widening c y) ≡ true
widening_grows c x y e =
    subst (λ (v : ℕ). includes c.conditions v (widening c y) ≡ true) (widening_codes c x)
    (ap (includes c.conditions _) (sym (widening_codes c y)) ∙ of-closures.widening_grows c.conditions (present_codes c) x y e)

-- A link of x has every condition of the widening.
widening_inside : (c : Relation) (x : ℕ) (p : ℕ × ℕ) → Has (pairs c) p → is_link c x p ≡ true → includes c.conditions (widening c x) (pair_code c p) ≡ true
unfolding widening links
widening_inside c x p m e =
    let k = c.conditions in
    let shared : ℕ → Bool = λ i. every (λ q. has k (pair_code c q) i) (links c x) in
    includes_of k (code_of k shared) (pair_code c p)
    (λ i h b. kept_at (is_link c x) (λ q. has k (pair_code c q) i) (pairs c) p (sym (has_code_of k shared i h) ∙ b) m e)

pub widening_keeps_links : (c : Relation) (x : ℕ) → links c (widening c x) ≡ links c x
unfolding links is_link
widening_keeps_links c x =
    let k = c.conditions in
    let w = widening c x in
    kept_alike (is_link c w) (is_link c x) (pairs c)
    (λ p m.
    same_tests (is_link c w p) (is_link c x p)
    (λ e.
    let both = and_parts (both_present c p) (includes k w (pair_code c p)) e in
    and_from (both_present c p) (includes k x (pair_code c p)) both.0 (includes_trans k x w (pair_code c p) (widening_extends c x) both.1))
    (λ e.
    let both = and_parts (both_present c p) (includes k x (pair_code c p)) e in
    and_from (both_present c p) (includes k w (pair_code c p)) both.0 (widening_inside c x p m e)))

pub widening_settles : (c : Relation) (x : ℕ) → widening c (widening c x) ≡ widening c x
unfolding widening
widening_settles c x =
    ap (λ (ls : List (ℕ × ℕ)). code_of c.conditions (λ i. every (λ p. has c.conditions (pair_code c p) i) ls)) (widening_keeps_links c x)

pub widening_without_links : (c : Relation) (x : ℕ) → links c x ≡ [] → widening c x ≡ whole c.conditions
unfolding widening
widening_without_links c x e =
    let k = c.conditions in
    ap (λ (ls : List (ℕ × ℕ)). code_of k (λ i. every (λ p. has k (pair_code c p) i) ls)) e
    ∙ same_conditions k (code_of k (λ i. true)) (whole k) (code_of_below k (λ i. true)) (whole_below k) (λ i h. has_code_of k (λ i. true) i h ∙ sym (has_whole k i h))

pub candidates_ascend : (c : Relation) (i j : ℕ) → i < j → j < length (candidates c) → get_or (candidates c) i 0 < get_or (candidates c) j 0
candidates_ascend c =
    subst (λ (xs : List ℕ). (i j : ℕ) → i < j → j < length xs → get_or xs i 0 < get_or xs j 0) (sym (candidates_codes c)) (steps.candidates_ascend c.conditions (present_codes c))

pub meet_candidate : (c : Relation) (x y : ℕ) → is_candidate c x ≡ true → is_candidate c y ≡ true → (bit_and x y ≡ 0 → ⊥) → is_candidate c (bit_and x y) ≡ true
meet_candidate c x y e f n =
    candidate_codes c (bit_and x y)
    ∙ steps.meet_candidate c.conditions (present_codes c) x y (sym (candidate_codes c x) ∙ e) (sym (candidate_codes c y) ∙ f) n
