-- The links of a set are the pairs that it links, and no others.
use Rattle.std.proofs.Common.{◌≡◌, ℕ, zero, suc, ◌+◌, ◌<◌, ◌≤◌, Bool, true, false, cond, List, [], ◌∷◌, length, get_or, filter, ap, ◌∙◌, subst, ⊎_elim, arith}
use Rattle.std.specs.List.{range_with_len, flat_map, ContainsAt as Has, AllByRecursion}
use Rattle.std.proofs.lemmas.List.FromFn.{length-map-range_with_len, get_or-map-range_with_len}
use Rattle.std.proofs.ByRecursion.{All-append, All-map, All-weaker, all-has, all_has_itself, all_kept_by, kept_by_passes, has_append_left, has_append_right}
use Rattle.std.proofs.lemmas.Bool.{and_parts, and_from, cases_eq, false≢true}
use Rattle.contexts.specs.Pairs.{row, pairs}
use Rattle.contexts.specs.Relation.{Relation}
use Rattle.lattice.specs.Sets.{range, includes}
use Rattle.lattice.proofs.Conditions.{includes_at, includes_of}
use Rattle.lattice.proofs.Filters.{has_later}
use Rattle.listings.specs.Laws.{Linked}
use Rattle.listings.specs.Links.{both_present, is_link, links}

-- What a filter keeps: what is there and passes.
pub kept_has : {X : Type 0} (test : X → Bool) (xs : List X) (x : X) → Has (filter test xs) x → Has xs x × (test x ≡ true)
kept_has test xs x m =
    (all-has (Has xs) (filter test xs) x (all_kept_by test (Has xs) xs (all_has_itself xs)) m, all-has (λ y. test y ≡ true) (filter test xs) x (kept_by_passes test xs) m)

pub has_kept : {X : Type 0} (test : X → Bool) (xs : List X) (x : X) → Has xs x → test x ≡ true → Has (filter test xs) x
has_kept {X} test xs x m e = go xs m.0 m.1 m.2
  where
    go : (xs : List X) (k : ℕ) → k < length xs → ((d : X) → get_or xs k d ≡ x) → Has (filter test xs) x
    go [] k h at = absurd (omega arith)
    go (y ∷ ys) zero h at = here (test y) (ap test (at x) ∙ e)
      where
        here : (b : Bool) → b ≡ true → Has (cond b (y ∷ filter test ys) (filter test ys)) x
        here true f = (0, omega arith, at)
        here false f = absurd (false≢true f)
    go (y ∷ ys) (suc k) h at = later (test y) (go ys k (omega arith) at)
      where
        later : (b : Bool) → Has (filter test ys) x → Has (cond b (y ∷ filter test ys) (filter test ys)) x
        later true more = has_later y x (filter test ys) more
        later false more = more

-- The pairs are all pairs of numbers in range.
abbrev pub Within : ℕ → ℕ → ℕ × ℕ → Type 0
Within lefts rights p = (p.0 < lefts) × (p.1 < rights)

pub counted_below : (high a n : ℕ) → a + n ≤ high → AllByRecursion (λ t. t < high) (range_with_len a n)
counted_below high a zero h = tt
counted_below high a (suc n) h = (omega arith, counted_below high (a + 1) n (omega arith))

pub rows_within : (lefts rights a n : ℕ) → a + n ≤ lefts → AllByRecursion (Within lefts rights) (flat_map (row rights) (range_with_len a n))
rows_within lefts rights a zero h = tt
rows_within lefts rights a (suc n) h =
    All-append (Within lefts rights) (row rights a) (flat_map (row rights) (range_with_len (a + 1) n))
    (All-map (Within lefts rights) (λ t. (a, t)) (range rights) (All-weaker (λ t. t < rights) (λ t. Within lefts rights (a, t)) (λ t l. (omega arith, l)) (range rights) (counted_below rights 0 rights (omega arith))))
    (rows_within lefts rights (a + 1) n (omega arith))

row_has : (rights s t : ℕ) → t < rights → Has (row rights s) (s, t)
row_has rights s t h =
    let pair : ℕ → ℕ × ℕ = λ u. (s, u) in
    (t, omega (arith, length-map-range_with_len pair 0 rights), λ d. get_or-map-range_with_len pair 0 rights t t d h (omega arith))

pub rows_have : (rights a n s t : ℕ) → a ≤ s → s < a + n → t < rights → Has (flat_map (row rights) (range_with_len a n)) (s, t)
rows_have rights a zero s t l h r = absurd (omega arith)
rows_have rights a (suc n) s t l h r =
    ⊎_elim (λ e. subst (λ (u : ℕ). Has (flat_map (row rights) (range_with_len a (suc n))) (u, t)) e (has_append_left (row rights a) (flat_map (row rights) (range_with_len (a + 1) n)) (a, t) (row_has rights a t r))) (λ e. has_append_right (row rights a) (flat_map (row rights) (range_with_len (a + 1) n)) (s, t) (rows_have rights (a + 1) n s t (omega arith) (omega arith) r)) (cases_eq a s)

-- A pair is a link where it is linked.
pub links_linked : (c : Relation) (x s t : ℕ) → Has (links c x) (s, t) → Linked c x s t
unfolding links is_link both_present pairs
links_linked c x s t m =
    let k = c.conditions in
    let kept = kept_has (is_link c x) (pairs c) (s, t) m in
    let within = all-has (Within c.lefts c.rights) (pairs c) (s, t) (rows_within c.lefts c.rights 0 c.lefts (omega arith)) kept.0 in
    let link = and_parts (both_present c (s, t)) (includes k x (c.code s t)) kept.1 in
    let present = and_parts (c.left_present s) (c.right_present t) link.0 in
    record {
      left_in_range = within.0;
      right_in_range = within.1;
      left_is_present = present.0;
      right_is_present = present.1;
      conditions_hold = λ i h e. includes_at k x (c.code s t) i link.1 h e;
    }

pub linked_links : (c : Relation) (x s t : ℕ) → Linked c x s t → Has (links c x) (s, t)
unfolding links is_link both_present pairs
linked_links c x s t l =
    let k = c.conditions in
    has_kept (is_link c x) (pairs c) (s, t) (rows_have c.rights 0 c.lefts s t (omega arith) (omega (arith, l.left_in_range)) l.right_in_range)
    (and_from (both_present c (s, t)) (includes k x (c.code s t)) (and_from (c.left_present s) (c.right_present t) l.left_is_present l.right_is_present)
    (includes_of k x (c.code s t) l.conditions_hold))
