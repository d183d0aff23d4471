-- Widening is a closure, and depends only on the set of codes.
use Rattle.std.proofs.Common.{◌≡◌, ℕ, ◌^◌, ◌<◌, ◌≤◌, Bool, true, false, ◌&&◌, List, map, filter, sym, ap, ◌∙◌, subst, ⊎_elim, lt_of_le_of_lt, arith}
use mathlib.Core.Path.{fun_ext}
use lib.Bits.{bit_and, and_le_l}
use Rattle.std.specs.List.{ContainsAt as Has}
use Rattle.std.proofs.lemmas.Bool.{eqb-true, eq-eqb, both_ways, cases_Bool}
use Rattle.lattice.specs.Closed.{is_closed}
use Rattle.lattice.specs.Sets.{every, empty, has, code_of, whole, includes}
use Rattle.lattice.specs.Widening.{including, widening, SameMembers}
use Rattle.lattice.proofs.Conditions.{has_code_of, code_of_below, same_conditions, has_whole, whole_below, includes_at, includes_of, includes_trans, includes_inside, includes_le, meet_left, meet_right, meet_of}
use Rattle.lattice.proofs.Filters.{same_tests, every_kept, kept_at, kept_alike, kept_map_kept, every_map, empty_map, empty_none, empty_every}

pub widening_below : (k : ℕ) (codes : List ℕ) (x : ℕ) → widening k codes x < 2 ^ k
unfolding widening
widening_below k codes x = code_of_below k (λ i. every (λ c. has k c i) (including k x codes))

-- A condition of the widening is one of every code that includes x.
pub has_widening : (k : ℕ) (codes : List ℕ) (x i : ℕ) → i < k → has k (widening k codes x) i ≡ every (λ c. has k c i) (including k x codes)
unfolding widening
has_widening k codes x i h = has_code_of k (λ i. every (λ c. has k c i) (including k x codes)) i h

-- A code of the list that includes x includes its widening.
widening_inside : (k : ℕ) (codes : List ℕ) (x c : ℕ) → Has codes c → includes k x c ≡ true → includes k (widening k codes x) c ≡ true
unfolding including
widening_inside k codes x c m e =
    includes_of k (widening k codes x) c (λ i h b. kept_at (includes k x) (λ d. has k d i) codes c (sym (has_widening k codes x i h) ∙ b) m e)

-- What is included in every code of the list that includes x is included in its widening.
widening_greatest : (k : ℕ) (codes : List ℕ) (x z : ℕ) → ((c : ℕ) → Has codes c → includes k x c ≡ true → includes k z c ≡ true) → includes k z (widening k codes x) ≡ true
unfolding including
widening_greatest k codes x z f =
    includes_of k z (widening k codes x)
    (λ i h b. has_widening k codes x i h ∙ every_kept (includes k x) (λ c. has k c i) codes (λ c m e. includes_at k z c i (f c m e) h b))

pub widening_extends : (k : ℕ) (codes : List ℕ) (x : ℕ) → includes k x (widening k codes x) ≡ true
widening_extends k codes x = widening_greatest k codes x x (λ c m e. e)

pub widening_grows : (k : ℕ) (codes : List ℕ) (x y : ℕ) → includes k x y ≡ true → includes k (widening k codes x) (widening k codes y) ≡ true
widening_grows k codes x y e =
    widening_greatest k codes y (widening k codes x) (λ c m f. widening_inside k codes x c m (includes_trans k x y c e f))

pub including_widening : (k : ℕ) (codes : List ℕ) (x : ℕ) → including k (widening k codes x) codes ≡ including k x codes
unfolding including
including_widening k codes x =
    kept_alike (includes k (widening k codes x)) (includes k x) codes
    (λ c m. same_tests (includes k (widening k codes x) c) (includes k x c) (includes_trans k x (widening k codes x) c (widening_extends k codes x)) (widening_inside k codes x c m))

pub widening_settles : (k : ℕ) (codes : List ℕ) (x : ℕ) → widening k codes (widening k codes x) ≡ widening k codes x
unfolding widening
widening_settles k codes x = ap (λ (ds : List ℕ). code_of k (λ i. every (λ c. has k c i) ds)) (including_widening k codes x)

-- Bits of x beyond the k conditions do not count.
pub widening_inside_whole : (k : ℕ) (codes : List ℕ) (x : ℕ) → widening k codes (bit_and x (whole k)) ≡ widening k codes x
unfolding widening including
widening_inside_whole k codes x =
    let part = meet_left k x (whole k) in
    let back = includes_inside k x in
    ap (λ (ds : List ℕ). code_of k (λ i. every (λ c. has k c i) ds))
    (kept_alike (includes k (bit_and x (whole k))) (includes k x) codes
    (λ c m. same_tests (includes k (bit_and x (whole k)) c) (includes k x c) (includes_trans k x (bit_and x (whole k)) c back) (includes_trans k (bit_and x (whole k)) x c part)))

-- Closed codes are those that widening leaves.
closed_fixed : (k : ℕ) (codes : List ℕ) (x : ℕ) → is_closed k codes x ≡ true → widening k codes x ≡ x
unfolding is_closed
closed_fixed k codes x e = eqb-true (widening k codes x) x e

fixed_closed : (k : ℕ) (codes : List ℕ) (x : ℕ) → widening k codes x ≡ x → is_closed k codes x ≡ true
unfolding is_closed
fixed_closed k codes x e = eq-eqb (widening k codes x) x e

closed_below : (k : ℕ) (codes : List ℕ) (x : ℕ) → is_closed k codes x ≡ true → x < 2 ^ k
closed_below k codes x e = subst (λ (v : ℕ). v < 2 ^ k) (closed_fixed k codes x e) (widening_below k codes x)

pub widening_closed : (k : ℕ) (codes : List ℕ) (x : ℕ) → is_closed k codes (widening k codes x) ≡ true
widening_closed k codes x = fixed_closed k codes (widening k codes x) (widening_settles k codes x)

-- The widening is the least closed code that includes x, as sets and as numbers.
widening_least : (k : ℕ) (codes : List ℕ) (x y : ℕ) → is_closed k codes y ≡ true → includes k x y ≡ true → includes k (widening k codes x) y ≡ true
widening_least k codes x y c e = subst (λ (v : ℕ). includes k (widening k codes x) v ≡ true) (closed_fixed k codes y c) (widening_grows k codes x y e)

pub widening_le : (k : ℕ) (codes : List ℕ) (x y : ℕ) → is_closed k codes y ≡ true → includes k x y ≡ true → widening k codes x ≤ y
widening_le k codes x y c e = includes_le k (widening k codes x) y (widening_below k codes x) (widening_least k codes x y c e)

pub meet_closed : (k : ℕ) (codes : List ℕ) (x y : ℕ) → is_closed k codes x ≡ true → is_closed k codes y ≡ true → is_closed k codes (bit_and x y) ≡ true
meet_closed k codes x y c d =
    let m = bit_and x y in
    let down = meet_of k (widening k codes m) x y (widening_least k codes m x c (meet_left k x y)) (widening_least k codes m y d (meet_right k x y)) in
    let low = includes_le k (widening k codes m) m (widening_below k codes m) down in
    let high = includes_le k m (widening k codes m) (lt_of_le_of_lt (and_le_l x y) (closed_below k codes x c)) (widening_extends k codes m) in
    fixed_closed k codes m (omega arith)

-- With no code that includes it a set widens to the whole set.
widening_whole : (k : ℕ) (codes : List ℕ) (x : ℕ) → empty (including k x codes) ≡ true → widening k codes x ≡ whole k
widening_whole k codes x e =
    same_conditions k (widening k codes x) (whole k) (widening_below k codes x) (whole_below k)
    (λ i h. has_widening k codes x i h ∙ ap (λ (ds : List ℕ). every (λ c. has k c i) ds) (empty_none (including k x codes) e) ∙ sym (has_whole k i h))

pub closed_whole : (k : ℕ) (codes : List ℕ) (x : ℕ) → is_closed k codes x ≡ true → empty (including k x codes) ≡ true → x ≡ whole k
closed_whole k codes x c e = sym (closed_fixed k codes x c) ∙ widening_whole k codes x e

-- Where some code includes a set, some code includes every part of it.
pub including_some : (k : ℕ) (codes : List ℕ) (x y : ℕ) → includes k x y ≡ true → empty (including k y codes) ≡ false → empty (including k x codes) ≡ false
unfolding including
including_some k codes x y e f =
    ⊎_elim
    (λ q.
    let none = empty_every (filter (includes k x) codes) in
    let less = every_kept (includes k y) (λ _. false) codes (λ c m g. kept_at (includes k x) (λ _. false) codes c (sym none ∙ q) m (includes_trans k x y c e g)) in
    absurd (both_ways (empty (filter (includes k y) codes)) f (empty_every (filter (includes k y) codes) ∙ less)))
    (λ q. q) (cases_Bool (empty (filter (includes k x) codes)))

-- What every code that passes has in one list it has in another with the same members.
every_members : (p test : ℕ → Bool) (xs ys : List ℕ) → SameMembers xs ys → every test (filter p xs) ≡ every test (filter p ys)
every_members p test xs ys same =
    same_tests (every test (filter p xs)) (every test (filter p ys)) (λ e. every_kept p test ys (λ c m. kept_at p test xs c e ((same c).1 m)))
    (λ e. every_kept p test xs (λ c m. kept_at p test ys c e ((same c).0 m)))

pub widening_members : (k : ℕ) (xs ys : List ℕ) → SameMembers xs ys → (x : ℕ) → widening k xs x ≡ widening k ys x
unfolding including
widening_members k xs ys same x =
    same_conditions k (widening k xs x) (widening k ys x) (widening_below k xs x) (widening_below k ys x)
    (λ i h. has_widening k xs x i h ∙ every_members (includes k x) (λ c. has k c i) xs ys same ∙ sym (has_widening k ys x i h))

pub including_members : (k : ℕ) (xs ys : List ℕ) → SameMembers xs ys → (x : ℕ) → empty (including k x xs) ≡ empty (including k x ys)
unfolding including
including_members k xs ys same x =
    empty_every (filter (includes k x) xs) ∙ every_members (includes k x) (λ _. false) xs ys same ∙ sym (empty_every (filter (includes k x) ys))

-- The codes that include x, among those of the present pairs, are the codes of its links.
links_codes : (k : ℕ) (pairs : List (ℕ × ℕ)) (present : ℕ × ℕ → Bool) (code : ℕ × ℕ → ℕ) (x : ℕ) → including k x (map code (filter present pairs)) ≡ map code (filter (λ p. present p && includes k x (code p)) pairs)
unfolding including
links_codes k pairs present code x = kept_map_kept (includes k x) code present pairs

pub widening_links : (k : ℕ) (pairs : List (ℕ × ℕ)) (present : ℕ × ℕ → Bool) (code : ℕ × ℕ → ℕ) (x : ℕ) → widening k (map code (filter present pairs)) x ≡ code_of k (λ i. every (λ p. has k (code p) i) (filter (λ p. present p && includes k x (code p)) pairs))
unfolding widening
widening_links k pairs present code x =
    ap (code_of k)
    (fun_ext
    (λ i.
    ap (λ (ds : List ℕ). every (λ c. has k c i) ds) (links_codes k pairs present code x)
    ∙ every_map (λ c. has k c i) code (filter (λ p. present p && includes k x (code p)) pairs)))

pub including_links : (k : ℕ) (pairs : List (ℕ × ℕ)) (present : ℕ × ℕ → Bool) (code : ℕ × ℕ → ℕ) (x : ℕ) → empty (including k x (map code (filter present pairs))) ≡ empty (filter (λ p. present p && includes k x (code p)) pairs)
including_links k pairs present code x =
    ap (λ (ds : List ℕ). empty ds) (links_codes k pairs present code x) ∙ empty_map code (filter (λ p. present p && includes k x (code p)) pairs)
