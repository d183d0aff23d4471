-- Over a sound relation, what is told of a candidate fits its record.
use Rattle.std.proofs.Common.{◌≡◌, ℕ, zero, suc, ◌+◌, ◌*◌, ◌/◌, ◌%◌, ◌^◌, ◌<◌, ◌≤◌, Bool, not, List, [], ◌∷◌, length, filter, ◌∙◌, suc-mul, mul-le-mul, arith, length-append, pow_mono}
use lib.ListN.{length-map}
use Rattle.std.specs.List.{range_with_len, flat_map, AllByRecursion}
use Rattle.std.proofs.lemmas.List.FromFn.{length-range_with_len}
use Rattle.std.proofs.lemmas.List.Sums.{length-filter, count_by-le-length}
use Rattle.contexts.specs.Pairs.{row, pairs}
use Rattle.contexts.specs.Relation.{Relation, Sound}
use Rattle.lattice.specs.Sets.{range, empty, has}
use Rattle.records.specs.Fields.{bytes_of}
use Rattle.records.specs.Kinds.{candidate_fields}
use Rattle.records.proofs.Bytes.{length_bytes_of}
use Rattle.listings.specs.Counts.{left_linked, right_linked, lefts_present, rights_present, condition_count, candidate_body, candidate_bytes}
use Rattle.listings.specs.Links.{is_link, links}

pub kept_fewer : {X : Type 0} (test : X → Bool) (xs : List X) → length (filter test xs) ≤ length xs
kept_fewer test xs = omega (arith, length-filter test xs, count_by-le-length test xs)

-- Of the numbers below n, at most n pass.
pub range_fewer : (test : ℕ → Bool) (n : ℕ) → length (filter test (range n)) ≤ n
range_fewer test n = omega (arith, kept_fewer test (range n), length-range_with_len 0 n)

pub length_rows : (n a m : ℕ) → length (flat_map (row n) (range_with_len a m)) ≡ m * n
length_rows n a zero = omega arith
length_rows n a (suc m) =
    length-append (row n a) (flat_map (row n) (range_with_len (a + 1) m))
    ∙ omega (arith, length-map {B = ℕ × ℕ} (range n) (λ t. (a, t)), length-range_with_len 0 n, length_rows n (a + 1) m, suc-mul m n)

-- There are at most as many links as pairs.
pub links_fewer : (c : Relation) (x : ℕ) → length (links c x) ≤ c.lefts * c.rights
unfolding links pairs
links_fewer c x = omega (arith, kept_fewer (is_link c x) (pairs c), length_rows c.rights 0 c.lefts)

pub left_linked_fewer : (c : Relation) (x : ℕ) → left_linked c x ≤ c.lefts
unfolding left_linked
left_linked_fewer c x = range_fewer (λ s. not (empty (filter (λ t. is_link c x (s, t)) (range c.rights)))) c.lefts

pub right_linked_fewer : (c : Relation) (x : ℕ) → right_linked c x ≤ c.rights
unfolding right_linked
right_linked_fewer c x = range_fewer (λ t. not (empty (filter (λ s. is_link c x (s, t)) (range c.lefts)))) c.rights

pub lefts_present_fewer : (c : Relation) → lefts_present c ≤ c.lefts
unfolding lefts_present
lefts_present_fewer c = range_fewer c.left_present c.lefts

pub rights_present_fewer : (c : Relation) → rights_present c ≤ c.rights
unfolding rights_present
rights_present_fewer c = range_fewer c.right_present c.rights

pub condition_count_fewer : (c : Relation) (x : ℕ) → condition_count c x ≤ c.conditions
unfolding condition_count
condition_count_fewer c x = range_fewer (has c.conditions x) c.conditions

pub fields_fit : (c : Relation) → Sound c → (x : ℕ) → x < 2 ^ c.conditions → AllByRecursion (λ f. f < 2 ^ 32) (candidate_fields (candidate_body c x))
unfolding candidate_body
fields_fit c sound x h =
    let width : 2 ^ c.conditions ≤ 2 ^ 64 = pow_mono sound.few_conditions in
    let area : c.lefts * c.rights ≤ 2048 * 2048 = mul-le-mul sound.few_lefts sound.few_rights in
    let lower : x % 4294967296 < 2 ^ 32 = omega arith in
    let upper : x / 4294967296 < 2 ^ 32 = omega arith in
    let linked : length (links c x) < 2 ^ 32 = omega (arith, links_fewer c x) in
    let left : left_linked c x < 2 ^ 32 = omega (arith, left_linked_fewer c x, sound.few_lefts) in
    let right : right_linked c x < 2 ^ 32 = omega (arith, right_linked_fewer c x, sound.few_rights) in
    let lefts : lefts_present c < 2 ^ 32 = omega (arith, lefts_present_fewer c, sound.few_lefts) in
    let rights : rights_present c < 2 ^ 32 = omega (arith, rights_present_fewer c, sound.few_rights) in
    let conditions : condition_count c x < 2 ^ 32 = omega (arith, condition_count_fewer c x, sound.few_conditions) in
    (lower, (upper, (linked, (left, (right, (lefts, (rights, (conditions, tt))))))))

-- Fields that fit four bytes give bytes.
bytes_small : (fs : List ℕ) → AllByRecursion (λ f. f < 2 ^ 32) fs → AllByRecursion (λ b. b < 256) (bytes_of fs)
bytes_small [] h = tt
bytes_small (f ∷ fs) h = let small = h.0 in (omega arith, (omega arith, (omega arith, (omega arith, bytes_small fs h.1))))

pub records_are_bytes : (c : Relation) → Sound c → (x : ℕ) → x < 2 ^ c.conditions → (length (candidate_bytes c x) ≡ 32) × AllByRecursion (λ b. b < 256) (candidate_bytes c x)
unfolding candidate_bytes
records_are_bytes c sound x h =
    let fs = candidate_fields (candidate_body c x) in
    (length_bytes_of fs, bytes_small fs (fields_fit c sound x h))
