-- A sound relation is what its coded pairs hold, and they give its links.
use Rattle.std.proofs.Common.{◌≡◌, ℕ, ◌*◌, ◌^◌, ◌<◌, ◌≤◌, Bool, true, false, cond, ◌&&◌, eqb, ltb, List, [], ◌∷◌, map, length, get_or, filter, sym, refl, ap, ◌∙◌, ap₂, ⊎_elim, arith, pow_pos}
use mathlib.Core.List.{map-map}
use lib.Bits.{bit_and, and_comm}
use lib.ListN.{length-map}
use Rattle.std.specs.List.{ContainsAt as Has, AllByRecursion}
use Rattle.std.proofs.lemmas.List.FromFn.{length-map-range_with_len, get_or-map-range_with_len}
use Rattle.std.proofs.ByRecursion.{All-map, all_kept_by}
use Rattle.std.proofs.lemmas.List.{map-id, get_or_past}
use Rattle.std.proofs.lemmas.Bool.{and_parts, and_from, and_left, and_right, both_ways, true≢false, not-true, not-false, not_from_false, cases_Bool, cases_lt, cond_both, cond-false, eqb-true, eqb-false, eq-eqb, ne_eqb, ltb-true, lt-ltb}
use Rattle.contexts.specs.Pairs.{pairs, pair_code, has_code, coded, coded_pairs}
use Rattle.contexts.specs.Relation.{Relation, Sound}
use Rattle.contexts.specs.declared.coded_pair.CodedPair.{CodedPair}
use Rattle.contexts.proofs.Coding.{coded_among}
use Rattle.lattice.specs.Sets.{range, empty, includes}
use Rattle.lattice.proofs.Conditions.{includes_and, includes_le}
use Rattle.lattice.proofs.Filters.{same_tests, every_kept, kept_alike, kept_map_kept, every_map}
use Rattle.listings.specs.Copied.{code_among, copied, Few, all_below, linking, subjects_of}
use Rattle.listings.specs.Links.{both_present, is_link, links}
use Rattle.listings.proofs.Fitting.{kept_fewer, length_rows}
use Rattle.listings.proofs.Linking.{has_kept, Within, rows_within, rows_have}

-- The coded pairs are pairs of numbers in range, with codes of the conditions.
pub coded_within : (c : Relation) → AllByRecursion (λ (p : CodedPair). (p.left < c.lefts) × (p.right < c.rights)) (coded_pairs c)
unfolding coded_pairs pairs
coded_within c =
    All-map (λ (p : CodedPair). (p.left < c.lefts) × (p.right < c.rights)) (coded c) (filter (has_code c) (pairs c))
    (all_kept_by (has_code c) (Within c.lefts c.rights) (pairs c) (rows_within c.lefts c.rights 0 c.lefts (omega arith)))

pub coded_fewer : (c : Relation) → length (coded_pairs c) ≤ c.lefts * c.rights
unfolding coded_pairs pairs
coded_fewer c =
    omega (arith, length-map (filter (has_code c) (pairs c)) (coded c), kept_fewer (has_code c) (pairs c), length_rows c.rights 0 c.lefts)

pub coded_below : (c : Relation) → Sound c → all_below c.conditions (coded_pairs c) ≡ true
unfolding coded_pairs
coded_below c sound =
    every_map (λ (p : CodedPair). ltb p.code (2 ^ c.conditions)) (coded c) (filter (has_code c) (pairs c))
    ∙ every_kept (has_code c) (λ p. ltb (pair_code c p) (2 ^ c.conditions)) (pairs c) (λ p m e. lt-ltb (pair_code c p) (2 ^ c.conditions) (sound.codes_below p.0 p.1))

-- Whether a pair is s and t.
abbrev is_pair : ℕ → ℕ → ℕ × ℕ → Bool
is_pair s t p = eqb p.0 s && eqb p.1 t

pair_is : (c : Relation) (s t : ℕ) (p : ℕ × ℕ) → is_pair s t p ≡ true → pair_code c p ≡ c.code s t
pair_is c s t p e =
    let both = and_parts (eqb p.0 s) (eqb p.1 t) e in
    ap₂ (λ (a b : ℕ). c.code a b) (eqb-true p.0 s both.0) (eqb-true p.1 t both.1)

-- The code of a pair among the coded ones of some pairs is its own where it is one of them.
among_coded : (c : Relation) (ps : List (ℕ × ℕ)) (s t : ℕ) → code_among (coded_among c ps) s t ≡ cond (empty (filter (is_pair s t) ps)) 0 (c.code s t)
among_coded c [] s t = refl
among_coded c (p ∷ ps) s t = go (has_code c p) (λ e. eqb-true (pair_code c p) 0 (not-false (eqb (pair_code c p) 0) e)) (among_coded c ps s t)
  where
    same : List (ℕ × ℕ)
    same = filter (is_pair s t) ps

    cond_zero : (b : Bool) (n : ℕ) → n ≡ 0 → cond b 0 n ≡ n
    cond_zero true n e = sym e
    cond_zero false n e = refl

    kept : (b : Bool) (n : ℕ) → (b ≡ true → pair_code c p ≡ c.code s t) → n ≡ cond (empty same) 0 (c.code s t) → cond b (pair_code c p) n ≡ cond (empty (cond b (p ∷ same) same)) 0 (c.code s t)
    kept true n is more = is refl
    kept false n is more = more

    left : (b : Bool) (n : ℕ) → pair_code c p ≡ 0 → (b ≡ true → pair_code c p ≡ c.code s t) → n ≡ cond (empty same) 0 (c.code s t) → n ≡ cond (empty (cond b (p ∷ same) same)) 0 (c.code s t)
    left true n none is more = more ∙ cond_zero (empty same) (c.code s t) (sym (is refl) ∙ none)
    left false n none is more = more

    go : (b : Bool) → (b ≡ false → pair_code c p ≡ 0) → code_among (coded_among c ps) s t ≡ cond (empty same) 0 (c.code s t) → code_among (map (coded c) (cond b (p ∷ filter (has_code c) ps) (filter (has_code c) ps))) s t ≡ cond (empty (cond (is_pair s t p) (p ∷ same) same)) 0 (c.code s t)
    go true none more = kept (is_pair s t p) (code_among (coded_among c ps) s t) (pair_is c s t p) more
    go false none more = left (is_pair s t p) (code_among (coded_among c ps) s t) (none refl) (pair_is c s t p) more

-- A list is not empty just where it has an element.
pub has_some : {X : Type 0} (xs : List X) (x : X) → Has xs x → empty xs ≡ false
has_some [] x m = let h = m.1 in absurd (omega arith)
has_some (y ∷ ys) x m = refl

pub some_has : {X : Type 0} (xs : List X) → empty xs ≡ false → (x : X) × Has xs x
some_has [] e = absurd (true≢false e)
some_has (x ∷ xs) e = (x, (0, omega arith, λ d. refl))

code_within : (c : Relation) (s t : ℕ) → s < c.lefts → t < c.rights → code_among (coded_pairs c) s t ≡ c.code s t
unfolding coded_pairs pairs
code_within c s t h l =
    let m = rows_have c.rights 0 c.lefts s t (omega arith) (omega arith) l in
    let there = has_some _ (s, t) (has_kept (is_pair s t) (pairs c) (s, t) m (and_from (eqb s s) (eqb t t) (eq-eqb s s refl) (eq-eqb t t refl))) in
    among_coded c (pairs c) s t ∙ cond-false (empty (filter (is_pair s t) (pairs c))) 0 (c.code s t) there

-- The marks of a side say who is present.
marks_say : (present : ℕ → Bool) (n : ℕ) → ((s : ℕ) → n ≤ s → present s ≡ false) → (s : ℕ) → get_or (map present (range n)) s false ≡ present s
marks_say present n beyond s =
    ⊎_elim (λ l. get_or-map-range_with_len present 0 n s s false l (omega arith))
    (λ l. get_or_past (map present (range n)) s false (omega (arith, length-map-range_with_len present 0 n)) ∙ sym (beyond s l)) (cases_lt s n)

present_below : (present : ℕ → Bool) (n : ℕ) → ((s : ℕ) → n ≤ s → present s ≡ false) → (s : ℕ) → present s ≡ true → s < n
present_below present n beyond s e = ⊎_elim (λ l. l) (λ l. absurd (both_ways (present s) (beyond s l) e)) (cases_lt s n)

code_said : (c : Relation) → Sound c → (s t : ℕ) (a b : Bool) → a ≡ c.left_present s → b ≡ c.right_present t → cond (a && b) (code_among (coded_pairs c) s t) 0 ≡ c.code s t
code_said c sound s t false b e f = sym (sound.left_absent_none s t (sym e))
code_said c sound s t true false e f = sym (sound.right_absent_none s t (sym f))
code_said c sound s t true true e f =
    code_within c s t (present_below c.left_present c.lefts sound.left_absent_beyond s (sym e))
    (present_below c.right_present c.rights sound.right_absent_beyond t (sym f))

pub copied_is : (c : Relation) → Sound c → copied (map c.left_present (range c.lefts)) (map c.right_present (range c.rights)) c.conditions (coded_pairs c) ≡ c
unfolding copied
copied_is c sound =
    let left = marks_say c.left_present c.lefts sound.left_absent_beyond in
    let right = marks_say c.right_present c.rights sound.right_absent_beyond in
    λ i. record {
      lefts = length-map-range_with_len c.left_present 0 c.lefts i;
      rights = length-map-range_with_len c.right_present 0 c.rights i;
      conditions = c.conditions;
      left_present = λ s. left s i;
      right_present = λ t. right t i;
      code = λ s t. code_said c sound s t _ _ (left s) (right t) i;
    }

among_below : (k : ℕ) (ps : List CodedPair) (s t : ℕ) → all_below k ps ≡ true → code_among ps s t < 2 ^ k
among_below k [] s t e = pow_pos k
among_below k (p ∷ ps) s t e =
    let both = and_parts (ltb p.code (2 ^ k)) (all_below k ps) e in
    cond_both (eqb p.left s && eqb p.right t) p.code (code_among ps s t) (λ n. n < 2 ^ k) (λ _. ltb-true p.code (2 ^ k) both.0)
    (λ _. among_below k ps s t both.1)

pub copied_sound : (ls rs : List Bool) (k : ℕ) (ps : List CodedPair) → Few ls rs → k ≤ 64 → all_below k ps ≡ true → Sound (copied ls rs k ps)
unfolding copied
copied_sound ls rs k ps few small below =
    let here : ℕ → ℕ → Bool = λ s t. get_or ls s false && get_or rs t false in
    record {
      few_lefts = few.0;
      few_rights = few.1;
      few_conditions = small;
      left_absent_beyond = λ s h. get_or_past ls s false h;
      right_absent_beyond = λ t h. get_or_past rs t false h;
      codes_below = λ s t. cond_both (here s t) (code_among ps s t) 0 (λ n. n < 2 ^ k) (λ _. among_below k ps s t below) (λ _. pow_pos k);
      left_absent_none = λ s t e. cond-false (here s t) (code_among ps s t) 0 (and_left (get_or ls s false) (get_or rs t false) e);
      right_absent_none = λ s t e. cond-false (here s t) (code_among ps s t) 0 (and_right (get_or ls s false) (get_or rs t false) e);
    }

-- A code that is not 0 is one of present subjects.
code_present : (c : Relation) → Sound c → (p : ℕ × ℕ) → (pair_code c p ≡ 0 → ⊥) → both_present c p ≡ true
unfolding both_present
code_present c sound p some =
    and_from (c.left_present p.0) (c.right_present p.1)
    (⊎_elim (λ e. e) (λ e. absurd (some (sound.left_absent_none p.0 p.1 e))) (cases_Bool (c.left_present p.0)))
    (⊎_elim (λ e. e) (λ e. absurd (some (sound.right_absent_none p.0 p.1 e))) (cases_Bool (c.right_present p.1)))

-- A set with a condition has its links among the pairs with a code.
link_coded : (c : Relation) → Sound c → (x : ℕ) → 0 < x → x < 2 ^ c.conditions → (p : ℕ × ℕ) → is_link c x p ≡ has_code c p && includes c.conditions x (pair_code c p)
unfolding is_link
link_coded c sound x low high p =
    let k = c.conditions in
    let y = pair_code c p in
    same_tests (is_link c x p) (has_code c p && includes k x y)
    (λ e.
    let both = and_parts (both_present c p) (includes k x y) e in
    let up = includes_le k x y high both.1 in
    and_from (has_code c p) (includes k x y) (not_from_false (eqb y 0) (ne_eqb y 0 (λ q. omega arith))) both.1)
    (λ e.
    let both = and_parts (has_code c p) (includes k x y) e in
    and_from (both_present c p) (includes k x y) (code_present c sound p (eqb-false y 0 (not-true (eqb y 0) both.0))) both.1)

pub links_kept : (c : Relation) → Sound c → (x : ℕ) → 0 < x → x < 2 ^ c.conditions → links c x ≡ filter (λ p. has_code c p && includes c.conditions x (pair_code c p)) (pairs c)
unfolding links
links_kept c sound x low high =
    kept_alike (is_link c x) (λ p. has_code c p && includes c.conditions x (pair_code c p)) (pairs c) (λ p m. link_coded c sound x low high p)

pub links_coded : (c : Relation) → Sound c → (x : ℕ) → 0 < x → x < 2 ^ c.conditions → links c x ≡ subjects_of (linking x (coded_pairs c))
unfolding coded_pairs
links_coded c sound x low high =
    let k = c.conditions in
    let test : CodedPair → Bool = λ p. eqb (bit_and p.code x) x in
    let subjects : CodedPair → ℕ × ℕ = λ p. (p.left, p.right) in
    let passing = filter (λ p. has_code c p && test (coded c p)) (pairs c) in
    links_kept c sound x low high
    ∙ kept_alike (λ p. has_code c p && includes k x (pair_code c p)) (λ p. has_code c p && test (coded c p)) (pairs c)
    (λ p m. ap (λ (b : Bool). has_code c p && b) (includes_and k x (pair_code c p) high ∙ ap (λ (v : ℕ). eqb v x) (and_comm x (pair_code c p))))
    ∙ sym (map-id passing)
    ∙ sym (map-map subjects (coded c) passing)
    ∙ ap (map subjects) (sym (kept_map_kept test (coded c) (has_code c) (pairs c)))
