-- The running meet over a list of codes is the widening.
use Rattle.std.proofs.Common.{◌≡◌, ℕ, ◌^◌, ◌<◌, ◌≤◌, Bool, true, false, cond, ◌&&◌, eqb, List, [], ◌∷◌, fold, filter, sym, refl, ap, ◌∙◌, le_trans, le_refl, lt_of_le_of_lt}
use lib.Bits.{bit_and, and_le_l, and_comm}
use Rattle.lattice.specs.Sets.{every, has, whole, includes}
use Rattle.lattice.specs.Widening.{including, widening, running_meet}
use Rattle.lattice.proofs.Closures.{has_widening, widening_below}
use Rattle.lattice.proofs.Conditions.{has_meet, has_whole, whole_below, same_conditions, includes_and}
use Rattle.lattice.proofs.Filters.{kept_alike}

both_assoc : (a b c : Bool) → (a && b) && c ≡ a && (b && c)
both_assoc true b c = refl
both_assoc false b c = refl

both_true : (a : Bool) → a ≡ a && true
both_true true = refl
both_true false = refl

-- A condition of the running meet is one of its start and of every code that was met.
has_folded : (k : ℕ) (p : ℕ → Bool) (codes : List ℕ) (start i : ℕ) → has k (fold (λ all c. cond (p c) (bit_and all c) all) start codes) i ≡ has k start i && every (λ c. has k c i) (filter p codes)
has_folded k p [] start i = both_true (has k start i)
has_folded k p (c ∷ codes) start i = go (p c) (λ s. has_folded k p codes s i)
  where
    go : (b : Bool)
        → ((s : ℕ) → has k (fold (λ all c. cond (p c) (bit_and all c) all) s codes) i ≡ has k s i && every (λ c. has k c i) (filter p codes))
        → has k (fold (λ all c. cond (p c) (bit_and all c) all) (cond b (bit_and start c) start) codes) i ≡ has k start i && every (λ c. has k c i) (cond b (c ∷ filter p codes) (filter p codes))
    go true more =
        more (bit_and start c)
        ∙ ap (λ (b : Bool). b && every (λ c. has k c i) (filter p codes)) (has_meet k start c i)
        ∙ both_assoc (has k start i) (has k c i) (every (λ c. has k c i) (filter p codes))
    go false more = more start

folded_le : (p : ℕ → Bool) (codes : List ℕ) (start : ℕ) → fold (λ all c. cond (p c) (bit_and all c) all) start codes ≤ start
folded_le p [] start = le_refl start
folded_le p (c ∷ codes) start = go (p c) (folded_le p codes)
  where
    go : (b : Bool) → ((s : ℕ) → fold (λ all c. cond (p c) (bit_and all c) all) s codes ≤ s) → fold (λ all c. cond (p c) (bit_and all c) all) (cond b (bit_and start c) start) codes ≤ start
    go true more = le_trans (more (bit_and start c)) (and_le_l start c)
    go false more = more start

running_below : (k : ℕ) (codes : List ℕ) (x : ℕ) → running_meet (whole k) codes x < 2 ^ k
unfolding running_meet
running_below k codes x = lt_of_le_of_lt (folded_le (λ c. eqb (bit_and c x) x) codes (whole k)) (whole_below k)

-- The codes that are met are those that include x.
kept_including : (k : ℕ) (codes : List ℕ) (x : ℕ) → x < 2 ^ k → filter (λ c. eqb (bit_and c x) x) codes ≡ including k x codes
unfolding including
kept_including k codes x h =
    kept_alike (λ c. eqb (bit_and c x) x) (includes k x) codes (λ c m. ap (λ (v : ℕ). eqb v x) (and_comm c x) ∙ sym (includes_and k x c h))

pub running_widens : (k : ℕ) (codes : List ℕ) (x : ℕ) → x < 2 ^ k → running_meet (whole k) codes x ≡ widening k codes x
unfolding running_meet
running_widens k codes x h =
    same_conditions k (running_meet (whole k) codes x) (widening k codes x) (running_below k codes x) (widening_below k codes x)
    (λ i l.
    has_folded k (λ c. eqb (bit_and c x) x) codes (whole k) i
    ∙ ap (λ (b : Bool). b && every (λ c. has k c i) (filter (λ c. eqb (bit_and c x) x) codes)) (has_whole k i l)
    ∙ ap (λ (ds : List ℕ). every (λ c. has k c i) ds) (kept_including k codes x h)
    ∙ sym (has_widening k codes x i l))
