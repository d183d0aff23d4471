use Rattle.std.specs.Prelude.{◌≡◌, ℕ, ◌+◌, ◌/◌, ◌%◌, ◌<◌, Bool, true, false, cond, ◌⊎◌, List, [], ◌∷◌, map, length, Some, None, filter, Option, ◌==◌, nat_le, nat_lt}
use Rattle.std.specs.List.{slice_get}
use Rattle.records.specs.Kinds.{triple_of}
use Rattle.records.specs.Reading.{bodies}
use Rattle.records.specs.Refusals.{Refusal}
use Rattle.records.specs.declared.kinds.triple.Triple.{Triple}
use Rattle.tables.specs.Meaning.{Meaning}
use Rattle.records.specs.Questions.{ask, first_no}

-- The triples that stand in the bytes, in file order.
unfoldable pub triples_in : List ℕ → List Triple
triples_in xs = bodies triple_of 12 xs

-- Whether a triple is of subject s and property p.
abbrev pub is_of : ℕ → ℕ → Triple → Bool
is_of s p t = cond (t.subject == s) (t.property == p) false

-- The values of the triples of subject s and property p, in file order.
abbrev pub values_of : List Triple → ℕ → ℕ → List ℕ
values_of ts s p = map (λ t. t.value) (filter (is_of s p) ts)

-- What a register file of n subjects and m properties means: every subject is present, and has at a property the values of its triples there, in file order.
abbrev pub register : List ℕ → ℕ → ℕ → Meaning
register xs n m = record {
  subjects = n;
  properties = m;
  present = λ s. nat_lt s n;
  values = values_of (triples_in xs);
}

-- Whether one triple comes before another: by subject, then by property, then by value.
abbrev pub comes_before : Triple → Triple → Bool
comes_before a b =
    cond (a.subject == b.subject) (cond (a.property == b.property) (nat_lt a.value b.value) (nat_lt a.property b.property)) (nat_lt a.subject b.subject)

-- Whether a triple comes after the one before it, if there is one.
abbrev pub follows : Option Triple → Triple → Bool
follows None t = true
follows (Some before) t = comes_before before t

-- The first "no" to triple number k: its subject is below n (5), its property is below m (6), it comes after the one before it (7).
abbrev pub triple_fault : ℕ → ℕ → ℕ → Option Triple → Triple → Option Refusal
triple_fault n m k before t =
    ask (nat_lt t.subject n) (5, k) (ask (nat_lt t.property m) (6, k) (ask (follows before t) (7, k) None))

-- The first "no" to triples that are numbered from k on.
abbrev pub triples_fault : ℕ → ℕ → ℕ → Option Triple → List Triple → Option Refusal
triples_fault n m k before [] = None
triples_fault n m k before (t ∷ ts) = first_no (triple_fault n m k before t) (triples_fault n m (k + 1) (Some t) ts)

-- The first "no" to bytes as a register file of n subjects and m properties.
abbrev pub register_fault : List ℕ → ℕ → ℕ → Option Refusal
register_fault xs n m =
    ask (length xs % 12 == 0) (1, 0)
    (ask (nat_le n 2048) (2, 0)
    (ask (nat_le m 64) (3, 0)
    (ask (nat_le (length xs / 12) 65536) (4, 0) (triples_fault n m 0 None (triples_in xs)))))

-- One triple is before another in the order of subjects, then of properties, then of values.
abbrev pub Before : Triple → Triple → Type 0
Before a b =
    (a.subject < b.subject)
    ⊎ ((a.subject ≡ b.subject) × ((a.property < b.property) ⊎ ((a.property ≡ b.property) × (a.value < b.value))))

-- What every register file keeps: each triple is of a subject below n and a property below m, and an earlier triple is before a later one, so that none stands twice.
pub record Ordered (n m : ℕ) (ts : List Triple) : Type 0 where
  pub within : (i : ℕ) (t : Triple) → slice_get ts i ≡ Some t → (t.subject < n) × (t.property < m)
  pub ascending : (i j : ℕ) (a b : Triple) → i < j → slice_get ts i ≡ Some a → slice_get ts j ≡ Some b → Before a b
  pub once : (i j : ℕ) (t : Triple) → slice_get ts i ≡ Some t → slice_get ts j ≡ Some t → i ≡ j
