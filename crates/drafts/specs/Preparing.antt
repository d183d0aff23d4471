use Rattle.std.specs.Prelude.{◌≡◌, ℕ, zero, suc, ◌+◌, ◌<◌, Bool, false, cond, List, [], ◌∷◌, map, length, vec_items, vec_len, Vec, ◌==◌, slice_index_or}
use Rattle.std.specs.declared.alloc.Global.{Global}
use Rattle.contexts.specs.declared.coded_pair.CodedPair.{CodedPair}
use Rattle.lattice.specs.Sets.{range, code_of}
use Rattle.tables.specs.Meaning.{Meaning}
use Rattle.drafts.specs.Comparisons.{agree}
use Rattle.drafts.specs.declared.comparison.Comparison.{Comparison}
use Rattle.drafts.specs.declared.draft.prepared.Prepared.{Prepared}

-- The lists that are held in memory.
abbrev pub lists : Vec (Vec ℕ Global) Global → List (List ℕ)
lists v = map vec_items (vec_items v)

-- The lists of all subjects of a table at property p, ascending by the subject.
abbrev pub lists_at : Meaning → ℕ → List (List ℕ)
lists_at m p = map (λ s. m.values s p) (range m.subjects)

-- A comparison is prepared: its kind, and the lists of both tables at its properties.
pub record Prepares (left_meaning right_meaning : Meaning) (c : Comparison) (p : Prepared) : Type 0 where
  pub same_kind : p.kind ≡ c.kind
  pub left_lists : lists p.left ≡ lists_at left_meaning c.left
  pub right_lists : lists p.right ≡ lists_at right_meaning c.right

-- All comparisons are prepared, each in its place.
abbrev pub AllPrepared : Meaning → Meaning → List Comparison → List Prepared → Type 0
AllPrepared left_meaning right_meaning [] [] = Unit {0}
AllPrepared left_meaning right_meaning [] (p ∷ ps) = ⊥
AllPrepared left_meaning right_meaning (c ∷ cs) [] = ⊥
AllPrepared left_meaning right_meaning (c ∷ cs) (p ∷ ps) = Prepares left_meaning right_meaning c p × AllPrepared left_meaning right_meaning cs ps

-- There is a list for left subject s, and one for each of so many right subjects.
pub record HasLists (s rights : ℕ) (p : Prepared) : Type 0 where
  pub left_held : s < vec_len p.left
  pub rights_held : vec_len p.right ≡ rights

-- Whether a prepared comparison holds for left subject s and right subject t.
abbrev pub prepared_holds : Prepared → ℕ → ℕ → Bool
prepared_holds p s t = agree p.kind (slice_index_or (lists p.left) s []) (slice_index_or (lists p.right) t [])

-- Whether prepared comparison number i holds; beyond the list there is none.
abbrev pub prepared_at : List Prepared → ℕ → ℕ → ℕ → Bool
prepared_at [] s t i = false
prepared_at (p ∷ ps) s t zero = prepared_holds p s t
prepared_at (p ∷ ps) s t (suc i) = prepared_at ps s t i

-- The code of the prepared comparisons that hold for a pair.
abbrev pub prepared_code : List Prepared → ℕ → ℕ → ℕ
prepared_code ps s t = code_of (length ps) (prepared_at ps s t)

-- The pairs of left subject s that have a code, where these are the codes with the right subjects from t on.
abbrev pub coded_from : ℕ → ℕ → List ℕ → List CodedPair
coded_from s t [] = []
coded_from s t (code ∷ codes) =
    cond (code == 0) (coded_from s (t + 1) codes) (record { left = s; right = t; code = code } ∷ coded_from s (t + 1) codes)
