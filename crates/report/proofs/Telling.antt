-- What a take with just the space for a record tells, and what is read back of it.
use Rattle.std.proofs.Common.{◌≡◌, ℕ, ◌+◌, ◌*◌, ◌/◌, ◌%◌, ◌<◌, ◌≤◌, min, Bool, true, false, cond, ltb, List, [], ◌∷◌, ◌++◌, length, get_or, None, Ok, Err, is_ok, Option, Result, String, refl, ap, ◌∙◌, subst, arith}
use Rattle.std.specs.declared.alloc.Global.{Global}
use Rattle.std.proofs.lemmas.List.{append-nil, drop_all}
use Rattle.std.proofs.lemmas.Bool.{ltb-true, ltb-false, lt-ltb}
use Rattle.contexts.specs.Relation.{Relation}
use Rattle.listings.specs.Calls.{take_at, total_now, handed, ended, refused, totalled}
use Rattle.listings.specs.Candidates.{candidates}
use Rattle.listings.specs.Counts.{candidate_body, candidate_bytes}
use Rattle.listings.specs.Replies.{candidate_count, reply}
use Rattle.listings.specs.Refusals.{take_refusal, total_refusal}
use Rattle.listings.specs.View.{taken_of, total_of}
use Rattle.listings.specs.declared.call.Taken.{Taken}
use Rattle.listings.specs.declared.fault.TakeFault.{TakeFault}
use Rattle.listings.specs.declared.fault.TotalFault.{TotalFault}
use Rattle.records.specs.Kinds.{candidate_fields, candidate_of, any_body}
use Rattle.records.specs.Reading.{read_answer}
use Rattle.records.specs.Refusals.{Refusal}
use Rattle.records.specs.Writing.{put_at}
use Rattle.records.specs.declared.kinds.candidate.Candidate.{Candidate}
use Rattle.records.proofs.Bytes.{fields_in_bytes, length_bytes_of}
use Rattle.report.specs.Candidates.{Told}

-- 32 bytes, all 0
abbrev pub blank : List ℕ
blank = 0 ∷ 0 ∷ 0 ∷ 0 ∷ 0 ∷ 0 ∷ 0 ∷ 0 ∷ 0 ∷ 0 ∷ 0 ∷ 0 ∷ 0 ∷ 0 ∷ 0 ∷ 0 ∷ 0 ∷ 0 ∷ 0 ∷ 0 ∷ 0 ∷ 0 ∷ 0 ∷ 0 ∷ 0 ∷ 0 ∷ 0 ∷ 0 ∷ 0 ∷ 0 ∷ 0 ∷ 0 ∷ []

module _ (c : Relation) (w : ℕ) where
  here : ℕ
  here = get_or (candidates c) w 0

  whole : put_at 0 (candidate_bytes c (get_or (candidates c) w 0)) blank ≡ candidate_bytes c (get_or (candidates c) w 0)
  unfolding candidate_bytes here
  whole =
      let bs = candidate_bytes c here in
      ap (λ (v : List ℕ). bs ++ v) (drop_all (0 + length bs) blank (omega (arith, length_bytes_of (candidate_fields (candidate_body c here))))) ∙ append-nil bs

  pub handed_tells : (b : List ℕ) → handed b ≡ reply c w (take_at 0 blank) → (w < candidate_count c) × (b ≡ candidate_bytes c (get_or (candidates c) w 0))
  unfolding reply
  handed_tells b e = go (ltb w (candidate_count c)) refl e
    where
      go : (t : Bool) → ltb w (candidate_count c) ≡ t → handed b ≡ cond t (handed (put_at 0 (candidate_bytes c (get_or (candidates c) w 0)) blank)) (ended blank) → (w < candidate_count c) × (b ≡ candidate_bytes c (get_or (candidates c) w 0))
      go true h f = let same : b ≡ put_at 0 (candidate_bytes c (get_or (candidates c) w 0)) blank = cc in (ltb-true w (candidate_count c) h, same ∙ whole)
      go false h f = let z : ◌≡◌ {A = ℕ} 0 1 = cc in absurd (omega arith)

  pub ended_tells : (b : List ℕ) → ended b ≡ reply c w (take_at 0 blank) → candidate_count c ≤ w
  unfolding reply
  ended_tells b e = go (ltb w (candidate_count c)) refl e
    where
      go : (t : Bool) → ltb w (candidate_count c) ≡ t → ended b ≡ cond t (handed (put_at 0 (candidate_bytes c (get_or (candidates c) w 0)) blank)) (ended blank) → candidate_count c ≤ w
      go true h f = let z : ◌≡◌ {A = ℕ} 0 1 = cc in absurd (omega arith)
      go false h f = ltb-false w (candidate_count c) h

  pub never_refused : (n : Refusal) (b : List ℕ) → refused n b ≡ reply c w (take_at 0 blank) → ⊥
  unfolding reply
  never_refused n b e = go (ltb w (candidate_count c)) e
    where
      go : (t : Bool) → refused n b ≡ cond t (handed (put_at 0 (candidate_bytes c (get_or (candidates c) w 0)) blank)) (ended blank) → ⊥
      go true f = let z : ◌≡◌ {A = ℕ} 0 1 = cc in omega arith
      go false f = let z : ◌≡◌ {A = ℕ} 0 1 = cc in omega arith

pub always_taken : (c : Relation) (w : ℕ) (r : Result Taken TakeFault) (b : List ℕ) → taken_of r b ≡ reply c w (take_at 0 blank) → is_ok r ≡ true
always_taken c w (Ok t) b e = refl
always_taken c w (Err f) b e = absurd (never_refused c w (take_refusal f) b e)

body_back : (b : Candidate) → candidate_of (candidate_fields b) ≡ b
body_back b =
    let code : b.code % 4294967296 + b.code / 4294967296 * 4294967296 ≡ b.code = omega arith in
    λ i. record { code = code i; links = b.links; left_linked = b.left_linked; right_linked = b.right_linked; left_present = b.left_present; right_present = b.right_present; conditions = b.conditions }

-- the record of a candidate reads as the candidate
pub reads_candidate : (c : Relation) (x : ℕ) (b : List ℕ) → b ≡ candidate_bytes c x → read_answer candidate_of any_body 32 b 0 ≡ Ok (candidate_body c x)
unfolding candidate_bytes
reads_candidate c x b e =
    let fs = candidate_fields (candidate_body c x) in
    ap (λ (v : List ℕ). read_answer candidate_of any_body 32 v 0) e ∙ ap {B = Result Candidate Refusal} Ok (ap candidate_of (fields_in_bytes fs) ∙ body_back (candidate_body c x))

-- past the end the total is told
pub total_told : (c : Relation) (w : ℕ) (n : Refusal) (b : List ℕ) → candidate_count c < w → refused n b ≡ reply c w total_now → ⊥
unfolding reply
total_told c w n b h e =
    let told = e ∙ ap (λ (t : Bool). cond t (totalled (candidate_count c)) (refused (28, 0) [])) (lt-ltb (candidate_count c) w h) in
    let z : ◌≡◌ {A = ℕ} 0 1 = cc in
    omega arith

pub always_totalled : (c : Relation) (w : ℕ) (r : Result ℕ TotalFault) → candidate_count c < w → total_of r ≡ reply c w total_now → is_ok r ≡ true
always_totalled c w (Ok n) h e = refl
always_totalled c w (Err f) h e = absurd (total_told c w (total_refusal f) [] h e)

-- a listing that has no line left has ended
pub ended_after : (c d : Relation) (w v : ℕ) (o : Option (String Global)) → d ≡ c → v ≡ min (w + 1) (candidate_count c + 1) → o ≡ None → Told c w (Ok o) → candidate_count d < v
ended_after c d w v o same level none told =
    let all : candidate_count c ≤ w = subst (λ (p : Option (String Global)). Told c w (Ok p)) none told in
    omega (arith, ap candidate_count same)
