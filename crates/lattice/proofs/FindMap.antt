-- What `find_map` through a range finds.
use Rattle.std.proofs.Common.{◌≡◌, ℕ, ◌+◌, ◌-◌, ◌<◌, ◌≤◌, true, Some, None, Option, MatchOption, IfSome, ap, ◌∙◌, subst, arith}
use denote.Param.Members.{Mut, Called}
use Rattle.std.specs.declared.ops.Range.{Range}
use Rattle.std.specs.Iterator.Runs.{Run, CallKeepsClosure, SomeRun, AllItemsGive, IsFirstToGive}
use Rattle.std.specs.Option.{option_map, IsSomeAnd}
use Rattle.std.proofs.iter.Yields.{nat_range_steps}
use Rattle.std.proofs.iter.runs.Sources.{range_runs}
use Rattle.std.proofs.lemmas.Option.{none-some, same_Some}

at_place : (o : Option ℕ) (k : ℕ) (P : ℕ → Type 0) → option_map (λ y. y) o ≡ Some k → IfSome o P → P k
at_place None k P e h = absurd (none-some k e)
at_place (Some x) k P e h = subst P (same_Some x k e) h

if_some : (o : Option ℕ) (P : ℕ → Type 0) → IsSomeAnd o P → IfSome o P
if_some None P h = elim h [ ]
if_some (Some x) P h = h

-- each call answers by Fact, and leaves the closure as it was
module _ {F B : Type 0} {g : Mut F (ℕ × Unit {0}) (Option B)} (s : Range ℕ) (f : F) (Fact : ℕ → Option B → Type 0) (answers : (x : ℕ) (o : Option B) (q : F) → Called g f (x, tt) o q → (q ≡ f) × Fact x o) where
  -- the first place at which it found something, or none at all
  abbrev pub FoundFirst : Option B → Type 0
  FoundFirst r =
      MatchOption r ((k : ℕ) → s.start ≤ k → k < s.end → Fact k None) (λ y. (i : ℕ) × (s.start ≤ i) × (i < s.end) × Fact i (Some y) × ((k : ℕ) → s.start ≤ k → k < i → Fact k None))

  -- the k-th item of a run from s, and what was answered there
  module _ (p : Run nat_range_steps) (from : p.from ≡ s) where
    keeps : CallKeepsClosure g f
    keeps a o q h = (answers a.0 o q h).0

    start : p.from.start ≡ s.start
    start = ap (λ (r : Range ℕ). r.start) from

    item : (k : ℕ) → s.start ≤ k → k - s.start < p.len → option_map (λ y. y) (p.at (k - s.start)) ≡ Some k
    item k l u = (range_runs p p.seen).3 (k - s.start) u ∙ ap Some (omega (arith, start))

    none_at : (k : ℕ) → s.start ≤ k → k - s.start < p.len → IfSome (p.at (k - s.start)) (λ x. Called g f (x, tt) None f) → Fact k None
    none_at k l u h = (answers k None f (at_place (p.at (k - s.start)) k (λ x. Called g f (x, tt) None f) (item k l u) h)).1

  pub found_first : (r : Option B) → SomeRun nat_range_steps s (λ p. MatchOption r ((p.whole ≡ true) × AllItemsGive p g f None) (λ y. (i : ℕ) × (i < p.len) × (p.len ≡ i + 1) × IsFirstToGive p g f (Some y) None i)) → FoundFirst r
  found_first None run =
      let p = run.0 in
      let long : p.len ≡ s.end - s.start = (range_runs p p.seen).1 run.2.0 ∙ ap (λ (r : Range ℕ). r.end - r.start) run.1 in
      λ k l u. none_at p run.1 k l (omega arith) (run.2.1 (keeps p run.1) (k - s.start))
  found_first (Some y) run =
      let p = run.0 in
      let i = run.2.0 in
      let long : p.len ≤ s.end - s.start = omega (arith, (range_runs p p.seen).0, ap (λ (r : Range ℕ). r.end - r.start) run.1) in
      let first = run.2.3 (keeps p run.1) in
      let k : ℕ = s.start + i in
      let place : option_map (λ y. y) (p.at i) ≡ Some k = (range_runs p p.seen).3 i run.2.1 ∙ ap Some (omega (arith, start p run.1)) in (
        k,
        omega arith,
        omega arith,
        (answers k (Some y) f (at_place (p.at i) k (λ x. Called g f (x, tt) (Some y) f) place (if_some (p.at i) _ first.0))).1,
        λ j l u. none_at p run.1 j l (omega arith) (if_some (p.at (j - s.start)) _ (first.1 (j - s.start) (omega arith))),
      )
