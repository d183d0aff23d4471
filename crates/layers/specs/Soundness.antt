-- The folding and the pick layer of a sound meaning are sound. It stands here and not in proofs/: the impls of `Table` cite it, and src/ can cite nothing of its own crate's proofs/.
use Rattle.std.specs.Prelude.{◌≡◌, ℕ, ◌^◌, ◌<◌, ◌≤◌, true, List, [], ◌∷◌, map, length, Some, None, Option, ◌==◌, nat_lt, refl}
use Rattle.std.proofs.Common.{ap, arith}
use Rattle.std.specs.List.{AllByRecursion, slice_get}
use Rattle.std.proofs.ByRecursion.{All-map, All-weaker}
use Rattle.std.proofs.lemmas.List.{length-map}
use Rattle.std.proofs.lemmas.Option.{slice_get_past}
use Rattle.std.proofs.lemmas.Bool.{cond_both, ltb-true, and_parts}
use Rattle.layers.specs.declared.folding_list.Folding.{Folding}
use Rattle.layers.specs.Foldings.{becomes, four_byte_tos}
use Rattle.layers.specs.Layers.{folded_by, picked_by, list_at_pick}
use Rattle.tables.specs.Meaning.{Meaning, Sound}
use Rattle.layers.specs.Held.{foldings, picked}
use Rattle.layers.specs.declared.folding_list.FoldingList.{FoldingList}
use Rattle.layers.specs.declared.picks.Picks.{Picks}

pub becomes_four_byte : (es : List Folding) (v : ℕ) → four_byte_tos es ≡ true → v < 2 ^ 32 → becomes es v < 2 ^ 32
becomes_four_byte [] v h l = l
becomes_four_byte (e ∷ es) v h l =
    let q = and_parts (nat_lt e.to (2 ^ 32)) (four_byte_tos es) h in
    cond_both (e.from == v) e.to (becomes es v) (λ n. n < 2 ^ 32) (λ _. ltb-true e.to (2 ^ 32) q.0) (λ _. becomes_four_byte es v q.1 l)

pub folded_sound : (t : Meaning) (es : List Folding) → four_byte_tos es ≡ true → Sound t → Sound (folded_by t es)
folded_sound t es h sound =
    record {
      few_subjects = sound.few_subjects;
      few_properties = sound.few_properties;
      absent_beyond = sound.absent_beyond;
      empty_if_absent = λ s p e. ap (map (becomes es)) (sound.empty_if_absent s p e);
      empty_beyond = λ s p l. ap (map (becomes es)) (sound.empty_beyond s p l);
      short_lists = λ s p. omega (arith, length-map (t.values s p) (becomes es), sound.short_lists s p);
      four_byte_values = λ s p.
          All-map (λ v. v < 2 ^ 32) (becomes es) (t.values s p) (All-weaker (λ v. v < 2 ^ 32) (λ v. becomes es v < 2 ^ 32) (λ v l. becomes_four_byte es v h l) (t.values s p) (sound.four_byte_values s p));
    }

-- what holds of the empty list and of every list of a subject holds of its list at a pick
pub at_pick : (t : Meaning) (s : ℕ) (P : List ℕ → Type 0) → P [] → ((p : ℕ) → P (t.values s p)) → (pick : Option ℕ) → P (list_at_pick t s pick)
at_pick t s P empty all None = empty
at_pick t s P empty all (Some p) = all p

pub picked_sound : (t : Meaning) (ps : List ℕ) → length ps ≤ 64 → Sound t → Sound (picked_by t ps)
picked_sound t ps few sound =
    record {
      few_subjects = sound.few_subjects;
      few_properties = few;
      absent_beyond = sound.absent_beyond;
      empty_if_absent = λ s j e. at_pick t s (λ xs. xs ≡ []) refl (λ p. sound.empty_if_absent s p e) (slice_get ps j);
      empty_beyond = λ s j l. ap (list_at_pick t s) (slice_get_past ps j l);
      short_lists = λ s j. at_pick t s (λ xs. length xs ≤ 65536) (omega arith) (λ p. sound.short_lists s p) (slice_get ps j);
      four_byte_values = λ s j. at_pick t s (AllByRecursion (λ v. v < 2 ^ 32)) tt (λ p. sound.four_byte_values s p) (slice_get ps j);
    }

-- what a folding list and picks keep is what those ask
pub folding_list_sound : (t : Meaning) (l : FoldingList) → Sound t → Sound (folded_by t (foldings l))
folding_list_sound t l sound = folded_sound t (foldings l) l.narrow sound

pub picks_sound : (t : Meaning) (ps : Picks) → Sound t → Sound (picked_by t (picked ps))
picks_sound t ps sound = picked_sound t (picked ps) (omega (arith, ps.few, ps.numbers.ok.0)) sound
