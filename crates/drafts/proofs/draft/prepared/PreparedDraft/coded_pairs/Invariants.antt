use Rattle.std.proofs.Common.{◌≡◌, map, length, vec_items}
use Rattle.std.specs.List.{flat_map}
use Rattle.lattice.specs.Sets.{range}
use Rattle.drafts.specs.Preparing.{coded_from, prepared_code}
use Rattle.drafts.proofs.draft.prepared.PreparedDraft.coded_pairs.Given as goal

abbrev pub invariant-loop-s : goal.invariant-loop-s
invariant-loop-s l = record {
  long : length l.row ≡ l.self.rights;
  pushed : vec_items l.pairs ≡ flat_map (λ s. coded_from s 0 (map (prepared_code (vec_items l.self.comparisons) s) (range l.self.rights))) (range l.s);
}
