use Rattle.std.proofs.Common.{ℕ, List, [], ◌++◌, map, vec_items, ap, ◌∙◌, arith}
use Rattle.lattice.specs.Sets.{range}
use Rattle.drafts.specs.Preparing.{coded_from, prepared_code}
use Rattle.drafts.proofs.Pairing.{rows_push}
use Rattle.drafts.proofs.draft.prepared.PreparedDraft.coded_pairs.Goals as goal

pub loop-s-preserved : goal.loop-s-preserved
loop-s-preserved c =
    let v = c.args.self.now in
    let s = c.loop-s.s in
    record {
      long = omega (arith, c.write_row.auto.row, c.loop-s.invariant.long);
      pushed = rows_push (λ s. coded_from s 0 (map (prepared_code (vec_items v.comparisons) s) (range v.rights))) (vec_items c.loop-s.pairs) (vec_items c.push_row.new.pairs) [] s
          c.loop-s.invariant.pushed
          (c.in_ok-push_row.ensures ∙ ap (λ (codes : List ℕ). vec_items c.loop-s.pairs ++ coded_from s 0 codes) c.write_row.ensures);
    }
