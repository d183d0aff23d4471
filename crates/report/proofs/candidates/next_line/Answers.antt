use Rattle.std.proofs.Common.{◌≡◌, get_or, Ok, Result, sym, ap, ◌∙◌}
use Rattle.records.specs.Refusals.{told, read_refusal}
use Rattle.listings.specs.Candidates.{candidates}
use Rattle.listings.specs.Counts.{candidate_body}
use Rattle.listings.specs.View.{relation_of, level, taken_of}
use Rattle.listings.specs.declared.call.Taken.{Taken}
use Rattle.listings.specs.declared.fault.TakeFault.{TakeFault}
use Rattle.report.specs.Lines.{candidate_line}
use Rattle.report.proofs.Telling.{handed_tells, ended_tells, always_taken, reads_candidate}
use Rattle.report.proofs.candidates.next_line.Goals as goal

pub unwrap-requires : goal.unwrap-requires
unwrap-requires g c =
    let l = c.args.listing.now in
    always_taken (relation_of l) (level l) c.take.result c.take.new.out c.take.ensures.reply

pub returns-in_ok-candidate_line-in-Handed-clause-told : goal.returns-in_ok-candidate_line-in-Handed-clause-told
returns-in_ok-candidate_line-in-Handed-clause-told g c =
    let l = c.args.listing.now in
    let out = c.take.new.out in
    let taken = ap (λ (r : Result Taken TakeFault). taken_of r out) (sym (c.unwrap.ensures ∙ ap Ok c.in-Handed.is)) ∙ c.take.ensures.reply in
    let handed = handed_tells (relation_of l) (level l) out taken in
    let back = reads_candidate (relation_of l) (get_or (candidates (relation_of l)) (level l) 0) out handed.1 in
    let answer = sym (ap (told read_refusal) c.unwrap-candidate.ensures) ∙ c.read.ensures ∙ back in
    let read : c.unwrap-candidate.result ≡ candidate_body (relation_of l) (get_or (candidates (relation_of l)) (level l) 0) = cc in
    (handed.0, c.in_ok-candidate_line-in-Handed.ensures ∙ ap candidate_line read)

pub returns-in-Ended-clause-told : goal.returns-in-Ended-clause-told
returns-in-Ended-clause-told g c =
    let l = c.args.listing.now in
    let out = c.take.new.out in
    ended_tells (relation_of l) (level l) out (ap (λ (r : Result Taken TakeFault). taken_of r out) (sym (c.unwrap.ensures ∙ ap Ok c.in-Ended.is)) ∙ c.take.ensures.reply)
