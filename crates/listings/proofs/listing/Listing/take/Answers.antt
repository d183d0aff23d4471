use Rattle.std.proofs.Common.{◌+◌, ◌<◌, ◌≤◌, length, ap, ◌∙◌, arith}
use Rattle.records.specs.Fields.{bytes_of}
use Rattle.records.specs.Kinds.{candidate_fields}
use Rattle.records.specs.Writing.{put_at}
use Rattle.records.proofs.Bytes.{length_bytes_of}
use Rattle.records.proofs.Places.{lent_written}
use Rattle.records.specs.declared.kinds.candidate.Candidate.{Candidate}
use Rattle.listings.specs.Counts.{candidate_bytes}
use Rattle.listings.specs.View.{level, relation_of}
use Rattle.listings.proofs.Levels.{take_cramped, take_ends, take_hands}
use Rattle.listings.proofs.listing.Listing.take.Goals as goal
use Rattle.listings.proofs.listing.Listing.take.Goals.{then-at-out-via-then-at-out, then-at-out-via-else-at-out+then-out-at}

pub returns-then-at-out-clause-reply : goal.returns-then-at-out-clause-reply
returns-then-at-out-clause-reply g c =
    let h : length c.args.out.now < c.args.at + 32 =
    elim c.then-at-out.branch [
      | then-at-out-via-then-at-out w ↦ omega (arith, w.if-at-out.true)
      | then-at-out-via-else-at-out+then-out-at w ↦ omega (arith, w.if-at-out.false, w.if-out-at.true, w.stride.ensures)
    ]
    in
    (take_cramped c.args.self.now c.args.at c.args.out.now h).1

pub returns-clause-reply : goal.returns-clause-reply
unfolding candidate_bytes
returns-clause-reply g c =
    let l = c.args.self.now in
    let h : c.args.at + 32 ≤ length c.args.out.now = omega (arith, c.if-at-out.false, c.if-out-at.false, c.stride.ensures) in
    let e = c.in-Some.ensures in
    let fields = candidate_fields c.in-Some.candidate in
    take_hands (relation_of l) (level l) (level c.advance.new.self) c.args.at c.args.out.now h e.went.level e.found.0 _
    (lent_written c.args.at 32 c.args.out.now (bytes_of fields) (length_bytes_of fields) h c.put.ensures
    ∙ ap (λ (r : Candidate). put_at c.args.at (bytes_of (candidate_fields r)) c.args.out.now) e.found.1)

pub returns-in_default-clause-reply : goal.returns-in_default-clause-reply
returns-in_default-clause-reply g c =
    let l = c.args.self.now in
    let h : c.args.at + 32 ≤ length c.args.out.now = omega (arith, c.if-at-out.false, c.if-out-at.false, c.stride.ensures) in
    let e = c.in_default.ensures in
    take_ends (relation_of l) (level l) (level c.advance.new.self) c.args.at c.args.out.now h e.went.level e.found
