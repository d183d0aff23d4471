use Rattle.std.proofs.Common.{◌≡◌, ◌+◌, ◌*◌, ◌≤◌, length, is_ok, Ok, ap, ◌∙◌}
use Rattle.std.proofs.lemmas.Option.{MatchOption-at_some}
use Rattle.records.specs.Fields.{bytes_of}
use Rattle.records.specs.Refusals.{read_refusal}
use Rattle.records.specs.Trips.{read_back_answer}
use Rattle.records.specs.Writing.{put_at}
use Rattle.records.proofs.Trips.{read_back, told_ok}
use Rattle.records.proofs.round_trip.reads_back.Given as given
use Rattle.records.proofs.round_trip.reads_back.Goals as goal
use Rattle.records.proofs.round_trip.reads_back.Goals.{After-read}

-- what was written reads back, and where it was written
written : (g : given.Over) (c : After-read g) →
    let k = g.K.Record in
    let b = c.args.body.now in
    let xs = c.args.out.now in
    (c.read.result ≡ Ok b)
    × (Ok b ≡ read_back_answer k.allowed k.size c.args.i b xs)
    × (c.write.new.out ≡ put_at (c.args.i * k.size) (bytes_of (k.fields b)) xs)
written g c =
    let k = g.K.Record in
    let b = c.args.body.now in
    let w = c.in_ok-write.ensures in
    let place = MatchOption-at_some _ (λ at. (at ≡ c.args.i * c.stride.result) × (at + c.stride.result ≤ length c.args.out.now)) c.in_ok-at.at c.in_ok-at.ensures.ok_part c.offset.ensures in
    let back = read_back k.made k.fields k.allowed k.size c.args.i c.in_ok-at.at c.stride.result b c.args.out.now c.write.new.out _ (g.met.K.Record.whole b) (g.met.K.Record.carried b) c.stride.ensures place.0 w.answer w.after in
    (told_ok read_refusal c.read.result b (c.read.ensures ∙ back.0), back.1, back.2)

pub unwrap-requires : goal.unwrap-requires
unwrap-requires g c = ap is_ok (written g c).0

pub returns : goal.returns
returns g c =
    let back = written g (goal.at.returns g c).After-read in
    let given = c.unwrap.ensures in
    let told = back.0 in
    let same : c.unwrap.result ≡ c.args.body.now = cc in
    record { answer = ap Ok same ∙ back.1; after = back.2 }
