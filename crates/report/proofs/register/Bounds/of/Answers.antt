use Rattle.report.proofs.Bounding.{bound_more, bound_all}
use Rattle.report.proofs.register.Bounds.of.Goals as goal

pub loop-triple-preserved : goal.loop-triple-preserved
loop-triple-preserved c = (
  bound_more (λ t. t.subject) c.args.triples.now c.loop-triple.triple-index c.loop-triple.subjects c.max-subjects.result _ c.loop-triple-test.true c.max-subjects.ensures c.loop-triple.invariant.0,
  bound_more (λ t. t.property) c.args.triples.now c.loop-triple.triple-index c.loop-triple.properties c.max-properties.result _ c.loop-triple-test.true c.max-properties.ensures c.loop-triple.invariant.1,
)

pub returns : goal.returns
returns c =
    record {
      subjects = bound_all (λ t. t.subject) c.args.triples.now c.loop-triple.triple-index c.loop-triple.subjects c.loop-triple-test.false c.loop-triple.invariant.0;
      properties = bound_all (λ t. t.property) c.args.triples.now c.loop-triple.triple-index c.loop-triple.properties c.loop-triple-test.false c.loop-triple.invariant.1;
    }
