use Rattle.std.proofs.Common.{ℕ, List, vec_items, sym, subst, inl, inr}
use Rattle.tables.specs.RegisterSearch.{Rising, Span}
use Rattle.tables.proofs.Ordering.{rising}
use Rattle.tables.specs.Spans.{span_between, span_outside}
use Rattle.tables.specs.Triples.{Allowed, allowed_from}
use Rattle.tables.proofs.register.RegisterFile.span.Goals as goal
use Rattle.tables.proofs.register.RegisterFile.span.Goals.{then-s-self-via-then-s-self, then-s-self-via-else-s-self+then-p-self}

pub returns-then-s-self : goal.returns-then-s-self
returns-then-s-self c =
    let t = c.args.self.now in
    span_outside (vec_items t.bytes) t.subjects t.properties c.args.s c.args.p (allowed_from _ _ _ t.allowed)
    (elim c.then-s-self.branch [ then-s-self-via-then-s-self w ↦ inl w.if-s-self.true | then-s-self-via-else-s-self+then-p-self w ↦ inr w.if-p-self.true ])

pub floor-requires : goal.floor-requires
floor-requires c =
    let t = c.args.self.now in
    subst Rising (sym c.as_slice-bytes.ensures.value) (rising (vec_items t.bytes) t.subjects t.properties (allowed_from _ _ _ t.allowed))

pub floor-requires-2 : goal.floor-requires-2
floor-requires-2 c =
    let t = c.args.self.now in
    subst Rising (sym c.as_slice-bytes.ensures.value) (rising (vec_items t.bytes) t.subjects t.properties (allowed_from _ _ _ t.allowed))

pub returns : goal.returns
returns c =
    let t = c.args.self.now in
    let s = c.args.s in
    let p = c.args.p in
    let low = c.floor.result in
    let high = c.floor-2.result in
    let ys = c.as_slice-bytes.result.now in
    let same = c.as_slice-bytes.ensures.value in
    let A : List ℕ → Type 0 = λ zs. Allowed zs t.subjects t.properties in
    let S : List ℕ → Type 0 = λ zs. Span zs s p low high in
    let h : Allowed ys t.subjects t.properties = subst A (sym same) (allowed_from _ _ _ t.allowed) in
    subst S same
    (span_between ys t.subjects t.properties s p low high h c.if-p-self.false
    c.floor.ensures.within c.floor.ensures.below c.floor.ensures.from
    c.floor-2.ensures.within c.floor-2.ensures.below c.floor-2.ensures.from)
