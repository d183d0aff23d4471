use Rattle.std.proofs.Common.{◌≡◌, ℕ, ◌-◌, ◌/◌, ◌≤◌, min, ◌⊎◌, List, length, take, drop, sym, ap, ◌∙◌, inl, inr, arith}
use Rattle.contexts.specs.declared.coded_pair.CodedPair.{CodedPair}
use Rattle.records.specs.Writing.{put_at}
use Rattle.listings.specs.Copied.{linking, subjects_of}
use Rattle.listings.specs.Links.{links}
use Rattle.listings.specs.Pages.{link_bytes}
use Rattle.listings.specs.View.{relation_of}
use Rattle.listings.proofs.Levels.{page_early, page_later, last_within, links_listed, length_listed}
use Rattle.listings.proofs.Paging.{page_past, page_cramped, page_written}
use Rattle.listings.proofs.listing.Listing.page.Given as given
use Rattle.listings.proofs.listing.Listing.page.Goals as goal
use Rattle.listings.proofs.listing.Listing.page.Goals.{After-count_links-links, else-from-links-2-via-then-from-links-2+else-out-lt-LINK, else-from-links-2-via-else-from-links-2}

pub returns-then-self-eq0 : goal.returns-then-self-eq0
returns-then-self-eq0 g c = page_early c.args.self.now c.args.from c.args.out.now c.if-self-eq0.true

-- As many links were counted as the last code has.
counted : (g : given.Over) (c : After-count_links-links g) → c.count_links-links.result.links ≡ length (links (relation_of c.args.self.now) c.args.self.now.tally.last)
counted g c =
    let l = c.args.self.now in
    let last = last_within l c.if-self-eq0.false in
    c.count_links-links.ensures.links ∙ length_listed l.copy l.tally.last last.0 last.1

pub returns-then-from-links : goal.returns-then-from-links
returns-then-from-links g c =
    let l = c.args.self.now in
    let n = counted g (goal.at.returns-then-from-links g c).After-count_links-links in
    page_past (links (relation_of l) l.tally.last) c.args.from c.args.out.now (omega (arith, c.if-from-links.true))
    ∙ page_later l c.args.from c.args.out.now c.if-self-eq0.false

pub returns-then-out-lt-LINK : goal.returns-then-out-lt-LINK
returns-then-out-lt-LINK g c =
    let l = c.args.self.now in
    let n = counted g (goal.at.returns-then-out-lt-LINK g c).After-count_links-links in
    page_cramped (links (relation_of l) l.tally.last) c.args.from c.args.out.now (omega (arith, c.if-from-links.false)) (λ e. c.if-from-links-2.true (e ∙ sym n)) c.if-out-lt-LINK.true
    ∙ page_later l c.args.from c.args.out.now c.if-self-eq0.false

pub returns : goal.returns
returns g c =
    let l = c.args.self.now in
    let n = counted g (goal.at.returns g c).After-count_links-links in
    let last = last_within l c.if-self-eq0.false in
    let fits : (c.args.from ≡ length (links (relation_of l) l.tally.last)) ⊎ (8 ≤ length c.args.out.now) =
    elim c.else-from-links-2.branch [
      | else-from-links-2-via-then-from-links-2+else-out-lt-LINK w ↦ inr w.if-out-lt-LINK.false
      | else-from-links-2-via-else-from-links-2 w ↦ inl (w.if-from-links-2.false ∙ n)
    ]
    in
    page_written (links (relation_of l) l.tally.last) c.args.from c.min-count.result c.args.out.now c.write_links.new.out (omega (arith, c.if-from-links.false))
    fits
    (c.min-count.ensures ∙ ap (λ (m : ℕ). min (m - c.args.from) (length c.args.out.now / 8)) n)
    (c.write_links.ensures
    ∙ ap (λ (ps : List CodedPair). put_at 0 (link_bytes (take c.min-count.result (drop c.args.from (subjects_of (linking l.tally.last ps))))) c.args.out.now) c.as_slice-pairs.ensures.value
    ∙ ap (λ (ls : List (ℕ × ℕ)). put_at 0 (link_bytes (take c.min-count.result (drop c.args.from ls))) c.args.out.now) (sym (links_listed l.copy l.tally.last last.0 last.1)))
    ∙ page_later l c.args.from c.args.out.now c.if-self-eq0.false
