use Rattle.listings.proofs.Closures.{widening_extends, widening_grows, widening_keeps_links, widening_settles, widening_without_links}
use Rattle.listings.proofs.laws.widening_is_closure.Goals as goal

pub returns : goal.returns
returns c = record { extends = widening_extends; grows = widening_grows; links = widening_keeps_links; settles = widening_settles; unlinked = widening_without_links }
