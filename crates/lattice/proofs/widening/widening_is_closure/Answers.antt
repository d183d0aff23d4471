use Rattle.lattice.proofs.Closures.{widening_extends, widening_grows, widening_settles, including_widening, widening_members, widening_links, including_links}
use Rattle.lattice.proofs.Meets.{running_widens}
use Rattle.lattice.proofs.widening.widening_is_closure.Goals as goal

pub returns : goal.returns
returns c = record { running = running_widens; extends = widening_extends; grows = widening_grows; settles = widening_settles; codes = including_widening; members = widening_members; links = widening_links; linked = including_links }
