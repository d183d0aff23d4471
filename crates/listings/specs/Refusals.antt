-- How each refusal of a call on a listing is told.
use Rattle.records.specs.Refusals.{Refusal}
use Rattle.listings.specs.declared.fault.TakeFault.{TakeFault}
use Rattle.listings.specs.declared.fault.TakeFault.TheVariants as taking
use Rattle.listings.specs.declared.fault.PageFault.{PageFault}
use Rattle.listings.specs.declared.fault.PageFault.TheVariants as paging
use Rattle.listings.specs.declared.fault.TotalFault.{TotalFault}
use Rattle.listings.specs.declared.fault.TotalFault.TheVariants as totalling

-- A take: 24 where the whole of a record does not lie from its offset on.
abbrev pub take_refusal : TakeFault → Refusal
take_refusal taking.NoSpace = (24, 0)

-- A page: 25 before the first candidate, 26 where it begins past the links, 27 where a link is left and there is no space for one.
abbrev pub page_refusal : PageFault → Refusal
page_refusal paging.NoCandidate = (25, 0)
page_refusal paging.PastLinks = (26, 0)
page_refusal paging.NoSpace = (27, 0)

-- A total: 28 before a take has said "ended".
abbrev pub total_refusal : TotalFault → Refusal
total_refusal totalling.NotEnded = (28, 0)
