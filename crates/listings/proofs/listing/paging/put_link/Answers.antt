use Rattle.std.proofs.Common.{◌*◌}
use Rattle.records.specs.Fields.{bytes_of}
use Rattle.records.specs.Kinds.{link_fields}
use Rattle.records.proofs.Bytes.{length_bytes_of}
use Rattle.records.proofs.Places.{lent_written}
use Rattle.listings.specs.Pages.{link_bytes}
use Rattle.listings.proofs.listing.paging.put_link.Goals as goal

pub returns : goal.returns
unfolding link_bytes
returns c =
    let fields = link_fields (record { left = c.args.pair.now.left; right = c.args.pair.now.right }) in
    lent_written (8 * c.args.i) 8 c.args.out.now (bytes_of fields) (length_bytes_of fields) c.requires c.put.ensures
