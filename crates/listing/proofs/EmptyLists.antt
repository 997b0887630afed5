-- A list at address 0 is absent, of whatever kind.
use Rattle.std.proofs.Common.{◌≡◌, refl}
use Rattle.reads.specs.Outcome.{absent, choose, nonzero}
use Rattle.reads.specs.declared.answer.Reason.TheVariants.{NullAddress}
use Rattle.pointers.specs.Tables.{Tables}
use Rattle.records.specs.List.{list_at, decode_list}
use Rattle.records.specs.declared.list.ListKind.{ListKind}
use Rattle.walks.specs.ProtocolNames.{protocol_list_at, decode_protocol_list}

pub no_list : (t : Tables) (k : ListKind) → list_at t k 0 ≡ absent NullAddress
unfolding decode_list nonzero choose
no_list t k = refl

pub no_names : (t : Tables) → protocol_list_at t 0 ≡ absent NullAddress
unfolding decode_protocol_list nonzero choose
no_names t = refl
