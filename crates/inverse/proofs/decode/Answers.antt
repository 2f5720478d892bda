-- `inverse::decode` meets its contract, by what the first byte is. Assumes nothing.
use Rattle.std.proofs.Common.{rules}
use Rattle.inverse.specs.Decode.{decode_of}
use Rattle.inverse.proofs.Decoding.{of_row, short}
use Rattle.inverse.proofs.decode.Goals as goal

pub returns-in-empty : goal.returns-in-empty
unfolding decode_of
returns-in-empty c = search rules

pub decode_row-requires : goal.decode_row-requires
decode_row-requires c = (short c.in_ok-row-in-len1-up.ensures.ok_part _ c.row_of.ensures).0

pub returns-in_err-row-in-len1-up : goal.returns-in_err-row-in-len1-up
returns-in_err-row-in-len1-up c =
    of_row c.in_err-row-in-len1-up.ensures.ok_part c.args.bytes.now c.in-len1-up.len_at_least c.row_of.ensures (search rules)

pub returns-in_ok-row-in-len1-up : goal.returns-in_ok-row-in-len1-up
returns-in_ok-row-in-len1-up c =
    of_row c.in_ok-row-in-len1-up.ensures.ok_part c.args.bytes.now c.in-len1-up.len_at_least c.row_of.ensures c.decode_row.ensures
