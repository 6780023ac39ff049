-- `m3ua::protocol_data::ProtocolData::decode` meets its contract.
use Rattle.bcd.proofs.Results.{few_octets}
use Rattle.m3ua.proofs.Data.{read_short, read_whole}
use Rattle.m3ua.proofs.protocol_data.ProtocolData.decode.Goals as goal

pub returns-then-n-lt-HEAD_SIZE : goal.returns-then-n-lt-HEAD_SIZE
returns-then-n-lt-HEAD_SIZE c = read_short c.args.value.now c.if-n-lt-HEAD_SIZE.true

pub returns : goal.returns
returns c =
    read_whole c.args.value.now c.from_be_bytes.result c.from_be_bytes-2.result c.if-n-lt-HEAD_SIZE.false (few_octets c.in_ok-within.ensures)
    c.from_be_bytes.ensures c.from_be_bytes-2.ensures
