-- `parameter::table::Records::encode_parameters` meets its contract: the length that was answered is the definition's.
use Rattle.bcd.specs.Outcome.{after, each}
use Rattle.bcd.proofs.Outcomes.{deliver_too_long}
use Rattle.bcd.proofs.Results.{exit, few_octets, many_octets}
use Rattle.parameter.specs.Parameter.{encode_param}
use Rattle.parameter.specs.Table.{records}
use Rattle.parameter.proofs.Running.{encoded_list, sum_large, sum_exact, sum-writable, sum_refused}
use Rattle.parameter.proofs.table.Records.encode_parameters.Goals as goal

pub returns-in_err-n : goal.returns-in_err-n
returns-in_err-n c =
    let listed = records c.args.self.values.now c.args.self.rows.now c.args.count in
    rw (encoded_list listed, exit c.from_residual.result _ c.from_residual.ensures.1) (sum_refused (after listed (each encode_param)) _ _ c.args.out.now c.in_err-n.ensures)

pub returns-in_err-within : goal.returns-in_err-within
returns-in_err-within c =
    let (h, a, b) = many_octets tt _ _ c.in_err-within.ensures in
    let listed = records c.args.self.values.now c.args.self.rows.now c.args.count in
    rw (encoded_list listed, exit c.from_residual-in_err-within.result _ c.from_residual-in_err-within.ensures.1, a, b) (sum_large (after listed (each encode_param)) _ c.in_ok-n.ensures c.args.out.now h)

pub returns-then-out-n : goal.returns-then-out-n
returns-then-out-n c =
    let listed = records c.args.self.values.now c.args.self.rows.now c.args.count in
    let e = sum-writable (after listed (each encode_param)) _ c.in_ok-n.ensures (few_octets c.in_ok-within.ensures) in
    rw (encoded_list listed, e) (deliver_too_long (after listed (each encode_param)) _ c.args.out.now (sum_exact (after listed (each encode_param)) _ c.in_ok-n.ensures (few_octets c.in_ok-within.ensures)) c.if-out-n.true)

pub write_run-requires : goal.write_run-requires
write_run-requires c =
    let listed = records c.args.self.values.now c.args.self.rows.now c.args.count in
    record { total_value = sum_exact (after listed (each encode_param)) _ c.in_ok-n.ensures (few_octets c.in_ok-within.ensures); total_in_bounds = c.if-out-n.false }

pub returns : goal.returns
returns c =
    let listed = records c.args.self.values.now c.args.self.rows.now c.args.count in
    let e = sum-writable (after listed (each encode_param)) _ c.in_ok-n.ensures (few_octets c.in_ok-within.ensures) in
    rw (encoded_list listed, e) c.write_run.ensures
