-- `flat::account::read_in` meets its contract: the account is measured, then written.
use mathlib.Core.Path.{refl, sym, ◌∙◌}
use native.Mathlib.Omega.{arith}
use borrow.Author.Rules.{rules}
use Rattle.bcd.proofs.Outcomes.{deliver_too_long}
use Rattle.bcd.proofs.Results.{exit_delivered}
use Rattle.message.proofs.Headers.{four_bytes}
use Rattle.message.proofs.Listing.{named_within}
use Rattle.flat.specs.Account.{account_of}
use Rattle.flat.proofs.AccountDone.{account_unread, account_stopped, account_few, account_counted, account_written, accounts_small}
use Rattle.flat.proofs.account.read_in.Goals as goal

pub returns-in_err-kind : goal.returns-in_err-kind
returns-in_err-kind g c =
    let T = g.A.Kind.MessageKind.kinds in
    let param = g.A.Accounts.told in
    let xs = c.args.input.now in
    exit_delivered c.from_residual.result _ c.from_residual.ensures.1 (account_of T param xs) c.args.out.now (account_unread T param xs _ _ c.in_err-kind.ensures)

pub returns-in_err-count : goal.returns-in_err-count
returns-in_err-count g c =
    let T = g.A.Kind.MessageKind.kinds in
    let param = g.A.Accounts.told in
    let xs = c.args.input.now in
    let e = account_stopped T param xs _ c.in_ok-kind.ensures _ _ c.in_err-count.ensures.tried.0 in
    exit_delivered c.from_residual-in_err-count.result _ c.from_residual-in_err-count.ensures.1 (account_of T param xs) c.args.out.now e

pub returns-then-out-total : goal.returns-then-out-total
returns-then-out-total g c =
    let T = g.A.Kind.MessageKind.kinds in
    let param = g.A.Accounts.told in
    let xs = c.args.input.now in
    let m = c.in_ok-count.ensures in
    let small = accounts_small T param xs c.requires (named_within T xs _ (sym c.in_ok-kind.ensures)) m.tried.0 m.tried.1 in
    let n = account_counted T param xs _ c.in_ok-kind.ensures m small refl in
    deliver_too_long (account_of T param xs) _ c.args.out.now n c.if-out-total.true

pub overflow_cast-count : goal.overflow_cast-count
overflow_cast-count g c =
    let T = g.A.Kind.MessageKind.kinds in
    let xs = c.args.input.now in
    let few = account_few T g.A.Accounts.told xs _ c.in_ok-kind.ensures c.in_ok-count.ensures in
    omega (arith, few, named_within T xs _ (sym c.in_ok-kind.ensures))

pub returns : goal.returns
returns g c =
    let T = g.A.Kind.MessageKind.kinds in
    let param = g.A.Accounts.told in
    let xs = c.args.input.now in
    let m = c.in_ok-count.ensures in
    let within = named_within T xs _ (sym c.in_ok-kind.ensures) in
    let small = accounts_small T param xs c.requires within m.tried.0 m.tried.1 in
    let few = account_few T param xs _ c.in_ok-kind.ensures m in
    let n = c.to_be_bytes.ensures ∙ four_bytes c.in_ok-count.count (omega (arith, few, within)) in
    account_written T param xs _ c.in_ok-kind.ensures m small refl c.in_ok-params.ensures refl (omega (arith, c.if-out-total.false))
    (rw c.pair-class.ensures at c.put.ensures) (rw n at c.put-2.ensures) (search rules)
