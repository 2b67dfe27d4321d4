use Rattle.std.proofs.Common.{arith}
use Rattle.observer.proofs.Followed.{followed_right}
use Rattle.observer.proofs.Turned.{checked_ok, follow_passed}
use Rattle.observer.proofs.entry.follow.Goals as goal

pub overflow_cast-sign : goal.overflow_cast-sign
overflow_cast-sign c =
    let passed = follow_passed _ _ _ _ _ (checked_ok _ c.in_ok-check.ensures) in
    omega (arith, passed.sign)

pub go_on-requires : goal.go_on-requires
go_on-requires c =
    let passed = follow_passed _ _ _ _ _ (checked_ok _ c.in_ok-check.ensures) in
    rw c.new.ensures.0 passed.sized

pub returns-in_err-check-clause-known : goal.returns-in_err-check-clause-known
returns-in_err-check-clause-known c = followed_right

pub returns-clause-known : goal.returns-clause-known
returns-clause-known c = followed_right
