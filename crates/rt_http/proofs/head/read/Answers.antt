use Rattle.std.proofs.Common.{rules, ◌≡◌, Some, Ok, Err, take}
use Rattle.httparse.specs.Borrowed.{HoldsSomeRequest}
use Rattle.httparse.specs.Grammar.{HasNoRequest}
use Rattle.httparse.specs.declared.Status.TheVariants.{Complete, Partial}
use Rattle.rt_http.specs.declared.fault.TheConstants.{MAX_HEAD_BYTES}
use Rattle.rt_http.proofs.Heads.{found_err, found_ok, full_head, open_head}
use Rattle.rt_http.proofs.Outcomes.{complete, partial}
use Rattle.rt_http.proofs.head.read.Goals as goal

pub returns-in_err-request-in-Ok-Complete-clause-found :
    goal.returns-in_err-request-in-Ok-Complete-clause-found
returns-in_err-request-in-Ok-Complete-clause-found c =
    let r = c.parse.new.self in
    let p = c.in-Some-Some-Some in
    let size = c.in-Ok-Complete.length in
    let e = c.in_err-request-in-Ok-Complete.field-0.0 in
    let a : r.method ≡ Some p.method = search rules in
    let b : r.path ≡ Some p.target = search rules in
    let v : r.version ≡ Some p.minor = search rules in
    let was : c.of.result ≡ Err e = search rules in
    let out : c.from_residual.result ≡ Err e = search rules in
    let is : c.parse.result ≡ Ok (Complete size) = search rules in
    let holds = complete (HoldsSomeRequest c.window-window.result.now r) c.parse.result size is c.parse.ensures.complete in
    found_err c.args.most (take MAX_HEAD_BYTES c.args.bytes.now) c.window-window.result.now size r
    p.method p.target p.minor c.of.result e c.from_residual.result c.window-window.ensures
    holds a b v c.of.ensures.fault c.of.ensures.refused was out

pub returns-in_ok-request-in-Ok-Complete-clause-found :
    goal.returns-in_ok-request-in-Ok-Complete-clause-found
returns-in_ok-request-in-Ok-Complete-clause-found c =
    let r = c.parse.new.self in
    let p = c.in-Some-Some-Some in
    let size = c.in-Ok-Complete.length in
    let said = c.in_ok-request-in-Ok-Complete.request in
    let a : r.method ≡ Some p.method = search rules in
    let b : r.path ≡ Some p.target = search rules in
    let v : r.version ≡ Some p.minor = search rules in
    let was : c.of.result ≡ Ok said = search rules in
    let is : c.parse.result ≡ Ok (Complete size) = search rules in
    let holds = complete (HoldsSomeRequest c.window-window.result.now r) c.parse.result size is c.parse.ensures.complete in
    found_ok c.args.most (take MAX_HEAD_BYTES c.args.bytes.now) c.window-window.result.now size r
    p.method p.target p.minor c.of.result said c.window-window.ensures
    holds a b v c.of.ensures.ok was

pub returns-then-window-eq-MAX_HEAD_BYTES-clause-refused :
    goal.returns-then-window-eq-MAX_HEAD_BYTES-clause-refused
returns-then-window-eq-MAX_HEAD_BYTES-clause-refused c =
    let is : c.parse.result ≡ Ok Partial = search rules in
    let free = partial (HasNoRequest c.window-window.result.now) c.parse.result is c.parse.ensures.partial in
    full_head c.args.most (take MAX_HEAD_BYTES c.args.bytes.now) c.window-window.result.now c.window-window.ensures
    free c.if-window-eq-MAX_HEAD_BYTES.true

pub returns-else-window-eq-MAX_HEAD_BYTES-clause-more :
    goal.returns-else-window-eq-MAX_HEAD_BYTES-clause-more
returns-else-window-eq-MAX_HEAD_BYTES-clause-more c =
    let is : c.parse.result ≡ Ok Partial = search rules in
    let free = partial (HasNoRequest c.window-window.result.now) c.parse.result is c.parse.ensures.partial in
    open_head MAX_HEAD_BYTES c.args.bytes.now c.window-window.result.now c.window-window.ensures
    free c.if-window-eq-MAX_HEAD_BYTES.false
