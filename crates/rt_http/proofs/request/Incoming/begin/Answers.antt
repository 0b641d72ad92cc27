use Rattle.std.proofs.Common.{rules, ◌≡◌, ◌≤◌, Err, true, false, length, subst, sym, take}
use Rattle.rt_http.specs.Readings.{IsHead}
use Rattle.rt_http.specs.declared.fault.TheConstants.{MAX_HEAD_BYTES}
use Rattle.rt_http.proofs.Heads.{at_front, head_fits, refused_at}
use Rattle.rt_http.proofs.request.Incoming.begin.Goals as goal

pub returns-then-marks-clause-begun : goal.returns-then-marks-clause-begun
returns-then-marks-clause-begun c =
    let said = c.in-Some.head.request in
    let size = c.in-Some.head.length in
    let head : IsHead c.self.inside.most (take MAX_HEAD_BYTES c.as_slice.result.now) size said = search rules in
    let most : c.args.self.now.most ≡ c.self.inside.most = search rules in
    let bytes : c.args.self.now.bytes ≡ c.as_slice.result.now = search rules in
    let ends : said.marks.is_upgrade ≡ true = search rules in
    (said, size, at_front c.self.inside.most c.args.self.now.most c.as_slice.result.now c.args.self.now.bytes size said most bytes head, ends, search rules)

pub behind-requires : goal.behind-requires
behind-requires c =
    let said = c.in-Some.head.request in
    let size = c.in-Some.head.length in
    let head : IsHead c.self.inside.most (take MAX_HEAD_BYTES c.as_slice.result.now) size said = search rules in
    let same : c.as_slice-2.result.now ≡ c.as_slice.result.now = search rules in
    subst (λ b. size ≤ length b) (sym same) (head_fits c.self.inside.most MAX_HEAD_BYTES c.as_slice.result.now size said head)

pub returns-clause-begun : goal.returns-clause-begun
returns-clause-begun c =
    let said = c.in-Some.head.request in
    let size = c.in-Some.head.length in
    let head : IsHead c.self.inside.most (take MAX_HEAD_BYTES c.as_slice.result.now) size said = search rules in
    let most : c.args.self.now.most ≡ c.self.inside.most = search rules in
    let bytes : c.args.self.now.bytes ≡ c.as_slice.result.now = search rules in
    let goes : said.marks.is_upgrade ≡ false = search rules in
    (said, size, at_front c.self.inside.most c.args.self.now.most c.as_slice.result.now c.args.self.now.bytes size said most bytes head, goes, search rules, search rules)

pub returns-in_err-head-clause-refused : goal.returns-in_err-head-clause-refused
returns-in_err-head-clause-refused c =
    let e = c.in_err-head.field-0.0 in
    let most : c.args.self.now.most ≡ c.self.inside.most = search rules in
    let bytes : c.args.self.now.bytes ≡ c.as_slice.result.now = search rules in
    let was : c.read.result ≡ Err e = search rules in
    let out : c.from_residual.result ≡ Err e = search rules in
    refused_at c.args.self.now c.self.inside.most c.as_slice.result.now c.read.result e c.from_residual.result most bytes
    c.read.ensures.refused was out
