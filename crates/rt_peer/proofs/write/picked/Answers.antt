use Rattle.std.proofs.Common.{◌≡◌, ◌∷◌, ◌++◌, suc, add-one, append_assoc, ap, drop, get_or, sym, ◌∙◌}
use Rattle.std.proofs.Math.Seq.{drop-cons}
use Rattle.rt_peer.specs.inside.Met.{entry_at, picked}
use Rattle.rt_peer.proofs.write.picked.Goals as goal

pub loop-number-preserved : goal.loop-number-preserved
loop-number-preserved c =
    let es = c.args.entries.now in
    let ns = c.args.numbers.now in
    let i = c.loop-number.number-index in
    let n = get_or ns i 0 in
    let rest = drop (suc i) ns in
    let old = c.loop-number.own.items in
    let begins : drop i ns ≡ n ∷ rest = drop-cons ns i 0 c.loop-number-test.true in
    let more : c.push_entry.new.own.items ++ picked es rest ≡ picked es ns =
    ap (λ xs. xs ++ picked es rest) c.in_ok-push_entry.ensures
    ∙ append_assoc old (entry_at es n) (picked es rest)
    ∙ ap (λ xs. old ++ picked es xs) (sym begins)
    ∙ c.loop-number.invariant in
    rw add-one more
