use Rattle.std.proofs.Common.{rules, ◌≡◌, ◌∙◌, ◌<◌, ◌≤◌, ◌+◌, nat_lt, ℕ, suc, ap, sym, subst, arith, length, get_or, true, refl}
use Rattle.std.specs.declared.cmp.Ordering.TheVariants.{Less, Equal, Greater}
use Rattle.std.specs.Ordering.{is_lt}
use Rattle.rt_tree.specs.PathTree.{Key, Path, key_cmp}
use Rattle.rt_cache.specs.inside.Shared.{do_share}
use Rattle.rt_cache.proofs.Sharing.{share_more, decided, ended}
use Rattle.rt_cache.proofs.regions.meet.Goals as goal
use Rattle.rt_cache.proofs.regions.meet.Goals.{then-loop-shared-test+else-shared-others, else-loop-shared-test}

pub loop-shared-preserved : goal.loop-shared-preserved
loop-shared-preserved c =
    let n : ℕ = c.loop-shared.shared in
    let key : Key = c.index-keys-shared.result in
    let other : Key = c.index-others-shared.result in
    let keys : c.keys-keys.result.now ≡ c.args.path.now = search rules in
    let others : c.keys-others.result.now ≡ c.args.other.now = search rules in
    let within : n < length c.keys-keys.result.now = search rules in
    let within_others : n < length c.keys-others.result.now = search rules in
    let at : get_or c.keys-keys.result.now n key ≡ key = search rules in
    let at_other : get_or c.keys-others.result.now n other ≡ other = search rules in
    let equal : key_cmp key other ≡ Equal = search rules in
    let one_more : suc n ≡ n + 1 = omega arith in
    subst (λ m. do_share m c.args.path.now c.args.other.now ≡ true) one_more
    (share_more n c.args.path.now c.args.other.now key other c.loop-shared.invariant
    (subst (λ (ks : Path). n < length ks) keys within) (subst (λ (ks : Path). n < length ks) others within_others)
    ((λ i. key_cmp (get_or (sym keys i) n key) (get_or (sym others i) n other)) ∙ (λ i. key_cmp (at i) (at_other i)) ∙ equal))

pub returns-in-Less-clause-before : goal.returns-in-Less-clause-before
returns-in-Less-clause-before c =
    let n : ℕ = c.loop-shared.shared in
    let key : Key = c.index-keys-shared.result in
    let other : Key = c.index-others-shared.result in
    let keys : c.keys-keys.result.now ≡ c.args.path.now = search rules in
    let others : c.keys-others.result.now ≡ c.args.other.now = search rules in
    let within : n < length c.keys-keys.result.now = search rules in
    let within_others : n < length c.keys-others.result.now = search rules in
    let at : get_or c.keys-keys.result.now n key ≡ key = search rules in
    let at_other : get_or c.keys-others.result.now n other ≡ other = search rules in
    let less : key_cmp key other ≡ Less = search rules in
    sym (ap is_lt (decided n c.args.path.now c.args.other.now key other Less c.loop-shared.invariant
    (subst (λ (ks : Path). n < length ks) keys within) (subst (λ (ks : Path). n < length ks) others within_others)
    ((λ i. key_cmp (get_or (sym keys i) n key) (get_or (sym others i) n other)) ∙ (λ i. key_cmp (at i) (at_other i)) ∙ less) refl))

pub returns-in-Greater-clause-before : goal.returns-in-Greater-clause-before
returns-in-Greater-clause-before c =
    let n : ℕ = c.loop-shared.shared in
    let key : Key = c.index-keys-shared.result in
    let other : Key = c.index-others-shared.result in
    let keys : c.keys-keys.result.now ≡ c.args.path.now = search rules in
    let others : c.keys-others.result.now ≡ c.args.other.now = search rules in
    let within : n < length c.keys-keys.result.now = search rules in
    let within_others : n < length c.keys-others.result.now = search rules in
    let at : get_or c.keys-keys.result.now n key ≡ key = search rules in
    let at_other : get_or c.keys-others.result.now n other ≡ other = search rules in
    let greater : key_cmp key other ≡ Greater = search rules in
    sym (ap is_lt (decided n c.args.path.now c.args.other.now key other Greater c.loop-shared.invariant
    (subst (λ (ks : Path). n < length ks) keys within) (subst (λ (ks : Path). n < length ks) others within_others)
    ((λ i. key_cmp (get_or (sym keys i) n key) (get_or (sym others i) n other)) ∙ (λ i. key_cmp (at i) (at_other i)) ∙ greater) refl))

pub returns-clause-before : goal.returns-clause-before
returns-clause-before c =
    let n : ℕ = c.loop-shared.shared in
    let keys : c.keys-keys.result.now ≡ c.args.path.now = search rules in
    let others : c.keys-others.result.now ≡ c.args.other.now = search rules in
    let end : n < length c.keys-keys.result.now → n < length c.keys-others.result.now → ⊥ =
    elim c.loop-shared-test.branch [
      | then-loop-shared-test+else-shared-others w ↦ λ l m.
          let le : length c.keys-others.result.now ≤ n = search rules in
          omega (arith, le, m)
      | else-loop-shared-test w ↦ λ l m.
          let le : length c.keys-keys.result.now ≤ n = search rules in
          omega (arith, le, l)
    ] in
    (λ i. nat_lt (length (keys i)) (length (others i)))
    ∙ ended n c.args.path.now c.args.other.now c.loop-shared.invariant
    (λ l m. end (subst (λ (ks : Path). n < length ks) (sym keys) l) (subst (λ (ks : Path). n < length ks) (sym others) m))
