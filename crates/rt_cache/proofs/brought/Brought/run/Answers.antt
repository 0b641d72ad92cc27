use Rattle.std.proofs.Common.{rules, ◌≡◌, ◌∙◌, ℕ, zero, suc, ◌<◌, ◌≤◌, arith, List, [], ◌∷◌, length, take, drop, get_or, refl, sym, subst, OnErr}
use Rattle.std.specs.declared.result.Result.{Result}
use Rattle.std.specs.declared.result.Result.TheVariants.{Ok, Err}
use Rattle.rt_cache.specs.Brought.{Brought}
use Rattle.rt_cache.specs.Runs.{IsAllowed, IsKept, AreAllowed, after, after_all}
use Rattle.rt_cache.specs.declared.run.BroughtCall.{BroughtCall}
use Rattle.rt_cache.proofs.brought.Brought.run.Goals as goal

on_err : {A E : Type 0} (r : Result A E) (P : Type 0) → P → OnErr r P
on_err (Ok x) P p = tt
on_err (Err e) P p = p

-- one call more
after_take : (b : Brought) (calls : List BroughtCall) (n : ℕ) (d : BroughtCall) → n < length calls
    → after_all b (take (suc n) calls) ≡ after (after_all b (take n calls)) (get_or calls n d)
after_take b [] n d lt = absurd (omega arith)
after_take b (c ∷ cs) zero d lt = refl
after_take b (c ∷ cs) (suc n) d lt = after_take (after b c) cs n d (omega arith)

-- the next call may be made, and then the others
allowed_at : (b : Brought) (calls : List BroughtCall) (n : ℕ) (d : BroughtCall) → n < length calls → AreAllowed b (drop n calls)
    → IsAllowed (get_or calls n d) × IsKept b (get_or calls n d) × AreAllowed (after b (get_or calls n d)) (drop (suc n) calls)
allowed_at b [] n d lt h = absurd (omega arith)
allowed_at b (c ∷ cs) zero d lt h = h
allowed_at b (c ∷ cs) (suc n) d lt h = allowed_at b cs n d (omega arith) h

pub make-requires-clause-allowed : goal.make-requires-clause-allowed
make-requires-clause-allowed c =
    let at : c.call-item.result ≡ get_or c.args.calls.now c.loop-call.call-index c.call-item.result = search rules in
    let within : c.loop-call.call-index < length c.args.calls.now = search rules in
    subst IsAllowed (sym at) (allowed_at c.loop-call.self c.args.calls.now c.loop-call.call-index c.call-item.result within c.loop-call.invariant.2).0

pub make-requires-clause-kept : goal.make-requires-clause-kept
make-requires-clause-kept c =
    let at : c.call-item.result ≡ get_or c.args.calls.now c.loop-call.call-index c.call-item.result = search rules in
    let within : c.loop-call.call-index < length c.args.calls.now = search rules in
    subst (IsKept c.loop-call.self) (sym at) (allowed_at c.loop-call.self c.args.calls.now c.loop-call.call-index c.call-item.result within c.loop-call.invariant.2).1

-- the call is made, and its answer finds no room
pub returns-in_err-push-clause-err : goal.returns-in_err-push-clause-err
returns-in_err-push-clause-err c =
    let step : c.make.new.self ≡ after c.loop-call.self c.call-item.result = search rules in
    let at : c.call-item.result ≡ get_or c.args.calls.now c.loop-call.call-index c.call-item.result = search rules in
    let within : c.loop-call.call-index < length c.args.calls.now = search rules in
    let made : (n : ℕ) × (n ≤ length c.args.calls.now) × (c.make.new.self ≡ after_all c.args.self.now (take n c.args.calls.now)) = (
      suc c.loop-call.call-index,
      omega (arith, within),
      step ∙ (λ i. after (c.loop-call.invariant.0 i) (at i)) ∙ sym (after_take c.args.self.now c.args.calls.now c.loop-call.call-index c.call-item.result within),
    ) in
    on_err _ _ made
