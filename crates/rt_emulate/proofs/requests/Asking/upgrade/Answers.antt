use Rattle.std.proofs.Common.{rules, ◌≡◌, ℕ, Result, Ok, Err, IfOk, sym, subst}
use Rattle.rt_http.specs.Handshakes.{IsHandshakeLen}
use Rattle.rt_http.specs.declared.fault.Refusal.{Refusal}
use Rattle.rt_emulate.specs.declared.requests.Asking.{Asking}
use Rattle.rt_emulate.specs.declared.requests.Next.{Next}
use Rattle.rt_emulate.specs.declared.requests.Next.TheVariants.{Again}
use Rattle.rt_emulate.specs.declared.settings.Halt.{Halt}
use Rattle.rt_emulate.specs.inside.Requests.{IsRefused, IsUpgrade, Upgrades}
use Rattle.rt_emulate.proofs.requests.Asking.upgrade.Goals as goal

is_refused : (found : Result ℕ Refusal) (why : Refusal) (r : Result Next Halt) (old new : Asking) → found ≡ Err why
    → IsHandshakeLen old.incoming.bytes found → IfOk r (λ next. (next ≡ Again) × IsRefused why old new)
    → IfOk r (λ next. IsUpgrade old next new)
is_refused found why (Ok next) old new e is refused =
    (found, is, subst (λ f. Upgrades f old next new) (sym e) refused)
is_refused found why (Err halt) old new e is refused = tt

pub returns-in-Err : goal.returns-in-Err
returns-in-Err c =
    let found : c.handshake_len.result ≡ Err c.in-Err.refusal = search rules in
    is_refused c.handshake_len.result c.in-Err.refusal c.refuse.result c.args.self.now c.refuse.new.self found
    (subst (λ bytes. IsHandshakeLen bytes c.handshake_len.result) c.bytes.ensures c.handshake_len.ensures)
    c.refuse.ensures
