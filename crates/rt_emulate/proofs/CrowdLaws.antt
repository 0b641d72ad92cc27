-- Who is ended where more waits for all than may.
use Rattle.std.proofs.Common.{◌≡◌, ℕ, List, Bool, true, false, Option, Some, None, IfSome, sym, ◌∙◌}
use Rattle.rt_hub.specs.Hubs.{Hub, IsSlowest, waits_in}
use Rattle.rt_emulate.specs.inside.Crowds.{IsCrowder, is_too_much}

pub crowds : (hub : Option Hub) (on_way : List ℕ) (r : Bool) (n : ℕ) → r ≡ is_too_much (waits_in hub) on_way → r ≡ true
    → IfSome hub (λ (h : Hub). IsSlowest h.lines on_way n) → IfSome hub (λ (h : Hub). IsCrowder h on_way (Some n))
crowds None on_way r n is e slow = tt
crowds (Some h) on_way r n is e slow = (sym is ∙ e, slow)

pub calm : (hub : Option Hub) (on_way : List ℕ) (r : Bool) → r ≡ is_too_much (waits_in hub) on_way → r ≡ false
    → IfSome hub (λ (h : Hub). IsCrowder h on_way None)
calm None on_way r is e = tt
calm (Some h) on_way r is e = sym is ∙ e
