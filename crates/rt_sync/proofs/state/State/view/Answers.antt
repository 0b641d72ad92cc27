use Rattle.std.proofs.Common.{Err, inl, inr, refl, ap, ◌∙◌}
use Rattle.rt_sync.proofs.ViewLaws.{view_found, view_lost}
use Rattle.rt_sync.proofs.state.State.view.Goals as goal

pub returns-in-Ok : goal.returns-in-Ok
returns-in-Ok c = inl (view_found _ c.in-Ok.shown (λ e. let none = c.shown.ensures.unknown.1 e in cc) c.in-Ok.ensures.shown)

pub returns-in-Err-NoListener : goal.returns-in-Err-NoListener
returns-in-Err-NoListener c = inl (view_lost _ (c.shown.ensures.unknown.0 (c.in-Err-NoListener.is ∙ ap Err c.in-Err-NoListener.field-0-is)))

pub returns-in-Err-NoMemory : goal.returns-in-Err-NoMemory
returns-in-Err-NoMemory c = inr (refl, λ e. c.shown.ensures.memory (c.in-Err-NoMemory.is ∙ ap Err c.in-Err-NoMemory.field-0-is) e)
