-- What runs write and bring.
use Rattle.std.proofs.Common.{◌≡◌, List, [], ◌∷◌, refl, ap, ◌∙◌}
use Rattle.std.specs.List.{All}
use Rattle.std.proofs.lemmas.List.Elements.{All-head, All-tail}
use Rattle.rt_world.specs.declared.step.Step.{Step}
use Rattle.rt_world.specs.World.{World, pending}
use Rattle.rt_world.specs.Refusals.{refusal, is_stale}
use Rattle.rt_world.specs.Answers.{step, answers, world_after}
use Rattle.rt_world.specs.Plain.{IsPlainStep, fold_both, writes_by, brought_by}
use Rattle.rt_world.specs.laws.Holds.{IsSteady}
use Rattle.rt_world.specs.laws.World.{IsWritten, IsBrought}
use Rattle.rt_world.proofs.HoldsLaws.{steady_step}
use Rattle.rt_world.proofs.PlainLaws.{AreUnfiltered, unfiltered_step, brought_step}
use Rattle.rt_world.proofs.WrittenLaws.{written_step}

written_run : (steps : List Step) (w : World) → pending (world_after w steps).requests ≡ fold_both writes_by (pending w.requests) steps (answers w steps)
written_run [] w = refl
written_run (s ∷ steps) w = written_run steps (step w s).0 ∙ ap (λ ws. fold_both writes_by ws steps (answers (step w s).0 steps)) (written_step w s (refusal w s) (is_stale w s))

brought_run : (steps : List Step) (w : World) → IsSteady w → AreUnfiltered w.listeners → All IsPlainStep steps → (world_after w steps).brought ≡ fold_both brought_by w.brought steps (answers w steps)
brought_run [] w h p all = refl
brought_run (s ∷ steps) w h p all =
    let u = All-head IsPlainStep s steps all in
    brought_run steps (step w s).0 (steady_step w s h) (unfiltered_step w s p u) (All-tail IsPlainStep s steps all)
    ∙ ap (λ b. fold_both brought_by b steps (answers (step w s).0 steps)) (brought_step w s h p u)

pub is_written : IsWritten
is_written w steps = written_run steps w

pub is_brought : IsBrought
is_brought w steps h plain all = brought_run steps w h plain all
