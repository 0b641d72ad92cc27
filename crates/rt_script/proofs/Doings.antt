-- What is done and printed by what a core answers.
use Rattle.std.proofs.Common.{◌≡◌, ◌≢◌, inl, inr, OnOk, OnErr, subst, ℕ, List, Option, Some, None, Result, Ok, Err, ap, sym, ◌∙◌}
use Rattle.rt_query.specs.Select.{Shown}
use Rattle.rt_world.specs.declared.error.CoreError.{CoreError}
use Rattle.rt_world.specs.declared.error.CoreError.TheVariants as core_error
use Rattle.rt_world.specs.declared.step.Step.{Step}
use Rattle.rt_world.specs.World.{World}
use Rattle.rt_world.specs.Answers.{Answer}
use Rattle.rt_sync.specs.Core.{Applies, Views}
use Rattle.rt_lines.specs.declared.error.LineError.{LineError}
use Rattle.rt_lines.specs.declared.error.LineError.TheVariants.{Bad, Refused, NoMemory}
use Rattle.rt_lines.specs.declared.error.Refusal.TheVariants.{Core}
use Rattle.rt_lines.specs.declared.line.Line.{Line}
use Rattle.rt_lines.specs.declared.line.Line.TheVariants as line
use Rattle.rt_lines.specs.Printing.{refusal_text, view_text}
use Rattle.rt_script.specs.Doing.{AskedLacks, LineLacks, answer_text, asked_done, line_done, listener_text, shown_or_refusal, step_text, stepped, without_messages}
use Rattle.rt_script.specs.State.{State, with_world}
use Rattle.rt_script.proofs.Waiting.{lacks_all}

-- what holds on an error
pub on_err : {A E : Type 0} (r : Result A E) {P : Type 0} → P → OnErr r P
on_err (Ok x) h = tt
on_err (Err e) h = h

-- ---- steps

-- a core that answers, and does not lack memory, answers as the world does
told_by : (s : Step) (old new : Option World) (answer : Answer) → Applies old s answer new → answer ≢ Err core_error.NoMemory → answer_text answer ≡ step_text s old
told_by s None new answer (told, failed) had = ap answer_text told
told_by s (Some w) new answer (inl made) had = ap answer_text made.told
told_by s (Some w) new answer (inr lacks) had = absurd (had lacks.told)

-- a step is refused, and its refusal is told
pub refused_by : {A E : Type 0} (r : Result A E) (s : Step) (old new : Option World) (e : CoreError) (P : List ℕ → Type 0) → Applies old s (Err e) new
    → OnOk r (e ≢ core_error.NoMemory) → OnOk r (P (refusal_text (Core e))) → OnOk r (P (step_text s old))
refused_by (Ok x) s old new e P applies had h = subst P (told_by s old new (Err e) applies (λ f. had (cc f))) h
refused_by (Err x) s old new e P applies had h = tt

-- ---- looks

-- what is shown of a listener, unless memory lacks
shows_by : (core : Option World) (number : ℕ) (answer : Result (Option Shown) CoreError) → Views core number answer → answer ≢ Err core_error.NoMemory → shown_or_refusal answer ≡ listener_text number core
shows_by None number answer e had = ap shown_or_refusal e
shows_by (Some w) number answer (inl e) had = ap shown_or_refusal e
shows_by (Some w) number answer (inr (e, has)) had = absurd (had e)

pub views_ok : (core : Option World) (number : ℕ) (shown : Option Shown) → Views core number (Ok shown) → view_text shown ≡ listener_text number core
views_ok core number shown h = shows_by core number (Ok shown) h (λ e. cc)

-- ---- lines

-- the world is all that changes
world_alone : (old new : State) (w : Option World) → new ≡ with_world w old → (new.world ≡ w) × (new ≡ with_world new.world old)
world_alone old new w e =
    let is : new.world ≡ w = ap (λ (s : State). s.world) e in
    (is, e ∙ ap (λ v. with_world v old) (sym is))

-- a line is done, and can't be told
pub line_untold : (l : Line) (old new : State) → new ≡ (line_done l old).state → LineLacks l old new
line_untold (line.Step s) old new e = let is = world_alone old new (stepped s old.world) e in (inl is.0, is.1)
line_untold line.Out old new e = let is = world_alone old new (without_messages old.world) e in (lacks_all old.world new.world is.0, is.1)
line_untold line.Cover old new e = e
line_untold (line.View listener) old new e = e
line_untold (line.Push now random) old new e = e

pub asked_unread : (asked : Result Line LineError) (old new : State) → new ≡ old → AskedLacks asked old new
asked_unread (Err e) old new h = h
asked_unread (Ok l) old new h = inl h

pub asked_untold : (number : ℕ) (asked : Result Line LineError) (old new : State) → new ≡ (asked_done number asked old).state → AskedLacks asked old new
asked_untold number (Ok l) old new h = inr (line_untold l old new h)
asked_untold number (Err Bad) old new h = h
asked_untold number (Err (Refused r)) old new h = h
asked_untold number (Err NoMemory) old new h = h
