-- What a line does to a core and to the source of push ids, and what it prints.
use Rattle.std.specs.Prelude.{◌≡◌, ◌⊎◌, ℕ, Bool, true, false, if◌then◌else◌, List, [], ◌∷◌, drop}
use Rattle.std.specs.Prelude.{Option, Some, None, is_some, Result, Ok, Err}
use Rattle.rt_query.specs.Select.{Shown}
use Rattle.rt_push.specs.Digits.{number}
use Rattle.rt_push.specs.PushIds.{Stamp, push_fault, push_id, used}
use Rattle.rt_push.specs.declared.error.PushError.{PushError}
use Rattle.rt_wire.specs.declared.client.ClientMessage.{ClientMessage}
use Rattle.rt_world.specs.declared.error.CoreError.{CoreError}
use Rattle.rt_world.specs.declared.error.CoreError.TheVariants as core_error
use Rattle.rt_world.specs.declared.step.Step.{Step}
use Rattle.rt_world.specs.World.{World, cover}
use Rattle.rt_world.specs.Answers as answers
use Rattle.rt_sync.specs.Core.{LacksMemory, view_in}
use Rattle.rt_lines.specs.declared.error.LineError.{LineError}
use Rattle.rt_lines.specs.declared.error.LineError.TheVariants.{Bad, Refused, NoMemory}
use Rattle.rt_lines.specs.declared.error.Refusal.TheVariants.{Core, Push}
use Rattle.rt_lines.specs.declared.line.Line.{Line}
use Rattle.rt_lines.specs.declared.line.Line.TheVariants as line
use Rattle.rt_lines.specs.Lines.{line_of_bytes}
use Rattle.rt_lines.specs.Printing.{bad_line, cover_text, id_line, messages_text, refusal_text}
use Rattle.rt_lines.specs.Printing.{report_text, view_text}
use Rattle.rt_script.specs.State.{State, with_world}

-- what a core that has failed answers
abbrev pub failed_text : List ℕ
failed_text = refusal_text (Core core_error.Failed)

-- ---- steps: a core is a world, or none once it has lacked memory

-- the world's step is made
abbrev pub stepped : Step → Option World → Option World
stepped s None = None
stepped s (Some w) = Some (answers.step w s).0

-- a report, or why the step is refused
abbrev pub answer_text : answers.Answer → List ℕ
answer_text (Ok report) = report_text report
answer_text (Err e) = refusal_text (Core e)

-- what it answers
abbrev pub step_text : Step → Option World → List ℕ
step_text s None = failed_text
step_text s (Some w) = answer_text (answers.step w s).1

-- ---- looks at the core, which change nothing, but that messages are taken out

-- the listens that are kept
abbrev pub kept_text : Option World → List ℕ
kept_text None = failed_text
kept_text (Some w) = cover_text (cover w)

-- what a listener shows, or why nothing is said of it
abbrev pub shown_or_refusal : Result (Option Shown) CoreError → List ℕ
shown_or_refusal (Ok view) = view_text view
shown_or_refusal (Err e) = refusal_text (Core e)

abbrev pub listener_text : ℕ → Option World → List ℕ
listener_text number None = failed_text
listener_text number (Some w) = shown_or_refusal (view_in w number)

-- the messages that wait to be sent; a core that has failed has none
abbrev pub waiting : Option World → List ClientMessage
waiting None = []
waiting (Some w) = w.outgoing

-- the core without the first n of them
abbrev pub without : ℕ → Option World → Option World
without n None = None
without n (Some w) = Some (record w { outgoing = drop n w.outgoing })

-- the core without any of them
abbrev pub without_messages : Option World → Option World
without_messages None = None
without_messages (Some w) = Some (record w { outgoing = [] })

-- ---- push ids: by what the last one was made of

-- the id, or why there is none
abbrev pub id_or_refusal : Option PushError → List ℕ → List ℕ
id_or_refusal None id = id_line id
id_or_refusal (Some e) id = refusal_text (Push e)

-- the next id, by the moment now and a random part
abbrev pub push_text : ℕ → List ℕ → Option Stamp → List ℕ
push_text now random last =
    id_or_refusal (push_fault last now random) (push_id (used last now (number random)))

-- what it is made of; a refusal changes nothing
abbrev pub last_after : ℕ → List ℕ → Option Stamp → Option Stamp
last_after now random last =
    if is_some (push_fault last now random) then last else Some (used last now (number random))

-- ---- lines

-- the state after a line, and what the line prints
pub record Done : Type 0 where
  pub state : State
  pub printed : List ℕ

-- nothing changes
abbrev pub only_prints : List ℕ → State → Done
only_prints text s = record { state = s; printed = text }

-- what a line does that asks for a step, a look or a push id
abbrev pub line_done : Line → State → Done
line_done (line.Step step) s =
    record { state = with_world (stepped step s.world) s; printed = step_text step s.world }
line_done line.Out s =
    record { state = with_world (without_messages s.world) s; printed = messages_text (waiting s.world) }
line_done line.Cover s = only_prints (kept_text s.world) s
line_done (line.View listener) s = only_prints (listener_text listener s.world) s
line_done (line.Push now random) s = record {
  state = record s { last_id = last_after now random s.last_id };
  printed = push_text now random s.last_id;
}

-- what the line of that number does, by what it asks for: one of no form, and one of a refused word,
-- change nothing. Where memory lacks it lacks for reading the line
abbrev pub asked_done : ℕ → Result Line LineError → State → Done
asked_done number (Ok l) s = line_done l s
asked_done number (Err Bad) s = only_prints (bad_line number) s
asked_done number (Err (Refused r)) s = only_prints (refusal_text r) s
asked_done number (Err NoMemory) s = only_prints [] s

-- what the line of that number does, by its bytes: an empty one is passed over
abbrev pub bytes_done : ℕ → List ℕ → State → Done
bytes_done number [] s = only_prints [] s
bytes_done number (b ∷ bytes) s = asked_done number (line_of_bytes (b ∷ bytes)) s

-- what is asked for has one of the forms, though a word of it may be refused
abbrev pub has_form : Result Line LineError → Bool
has_form (Ok l) = true
has_form (Err Bad) = false
has_form (Err (Refused r)) = true
has_form (Err NoMemory) = true

-- a line is good that is empty, or has one of the forms
abbrev pub is_good : List ℕ → Bool
is_good [] = true
is_good (b ∷ bytes) = has_form (line_of_bytes (b ∷ bytes))

-- ---- what is left once memory has lacked for a line, of which nothing is printed then

-- the step, which was due, is not made, and the core has failed
abbrev pub FailsAt : Step → Option World → Option World → Type 0
FailsAt s None new = ⊥
FailsAt s (Some w) new = LacksMemory w s (Err core_error.NoMemory) new

-- the step is made and can't be told, or is not made
abbrev pub StepLacks : Step → Option World → Option World → Type 0
StepLacks s old new = (new ≡ stepped s old) ⊎ FailsAt s old new

-- some messages are lost
abbrev pub OutLacks : Option World → Option World → Type 0
OutLacks old new = (n : ℕ) × (new ≡ without n old)

-- a look changes nothing; a push id is made and can't be told
abbrev pub LineLacks : Line → State → State → Type 0
LineLacks (line.Step step) old new =
    StepLacks step old.world new.world × (new ≡ with_world new.world old)
LineLacks line.Out old new = OutLacks old.world new.world × (new ≡ with_world new.world old)
LineLacks line.Cover old new = new ≡ old
LineLacks (line.View listener) old new = new ≡ old
LineLacks (line.Push now random) old new = new ≡ (line_done (line.Push now random) old).state

-- what is asked for can't be read, or not be done, or not be told
abbrev pub AskedLacks : Result Line LineError → State → State → Type 0
AskedLacks (Err e) old new = new ≡ old
AskedLacks (Ok l) old new = (new ≡ old) ⊎ LineLacks l old new
