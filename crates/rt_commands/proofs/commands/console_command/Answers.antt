use Rattle.std.proofs.Common.{◌≡◌, Result, Ok, Err, ap, ap₂, ◌∙◌}
use Rattle.std.specs.Prelude.{IfOk, IsOkAnd, false}
use Rattle.clap.specs.Words.{App, app_of, with_subcommand}
use Rattle.clap.specs.declared.builder.command.Command.{Command}
use Rattle.clap.specs.declared.builder.command.Command.TheViews.{out-Command as fields_of}
use Rattle.rt_commands.specs.Commands.{connect_app, emulate_app, script_app, serve_app, watch_app}
use Rattle.rt_commands.proofs.commands.console_command.Goals as goal

-- the command with one more subcommand, where that one is known by its app
joined : {E : Type 0} (old made : Command) (app sub : App) (more : Result Command E) → app_of old ≡ app
    → IsOkAnd more (λ s. (fields_of s).has_globals ≡ false
    → app_of made ≡ with_subcommand (app_of old) (app_of s).top)
    → IfOk more (λ s. app_of s ≡ sub) → IfOk more (λ s. (fields_of s).has_globals ≡ false)
    → app_of made ≡ with_subcommand app sub.top
joined old made app sub (Ok s) is adds known local =
    adds local ∙ ap₂ with_subcommand is (ap (λ (a : App). a.top) known)
joined old made app sub (Err e) is adds known local = absurd adds

-- and so where it is what is answered
answered : {E F : Type 0} (old : Command) (made : Result Command F) (app sub : App) (more : Result Command E)
    → app_of old ≡ app
    → IfOk made (λ m. IsOkAnd more (λ s. (fields_of s).has_globals ≡ false
    → app_of m ≡ with_subcommand (app_of old) (app_of s).top))
    → IfOk more (λ s. app_of s ≡ sub) → IfOk more (λ s. (fields_of s).has_globals ≡ false)
    → IfOk made (λ m. app_of m ≡ with_subcommand app sub.top)
answered old (Ok m) app sub more is adds known local = joined old m app sub more is adds known local
answered old (Err e) app sub more is adds known local = tt

pub returns : goal.returns
returns c =
    answered _ _ _ watch_app _
    (joined _ _ _ connect_app _
    (joined _ _ _ emulate_app _
    (joined _ _ _ serve_app _
    (joined _ _ _ script_app _
    c.in_ok-base_command.ensures.app
    c.in_ok-command.ensures c.script_command.ensures.app c.script_command.ensures.local)
    c.in_ok-command-2.ensures c.serve_command.ensures.app c.serve_command.ensures.local)
    c.in_ok-command-3.ensures c.emulate_command.ensures.app c.emulate_command.ensures.local)
    c.in_ok-command-4.ensures c.connect_command.ensures.app c.connect_command.ensures.local)
    c.having-5.ensures c.watch_command.ensures.app c.watch_command.ensures.local
