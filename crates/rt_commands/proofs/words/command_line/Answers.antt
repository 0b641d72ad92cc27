use Rattle.std.proofs.Common.{◌≡◌, List, ℕ, [], true, codes, map, ap, refl, subst, ◌∙◌}
use Rattle.std.specs.Prelude.{IfOk}
use Rattle.clap.specs.Words.{App, HasKind, app_of, fault_of, is_simple, is_simple_and_free, subcommand_of, subcommand_rows_of}
use Rattle.rt_commands.specs.Commands.{console_app}
use Rattle.rt_commands.specs.Words.{GivesWork, asked, faults_of, flag_in, work_of}
use Rattle.rt_commands.proofs.Asking.{clap_fails, given, given_work, same_kind}
use Rattle.rt_commands.proofs.words.command_line.Goals as goal

is_free : is_simple_and_free console_app ≡ true
is_free = refl

simple : is_simple console_app ≡ true
simple = refl

pub returns-in-Ok-clause-fails : goal.returns-in-Ok-clause-fails
returns-in-Ok-clause-fails g c =
    let app_is : app_of c.in_ok-command.command ≡ console_app = c.in_ok-command.ensures in
    let words : List (List ℕ) = map (g.S.AsStr.text) c.args.words.now in
    let P : App → Type 0 = λ a. fault_of a words ≡ [] in
    let none : fault_of console_app words ≡ [] = subst P app_is (c.in-Ok.ensures.kinds (ap is_simple_and_free app_is ∙ is_free)) in
    let entered : subcommand_rows_of c.in-Ok.matches ≡ subcommand_of console_app words =
    (c.in-Ok.ensures.matches (ap is_simple app_is ∙ simple)).1 ∙ ap (λ (a : App). subcommand_of a words) app_is in
    given (fault_of console_app words) (asked words) c.read_asked.result none
    (subst (λ s. GivesWork (work_of s) c.read_asked.result) entered c.read_asked.ensures.work)

pub returns-in-Ok-clause-work : goal.returns-in-Ok-clause-work
returns-in-Ok-clause-work g c =
    let app_is : app_of c.in_ok-command.command ≡ console_app = c.in_ok-command.ensures in
    let words : List (List ℕ) = map (g.S.AsStr.text) c.args.words.now in
    let entered : subcommand_rows_of c.in-Ok.matches ≡ subcommand_of console_app words =
    (c.in-Ok.ensures.matches (ap is_simple app_is ∙ simple)).1 ∙ ap (λ (a : App). subcommand_of a words) app_is in
    given_work (asked words) c.read_asked.result
    (subst (λ s. GivesWork (work_of s) c.read_asked.result) entered c.read_asked.ensures.work)

pub returns-in-Ok-clause-escaped : goal.returns-in-Ok-clause-escaped
returns-in-Ok-clause-escaped g c =
    let app_is : app_of c.in_ok-command.command ≡ console_app = c.in_ok-command.ensures in
    let words : List (List ℕ) = map (g.S.AsStr.text) c.args.words.now in
    let entered : subcommand_rows_of c.in-Ok.matches ≡ subcommand_of console_app words =
    (c.in-Ok.ensures.matches (ap is_simple app_is ∙ simple)).1 ∙ ap (λ (a : App). subcommand_of a words) app_is in
    subst (λ s. IfOk c.read_asked.result (λ a. a.is_escaped ≡ flag_in (codes "escape") s)) entered c.read_asked.ensures.escaped

pub returns-in-Ok-clause-verbose : goal.returns-in-Ok-clause-verbose
returns-in-Ok-clause-verbose g c =
    let app_is : app_of c.in_ok-command.command ≡ console_app = c.in_ok-command.ensures in
    let words : List (List ℕ) = map (g.S.AsStr.text) c.args.words.now in
    let entered : subcommand_rows_of c.in-Ok.matches ≡ subcommand_of console_app words =
    (c.in-Ok.ensures.matches (ap is_simple app_is ∙ simple)).1 ∙ ap (λ (a : App). subcommand_of a words) app_is in
    subst (λ s. IfOk c.read_asked.result (λ a. a.verbose ≡ flag_in (codes "verbose") s)) entered c.read_asked.ensures.verbose

pub returns-in_ok-explained-in-Err-clause-fails : goal.returns-in_ok-explained-in-Err-clause-fails
returns-in_ok-explained-in-Err-clause-fails g c =
    let app_is : app_of c.in_ok-command.command ≡ console_app = c.in_ok-command.ensures in
    let words : List (List ℕ) = map (g.S.AsStr.text) c.args.words.now in
    let P : App → Type 0 = λ a. HasKind (fault_of a words) c.in-Err.error in
    let has : HasKind (fault_of console_app words) c.in-Err.error =
    subst P app_is (c.in-Err.ensures.kinds (ap is_simple_and_free app_is ∙ is_free)) in
    same_kind (faults_of words) c.in-Err.error c.in_ok-explained-in-Err.field-0 c.in_ok-explained-in-Err.ensures
    (clap_fails (fault_of console_app words) _ c.in-Err.error has)
