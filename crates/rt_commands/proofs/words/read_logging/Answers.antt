use Rattle.std.proofs.Common.{rules, ◌≡◌, List, ℕ, Option, None, Some, ap, codes, subst, sym, ◌∙◌}
use Rattle.std.specs.Prelude.{Bool, option_map}
use Rattle.std.specs.Option.{option_map_or}
use Rattle.clap.specs.Words.{Row, found_of, one_of, rows_of}
use Rattle.rt_emulate.specs.Levels.{level_of}
use Rattle.rt_emulate.specs.declared.settings.Level.{Level}
use Rattle.rt_commands.specs.Words.{Gives, flag_of, unnamed_level}
use Rattle.rt_commands.proofs.words.read_logging.Goals as goal

-- the level of a text, if there is one
abbrev level_in : List Row → Option (List ℕ) → Option Level
level_in rows text =
    option_map_or level_of text (Some (unnamed_level (flag_of (one_of (codes "quiet") rows))))

pub returns-in-Some : goal.returns-in-Some
returns-in-Some c =
    let rows = rows_of (found_of c.args.entries.now) in
    let is : c.text.result ≡ Some c.in-Some.word = search rules in
    let same = ap (option_map (λ t. t.now)) (sym is) ∙ c.text.ensures in
    subst (λ t. Gives (level_in rows t) c.read_level.result) same c.read_level.ensures

pub returns-in-None : goal.returns-in-None
returns-in-None c =
    let rows = rows_of (found_of c.args.entries.now) in
    let is : c.text.result ≡ None = search rules in
    let same = ap (option_map (λ t. t.now)) (sym is) ∙ c.text.ensures in
    ap (level_in rows) (sym same) ∙ ap (λ (b : Bool). Some (unnamed_level b)) (sym c.flag.ensures)
    ∙ ap Some (sym c.unnamed_level.ensures)
