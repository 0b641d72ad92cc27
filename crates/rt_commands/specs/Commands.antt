-- The commands of the program, as clap sees them.
use Rattle.std.specs.Prelude.{ℕ, List, [], ◌∷◌, Some, true, codes, pos}
use Rattle.clap.specs.Words.{App, Rule, new_app, new_rule, with_rule, with_subcommand}
use Rattle.clap.specs.declared.builder.action.ArgAction.TheVariants.{Append, SetTrue}
use Rattle.clap.specs.declared.builder.value_parser.ValueParser.{ValueParser}
use Rattle.clap.specs.declared.builder.value_parser.ValueParser.TheVariants as parser

-- a program's words begin behind its name, and it needs a subcommand
abbrev pub with_no_name : App → App
with_no_name a = record a {
  top = record a.top { no_binary_name = true; subcommand_required = true };
}

-- the program with no subcommand yet
abbrev pub base_app : App
base_app = with_no_name (new_app (codes "kaltewi"))

-- a whole number from 1 to 65,535
abbrev pub whole : ValueParser
whole = parser.Signed (pos 1) (pos 65535)

-- `PORT`, which has to be there
abbrev pub port_rule : Rule
port_rule = record (new_rule (codes "PORT")) { required = true; parser = Some whole }

-- `--NAME`
abbrev pub flag_rule : List ℕ → Rule
flag_rule name = record (new_rule name) { long = Some name; action = Some SetTrue }

-- `--NAME VALUE`
abbrev pub text_rule : List ℕ → Rule
text_rule name = record (new_rule name) { long = Some name; value_names = 1 }

-- `--NAME VALUE`, several times
abbrev pub texts_rule : List ℕ → Rule
texts_rule name = record (text_rule name) { action = Some Append }

-- `--NAME N`
abbrev pub number_rule : List ℕ → Rule
number_rule name = record (text_rule name) { parser = Some whole }

-- `--count N`, 1 where it is left out
abbrev pub count_rule : Rule
count_rule = record (number_rule (codes "count")) { defaults = codes "1" ∷ [] }

-- `-v`, `--verbose`
abbrev pub verbose_rule : Rule
verbose_rule = record (flag_rule (codes "verbose")) { short = Some 118 }

-- `-q`, `--quiet`
abbrev pub quiet_rule : Rule
quiet_rule = record (flag_rule (codes "quiet")) { short = Some 113 }

-- `--escape`
abbrev pub escape_rule : Rule
escape_rule = flag_rule (codes "escape")

-- `script [--escape] [-v]`
abbrev pub script_app : App
script_app = with_rule (with_rule (new_app (codes "script")) escape_rule) verbose_rule

-- `serve PORT [--count N] [--tree JSON] [--deny PATH] [-v]`
abbrev pub serve_app : App
serve_app = with_rule (with_rule (with_rule (with_rule (with_rule (new_app (codes "serve")) port_rule)
    count_rule) (text_rule (codes "tree"))) (text_rule (codes "deny"))) verbose_rule

-- `emulate PORT [--host ADDRESS] [--tree JSON] [--seed FILE] [--file FILE] [--sync] [--deny PATH]..`
abbrev pub begun_app : App
begun_app = with_rule (with_rule (with_rule (with_rule (with_rule (with_rule (with_rule (new_app (codes "emulate"))
    port_rule) (text_rule (codes "host"))) (text_rule (codes "tree"))) (text_rule (codes "seed")))
    (text_rule (codes "file"))) (flag_rule (codes "sync"))) (texts_rule (codes "deny"))

-- and behind that `[--origin TEXT].. [--public FOLDER] [--page FOLDER] [--count N] [--until-eof] [--log LEVEL] [-q] [-v]`
abbrev pub emulate_app : App
emulate_app = with_rule (with_rule (with_rule (with_rule (with_rule (with_rule (with_rule (with_rule begun_app
    (texts_rule (codes "origin"))) (text_rule (codes "public"))) (text_rule (codes "page")))
    (number_rule (codes "count"))) (flag_rule (codes "until-eof"))) (text_rule (codes "log"))) quiet_rule) verbose_rule

-- `connect PORT [--escape] [-v]`
abbrev pub connect_app : App
connect_app = with_rule (with_rule (with_rule (new_app (codes "connect")) port_rule) escape_rule) verbose_rule

-- `watch PORT [--idle MS] [--once] [--changes] [--width N] [--escape] [-v]`
abbrev pub watch_app : App
watch_app = with_rule (with_rule (with_rule (with_rule (with_rule (with_rule (with_rule (new_app (codes "watch"))
    port_rule) (number_rule (codes "idle"))) (flag_rule (codes "once"))) (flag_rule (codes "changes")))
    (number_rule (codes "width"))) escape_rule) verbose_rule

-- `script`, `serve`, `emulate`, `connect` and `watch`
abbrev pub console_app : App
console_app =
    with_subcommand (with_subcommand (with_subcommand (with_subcommand (with_subcommand base_app script_app.top)
    serve_app.top) emulate_app.top) connect_app.top) watch_app.top
