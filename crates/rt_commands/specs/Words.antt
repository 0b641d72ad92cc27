-- The words of the command line: what they ask for, and why they make no command.
use Rattle.std.specs.Prelude.{◌≡◌, ◌⊎◌, ◌&&◌, ◌||◌, ◌==◌, ℕ, List, [], ◌∷◌, Option, Some, None, Result, MatchResult}
use Rattle.std.specs.Prelude.{Bool, false, is_some, if◌then◌else◌, codes, nat_lt, option_map, option_and_then}
use Rattle.std.specs.Option.{option_map_or, unwrap_or}
use Rattle.std.specs.Prelude.{String, string_bytes, map}
use Rattle.std.specs.Global.{Vec}
use Rattle.std.specs.declared.alloc.Global.{Global}
use Rattle.std.specs.Str.{bytes_eq}
use Rattle.std.specs.Str.Parse.{digits_value, without_leading_plus}
use Rattle.std.specs.declared.net.ip_addr.IpAddr.{IpAddr}
use Rattle.serde_json.specs.Read.{read}
use Rattle.clap.specs.declared.error.Error.{Error}
use Rattle.clap.specs.declared.error.kind.ErrorKind.{ErrorKind}
use Rattle.clap.specs.declared.error.kind.ErrorKind.TheVariants.{DisplayHelp, OutOfMemory, ValueValidation}
use Rattle.clap.specs.Kinds.{or_else}
use Rattle.clap.specs.Values.{kind_of}
use Rattle.clap.specs.ValueTests.{is_numeral}
use Rattle.clap.specs.Words.{IsAmong, Kinds, Row, all_of, fault_of, first_of, one_of, subcommand_of}
use Rattle.rt_emulate.specs.Emulating.{Emulation}
use Rattle.rt_emulate.specs.Levels.{level_of}
use Rattle.rt_emulate.specs.Origins.{origin_fault}
use Rattle.rt_emulate.specs.declared.settings.Level.{Level}
use Rattle.rt_emulate.specs.declared.settings.Level.TheVariants.{All, Nothing}
use Rattle.rt_tree.specs.Path.{path_fault, path_keys}
use Rattle.rt_tree.specs.PathTree.{Path, PathTree}
use Rattle.rt_tree.specs.Reading.{text_fault, tree_of_data}
use Rattle.rt_tree.specs.Trees.{null}
use Rattle.rt_commands.specs.Commands.{console_app}
use Rattle.rt_commands.specs.Hosts.{host_of}
use Rattle.rt_commands.specs.declared.words.Asked.{Asked}
use Rattle.rt_commands.specs.declared.words.Serving.{Serving}
use Rattle.rt_commands.specs.declared.words.Work.{Work}
use Rattle.rt_commands.specs.declared.words.Work.TheVariants.{Connect, Emulate, Script, Serve, Watch}

-- ---- what is asked for

-- the number of 16 bits that digits write, 0 where they write none
abbrev pub number_of : Option (List ℕ) → ℕ
number_of None = 0
number_of (Some text) =
    let digits = without_leading_plus text in
    if is_numeral digits && nat_lt (digits_value 10 digits) 65536 then digits_value 10 digits else 0

-- the tree of a text, null where there is no text, none where the text is refused
abbrev pub tree_of : Option (List ℕ) → Option PathTree
tree_of None = Some null
tree_of (Some text) = if is_some (text_fault text) then None else option_map tree_of_data (read text)

-- the path of a text, if there is a text, none where it is refused
abbrev pub denied_of : Option (List ℕ) → Option (Option Path)
denied_of None = Some None
denied_of (Some text) = if is_some (path_fault text) then None else Some (Some (path_keys text))

-- what the entries of `serve` ask for, none where its tree or its path is refused
abbrev pub serving_of : List Row → Option Serving
serving_of rows =
    option_and_then (λ tree. option_map (λ denied. record {
      port = number_of (one_of (codes "PORT") rows);
      count = number_of (one_of (codes "count") rows);
      tree = tree;
      denied = denied;
    }) (denied_of (first_of (codes "deny") rows))) (tree_of (first_of (codes "tree") rows))

-- the path of a text, none where it is refused
abbrev pub path_of : List ℕ → Option Path
path_of text = if is_some (path_fault text) then None else Some (path_keys text)

-- the paths of texts, in order, none where one of them is refused
abbrev pub paths_of : List (List ℕ) → Option (List Path)
paths_of [] = Some []
paths_of (text ∷ texts) =
    option_and_then (λ path. option_map (λ paths. path ∷ paths) (paths_of texts)) (path_of text)

-- the texts of that name, in order
abbrev pub all_texts : List ℕ → List Row → List (List ℕ)
all_texts name rows = unwrap_or (all_of name rows) []

-- an origin, none where no browser can send it
abbrev pub origin_of : List ℕ → Option (List ℕ)
origin_of text = if is_some (origin_fault text) then None else Some text

-- origins, in order, none where one of them is refused
abbrev pub origins_of : List (List ℕ) → Option (List (List ℕ))
origins_of [] = Some []
origins_of (text ∷ texts) =
    option_and_then (λ origin. option_map (λ origins. origin ∷ origins) (origins_of texts)) (origin_of text)

-- a number that is given, 0 where it is not
abbrev pub count_of : ℕ → Option ℕ
count_of n = if n == 0 then None else Some n

-- whether a flag was given, by the text that stands for it
abbrev pub flag_of : Option (List ℕ) → Bool
flag_of text = option_map_or (λ t. bytes_eq t (codes "true")) text false

-- what the entries of `emulate` ask for at an address, none where its tree, one of its paths or one of its
-- origins is refused
abbrev pub emulation_of : IpAddr → List Row → Option Emulation
emulation_of host rows =
    option_and_then (λ tree. option_and_then (λ denied. option_map (λ origins. record {
      host = host;
      port = number_of (one_of (codes "PORT") rows);
      count = count_of (number_of (one_of (codes "count") rows));
      tree = tree;
      seed = first_of (codes "seed") rows;
      file = first_of (codes "file") rows;
      is_synced = flag_of (one_of (codes "sync") rows);
      denied = denied;
      origins = origins;
      public = first_of (codes "public") rows;
      page = first_of (codes "page") rows;
    }) (origins_of (all_texts (codes "origin") rows))) (paths_of (all_texts (codes "deny") rows)))
    (tree_of (first_of (codes "tree") rows))

-- what the entries of `watch` ask for
abbrev pub watching_of : List Row → Work
watching_of rows =
    Watch (number_of (one_of (codes "PORT") rows)) (count_of (number_of (one_of (codes "idle") rows)))
    (flag_of (one_of (codes "once") rows)) (flag_of (one_of (codes "changes") rows))
    (count_of (number_of (one_of (codes "width") rows)))

-- what a subcommand asks for, by its name and its entries, where it is none of the others
abbrev pub watch_of : Option (List ℕ × List Row) → Work
watch_of None = Script
watch_of (Some (name, rows)) = if bytes_eq name (codes "watch") then watching_of rows else Script

-- and where it is neither `serve` nor `emulate`
abbrev pub other_of : Option (List ℕ × List Row) → Work
other_of None = Script
other_of (Some (name, rows)) =
    if bytes_eq name (codes "connect") then Connect (number_of (one_of (codes "PORT") rows))
    else watch_of (Some (name, rows))

-- the level where none is named: all is said, or nothing where it is to be quiet
abbrev pub unnamed_level : Bool → Level
unnamed_level is_quiet = if is_quiet then Nothing else All

-- which lines `emulate` says, none where there is no level of the name that is given
abbrev pub logging_of : List Row → Option Level
logging_of rows =
    option_map_or level_of (first_of (codes "log") rows)
    (Some (unnamed_level (flag_of (one_of (codes "quiet") rows))))

-- what `emulate` asks for, whether it ends with its input, and which lines it says; none where one of its
-- words is refused
abbrev pub served_of : List Row → Option Work
served_of rows =
    option_and_then (λ level. option_and_then (λ host.
    option_map (λ e. Emulate e (flag_of (one_of (codes "until-eof") rows)) level) (emulation_of host rows))
    (host_of (first_of (codes "host") rows))) (logging_of rows)

-- and where it is not `serve`
abbrev pub live_of : Option (List ℕ × List Row) → Option Work
live_of None = Some Script
live_of (Some (name, rows)) =
    if bytes_eq name (codes "emulate") then served_of rows
    else Some (other_of (Some (name, rows)))

-- what the subcommand asks for, by its name and its entries
abbrev pub work_of : Option (List ℕ × List Row) → Option Work
work_of None = Some Script
work_of (Some (name, rows)) =
    if bytes_eq name (codes "serve") then option_map Serve (serving_of rows)
    else live_of (Some (name, rows))

-- what words ask for that are a command to clap
abbrev pub asked : List (List ℕ) → Option Work
asked words = work_of (subcommand_of console_app words)

-- whether a subcommand was given a flag, by the subcommand's name and its entries
abbrev pub flag_in : List ℕ → Option (List ℕ × List Row) → Bool
flag_in flag None = false
flag_in flag (Some (name, rows)) = flag_of (one_of flag rows)

-- whether words ask that more be said
abbrev pub is_verbose : List (List ℕ) → Bool
is_verbose words = flag_in (codes "verbose") (subcommand_of console_app words)

-- whether words ask that what a terminal obeys be printed by its number
abbrev pub is_escaped : List (List ℕ) → Bool
is_escaped words = flag_in (codes "escape") (subcommand_of console_app words)

-- the value, or where there is none an error that says so; or one for want of memory
abbrev pub Gives : {T : Type 0} → Option T → Result T Error → Type 0
Gives value result = MatchResult result (λ x. value ≡ Some x)
    (λ e. (kind_of e ≡ OutOfMemory) ⊎ ((kind_of e ≡ ValueValidation) × (value ≡ None)))

-- the values, or where there are none such an error
abbrev pub GivesAll : {T : Type 0} → Option (List T) → Result (Vec T) Error → Type 0
GivesAll values result = MatchResult result (λ xs. values ≡ Some xs.items)
    (λ e. (kind_of e ≡ OutOfMemory) ⊎ ((kind_of e ≡ ValueValidation) × (values ≡ None)))

-- the text, or where there is none such an error
abbrev pub GivesText : Option (List ℕ) → Result (String Global) Error → Type 0
GivesText value result = MatchResult result (λ x. value ≡ Some (string_bytes x))
    (λ e. (kind_of e ≡ OutOfMemory) ⊎ ((kind_of e ≡ ValueValidation) × (value ≡ None)))

-- the texts, or where there are none such an error
abbrev pub GivesTexts : Option (List (List ℕ)) → Result (Vec (String Global)) Error → Type 0
GivesTexts values result = MatchResult result (λ xs. values ≡ Some (map string_bytes xs.items))
    (λ e. (kind_of e ≡ OutOfMemory) ⊎ ((kind_of e ≡ ValueValidation) × (values ≡ None)))

-- what is asked for has that work, or there is such an error
abbrev pub GivesWork : Option Work → Result Asked Error → Type 0
GivesWork work result = MatchResult result (λ a. work ≡ Some a.work)
    (λ e. (kind_of e ≡ OutOfMemory) ⊎ ((kind_of e ≡ ValueValidation) × (work ≡ None)))

-- ---- why there is no command

-- why words make no command: the kinds that their error may have, none where they make one. They are
-- clap's, and else that a tree, a path or another text is refused
abbrev pub faults_of : List (List ℕ) → Kinds
faults_of words = or_else (fault_of console_app words)
    (if is_some (asked words) then [] else ValueValidation ∷ [])

-- whether help ends well: that of the commands which the first word names, but of `serve` and `connect`
abbrev pub is_lenient : List (List ℕ) → Bool
is_lenient [] = false
is_lenient (word ∷ words) =
    bytes_eq word (codes "script") || bytes_eq word (codes "emulate") || bytes_eq word (codes "watch")

-- the exit status of words that make no command: 0 for help that ends well, and 1 for want of memory
abbrev pub status_of : Bool → ErrorKind → ℕ
status_of is_lenient OutOfMemory = 1
status_of is_lenient DisplayHelp = if is_lenient then 0 else 2
status_of is_lenient _ = 2

-- the exit status of one of the kinds
abbrev pub IsStatusOf : Bool → Kinds → ℕ → Type 0
IsStatusOf is_lenient kinds status =
    (kind : ErrorKind) × IsAmong kind kinds × (status ≡ status_of is_lenient kind)

-- the exit status of words: that of one of their faults, 0 where there is none, and 1 where nothing can be
-- printed or memory is lacking
abbrev pub IsExplained : List (List ℕ) → ℕ → Type 0
IsExplained words status =
    (status ≡ 1) ⊎ ((faults_of words ≡ []) × (status ≡ 0))
    ⊎ IsStatusOf (is_lenient words) (faults_of words) status
