-- Lines that the prover computes: what they ask for, what they are refused as, and what is printed.
use Rattle.std.specs.Prelude.{◌≡◌, ℕ, pos, true, List, [], ◌∷◌, ◌++◌, codes, Some, None, Result, Ok, Err}
use Rattle.std.specs.Option.{option_map_or}
use Rattle.serde_json.specs.Read.{read}
use Rattle.rt_tree.specs.Leaf.{number, truth}
use Rattle.rt_tree.specs.Path.{path_keys}
use Rattle.rt_tree.specs.PathTree.{Path, null, of_leaf}
use Rattle.rt_tree.specs.declared.error.TreeError.TheVariants as tree
use Rattle.rt_order.specs.declared.index.Index.TheVariants as index
use Rattle.rt_query.specs.declared.error.QueryError.{QueryError}
use Rattle.rt_query.specs.declared.error.QueryError.TheVariants as query
use Rattle.rt_query.specs.declared.query.Limit.TheVariants.{First}
use Rattle.rt_query.specs.Queries.{Query, plain}
use Rattle.rt_cover.specs.declared.listen.Kept.{Kept}
use Rattle.rt_view.specs.declared.change.Change.TheVariants.{Added, Removed}
use Rattle.rt_wire.specs.declared.error.WireError.TheVariants as wire
use Rattle.rt_wire.specs.declared.request.Action.TheVariants.{Put, Merge}
use Rattle.rt_wire.specs.declared.request.Ending.TheVariants.{Run, Cancel}
use Rattle.rt_world.specs.declared.error.CoreError.TheVariants as core
use Rattle.rt_world.specs.declared.report.Body.TheVariants.{Settled, Cancelled}
use Rattle.rt_world.specs.declared.report.Outcome.TheVariants.{Done, Stale}
use Rattle.rt_world.specs.declared.step.Step.TheVariants as step
use Rattle.rt_lines.specs.declared.error.LineError.{LineError}
use Rattle.rt_lines.specs.declared.error.LineError.TheVariants.{Bad, Refused}
use Rattle.rt_lines.specs.declared.error.Refusal.{Refusal}
use Rattle.rt_lines.specs.declared.error.Refusal.TheVariants.{Tree, Query as OfQuery, Wire, Core}
use Rattle.rt_lines.specs.declared.line.Line.{Line}
use Rattle.rt_lines.specs.declared.line.Line.TheVariants as line
use Rattle.rt_lines.specs.Lines.{line_of_data, makes}
use Rattle.rt_lines.specs.Printing.{body_text, bad_line, change_line, cover_text, kept_line}
use Rattle.rt_lines.specs.Printing.{messages_text, outcome_text, refusal_text, view_text}

-- ---- what lines ask for

-- what a text asks for, whose bytes are UTF-8
abbrev pub line_of_text : List ℕ → Result Line LineError
line_of_text text = option_map_or line_of_data (read text) (Err Bad)

abbrev pub at_a : Path
at_a = path_keys (codes "/a")

abbrev pub LinesAreRead : Type 0
LinesAreRead =
    (line_of_text (codes "[\"connected\"]") ≡ makes step.Connected)
    × (line_of_text (codes " [\"ok\", 0]") ≡ makes (step.Accepted 0))
    × (line_of_text (codes "[\"no\",1,\"denied\"]") ≡ makes (step.Refused 1 (codes "denied")))
    × (line_of_text (codes "[\"set\",1,\"a/\",5]")
    ≡ makes (step.Write 1 (Put at_a (of_leaf (number (pos 5))))))
    × (line_of_text (codes "[\"remove\",1,\"/a\"]") ≡ makes (step.Write 1 (Put at_a null)))
    × (line_of_text (codes "[\"update\",1,{}]") ≡ makes (step.Write 1 (Merge [])))
    × (line_of_text (codes "[\"onDisconnect\",1,\"remove\",\"/a\"]")
    ≡ makes (step.OnDisconnect 1 (Run (Put at_a null))))
    × (line_of_text (codes "[\"onDisconnect\",1,\"cancel\",\"/a\"]")
    ≡ makes (step.OnDisconnect 1 (Cancel at_a)))
    × (line_of_text (codes "[\"server\",\"{\\\"k\\\":\\\"ok\\\",\\\"id\\\":1}\"]")
    ≡ makes (step.Accepted 1))
    × (line_of_text (codes "[\"parts\",[[1,{\"/a\":5}],[1,{}]]]")
    ≡ makes (step.Push ((1, (at_a, of_leaf (number (pos 5))) ∷ []) ∷ (1, []) ∷ [])))
    × (line_of_text (codes "[\"parts\",[]]") ≡ makes (step.Push []))
    × (line_of_text (codes "[\"view\",7]") ≡ Ok (line.View 7))

-- what has none of the forms, whatever else is wrong with its words
abbrev pub FormsComeFirst : Type 0
FormsComeFirst =
    (line_of_text [] ≡ Err Bad) × (line_of_text (codes "[\"connect\"]") ≡ Err Bad)
    × (line_of_text (codes "[\"connected\",1]") ≡ Err Bad)
    × (line_of_text (codes "[\"set\",0,\"/a\",1]") ≡ Err Bad)
    × (line_of_text (codes "[\"parts\",[[1,{\"/a.b\":1}],[1]]]") ≡ Err Bad)
    × (line_of_text (codes "[\"set\",1.0,\"/a\",1]") ≡ Err Bad)
    × (line_of_text (codes "[\"listen\",1,\"/a.b\",[[\"foo\"]]]") ≡ Err Bad)
    × (line_of_text (codes "[\"listen\",1,\"/a.b\",[[\"limitToFirst\",4294967296]]]") ≡ Err Bad)
    × (line_of_text (codes "[\"listen\",1,\"/a.b\",[[\"startAt\",[]]]]") ≡ Err Bad)

abbrev pub refused : Refusal → Result Line LineError
refused r = Err (Refused r)

-- the first word that is refused; members in the order of the bytes of their names, the path of each
-- before its tree
abbrev pub FirstWordIsRefused : Type 0
FirstWordIsRefused =
    (line_of_text (codes "[\"set\",1,\"/a.b\",1.5]") ≡ refused (Tree tree.BadKey))
    × (line_of_text (codes "[\"set\",1,\"/a\",1.5]") ≡ refused (Tree tree.NotWhole))
    × (line_of_text (codes "[\"update\",1,{\"b.c\":1,\"a\":1.5}]") ≡ refused (Tree tree.NotWhole))
    × (line_of_text (codes "[\"merge\",1,{\"b.c\":1.5,\"a\":1}]") ≡ refused (Tree tree.BadKey))
    × (line_of_text (codes "[\"server\",\"{\\\"k\\\":\\\"hello\\\"}\"]")
    ≡ refused (Wire wire.UnknownKind))

-- ---- queries

-- a listen on `/a` with these calls
abbrev pub listen_by : List ℕ → Result Line LineError
listen_by calls = line_of_text (codes "[\"listen\",1,\"/a\",[" ++ (calls ++ codes "]]"))

abbrev pub first_two : Query
first_two = record {
  path = at_a;
  index = index.Key;
  range = record { lower = None; upper = None };
  limit = Some (First 2);
}

abbrev pub CallsAreMade : Type 0
CallsAreMade =
    (listen_by [] ≡ makes (step.Listen 1 (plain at_a)))
    × (listen_by (codes "[\"limitToFirst\",2]") ≡ makes (step.Listen 1 first_two))

-- calls that a draft refuses, and words of a call, which come before the draft
abbrev pub call_refused : List ℕ → QueryError → Type 0
call_refused calls e = listen_by calls ≡ refused (OfQuery e)

abbrev pub CallsAreRefused : Type 0
CallsAreRefused =
    call_refused (codes "[\"orderByKey\"],[\"orderByValue\"]") query.OrderTwice
    × call_refused (codes "[\"orderByValue\"],[\"startAt\",1],[\"startAfter\",2]") query.StartTwice
    × call_refused (codes "[\"orderByValue\"],[\"startAt\",1],[\"equalTo\",1]") query.StartTwice
    × call_refused (codes "[\"orderByValue\"],[\"equalTo\",1],[\"endAt\",2]") query.EndTwice
    × call_refused (codes "[\"limitToFirst\",1],[\"limitToLast\",1]") query.LimitTwice
    × call_refused (codes "[\"limitToFirst\",0]") query.LimitZero
    × call_refused (codes "[\"orderByKey\"],[\"startAt\",5]") query.NeedsText
    × call_refused (codes "[\"orderByKey\"],[\"startAt\",\"a\",\"k\"]") query.KeyNotAllowed
    × call_refused (codes "[\"startAt\",1]") query.NoOrder
    × call_refused (codes "[\"orderByValue\"],[\"startAt\",1,\"a.b\"]") query.BadBoundKey
    × (listen_by (codes "[\"startAt\",1.5]") ≡ refused (Tree tree.NotWhole))
    × (listen_by (codes "[\"orderByKey\"],[\"orderByChild\",\"/a.b\"]") ≡ refused (Tree tree.BadKey))

-- ---- what is printed

abbrev pub kept_two : Kept
kept_two = record { tag = 3; query = first_two; listener = 1 }

abbrev pub TextsArePrinted : Type 0
TextsArePrinted =
    (body_text (Settled 1 None) ≡ codes "R1 ok\n")
    × (body_text (Settled 2 (Some (codes "denied"))) ≡ codes "R2 refused \"denied\"\n")
    × (body_text (Cancelled 1 (codes "denied")) ≡ codes "L1 cancelled \"denied\"\n")
    × (change_line 1 (Added (codes "q") (of_leaf (truth true)) (Some (codes "p")))
    ≡ codes "L1 added \"q\" true after \"p\"\n")
    × (change_line 2 (Removed (codes "q") (of_leaf (truth true))) ≡ codes "L2 removed \"q\" true\n")
    × (outcome_text Done (Some 7) ≡ codes "done 7") × (outcome_text Stale None ≡ codes "stale")
    × (refusal_text (Core core.NotConnected) ≡ codes "refused core 10 NotConnected\n")
    × (kept_line kept_two ≡ codes "T3 /a {\"limit\":[\"first\",2],\"order\":\"key\"} by L1\n")
    × (cover_text [] ≡ codes "T none\n") × (messages_text [] ≡ codes "> none\n")
    × (view_text None ≡ codes "unknown\n") × (bad_line 3 ≡ codes "bad line 3\n")
