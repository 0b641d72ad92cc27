-- The layer, the number and the name of each refusal, and what a draft's refusal is for its line.
use Rattle.std.specs.Prelude.{ℕ, List, codes}
use Rattle.rt_tree.specs.Errors as tree
use Rattle.rt_query.specs.Errors as query
use Rattle.rt_query.specs.declared.error.QueryError.{QueryError}
use Rattle.rt_query.specs.declared.error.QueryError.TheVariants as query_error
use Rattle.rt_push.specs.Errors as push
use Rattle.rt_wire.specs.Errors as wire
use Rattle.rt_world.specs.Codes as core
use Rattle.rt_lines.specs.declared.error.LineError.{LineError}
use Rattle.rt_lines.specs.declared.error.LineError.TheVariants.{Bad, NoMemory, Refused}
use Rattle.rt_lines.specs.declared.error.Refusal.{Refusal}
use Rattle.rt_lines.specs.declared.error.Refusal.TheVariants.{Tree, Query, Wire, Core, Push}

-- the layer
abbrev pub layer_of : Refusal → List ℕ
layer_of (Tree e) = codes "tree"
layer_of (Query e) = codes "query"
layer_of (Wire e) = codes "wire"
layer_of (Core e) = codes "core"
layer_of (Push e) = codes "push"

-- the number, within its layer
abbrev pub code_of : Refusal → ℕ
code_of (Tree e) = tree.code_of e
code_of (Query e) = query.code_of e
code_of (Wire e) = wire.code_of e
code_of (Core e) = core.code_of e
code_of (Push e) = push.code_of e

-- the name, within its layer
abbrev pub name_of : Refusal → List ℕ
name_of (Tree e) = tree.name_of e
name_of (Query e) = query.name_of e
name_of (Wire e) = wire.name_of e
name_of (Core e) = core.name_of e
name_of (Push e) = push.name_of e

-- the number of what is wrong with a line
abbrev pub line_code : LineError → ℕ
line_code Bad = 1
line_code (Refused refusal) = 2
line_code NoMemory = 3

-- its name
abbrev pub line_name : LineError → List ℕ
line_name Bad = codes "Bad"
line_name (Refused refusal) = codes "Refused"
line_name NoMemory = codes "NoMemory"

-- why a line is not read where a call on its query is refused; want of memory is no refusal
abbrev pub of_query : QueryError → LineError
of_query query_error.NoMemory = NoMemory
of_query e = Refused (Query e)
