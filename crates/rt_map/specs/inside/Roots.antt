-- The entries of what a map stands on.
use Rattle.std.specs.Prelude.{List}
use Rattle.rt_map.specs.declared.root.Root.{Root}
use Rattle.rt_map.specs.declared.root.Root.TheVariants.{Small, Large}

-- those of the chunk, or those of the table
abbrev pub root_entries : {K V : Type 0} → Root K V → List (K × V)
root_entries (Small chunk) = chunk.value
root_entries (Large table) = table.value
