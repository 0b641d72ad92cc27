use Rattle.std.proofs.Common.{refl}
use Rattle.std.specs.Path.{path_extension, path_file_name, rsplit_once, split_last_component, trim_trailing}
use Rattle.rt_files.proofs.name.examples.Goals as goal

pub returns-clause-types : goal.returns-clause-types
unfolding path_extension path_file_name rsplit_once split_last_component trim_trailing
returns-clause-types c = (refl, refl, refl)
