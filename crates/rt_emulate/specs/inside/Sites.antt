-- The files that are served beside the tree.
use Rattle.std.specs.Prelude.{ℕ, List, [], ◌∷◌, Bool, true, false, ◌&&◌, nat_eq, nat_lt, if◌then◌else◌, codes}
use Rattle.std.specs.Prelude.{Option, Some, None, Result, Ok, Err, String}
use Rattle.std.specs.declared.alloc.Global.{Global}
use Rattle.std.specs.declared.io.ErrorKind.{ErrorKind}
use Rattle.std.specs.declared.io.ErrorKind.TheVariants as kind
use Rattle.std.specs.List.{ends_with}
use Rattle.std.specs.Str.{bytes_eq}
use Rattle.rt_files.specs.Names.{file_of}
use Rattle.rt_http.specs.declared.fault.Fault.{Fault}
use Rattle.rt_http.specs.declared.fault.Fault.TheVariants as fault
use Rattle.rt_http.specs.declared.fault.TheConstants.{MAX_FILE_BYTES}
use Rattle.rt_http.specs.declared.head.Method.{Method}
use Rattle.rt_http.specs.declared.head.Method.TheVariants.{Get, Head, Put, Patch, Post, Delete, Options, Other}
use Rattle.rt_emulate.specs.declared.site.Course.{Course}
use Rattle.rt_emulate.specs.declared.site.Course.TheVariants as course
use Rattle.rt_emulate.specs.declared.site.Folder.{Folder}

-- ---- which requests are for files

-- whether a method reads
abbrev pub does_read : Method → Bool
does_read Get = true
does_read Head = true
does_read Put = false
does_read Patch = false
does_read Post = false
does_read Delete = false
does_read Options = false
does_read Other = false

-- whether the head alone is asked for
abbrev pub is_bare : Method → Bool
is_bare Head = true
is_bare method = false

-- whether what is asked for is no place of the tree
abbrev pub is_absent : Fault → Bool
is_absent fault.NotFound = true
is_absent why = false

-- whether files of some folder are served
abbrev pub has_folders : List Folder → Bool
has_folders [] = false
has_folders (folder ∷ folders) = true

-- what is done with a request that the tree answers so, where files are served or none are
abbrev pub course_of : Bool → Method → Result (String Global) Fault → Course
course_of does_serve method (Ok text) = course.Told
course_of does_serve method (Err why) =
    if does_serve && is_absent why then (if does_read method then course.File else course.ReadOnly) else course.Told

-- ---- which file it is

-- the file that a path names in a folder: in that of the tree's page `/` is this page, and what ends with `.json` is a
-- place of the tree, however it is escaped
abbrev pub sought : Bool → List ℕ → Option (List ℕ)
sought is_page path =
    if is_page && bytes_eq path (codes "/") then Some (codes "examples/tree/index.html")
    else (if ends_with nat_eq path (codes ".json") then None else file_of path)

-- a folder's place without a slash at its end, which that of all files has
abbrev pub without_slash : List ℕ → List ℕ
without_slash place = if bytes_eq place (codes "/") then [] else place

-- of which folders files are served, in order, by whether an application's is given and whether that of the page is:
-- true is the page's
abbrev pub folders_of : Bool → Bool → List Bool
folders_of true true = false ∷ true ∷ []
folders_of true false = false ∷ []
folders_of false true = true ∷ []
folders_of false false = []

-- how many bytes of it are served: of a plain file all, where it has no more than may be
abbrev pub size_of : Bool → ℕ → Result ℕ Fault
size_of is_file size =
    if is_file then (if nat_lt MAX_FILE_BYTES size then Err fault.FileTooLarge else Ok size) else Err fault.NotFound

-- why no file is given, where the system has failed so: for whoever asks it isn't there, or it can't be had for now
abbrev pub refused : ErrorKind → Fault
refused kind.NotFound = fault.NotFound
refused kind.NotADirectory = fault.NotFound
refused kind.IsADirectory = fault.NotFound
refused kind.PermissionDenied = fault.NotFound
refused kind.FilesystemLoop = fault.NotFound
refused kind.InvalidFilename = fault.NotFound
refused kind.InvalidInput = fault.NotFound
refused kind.InvalidData = fault.NotFound
refused kind.OutOfMemory = fault.NoMemory
refused why = fault.NoAnswer
