-- Paths, places and names that the prover computes.
use Rattle.std.specs.Prelude.{◌≡◌, Some, None, true, false, codes}
use Rattle.rt_files.specs.Kinds.{media_type_of}
use Rattle.rt_files.specs.Names.{file_of}
use Rattle.rt_files.specs.Places.{is_below}

-- files, and what is none
abbrev pub FilesNamed : Type 0
FilesNamed =
    (file_of (codes "/") ≡ Some (codes "index.html"))
    × (file_of (codes "/app/") ≡ Some (codes "app/index.html"))
    × (file_of (codes "/app/a.b.js") ≡ Some (codes "app/a.b.js"))
    × (file_of (codes "/app/../../x") ≡ None)
    × (file_of (codes "/..") ≡ None)
    × (file_of (codes "/.git/config") ≡ None)
    × (file_of (codes "//x") ≡ None)
    × (file_of (codes "x") ≡ None)

-- what is below a folder: not the folder, and not one beside it
abbrev pub PlacesBelow : Type 0
PlacesBelow =
    (is_below (codes "/a/b") (codes "/a/b/c") ≡ true)
    × (is_below (codes "/a/b") (codes "/a/bc") ≡ false)
    × (is_below (codes "/a/b") (codes "/a/b") ≡ false)
    × (is_below (codes "/a/b") (codes "/a") ≡ false)

-- the types of some names
abbrev pub TypesKnown : Type 0
TypesKnown =
    (media_type_of (codes "app/a.b.js") ≡ codes "text/javascript; charset=utf-8")
    × (media_type_of (codes "index.html") ≡ codes "text/html; charset=utf-8")
    × (media_type_of (codes "a.html/b") ≡ codes "application/octet-stream")
