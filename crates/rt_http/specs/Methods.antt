-- The methods, by their words.
use Rattle.std.specs.Prelude.{ℕ, List, codes, if◌then◌else◌}
use Rattle.std.specs.Str.{bytes_eq}
use Rattle.rt_http.specs.declared.head.Method.{Method}
use Rattle.rt_http.specs.declared.head.Method.TheVariants.{Get, Head, Put, Patch, Post, Delete, Options, Other}

-- the method of a word
abbrev pub method_of : List ℕ → Method
method_of word =
    if bytes_eq word (codes "GET") then Get
    else (if bytes_eq word (codes "HEAD") then Head
    else (if bytes_eq word (codes "PUT") then Put
    else (if bytes_eq word (codes "PATCH") then Patch
    else (if bytes_eq word (codes "POST") then Post
    else (if bytes_eq word (codes "DELETE") then Delete
    else (if bytes_eq word (codes "OPTIONS") then Options
    else Other))))))
