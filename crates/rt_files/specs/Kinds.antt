-- Of which media type a file is.
use Rattle.std.specs.Prelude.{ℕ, List, ◌||◌, if◌then◌else◌, codes}
use Rattle.std.specs.Option.{option_map_or}
use Rattle.std.specs.Path.{path_extension}
use Rattle.std.specs.Str.{bytes_eq}

-- the media type of a file whose name has that behind its last dot
abbrev pub media_of : List ℕ → List ℕ
media_of ending =
    if bytes_eq ending (codes "html") then codes "text/html; charset=utf-8"
    else if bytes_eq ending (codes "css") then codes "text/css; charset=utf-8"
    else if bytes_eq ending (codes "js") || bytes_eq ending (codes "mjs") then codes "text/javascript; charset=utf-8"
    else if bytes_eq ending (codes "json") || bytes_eq ending (codes "map") then codes "application/json"
    else if bytes_eq ending (codes "webmanifest") then codes "application/manifest+json"
    else if bytes_eq ending (codes "wasm") then codes "application/wasm"
    else if bytes_eq ending (codes "txt") || bytes_eq ending (codes "md") then codes "text/plain; charset=utf-8"
    else if bytes_eq ending (codes "svg") then codes "image/svg+xml"
    else if bytes_eq ending (codes "png") then codes "image/png"
    else if bytes_eq ending (codes "jpg") || bytes_eq ending (codes "jpeg") then codes "image/jpeg"
    else if bytes_eq ending (codes "gif") then codes "image/gif"
    else if bytes_eq ending (codes "webp") then codes "image/webp"
    else if bytes_eq ending (codes "ico") then codes "image/x-icon"
    else if bytes_eq ending (codes "woff2") then codes "font/woff2"
    else codes "application/octet-stream"

-- the media type of a file of that name
abbrev pub media_type_of : List ℕ → List ℕ
media_type_of name = option_map_or media_of (path_extension name) (codes "application/octet-stream")
