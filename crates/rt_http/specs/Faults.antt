-- Why requests are refused for what they ask, and what is said of it.
use Rattle.std.specs.Prelude.{ℕ, List, codes}
use Rattle.rt_tree.specs.declared.error.TreeError.{TreeError}
use Rattle.rt_tree.specs.declared.error.TreeError.TheVariants as tree
use Rattle.rt_http.specs.declared.fault.Fault.{Fault}
use Rattle.rt_http.specs.declared.fault.Fault.TheVariants as fault
use Rattle.rt_http.specs.declared.head.Unsupported.{Unsupported}
use Rattle.rt_http.specs.declared.head.Unsupported.TheVariants.{Events, Etags, Login, Override}
use Rattle.rt_http.specs.declared.answer.Status.{Status}
use Rattle.rt_http.specs.declared.answer.Status.TheVariants.{BadRequest, Unauthorized, Forbidden, NotFound, MethodNotAllowed, NotImplemented, Unavailable}
use Rattle.rt_http.specs.declared.answer.Status.TheVariants.{ReadOnly}

-- what becomes of a request that is refused so
abbrev pub fault_status : Fault → Status
fault_status fault.NotFound = NotFound
fault_status fault.Method = MethodNotAllowed
fault_status fault.ReadOnly = ReadOnly
fault_status fault.FileTooLarge = NotFound
fault_status (fault.Lacks lack) = NotImplemented
fault_status fault.PathNoText = BadRequest
fault_status (fault.Path error) = BadRequest
fault_status fault.UnknownWord = BadRequest
fault_status fault.BadWord = BadRequest
fault_status fault.NoOrder = BadRequest
fault_status fault.Mixed = BadRequest
fault_status fault.BodyNoText = BadRequest
fault_status (fault.Body error) = BadRequest
fault_status fault.NoObject = BadRequest
fault_status fault.Host = Forbidden
fault_status fault.Page = Forbidden
fault_status fault.Denied = Unauthorized
fault_status fault.Overlap = BadRequest
fault_status fault.TooLarge = BadRequest
fault_status fault.NoAnswer = Unavailable
fault_status fault.NoMemory = Unavailable

-- what is wrong with a path or a tree
abbrev pub tree_words : TreeError → List ℕ
tree_words tree.BadKey = codes "a key must have at least one byte, and no control character and none of . $ # [ ] /"
tree_words tree.KeyTooLong = codes "a key must have at most 768 bytes"
tree_words tree.TooDeep = codes "a path must have at most 32 keys, and no value may stand deeper"
tree_words tree.NotWhole = codes "a number must be whole, from -9007199254740991 to 9007199254740991"
tree_words tree.TextTooLong = codes "a text must have at most 65536 bytes"
tree_words tree.TooManyNodes = codes "a tree that is read must have at most 65536 values"
tree_words tree.NotJson = codes "Invalid data; couldn't parse JSON object, array, or value."
tree_words tree.NoMemory = codes "out of memory"

-- what isn't there
abbrev pub lack_words : Unsupported → List ℕ
lack_words Events = codes "this server streams no events: ask again, or connect a WebSocket"
lack_words Etags = codes "this server has no etags: X-Firebase-ETag and If-Match can't be used"
lack_words Login = codes "this server has no login: leave out Authorization, auth and access_token"
lack_words Override = codes "this server reads no X-HTTP-Method-Override"

-- what is wrong, for whoever asked
abbrev pub words_of : Fault → List ℕ
words_of fault.NotFound = codes "nothing is here: a place of the tree ends with .json"
words_of fault.Method = codes "this method can't be used here"
words_of fault.ReadOnly = codes "what is here can only be read, by GET and HEAD"
words_of fault.FileTooLarge = codes "the file here has more than 67108864 bytes"
words_of (fault.Lacks lack) = lack_words lack
words_of fault.PathNoText = codes "Invalid path: its escapes make no UTF-8"
words_of (fault.Path error) = tree_words error
words_of fault.UnknownWord = codes "this server doesn't know a word of the query"
words_of fault.BadWord = codes "a word of the query has a value that it can't have"
words_of fault.NoOrder = codes "orderBy must be defined when other query parameters are defined"
words_of fault.Mixed = codes "Mixing 'shallow=true' with querying parameters is not supported"
words_of fault.BodyNoText = codes "Invalid data; the body is no UTF-8"
words_of (fault.Body error) = tree_words error
words_of fault.NoObject = codes "Invalid data; couldn't parse JSON object. Are you sending a JSON object with valid key names?"
words_of fault.Host = codes "this server isn't reached by this host name"
words_of fault.Page = codes "a page of this origin may not ask"
words_of fault.Denied = codes "Permission denied"
words_of fault.Overlap = codes "two values of an update overlap, or one would stand too deep"
words_of fault.TooLarge = codes "Data requested exceeds the maximum size that can be accessed with a single request"
words_of fault.NoAnswer = codes "there was no answer"
words_of fault.NoMemory = codes "out of memory"
