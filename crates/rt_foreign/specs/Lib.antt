-- What a reader must believe. In reading order: Status and Refusing (how a call ends), Texts (how a text is given),
-- Sessions (a core that lines drive), Clients (a client with its seats), Reading (what the texts of a call ask
-- for), Items, Wants and Places (what a seat is told), Room and Asking (calls of a seat), Events and Connection (what
-- the connection brings and takes), Looks (the cover, push ids, refusals), Boxes (what a struct that C holds owns).
-- laws/ has what the prover computes.
pub mod Asking
pub mod Boxes
pub mod Clients
pub mod Connection
pub mod Events
pub mod Items
pub mod laws
pub mod Looks
pub mod Places
pub mod Reading
pub mod Refusing
pub mod Room
pub mod Sessions
pub mod Status
pub mod Texts
pub mod Wants
