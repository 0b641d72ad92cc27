-- What each kind of step does. In reading order: Kind (what there is to say of one), Listening (Listen,
-- Unlisten), Asking (Write, OnDisconnect), Pushing (Data, DataMerge, Push), Settling (Accepted, Refused),
-- Revoking (Revoked), Connection (Connected, Disconnected), Closing (CloseSeat).
pub mod Asking
pub mod Closing
pub mod Connection
pub mod Kind
pub mod Listening
pub mod Pushing
pub mod Revoking
pub mod Settling
