-- Lemmas: runs of linked slots, a key's place among the others, and the halves of a cut.
mod Cuts
mod Entries
mod Looks
mod Making
mod Nodes
mod Runs
mod Steps
