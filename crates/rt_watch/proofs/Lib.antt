mod Counting
mod Faulting
mod Printed
mod Queues
mod Telling
mod Turned
mod Typed
